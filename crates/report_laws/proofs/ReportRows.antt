-- The report of a run, as lines.
use Rattle.std.proofs.Common.{◌≡◌, ℕ, List, [], ◌∷◌, ◌++◌, map, refl, sym, ap, ap₂, ◌∙◌, append_assoc}
use Rattle.std.specs.Prelude.{codes, decimal}
use Rattle.std.specs.List.{AllByRecursion, flat_map}
use Rattle.mc_base.specs.Text.{hex_digits}
use Rattle.board_model.specs.declared.scenario.LinkLine.{LinkLine}
use Rattle.board_model.specs.declared.scenario.Scenario.{Scenario}
use Rattle.board_model.specs.declared.totals.ChannelTotals.{ChannelTotals}
use Rattle.board_model.specs.declared.totals.LanePlaces.{LanePlaces}
use Rattle.board_model.specs.declared.totals.Totals.{Totals}
use Rattle.board_model.specs.Board.{DomainJournal}
use Rattle.board_model.specs.Grammar.{spaced}
use Rattle.board_model.specs.Language.{IsLawfulBoard}
use Rattle.board_model.specs.Places.{places_of}
use Rattle.board_model.specs.Report.{Mode, serial, threads, totals_words, channel_text, messages_text, places_text, summary_text, journals_text, lines_of, heading, ending, report_of}
use Rattle.board_model.specs.Scenario.{lanes, rising}
use Rattle.board_model.specs.Totals.{channel_totals, totals}
use Rattle.board_model.proofs.ListsApart.{all-map, all-joined}
use Rattle.board_model.proofs.ListsOne.{all-any}
use Rattle.board_model.proofs.MessageAlls.{all-append}
use Rattle.mc_journal.proofs.Cuts.{cut-found}
use Rattle.ring_numbers.specs.BoardRings.{image_of_queue}
use Rattle.ring_numbers.specs.RingTexts.{ring_text}
use Rattle.report_text.specs.Outlines.{outline_before}
use Rattle.report_text.specs.ScenarioPart.{text_of}
use Rattle.report_text.specs.TextLines.{lines_in}
use Rattle.report_text.specs.TotalPass.{number_texts, rings_due}
use Rattle.report_text.proofs.TextFronts.{Ended, lines-back}
use Rattle.report_text.proofs.UnendedWords.{spaced-none, channel-none, messages-none, places-none, ring-none}
use Rattle.report_laws.specs.RunReports.{report_due}
use Rattle.report_laws.proofs.JournalRows.{NoneFirst, none-first, journal_rows, rows-ended, rows-text}
use Rattle.report_laws.proofs.ScenarioRows.{scenario_rows, scenario-ended, scenario-text}
use Rattle.report_laws.proofs.TextRows.{text-append, text-map}
use Rattle.report_laws.proofs.WholeRows.{line-ended, rows-are}

-- ---- the lines of numbers

ring-ended : (l : LinkLine) (queue : ℕ) (image : List ℕ) → Ended (ring_text l queue image)
ring-ended l queue image = line-ended (codes "ring" ∷ decimal l.driver ∷ decimal l.device ∷ decimal queue ∷ hex_digits image ∷ []) (ring-none l queue image)

rings-ended : (mode : Mode) (s : Scenario) (js : List DomainJournal) → AllByRecursion Ended (rings_due mode s js)
rings-ended serial s js = tt
rings-ended threads s js =
    all-joined Ended (λ l. ring_text l 0 (image_of_queue s js l 0) ∷ ring_text l 1 (image_of_queue s js l 1) ∷ []) s.links
    (all-any (λ l. Ended (ring_text l 0 (image_of_queue s js l 0)) × (Ended (ring_text l 1 (image_of_queue s js l 1)) × Unit {0}))
    (λ l. (ring-ended l 0 (image_of_queue s js l 0), (ring-ended l 1 (image_of_queue s js l 1), tt))) s.links)

channel-ended : (c : ChannelTotals) → Ended (channel_text c)
channel-ended c = line-ended (codes "channel" ∷ decimal c.owner ∷ decimal c.number ∷ totals_words c.totals) (channel-none c)

messages-ended : (t : Totals) → Ended (messages_text t)
messages-ended t = line-ended (codes "messages" ∷ totals_words t) (messages-none t)

places-ended : (p : LanePlaces) → Ended (places_text p)
places-ended p =
    line-ended (codes "lane" ∷ decimal p.from ∷ decimal p.to ∷ codes "free" ∷ decimal p.free ∷ codes "ring" ∷ decimal p.ring ∷ codes "queue" ∷ decimal p.queue ∷ codes "lent" ∷ decimal p.lent ∷ []) (places-none p)

-- no line of a journal is the first of them
numbers-none : (cs : List ChannelTotals) (t : Totals) (more : List (List ℕ)) → NoneFirst (map channel_text cs ++ messages_text t ∷ more)
numbers-none [] t more =
    none-first (messages_text t) more (ap outline_before (cut-found 10 (spaced (codes "messages" ∷ totals_words t)) [] (spaced-none (codes "messages" ∷ totals_words t) (messages-none t))))
numbers-none (c ∷ cs) t more =
    none-first (channel_text c) (map channel_text cs ++ messages_text t ∷ more)
    (ap outline_before (cut-found 10 (spaced (codes "channel" ∷ decimal c.owner ∷ decimal c.number ∷ totals_words c.totals)) [] (spaced-none (codes "channel" ∷ decimal c.owner ∷ decimal c.number ∷ totals_words c.totals) (channel-none c))))

module _ (mode : Mode) (s : Scenario) (js : List DomainJournal) where
  abbrev channels : List ChannelTotals
  channels = channel_totals s js

  abbrev places : List LanePlaces
  places = map (places_of s js) (lanes s)

  abbrev rings : List (List ℕ)
  rings = rings_due mode s js

  abbrev pub number_rows : List (List ℕ)
  number_rows = number_texts s js (rings_due mode s js)

  pub numbers-first : NoneFirst number_rows
  numbers-first = numbers-none channels (totals s js) (map places_text places ++ (rings ++ ending ∷ []))

  numbers-ended : AllByRecursion Ended number_rows
  numbers-ended =
      all-append Ended (map channel_text channels) (messages_text (totals s js) ∷ (map places_text places ++ (rings ++ ending ∷ []))) (all-map Ended channel_text channels (all-any (λ c. Ended (channel_text c)) channel-ended channels)) (
        messages-ended (totals s js),
        all-append Ended (map places_text places) (rings ++ ending ∷ []) (all-map Ended places_text places (all-any (λ p. Ended (places_text p)) places-ended places))
            (all-append Ended rings (ending ∷ []) (rings-ended mode s js) (line-ended (codes "end" ∷ []) (refl, tt), tt)),
      )

  numbers-text : text_of number_rows ≡ summary_text channels (totals s js) ++ (flat_map places_text places ++ (flat_map (λ r. r) rings ++ ending))
  numbers-text =
      let last : text_of (rings ++ ending ∷ []) ≡ flat_map (λ r. r) rings ++ ending = text-append rings (ending ∷ []) in
      let behind : text_of (map places_text places ++ (rings ++ ending ∷ [])) ≡ flat_map places_text places ++ (flat_map (λ r. r) rings ++ ending) =
      text-append (map places_text places) (rings ++ ending ∷ []) ∙ ap₂ (λ (x y : List ℕ). x ++ y) (text-map places_text places) last in
      text-append (map channel_text channels) (messages_text (totals s js) ∷ (map places_text places ++ (rings ++ ending ∷ [])))
      ∙ ap₂ (λ (x y : List ℕ). x ++ (messages_text (totals s js) ++ y)) (text-map channel_text channels) behind
      ∙ sym (append_assoc (flat_map channel_text channels) (messages_text (totals s js)) (flat_map places_text places ++ (flat_map (λ r. r) rings ++ ending)))

  -- ---- the whole report

  abbrev pub report_rows : List (List ℕ)
  report_rows = heading mode ∷ (scenario_rows s ++ (journal_rows js ++ number_rows))

  heading-ended : (m : Mode) → Ended (heading m)
  heading-ended serial = line-ended (codes "mcapi-report 1 serial" ∷ []) (refl, tt)
  heading-ended threads = line-ended (codes "mcapi-report 1 threads" ∷ []) (refl, tt)

  report-ended : IsLawfulBoard s → AllByRecursion Ended report_rows
  report-ended lawful = (heading-ended mode, all-append Ended (scenario_rows s) (journal_rows js ++ number_rows) (scenario-ended s lawful) (all-append Ended (journal_rows js) number_rows (rows-ended js) numbers-ended))

  report-text : map (λ j. j.line) js ≡ rising s → report_due mode s js ≡ text_of report_rows
  unfolding report_of
  report-text each =
      let journals : journals_text (rising s) (map lines_of js) ≡ text_of (journal_rows js) = ap (λ ds. journals_text ds (map lines_of js)) (sym each) ∙ rows-text js in
      let behind : text_of (journal_rows js ++ number_rows) ≡ journals_text (rising s) (map lines_of js) ++ (summary_text channels (totals s js) ++ (flat_map places_text places ++ (flat_map (λ r. r) rings ++ ending))) =
      text-append (journal_rows js) number_rows ∙ ap₂ (λ (x y : List ℕ). x ++ y) (sym journals) numbers-text in
      sym (ap (λ (t : List ℕ). heading mode ++ t) (text-append (scenario_rows s) (journal_rows js ++ number_rows) ∙ ap₂ (λ (x y : List ℕ). x ++ y) (sym (scenario-text s)) behind))

  pub report-lines : IsLawfulBoard s → map (λ j. j.line) js ≡ rising s → lines_in (report_due mode s js) ≡ report_rows
  report-lines lawful each = ap lines_in (report-text each) ∙ lines-back report_rows (rows-are report_rows (report-ended lawful))
