-- The domains of a report in which the first three passes found no wrong line are those of a run of its board.
use Rattle.std.proofs.Common.{◌≡◌, ℕ, ◌+◌, ◌<◌, ◌^◌, List, [], ◌∷◌, length, map, Option, Some, refl, sym, ap, subst, ◌∙◌, arith}
use Rattle.std.specs.Prelude.{find, ◌==◌, IsSome}
use Rattle.std.specs.List.{AllByRecursion}
use Rattle.board_model.specs.declared.scenario.DomainLine.{DomainLine}
use Rattle.board_model.specs.declared.scenario.Scenario.{Scenario}
use Rattle.board_model.specs.Scenario.{script, neighbours, rising}
use Rattle.board_model.specs.LinkedBoard.{IsLinkedBoard}
use Rattle.board_model.specs.Language.{IsLawfulBoard}
use Rattle.board_model.specs.Journal.{joined}
use Rattle.board_model.specs.Unjoined.{peers_of, unjoined}
use Rattle.board_model.specs.State.{DomainState, peer_of, queued_from, lent_from}
use Rattle.board_model.specs.Step.{RunState}
use Rattle.board_model.specs.Run.{start, left_by}
use Rattle.board_model.specs.Board.{DomainJournal, IsBoardRun}
use Rattle.board_model.specs.SerialRun.{Station, journal_left}
use Rattle.board_model.specs.Unnamed.{unnamed}
use Rattle.board_model.proofs.KeptNumbers.{lost}
use Rattle.board_model.proofs.LawfulBoards.{lawful_is_linked}
use Rattle.board_model.proofs.ListsApart.{all-unmap, differ-found}
use Rattle.board_model.proofs.PlaceBoards.{rising_differ}
use Rattle.board_numbers.specs.EndedDomains.{EndsAs, EndAs}
use Rattle.board_numbers.specs.Tallied.{RanBoard}
use Rattle.board_numbers.proofs.QueueLemmas.{queued_apart}
use Rattle.report_text.specs.declared.link_pass.JournalLines.{JournalLines}
use Rattle.report_text.specs.CountedLines.{counted_line, lines_counted}
use Rattle.report_text.specs.JournalRead.{JournalText, told_texts, lines_of_texts, journals_at}
use Rattle.report_text.specs.LaneLeft.{IsTold, AreTold}
use Rattle.report_text.specs.LinkPass.{journal_told}
use Rattle.report_text.specs.RightRuns.{with_answers, journal_due, journals_due, HasLines, TellsBoardRun}
use Rattle.report_text.specs.ScenarioPart.{Told}
use Rattle.report_text.specs.StepPass.{left_behind}
use Rattle.report_text.specs.TextLines.{lines_in}
use Rattle.report_text.specs.TotalPass.{number_texts}
use Rattle.report_text.proofs.RightReports.{right_reports, reports-sound}
use Rattle.report_text.proofs.RunsTold.{due-left}
use Rattle.report_text.proofs.TurnsDue.{Sound}
use Rattle.report_totals.specs.declared.ended_journal.EndedJournal.{EndedJournal}
use Rattle.report_totals.specs.EndedJournals.{AreLeftBehind, IsEnded, AreEnded, lines_due_at, ended_by, CountsAsTold}
use Rattle.report_totals.specs.JournalTallies.{EndRun, EndSomeRun}
use Rattle.report_totals.specs.PassedReports.{IsPassed}
use Rattle.report_totals.specs.SmallRuns.{IsSmall}
use Rattle.report_totals.proofs.FewMessages.{lost-few, queued-few, held-few}

-- a domain behind its journal
abbrev pub station_of : Scenario → DomainJournal → Station
station_of s j = record { line = j.line; run = left_by s j.line j.entries; entries = j.entries }

stations-left : (s : Scenario) (js : List DomainJournal) → map journal_left (map (station_of s) js) ≡ js
stations-left s [] = refl
stations-left s (j ∷ js) = ap (λ ks. j ∷ ks) (stations-left s js)

module _ (s : Scenario) (board : IsLinkedBoard s) where
  abbrev due_station : JournalText → Station
  due_station j = station_of s (journal_due s j)

  abbrev IsSound : JournalText → Type 0
  IsSound j = Sound (peers_of s j.line) (left_behind s j).state

  -- ---- one domain

  left-sound : (j : JournalText) → IsSound j → Sound (peers_of s j.line) (due_station j).run.state
  left-sound j sound = subst (λ (r : RunState). Sound (peers_of s j.line) r.state) (sym (due-left s board j)) sound

  abbrev IsFew : JournalText → Type 0
  IsFew j = (lost s (journal_due s j) < 2 ^ 32) × (queued_apart (due_station j).run.state < 2 ^ 32)

  small-one : (j : JournalText) → IsSound j → IsFew j → IsSmall s (due_station j)
  small-one j sound few =
      let drops = few.0 in
      let held : (n : ℕ) → IsSome (peer_of (due_station j).run.state n) → queued_from n (due_station j).run.state + lent_from n (due_station j).run.state < 2 ^ 32 = held-few (peers_of s j.line) (due_station j).run.state (left-sound j sound) in
      record {
        deleted = omega (arith, drops);
        held = record { messages = few.1; queued = λ n known. let h = held n known in omega (arith, h); lent = λ n known. let h = held n known in omega (arith, h) };
      }

  -- its lines are those of the text
  texts-lines : (j : JournalText) (c : JournalLines) → IsTold j c → joined (with_answers (script s j.line.domain) (start s j.line) (unjoined s j.line (lines_of_texts (told_texts (lines_in c.text.now))))) ≡ joined (journal_due s j).entries
  texts-lines j c told = ap (λ (ts : List (List ℕ)). joined (with_answers (script s j.line.domain) (start s j.line) (unjoined s j.line (lines_of_texts ts)))) (sym told.texts)

  lines-are : (j : JournalText) (c : JournalLines) (x : DomainState) (e : EndedJournal) → IsTold j c → IsEnded s c x e → find (λ d. d.domain == j.line.domain) (rising s) ≡ Some j.line → (ended_by e).lines ≡ joined (journal_due s j).entries
  lines-are j c x e told is found =
      ap (λ (t : Scenario). lines_due_at t (find (λ d. d.domain == e.journal.domain) (rising t)) e.journal.text.now) is.scenario
      ∙ ap (λ (k : JournalLines). lines_due_at s (find (λ d. d.domain == k.domain) (rising s)) k.text.now) is.journal
      ∙ ap (λ (n : ℕ). lines_due_at s (find (λ d. d.domain == n) (rising s)) c.text.now) (sym told.domain)
      ∙ ap (λ (o : Option DomainLine). lines_due_at s o c.text.now) found
      ∙ texts-lines j c told

  ends-one : (j : JournalText) (c : JournalLines) (x : DomainState) (e : EndedJournal) → IsTold j c → unnamed x ≡ (left_behind s j).state → IsEnded s c x e → find (λ d. d.domain == j.line.domain) (rising s) ≡ Some j.line → EndsAs (due_station j) (ended_by e)
  ends-one j c x e told left is found = record {
    told = lines-are j c x e told is found;
    state = ap unnamed is.state ∙ left ∙ ap (λ (r : RunState). r.state) (sym (due-left s board j));
    number = ap (λ (k : JournalLines). k.domain) is.journal ∙ sym told.domain;
  }

  counts-one : (j : JournalText) (c : JournalLines) (x : DomainState) (e : EndedJournal) → IsTold j c → IsEnded s c x e → find (λ d. d.domain == j.line.domain) (rising s) ≡ Some j.line → HasLines s j → CountsAsTold e
  counts-one j c x e told is found lines =
      ap (map counted_line) (lines-are j c x e told is found)
      ∙ lines.counted
      ∙ ap (λ (ts : List (List ℕ)). map counted_line (lines_of_texts ts)) told.texts
      ∙ ap (λ (k : JournalLines). lines_counted k.text.now) (sym is.journal)

  -- ---- all domains

  abbrev IsFound : JournalText → Type 0
  IsFound j = find (λ d. d.domain == j.line.domain) (rising s) ≡ Some j.line

  smalls : (js : List JournalText) → AllByRecursion IsSound js → AllByRecursion (λ j. lost s j < 2 ^ 32) (map (journal_due s) js) → AllByRecursion (λ j. queued_apart (left_by s j.line j.entries).state < 2 ^ 32) (map (journal_due s) js) → AllByRecursion (IsSmall s) (map (station_of s) (map (journal_due s) js))
  smalls [] sound losts queues = tt
  smalls (j ∷ js) sound losts queues = (small-one j sound.0 (losts.0, queues.0), smalls js sound.1 losts.1 queues.1)

  peers : (js : List JournalText) → AllByRecursion IsSound js → AllByRecursion (λ t. map (λ p. p.number) t.run.state.peers ≡ map (λ n. n.number) (neighbours s t.line)) (map (station_of s) (map (journal_due s) js))
  peers [] sound = tt
  peers (j ∷ js) sound = ((left-sound j sound.0).numbers, peers js sound.1)

  led : (js : List DomainJournal) → AllByRecursion (λ t. t.run ≡ left_by s t.line t.entries) (map (station_of s) js)
  led [] = tt
  led (j ∷ js) = (refl, led js)

  ends : (js : List JournalText) (cs : List JournalLines) (xs : List DomainState) (es : List EndedJournal) → AreTold js cs → AreLeftBehind s js xs → AreEnded s cs xs es → AllByRecursion IsFound js → EndAs (map (station_of s) (map (journal_due s) js)) (map ended_by es)
  ends [] [] [] [] told left is found = tt
  ends [] [] [] (e ∷ es) told left is found = absurd is
  ends [] [] (x ∷ xs) es told left is found = absurd left
  ends [] (c ∷ cs) xs es told left is found = absurd told
  ends (j ∷ js) [] xs es told left is found = absurd told
  ends (j ∷ js) (c ∷ cs) [] es told left is found = absurd left
  ends (j ∷ js) (c ∷ cs) (x ∷ xs) [] told left is found = absurd is
  ends (j ∷ js) (c ∷ cs) (x ∷ xs) (e ∷ es) told left is found = (ends-one j c x e told.0 left.0 is.0 found.0, ends js cs xs es told.1 left.1 is.1 found.1)

  counts : (js : List JournalText) (cs : List JournalLines) (xs : List DomainState) (es : List EndedJournal) → AreTold js cs → AreLeftBehind s js xs → AreEnded s cs xs es → AllByRecursion IsFound js → AllByRecursion (HasLines s) js → AllByRecursion CountsAsTold es
  counts [] [] [] [] told left is found lines = tt
  counts [] [] [] (e ∷ es) told left is found lines = absurd is
  counts [] [] (x ∷ xs) es told left is found lines = absurd left
  counts [] (c ∷ cs) xs es told left is found lines = absurd told
  counts (j ∷ js) [] xs es told left is found lines = absurd told
  counts (j ∷ js) (c ∷ cs) [] es told left is found lines = absurd left
  counts (j ∷ js) (c ∷ cs) (x ∷ xs) [] told left is found lines = absurd is
  counts (j ∷ js) (c ∷ cs) (x ∷ xs) (e ∷ es) told left is found lines = (counts-one j c x e told.0 is.0 found.0 lines.0, counts js cs xs es told.1 left.1 is.1 found.1 lines.1)

  scenarios : (cs : List JournalLines) (xs : List DomainState) (es : List EndedJournal) → AreEnded s cs xs es → AllByRecursion (λ e. e.scenario.now ≡ s) es
  scenarios [] [] [] is = tt
  scenarios [] [] (e ∷ es) is = absurd is
  scenarios [] (x ∷ xs) es is = absurd is
  scenarios (c ∷ cs) [] es is = absurd is
  scenarios (c ∷ cs) (x ∷ xs) [] is = absurd is
  scenarios (c ∷ cs) (x ∷ xs) (e ∷ es) is = (is.0.scenario, scenarios cs xs es is.1)

  lines-map : (js : List JournalText) → map (λ j. j.line) (map (journal_due s) js) ≡ map (λ j. j.line) js
  lines-map [] = refl
  lines-map (j ∷ js) = ap (λ ls. j.line ∷ ls) (lines-map js)

-- as many journals as states
pub same-many : (s : Scenario) (js : List JournalText) (cs : List JournalLines) (xs : List DomainState) → AreTold js cs → AreLeftBehind s js xs → length cs ≡ length xs
same-many s [] [] [] told left = refl
same-many s [] [] (x ∷ xs) told left = absurd left
same-many s [] (c ∷ cs) xs told left = absurd told
same-many s (j ∷ js) [] xs told left = absurd told
same-many s (j ∷ js) (c ∷ cs) [] told left = absurd left
same-many s (j ∷ js) (c ∷ cs) (x ∷ xs) told left = let rest = same-many s js cs xs told.1 left.1 in omega (arith, rest)

-- ---- a report

module _ (t : Told) (passed : IsPassed t) where
  abbrev texts : List JournalText
  texts = journals_at (rising t.scenario) t.behind

  abbrev pub stations : List Station
  stations = map (station_of t.scenario) (journals_due t)

  tells : TellsBoardRun t
  tells = right_reports passed.report t passed.short passed.told passed.passes

  pub lawful : IsLawfulBoard t.scenario
  lawful = tells.lawful

  board : IsLinkedBoard t.scenario
  board = lawful_is_linked t.scenario lawful

  sounds : AllByRecursion (IsSound t.scenario board) texts
  sounds = reports-sound passed.report t passed.short passed.told passed.passes

  found : AllByRecursion (IsFound t.scenario board) texts
  found =
      let each = differ-found (λ (d : DomainLine). d.domain) (rising t.scenario) (rising_differ t.scenario board) in
      let same : map (λ (j : JournalText). j.line) texts ≡ rising t.scenario = sym (lines-map t.scenario board texts) ∙ tells.run.each_domain in
      all-unmap (λ (d : DomainLine). find (λ e. e.domain == d.domain) (rising t.scenario) ≡ Some d) (λ (j : JournalText). j.line) texts (subst (AllByRecursion (λ (d : DomainLine). find (λ e. e.domain == d.domain) (rising t.scenario) ≡ Some d)) (sym same) each)

  ran : RanBoard t.scenario stations
  ran = record {
    run = subst (IsBoardRun t.scenario) (sym (stations-left t.scenario (journals_due t))) tells.run;
    led = led t.scenario board (journals_due t);
    peers = peers t.scenario board texts sounds;
  }

  -- the lines of numbers that are due are those of its journals, whatever the lines of rings
  pub numbers-due : (rings : List (List ℕ)) → number_texts t.scenario (map journal_left stations) rings ≡ number_texts t.scenario (map (journal_told t.scenario) texts) rings
  numbers-due rings = ap (λ (js : List DomainJournal). number_texts t.scenario js rings) (stations-left t.scenario (journals_due t)) ∙ tells.numbers rings

  module _ (cs : List JournalLines) (xs : List DomainState) (es : List EndedJournal) (told : AreTold texts cs) (left : AreLeftBehind t.scenario texts xs) (is : AreEnded t.scenario cs xs es) where
    pub end-run : EndRun t.scenario stations es
    end-run = record {
      ran = ran;
      ended = ends t.scenario board texts cs xs es told left is found;
      small = smalls t.scenario board texts sounds (lost-few t.scenario (journals_due t) board tells.run) (queued-few t.scenario (journals_due t) board tells.run);
      scenario = scenarios t.scenario board cs xs es is;
    }

    pub end-some : EndSomeRun t.scenario es
    end-some = record { stations = stations; run = end-run }

    pub counts-told : AllByRecursion CountsAsTold es
    counts-told = counts t.scenario board texts cs xs es told left is found tells.written
