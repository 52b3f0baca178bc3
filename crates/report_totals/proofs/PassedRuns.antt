-- In a report in which the first three passes found no wrong line each frame finds a free buffer of its lane, by the lines of the journals.
use Rattle.std.proofs.Common.{◌≡◌, ℕ, ◌-◌, ◌<◌, ◌≤◌, Bool, true, false, cond, List, [], ◌∷◌, ◌++◌, length, map, Option, Some, None, option_map, refl, sym, ap, ap₂, subst, ◌∙◌, arith, append_assoc}
use Rattle.std.specs.Prelude.{find, ◌==◌}
use Rattle.std.specs.List.{AllByRecursion, flat_map}
use Rattle.std.proofs.lemmas.Bool.{ne_eqb}
use Rattle.std.proofs.lemmas.List.FromFn.{length-range_with_len}
use Rattle.board_model.specs.declared.scenario.DomainLine.{DomainLine}
use Rattle.board_model.specs.declared.scenario.LinkLine.{LinkLine}
use Rattle.board_model.specs.declared.scenario.Scenario.{Scenario}
use Rattle.board_model.specs.Scenario.{script, rising}
use Rattle.board_model.specs.Language.{IsLawfulBoard}
use Rattle.board_model.specs.LinkedBoard.{IsLinkedBoard}
use Rattle.board_model.specs.Run.{start, left_by, IsDomainRun}
use Rattle.board_model.specs.State.{free_to}
use Rattle.board_model.specs.Board.{DomainJournal, journal_in, journal_of, given_by}
use Rattle.board_model.proofs.LawfulBoards.{lawful_is_linked}
use Rattle.board_model.proofs.ListsApart.{all-unmap, differ-found}
use Rattle.board_model.proofs.MessageAlls.{all-found, all-weaken, none-found}
use Rattle.board_model.proofs.PlaceBoards.{rising_differ}
use Rattle.ring_numbers.specs.SenderNumbers.{Numbers, at_start, after_all}
use Rattle.ring_numbers.specs.BoardRings.{places_by, places_of, sent_to, ring_left, image_of_queue}
use Rattle.ring_numbers.specs.RingTexts.{ring_text}
use Rattle.ring_numbers.specs.RingLists.{image_left}
use Rattle.report_text.specs.declared.verdict.CheckReason.TheVariants as of
use Rattle.report_text.specs.declared.verdict.Verdict.{Verdict}
use Rattle.report_text.specs.declared.link_pass.JournalLines.{JournalLines}
use Rattle.report_text.specs.JournalRead.{JournalText}
use Rattle.report_text.specs.LaneLeft.{AreTold}
use Rattle.report_text.specs.LaneLines.{lane_lines}
use Rattle.report_text.specs.LinkPass.{back_before, gives_back, journal_told, lanes_in, link_place, wrong_link, wrong_among}
use Rattle.report_text.specs.RightRuns.{PassesThree, TellsBoardRun, journal_due}
use Rattle.report_text.specs.ScenarioPart.{Told}
use Rattle.report_text.specs.StepPass.{wrong_step, unfinished}
use Rattle.report_text.specs.Verdicts.{wrong_or, by_steps, by_told}
use Rattle.report_text.proofs.BoardsTold.{found-mapped, sent-answers}
use Rattle.report_text.proofs.LinksTold.{Linked, link-lines}
use Rattle.report_text.proofs.NothingWrong.{none-either, none-moved}
use Rattle.report_text.proofs.ReportsTold.{journals-right}
use Rattle.report_text.proofs.RightReports.{right_reports}
use Rattle.report_text.proofs.RunsTold.{IsRight, rising-lawful}
use Rattle.report_totals.specs.PassedReports.{IsPassed}
use Rattle.report_text.specs.RingPass.{given_to}
use Rattle.report_totals.specs.ReadJournals.{IsSized, image_told, ring_told}
use Rattle.report_totals.specs.ToldRings.{texts_of}
use Rattle.report_totals.specs.SenderLanes.{FindTheirs, AllFindTheirs, numbers_told, sent_on, size_to}
use Rattle.report_totals.proofs.BuffersFound.{HaveRoom, busy-room, room-finds, run-room}
use Rattle.report_totals.proofs.LaneSizes.{start-free}
use Rattle.report_totals.proofs.LaneSteps.{backs-lines}
use Rattle.report_totals.proofs.PlacesTold.{places-many}
use Rattle.report_totals.proofs.SendingsTold.{after-told, sendings-told}

-- ---- by the verdict, the third pass found nothing

links-none : (s : Scenario) (js : List JournalText) (o : Option ℕ) (v : Verdict) → PassesThree (by_steps s js (wrong_or of.Link o v)) → o ≡ None
links-none s [] None v h = refl
links-none s [] (Some line) v h = absurd h
links-none s (j ∷ js) o v h = go (wrong_step s j) (unfinished s j) h (links-none s js o v)
  where
    go : (a b : Option ℕ) → PassesThree (wrong_or of.Step a (wrong_or of.Script b (by_steps s js (wrong_or of.Link o v)))) → (PassesThree (by_steps s js (wrong_or of.Link o v)) → o ≡ None) → o ≡ None
    go None None h rest = rest h
    go None (Some line) h rest = absurd h
    go (Some line) b h rest = absurd h

all-linked : (s : Scenario) (js ts : List JournalText) → wrong_among s js ts ≡ None → AllByRecursion (λ t. wrong_link s js t ≡ None) ts
all-linked s js [] none = tt
all-linked s js (t ∷ ts) none = let both = none-either (wrong_link s js t) (wrong_among s js ts) none in (both.0, all-linked s js ts both.1)

-- ---- journals with right lines, steps and lanes

module _ (s : Scenario) (board : IsLinkedBoard s) (js : List JournalText) where
  abbrev tolds : List DomainJournal
  tolds = map (journal_told s) js

  -- a journal of a whole run of the board
  pub record IsGood (j : JournalText) : Type 0 where
    pub right : IsRight s board j
    pub run : IsDomainRun s j.line (journal_due s j).entries
    pub found : find (λ d. d.domain == j.line.domain) (rising s) ≡ Some j.line
    pub linked : wrong_link s js j ≡ None

  module _ (good : AllByRecursion IsGood js) where
    given-many : (p d : ℕ) → length (places_of s tolds p d) ≡ gives_back s js p d
    given-many p d =
        ap (λ (o : Option DomainJournal). length (places_by s o d)) (found-mapped (journal_told s) (λ j. refl) p js)
        ∙ go (find (λ j. j.line.domain == p) js) refl
        ∙ sym (ap (λ (o : Option DomainJournal). given_by s o d) (found-mapped (journal_told s) (λ j. refl) p js))
      where
        go : (o : Option JournalText) → find (λ j. j.line.domain == p) js ≡ o → length (places_by s (option_map (journal_told s) o) d) ≡ given_by s (option_map (journal_told s) o) d
        go None is = refl
        go (Some j) is = places-many s board j (all-found IsGood (λ k. k.line.domain == p) js j good is).run d

    far-given : (d p : ℕ) → 8 ≤ p → given_to s js d p ≡ []
    far-given d p far =
        ap (λ (o : Option DomainJournal). places_by s o d) (found-mapped (journal_told s) (λ j. refl) p js)
        ∙ ap (λ (o : Option JournalText). places_by s (option_map (journal_told s) o) d) (none-found (λ j. j.line.domain == p) js (all-weaken IsGood (λ j. (j.line.domain == p) ≡ false) (λ j is. ne_eqb j.line.domain p (λ same. let fits = is.right.lawful.domain_fits in omega (arith, fits, same, far))) js good))

    back-few : (j : JournalText) → IsGood j → (p : ℕ) → back_before p (lane_lines j) ≤ gives_back s js p j.line.domain
    back-few j is p =
        let none : link_place s js j.line.domain [] (lane_lines j) ≡ None = none-moved j.number (link_place s js j.line.domain [] (lane_lines j)) is.linked in
        let link : Linked s js j.line.domain p 0 0 (lane_lines j) = link-lines s js j.line.domain p (lane_lines j) [] 0 0 refl refl (omega arith) (omega arith) none in
        let back = link.back in
        omega (arith, back)

    room-told : (j : JournalText) → IsGood j → (p : ℕ) → HaveRoom (size_to s j.line.domain p) (flat_map (sent_on p) (lane_lines j))
    room-told j is p =
        let lines = script s j.line.domain in
        let room = run-room lines p (left_by s j.line (journal_due s j).entries) is.run.settled (start s j.line) (journal_due s j).entries is.run.steps in
        let free : free_to (start s j.line).state p - 0 ≡ size_to s j.line.domain p = omega (arith, start-free s board j.line is.found p) in
        subst (HaveRoom (size_to s j.line.domain p)) (sym (sendings-told s board j is.right p))
        (busy-room (size_to s j.line.domain p) (sent_to p (journal_told s j).entries)
        (subst (HaveRoom (size_to s j.line.domain p)) (sent-answers lines p (start s j.line) (journal_told s j).entries) (subst (λ (n : ℕ). HaveRoom n (sent_to p (journal_due s j).entries)) free room)))

    finds-theirs : (j : JournalText) → IsGood j → FindTheirs s js j.line.domain (lane_lines j)
    finds-theirs j is = record {
      buffers = λ p near.
          let d = j.line.domain in
          room-finds (at_start (size_to s d p) (given_to s js d p)) (size_to s d p) (flat_map (sent_on p) (lane_lines j)) (length-range_with_len 0 (size_to s d p))
          (omega (arith, backs-lines p (lane_lines j), back-few j is p, given-many p d)) (room-told j is p);
      far = far-given j.line.domain;
    }

    pub all-find : (ts : List JournalText) → AllByRecursion IsGood ts → AllFindTheirs s js ts
    all-find [] all = tt
    all-find (t ∷ ts) all = (finds-theirs t all.0, all-find ts all.1)

    pub few-told : (ts : List JournalText) (cs : List JournalLines) → AllByRecursion IsGood ts → AreTold ts cs → AllByRecursion (λ c. c.domain < 8) cs
    few-told [] [] all told = tt
    few-told [] (c ∷ cs) all told = absurd told
    few-told (t ∷ ts) [] all told = absurd told
    few-told (t ∷ ts) (c ∷ cs) all told = (let fits = all.0.right.lawful.domain_fits in omega (arith, fits, told.0.domain), few-told ts cs all.1 told.1)

    -- ---- images

    numbers-same : (from to size : ℕ) → size_to s from to ≡ size → numbers_told s js js from to ≡ after_all (at_start size (places_of s tolds to from)) (sent_to to (journal_of from tolds))
    numbers-same from to size sized =
        ap (λ (n : ℕ). after_all (at_start n (given_to s js from to)) (flat_map (sent_on to) (lanes_in (find (λ j. j.line.domain == from) js)))) sized
        ∙ go (find (λ j. j.line.domain == from) js) refl
        ∙ sym (ap (λ (o : Option DomainJournal). after_all start (sent_to to (journal_in o))) (found-mapped (journal_told s) (λ j. refl) from js))
      where
        start : Numbers
        start = at_start size (places_of s tolds to from)

        go : (o : Option JournalText) → find (λ j. j.line.domain == from) js ≡ o → after_all start (flat_map (sent_on to) (lanes_in o)) ≡ after_all start (sent_to to (journal_in (option_map (journal_told s) o)))
        go None is = refl
        go (Some j) is = after-told s board j (all-found IsGood (λ k. k.line.domain == from) js j good is).right to start

    ring-same : (queue from to size : ℕ) → size_to s from to ≡ size → ring_told s js queue from to size ≡ ring_left s tolds queue from to size
    ring-same queue from to size sized = ap (λ (n : Numbers). image_left size queue n.used (places_of s tolds to from)) (numbers-same from to size sized)

    pub image-same : (l : LinkLine) → IsSized s l → (queue : ℕ) → image_told s js l queue ≡ image_of_queue s tolds l queue
    image-same l sized queue = go (queue == 0)
      where
        go : (b : Bool) → cond b (ring_told s js 0 l.device l.driver l.size) (ring_told s js 1 l.driver l.device l.size) ≡ cond b (ring_left s tolds 0 l.device l.driver l.size) (ring_left s tolds 1 l.driver l.device l.size)
        go true = ring-same 0 l.device l.driver l.size sized.back
        go false = ring-same 1 l.driver l.device l.size sized.forth

    -- the texts of all rings, one after the other
    pub rings-same : (ls : List LinkLine) → AllByRecursion (IsSized s) ls → flat_map (λ l. ring_text l 0 (image_told s js l 0) ++ ring_text l 1 (image_told s js l 1)) ls ≡ flat_map (λ line. line) (flat_map (λ l. ring_text l 0 (image_of_queue s tolds l 0) ∷ ring_text l 1 (image_of_queue s tolds l 1) ∷ []) ls)
    rings-same [] sized = refl
    rings-same (l ∷ ls) sized =
        let rest : List ℕ = flat_map (λ line. line) (flat_map (λ k. ring_text k 0 (image_of_queue s tolds k 0) ∷ ring_text k 1 (image_of_queue s tolds k 1) ∷ []) ls) in
        ap (λ (xs : List ℕ). (ring_text l 0 (image_told s js l 0) ++ ring_text l 1 (image_told s js l 1)) ++ xs) (rings-same ls sized.1)
        ∙ ap₂ (λ (x y : List ℕ). (ring_text l 0 x ++ ring_text l 1 y) ++ rest) (image-same l sized.0 0) (image-same l sized.0 1)
        ∙ append_assoc (ring_text l 0 (image_of_queue s tolds l 0)) (ring_text l 1 (image_of_queue s tolds l 1)) rest

-- ---- a report

module _ (t : Told) (passed : IsPassed t) where
  abbrev pub texts : List JournalText
  texts = texts_of t

  tells : TellsBoardRun t
  tells = right_reports passed.report t passed.short passed.told passed.passes

  pub lawful : IsLawfulBoard t.scenario
  lawful = tells.lawful

  pub board : IsLinkedBoard t.scenario
  board = lawful_is_linked t.scenario lawful

  rights : AllByRecursion (IsRight t.scenario board) texts
  rights = journals-right passed.report t passed.told board (rising-lawful t.scenario board)

  links : wrong_among t.scenario texts texts ≡ None
  links = links-none t.scenario texts (wrong_among t.scenario texts texts) _ (subst PassesThree (ap by_told passed.told) passed.passes)

  lines-map : (js : List JournalText) → map (λ j. j.line) (map (journal_due t.scenario) js) ≡ map (λ j. j.line) js
  lines-map [] = refl
  lines-map (j ∷ js) = ap (λ ls. j.line ∷ ls) (lines-map js)

  founds : AllByRecursion (λ j. find (λ d. d.domain == j.line.domain) (rising t.scenario) ≡ Some j.line) texts
  founds =
      let each = differ-found (λ (d : DomainLine). d.domain) (rising t.scenario) (rising_differ t.scenario board) in
      let same : map (λ (j : JournalText). j.line) texts ≡ rising t.scenario = sym (lines-map texts) ∙ tells.run.each_domain in
      all-unmap (λ (d : DomainLine). find (λ e. e.domain == d.domain) (rising t.scenario) ≡ Some d) (λ (j : JournalText). j.line) texts (subst (AllByRecursion (λ (d : DomainLine). find (λ e. e.domain == d.domain) (rising t.scenario) ≡ Some d)) (sym same) each)

  goods : (ts : List JournalText) → AllByRecursion (IsRight t.scenario board) ts → AllByRecursion (λ j. IsDomainRun t.scenario j.line j.entries) (map (journal_due t.scenario) ts)
      → AllByRecursion (λ j. find (λ d. d.domain == j.line.domain) (rising t.scenario) ≡ Some j.line) ts → AllByRecursion (λ j. wrong_link t.scenario texts j ≡ None) ts → AllByRecursion (IsGood t.scenario board texts) ts
  goods [] right run found link = tt
  goods (j ∷ ts) right run found link = (record { right = right.0; run = run.0; found = found.0; linked = link.0 }, goods ts right.1 run.1 found.1 link.1)

  pub good : AllByRecursion (IsGood t.scenario board texts) texts
  good = goods texts rights tells.run.domain_runs founds (all-linked t.scenario texts texts links)
