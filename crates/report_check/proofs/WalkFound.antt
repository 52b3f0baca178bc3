-- What is found of the parts of a journal is what the second pass finds of the journal.
use Rattle.std.proofs.Common.{◌≡◌, ℕ, suc, ◌+◌, ◌^◌, ◌<◌, ◌≤◌, true, false, cond, List, [], ◌∷◌, length, map, Option, None, Some, refl, sym, ap, ap₂, subst, ◌∙◌, arith, length-append}
use Rattle.std.proofs.lemmas.Bool.{cond_both}
use Rattle.std.proofs.lemmas.List.{length-map}
use Rattle.std.specs.Prelude.{◌==◌}
use Rattle.std.specs.List.{flat_map}
use Rattle.std.proofs.lemmas.Bool.Decides.{nat_tests}
use Rattle.board_model.specs.declared.scenario.CallLine.{CallLine}
use Rattle.board_model.specs.declared.scenario.DomainLine.{DomainLine}
use Rattle.board_model.specs.declared.scenario.Scenario.{Scenario}
use Rattle.board_model.specs.Deeds.{along}
use Rattle.board_model.specs.Returns.{names_given}
use Rattle.board_model.specs.Journal.{Line, PlainEntry, Taken}
use Rattle.board_model.specs.JournalDeeds.{opened}
use Rattle.board_model.specs.LinkedBoard.{IsLinkedBoard}
use Rattle.board_model.proofs.LawfulBoards.{lawful_is_linked}
use Rattle.board_model.proofs.RunDeeds.{AllAllowed, allowed-all, opened-differ}
use Rattle.report_text.specs.LaneLines.{LaneLine, came_back, lane_of, lanes_of, nothing, puts, shows, takes}
use Rattle.report_text.specs.LinkPass.{journal_told}
use Rattle.report_text.specs.RightRuns.{journal_due, with_answers}
use Rattle.report_text.proofs.BoardsTold.{takes-are}
use Rattle.report_text.proofs.EntriesTold.{unjoined-is}
use Rattle.report_text.proofs.LanesTold.{frame_in}
use Rattle.report_text.proofs.LinesTold.{Tell}
use Rattle.report_text.proofs.ReportsTold.{lines-end, texts-tell}
use Rattle.report_text.proofs.RunsTold as runs
use Rattle.report_check.specs.NamedStates.{AreFew, HasDone, deeds_on, placed, takes_in}
use Rattle.report_check.proofs.PlacesGiven.{counts-all, places-alike, taken-answers}
use Rattle.report_check.proofs.RunSteps.{state-seen}
use Rattle.board_model.specs.JournalParts.{part_entries}
use Rattle.board_model.specs.Language.{IsLawfulBoard}
use Rattle.board_model.specs.Run.{start, after_all, left_by}
use Rattle.board_model.specs.Scenario.{script as script_in, Neighbour, neighbours}
use Rattle.board_model.specs.State.{DomainState, opening}
use Rattle.board_model.specs.Step.{RunState}
use Rattle.board_model.specs.Unjoined.{peers_of}
use Rattle.board_model.specs.Unnamed.{unnamed}
use Rattle.report_text.specs.declared.link_pass.JournalLines.{JournalLines}
use Rattle.report_text.specs.JournalRead.{JournalText, lines_of_texts, parts_in}
use Rattle.report_text.specs.StepPass.{left_behind, lines_left, step_place, unfinished, wrong_step}
use Rattle.report_text.specs.ScenarioPart.{rest}
use Rattle.report_text.specs.TextLines.{lines_in, moved}
use Rattle.report_text.specs.Texts.{lines_behind}
use Rattle.report_check.specs.NextParts.{parts_from, texts_from}
use Rattle.report_check.specs.PartsWalked.{IsBegun, Way, end_of, entries_of, wrong_on}
use Rattle.report_check.specs.Runs.{IsAt, Makes, begun, script_of}
use Rattle.report_check.specs.Walked.{IsInOrder, journal_read}
use Rattle.report_totals.specs.SenderLanes.{GivesBack}
use Rattle.report_check.specs.declared.run.Run.{Run}

-- the way that a domain begins
abbrev pub first_way : List ℕ → List CallLine → DomainState → List ℕ → Way
first_way peers script s text = record { first = begun s; parts = parts_from peers script text }

abbrev pub way-begins : (s : Scenario) (line : DomainLine) (journal : JournalLines) (found : List Neighbour) (peers : List ℕ) (script : List CallLine) (state : DomainState) → IsLawfulBoard s → IsInOrder s (journal_read line journal) → found ≡ neighbours s line → peers ≡ map (λ n. n.number) found → script ≡ script_in s line.domain → state ≡ opening line.domain line.nodes found → IsBegun peers script journal.text.now (first_way peers script state journal.text.now)
way-begins s line journal found peers script state lawful order near numbers lines opened = record {
  board = s;
  journal = journal_read line journal;
  lawful = lawful;
  order = order;
  numbers = numbers ∙ ap (λ (ns : List Neighbour). map (λ n. n.number) ns) near;
  lines = lines;
  texts = refl;
  begins = ap begun (opened ∙ ap (opening line.domain line.nodes) near);
  parts = refl;
}

-- each line tells of one frame at most
frame-few : (p : ℕ) (l : LaneLine) → length (frame_in p l) ≤ 1
frame-few p (came_back q n) = omega arith
frame-few p (puts q frame) = omega arith
frame-few p (shows q n) = omega arith
frame-few p (takes q frame) = cond_both (q == p) (frame ∷ []) [] (λ (fs : List (List ℕ)). length fs ≤ 1) (λ e. omega arith) (λ e. omega arith)
frame-few p nothing = omega arith

frames-few : (p : ℕ) (ls : List LaneLine) → length (flat_map (frame_in p) ls) ≤ length ls
frames-few p [] = omega arith
frames-few p (l ∷ ls) = omega (arith, length-append (frame_in p l) (flat_map (frame_in p) ls), frame-few p l, frames-few p ls)

pub tell-length : (ts : List (List ℕ)) (ls : List Line) → Tell ts ls → length ts ≡ length ls
tell-length [] [] tell = refl
tell-length [] (l ∷ ls) tell = absurd tell
tell-length (t ∷ ts) [] tell = absurd tell
tell-length (t ∷ ts) (l ∷ ls) tell = ap suc (tell-length ts ls tell.1)

module _ (peers : List ℕ) (script : List CallLine) (text : List ℕ) (way : Way) (h : IsBegun peers script text way) where
  abbrev pub s : Scenario
  s = h.board

  abbrev pub j : JournalText
  j = h.journal

  -- by the peers, the script, the first state and the texts
  abbrev Place : List ℕ → List CallLine → RunState → List (List ℕ) → Option ℕ
  Place ps ls r ts = step_place ls ps r (parts_in ps ls (lines_of_texts ts)) ts

  abbrev Entries : List ℕ → List CallLine → RunState → List (List ℕ) → List PlainEntry
  Entries ps ls r ts = flat_map (part_entries ps) (parts_in ps ls (lines_of_texts ts))

  abbrev End : List ℕ → List CallLine → RunState → List (List ℕ) → RunState
  End ps ls r ts = after_all ls r (flat_map (part_entries ps) (parts_in ps ls (lines_of_texts ts)))

  same : {A : Type 0} (f : List ℕ → List CallLine → RunState → List (List ℕ) → A) → f peers script way.first (texts_from text) ≡ f (peers_of s j.line) (script_in s j.line.domain) (start s j.line) j.texts
  same f =
      ap (λ ps. f ps script way.first (texts_from text)) h.numbers
      ∙ (ap (λ ls. f (peers_of s j.line) ls way.first (texts_from text)) h.lines
      ∙ (ap (λ r. f (peers_of s j.line) (script_in s j.line.domain) r (texts_from text)) h.begins
      ∙ ap (λ ts. f (peers_of s j.line) (script_in s j.line.domain) (start s j.line) ts) h.texts))

  pub step-found : moved j.number (wrong_on peers script way text) ≡ wrong_step s j
  step-found = ap (moved j.number) (ap (λ ps. step_place script peers way.first ps (texts_from text)) h.parts ∙ same Place)

  end-found : end_of peers script way ≡ left_behind s j
  end-found = ap (λ ps. after_all script way.first (flat_map (part_entries peers) ps)) h.parts ∙ same End

  -- a line is wrong
  pub found-wrong : (place : ℕ) → wrong_on peers script way text ≡ Some place → wrong_step s j ≡ Some (j.number + place)
  found-wrong place e = sym step-found ∙ ap (moved j.number) e

  -- none is, and the script has this many lines left
  module _ (right : wrong_on peers script way text ≡ None) (run : Run) (at : IsAt run (end_of peers script way)) where
    found-right : wrong_step s j ≡ None
    found-right = sym step-found ∙ ap (moved j.number) right

    found-state : (state : DomainState) → state ≡ (end_of peers script way).state → state ≡ (left_behind s j).state
    found-state state e = e ∙ ap (λ (r : RunState). r.state) end-found

    left-same : (left : ℕ) → left ≡ lines_left (end_of peers script way) script → left ≡ lines_left (left_behind s j) (script_in s j.line.domain)
    left-same left e = e ∙ ap₂ lines_left end-found h.lines

    found-end : (left : ℕ) → left ≡ lines_left (end_of peers script way) script → left ≡ 0 → unfinished s j ≡ None
    found-end left e none =
        let test : (lines_left (left_behind s j) (script_in s j.line.domain) == 0) ≡ true = ap (λ n. n == 0) (sym (left-same left e) ∙ none) in
        ap (λ b. cond b None (Some (j.number + length j.texts))) test

    found-unfinished : (left : ℕ) → left ≡ lines_left (end_of peers script way) script → 0 < left → unfinished s j ≡ Some (j.number + length j.texts)
    found-unfinished left e some =
        let some-left : (left == 0) ≡ false = grind (arith, nat_tests) in
        let test : (lines_left (left_behind s j) (script_in s j.line.domain) == 0) ≡ false = ap (λ n. n == 0) (sym (left-same left e)) ∙ some-left in
        ap (λ b. cond b None (Some (j.number + length j.texts))) test

  -- what is found of the parts, where none of their lines is wrong
  abbrev pub IsRight : Run → Run → ℕ → List ℕ → Type 0
  IsRight old new lines behind = (wrong_on peers script way text ≡ None) × (lines ≡ length (texts_from text)) × (lines_in behind ≡ lines_behind text) × Makes script way.first (entries_of peers way) old new

  module _ (old new : Run) (lines left : ℕ) (behind : List ℕ) (right : IsRight old new lines behind) (lines-same : script_of new ≡ script) (left-is : (r : RunState) → IsAt new r → left ≡ lines_left r (script_of new)) where
    line-is : j.number + lines ≡ j.number + length j.texts
    line-is = let count = right.1 in let texts = ap (λ (ts : List (List ℕ)). length ts) h.texts in omega (arith, count, texts)

    left-by : left ≡ lines_left (end_of peers script way) script
    left-by = left-is (end_of peers script way) right.3.at ∙ ap (lines_left (end_of peers script way)) lines-same

    pub right-unfinished : 0 < left → (wrong_step s j ≡ None) × (unfinished s j ≡ Some (j.number + lines))
    right-unfinished some = (found-right right.0 new right.3.at, found-unfinished right.0 new right.3.at left left-by some ∙ ap Some (sym line-is))

    -- the entries that were made are those of the journal that the texts tell
    told-entries : entries_of peers way ≡ (journal_told s j).entries
    told-entries = ap (flat_map (part_entries peers)) h.parts ∙ (same Entries ∙ sym (unjoined-is s j.line (lines_of_texts j.texts)))

    -- what was given back, where the run began with a state in which nothing was named
    module _ (few : length (texts_from text) < 2 ^ 32) (first : DomainState) (opens : first ≡ opened s (journal_told s j)) (begins : HasDone first [] old.state) where
      board : IsLinkedBoard s
      board = lawful_is_linked s h.lawful

      abbrev lines_called : List CallLine
      lines_called = script_in s j.line.domain

      abbrev entries : List PlainEntry
      entries = (journal_told s j).entries

      ordered : runs.IsRight s board j
      ordered = record {
        tells = subst (λ ts. Tell ts (lines_of_texts ts)) h.texts (texts-tell (lines_in text) (lines-end text)).tells;
        order = h.order.order;
        lawful = h.order.lawful;
      }

      allowed : AllAllowed lines_called (start s j.line) (with_answers lines_called (start s j.line) entries)
      allowed =
          let run = runs.run-told s board j ordered (found-right right.0 new right.3.at) in
          allowed-all lines_called (start s j.line) (left_by s j.line (journal_due s j).entries) (journal_due s j).entries run.run.steps

      same-deeds : deeds_on script way.first (entries_of peers way) ≡ deeds_on lines_called (start s j.line) entries
      same-deeds = ap (λ ls. deeds_on ls way.first (entries_of peers way)) h.lines ∙ (ap (λ (r : RunState). deeds_on lines_called r (entries_of peers way)) h.begins ∙ ap (deeds_on lines_called (start s j.line)) told-entries)

      few-taken : AreFew (deeds_on script way.first (entries_of peers way))
      few-taken = λ p.
          let taken = counts-all lines_called p [] [] (start s j.line) entries refl in
          let told = ap (λ (fs : List (List ℕ)). length fs) (takes-are s board j ordered p) in
          let lines_told = tell-length j.texts (lines_of_texts j.texts) ordered.tells in
          let texts = ap (λ (ts : List (List ℕ)). length ts) h.texts in
          let answers = ap (λ (ts : List Taken). length (map (λ (t : Taken). t.frame) ts)) (taken-answers lines_called p (start s j.line) entries) in
          omega (arith, ap (takes_in p) same-deeds, taken, told, answers, frames-few p (lanes_of j.texts), length-map (lines_of_texts j.texts) lane_of, lines_told, texts, few)

      right-places : GivesBack s j new.state.given
      right-places = λ p small.
          let done = right.3.deeds.named first [] few-taken begins in
          done.given p small
          ∙ (ap (λ ds. along (names_given p) first (placed [] ds)) same-deeds
          ∙ (ap (λ x. along (names_given p) x (placed [] (deeds_on lines_called (start s j.line) entries))) opens
          ∙ places-alike lines_called p [] [] (start s j.line) (opened s (journal_told s j)) entries refl (opened-differ s (journal_told s j) board) (λ q. refl) allowed))

    pub right-whole : left ≡ 0 → (first : DomainState) → first ≡ opened s (journal_told s j) → HasDone first [] old.state → length (texts_from text) < 2 ^ 32 → (state : DomainState) (given : List (List ℕ)) → state ≡ new.state.state → given ≡ new.state.given
        → (wrong_step s j ≡ None) × (unfinished s j ≡ None) × (unnamed state ≡ (left_behind s j).state) × GivesBack s j given × (rest (j.number + lines) (lines_in behind) ≡ rest (j.number + length j.texts) (lines_behind text))
    right-whole none first opens begins few state given is gives = (
      found-right right.0 new right.3.at,
      found-end right.0 new right.3.at left left-by none,
      found-state right.0 new right.3.at (unnamed state) (ap unnamed is ∙ state-seen new (end_of peers script way) right.3.at),
      subst (GivesBack s j) (sym gives) (right-places few first opens begins),
      ap₂ rest line-is right.2,
    )
