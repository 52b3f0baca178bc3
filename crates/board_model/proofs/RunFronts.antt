-- Fronts of a run: what a run tells of its deeds holds of the entries up to any one of them.
use Rattle.std.proofs.Common.{◌≡◌, ℕ, List, [], ◌∷◌, ◌++◌, length, refl, sym, ap, ◌∙◌, subst}
use Rattle.std.specs.List.{flat_map}
use Rattle.std.proofs.lemmas.List.{append_assoc, append-nil}
use Rattle.board_model.specs.declared.scenario.CallLine.{CallLine}
use Rattle.board_model.specs.declared.scenario.Scenario.{Scenario}
use Rattle.board_model.specs.Scenario.{script}
use Rattle.board_model.specs.LinkedBoard.{IsLinkedBoard}
use Rattle.board_model.specs.Journal.{PlainEntry}
use Rattle.board_model.specs.Step.{RunState, after}
use Rattle.board_model.specs.Run.{start, after_all, left_by, IsDomainRun}
use Rattle.board_model.specs.Traffic.{put_to, taken_from, given}
use Rattle.board_model.specs.Board.{DomainJournal}
use Rattle.board_model.specs.Deeds.{Deed, after_deeds, along}
use Rattle.board_model.specs.JournalDeeds.{entry_deeds, deeds_along, deeds_of, opened}
use Rattle.board_model.specs.Returns.{names_given}
use Rattle.board_model.specs.Unnamed.{unnamed}
use Rattle.board_model.proofs.DeedRuns.{IsDeedRun, puts_by, takes_by}
use Rattle.board_model.proofs.RunDeeds.{AllAllowed, allowed-all, opened-differ, run-leads, run-named, run-puts, pending}
use Rattle.board_model.proofs.DeedTraffic.{run-takes}
use Rattle.board_model.proofs.DeedGiven.{run-given}

-- ---- entries that are joined

module _ (lines : List CallLine) where
  pub allowed-front : (r : RunState) (xs ys : List PlainEntry) → AllAllowed lines r (xs ++ ys) → AllAllowed lines r xs
  allowed-front r [] ys allowed = tt
  allowed-front r (x ∷ xs) ys allowed = (allowed.0, allowed-front (after lines r x) xs ys allowed.1)

  pub deeds-join : (before : List PlainEntry) (r : RunState) (xs ys : List PlainEntry) → deeds_along lines before r (xs ++ ys) ≡ deeds_along lines before r xs ++ deeds_along lines (before ++ xs) (after_all lines r xs) ys
  deeds-join before r [] ys = ap (λ b. deeds_along lines b r ys) (sym (append-nil before))
  deeds-join before r (x ∷ xs) ys =
      ap (λ ds. entry_deeds lines before r x ++ ds) (deeds-join (before ++ x ∷ []) (after lines r x) xs ys)
      ∙ (sym (append_assoc (entry_deeds lines before r x) (deeds_along lines (before ++ x ∷ []) (after lines r x) xs) (deeds_along lines ((before ++ x ∷ []) ++ xs) (after_all lines (after lines r x) xs) ys))
      ∙ ap (λ b. deeds_along lines before r (x ∷ xs) ++ deeds_along lines b (after_all lines (after lines r x) xs) ys) (append_assoc before (x ∷ []) xs))

-- ---- a front of the entries of a run

abbrev pub front_deeds : Scenario → DomainJournal → List PlainEntry → List Deed
front_deeds s j xs = deeds_along (script s j.line.domain) [] (start s j.line) xs

-- the frames that are put for a call that is still to come are no deed's
pub record Front (s : Scenario) (j : DomainJournal) (xs ys : List PlainEntry) : Type 0 where
  pub begins : deeds_of s j ≡ front_deeds s j xs ++ deeds_along (script s j.line.domain) xs (after_all (script s j.line.domain) (start s j.line) xs) ys
  pub run : IsDeedRun (opened s j) (front_deeds s j xs)
  pub state : (left_by s j.line xs).state ≡ unnamed (after_deeds (opened s j) (front_deeds s j xs))
  pub puts : (peer : ℕ) → put_to peer xs ≡ along (puts_by peer) (opened s j) (front_deeds s j xs) ++ pending peer (left_by s j.line xs).put_since_turn
  pub takes : (peer : ℕ) → taken_from peer xs ≡ flat_map (takes_by peer) (front_deeds s j xs)
  pub gives : (peer : ℕ) → length (along (names_given peer) (opened s j) (front_deeds s j xs)) ≡ given (script s j.line.domain) (start s j.line) peer xs

pub front : (s : Scenario) (j : DomainJournal) → IsLinkedBoard s → IsDomainRun s j.line j.entries → (xs ys : List PlainEntry) → j.entries ≡ xs ++ ys → Front s j xs ys
front s j board run xs ys split =
    let lines : List CallLine = script s j.line.domain in
    let all = subst (λ es. AllAllowed (script s j.line.domain) (start s j.line) es) split (allowed-all lines (start s j.line) (left_by s j.line j.entries) j.entries run.steps) in
    let allowed = allowed-front lines (start s j.line) xs ys all in
    let leads = run-leads lines [] (start s j.line) (opened s j) xs refl allowed in
    record {
      begins = ap (λ es. deeds_along (script s j.line.domain) [] (start s j.line) es) split ∙ deeds-join lines [] (start s j.line) xs ys;
      run = record { may = leads.may; named = run-named lines [] [] (start s j.line) (opened s j) xs refl (opened-differ s j board) (λ p. refl) allowed };
      state = sym leads.leads;
      puts = λ peer. run-puts lines peer [] (start s j.line) (opened s j) xs refl allowed;
      takes = λ peer. sym (run-takes peer lines [] (start s j.line) xs);
      gives = λ peer. run-given peer lines [] (start s j.line) (opened s j) xs refl allowed;
    }
