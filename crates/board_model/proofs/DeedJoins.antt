-- Deeds one after the other: what is joined, and what each keeps.
use Rattle.std.proofs.Common.{◌≡◌, ℕ, List, [], ◌∷◌, ◌++◌, refl, sym, ap, ◌∙◌}
use Rattle.std.proofs.lemmas.List.{append_assoc}
use Rattle.board_model.specs.State.{DomainState}
use Rattle.board_model.specs.DomainCall.{DomainCall}
use Rattle.board_model.specs.Change.{Change, changed, changed_all}
use Rattle.board_model.specs.CallChanges.{call_changes, effect}
use Rattle.board_model.specs.Deeds.{Deed, happens_by, after_deed, after_deeds, AllMayDo, along}
use Rattle.board_model.proofs.StateEnds.{Ends, ends-all, numbers_in, numbers-all}

-- ---- deeds that are joined

pub may-join : (s : DomainState) (xs ys : List Deed) → AllMayDo s xs → AllMayDo (after_deeds s xs) ys → AllMayDo s (xs ++ ys)
may-join s [] ys front back = back
may-join s (x ∷ xs) ys front back = (front.0, may-join (after_deed s x) xs ys front.1 back)

pub may-back : (s : DomainState) (xs ys : List Deed) → AllMayDo s (xs ++ ys) → AllMayDo (after_deeds s xs) ys
may-back s [] ys may = may
may-back s (x ∷ xs) ys may = may-back (after_deed s x) xs ys may.1

pub after-join : (s : DomainState) (xs ys : List Deed) → after_deeds s (xs ++ ys) ≡ after_deeds (after_deeds s xs) ys
after-join s [] ys = refl
after-join s (x ∷ xs) ys = after-join (after_deed s x) xs ys

pub along-join : {A : Type 0} (f : DomainState → Deed → List A) (s : DomainState) (xs ys : List Deed) → along f s (xs ++ ys) ≡ along f s xs ++ along f (after_deeds s xs) ys
along-join f s [] ys = refl
along-join f s (x ∷ xs) ys = ap (λ k. f s x ++ k) (along-join f (after_deed s x) xs ys) ∙ sym (append_assoc (f s x) (along f (after_deed s x) xs) (along f (after_deeds (after_deed s x) xs) ys))

-- ---- what no change changes

module _ {X : Type 0} (f : DomainState → X) (same : (s : DomainState) (c : Change) → f (changed s c) ≡ f s) where
  pub changes-keep : (s : DomainState) (cs : List Change) → f (changed_all s cs) ≡ f s
  changes-keep s [] = refl
  changes-keep s (c ∷ cs) = changes-keep (changed s c) cs ∙ same s c

  pub deeds-keep : (s : DomainState) (ds : List Deed) → f (after_deeds s ds) ≡ f s
  deeds-keep s [] = refl
  deeds-keep s (d ∷ ds) = deeds-keep (after_deed s d) ds ∙ changes-keep s (happens_by s d)

pub deeds-numbers : (s : DomainState) (ds : List Deed) → numbers_in (after_deeds s ds).peers ≡ numbers_in s.peers
deeds-numbers s [] = refl
deeds-numbers s (d ∷ ds) = deeds-numbers (after_deed s d) ds ∙ numbers-all s (happens_by s d)

-- ---- endpoints keep addresses of their own

pub call-ends : (s : DomainState) (node : ℕ) (call : DomainCall) → Ends s → Ends (effect s node call)
call-ends s node call ends = ends-all s (call_changes s node call) ends

pub deeds-ends : (s : DomainState) (ds : List Deed) → Ends s → Ends (after_deeds s ds)
deeds-ends s [] ends = ends
deeds-ends s (d ∷ ds) ends = deeds-ends (after_deed s d) ds (ends-all s (happens_by s d) ends)
