-- A half that takes and keeps what it took.
use Rattle.std.proofs.Common.{◌≡◌, ◌∙◌, ap, sym, subst, inl, inr, ◌++◌, ◌∷◌, [], List, Bool, true, Some, cond}
use Rattle.mc_base.specs.Stored.{Stored}
use Rattle.shared_words.specs.declared.view.Role.{Role}
use Rattle.shared_words.specs.Entry.{Entry}
use Rattle.split_ring.specs.Ends.{End, TakesNext, HasWidth, AreHeld, IsSound}
use Rattle.split_ring.proofs.HeldLemmas.{more_held}

pub taken_ring : (old new : End) (e : Entry) → TakesNext old (Some e) new → new.ring ≡ old.ring
taken_ring old new e (inl (left, is)) = ap (λ (n : End). n.ring) is
taken_ring old new e (inr (none_left, (n, some_shown, is))) = ap (λ (m : End). m.ring) is

pub pushed_held : (role : Role) (old new : End) (bs more : List Stored) (e : Entry) (went : Bool) → went ≡ true → more ≡ cond went (bs ++ e.0 ∷ []) bs → IsSound role old → TakesNext old (Some e) new → AreHeld role old bs → HasWidth new e.0 → AreHeld role new more
pushed_held role old new bs more e went said is sound t held wide = let now : more ≡ bs ++ e.0 ∷ [] = is ∙ ap (λ (b : Bool). cond b (bs ++ e.0 ∷ []) bs) said in subst (AreHeld role new) (sym now) (more_held role old new bs e sound t held wide)
