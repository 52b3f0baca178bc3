-- Loads as they change: what is on a lane after the load of one lane, or of all, was changed.
use Rattle.std.proofs.Common.{◌≡◌, ℕ, Bool, true, false, ◌&&◌, cond, List, map, Option, Some, find, option_map, refl, ap, ◌∙◌, eqb-true}
use Rattle.std.specs.Prelude.{◌==◌}
use Rattle.std.proofs.lemmas.Bool.{and_parts}
use Rattle.board_model.specs.Loads.{Load, is_between, with_load}
use Rattle.board_model.proofs.MessageAlls.{found-passes}
use Rattle.board_model.proofs.WholeFinds.{find-kept}

-- the load of a lane
abbrev pub load_on : List Load → ℕ → ℕ → Option Load
load_on loads a b = find (is_between a b) loads

-- the ends of a load that is found
pub load_ends : (loads : List Load) (a b : ℕ) (l : Load) → load_on loads a b ≡ Some l → (l.sender ≡ a) × (l.receiver ≡ b)
load_ends loads a b l e =
    let t = and_parts (l.sender == a) (l.receiver == b) (found-passes (is_between a b) loads l e) in
    (eqb-true l.sender a t.0, eqb-true l.receiver b t.1)

-- a change of loads that leaves each its ends
pub record KeepsEnds (f : Load → Load) : Type 0 where
  pub sender : (l : Load) → (f l).sender ≡ l.sender
  pub receiver : (l : Load) → (f l).receiver ≡ l.receiver

pub loaded-map : (f : Load → Load) → KeepsEnds f → (loads : List Load) (a b : ℕ) (l : Load) → load_on loads a b ≡ Some l → load_on (map f loads) a b ≡ Some (f l)
loaded-map f keeps loads a b l e =
    find-kept (is_between a b) f (λ x. ap (λ n. (n == a) && ((f x).receiver == b)) (keeps.sender x) ∙ ap (λ n. (x.sender == a) && (n == b)) (keeps.receiver x)) loads
    ∙ ap (option_map f) e

keeps_cond : (g : Load → ℕ) (f : Load → Load) (l : Load) → g (f l) ≡ g l → (b : Bool) → g (cond b (f l) l) ≡ g l
keeps_cond g f l same true = same
keeps_cond g f l same false = refl

-- the load of one lane is changed
pub loaded-with : (f : Load → Load) → KeepsEnds f → (loads : List Load) (m n a b : ℕ) (l : Load) → load_on loads a b ≡ Some l → load_on (with_load m n f loads) a b ≡ Some (cond ((a == m) && (b == n)) (f l) l)
loaded-with f keeps loads m n a b l e =
    let ends = load_ends loads a b l e in
    loaded-map (λ x. cond (is_between m n x) (f x) x)
    (record { sender = λ x. keeps_cond (λ y. y.sender) f x (keeps.sender x) (is_between m n x); receiver = λ x. keeps_cond (λ y. y.receiver) f x (keeps.receiver x) (is_between m n x) })
    loads a b l e
    ∙ ap (λ k. Some (cond ((k == m) && (l.receiver == n)) (f l) l)) ends.0
    ∙ ap (λ k. Some (cond ((a == m) && (k == n)) (f l) l)) ends.1
