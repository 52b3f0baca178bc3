-- Some pieces, and then some more.
use Rattle.std.proofs.Common.{◌≡◌, ℕ, List, [], ◌∷◌, ◌++◌, refl, sym, ap, ap₂, subst, ◌∙◌, append-nil, append_assoc}
use Rattle.std.specs.List.{flat_map}
use Rattle.std.proofs.lemmas.List.Concat.{flat_map-append}
use Rattle.outer_io.specs.Puts.{Puts}
use Rattle.outer_io.specs.declared.sink.Sink.{Ghosts}
use Rattle.outer_io.specs.declared.writer.Writer.{Writer}
use Rattle.outer_io.proofs.Writing.{puts_then, puts_nothing}
use Rattle.picture_text.specs.Pieces.{PutsPieces}

pub pieces_then : {K X : Type 0} (text shown : X → List ℕ) (sink : Ghosts K) (a b c : Writer K) (ls ms : List ℕ) → PutsPieces text shown sink a b ls → PutsPieces text shown sink b c ms → PutsPieces text shown sink a c (ls ++ ms)
unfolding PutsPieces
pieces_then text shown sink a b c ls ms p q = (
  p.0 ++ q.0,
  flat_map-append shown p.0 q.0 ∙ ap₂ (λ (x y : List ℕ). x ++ y) p.1 q.1,
  subst (λ (t : List ℕ). Puts sink a c t) (sym (flat_map-append text p.0 q.0)) (puts_then sink a b c (flat_map text p.0) (flat_map text q.0) p.2 q.2),
)

pub pieces_nothing : {K X : Type 0} (text shown : X → List ℕ) (sink : Ghosts K) (a : Writer K) → PutsPieces text shown sink a a []
unfolding PutsPieces
pieces_nothing text shown sink a = ([], refl, puts_nothing sink a)

-- one piece
pub piece_alone : {K X : Type 0} (text shown : X → List ℕ) (sink : Ghosts K) (a b : Writer K) (x : X) (ls : List ℕ) → shown x ≡ ls → Puts sink a b (text x) → PutsPieces text shown sink a b ls
unfolding PutsPieces
piece_alone text shown sink a b x ls is p = (
  x ∷ [],
  append-nil (shown x) ∙ is,
  subst (λ (t : List ℕ). Puts sink a b t) (sym (append-nil (text x))) p,
)

-- in the form that `grind` applies
pub pieces_step : {K X : Type 0} (text shown : X → List ℕ) (sink : Ghosts K) (a b : Writer K) (ls : List ℕ) → PutsPieces text shown sink a b ls
    → PutsPieces text shown sink a b ls × ((c : Writer K) (ms : List ℕ) → PutsPieces text shown sink b c ms → PutsPieces text shown sink a c (ls ++ ms))
pieces_step text shown sink a b ls p = (p, λ c ms q. pieces_then text shown sink a b c ls ms p q)

-- what a function of several pieces needs
pub ruleset piece_steps = (pieces_step, pieces_nothing)
