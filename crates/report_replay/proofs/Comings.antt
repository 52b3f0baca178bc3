-- A piece with the part that it is of, which is open after it.
use Rattle.std.proofs.Common.{◌≡◌, ℕ, Bool, false, cond, ◌++◌, length, Option, Some, None, sym, ap, ◌∙◌}
use Rattle.std.specs.Prelude.{◌==◌}
use Rattle.mc_base.specs.Letter.{Piece, carried}
use Rattle.mc_base.specs.Reading.{Reading, brings, says}
use Rattle.board_model.specs.Parts.{coming, coming_so, grown, with_piece}
use Rattle.board_model.specs.State.{Part}

module _ (o : Option Part) (r : Reading) (a b : ℕ) (q : Piece) (own : r ≡ brings a b q) (joins : Bool) (p grows : Part)
    (is : coming o (brings a b q) ≡ grown joins p q) (made : grows ≡ record p { content = p.content ++ q.content }) where
  pub open-with : (length grows.content == grows.total) ≡ false → coming o r ≡ coming_so (brings p.source p.destination q) (Some grows) joins
  open-with size =
      ap (coming o) own
      ∙ is
      ∙ ap (λ t. cond t (coming_so (says p.source p.destination (carried p.carrier (p.content ++ q.content))) None joins) (coming_so (brings p.source p.destination q) (Some (with_piece p q)) joins))
      (sym (ap (λ (x : Part). length x.content == x.total) made) ∙ size)
      ∙ ap (λ (x : Part). coming_so (brings p.source p.destination q) (Some x) joins) (sym made)
