-- What is read of a cell stands in the columns.
use Rattle.std.proofs.Common.{◌≡◌, ℕ, ◌<◌, List, length, get_or, sym, ap, ◌∙◌}
use Rattle.std.proofs.lemmas.List.{get_or-map}
use Rattle.message_queue.specs.declared.cells.Cell.{Cell}
use Rattle.message_queue.specs.Linked.{at}
use Rattle.message_queue.specs.Cells.{columns_of, held_at, waiting_of}

pub next_read : (cs : List Cell) (i : ℕ) (x : Cell) → i < length cs → x ≡ get_or cs i x → at (columns_of cs).next i ≡ x.next
next_read cs i x lt is = get_or-map (λ (c : Cell). c.next) cs i x 0 lt ∙ ap (λ (c : Cell). c.next) (sym is)

pub prev_read : (cs : List Cell) (i : ℕ) (x : Cell) → i < length cs → x ≡ get_or cs i x → at (columns_of cs).prev i ≡ x.prev
prev_read cs i x lt is = get_or-map (λ (c : Cell). c.prev) cs i x 0 lt ∙ ap (λ (c : Cell). c.prev) (sym is)

pub same_read : (cs : List Cell) (i : ℕ) (x : Cell) → i < length cs → x ≡ get_or cs i x → at (columns_of cs).same i ≡ x.same
same_read cs i x lt is = get_or-map (λ (c : Cell). c.same) cs i x 0 lt ∙ ap (λ (c : Cell). c.same) (sym is)

pub held_read : (cs : List Cell) (i : ℕ) (x : Cell) → i < length cs → x ≡ get_or cs i x → held_at (columns_of cs).held i ≡ waiting_of x.entry
held_read cs i x lt is = get_or-map (λ (c : Cell). waiting_of c.entry) cs i x _ lt ∙ ap (λ (c : Cell). waiting_of c.entry) (sym is)
