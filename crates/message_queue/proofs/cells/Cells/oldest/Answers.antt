use Rattle.std.proofs.Common.{◌≡◌, ◌≢◌, ℕ, List, ◌∷◌, ◌∙◌, map, drop, ap, sym, arith}
use Rattle.board_model.specs.Choice.{oldest}
use Rattle.message_queue.specs.declared.cells.Cells.{Cells}
use Rattle.message_queue.specs.Linked.{at, without_place}
use Rattle.message_queue.specs.Cells.{columns_of, order_of, spare_of, held_at, IsSound}
use Rattle.message_queue.proofs.Chains.{All-left}
use Rattle.message_queue.proofs.CellReads.{next_read}
use Rattle.message_queue.proofs.Choosing.{front-first, order-front, without_place-front}
use Rattle.message_queue.proofs.cells.Cells.oldest.Goals as goal

front : (q : Cells) (o : ℕ) → IsSound q → at (columns_of q.cells.items).next 0 ≡ o → o ≢ 0 → (r : List ℕ) × (order_of q ≡ o ∷ r)
front q o sound is some =
    let c = columns_of q.cells.items in
    let l = sound.are_linked in
    let f = order-front c.next c.prev (order_of q) l.linked (All-left (λ x. x ≢ 0) (order_of q) (spare_of q) l.differ.0) (λ none. some (sym is ∙ none)) in
    (f.0, f.1 ∙ ap (λ (k : ℕ). k ∷ f.0) is)

there : (c : goal.Else-place-eq-NONE) → (r : List ℕ) × (order_of c.args.self.now ≡ c.index.result.now.next ∷ r)
there c =
    let q = c.args.self.now in
    let within = c.requires.within in
    front q c.index.result.now.next c.requires (next_read q.cells.items 0 c.index.result.now (omega arith) c.index.ensures) c.if-place-eq-NONE.false

pub returns-clause-first : goal.returns-clause-first
returns-clause-first c = front-first c.args.self.now c.index.result.now.next (there c).0 (there c).1

pub returns-clause-oldest : goal.returns-clause-oldest
returns-clause-oldest c =
    let q = c.args.self.now in
    ap (λ (os : List ℕ). oldest (map (held_at (columns_of q.cells.items).held) os)) (there c).1

pub returns-clause-rest : goal.returns-clause-rest
returns-clause-rest c =
    let q = c.args.self.now in
    let o = c.index.result.now.next in
    ap (λ (os : List ℕ). map (held_at (columns_of q.cells.items).held) (without_place os o)) (there c).1
    ∙ ap (map (held_at (columns_of q.cells.items).held)) (without_place-front o (there c).0)
    ∙ ap (λ (os : List ℕ). drop 1 (map (held_at (columns_of q.cells.items).held) os)) (sym (there c).1)
