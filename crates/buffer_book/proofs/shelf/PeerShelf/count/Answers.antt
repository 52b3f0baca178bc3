use Rattle.std.proofs.Common.{◌≡◌, ◌<◌, ◌^◌, ◌∙◌, List, Option, ap, sym, subst, arith}
use Rattle.std.specs.Prelude.{sum_by}
use Rattle.buffer_book.specs.declared.cell.Cell.{Cell}
use Rattle.buffer_book.specs.declared.cell.Resting.{Resting}
use Rattle.buffer_book.specs.Book.{Shelf, queued_frames, lent_frames, aside_frames}
use Rattle.buffer_book.specs.Runs.{columns_of, head_weight, queued_weight, lent_weight, resting_weight, resting_one}
use Rattle.buffer_book.proofs.Items.{all-fit}
use Rattle.buffer_book.proofs.Found.{queued-count, lent-count, aside-count, no-resting, weights}
use Rattle.buffer_book.proofs.shelf.PeerShelf.count.Goals as goal

pub count_named-named-requires : goal.count_named-named-requires
count_named-named-requires c =
    let all = all-fit (columns_of c.self.inside.cells.items) c.self.inside.aside.items c.self.inside.aside_count c.self.invariant in
    subst (λ (l : List Cell). sum_by head_weight (columns_of l).heads < 2 ^ 32) (sym c.deref.ensures.value) (omega (arith, all))

pub returns-then-self-eq0-clause-queue : goal.returns-then-self-eq0-clause-queue
returns-then-self-eq0-clause-queue c =
    let k = columns_of c.self.inside.cells.items in
    c.count_named-named.ensures.queue ∙ ap (λ (l : List Cell). sum_by queued_weight (columns_of l).heads) c.deref.ensures.value ∙ sym (queued-count k.next k.heads) ∙ ap (λ (s : Shelf). sum_by queued_frames s.items) c.self.view_is

pub returns-then-self-eq0-clause-lent : goal.returns-then-self-eq0-clause-lent
returns-then-self-eq0-clause-lent c =
    let counted = c.self.invariant.counted in
    let none : sum_by resting_one c.self.inside.aside.items ≡ 0 = omega arith in
    let aside = ap (λ (s : Shelf). sum_by aside_frames s.aside) (sym c.self.view_is) ∙ aside-count (columns_of c.self.inside.cells.items).next c.self.inside.aside.items ∙ no-resting c.self.inside.aside.items none in
    let k = columns_of c.self.inside.cells.items in
    let named = c.count_named-named.ensures.lent ∙ ap (λ (l : List Cell). sum_by lent_weight (columns_of l).heads) c.deref.ensures.value ∙ sym (lent-count k.next k.heads) ∙ ap (λ (s : Shelf). sum_by lent_frames s.items) c.self.view_is in
    omega (arith, aside, named)

pub count_aside-requires : goal.count_aside-requires
count_aside-requires c =
    let all = all-fit (columns_of c.self.inside.cells.items) c.self.inside.aside.items c.self.inside.aside_count c.self.invariant in
    subst (λ (l : List (Option Resting)). sum_by resting_weight l < 2 ^ 32) (sym c.deref-2.ensures.value) (omega (arith, all))

pub overflow_add-result : goal.overflow_add-result
overflow_add-result c =
    let k = columns_of c.self.inside.cells.items in
    let all = all-fit k c.self.inside.aside.items c.self.inside.aside_count c.self.invariant in
    let both = weights k.heads in
    let named = c.count_named-named.ensures.lent ∙ ap (λ (l : List Cell). sum_by lent_weight (columns_of l).heads) c.deref.ensures.value in
    let aside = c.count_aside.ensures ∙ ap (λ (l : List (Option Resting)). sum_by resting_weight l) c.deref-2.ensures.value in
    omega (arith, all, both, named, aside)

pub returns-clause-queue : goal.returns-clause-queue
returns-clause-queue c =
    let k = columns_of c.self.inside.cells.items in
    c.count_named-named.ensures.queue ∙ ap (λ (l : List Cell). sum_by queued_weight (columns_of l).heads) c.deref.ensures.value ∙ sym (queued-count k.next k.heads) ∙ ap (λ (s : Shelf). sum_by queued_frames s.items) c.self.view_is

pub returns-clause-lent : goal.returns-clause-lent
returns-clause-lent c =
    let aside = c.count_aside.ensures ∙ ap (λ (l : List (Option Resting)). sum_by resting_weight l) c.deref-2.ensures.value ∙ sym (aside-count (columns_of c.self.inside.cells.items).next c.self.inside.aside.items) ∙ ap (λ (s : Shelf). sum_by aside_frames s.aside) c.self.view_is in
    let k = columns_of c.self.inside.cells.items in
    let named = c.count_named-named.ensures.lent ∙ ap (λ (l : List Cell). sum_by lent_weight (columns_of l).heads) c.deref.ensures.value ∙ sym (lent-count k.next k.heads) ∙ ap (λ (s : Shelf). sum_by lent_frames s.items) c.self.view_is in
    omega (arith, aside, named)
