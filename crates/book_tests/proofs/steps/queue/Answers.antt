use Rattle.std.proofs.Common.{◌≡◌, ◌∙◌, ap, rules}
use Rattle.std.specs.Prelude.{is_some, IsNone}
use Rattle.mc_base.specs.declared.request.Slot.{Slot}
use Rattle.buffer_book.specs.Book.{Book, kept_in_buffer, queued_at, place_at, with_queued}
use Rattle.buffer_book.proofs.Releases.{enqueued-single}
use Rattle.buffer_book.proofs.ItemLemmas.{enqueued-place_kept}
use Rattle.book_tests.proofs.steps.queue.Goals as goal

pub returns-clause-queued : goal.returns-clause-queued
returns-clause-queued c =
    let none : IsNone c.withdraw_next.result = search rules in
    let stays = c.withdraw_next.ensures.stays none in
    let k = kept_in_buffer c.in_ok-buffer.buffer c.args.start c.args.size in
    let same : c.enqueue.result ≡ c.args.slot = search rules in
    ap (λ (b : Book). is_some (queued_at b c.args.slot)) (c.enqueue.ensures.book ∙ ap (λ (b : Book). with_queued b c.enqueue.result k) stays ∙ ap (λ (s : Slot). with_queued c.args.book.now s k) same)
    ∙ ap is_some (enqueued-single c.args.book.now c.args.slot k c.each_held_once.ensures c.requires.away)

pub returns-clause-others : goal.returns-clause-others
returns-clause-others c = λ other differ away.
    let none : IsNone c.withdraw_next.result = search rules in
    let stays = c.withdraw_next.ensures.stays none in
    let k = kept_in_buffer c.in_ok-buffer.buffer c.args.start c.args.size in
    let same : c.enqueue.result ≡ c.args.slot = search rules in
    ap (λ (b : Book). place_at b other) (c.enqueue.ensures.book ∙ ap (λ (b : Book). with_queued b c.enqueue.result k) stays ∙ ap (λ (s : Slot). with_queued c.args.book.now s k) same)
    ∙ enqueued-place_kept c.args.book.now c.args.slot other k differ
    ∙ away
