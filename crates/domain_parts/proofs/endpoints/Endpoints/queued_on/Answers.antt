use Rattle.std.proofs.Common.{◌≡◌, ◌∙◌, ◌<◌, ℕ, List, Option, None, Some, ap, length, map, sym, subst}
use Rattle.std.specs.Prelude.{find, option_and_then, position, slice_get}
use Rattle.std.proofs.lemmas.List.{length-map}
use Rattle.board_model.proofs.MessageLists.{get-position}
use Rattle.board_model.specs.State as state
use Rattle.board_model.specs.State.{queue_in}
use Rattle.buffer_book.specs.Book.{Book}
use Rattle.domain_parts.specs.declared.endpoints.Endpoint.{Endpoint}
use Rattle.board_model.specs.Queues.{hears}
use Rattle.domain_parts.specs.Hearing.{hears_at}
use Rattle.domain_parts.specs.InBook.{endpoint_in, endpoints_in, item_in}
use Rattle.domain_parts.specs.Records.{Records, waiting_in}
use Rattle.domain_parts.proofs.Tables.{position-map, slice_get-read}
use Rattle.domain_parts.proofs.Waits.{queue-there}
use Rattle.domain_parts.proofs.endpoints.Endpoints.queued_on.Goals as goal

-- the endpoint that hears it, by its place
found : (b : Book) (owner number : ℕ) (es : List Endpoint) (o : Option ℕ) → o ≡ position (hears_at owner number) es → find (hears owner number) (endpoints_in b es) ≡ option_and_then (λ i. slice_get (endpoints_in b es) i) o
found b owner number es o is =
    sym (get-position (hears owner number) (endpoints_in b es))
    ∙ ap (λ (p : Option ℕ). option_and_then (λ i. slice_get (endpoints_in b es) i) p) (sym (is ∙ position-map (endpoint_in b) (hears owner number) es))

pub returns-in-Some : goal.returns-in-Some
returns-in-Some c b =
    let es = c.self.inside.records.items in
    let i = c.in-Some.place in
    let e = c.index.result.now in
    let hearing = hears c.args.owner c.args.number in
    let at = subst (λ (xs : List Endpoint). Some i ≡ position (hears_at c.args.owner c.args.number) xs) c.deref.ensures.value c.in-Some.ensures.place in
    let lt = subst (λ (xs : List Endpoint). i < length xs) c.deref.ensures.value c.in-Some.ensures.within in
    let there = slice_get-read es i e lt c.index.ensures in
    c.len.ensures.count
    ∙ sym (length-map e.queue.waiting (item_in b))
    ∙ ap (λ (o : Option Endpoint). length (map (item_in b) (waiting_in o))) (sym there)
    ∙ ap length (sym (queue-there b es i))
    ∙ ap (λ (o : Option state.Endpoint). length (queue_in o)) (sym (found b c.args.owner c.args.number es (Some i) at))
    ∙ ap (λ (r : Records). length (queue_in (find hearing (endpoints_in b r.endpoints)))) c.self.view_is

pub returns-in-None : goal.returns-in-None
returns-in-None c b =
    let es = c.self.inside.records.items in
    let hearing = hears c.args.owner c.args.number in
    let at = subst (λ (xs : List Endpoint). None ≡ position (hears_at c.args.owner c.args.number) xs) c.deref.ensures.value c.in-None.ensures.place in
    ap (λ (o : Option state.Endpoint). length (queue_in o)) (sym (found b c.args.owner c.args.number es None at))
    ∙ ap (λ (r : Records). length (queue_in (find hearing (endpoints_in b r.endpoints)))) c.self.view_is
