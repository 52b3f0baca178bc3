-- What success gives back, by the queue of the endpoint that a call is made at.
use Rattle.std.proofs.Common.{Bor, option_map, ◌≡◌, List, [], ◌∷◌, Option, Some, None, refl, ap, ◌∙◌}
use Rattle.std.specs.Prelude.{option_copied, option_to_list, slice_get}
use Rattle.mc_base.specs.declared.name.Local.{Local}
use Rattle.board_model.specs.CallChanges.{at_live, best_item}
use Rattle.board_model.specs.Choice.{best, oldest}
use Rattle.board_model.specs.State.{DomainState, Endpoint, Item, live_at, queue_at, queue_in}
use Rattle.board_model.proofs.RenamedCalls.{at-live}

pub first-oldest : {A : Type 0} (o : Option (Bor A)) (q : List A) → option_copied o ≡ slice_get q 0 → option_map (λ i. i.now) o ≡ oldest q
first-oldest None [] is = refl
first-oldest None (i ∷ q) is = absurd cc
first-oldest (Some x) [] is = absurd cc
first-oldest (Some x) (i ∷ q) is = is

module _ (s : DomainState) (at : Local) where
  by_live : (f : List Item → List Item) → f [] ≡ [] → f (queue_at s at) ≡ at_live (live_at s at) (λ (e : Endpoint). f e.queue)
  by_live f none = ap (λ o. f (queue_in o)) (at-live s at) ∙ go (live_at s at)
    where
      go : (o : Option Endpoint) → f (queue_in o) ≡ at_live o (λ (e : Endpoint). f e.queue)
      go None = none
      go (Some e) = refl

  pub all_queued : queue_at s at ≡ at_live (live_at s at) (λ e. e.queue)
  all_queued = by_live (λ q. q) refl

  pub best-queued : option_to_list (best (λ i. i.priority) (queue_at s at)) ≡ at_live (live_at s at) (λ e. option_to_list (best_item e))
  best-queued = by_live (λ q. option_to_list (best (λ i. i.priority) q)) refl

  pub oldest-queued : option_to_list (oldest (queue_at s at)) ≡ at_live (live_at s at) (λ e. option_to_list (oldest e.queue))
  oldest-queued = by_live (λ q. option_to_list (oldest q)) refl
