-- The endpoints of a domain as a map from addresses, and how each change changes what the map has at an address.
use Rattle.std.proofs.Common.{◌≡◌, ℕ, ◌+◌, not, cond, List, [], ◌∷◌, ◌++◌, filter, find, Option, Some, None, option_map, refl, arith}
use Rattle.std.specs.Prelude.{◌==◌}
use Rattle.std.proofs.lemmas.Bool.{eqb-true, eqb-false, eq-eqb}
use Rattle.board_model.proofs.ChannelWords.{rest}
use Rattle.board_model.specs.Change.{Change, endpoint_made, endpoint_gone, channel_set, item_queued, best_gone, oldest_gone, queue_dropped, with_channel, with_queue, without_queue, endpoint_with, at_address, changed}
use Rattle.board_model.specs.Choice.{without_best}
use Rattle.board_model.specs.State.{Endpoint, DomainState, has_address_of, endpoint_of}
use Rattle.mc_base.specs.Limits.{first_address}

-- the first of two
abbrev pub first_of : Option Endpoint → Option Endpoint → Option Endpoint
first_of None o = o
first_of (Some e) o = Some e

-- a change that keeps the address, at one address
abbrev pub if_at : ℕ → ℕ → (Endpoint → Endpoint) → Option Endpoint → Option Endpoint
if_at a b f o = cond (a == b) (option_map f o) o

abbrev pub seen_after : Change → DomainState → ℕ → Option Endpoint → Option Endpoint
seen_after (endpoint_made at) s b o = first_of o (cond (first_address + s.endpoints_given == b) (Some (endpoint_with s at)) None)
seen_after (endpoint_gone a) s b o = cond (a == b) None o
seen_after (channel_set a c) s b o = if_at a b (with_channel c) o
seen_after (item_queued a i) s b o = if_at a b (with_queue (λ q. q ++ i ∷ [])) o
seen_after (best_gone a) s b o = if_at a b (with_queue (without_best (λ i. i.priority))) o
seen_after (oldest_gone a) s b o = if_at a b (with_queue rest) o
seen_after (queue_dropped a c) s b o = if_at a b (without_queue c) o
seen_after other s b o = o

seen_changed : (f : Endpoint → Endpoint) → ((e : Endpoint) → (f e).address ≡ e.address) → (a b : ℕ) (es : List Endpoint) → find (has_address_of b) (at_address a f es) ≡ if_at a b f (find (has_address_of b) es)
seen_changed f same a b [] = grind (arith)
seen_changed f same a b (e ∷ es) = let keep = same e in let more = seen_changed f same a b es in grind (arith, eqb-true, eqb-false, eq-eqb)

seen_made : (e : Endpoint) (b : ℕ) (es : List Endpoint) → find (has_address_of b) (es ++ e ∷ []) ≡ first_of (find (has_address_of b) es) (cond (e.address == b) (Some e) None)
seen_made e b [] = refl
seen_made e b (x ∷ xs) = let more = seen_made e b xs in grind (arith)

pub seen_gone : (a b : ℕ) (es : List Endpoint) → find (has_address_of b) (filter (λ e. not (has_address_of a e)) es) ≡ cond (a == b) None (find (has_address_of b) es)
seen_gone a b [] = grind (arith)
seen_gone a b (e ∷ es) = let more = seen_gone a b es in grind (arith, eqb-true, eqb-false, eq-eqb)

-- what an address has after a change
pub seen : (s : DomainState) (c : Change) (b : ℕ) → endpoint_of (changed s c) b ≡ seen_after c s b (endpoint_of s b)
seen s (endpoint_made at) b = seen_made (endpoint_with s at) b s.endpoints
seen s (endpoint_gone a) b = seen_gone a b s.endpoints
seen s (channel_set a c) b = seen_changed (with_channel c) (λ e. refl) a b s.endpoints
seen s (item_queued a i) b = seen_changed (with_queue (λ q. q ++ i ∷ [])) (λ e. refl) a b s.endpoints
seen s (best_gone a) b = seen_changed (with_queue (without_best (λ i. i.priority))) (λ e. refl) a b s.endpoints
seen s (oldest_gone a) b = seen_changed (with_queue rest) (λ e. refl) a b s.endpoints
seen s (queue_dropped a c) b = seen_changed (without_queue c) (λ e. refl) a b s.endpoints
seen s other b = refl
