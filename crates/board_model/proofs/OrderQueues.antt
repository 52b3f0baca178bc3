-- Which messages are queued at an address after each change.
use Rattle.std.proofs.Common.{◌≡◌, ℕ, Bool, true, false, cond, List, [], ◌∷◌, ◌++◌, find, Option, Some, None, option_map, refl, sym, ap, ◌∙◌, subst, arith}
use Rattle.std.specs.Prelude.{◌==◌}
use Rattle.std.proofs.lemmas.Bool.{eqb-true, eqb-false, eq-eqb}
use Rattle.board_model.specs.Choice.{without_best}
use Rattle.board_model.specs.State.{Item, ChannelEnd, Endpoint, DomainState, has_address_of, endpoint_of}
use Rattle.board_model.specs.Change.{endpoint_made, endpoint_gone, item_queued, best_gone, with_queue, endpoint_with, at_address, changed}
use Rattle.board_model.proofs.Views.{seen_gone}

-- the messages that are queued: at a channel's end there are none
abbrev pub messages_at : Option ChannelEnd → List Item → List Item
messages_at None q = q
messages_at (Some c) q = []

abbrev pub messages_of : Option Endpoint → List Item
messages_of None = []
messages_of (Some e) = messages_at e.channel e.queue

pub messages_none : (c : Option ChannelEnd) → messages_at c [] ≡ []
messages_none None = refl
messages_none (Some c) = refl

-- those at an address
abbrev pub queued_for : DomainState → ℕ → List Item
queued_for s b = messages_of (endpoint_of s b)

-- ---- lookups

seen_changed : (f : Endpoint → Endpoint) → ((e : Endpoint) → (f e).address ≡ e.address) → (a b : ℕ) (es : List Endpoint) → find (has_address_of b) (at_address a f es) ≡ cond (a == b) (option_map f (find (has_address_of b) es)) (find (has_address_of b) es)
seen_changed f same a b [] = grind (arith)
seen_changed f same a b (e ∷ es) = let keep = same e in let more = seen_changed f same a b es in grind (arith, eqb-true, eqb-false, eq-eqb)

messages_last : (x : Endpoint) → messages_at x.channel x.queue ≡ [] → (b : ℕ) (es : List Endpoint) → messages_of (find (has_address_of b) (es ++ x ∷ [])) ≡ messages_of (find (has_address_of b) es)
messages_last x none b [] = go (x.address == b)
  where
    go : (c : Bool) → messages_of (cond c (Some x) None) ≡ []
    go true = none
    go false = refl
messages_last x none b (e ∷ es) = go (e.address == b) (messages_last x none b es)
  where
    go : (c : Bool) → messages_of (find (has_address_of b) (es ++ x ∷ [])) ≡ messages_of (find (has_address_of b) es) → messages_of (cond c (Some e) (find (has_address_of b) (es ++ x ∷ []))) ≡ messages_of (cond c (Some e) (find (has_address_of b) es))
    go true more = refl
    go false more = more

-- ---- changes

pub queued_made : (s : DomainState) (at : _) (b : ℕ) → queued_for (changed s (endpoint_made at)) b ≡ queued_for s b
queued_made s at b = messages_last (endpoint_with s at) refl b s.endpoints

pub queued_gone : (s : DomainState) (a b : ℕ) → queued_for (changed s (endpoint_gone a)) b ≡ cond (a == b) [] (queued_for s b)
queued_gone s a b = ap messages_of (seen_gone a b s.endpoints) ∙ go (a == b)
  where
    go : (c : Bool) → messages_of (cond c None (endpoint_of s b)) ≡ cond c [] (queued_for s b)
    go true = refl
    go false = refl

-- an endpoint changes
queued_by : (f : Endpoint → Endpoint) → ((e : Endpoint) → (f e).address ≡ e.address) → (s : DomainState) (a b : ℕ) → messages_of (find (has_address_of b) (at_address a f s.endpoints)) ≡ cond (a == b) (messages_of (option_map f (endpoint_of s b))) (queued_for s b)
queued_by f same s a b = ap messages_of (seen_changed f same a b s.endpoints) ∙ go (a == b)
  where
    go : (c : Bool) → messages_of (cond c (option_map f (endpoint_of s b)) (endpoint_of s b)) ≡ cond c (messages_of (option_map f (endpoint_of s b))) (messages_of (endpoint_of s b))
    go true = refl
    go false = refl

-- and its messages stay
pub queued_same : (f : Endpoint → Endpoint) → ((e : Endpoint) → (f e).address ≡ e.address) → (s : DomainState) (a b : ℕ) → ((e : Endpoint) → endpoint_of s a ≡ Some e → messages_of (Some (f e)) ≡ messages_of (Some e)) → messages_of (find (has_address_of b) (at_address a f s.endpoints)) ≡ queued_for s b
queued_same f same s a b stays = queued_by f same s a b ∙ go (a == b) refl
  where
    at : (o : Option Endpoint) → endpoint_of s a ≡ o → messages_of (option_map f o) ≡ messages_of o
    at None is = refl
    at (Some e) is = stays e is

    go : (c : Bool) → (a == b) ≡ c → cond c (messages_of (option_map f (endpoint_of s b))) (queued_for s b) ≡ queued_for s b
    go true equal = subst (λ x. messages_of (option_map f (endpoint_of s x)) ≡ queued_for s x) (eqb-true a b equal) (at (endpoint_of s a) refl)
    go false other = refl

pub queued_item : (s : DomainState) (a b : ℕ) (i : Item) (e : Endpoint) → endpoint_of s a ≡ Some e → e.channel ≡ None → queued_for (changed s (item_queued a i)) b ≡ cond (a == b) (queued_for s b ++ i ∷ []) (queued_for s b)
queued_item s a b i e found free = queued_by (with_queue (λ q. q ++ i ∷ [])) (λ x. refl) s a b ∙ go (a == b) refl
  where
    go : (c : Bool) → (a == b) ≡ c → cond c (messages_of (option_map (with_queue (λ q. q ++ i ∷ [])) (endpoint_of s b))) (queued_for s b) ≡ cond c (queued_for s b ++ i ∷ []) (queued_for s b)
    go true same =
        let at : endpoint_of s b ≡ Some e = ap (λ x. endpoint_of s x) (sym (eqb-true a b same)) ∙ found in
        ap (λ o. messages_of (option_map (with_queue (λ q. q ++ i ∷ [])) o)) at ∙ (ap (λ c. messages_at c (e.queue ++ i ∷ [])) free ∙ sym (ap (λ o. messages_of o ++ i ∷ []) at ∙ ap (λ c. messages_at c e.queue ++ i ∷ []) free))
    go false other = refl

pub queued_best : (s : DomainState) (a b : ℕ) → queued_for (changed s (best_gone a)) b ≡ cond (a == b) (without_best (λ i. i.priority) (queued_for s b)) (queued_for s b)
queued_best s a b = queued_by (with_queue (without_best (λ i. i.priority))) (λ x. refl) s a b ∙ ap (λ q. cond (a == b) q (queued_for s b)) (go (endpoint_of s b))
  where
    at : (c : Option ChannelEnd) (q : List Item) → messages_at c (without_best (λ i. i.priority) q) ≡ without_best (λ i. i.priority) (messages_at c q)
    at None q = refl
    at (Some c) q = refl

    go : (o : Option Endpoint) → messages_of (option_map (with_queue (without_best (λ i. i.priority))) o) ≡ without_best (λ i. i.priority) (messages_of o)
    go None = refl
    go (Some e) = at e.channel e.queue
