-- What is counted in a state without the names of frames is what is counted in the state.
use Rattle.std.proofs.Common.{◌≡◌, ℕ, ◌+◌, List, [], ◌∷◌, ◌++◌, map, length, find, Option, Some, None, refl, sym, ap, ap₂, ◌∙◌, arith, sum_by, Bool, cond, length-append, true, false}
use Rattle.std.specs.Prelude.{option_map, is_none, if◌then◌else◌, filter, ◌==◌}
use Rattle.std.specs.List.{flat_map}
use Rattle.std.proofs.lemmas.List.{length-map, map-append}
use Rattle.std.proofs.lemmas.List.Sums.{sum_by-cons}
use Rattle.board_model.specs.Queues.{hears, messages_at, queued_on}
use Rattle.board_model.specs.State.{DomainState, Endpoint, Item, LentPacket, Outcome, Request, has_address, has_ended, has_item, held_from, is_accepted, is_from, is_rejected, item_in, lent_from, lent_items, queue_in, queued_from, queued_items, HeldFrame, holds_from, frames_from}
use Rattle.board_model.proofs.ListsMapped.{find-mapped}
use Rattle.board_model.specs.Unnamed.{unnamed, unnamed_end, unnamed_item, unnamed_outcome, unnamed_packet, unnamed_request, no_names, unnamed_held}

queues_unnamed : (es : List Endpoint) → flat_map (λ (e : Endpoint). e.queue) (map unnamed_end es) ≡ map unnamed_item (flat_map (λ (e : Endpoint). e.queue) es)
queues_unnamed [] = refl
queues_unnamed (e ∷ es) = ap (λ (is : List Item). map unnamed_item e.queue ++ is) (queues_unnamed es) ∙ sym (map-append unnamed_item e.queue (flat_map (λ (x : Endpoint). x.queue) es))

packets_unnamed : (ps : List LentPacket) → map (λ (p : LentPacket). p.item) (map unnamed_packet ps) ≡ map unnamed_item (map (λ (p : LentPacket). p.item) ps)
packets_unnamed [] = refl
packets_unnamed (p ∷ ps) = ap (λ (is : List Item). unnamed_item p.item ∷ is) (packets_unnamed ps)

outcome_unnamed : (o : Option Outcome) → item_in (option_map unnamed_outcome o) ≡ map unnamed_item (item_in o)
outcome_unnamed None = refl
outcome_unnamed (Some (has_address a)) = refl
outcome_unnamed (Some is_accepted) = refl
outcome_unnamed (Some (is_rejected reason)) = refl
outcome_unnamed (Some (has_item i)) = refl
outcome_unnamed (Some (has_ended word)) = refl

requests_unnamed : (rs : List Request) → flat_map (λ (r : Request). item_in r.outcome) (map unnamed_request rs) ≡ map unnamed_item (flat_map (λ (r : Request). item_in r.outcome) rs)
requests_unnamed [] = refl
requests_unnamed (r ∷ rs) =
    ap₂ (λ (xs ys : List Item). xs ++ ys) (outcome_unnamed r.outcome) (requests_unnamed rs)
    ∙ sym (map-append unnamed_item (item_in r.outcome) (flat_map (λ (x : Request). item_in x.outcome) rs))

lent_unnamed : (s : DomainState) → lent_items (unnamed s) ≡ map unnamed_item (lent_items s)
lent_unnamed s =
    ap₂ (λ (xs ys : List Item). xs ++ ys) (packets_unnamed s.lent) (requests_unnamed s.requests)
    ∙ sym (map-append unnamed_item (map (λ (p : LentPacket). p.item) s.lent) (flat_map (λ (r : Request). item_in r.outcome) s.requests))

-- as many frames are named 0 as had names
pub frames_unnamed : (n : ℕ) (is : List Item) → length (frames_from n (map unnamed_item is)) ≡ length (frames_from n is)
frames_unnamed n [] = refl
frames_unnamed n (i ∷ is) = go (i.peer == n) (frames_unnamed n is)
  where
    go : (b : Bool) → length (frames_from n (map unnamed_item is)) ≡ length (frames_from n is) → length (flat_map (λ (x : Item). x.frames) (cond b (unnamed_item i ∷ filter (is_from n) (map unnamed_item is)) (filter (is_from n) (map unnamed_item is)))) ≡ length (flat_map (λ (x : Item). x.frames) (cond b (i ∷ filter (is_from n) is) (filter (is_from n) is)))
    go true rest = omega (arith, length-append (unnamed_item i).frames (frames_from n (map unnamed_item is)), length-append i.frames (frames_from n is), length-map i.frames (no_names i.peer), rest)
    go false rest = rest

pub held-frames-unnamed : (n : ℕ) (hs : List HeldFrame) → length (map (λ h. h.name) (filter (holds_from n) (map unnamed_held hs))) ≡ length (map (λ h. h.name) (filter (holds_from n) hs))
held-frames-unnamed n [] = refl
held-frames-unnamed n (h ∷ hs) = go (h.peer == n) (held-frames-unnamed n hs)
  where
    go : (b : Bool) → length (map (λ h. h.name) (filter (holds_from n) (map unnamed_held hs))) ≡ length (map (λ h. h.name) (filter (holds_from n) hs)) → length (map (λ k. k.name) (cond b (unnamed_held h ∷ filter (holds_from n) (map unnamed_held hs)) (filter (holds_from n) (map unnamed_held hs)))) ≡ length (map (λ k. k.name) (cond b (h ∷ filter (holds_from n) hs) (filter (holds_from n) hs)))
    go true rest = omega (arith, rest)
    go false rest = rest

pub queued-unnamed : (n : ℕ) (s : DomainState) → queued_from n (unnamed s) ≡ queued_from n s
queued-unnamed n s = ap₂ (λ a b. a + b) (ap (λ is. length (frames_from n is)) (queues_unnamed s.endpoints) ∙ frames_unnamed n (queued_items s)) (held-frames-unnamed n s.held)

pub lent-unnamed : (n : ℕ) (s : DomainState) → lent_from n (unnamed s) ≡ lent_from n s
lent-unnamed n s = ap (λ is. length (frames_from n is)) (lent_unnamed s) ∙ frames_unnamed n (lent_items s)

pub held-unnamed : (n : ℕ) (s : DomainState) → held_from n (unnamed s) ≡ held_from n s
held-unnamed n s = ap₂ (λ a b. a + b) (queued-unnamed n s) (lent-unnamed n s)

pub messages-unnamed : (es : List Endpoint) → sum_by messages_at (map unnamed_end es) ≡ sum_by messages_at es
messages-unnamed [] = refl
messages-unnamed (e ∷ es) = omega (arith, sum_by-cons messages_at (unnamed_end e) (map unnamed_end es), sum_by-cons messages_at e es, messages-unnamed es, ap (λ (n : ℕ). if is_none e.channel then n else 0) (length-map e.queue unnamed_item))

pub queue-unnamed-on : (owner number : ℕ) (s : DomainState) → queued_on owner number (unnamed s) ≡ queued_on owner number s
queue-unnamed-on owner number s = ap (λ x. length (queue_in x)) (find-mapped unnamed_end (hears owner number) (hears owner number) (λ e. refl) s.endpoints) ∙ go (find (hears owner number) s.endpoints)
  where
    go : (x : Option Endpoint) → length (queue_in (option_map unnamed_end x)) ≡ length (queue_in x)
    go None = refl
    go (Some e) = length-map e.queue unnamed_item
