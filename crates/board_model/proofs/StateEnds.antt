-- What holds of every state of a run: endpoints have addresses of their own, and peers keep their numbers.
use Rattle.std.proofs.Common.{◌⊎◌, inl, inr, Option, Some, true, cond, ap₂, ◌≡◌, ℕ, ◌+◌, ◌-◌, ◌<◌, Bool, false, not, List, [], ◌∷◌, ◌++◌, map, drop, length, None, refl, sym, ap, ◌∙◌, subst, arith}
use Rattle.std.specs.Prelude.{filter, find, ◌==◌, is_some}
use Rattle.std.specs.List.{AllByRecursion}
use Rattle.std.proofs.lemmas.Bool.{and_parts, cond_both, eqb-true, eq-eqb, ne_eqb}
use Rattle.mc_base.specs.Limits.{first_address}
use Rattle.mc_base.specs.declared.name.Local.{Local}
use Rattle.board_model.specs.Lists.{changed_first, without_first}
use Rattle.board_model.specs.State.{Item, ChannelEnd, Endpoint, Asked, packet_at, Outcome, has_address, is_accepted, is_rejected, has_item, has_ended, Request, Announcement, Peer, DomainState, is_at, has_address_of, is_numbered, place_at, live_at}
use Rattle.board_model.specs.Change.{Change, endpoint_made, endpoint_gone, item_queued, best_gone, oldest_gone, item_lost, channel_set, queue_dropped, request_added, item_handed, waiting_ended, name_found, connect_settled, request_gone, end_announced, reply_owed, owed_put, buffers_back, frames_shown, frame_taken, names_known, buffers_used, packet_lent, packet_gone, channel_given, endpoint_with, with_channel, without_queue, with_queue, also_owed, first_put, peers_after, changed, changed_all}
use Rattle.board_model.specs.CallChanges.{at_channel, at_end, lending, lent_by, lent_by_test}
use Rattle.board_model.specs.Choice.{without_best}
use Rattle.board_model.proofs.MessageAlls.{all-append, all-changed-first, all-filter, all-found, all-weaken}
use Rattle.board_model.proofs.MessageLists.{some-position}
use Rattle.board_model.proofs.ListsMapped.{map-changed_first}

-- ---- endpoints

-- no later endpoint has the address of an earlier one
abbrev pub EndsApart : List Endpoint → Type 0
EndsApart [] = Unit {0}
EndsApart (e ∷ es) = AllByRecursion (λ f. has_address_of e.address f ≡ false) es × EndsApart es

-- a change that keeps an endpoint's address
module _ (p : Endpoint → Bool) (f : Endpoint → Endpoint) (same : (e : Endpoint) → (f e).address ≡ e.address) where
  apart_changed : (es : List Endpoint) → EndsApart es → EndsApart (changed_first p f es)
  apart_changed [] apart = tt
  apart_changed (e ∷ es) apart =
      cond_both (p e) (f e ∷ es) (e ∷ changed_first p f es) EndsApart
      (λ here. (subst (λ a. AllByRecursion (λ (x : Endpoint). has_address_of a x ≡ false) es) (sym (same e)) apart.0, apart.1))
      (λ other. (all-changed-first (λ (x : Endpoint). has_address_of e.address x ≡ false) p f es apart.0 (λ x found differs. ap (λ a. a == e.address) (same x) ∙ differs), apart_changed es apart.1))

apart_filtered : (p : Endpoint → Bool) (es : List Endpoint) → EndsApart es → EndsApart (filter p es)
apart_filtered p [] apart = tt
apart_filtered p (e ∷ es) apart =
    cond_both (p e) (e ∷ filter p es) (filter p es) EndsApart
    (λ stays. (all-filter (λ (f : Endpoint). has_address_of e.address f ≡ false) p es apart.0, apart_filtered p es apart.1))
    (λ goes. apart_filtered p es apart.1)

-- an endpoint with an address above the others
apart_made : (es : List Endpoint) (e : Endpoint) → EndsApart es → AllByRecursion (λ f. f.address < e.address) es → EndsApart (es ++ e ∷ [])
apart_made [] e apart above = (tt, tt)
apart_made (f ∷ fs) e apart above = (
  all-append (λ (x : Endpoint). has_address_of f.address x ≡ false) fs (e ∷ []) apart.0 (ne_eqb e.address f.address (λ same. absurd (omega (arith, above.0, same))), tt),
  apart_made fs e apart.1 above.1,
)

pub record Ends (s : DomainState) : Type 0 where
  pub apart : EndsApart s.endpoints
  pub below : AllByRecursion (λ e. e.address < first_address + s.endpoints_given) s.endpoints

ends_made : (s : DomainState) (at : Local) → Ends s → Ends (changed s (endpoint_made at))
ends_made s at ends = record {
  apart = apart_made s.endpoints (endpoint_with s at) ends.apart ends.below;
  below =
      all-append (λ e. e.address < first_address + (s.endpoints_given + 1)) s.endpoints (endpoint_with s at ∷ [])
      (all-weaken (λ e. e.address < first_address + s.endpoints_given) (λ e. e.address < first_address + (s.endpoints_given + 1)) (λ e less. omega arith) s.endpoints ends.below)
      (omega arith, tt);
}

ends_gone : (s : DomainState) (a : ℕ) → Ends s → Ends (changed s (endpoint_gone a))
ends_gone s a ends = record {
  apart = apart_filtered (λ e. not (has_address_of a e)) s.endpoints ends.apart;
  below = all-filter (λ e. e.address < first_address + s.endpoints_given) (λ e. not (has_address_of a e)) s.endpoints ends.below;
}

ends_one : (s : DomainState) (a : ℕ) (f : Endpoint → Endpoint) → ((e : Endpoint) → (f e).address ≡ e.address) → Ends s → Ends (record s { endpoints = changed_first (has_address_of a) f s.endpoints })
ends_one s a f same ends = record {
  apart = apart_changed (has_address_of a) f same s.endpoints ends.apart;
  below = all-changed-first (λ e. e.address < first_address + s.endpoints_given) (has_address_of a) f s.endpoints ends.below (λ e found less. subst (λ x. x < first_address + s.endpoints_given) (sym (same e)) less);
}

-- ---- peers

abbrev pub numbers_in : List Peer → List ℕ
numbers_in ps = map (λ p. p.number) ps

also_numbers : (d : ℕ) (a : Announcement) (ps : List Peer) → numbers_in (map (also_owed d a) ps) ≡ numbers_in ps
also_numbers d a [] = refl
also_numbers d a (p ∷ ps) =
    ap (λ n. n ∷ numbers_in (map (also_owed d a) ps)) (cond_both (p.number == d) p (record p { announcements = p.announcements ++ a ∷ [] }) (λ x. x.number ≡ p.number) (λ e. refl) (λ e. refl))
    ∙ ap (λ ns. p.number ∷ ns) (also_numbers d a ps)

pub put-number : (p : Peer) → (first_put p).number ≡ p.number
put-number p = cond_both (length p.announcements == 0) (record p { free = p.free - 1; replies = drop 1 p.replies }) (record p { free = p.free - 1; announcements = drop 1 p.announcements }) (λ x. x.number ≡ p.number) (λ e. refl) (λ e. refl)

pub numbers-kept : (s : DomainState) (c : Change) → numbers_in (peers_after c s) ≡ numbers_in s.peers
numbers-kept s (end_announced a) = also_numbers s.number a s.peers
numbers-kept s (reply_owed n r) = map-changed_first (λ p. p.number) (is_numbered n) (λ p. record p { replies = p.replies ++ r ∷ [] }) (λ p. refl) s.peers
numbers-kept s (owed_put n) = map-changed_first (λ p. p.number) (is_numbered n) first_put put-number s.peers
numbers-kept s (buffers_back n count) = map-changed_first (λ p. p.number) (is_numbered n) (λ p. record p { free = p.free + count }) (λ p. refl) s.peers
numbers-kept s (frames_shown n count) = map-changed_first (λ p. p.number) (is_numbered n) (λ p. record p { shown = count }) (λ p. refl) s.peers
numbers-kept s (frame_taken n part names) = map-changed_first (λ p. p.number) (is_numbered n) (λ p. record p { shown = p.shown - 1; part = part }) (λ p. refl) s.peers
numbers-kept s (names_known n names) = map-changed_first (λ p. p.number) (is_numbered n) (λ p. record p { known = names }) (λ p. refl) s.peers
numbers-kept s (buffers_used n count) = map-changed_first (λ p. p.number) (is_numbered n) (λ p. record p { free = p.free - count }) (λ p. refl) s.peers
numbers-kept s other = refl

-- ---- a change

pub ends-changed : (s : DomainState) (c : Change) → Ends s → Ends (changed s c)
ends-changed s (endpoint_made at) ends = ends_made s at ends
ends-changed s (endpoint_gone a) ends = ends_gone s a ends
ends-changed s (item_queued a i) ends = let more = ends_one s a (with_queue (λ q. q ++ i ∷ [])) (λ e. refl) ends in record { apart = more.apart; below = more.below }
ends-changed s (best_gone a) ends = let less = ends_one s a (with_queue (without_best (λ i. i.priority))) (λ e. refl) ends in record { apart = less.apart; below = less.below }
ends-changed s (oldest_gone a) ends = let less = ends_one s a (with_queue (drop 1)) (λ e. refl) ends in record { apart = less.apart; below = less.below }
ends-changed s (item_lost a i) ends = record { apart = ends.apart; below = ends.below }
ends-changed s (channel_set a c) ends = let other = ends_one s a (with_channel c) (λ e. refl) ends in record { apart = other.apart; below = other.below }
ends-changed s (queue_dropped a c) ends = let other = ends_one s a (without_queue c) (λ e. refl) ends in record { apart = other.apart; below = other.below }
ends-changed s (request_added asked o) ends = record { apart = ends.apart; below = ends.below }
ends-changed s (item_handed a i) ends = record { apart = ends.apart; below = ends.below }
ends-changed s (waiting_ended a word) ends = record { apart = ends.apart; below = ends.below }
ends-changed s (name_found n a) ends = record { apart = ends.apart; below = ends.below }
ends-changed s (connect_settled n o) ends = record { apart = ends.apart; below = ends.below }
ends-changed s (request_gone place) ends = record { apart = ends.apart; below = ends.below }
ends-changed s (end_announced a) ends = record { apart = ends.apart; below = ends.below }
ends-changed s (reply_owed n r) ends = record { apart = ends.apart; below = ends.below }
ends-changed s (owed_put n) ends = record { apart = ends.apart; below = ends.below }
ends-changed s (buffers_back n count) ends = record { apart = ends.apart; below = ends.below }
ends-changed s (frames_shown n count) ends = record { apart = ends.apart; below = ends.below }
ends-changed s (frame_taken n part names) ends = record { apart = ends.apart; below = ends.below }
ends-changed s (names_known n names) ends = record { apart = ends.apart; below = ends.below }
ends-changed s (buffers_used n count) ends = record { apart = ends.apart; below = ends.below }
ends-changed s (packet_lent i) ends = record { apart = ends.apart; below = ends.below }
ends-changed s (packet_gone place) ends = record { apart = ends.apart; below = ends.below }
ends-changed s channel_given ends = record { apart = ends.apart; below = ends.below }

pub ends-all : (s : DomainState) (cs : List Change) → Ends s → Ends (changed_all s cs)
ends-all s [] ends = ends
ends-all s (c ∷ cs) ends = ends-all (changed s c) cs (ends-changed s c ends)

pub numbers-all : (s : DomainState) (cs : List Change) → numbers_in (changed_all s cs).peers ≡ numbers_in s.peers
numbers-all s [] = refl
numbers-all s (c ∷ cs) = numbers-all (changed s c) cs ∙ numbers-kept s c

-- ---- the endpoint of a name by its address

pub record ByAddress (at : Local) (es : List Endpoint) (e : Endpoint) : Type 0 where
  pub found : find (has_address_of e.address) es ≡ Some e
  pub changes : (f : Endpoint → Endpoint) → changed_first (has_address_of e.address) f es ≡ changed_first (is_at at) f es
  pub gone : filter (λ d. not (has_address_of e.address d)) es ≡ without_first (is_at at) es

all_stay : (a : ℕ) (es : List Endpoint) → AllByRecursion (λ f. has_address_of a f ≡ false) es → filter (λ d. not (has_address_of a d)) es ≡ es
all_stay a [] all = refl
all_stay a (e ∷ es) all = let other = all.0 in rw other (ap (λ fs. e ∷ fs) (all_stay a es all.1))

address_here : (at : Local) (x : Endpoint) (es : List Endpoint) → is_at at x ≡ true → AllByRecursion (λ f. has_address_of x.address f ≡ false) es → ByAddress at (x ∷ es) x
address_here at x es here differ =
    let itself : (x.address == x.address) ≡ true = eq-eqb x.address x.address refl in
    record {
      found = ap (λ b. cond b (Some x) (find (has_address_of x.address) es)) itself;
      changes = λ f. ap (λ b. cond b (f x ∷ es) (x ∷ changed_first (has_address_of x.address) f es)) itself ∙ sym (ap (λ b. cond b (f x ∷ es) (x ∷ changed_first (is_at at) f es)) here);
      gone =
          ap (λ b. cond (not b) (x ∷ filter (λ (d : Endpoint). not (has_address_of x.address d)) es) (filter (λ (d : Endpoint). not (has_address_of x.address d)) es)) itself
          ∙ (all_stay x.address es differ ∙ sym (ap (λ b. cond b es (x ∷ without_first (is_at at) es)) here));
    }

address_later : (at : Local) (x : Endpoint) (es : List Endpoint) (e : Endpoint) → is_at at x ≡ false → has_address_of e.address x ≡ false → ByAddress at es e → ByAddress at (x ∷ es) e
address_later at x es e other differs by = record {
  found = ap (λ b. cond b (Some x) (find (has_address_of e.address) es)) differs ∙ by.found;
  changes =
      λ f. ap (λ b. cond b (f x ∷ es) (x ∷ changed_first (has_address_of e.address) f es)) differs
      ∙ (ap (λ fs. x ∷ fs) (by.changes f) ∙ sym (ap (λ b. cond b (f x ∷ es) (x ∷ changed_first (is_at at) f es)) other));
  gone =
      ap (λ b. cond (not b) (x ∷ filter (λ (d : Endpoint). not (has_address_of e.address d)) es) (filter (λ (d : Endpoint). not (has_address_of e.address d)) es)) differs
      ∙ (ap (λ fs. x ∷ fs) (by.gone) ∙ sym (ap (λ b. cond b es (x ∷ without_first (is_at at) es)) other));
}

swapped : (x e : Endpoint) → has_address_of x.address e ≡ false → has_address_of e.address x ≡ false
swapped x e differs = ne_eqb x.address e.address (λ same. let equal : (e.address == x.address) ≡ true = eq-eqb e.address x.address (sym same) in absurd cc)

pub by_address : (at : Local) (es : List Endpoint) (e : Endpoint) → EndsApart es → find (is_at at) es ≡ Some e → ByAddress at es e
by_address at [] e apart found = absurd cc
by_address at (x ∷ es) e apart found = go (is_at at x) refl found (λ later. by_address at es e apart.1 later)
  where
    go : (b : Bool) → is_at at x ≡ b → cond b (Some x) (find (is_at at) es) ≡ Some e → (find (is_at at) es ≡ Some e → ByAddress at es e) → ByAddress at (x ∷ es) e
    go true here is later = let same : x ≡ e = cc in subst (ByAddress at (x ∷ es)) same (address_here at x es here apart.0)
    go false other is later = address_later at x es e other (swapped x e (all-found (λ (f : Endpoint). has_address_of x.address f ≡ false) (is_at at) es e apart.0 is)) (later is)

-- its name
pub named_so : (at : Local) (e : Endpoint) → is_at at e ≡ true → e.local ≡ at
named_so at e is =
    let parts = and_parts (e.local.node == at.node) (e.local.port == at.port) is in
    ap₂ (λ n p. record { node = n; port = p }) (eqb-true e.local.node at.node parts.0) (eqb-true e.local.port at.port parts.1)

-- ---- the endpoint of a call

-- where none of the words is that there is no endpoint, there is one
pub there_is : (u : DomainState) (at : Local) → not (is_some (place_at u at)) ≡ false → (e : Endpoint) × (live_at u at ≡ Some e)
there_is u at there = go (live_at u at) (sym (some-position (is_at at) u.endpoints))
  where
    go : (o : Option Endpoint) → is_some o ≡ is_some (place_at u at) → (e : Endpoint) × (o ≡ Some e)
    go None same = absurd cc
    go (Some e) same = (e, refl)

-- what holds of nothing, and of what happens at an end of a channel, holds of what happens at an endpoint's
pub end-holds : {A : Type 0} (P : List A → Type 0) → P [] → (o : Option Endpoint) (f : Endpoint → ChannelEnd → List A) → ((e : Endpoint) (c : ChannelEnd) → o ≡ Some e → e.channel ≡ Some c → P (f e c)) → P (at_end o f)
end-holds P none None f each = none
end-holds P none (Some e) f each = go e.channel refl
  where
    go : (c : Option ChannelEnd) → e.channel ≡ c → P (at_channel c (f e))
    go None has = none
    go (Some c) has = each e c refl has

-- what holds of each packet that is lent holds of what a receive and a test lend
pub lending-holds : (P : Change → Type 0) → ((i : Item) → P (packet_lent i)) → (o : Option Item) → AllByRecursion P (lending o)
lending-holds P each None = tt
lending-holds P each (Some i) = (each i, tt)

-- a test lends nothing, or one packet
pub tested-are : (o : Option Request) → (lent_by_test o ≡ []) ⊎ ((i : Item) × (lent_by_test o ≡ packet_lent i ∷ []))
tested-are None = inl refl
tested-are (Some r) = go r.asked r.outcome
  where
    go : (asked : Asked) (o : Option Outcome) → (lent_by asked o ≡ []) ⊎ ((i : Item) × (lent_by asked o ≡ packet_lent i ∷ []))
    go (packet_at at) None = inl refl
    go (packet_at at) (Some (has_address a)) = inl refl
    go (packet_at at) (Some is_accepted) = inl refl
    go (packet_at at) (Some (is_rejected why)) = inl refl
    go (packet_at at) (Some (has_item i)) = inr (i, refl)
    go (packet_at at) (Some (has_ended word)) = inl refl
    go asked o = inl refl

pub tested-holds : (P : Change → Type 0) → ((i : Item) → P (packet_lent i)) → (o : Option Request) → AllByRecursion P (lent_by_test o)
tested-holds P each o = elim (tested-are o) [ inl none ↦ subst (AllByRecursion P) (sym none) tt | inr one ↦ subst (AllByRecursion P) (sym one.1) (each one.0, tt) ]

-- changes that each keep a part of the state keep it together
pub all-same : {X : Type 0} (f : DomainState → X) (cs : List Change) → AllByRecursion (λ c. (t : DomainState) → f (changed t c) ≡ f t) cs → (t : DomainState) → f (changed_all t cs) ≡ f t
all-same f [] same t = refl
all-same f (c ∷ cs) same t = all-same f cs same.1 (changed t c) ∙ same.0 t

pub not_there : (u : DomainState) (at : Local) → is_some (place_at u at) ≡ false → live_at u at ≡ None
not_there u at none = go (live_at u at) (sym (some-position (is_at at) u.endpoints))
  where
    go : (o : Option Endpoint) → is_some o ≡ is_some (place_at u at) → o ≡ None
    go None same = refl
    go (Some e) same = absurd cc
