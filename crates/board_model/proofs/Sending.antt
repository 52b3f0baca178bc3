-- The sender's end of a channel: what is known of it, of the letters that were put on its lane, and of the accept that came.
use Rattle.std.proofs.Common.{◌≡◌, ℕ, ◌+◌, ◌≤◌, ◌<◌, Bool, true, false, cond, ◌⊎◌, inl, inr, List, [], ◌∷◌, Option, Some, None, option_map, refl, sym, ap, ◌∙◌, subst, arith}
use Rattle.std.specs.Prelude.{◌==◌, ◌&&◌}
use Rattle.std.specs.List.{list_any}
use Rattle.std.proofs.lemmas.Bool.{eqb-true, eqb-false, eq-eqb, ne_eqb, cases_Bool}
use Rattle.board_model.proofs.Views.{first_of, if_at, seen}
use Rattle.board_model.proofs.Hearing.{accepts}
use Rattle.board_model.proofs.HearingChanges.{same_at, at_it}
use Rattle.board_model.proofs.ChannelWords.{is_sender, Way, not_begun, goes_to, is_over}
use Rattle.board_model.specs.Change.{Change, endpoint_made, endpoint_gone, channel_set, item_queued, best_gone, oldest_gone, queue_dropped, channel_given, with_channel, with_queue, without_queue, endpoint_with, changed, changed_all}
use Rattle.board_model.specs.ChannelEnds.{is_closed, is_connecting}
use Rattle.board_model.specs.State.{Item, ChannelEnd, Endpoint, DomainState, endpoint_of}
use Rattle.mc_base.specs.Reading.{reading}

abbrev pub sent_of : ℕ → Option ChannelEnd → Option ChannelEnd
sent_of n None = None
sent_of n (Some c) = cond (is_sender c.side && c.number == n) (Some c) None

abbrev pub sent : ℕ → Option Endpoint → Option ChannelEnd
sent n None = None
sent n (Some e) = sent_of n e.channel

-- an accept of the channel is among the frames
abbrev pub Accepted : ℕ → List (List ℕ) → Type 0
Accepted n fs = list_any (λ f. accepts n (reading f)) fs ≡ true

-- data were put only after an accept came
abbrev pub MayHave : ℕ → List (List ℕ) → List (List ℕ) → Type 0
MayHave n t m = (m ≡ []) ⊎ Accepted n t

pub record Outgoing (n p : ℕ) (w : Way) (t m : List (List ℕ)) (c : ChannelEnd) : Type 0 where
  pub may : MayHave n t m
  pub told : (c.peer == p) ≡ true → is_connecting c.stage ≡ false → Accepted n t
  pub way : w ≡ cond (c.peer == p) (cond (is_closed c.stage) (is_over c.peer_address) (goes_to c.peer_address c.kind)) not_begun

abbrev pub SentAt : ℕ → ℕ → Way → List (List ℕ) → List (List ℕ) → Option ChannelEnd → Type 0
SentAt n p w t m None = MayHave n t m
SentAt n p w t m (Some c) = Outgoing n p w t m c

abbrev pub NoneSends : ℕ → DomainState → Type 0
NoneSends n s = (b : ℕ) → sent n (endpoint_of s b) ≡ None

-- how a domain stands to its channel n on the lane to p, when its letters have gone so far, these frames were taken from p, and these
-- contents were put: the number was not given; or it was, at the endpoint with address a, where the end may be gone
pub data Sending (n p : ℕ) (w : Way) (t m : List (List ℕ)) (s : DomainState) : Type 0 where
  fresh : NoneSends n s → s.channels_given < n → w ≡ not_begun → m ≡ [] → Sending n p w t m s
  numbered : n ≤ s.channels_given → (a : ℕ) → ((b : ℕ) → (a == b) ≡ false → sent n (endpoint_of s b) ≡ None) → SentAt n p w t m (sent n (endpoint_of s a)) → Sending n p w t m s

-- ---- call_changes that put nothing

pub data Alters (n p : ℕ) (t : List (List ℕ)) : Option ChannelEnd → Option ChannelEnd → Type 0 where
  same : (o : Option ChannelEnd) → Alters n p t o o
  turned : (c d : ChannelEnd) → d.peer ≡ c.peer → d.peer_address ≡ c.peer_address → d.kind ≡ c.kind → ((c.peer == p) ≡ true → is_closed d.stage ≡ is_closed c.stage) →
      ((c.peer == p) ≡ true → is_connecting d.stage ≡ false → (is_connecting c.stage ≡ false) ⊎ Accepted n t) → Alters n p t (Some c) (Some d)
  gone : (c : ChannelEnd) → Alters n p t (Some c) None

pub sent_alters : (n p : ℕ) (w : Way) (t m : List (List ℕ)) (old new : Option ChannelEnd) → Alters n p t old new → SentAt n p w t m old → SentAt n p w t m new
sent_alters n p w t m old new (same o) at = at
sent_alters n p w t m old new (gone c) at = at.may
sent_alters n p w t m old new (turned c d peer address kind closed_end keep) at = record {
  may = at.may;
  told = λ e free. let here : (c.peer == p) ≡ true = ap (λ k. k == p) (sym peer) ∙ e in elim (keep here free) [ inl was ↦ at.told here was | inr came ↦ came ];
  way = rw (peer, address, kind) (at.way ∙ go (c.peer == p) closed_end);
}
  where
    go : (b : Bool) → (b ≡ true → is_closed d.stage ≡ is_closed c.stage) →
        cond b (cond (is_closed c.stage) (is_over c.peer_address) (goes_to c.peer_address c.kind)) not_begun ≡ cond b (cond (is_closed d.stage) (is_over c.peer_address) (goes_to c.peer_address c.kind)) not_begun
    go true closed_end = ap (λ k. cond k (is_over c.peer_address) (goes_to c.peer_address c.kind)) (sym (closed_end refl))
    go false closed_end = refl

abbrev pub FitsOut : ℕ → ℕ → List (List ℕ) → DomainState → Change → Type 0
FitsOut n p t s (endpoint_gone a) = sent n (endpoint_of s a) ≡ None
FitsOut n p t s (channel_set a c) = Alters n p t (sent n (endpoint_of s a)) (sent n (option_map (with_channel c) (endpoint_of s a)))
FitsOut n p t s (queue_dropped a c) = Alters n p t (sent n (endpoint_of s a)) (sent n (option_map (without_queue c) (endpoint_of s a)))
FitsOut n p t s channel_given = s.channels_given + 1 ≡ n → ⊥
FitsOut n p t s other = Unit {0}

record Goes (n p : ℕ) (t : List (List ℕ)) (s : DomainState) (c : Change) : Type 0 where
  at : ℕ
  others : (b : ℕ) → (at == b) ≡ false → sent n (endpoint_of (changed s c) b) ≡ sent n (endpoint_of s b)
  here : Alters n p t (sent n (endpoint_of s at)) (sent n (endpoint_of (changed s c) at))
  fewer : s.channels_given < n → (changed s c).channels_given < n
  more : n ≤ s.channels_given → n ≤ (changed s c).channels_given

queue_same : (n : ℕ) (f : List Item → List Item) (x : Option Endpoint) → sent n (option_map (with_queue f) x) ≡ sent n x
queue_same n f None = refl
queue_same n f (Some e) = refl

new_same : (n : ℕ) (s : DomainState) (at : _) (x : Option Endpoint) (b : Bool) → sent n (first_of x (cond b (Some (endpoint_with s at)) None)) ≡ sent n x
new_same n s at (Some e) b = refl
new_same n s at None true = refl
new_same n s at None false = refl

module _ (n p : ℕ) (t : List (List ℕ)) (s : DomainState) where
  both_none : (old new : Option ChannelEnd) → old ≡ None → new ≡ None → Alters n p t old new
  both_none old new a b = rw (a, b) (same None)

  kept : (old new : Option ChannelEnd) → new ≡ old → Alters n p t old new
  kept old new e = rw e (same old)

  queue_goes : (a b : ℕ) (f : List Item → List Item) → sent n (if_at a b (with_queue f) (endpoint_of s b)) ≡ sent n (endpoint_of s b)
  queue_goes a b f = elim (a == b) as (λ k. sent n (cond k (option_map (with_queue f) (endpoint_of s b)) (endpoint_of s b)) ≡ sent n (endpoint_of s b)) [ true ↦ queue_same n f (endpoint_of s b) | false ↦ refl ]

  goes : (c : Change) → FitsOut n p t s c → Goes n p t s c
  goes (endpoint_made at) fits = record {
    at = 0;
    others = λ b other. ap (sent n) (seen s (endpoint_made at) b) ∙ new_same n s at (endpoint_of s b) _;
    here = kept _ _ (ap (sent n) (seen s (endpoint_made at) 0) ∙ new_same n s at (endpoint_of s 0) _);
    fewer = λ e. omega arith;
    more = λ e. omega arith;
  }
  goes (endpoint_gone a) fits = record {
    at = a;
    others = λ b other. ap (sent n) (seen s (endpoint_gone a) b ∙ ap (λ k. cond k None (endpoint_of s b)) other);
    here = both_none _ _ fits (ap (sent n) (seen s (endpoint_gone a) a ∙ ap (λ k. cond k None (endpoint_of s a)) (eq-eqb a a refl)));
    fewer = λ e. omega arith;
    more = λ e. omega arith;
  }
  goes (channel_set a c) fits = record {
    at = a;
    others = λ b other. ap (sent n) (seen s (channel_set a c) b ∙ same_at a b _ _ other);
    here = subst (Alters n p t (sent n (endpoint_of s a))) (sym (ap (sent n) (seen s (channel_set a c) a ∙ at_it a _ _))) fits;
    fewer = λ e. omega arith;
    more = λ e. omega arith;
  }
  goes (queue_dropped a c) fits = record {
    at = a;
    others = λ b other. ap (sent n) (seen s (queue_dropped a c) b ∙ same_at a b _ _ other);
    here = subst (Alters n p t (sent n (endpoint_of s a))) (sym (ap (sent n) (seen s (queue_dropped a c) a ∙ at_it a _ _))) fits;
    fewer = λ e. omega arith;
    more = λ e. omega arith;
  }
  goes (item_queued a i) fits = record {
    at = a;
    others = λ b other. ap (sent n) (seen s (item_queued a i) b) ∙ queue_goes a b _;
    here = kept _ _ (ap (sent n) (seen s (item_queued a i) a) ∙ queue_goes a a _);
    fewer = λ e. omega arith;
    more = λ e. omega arith;
  }
  goes (best_gone a) fits = record {
    at = a;
    others = λ b other. ap (sent n) (seen s (best_gone a) b) ∙ queue_goes a b _;
    here = kept _ _ (ap (sent n) (seen s (best_gone a) a) ∙ queue_goes a a _);
    fewer = λ e. omega arith;
    more = λ e. omega arith;
  }
  goes (oldest_gone a) fits = record {
    at = a;
    others = λ b other. ap (sent n) (seen s (oldest_gone a) b) ∙ queue_goes a b _;
    here = kept _ _ (ap (sent n) (seen s (oldest_gone a) a) ∙ queue_goes a a _);
    fewer = λ e. omega arith;
    more = λ e. omega arith;
  }
  goes channel_given fits = record { at = 0; others = λ b h. refl; here = same (sent n (endpoint_of s 0)); fewer = λ e. omega (arith, le_ne s.channels_given n e fits); more = λ e. omega arith }
    where
      le_ne : (k n : ℕ) → k < n → (k + 1 ≡ n → ⊥) → k + 1 < n
      le_ne k n less other = omega arith
  goes other fits = record { at = 0; others = λ b h. refl; here = same (sent n (endpoint_of s 0)); fewer = λ e. omega arith; more = λ e. omega arith }

none_alters : (n p : ℕ) (t : List (List ℕ)) (old new : Option ChannelEnd) → Alters n p t old new → old ≡ None → new ≡ None
none_alters n p t old new (same o) none = none
none_alters n p t old new (turned c d a b k e f) none = absurd cc
none_alters n p t old new (gone c) none = refl

pub sending_change : (n p : ℕ) (w : Way) (t m : List (List ℕ)) (s : DomainState) (c : Change) → FitsOut n p t s c → Sending n p w t m s → Sending n p w t m (changed s c)
sending_change n p w t m s c fits (fresh none below way empty) =
    let g = goes n p t s c fits in
    fresh (λ b. elim (cases_Bool (g.at == b)) [
      | inl here ↦ subst (λ k. sent n (endpoint_of (changed s c) k) ≡ None) (eqb-true g.at b here) (none_alters n p t _ _ g.here (none g.at))
      | inr other ↦ g.others b other ∙ none b
    ]) (g.fewer below) way empty
sending_change n p w t m s c fits (numbered given a others at) =
    let g = goes n p t s c fits in
    elim (cases_Bool (g.at == a)) [
      | inl here ↦ let same_place : g.at ≡ a = eqb-true g.at a here in
          numbered (g.more given) a (λ b other. g.others b (subst (λ k. (k == b) ≡ false) (sym same_place) other) ∙ others b other)
          (sent_alters n p w t m _ _ (subst (λ k. Alters n p t (sent n (endpoint_of s k)) (sent n (endpoint_of (changed s c) k))) same_place g.here) at)
      | inr there ↦
          numbered (g.more given) a
          (λ b other. elim (cases_Bool (g.at == b)) [
            | inl it ↦ subst (λ k. sent n (endpoint_of (changed s c) k) ≡ None) (eqb-true g.at b it) (none_alters n p t _ _ g.here (others g.at (ne_eqb a g.at (λ e. absurd (eqb-false g.at a there (sym e))))))
            | inr apart ↦ g.others b apart ∙ others b other
          ])
          (subst (SentAt n p w t m) (sym (g.others a there)) at)
    ]

abbrev pub FitAllOut : ℕ → ℕ → List (List ℕ) → DomainState → List Change → Type 0
FitAllOut n p t s [] = Unit {0}
FitAllOut n p t s (c ∷ cs) = FitsOut n p t s c × FitAllOut n p t (changed s c) cs

pub sending_changes : (n p : ℕ) (w : Way) (t m : List (List ℕ)) (s : DomainState) (cs : List Change) → FitAllOut n p t s cs → Sending n p w t m s → Sending n p w t m (changed_all s cs)
sending_changes n p w t m s [] fits sending = sending
sending_changes n p w t m s (c ∷ cs) fits sending = sending_changes n p w t m (changed s c) cs fits.1 (sending_change n p w t m s c fits.0 sending)
