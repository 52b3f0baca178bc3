-- What each change does to the receiver's end of a channel.
use Rattle.std.proofs.Common.{◌≡◌, ℕ, ◌+◌, Bool, true, false, cond, List, [], ◌∷◌, ◌++◌, Option, Some, None, option_map, option_to_list, refl, sym, ap, ◌∙◌, subst}
use Rattle.std.specs.Prelude.{◌==◌}
use Rattle.std.proofs.lemmas.Bool.{eq-eqb}
use Rattle.board_model.proofs.Views.{first_of, if_at, seen}
use Rattle.board_model.proofs.Hearing.{Heard, heard_of, heard, accepts, Moves, stays, comes, passes, loses, gives}
use Rattle.board_model.proofs.ChannelWords.{rest, end_is, hears, contents_if, taken_by}
use Rattle.board_model.specs.Change.{Change, item_lost, endpoint_made, endpoint_gone, channel_set, item_queued, best_gone, oldest_gone, queue_dropped, item_handed, reply_owed, with_channel, with_queue, without_queue, endpoint_with, changed}
use Rattle.board_model.specs.ChannelEnds.{hears_from, is_closed}
use Rattle.board_model.proofs.ChannelWords.{dropped_by}
use Rattle.board_model.specs.Choice.{oldest, without_best}
use Rattle.board_model.specs.State.{Item, ChannelEnd, Endpoint, DomainState, endpoint_of, replying}
use Rattle.mc_base.specs.Limits.{first_address}
use Rattle.mc_base.specs.Reading.{reading}

-- the end is not closed
abbrev pub is_live : Endpoint → Type 0
is_live e = end_is (λ c. is_closed c.stage) e.channel ≡ false

-- what is asked where a change comes that brings nothing of the channel
abbrev pub Fits : ℕ → ℕ → DomainState → Change → Type 0
Fits o n s (endpoint_gone a) = heard o n (endpoint_of s a) ≡ None
Fits o n s (best_gone a) = heard o n (endpoint_of s a) ≡ None
Fits o n s (channel_set a c) = Moves (heard o n (endpoint_of s a)) (heard o n (option_map (with_channel c) (endpoint_of s a))) [] [] []
Fits o n s (queue_dropped a c) = Moves (heard o n (endpoint_of s a)) (heard o n (option_map (without_queue c) (endpoint_of s a))) [] [] (dropped_by o n s (queue_dropped a c))
Fits o n s (item_queued a i) = heard o n (endpoint_of s a) ≡ None
Fits o n s (item_handed a i) = heard o n (endpoint_of s a) ≡ None
Fits o n s (item_lost a i) = heard o n (endpoint_of s a) ≡ None
Fits o n s (oldest_gone a) = (e : Endpoint) × (endpoint_of s a ≡ Some e) × is_live e
Fits o n s (reply_owed p f) = (p == o) ≡ true → accepts n (reading (replying f)) ≡ false
Fits o n s other = Unit {0}

-- what happens to the end by a change
pub record Happens (o n : ℕ) (s : DomainState) (c : Change) (came : List (List ℕ)) : Type 0 where
  pub at : ℕ
  pub others : (b : ℕ) → (at == b) ≡ false → heard o n (endpoint_of (changed s c) b) ≡ heard o n (endpoint_of s b)
  pub here : Moves (heard o n (endpoint_of s at)) (heard o n (endpoint_of (changed s c) at)) came (taken_by o n s c) (dropped_by o n s c)

pub same_at : (a b : ℕ) (f : Endpoint → Endpoint) (x : Option Endpoint) → (a == b) ≡ false → if_at a b f x ≡ x
same_at a b f x other = rw other refl

pub at_it : (a : ℕ) (f : Endpoint → Endpoint) (x : Option Endpoint) → if_at a a f x ≡ option_map f x
at_it a f x = rw (eq-eqb a a refl) refl

-- what is heard at an endpoint whose end is known
queued_at : (o n : ℕ) (i : Item) (e : Endpoint) → is_live e → Moves (heard o n (Some e)) (heard o n (Some (with_queue (λ q. q ++ i ∷ []) e))) (contents_if (hears o n (Some e)) (i ∷ [])) [] []
queued_at o n i e live = go e.channel live
  where
    go : (c : Option ChannelEnd) → end_is (λ c. is_closed c.stage) c ≡ false → Moves (heard_of o n c e.queue) (heard_of o n c (e.queue ++ i ∷ [])) (contents_if (end_is (hears_from o n) c) (i ∷ [])) [] []
    go None l = stays None
    go (Some c) l = elim (hears_from o n c) as (λ b. Moves (cond b (Some (record { end = c; queue = e.queue })) None) (cond b (Some (record { end = c; queue = e.queue ++ i ∷ [] })) None) (contents_if b (i ∷ [])) [] [])
        [ true ↦ comes (record { end = c; queue = e.queue }) i l | false ↦ stays None ]

handed_at : (o n : ℕ) (i : Item) (e : Endpoint) → is_live e → e.queue ≡ [] → Moves (heard o n (Some e)) (heard o n (Some e)) (contents_if (hears o n (Some e)) (i ∷ [])) (contents_if (hears o n (Some e)) (i ∷ [])) []
handed_at o n i e live empty = go e.channel live
  where
    go : (c : Option ChannelEnd) → end_is (λ c. is_closed c.stage) c ≡ false → Moves (heard_of o n c e.queue) (heard_of o n c e.queue) (contents_if (end_is (hears_from o n) c) (i ∷ [])) (contents_if (end_is (hears_from o n) c) (i ∷ [])) []
    go None l = stays None
    go (Some c) l = elim (hears_from o n c) as (λ b. Moves (cond b (Some (record { end = c; queue = e.queue })) None) (cond b (Some (record { end = c; queue = e.queue })) None) (contents_if b (i ∷ [])) (contents_if b (i ∷ [])) [])
        [ true ↦ passes (record { end = c; queue = e.queue }) i l empty | false ↦ stays None ]

lost_at : (o n : ℕ) (i : Item) (e : Endpoint) → end_is (λ c. is_closed c.stage) e.channel ≡ true → Moves (heard o n (Some e)) (heard o n (Some e)) (contents_if (hears o n (Some e)) (i ∷ [])) [] (contents_if (hears o n (Some e)) (i ∷ []))
lost_at o n i e closed_end = go e.channel closed_end
  where
    go : (c : Option ChannelEnd) → end_is (λ c. is_closed c.stage) c ≡ true → Moves (heard_of o n c e.queue) (heard_of o n c e.queue) (contents_if (end_is (hears_from o n) c) (i ∷ [])) [] (contents_if (end_is (hears_from o n) c) (i ∷ []))
    go None l = stays None
    go (Some c) l = elim (hears_from o n c) as (λ b. Moves (cond b (Some (record { end = c; queue = e.queue })) None) (cond b (Some (record { end = c; queue = e.queue })) None) (contents_if b (i ∷ [])) [] (contents_if b (i ∷ [])))
        [ true ↦ loses (record { end = c; queue = e.queue }) i l | false ↦ stays None ]

given_at : (o n : ℕ) (e : Endpoint) → is_live e → Moves (heard o n (Some e)) (heard o n (Some (with_queue rest e))) [] (contents_if (hears o n (Some e)) (option_to_list (oldest e.queue))) []
given_at o n e live = go e.channel live
  where
    go : (c : Option ChannelEnd) → end_is (λ c. is_closed c.stage) c ≡ false → Moves (heard_of o n c e.queue) (heard_of o n c (rest e.queue)) [] (contents_if (end_is (hears_from o n) c) (option_to_list (oldest e.queue))) []
    go None l = stays None
    go (Some c) l = elim (hears_from o n c) as (λ b. Moves (cond b (Some (record { end = c; queue = e.queue })) None) (cond b (Some (record { end = c; queue = rest e.queue })) None) [] (contents_if b (option_to_list (oldest e.queue))) [])
        [ true ↦ gives (record { end = c; queue = e.queue }) l | false ↦ stays None ]

none_either : (b : Bool) (x y : Heard) → cond b (Some x) None ≡ None → cond b (Some y) None ≡ None
none_either true x y h = absurd cc
none_either false x y h = refl

unheard_queue : (o n : ℕ) (f : List Item → List Item) (x : Option Endpoint) → heard o n x ≡ None → heard o n (option_map (with_queue f) x) ≡ None
unheard_queue o n f None none = none
unheard_queue o n f (Some e) none = go e.channel none
  where
    go : (c : Option ChannelEnd) → heard_of o n c e.queue ≡ None → heard_of o n c (f e.queue) ≡ None
    go None h = refl
    go (Some c) h = none_either (hears_from o n c) (record { end = c; queue = e.queue }) (record { end = c; queue = f e.queue }) h

pub unheard_false : (o n : ℕ) (x : Option Endpoint) → heard o n x ≡ None → hears o n x ≡ false
unheard_false o n None none = refl
unheard_false o n (Some e) none = go e.channel none
  where
    none_false : (b : Bool) (x : Heard) → cond b (Some x) None ≡ None → b ≡ false
    none_false true x h = absurd cc
    none_false false x h = refl

    go : (c : Option ChannelEnd) → heard_of o n c e.queue ≡ None → end_is (hears_from o n) c ≡ false
    go None h = refl
    go (Some c) h = none_false (hears_from o n c) (record { end = c; queue = e.queue }) h

unheard_new : (o n : ℕ) (s : DomainState) (at : _) (x : Option Endpoint) (b : Bool) → heard o n (first_of x (cond b (Some (endpoint_with s at)) None)) ≡ heard o n x
unheard_new o n s at (Some e) b = refl
unheard_new o n s at None true = refl
unheard_new o n s at None false = refl

-- a change that leaves the endpoint, or what is heard of it
module _ (o n : ℕ) (s : DomainState) where
  none_moves : (old new : Option Heard) → old ≡ None → new ≡ None → Moves old new [] [] []
  none_moves old new a b = rw (a, b) (stays None)

  pub happens : (c : Change) → Fits o n s c → Happens o n s c []
  happens (endpoint_made at) fits = record {
    at = 0;
    others = λ b other. ap (heard o n) (seen s (endpoint_made at) b) ∙ unheard_new o n s at (endpoint_of s b) (first_address + s.endpoints_given == b);
    here = subst (λ x. Moves (heard o n (endpoint_of s 0)) x [] [] []) (sym (ap (heard o n) (seen s (endpoint_made at) 0) ∙ unheard_new o n s at (endpoint_of s 0) (first_address + s.endpoints_given == 0))) (stays (heard o n (endpoint_of s 0)));
  }
  happens (endpoint_gone a) fits = record {
    at = a;
    others = λ b other. ap (heard o n) (seen s (endpoint_gone a) b ∙ ap (λ k. cond k None (endpoint_of s b)) other);
    here = none_moves _ _ fits (ap (heard o n) (seen s (endpoint_gone a) a ∙ ap (λ k. cond k None (endpoint_of s a)) (eq-eqb a a refl)));
  }
  happens (best_gone a) fits = record {
    at = a;
    others = λ b other. ap (heard o n) (seen s (best_gone a) b ∙ same_at a b _ _ other);
    here = none_moves _ _ fits (ap (heard o n) (seen s (best_gone a) a ∙ at_it a _ _) ∙ unheard_queue o n (without_best (λ i. i.priority)) (endpoint_of s a) fits);
  }
  happens (channel_set a c) fits = record {
    at = a;
    others = λ b other. ap (heard o n) (seen s (channel_set a c) b ∙ same_at a b _ _ other);
    here = subst (λ x. Moves (heard o n (endpoint_of s a)) x [] [] []) (sym (ap (heard o n) (seen s (channel_set a c) a ∙ at_it a _ _))) fits;
  }
  happens (queue_dropped a c) fits = record {
    at = a;
    others = λ b other. ap (heard o n) (seen s (queue_dropped a c) b ∙ same_at a b _ _ other);
    here = subst (λ x. Moves (heard o n (endpoint_of s a)) x [] [] (dropped_by o n s (queue_dropped a c))) (sym (ap (heard o n) (seen s (queue_dropped a c) a ∙ at_it a _ _))) fits;
  }
  happens (item_queued a i) fits = record {
    at = a;
    others = λ b other. ap (heard o n) (seen s (item_queued a i) b ∙ same_at a b _ _ other);
    here = none_moves _ _ fits (ap (heard o n) (seen s (item_queued a i) a ∙ at_it a _ _) ∙ unheard_queue o n (λ q. q ++ i ∷ []) (endpoint_of s a) fits);
  }
  happens (item_handed a i) fits = record {
    at = a;
    others = λ b other. refl;
    here = subst (λ k. Moves (heard o n (endpoint_of s a)) (heard o n (endpoint_of s a)) [] (contents_if k (i ∷ [])) []) (sym (unheard_false o n (endpoint_of s a) fits)) (stays (heard o n (endpoint_of s a)));
  }
  happens (item_lost a i) fits = record {
    at = a;
    others = λ b other. refl;
    here = subst (λ k. Moves (heard o n (endpoint_of s a)) (heard o n (endpoint_of s a)) [] [] (contents_if k (i ∷ []))) (sym (unheard_false o n (endpoint_of s a) fits)) (stays (heard o n (endpoint_of s a)));
  }
  happens (oldest_gone a) fits = record {
    at = a;
    others = λ b other. ap (heard o n) (seen s (oldest_gone a) b ∙ same_at a b _ _ other);
    here = rw (seen s (oldest_gone a) a, at_it a (with_queue rest) (endpoint_of s a), fits.1) (given_at o n fits.0 fits.2);
  }
  happens other fits = record { at = 0; others = λ b h. refl; here = stays (heard o n (endpoint_of s 0)) }

  -- what brings an item of the channel
  pub queued_happens : (a : ℕ) (i : Item) (e : Endpoint) → endpoint_of s a ≡ Some e → is_live e → Happens o n s (item_queued a i) (contents_if (hears o n (Some e)) (i ∷ []))
  queued_happens a i e found live = record {
    at = a;
    others = λ b other. ap (heard o n) (seen s (item_queued a i) b ∙ same_at a b _ _ other);
    here = rw (seen s (item_queued a i) a, at_it a (with_queue (λ q. q ++ i ∷ [])) (endpoint_of s a), found) (queued_at o n i e live);
  }

  pub handed_happens : (a : ℕ) (i : Item) (e : Endpoint) → endpoint_of s a ≡ Some e → is_live e → e.queue ≡ [] → Happens o n s (item_handed a i) (contents_if (hears o n (Some e)) (i ∷ []))
  handed_happens a i e found live empty = record { at = a; others = λ b other. refl; here = rw found (handed_at o n i e live empty) }

  pub lost_happens : (a : ℕ) (i : Item) (e : Endpoint) → endpoint_of s a ≡ Some e → end_is (λ c. is_closed c.stage) e.channel ≡ true → Happens o n s (item_lost a i) (contents_if (hears o n (Some e)) (i ∷ []))
  lost_happens a i e found closed_end = record { at = a; others = λ b other. refl; here = rw found (lost_at o n i e closed_end) }
