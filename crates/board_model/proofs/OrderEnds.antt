-- What is queued where the end of a channel at an endpoint changes: no message, before and after.
use Rattle.std.proofs.Common.{◌≡◌, ℕ, Bool, true, false, cond, [], ◌∷◌, ◌++◌, drop, Option, Some, None, refl, sym, ap, ◌∙◌, subst}
use Rattle.std.specs.Prelude.{◌||◌}
use Rattle.std.specs.List.{AllByRecursion}
use Rattle.mc_base.specs.declared.channel.Side.TheVariants.{Sender}
use Rattle.board_model.specs.State.{closed, Item, ChannelEnd, Endpoint, DomainState, has_address_of, endpoint_of}
use Rattle.board_model.specs.Change.{channel_set, queue_dropped, item_queued, oldest_gone, with_queue, with_channel, without_queue, changed}
use Rattle.board_model.specs.ChannelEnds.{same_side, is_closed, closed_end, far_closed_end}
use Rattle.board_model.proofs.OrderSound.{Sound, is_mute, IsMessage, Bound, FitsSound, bound_other, sound_bound}
use Rattle.board_model.proofs.OrderQueues.{messages_at, messages_of, queued_for, queued_same}

-- an end that may follow on another at its endpoint: an end of the same channel that is mute only if the first is, or, on a mute one, none
abbrev pub Follows : ChannelEnd → Option ChannelEnd → Type 0
Follows c None = is_mute c ≡ true
Follows c (Some d) = (d.owner ≡ c.owner) × (d.number ≡ c.number) × (is_mute d ≡ true → is_mute c ≡ true)

pub mute_sender : (c : ChannelEnd) → same_side c.side Sender ≡ true → is_mute c ≡ true
mute_sender c sends = ap (λ b. b || is_closed c.stage) sends

pub mute_closed : (c : ChannelEnd) → is_closed c.stage ≡ true → is_mute c ≡ true
mute_closed c over = go (same_side c.side Sender)
  where
    go : (b : Bool) → (b || is_closed c.stage) ≡ true
    go true = refl
    go false = over

-- an end whose far end closes
pub far_follows : (c : ChannelEnd) → Follows c (far_closed_end c)
far_follows c = go (is_closed c.stage) refl
  where
    go : (b : Bool) → is_closed c.stage ≡ b → Follows c (cond b None (Some (record c { far_closed = true })))
    go true over = mute_closed c over
    go false over = (refl, refl, λ m. m)

-- a sender's end that closes
pub closed_follows : (c : ChannelEnd) → same_side c.side Sender ≡ true → Follows c (closed_end c)
closed_follows c sends = go c.far_closed
  where
    go : (b : Bool) → Follows c (cond b None (Some (record c { stage = closed })))
    go true = mute_sender c sends
    go false = (refl, refl, λ m. mute_sender c sends)

-- at an endpoint with a channel
module _ (s : DomainState) (sound : Sound s) (a : ℕ) (e : Endpoint) (found : endpoint_of s a ≡ Some e) (c : ChannelEnd) (at : e.channel ≡ Some c) where
  pub end_bound : Bound e.queue (Some c)
  end_bound = subst (Bound e.queue) at (sound_bound s sound (has_address_of a) e found)

  -- there are no messages
  no_message : messages_at e.channel e.queue ≡ []
  no_message = ap (λ o. messages_at o e.queue) at

  pub set_fits : (d : Option ChannelEnd) → Follows c d → FitsSound s (channel_set a d)
  set_fits d follows f is = let same : e ≡ f = cc in subst (λ x. Bound x.queue d) same (go d follows)
    where
      go : (d : Option ChannelEnd) → Follows c d → Bound e.queue d
      go None mute = subst (AllByRecursion IsMessage) (sym (end_bound.0 mute)) tt
      go (Some d) same = bound_other e.queue c d same.0 same.1 same.2 end_bound

  pub set_same : (d : Option ChannelEnd) → Follows c d → (b : ℕ) → queued_for (changed s (channel_set a d)) b ≡ queued_for s b
  set_same d follows b = queued_same (with_channel d) (λ x. refl) s a b (λ f is. let same : e ≡ f = cc in subst (λ (x : Endpoint). messages_at d x.queue ≡ messages_at x.channel x.queue) same (go d follows ∙ sym no_message))
    where
      go : (d : Option ChannelEnd) → Follows c d → messages_at d e.queue ≡ []
      go None mute = end_bound.0 mute
      go (Some d) same = refl

  pub dropped_same : (d : Option ChannelEnd) (b : ℕ) → queued_for (changed s (queue_dropped a d)) b ≡ queued_for s b
  dropped_same d b = queued_same (without_queue d) (λ x. refl) s a b (λ f is. let same : e ≡ f = cc in subst (λ (x : Endpoint). messages_at d [] ≡ messages_at x.channel x.queue) same (go d ∙ sym no_message))
    where
      go : (d : Option ChannelEnd) → messages_at d [] ≡ []
      go None = refl
      go (Some d) = refl

  pub oldest_same : (b : ℕ) → queued_for (changed s (oldest_gone a)) b ≡ queued_for s b
  oldest_same b = queued_same (with_queue (drop 1)) (λ x. refl) s a b (λ f is. let same : e ≡ f = cc in subst (λ (x : Endpoint). messages_at x.channel (drop 1 x.queue) ≡ messages_at x.channel x.queue) same (ap (λ o. messages_at o (drop 1 e.queue)) at ∙ sym no_message))

  pub none_queued : queued_for s a ≡ []
  none_queued = ap messages_of found ∙ no_message

  pub item_same : (i : Item) (b : ℕ) → queued_for (changed s (item_queued a i)) b ≡ queued_for s b
  item_same i b = queued_same (with_queue (λ q. q ++ i ∷ [])) (λ x. refl) s a b (λ f is. let same : e ≡ f = cc in subst (λ (x : Endpoint). messages_at x.channel (x.queue ++ i ∷ []) ≡ messages_at x.channel x.queue) same (ap (λ o. messages_at o (e.queue ++ i ∷ [])) at ∙ sym no_message))
