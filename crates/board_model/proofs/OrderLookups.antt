-- The endpoint that a call finds where it is not refused, and what is known of it.
use Rattle.std.proofs.Common.{◌≡◌, Bool, true, false, not, cond, List, [], ◌∷◌, find, Option, Some, None, refl, sym, ap, ◌∙◌}
use Rattle.std.specs.Prelude.{is_some}
use Rattle.std.specs.List.{AllByRecursion}
use Rattle.mc_base.specs.declared.name.Local.{Local}
use Rattle.mc_base.specs.declared.refusal.Refusal.{Refusal}
use Rattle.mc_base.specs.declared.refusal.Refusal.TheVariants.{NotConnected}
use Rattle.board_model.specs.State.{ChannelEnd, Endpoint, DomainState, is_at, live_at, place_at, endpoint_at, channel_in}
use Rattle.board_model.specs.Answer.{has_channel, channel_at, end_holds, holds_at_end}
use Rattle.board_model.specs.ChannelEnds.{EndCall}
use Rattle.board_model.proofs.MessageLists.{get-position, some-position}

-- ---- calls: what the old lookups find

pub live_found : (s : DomainState) (at : Local) → endpoint_at s at ≡ live_at s at
live_found s at = get-position (is_at at) s.endpoints

pub live_some : (s : DomainState) (at : Local) → is_some (place_at s at) ≡ is_some (live_at s at)
live_some s at = some-position (is_at at) s.endpoints

-- no word holds
pub none_holds : (h : Refusal → Bool) (ws : List Refusal) → find h ws ≡ None → AllByRecursion (λ w. h w ≡ false) ws
none_holds h [] none = tt
none_holds h (w ∷ ws) none = go (h w) refl none (λ k. none_holds h ws k)
  where
    go : (b : Bool) → h w ≡ b → cond b (Some w) (find h ws) ≡ None → (find h ws ≡ None → AllByRecursion (λ v. h v ≡ false) ws) → (h w ≡ false) × AllByRecursion (λ v. h v ≡ false) ws
    go true is k later = absurd cc
    go false is k later = (is, later k)

pub not_not : (b : Bool) → not b ≡ false → b ≡ true
not_not true e = refl
not_not false e = absurd cc

some_of : {A : Type 0} (o : Option A) → is_some o ≡ true → (x : A) × (o ≡ Some x)
some_of None e = absurd cc
some_of (Some x) e = (x, refl)

-- a call at an endpoint finds it
pub live_here : (s : DomainState) (at : Local) → not (is_some (place_at s at)) ≡ false → (e : Endpoint) × (live_at s at ≡ Some e)
live_here s at h = some_of (live_at s at) (sym (live_some s at) ∙ not_not (is_some (place_at s at)) h)

-- it has no channel
pub free_here : (s : DomainState) (at : Local) (e : Endpoint) → live_at s at ≡ Some e → has_channel (endpoint_at s at) ≡ false → e.channel ≡ None
free_here s at e found none = go e.channel (sym (ap has_channel (live_found s at ∙ found)) ∙ none)
  where
    go : (c : Option ChannelEnd) → is_some c ≡ false → c ≡ None
    go None h = refl
    go (Some c) h = absurd cc

-- it has one
pub end_here : (s : DomainState) (at : Local) (e : Endpoint) (call : EndCall) → live_at s at ≡ Some e → holds_at_end (Some call) (channel_at s at) NotConnected ≡ false → (c : ChannelEnd) × (e.channel ≡ Some c)
end_here s at e call found connected = go e.channel refl (sym (ap (λ o. end_holds call (channel_in o) NotConnected) found) ∙ connected)
  where
    go : (o : Option ChannelEnd) → e.channel ≡ o → end_holds call o NotConnected ≡ false → (c : ChannelEnd) × (e.channel ≡ Some c)
    go None is h = absurd cc
    go (Some c) is h = (c, is)
