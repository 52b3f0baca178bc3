-- What a call does to the receiver's end of a channel: each change that it makes fits where it comes.
use Rattle.std.proofs.Common.{◌≡◌, ℕ, Bool, true, false, not, cond, List, [], Option, Some, None, option_map, refl, sym, ap, ◌∙◌}
use Rattle.std.specs.Prelude.{◌==◌, ◌&&◌, ◌||◌, is_some}
use Rattle.std.specs.List.{AllByRecursion}
use Rattle.mc_base.specs.declared.channel.Kind.{Kind}
use Rattle.mc_base.specs.declared.channel.Side.{Side}
use Rattle.mc_base.specs.declared.channel.Side.TheVariants.{Sender, Receiver}
use Rattle.mc_base.specs.declared.name.Local.{Local}
use Rattle.mc_base.specs.declared.refusal.Refusal.{Refusal}
use Rattle.mc_base.specs.declared.refusal.Refusal.TheVariants.{ChanDirection, ChanClosed}
use Rattle.board_model.proofs.Hearing.{Heard, heard_of, heard, Moves, stays, turns, shuts, ends}
use Rattle.board_model.proofs.HearingChanges.{is_live}
use Rattle.board_model.proofs.HearingRuns.{FitAll}
use Rattle.board_model.proofs.ChannelWords.{is_sender, end_is, contents_if}
use Rattle.board_model.proofs.MessageLists.{get-position}
use Rattle.board_model.specs.Answer.{first_complete, local, channel_at, has_channel, holds_at_end, end_holds, holds, words_of, refusal, unless_refused}
use Rattle.board_model.specs.CallChanges.{at_channel, at_end, at_live, lent_by, lent_by_test, lending, success_changes, call_changes, new_sender}
use Rattle.board_model.specs.Change.{Change, with_channel}
use Rattle.board_model.specs.ChannelEnds.{EndCall, opens, receives, closes, end_refuses, is_closed, same_side, hears_from, closed_end}
use Rattle.board_model.specs.Choice.{oldest}
use Rattle.board_model.specs.DomainCall.{DomainCall, create_at, delete_at, lookup_of, send_from, receive_at, request_at, available_at, connect_from, open_at, packet_from, lend_at, packet_request_at, release_of, scalar_from, scalar_at, close_at, test_of, wait_for, cancel_of, raw_to, turn_alone}
use Rattle.board_model.specs.State.{Item, ChannelEnd, Endpoint, Asked, packet_at, Outcome, has_item, Request, DomainState, opened, closed, endpoint_at, is_at, live_at, endpoint_of, channel_in, request_at_place}
use Rattle.board_model.proofs.OrderLookups.{none_holds}

-- the endpoint that a name finds is the one that its address finds
abbrev pub Own : DomainState → Type 0
Own s = (at : Local) (e : Endpoint) → live_at s at ≡ Some e → endpoint_of s e.address ≡ Some e

pub no_end : (c : Option ChannelEnd) → is_some c ≡ false → c ≡ None
no_end None e = refl
no_end (Some c) e = absurd cc

-- an endpoint without a channel hears none
pub unconnected : (o n : ℕ) (e : Endpoint) → is_some e.channel ≡ false → heard o n (Some e) ≡ None
unconnected o n e none = ap (λ c. heard_of o n c e.queue) (no_end e.channel none)

pub or_parts : (a b : Bool) → (a || b) ≡ false → (a ≡ false) × (b ≡ false)
or_parts true b e = absurd cc
or_parts false b e = (refl, e)

pub not_false : (b : Bool) → not b ≡ false → b ≡ true
not_false true e = refl
not_false false e = absurd cc

not_receiver : (side : Side) → is_sender side ≡ true → same_side side Receiver ≡ false
not_receiver Sender it = refl
not_receiver Receiver it = absurd cc

-- a sender's end hears nothing
pub sender_deaf : (o n : ℕ) (c : ChannelEnd) (q : List Item) → is_sender c.side ≡ true → heard_of o n (Some c) q ≡ None
sender_deaf o n c q it = ap (λ b. cond {A = Option Heard} (b && (c.number == n && c.owner == o)) (Some (record { end = c; queue = q })) None) (not_receiver c.side it)

none_both : (old new : Option Heard) → old ≡ None → new ≡ None → Moves old new [] [] []
none_both old new a b = rw (a, b) (stays None)

-- an end whose fields are those of another, but for what a turn changes
pub turned : (o n : ℕ) (c d : ChannelEnd) (q : List Item) → hears_from o n d ≡ hears_from o n c → d.kind ≡ c.kind → d.far_closed ≡ c.far_closed → is_closed d.stage ≡ is_closed c.stage → Moves (heard_of o n (Some c) q) (heard_of o n (Some d) q) [] [] []
turned o n c d q same kind far stage = rw same (elim (hears_from o n c) as (λ b. Moves (cond b (Some (record { end = c; queue = q })) None) (cond b (Some (record { end = d; queue = q })) None) [] [] [])
    [ true ↦ turns (record { end = c; queue = q }) d kind far stage | false ↦ stays None ])

-- an end that closes
shuts_heard : (o n : ℕ) (c : ChannelEnd) (q : List Item) → is_closed c.stage ≡ false → Moves (heard_of o n (Some c) q) (heard_of o n (closed_end c) []) [] [] (contents_if (hears_from o n c) q)
shuts_heard o n c q live = go c.far_closed refl
  where
    go : (b : Bool) → c.far_closed ≡ b → Moves (heard_of o n (Some c) q) (heard_of o n (cond b None (Some (record c { stage = closed }))) []) [] [] (contents_if (hears_from o n c) q)
    go true far = elim (hears_from o n c) as (λ h. Moves (cond h (Some (record { end = c; queue = q })) None) None [] [] (contents_if h q))
        [ true ↦ ends (record { end = c; queue = q }) far live | false ↦ stays None ]
    go false far = elim (hears_from o n c) as (λ h. Moves (cond h (Some (record { end = c; queue = q })) None) (cond h (Some (record { end = record c { stage = closed }; queue = [] })) None) [] [] (contents_if h q))
        [ true ↦ shuts (record { end = c; queue = q }) (record c { stage = closed }) refl refl live refl | false ↦ stays None ]

-- what a word of a call at E's end says of the end
pub of_end : (s : DomainState) (at : Local) (call : EndCall) (word : Refusal) (e : Endpoint) (c : ChannelEnd) → live_at s at ≡ Some e → e.channel ≡ Some c → holds_at_end (Some call) (channel_at s at) word ≡ false → end_refuses call c word ≡ false
of_end s at call word e c is has none = sym (ap (λ x. end_holds call (channel_in x) word) is ∙ ap (λ x. end_holds call x word) has) ∙ none

module _ (o n : ℕ) (s : DomainState) (own : Own s) where
  live_fits : (x : Option Endpoint) (f : Endpoint → List Change) → ((e : Endpoint) → x ≡ Some e → FitAll o n s (f e)) → FitAll o n s (at_live x f)
  live_fits None f fits = tt
  live_fits (Some e) f fits = fits e refl

  channel_fits : (x : Option ChannelEnd) (f : ChannelEnd → List Change) → ((c : ChannelEnd) → x ≡ Some c → FitAll o n s (f c)) → FitAll o n s (at_channel x f)
  channel_fits None f fits = tt
  channel_fits (Some c) f fits = fits c refl

  end_fits : (x : Option Endpoint) (f : Endpoint → ChannelEnd → List Change) → ((e : Endpoint) (c : ChannelEnd) → x ≡ Some e → e.channel ≡ Some c → FitAll o n s (f e c)) → FitAll o n s (at_end x f)
  end_fits None f fits = tt
  end_fits (Some e) f fits = channel_fits e.channel (f e) (λ c is. fits e c refl is)

  lent_fits : (t : DomainState) (asked : Asked) (x : Option Outcome) → FitAll o n t (lent_by asked x)
  lent_fits t (packet_at at) (Some (has_item i)) = (tt, tt)
  lent_fits t asked x = tt

  lends_fit : (t : DomainState) (x : Option Request) → FitAll o n t (lent_by_test x)
  lends_fit t None = tt
  lends_fit t (Some r) = lent_fits t r.asked r.outcome

  lending_fits : (t : DomainState) (x : Option Item) → FitAll o n t (lending x)
  lending_fits t None = tt
  lending_fits t (Some i) = (tt, tt)

  unconnected_at : (at : Local) (e : Endpoint) → live_at s at ≡ Some e → has_channel (endpoint_at s at) ≡ false → heard o n (endpoint_of s e.address) ≡ None
  unconnected_at at e is none = ap (heard o n) (own at e is) ∙ unconnected o n e (sym (ap has_channel (get-position (is_at at) s.endpoints ∙ is)) ∙ none)

  open_stage : (side : Side) (kind : Kind) (c : ChannelEnd) → end_refuses (opens side kind) c ChanClosed ≡ false → is_closed c.stage ≡ false
  open_stage Sender kind c e = (or_parts (is_closed c.stage) c.far_closed e).0
  open_stage Receiver kind c e = e

  -- an endpoint that receives from a channel is not closed
  receives_live : (at : Local) (kind : Kind) (q : ℕ) (e : Endpoint) → live_at s at ≡ Some e → holds_at_end (Some (receives kind q)) (channel_at s at) ChanClosed ≡ false → (f : Endpoint) × (endpoint_of s e.address ≡ Some f) × is_live f
  receives_live at kind q e is none = (e, own at e is, go e.channel (sym (ap (λ x. end_holds (receives kind q) (channel_in x) ChanClosed) is) ∙ none))
    where
      go : (x : Option ChannelEnd) → end_holds (receives kind q) x ChanClosed ≡ false → end_is (λ c. is_closed c.stage) x ≡ false
      go None h = refl
      go (Some c) h = (or_parts (is_closed c.stage) _ h).0

  success_fits : (node : ℕ) (call : DomainCall) → AllByRecursion (λ w. holds s node call w ≡ false) (words_of call) → FitAll o n s (success_changes s node call)
  success_fits node (create_at port) no_word = (tt, (tt, (tt, tt)))
  success_fits node (delete_at port) no_word = live_fits (live_at s (local node port)) _ (λ e is. (tt, (unconnected_at (local node port) e is no_word.1.0, (tt, tt))))
  success_fits node (lookup_of name) no_word = (tt, tt)
  success_fits node (send_from port to priority bytes) no_word = (tt, tt)
  success_fits node (receive_at port max) no_word = live_fits (live_at s (local node port)) _ (λ e is. (unconnected_at (local node port) e is no_word.1.0, tt))
  success_fits node (request_at port max) no_word = live_fits (live_at s (local node port)) _ (λ e is. (unconnected_at (local node port) e is no_word.1.0, (tt, tt)))
  success_fits node (available_at port) no_word = tt
  success_fits node (connect_from port to kind) no_word = live_fits (live_at s (local node port)) _ (λ e is.
      (tt, (none_both _ _ (unconnected_at (local node port) e is no_word.1.0) (ap (λ x. heard o n (option_map (with_channel (Some (new_sender s to kind))) x)) (own (local node port) e is)), (tt, (tt, tt)))))
  success_fits node (open_at port side kind) no_word = end_fits (live_at s (local node port)) _ (λ e c is has.
      let live = open_stage side kind c (of_end s (local node port) (opens side kind) ChanClosed e c is has no_word.1.1.1.1.0) in
      (tt, (rw (own (local node port) e is, has) (turned o n c (record c { stage = opened }) e.queue refl refl refl (sym live)), tt)))
  success_fits node (packet_from port bytes) no_word = end_fits (live_at s (local node port)) _ (λ e c is has. (tt, tt))
  success_fits node (lend_at port) no_word = live_fits (live_at s (local node port)) _ (λ e is. (receives_live (local node port) _ _ e is no_word.1.1.1.1.0, lending_fits _ (oldest e.queue)))
  success_fits node (packet_request_at port) no_word = live_fits (live_at s (local node port)) _ (λ e is. (receives_live (local node port) _ _ e is no_word.1.1.1.1.0, (tt, tt)))
  success_fits node (release_of place) no_word = (tt, tt)
  success_fits node (scalar_from port bits value) no_word = end_fits (live_at s (local node port)) _ (λ e c is has. (tt, tt))
  success_fits node (scalar_at port bits) no_word = live_fits (live_at s (local node port)) _ (λ e is. (receives_live (local node port) _ _ e is no_word.1.1.1.1.0, tt))
  success_fits node (close_at port Sender) no_word = end_fits (live_at s (local node port)) _ (λ e c is has.
      let sends = not_false (is_sender c.side) (of_end s (local node port) (closes Sender) ChanDirection e c is has no_word.1.1.0) in
      (tt, (rw (own (local node port) e is, has) (none_both _ _ (sender_deaf o n c e.queue sends) (deaf c e.queue sends)), tt)))
    where
      deaf : (c : ChannelEnd) (q : List Item) → is_sender c.side ≡ true → heard_of o n (closed_end c) q ≡ None
      deaf c q it = elim c.far_closed as (λ b. heard_of o n (cond b None (Some (record c { stage = closed }))) q ≡ None) [ true ↦ refl | false ↦ sender_deaf o n (record c { stage = closed }) q it ]
  success_fits node (close_at port Receiver) no_word = end_fits (live_at s (local node port)) _ (λ e c is has.
      let live = of_end s (local node port) (closes Receiver) ChanClosed e c is has no_word.1.1.1.0 in
      (tt, (tt, (rw (own (local node port) e is, has) (shuts_heard o n c e.queue live), tt))))
  success_fits node (test_of request) no_word = (tt, lends_fit _ (request_at_place s request))
  success_fits node (wait_for requests says_place) no_word = (tt, lends_fit _ (request_at_place s (first_complete s requests)))
  success_fits node (cancel_of request) no_word = (tt, tt)
  success_fits node (raw_to to bytes) no_word = (tt, tt)
  success_fits node turn_alone no_word = tt

  pub call_fits : (node : ℕ) (call : DomainCall) → FitAll o n s (call_changes s node call)
  call_fits node call = go (refusal s node call) refl
    where
      go : (r : Option Refusal) → refusal s node call ≡ r → FitAll o n s (unless_refused r [] (success_changes s node call))
      go (Some w) h = tt
      go None h = success_fits node call (none_holds (holds s node call) (words_of call) h)
