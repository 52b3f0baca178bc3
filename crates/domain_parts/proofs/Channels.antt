-- Ends of channels as a domain has them, the words of the calls at them, and the letters that these put.
use Rattle.std.proofs.Common.{◌≡◌, ℕ, ◌<◌, Bool, true, false, cond, List, [], ◌∷◌, length, Option, Some, None, is_some, refl, sym, ap, ap₂, ◌∙◌, arith}
use Rattle.std.specs.Prelude.{Ok, Err, find, nat_le, nat_lt, not, option_map, slice_get, unwrap_or, ◌==◌, ◌||◌}
use Rattle.std.specs.List.{flat_map, list_any}
use Rattle.std.proofs.lemmas.List.{append-nil, length-map}
use Rattle.mc_base.specs.Letter.{PlainLetter, msg}
use Rattle.mc_base.specs.Limits.{request_limit, channel_limit, item_size}
use Rattle.mc_base.specs.declared.channel.Kind.{Kind}
use Rattle.mc_base.specs.declared.channel.Side.{Side}
use Rattle.mc_base.specs.declared.name.EndName.{EndName}
use Rattle.mc_base.specs.declared.name.Local.{Local}
use Rattle.mc_base.specs.declared.refusal.Refusal.{Refusal}
use Rattle.mc_base.specs.declared.refusal.Refusal.TheVariants.{AlreadyOpen, ChanClosed, ChanConnected, ChanDirection, ChanLimit, ChanType, EndpBusy, EndpInvalid, MsgSize, NoBuffer, NotConnected, NotOpen, OnChannel, PeerInvalid, RequestLimit}
use Rattle.board_model.proofs.MessageLists.{get-position}
use Rattle.board_model.specs.Answer.{address_of, channel_at, end_holds, has_channel, lacks_buffers, passes_lane, local, over_channel, over_end, post, puts_of, refusal, success_puts}
use Rattle.board_model.specs.ChannelEnds.{EndCall, closes, end_refusal, end_refuses, opened_end, opens}
use Rattle.board_model.specs.DomainCall.{close_at, connect_from, open_at, send_from}
use Rattle.board_model.specs.State as state
use Rattle.board_model.specs.State.{ChannelEnd, DomainState, Endpoint, address_at, channel_in, closed, connected, connecting, endpoint_at, is_at, live_at, one_waits, opened, place_at, queue_at}
use Rattle.buffer_book.specs.Book.{Book}
use Rattle.message_queue.specs.Queue.{Waiting}
use Rattle.packet_channel.specs.End.{answered, end_of, kept_end, stage_of}
use Rattle.packet_channel.specs.declared.channel.Channel.{Channel}
use Rattle.packet_channel.specs.declared.channel.Stage.{Stage}
use Rattle.packet_channel.specs.declared.channel.Stage.TheVariants as stage
use Rattle.request_set.specs.Requests.{Standing, oldest_waiting, waits_at}
use Rattle.domain_parts.specs.CallSteps.{as_channel, stage_from}
use Rattle.domain_parts.specs.InBook.{requests_in}
use Rattle.domain_parts.specs.Parts.{Parts, state_of}
use Rattle.domain_parts.specs.Records.{kept, waiting_in}
use Rattle.domain_parts.proofs.Receives.{waits-map}
use Rattle.domain_parts.proofs.Steps.{queue-long}
use Rattle.domain_parts.proofs.Tables.{kept-is}

-- ---- ends as a domain has them

stage-back : (s : Stage) → stage_from (stage_of s) ≡ s
stage-back stage.Connecting = refl
stage-back stage.Connected = refl
stage-back stage.Open = refl
stage-back stage.Closed = refl

stage-there : (s : state.Stage) → stage_of (stage_from s) ≡ s
stage-there connecting = refl
stage-there connected = refl
stage-there opened = refl
stage-there closed = refl

pub as-end : (c : Channel) → as_channel (end_of c) ≡ c
as-end c = ap (λ (s : Stage). record c { stage = s }) (stage-back c.stage)

pub end-as : (e : ChannelEnd) → end_of (as_channel e) ≡ e
end-as e = ap (λ (s : state.Stage). record e { stage = s }) (stage-there e.stage)

pub ends-as : (o : Option ChannelEnd) → option_map end_of (option_map as_channel o) ≡ o
ends-as None = refl
ends-as (Some e) = ap (λ (x : ChannelEnd). Some x) (end-as e)

as-ends : (o : Option Channel) → option_map as_channel (option_map end_of o) ≡ o
as-ends None = refl
as-ends (Some c) = ap (λ (x : Channel). Some x) (as-end c)

pub kept-as : (c : Channel) (o : Option ChannelEnd) → kept_end c ≡ o → kept c ≡ option_map as_channel o
kept-as c o is = sym (as-ends (kept c)) ∙ ap (option_map as_channel) (kept-is c ∙ is)

-- one that was opened has not ended
pub kept-opened : (c : Channel) (e : ChannelEnd) → end_of c ≡ opened_end e → kept c ≡ Some (as_channel (opened_end e))
kept-opened c e is = ap kept (sym (as-end c) ∙ ap as_channel is)

-- ---- the words of calls at an end

pub answered-word : (o : Option Refusal) (word : Refusal) → Err word ≡ answered o → o ≡ Some word
answered-word None word is = absurd cc
answered-word (Some w) word is = cc

pub answered-none : (o : Option Refusal) → Ok tt ≡ answered o → o ≡ None
answered-none None is = refl
answered-none (Some w) is = absurd cc

-- the words of an end, and then whether no buffer is free
abbrev pub or_lacks : Option Refusal → Bool → Option Refusal
or_lacks None lacks = cond lacks (Some NoBuffer) None
or_lacks (Some word) lacks = Some word

later : (b : Bool) (word : Refusal) (o : Option Refusal) (lacks : Bool) (rest : Option Refusal) → rest ≡ or_lacks o lacks → cond b (Some word) rest ≡ or_lacks (cond b (Some word) o) lacks
later true word o lacks rest is = refl
later false word o lacks rest is = is

-- the place and the end of the endpoint of a name
module _ (s : DomainState) (node port i : ℕ) (c : ChannelEnd) (there : place_at s (local node port) ≡ Some i) (has : channel_at s (local node port) ≡ Some c) where
  module _ (side : Side) (kind : Kind) where
    abbrev open_lacks : Bool
    open_lacks = lacks_buffers s (success_puts s node (open_at port side kind))

    abbrev open_by : Option ℕ → Option ChannelEnd → Option Refusal
    open_by place o =
        cond (not (is_some place)) (Some EndpInvalid)
        (cond (end_holds (opens side kind) o NotConnected) (Some NotConnected)
        (cond (end_holds (opens side kind) o ChanDirection) (Some ChanDirection)
        (cond (end_holds (opens side kind) o ChanType) (Some ChanType)
        (cond (end_holds (opens side kind) o ChanClosed) (Some ChanClosed)
        (cond (end_holds (opens side kind) o AlreadyOpen) (Some AlreadyOpen)
        (cond open_lacks (Some NoBuffer) None))))))

    pub open-words : refusal s node (open_at port side kind) ≡ or_lacks (end_refusal (opens side kind) (Some c)) open_lacks
    open-words =
        let r = end_refuses (opens side kind) c in
        ap₂ open_by there has
        ∙ later (r NotConnected) NotConnected _ open_lacks _ (later (r ChanDirection) ChanDirection _ open_lacks _ (later (r ChanType) ChanType _ open_lacks _ (later (r ChanClosed) ChanClosed _ open_lacks _ (later (r AlreadyOpen) AlreadyOpen None open_lacks _ refl))))

  module _ (side : Side) where
    abbrev close_lacks : Bool
    close_lacks = lacks_buffers s (success_puts s node (close_at port side))

    abbrev close_by : Option ℕ → Option ChannelEnd → Option Refusal
    close_by place o =
        cond (not (is_some place)) (Some EndpInvalid)
        (cond (end_holds (closes side) o NotConnected) (Some NotConnected)
        (cond (end_holds (closes side) o ChanDirection) (Some ChanDirection)
        (cond (end_holds (closes side) o ChanClosed) (Some ChanClosed)
        (cond close_lacks (Some NoBuffer) None))))

    pub close-words : refusal s node (close_at port side) ≡ or_lacks (end_refusal (closes side) (Some c)) close_lacks
    close-words =
        let r = end_refuses (closes side) c in
        ap₂ close_by there has
        ∙ later (r NotConnected) NotConnected _ close_lacks _ (later (r ChanDirection) ChanDirection _ close_lacks _ (later (r ChanClosed) ChanClosed None close_lacks _ refl))

-- the words of an end, and then others
abbrev pub or_then : Option Refusal → Option Refusal → Option Refusal
or_then None rest = rest
or_then (Some word) rest = Some word

then-later : (b : Bool) (word : Refusal) (o rest all : Option Refusal) → all ≡ or_then o rest → cond b (Some word) all ≡ or_then (cond b (Some word) o) rest
then-later true word o rest all is = refl
then-later false word o rest all is = is

-- A call that sends or receives an item at the end of the endpoint of a name: it is refused as an endpoint, then as an end, and then by
-- the words that are its own
module _ (s : DomainState) (node port i : ℕ) (c : ChannelEnd) (there : place_at s (local node port) ≡ Some i) (has : channel_at s (local node port) ≡ Some c) (call : EndCall) (rest : Option Refusal) where
  abbrev data_by : Option ℕ → Option ChannelEnd → Option Refusal
  data_by place o =
      cond (not (is_some place)) (Some EndpInvalid)
      (cond (end_holds call o NotConnected) (Some NotConnected)
      (cond (end_holds call o ChanDirection) (Some ChanDirection)
      (cond (end_holds call o ChanType) (Some ChanType)
      (cond (end_holds call o ChanClosed) (Some ChanClosed)
      (cond (end_holds call o NotOpen) (Some NotOpen) rest)))))

  pub data-words : data_by (place_at s (local node port)) (channel_at s (local node port)) ≡ or_then (find (end_refuses call c) (NotConnected ∷ ChanDirection ∷ ChanType ∷ ChanClosed ∷ NotOpen ∷ [])) rest
  data-words =
      let r = end_refuses call c in
      ap₂ data_by there has
      ∙ then-later (r NotConnected) NotConnected _ rest _ (then-later (r ChanDirection) ChanDirection _ rest _ (then-later (r ChanType) ChanType _ rest _ (then-later (r ChanClosed) ChanClosed _ rest _ (then-later (r NotOpen) NotOpen None rest _ refl))))

-- a connect that no word refuses
module _ (s : DomainState) (node port : ℕ) (to : EndName) (kind : Kind) where
  abbrev connect_lacks : Bool
  connect_lacks = lacks_buffers s (success_puts s node (connect_from port to kind))

  abbrev connect_busy : Bool
  connect_busy = not (length (queue_at s (local node port)) == 0) || one_waits s (local node port)

  abbrev connect_by : Option ℕ → Bool → Bool → Option ℕ → Bool → Bool → Bool → Option Refusal
  connect_by place has busy address spent full lacks =
      cond (not (is_some place)) (Some EndpInvalid)
      (cond has (Some ChanConnected)
      (cond busy (Some EndpBusy)
      (cond (not (is_some address)) (Some PeerInvalid)
      (cond spent (Some ChanLimit)
      (cond full (Some RequestLimit)
      (cond lacks (Some NoBuffer) None))))))

  pub connect-done : (i a : ℕ) → place_at s (local node port) ≡ Some i → has_channel (endpoint_at s (local node port)) ≡ false → connect_busy ≡ false → address_of s to ≡ Some a → nat_le channel_limit s.channels_given ≡ false → nat_le request_limit (length s.requests) ≡ false → connect_lacks ≡ false → refusal s node (connect_from port to kind) ≡ None
  connect-done i a there has busy address spent full lacks =
      let h = has_channel (endpoint_at s (local node port)) in
      let n = nat_le channel_limit s.channels_given in
      let r = nat_le request_limit (length s.requests) in
      ap (λ o. connect_by o h connect_busy (address_of s to) n r connect_lacks) there
      ∙ ap (λ b. connect_by (Some i) b connect_busy (address_of s to) n r connect_lacks) has
      ∙ ap (λ b. connect_by (Some i) false b (address_of s to) n r connect_lacks) busy
      ∙ ap (λ o. connect_by (Some i) false false o n r connect_lacks) address
      ∙ ap (λ b. connect_by (Some i) false false (Some a) b r connect_lacks) spent
      ∙ ap (λ b. connect_by (Some i) false false (Some a) false b connect_lacks) full
      ∙ ap (λ b. connect_by (Some i) false false (Some a) false false b) lacks

-- a send that is refused by no word but those for its size and for buffers
module _ (s : DomainState) (node port : ℕ) (to : EndName) (priority : ℕ) (bytes : List ℕ) where
  abbrev send_lacks : Bool
  send_lacks = lacks_buffers s (success_puts s node (send_from port to priority bytes))

  abbrev send_by : Option ℕ → Bool → Option ℕ → Bool → Option Refusal
  send_by place has address long =
      cond (not (is_some place)) (Some EndpInvalid)
      (cond has (Some OnChannel)
      (cond (not (is_some address)) (Some PeerInvalid)
      (cond long (Some MsgSize)
      (cond send_lacks (Some NoBuffer) None))))

  abbrev pub send_long : Bool
  send_long = nat_lt item_size (length bytes) || passes_lane s (success_puts s node (send_from port to priority bytes))

  pub send-words : (i a : ℕ) (long : Bool) → place_at s (local node port) ≡ Some i → has_channel (endpoint_at s (local node port)) ≡ false → address_of s to ≡ Some a → send_long ≡ long → refusal s node (send_from port to priority bytes) ≡ cond long (Some MsgSize) (cond send_lacks (Some NoBuffer) None)
  send-words i a long there has address size =
      ap (λ o. send_by o (has_channel (endpoint_at s (local node port))) (address_of s to) send_long) there
      ∙ ap (λ b. send_by (Some i) b (address_of s to) send_long) has
      ∙ ap (λ o. send_by (Some i) false o send_long) address
      ∙ ap (λ b. send_by (Some i) false (Some a) b) size

  -- what it puts
  pub send-puts : (source destination : ℕ) → Some source ≡ address_at s (local node port) → Some destination ≡ address_of s to → success_puts s node (send_from port to priority bytes) ≡ puts_of (post to.domain source destination (msg priority bytes))
  send-puts source destination from there =
      ap₂ (λ (a b : Option ℕ). flat_map puts_of (post to.domain (unwrap_or a 0) (unwrap_or b 0) (msg priority bytes) ∷ [])) (sym from) (sym there)
      ∙ append-nil (puts_of (post to.domain source destination (msg priority bytes)))

-- one buffer is enough for one frame
pub lacks-none : (s : DomainState) (f : ℕ × List ℕ) → 0 < state.free_to s f.0 → lacks_buffers s (f ∷ []) ≡ false
lacks-none s f free = go (state.free_to s f.0) free
  where
    go : (n : ℕ) → 0 < n → nat_lt n 1 ≡ false
    go n some = grind arith

-- ---- the letters that they put

some-is : {X : Type 0} {x y : X} → Some x ≡ Some y → x ≡ y
some-is e = cc

pub posts-are : (s : DomainState) (at : Local) (a : ℕ) (c : ChannelEnd) → Some a ≡ address_at s at → channel_at s at ≡ Some c → (letter : ℕ → PlainLetter) → over_end s at letter ≡ post c.peer a c.peer_address (letter c.number) ∷ []
posts-are s at a c address has letter = go (live_at s at) (address ∙ ap (option_map (λ (e : Endpoint). e.address)) (get-position (is_at at) s.endpoints)) has
  where
    go : (o : Option Endpoint) → Some a ≡ option_map (λ (e : Endpoint). e.address) o → channel_in o ≡ Some c → over_channel o (channel_in o) letter ≡ post c.peer a c.peer_address (letter c.number) ∷ []
    go None address has = absurd cc
    go (Some e) address has =
        let same : e.address ≡ a = some-is (sym address) in
        ap (λ (o : Option ChannelEnd). over_channel (Some e) o letter) has
        ∙ ap (λ (x : ℕ). post c.peer x c.peer_address (letter c.number) ∷ []) same

-- ---- an item or a receive waits

any-waits : (b : Book) (at : Local) (rs : List Standing) → is_some (option_map (λ (r : Standing). r.id) (find (waits_at at) rs)) ≡ list_any (state.waits_at at) (requests_in b rs)
any-waits b at [] = refl
any-waits b at (r ∷ rs) = go (waits_at at r) (any-waits b at rs) ∙ ap (λ (w : Bool). w || list_any (state.waits_at at) (requests_in b rs)) (sym (waits-map b at r))
  where
    go : (w : Bool) → is_some (option_map (λ (x : Standing). x.id) (find (waits_at at) rs)) ≡ list_any (state.waits_at at) (requests_in b rs)
        → is_some (option_map (λ (x : Standing). x.id) (cond w (Some r) (find (waits_at at) rs))) ≡ (w || list_any (state.waits_at at) (requests_in b rs))
    go true rest = refl
    go false rest = rest

pub waits-so : (p : Parts) (at : Local) → is_some (oldest_waiting p.requests at) ≡ one_waits (state_of p) at
waits-so p at = any-waits p.book at p.requests.standing

pub queued-so : (p : Parts) (at : Local) (i n : ℕ) → place_at (state_of p) at ≡ Some i → n ≡ length (waiting_in (slice_get p.records.endpoints i)) → n ≡ length (queue_at (state_of p) at)
queued-so p at i n there is = is ∙ sym (length-map (waiting_in (slice_get p.records.endpoints i)) (λ (w : Waiting). w.slot)) ∙ queue-long p at i there
