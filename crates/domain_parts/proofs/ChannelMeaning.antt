-- What the steps of the calls mean that make, open and close channels.
use Rattle.std.proofs.Common.{◌≡◌, ℕ, zero, suc, ◌+◌, Bool, true, false, cond, List, [], ◌∷◌, ◌++◌, length, map, Option, Some, None, refl, sym, ap, ◌∙◌, subst}
use Rattle.std.specs.Prelude.{Ok, option_map, position, slice_get, unwrap_or, ◌==◌}
use Rattle.std.specs.List.{flat_map}
use Rattle.std.proofs.lemmas.List.{append-nil}
use Rattle.mc_base.specs.Frame.{made}
use Rattle.mc_base.specs.Letter.{connect, spelling}
use Rattle.mc_base.specs.declared.channel.Kind.{Kind}
use Rattle.mc_base.specs.declared.channel.Side.{Side}
use Rattle.mc_base.specs.declared.channel.Side.TheVariants.{Receiver, Sender}
use Rattle.mc_base.specs.declared.name.EndName.{EndName}
use Rattle.mc_base.specs.declared.name.Local.{Local}
use Rattle.mc_base.specs.declared.refusal.Refusal.TheVariants.{ChanClosed}
use Rattle.mc_base.specs.declared.request.RequestId.{RequestId}
use Rattle.board_model.proofs.MessageAlls.{found-passes}
use Rattle.board_model.proofs.MessageLists.{changed-position}
use Rattle.board_model.proofs.StateEnds.{ByAddress, by_address, named_so}
use Rattle.board_model.specs.Answer.{address_of, channel_at, closing_letter, opening_letter, post, puts_of, success, success_puts}
use Rattle.board_model.specs.Journal.{tells}
use Rattle.board_model.specs.CallChanges.{at_channel, at_end, at_live, closing, new_sender, success_changes}
use Rattle.board_model.specs.Change as change
use Rattle.board_model.specs.Change.{Change, buffers_used, changed, changed_all, with_channel, without_queue}
use Rattle.board_model.specs.ChannelEnds.{closed_end, connecting_end, opened_end}
use Rattle.board_model.specs.DomainCall.{close_at, connect_from, open_at}
use Rattle.board_model.specs.Lists as lists
use Rattle.board_model.specs.Lists.{changed_at}
use Rattle.board_model.specs.State as state
use Rattle.board_model.specs.State.{ChannelEnd, DomainState, address_at, channel_in, endpoint_of, frames_from, has_address_of, is_at, live_at, place_at}
use Rattle.buffer_book.specs.Book.{Book}
use Rattle.lane_end.specs.SendMoves.{Sent}
use Rattle.message_queue.specs.Queue.{Waiting}
use Rattle.packet_channel.specs.End.{end_of}
use Rattle.packet_channel.specs.declared.channel.Channel.{Channel}
use Rattle.request_set.specs.declared.ask.Ask.{Ask}
use Rattle.request_set.specs.declared.ask.Ask.TheVariants as ask
use Rattle.request_set.specs.declared.ask.Complete.{Complete}
use Rattle.request_set.specs.declared.ask.Complete.TheVariants as complete
use Rattle.domain_parts.specs.LaneSeen.{LaneSeen}
use Rattle.domain_parts.specs.declared.endpoints.Endpoint.{Endpoint}
use Rattle.domain_parts.specs.declared.peer.Peer.{Peer}
use Rattle.domain_parts.specs.declared.requests.Waiters.TheVariants as waiters
use Rattle.domain_parts.specs.AllMoved.{giving, moves_at}
use Rattle.domain_parts.specs.Calls as calls
use Rattle.domain_parts.specs.Calls.{IsFresh}
use Rattle.domain_parts.specs.CallSteps.{Empties, Means, as_channel, call_steps, drops, emptying, if_some, putting_all}
use Rattle.domain_parts.specs.InBook.{asked_in, endpoint_in, endpoints_in, item_in, numbered_at, outcome_in}
use Rattle.domain_parts.specs.LaneMoves.{LaneMove, sender}
use Rattle.domain_parts.specs.Parts.{Holding, Parts, Sound, plain, state_of}
use Rattle.domain_parts.specs.Peers.{state_in}
use Rattle.domain_parts.specs.Records.{kept, slots_at, waiting_in}
use Rattle.domain_parts.specs.Steps.{Did, Step, all_moves, channel_given, channel_set, done, done_all, frame_put, receives_ended, request_begun, step_moves, with_last}
use Rattle.domain_parts.specs.VisitMoves.{putting}
use Rattle.domain_parts.proofs.Asking.{asked-state}
use Rattle.domain_parts.proofs.Beginning.{last-ids}
use Rattle.domain_parts.proofs.CallsAgree.{raw-agrees, returned-agrees, there_at}
use Rattle.domain_parts.proofs.Channels.{as-end, end-as, ends-as, posts-are}
use Rattle.domain_parts.proofs.Completing.{ids-all}
use Rattle.domain_parts.proofs.Dropping.{IsLeft, all-left, drops-moves, moves-cons}
use Rattle.domain_parts.proofs.Ending.{ids_in}
use Rattle.domain_parts.proofs.OneFrame.{closing-single, opening-single, post-single}
use Rattle.domain_parts.proofs.Removing.{gone-items}
use Rattle.domain_parts.proofs.StateFits.{ends-of}
use Rattle.domain_parts.proofs.Stepping.{did-then, done-append, quiet-peers}
use Rattle.domain_parts.proofs.Steps.{drops-place, frame_put-is, frame_put-keeps, no-slots, queue-long}
use Rattle.domain_parts.proofs.TurnMeaning.{channel_given-is, endpoints-set, receives_ended-is}
use Rattle.domain_parts.proofs.TurnSteps.{receives_ended-keeps}

-- ---- steps as changes

pub used-is : (p : Parts) → Sound p → (n : ℕ) (frame : List ℕ) (j : ℕ) → Some j ≡ position (λ (x : Peer LaneSeen). x.number == n) p.peers → state_of (done (frame_put n frame) p) ≡ changed (state_of p) (buffers_used n 1)
used-is p sound n frame j at = frame_put-is p n frame sound j at ∙ raw-agrees (state_of p) 0 n []

pub begun-is : (p : Parts) (id : RequestId) (a : Ask) (o : Option Complete) → id.serial ≡ p.requests.given → state_of (done (request_begun id a o) p) ≡ changed (state_of p) (change.request_added (asked_in a) (option_map (outcome_in p.book) o))
begun-is p id a o serial =
    ap (λ (ps : List (Peer LaneSeen)). state_in plain p.book p.records (with_last p.requests id a o) p.table ps) (quiet-peers p.peers)
    ∙ asked-state plain p.book p.records p.requests p.table p.peers id a o serial

-- the endpoint of a name, which is at a place
module _ (p : Parts) (at : Local) (i : ℕ) (e : state.Endpoint) (there : place_at (state_of p) at ≡ Some i) (changes : (f : state.Endpoint → state.Endpoint) → lists.changed_first (has_address_of e.address) f (state_of p).endpoints ≡ lists.changed_first (is_at at) f (state_of p).endpoints) where
  pub changed-there : (f : state.Endpoint → state.Endpoint) → changed_at f i (state_of p).endpoints ≡ lists.changed_first (has_address_of e.address) f (state_of p).endpoints
  changed-there f = ap (λ (o : Option ℕ). lists.changed f o (state_of p).endpoints) (sym there) ∙ changed-position (is_at at) f (state_of p).endpoints ∙ sym (changes f)

  pub set-is : (c : Option Channel) → state_of (done (channel_set i c) p) ≡ changed (state_of p) (change.channel_set e.address (option_map end_of c))
  set-is c =
      ap (λ (ps : List (Peer LaneSeen)). state_of (record (done (channel_set i c) p) { peers = ps })) (quiet-peers p.peers)
      ∙ ap (λ (es : List state.Endpoint). record (state_of p) { endpoints = es }) (endpoints-set p.book c p.records.endpoints i ∙ changed-there (with_channel (option_map end_of c)))

-- ---- all is dropped that waits there, and then the end is set

empty-set : (b : Book) (o : Option ChannelEnd) (i : ℕ) (es : List Endpoint) → waiting_in (slice_get es i) ≡ [] → changed_at (with_channel o) i (endpoints_in b es) ≡ changed_at (without_queue o) i (endpoints_in b es)
empty-set b o i [] none = refl
empty-set b o zero (e ∷ es) none = ap (λ (ws : List Waiting). record (endpoint_in b e) { queue = map (item_in b) ws; channel = o } ∷ endpoints_in b es) none
empty-set b o (suc i) (e ∷ es) none = ap (λ (xs : List state.Endpoint). endpoint_in b e ∷ xs) (empty-set b o i es none)

emptied-is : (p : Parts) → Sound p → (i : ℕ) (c : Option Channel) → state_of (done_all (drops p.book i (slots_at p.records i) ++ channel_set i c ∷ []) p) ≡ record (state_of p) { endpoints = changed_at (without_queue (option_map end_of c)) i (state_of p).endpoints }
emptied-is p sound i c =
    let ss = slots_at p.records i in
    let p' = done_all (drops p.book i ss) p in
    let left = all-left p sound i ss refl in
    let o = option_map end_of c in
    ap state_of (done-append (drops p.book i ss) (channel_set i c ∷ []) p)
    ∙ ap (λ (ps : List (Peer LaneSeen)). state_of (record (done (channel_set i c) p') { peers = ps })) (quiet-peers p'.peers)
    ∙ ap (λ (es : List state.Endpoint). record (state_of p') { endpoints = es }) (endpoints-set p'.book c p'.records.endpoints i ∙ empty-set p'.book o i p'.records.endpoints (no-slots (waiting_in (slice_get p'.records.endpoints i)) left.none) ∙ left.dropped (without_queue o) (λ e. refl))
    ∙ ap (λ (s : DomainState). record s { endpoints = changed_at (without_queue o) i (state_of p).endpoints }) left.others

-- ---- moves

put-there : (d : ℕ) (f : List ℕ) (b : Bool) → cond b (sender (Sent f) ∷ []) [] ≡ putting (map (λ (x : ℕ × List ℕ). x.1) (cond b ((d, f) ∷ []) []))
put-there d f true = refl
put-there d f false = refl

-- one frame is put, and the buffers of items are given back
put-moves : (d : ℕ) (f : List ℕ) (items : List state.Item) (n : ℕ) → step_moves (frame_put d f) n ++ giving (frames_from n items) ≡ moves_at ((d, f) ∷ []) items n
put-moves d f items n = ap (λ (ms : List LaneMove). ms ++ giving (frames_from n items)) (put-there d f (d == n))

-- ---- steps that were made

module _ {L : Type 0} (M : L → List LaneMove → L → Type 0) (at : Local) (i : ℕ) where
  pub emptied-place : (side : Side) (old new : Holding L) → Empties M side i at old new → place_at (state_of old.parts) at ≡ Some i → place_at (state_of new.parts) at ≡ Some i
  emptied-place Sender old new same there = ap (λ (h : Holding L). place_at (state_of h.parts) at) same ∙ there
  emptied-place Receiver old new did there = ap (λ (p : Parts). place_at (state_of p) at) did.parts ∙ drops-place old.parts.book at i (slots_at old.parts.records i) (done (receives_ended at ChanClosed) old.parts) ∙ there

  pub emptied-did : ((a b c : L) (xs ys : List LaneMove) → M a xs b → M b ys c → M a (xs ++ ys) c) → (side : Side) (xs : List Step) (a b c : Holding L) → Did M xs a b → Empties M side i at b c → Did M (xs ++ emptying b.parts.book side i at (slots_at b.parts.records i)) a c
  emptied-did both Sender xs a b c first same = subst (λ (h : Holding L). Did M (xs ++ []) a h) (sym same) (subst (λ (cs : List Step). Did M cs a b) (sym (append-nil xs)) first)
  emptied-did both Receiver xs a b c first then = did-then M both xs (emptying b.parts.book Receiver i at (slots_at b.parts.records i)) a b c first then

pub close-answer : (p : Parts) (at : Local) (i : ℕ) → place_at (state_of p) at ≡ Some i → (side : Side) → calls.closed side (Ok (length (slots_at p.records i))) ≡ success (state_of p) at.node (close_at at.port side)
close-answer p at i there Sender = refl
close-answer p at i there Receiver = ap tells (queue-long p at i there)

-- ---- the frame of a connect

module _ (s : DomainState) (at : Local) (to : EndName) (kind : Kind) (source destination : ℕ) (end : Channel) (from : Some source ≡ address_at s at) (address : Some destination ≡ address_of s to) (is : end_of end ≡ connecting_end kind s.number (s.channels_given + 1) to.domain destination) where
  pub end-number : end.number ≡ s.channels_given + 1
  end-number = ap (λ (e : ChannelEnd). e.number) is

  pub connect-frame : made source destination (spelling (connect end.number kind)) ≡ made (unwrap_or (address_at s at) 0) (unwrap_or (address_of s to) 0) (spelling (connect (s.channels_given + 1) kind))
  connect-frame =
      ap (λ (n : ℕ). made source destination (spelling (connect n kind))) end-number
      ∙ ap (λ (o : Option ℕ). made (unwrap_or o 0) destination (spelling (connect (s.channels_given + 1) kind))) from
      ∙ ap (λ (o : Option ℕ). made (unwrap_or (address_at s at) 0) (unwrap_or o 0) (spelling (connect (s.channels_given + 1) kind))) address

  pub connect-end : kept end ≡ Some (as_channel (new_sender s to kind))
  connect-end =
      ap kept (sym (as-end end) ∙ ap as_channel is)
      ∙ ap (λ (o : Option ℕ). Some (as_channel (connecting_end kind s.number (s.channels_given + 1) to.domain (unwrap_or o 0)))) address

-- ---- the calls

module _ (p : Parts) (sound : Sound p) (at : Local) (i : ℕ) (there : place_at (state_of p) at ≡ Some i) where
  abbrev s : DomainState
  s = state_of p

  pub the : (e : state.Endpoint) × (live_at s at ≡ Some e)
  the = there_at s at i there

  by : ByAddress at s.endpoints the.0
  by = by_address at s.endpoints the.0 (ends-of plain p.book p.records p.requests p.table p.peers sound).apart the.1

  -- ---- a connect

  module _ (to : EndName) (kind : Kind) (id : RequestId) (fresh : IsFresh (ids_in p.requests) (state_of p) id) (j : ℕ) (peer : Some j ≡ position (λ (x : Peer LaneSeen). x.number == to.domain) p.peers) where
    abbrev number : ℕ
    number = s.channels_given + 1

    abbrev connect_frame : List ℕ
    connect_frame = made (unwrap_or (address_at s at) 0) (unwrap_or (address_of s to) 0) (spelling (connect number kind))

    abbrev connect_end : Option Channel
    connect_end = Some (as_channel (new_sender s to kind))

    abbrev connect_list : List Step
    connect_list = frame_put to.domain connect_frame ∷ channel_set i connect_end ∷ request_begun id (ask.Connect number) None ∷ channel_given ∷ []

    pub connect-steps : call_steps p at.node (connect_from at.port to kind) (Some id) ≡ connect_list
    connect-steps = ap (λ (o : Option ℕ). if_some o (λ k. frame_put to.domain connect_frame ∷ channel_set k connect_end ∷ request_begun id (ask.Connect number) None ∷ channel_given ∷ [])) there

    connect-state : state_of (done_all connect_list p) ≡ changed_all s (success_changes s at.node (connect_from at.port to kind))
    connect-state =
        let p1 = done (frame_put to.domain connect_frame) p in
        let p2 = done (channel_set i connect_end) p1 in
        let p3 = done (request_begun id (ask.Connect number) None) p2 in
        let used = used-is p sound to.domain connect_frame j peer in
        let set = set-is p1 at i the.0 there by.changes connect_end ∙ ap (λ (o : Option ChannelEnd). changed (state_of p1) (change.channel_set the.0.address o)) (ap (λ (x : ChannelEnd). Some x) (end-as (new_sender s to kind))) in
        channel_given-is p3
        ∙ ap (λ (u : DomainState). changed u change.channel_given) (begun-is p2 id (ask.Connect number) None fresh.serial)
        ∙ ap (λ (u : DomainState). changed_all u (change.request_added (state.channel_of number) None ∷ change.channel_given ∷ [])) set
        ∙ ap (λ (u : DomainState). changed_all u (change.channel_set the.0.address (Some (new_sender s to kind)) ∷ change.request_added (state.channel_of number) None ∷ change.channel_given ∷ [])) used
        ∙ sym (ap (λ (o : Option state.Endpoint). changed_all s (at_live o (λ e. buffers_used to.domain 1 ∷ change.channel_set e.address (Some (new_sender s to kind)) ∷ change.request_added (state.channel_of number) None ∷ change.channel_given ∷ []))) the.1)

    pub connect-means : Means p at.node (connect_from at.port to kind) (Some id)
    connect-means = record {
      state = ap (λ (cs : List Step). state_of (done_all cs p)) connect-steps ∙ connect-state;
      moves = λ n. ap (λ (cs : List Step). all_moves cs n) connect-steps ∙ put-moves to.domain connect_frame [] n;
      ids = ap (λ (cs : List Step). ids_in (done_all cs p).requests) connect-steps ∙ last-ids p.requests id (ask.Connect number) None;
      fresh = fresh;
      lent = None;
      packets = ap (λ (cs : List Step). (done_all cs p).records.lent) connect-steps ∙ sym (append-nil p.records.lent);
      lends = refl;
    }

  -- ---- an end that is there

  module _ (c : ChannelEnd) (has : channel_at (state_of p) at ≡ Some c) (a : ℕ) (address : Some a ≡ address_at (state_of p) at) (j : ℕ) (peer : Some j ≡ position (λ (x : Peer LaneSeen). x.number == c.peer) p.peers) where
    channel : the.0.channel ≡ Some c
    channel = ap channel_in (sym the.1) ∙ has

    -- its changes
    pub end-changes : (f : state.Endpoint → ChannelEnd → List Change) → at_end (live_at s at) f ≡ f the.0 c
    end-changes f = ap (λ (o : Option state.Endpoint). at_end o f) the.1 ∙ ap (λ (o : Option ChannelEnd). at_channel o (f the.0)) channel

    -- ---- it opens

    module _ (side : Side) (kind : Kind) where
      abbrev open_frame : List ℕ
      open_frame = made a c.peer_address (spelling (opening_letter side c.number))

      abbrev open_end : Option Channel
      open_end = Some (as_channel (opened_end c))

      abbrev open_list : List Step
      open_list = frame_put c.peer open_frame ∷ channel_set i open_end ∷ []

      pub open-puts : success_puts s at.node (open_at at.port side kind) ≡ (c.peer, open_frame) ∷ []
      open-puts = ap (flat_map puts_of) (posts-are s at a c address has (opening_letter side)) ∙ post-single (post c.peer a c.peer_address (opening_letter side c.number)) (opening-single side c.number)

      pub open-steps : call_steps p at.node (open_at at.port side kind) None ≡ open_list
      open-steps =
          let puts = success_puts s at.node (open_at at.port side kind) in
          ap (λ (o : Option ℕ). if_some o (λ k. if_some (channel_at s at) (λ d. putting_all puts ++ channel_set k (Some (as_channel (opened_end d))) ∷ []))) there
          ∙ ap (λ (o : Option ChannelEnd). if_some o (λ d. putting_all puts ++ channel_set i (Some (as_channel (opened_end d))) ∷ [])) has
          ∙ ap (λ (fs : List (ℕ × List ℕ)). putting_all fs ++ channel_set i open_end ∷ []) open-puts

      open-state : state_of (done_all open_list p) ≡ changed_all s (success_changes s at.node (open_at at.port side kind))
      open-state =
          let p1 = done (frame_put c.peer open_frame) p in
          set-is p1 at i the.0 there by.changes open_end
          ∙ ap (λ (x : ChannelEnd). changed (state_of p1) (change.channel_set the.0.address (Some x))) (end-as (opened_end c))
          ∙ ap (λ (u : DomainState). changed u (change.channel_set the.0.address (Some (opened_end c)))) (used-is p sound c.peer open_frame j peer)
          ∙ ap (changed_all s) (sym (end-changes (λ e d. buffers_used d.peer 1 ∷ change.channel_set e.address (Some (opened_end d)) ∷ [])))

      pub open-means : Means p at.node (open_at at.port side kind) None
      open-means = record {
        state = ap (λ (cs : List Step). state_of (done_all cs p)) open-steps ∙ open-state;
        moves = λ n. ap (λ (cs : List Step). all_moves cs n) open-steps ∙ put-moves c.peer open_frame [] n ∙ ap (λ (fs : List (ℕ × List ℕ)). moves_at fs [] n) (sym open-puts);
        ids = ap (λ (cs : List Step). ids_in (done_all cs p).requests) open-steps ∙ sym (append-nil (ids_in p.requests));
        fresh = tt;
        lent = None;
        packets = ap (λ (cs : List Step). (done_all cs p).records.lent) open-steps ∙ sym (append-nil p.records.lent);
        lends = refl;
      }

    -- ---- it closes

    abbrev close_frame : Side → List ℕ
    close_frame side = made a c.peer_address (spelling (closing_letter side c.number))

    abbrev close_end : Option Channel
    close_end = option_map as_channel (closed_end c)

    abbrev close_list : Side → List Step
    close_list side = frame_put c.peer (close_frame side) ∷ (emptying p.book side i at (slots_at p.records i) ++ channel_set i close_end ∷ [])

    pub close-puts : (side : Side) → success_puts s at.node (close_at at.port side) ≡ (c.peer, close_frame side) ∷ []
    close-puts side = ap (flat_map puts_of) (posts-are s at a c address has (closing_letter side)) ∙ post-single (post c.peer a c.peer_address (closing_letter side c.number)) (closing-single side c.number)

    pub close-steps : (side : Side) → call_steps p at.node (close_at at.port side) None ≡ close_list side
    close-steps side =
        let puts = success_puts s at.node (close_at at.port side) in
        ap (λ (o : Option ℕ). if_some o (λ k. if_some (channel_at s at) (λ d. putting_all puts ++ (emptying p.book side k at (slots_at p.records k) ++ channel_set k (option_map as_channel (closed_end d)) ∷ [])))) there
        ∙ ap (λ (o : Option ChannelEnd). if_some o (λ d. putting_all puts ++ (emptying p.book side i at (slots_at p.records i) ++ channel_set i (option_map as_channel (closed_end d)) ∷ []))) has
        ∙ ap (λ (fs : List (ℕ × List ℕ)). putting_all fs ++ (emptying p.book side i at (slots_at p.records i) ++ channel_set i close_end ∷ [])) (close-puts side)

    send-state : state_of (done_all (close_list Sender) p) ≡ changed_all s (success_changes s at.node (close_at at.port Sender))
    send-state =
        let p1 = done (frame_put c.peer (close_frame Sender)) p in
        set-is p1 at i the.0 there by.changes close_end
        ∙ ap (λ (o : Option ChannelEnd). changed (state_of p1) (change.channel_set the.0.address o)) (ends-as (closed_end c))
        ∙ ap (λ (u : DomainState). changed u (change.channel_set the.0.address (closed_end c))) (used-is p sound c.peer (close_frame Sender) j peer)
        ∙ ap (changed_all s) (sym (end-changes (closing Sender)))

    -- the receiver's end, at which all is dropped
    abbrev p1 : Parts
    p1 = done (frame_put c.peer (close_frame Receiver)) p

    abbrev p2 : Parts
    p2 = done (receives_ended at ChanClosed) p1

    sound2 : Sound p2
    sound2 = receives_ended-keeps p1 at ChanClosed (frame_put-keeps p c.peer (close_frame Receiver) sound)

    recv-state : state_of (done_all (close_list Receiver) p) ≡ changed_all s (success_changes s at.node (close_at at.port Receiver))
    recv-state =
        let a0 = the.0.address in
        let f = without_queue (closed_end c) in
        emptied-is p2 sound2 i close_end
        ∙ ap (λ (o : Option ChannelEnd). record (state_of p2) { endpoints = changed_at (without_queue o) i (state_of p2).endpoints }) (ends-as (closed_end c))
        ∙ ap (λ (es : List state.Endpoint). record (state_of p2) { endpoints = es }) (changed-there p2 at i the.0 there by.changes f)
        ∙ ap (λ (u : DomainState). changed u (change.queue_dropped a0 (closed_end c))) (receives_ended-is p1 at ChanClosed a0 the.0 by.found (named_so at the.0 (found-passes (is_at at) s.endpoints the.0 the.1)))
        ∙ ap (λ (u : DomainState). changed_all u (change.waiting_ended a0 ChanClosed ∷ change.queue_dropped a0 (closed_end c) ∷ [])) (used-is p sound c.peer (close_frame Receiver) j peer)
        ∙ ap (changed_all s) (sym (end-changes (closing Receiver)))

    recv-moves : (n : ℕ) → all_moves (close_list Receiver) n ≡ moves_at ((c.peer, close_frame Receiver) ∷ []) (map (numbered_at p.book) (slots_at p.records i)) n
    recv-moves n =
        let ss = slots_at p.records i in
        ap (λ (ms : List LaneMove). step_moves (frame_put c.peer (close_frame Receiver)) n ++ ms) (moves-cons (receives_ended at ChanClosed) (drops p.book i ss) (channel_set i close_end) n ∙ drops-moves p.book i ss (channel_set i close_end) n refl)
        ∙ put-moves c.peer (close_frame Receiver) (map (numbered_at p.book) ss) n

    -- what is dropped leaves the rest
    abbrev p3 : Parts
    p3 = done_all (drops p.book i (slots_at p.records i)) p2

    left : IsLeft p2 p3 i
    left = all-left p2 sound2 i (slots_at p.records i) refl

    last-is : done (channel_set i close_end) p3 ≡ done_all (close_list Receiver) p
    last-is = sym (done-append (drops p.book i (slots_at p.records i)) (channel_set i close_end ∷ []) p2)

    pub close-means : (side : Side) → Means p at.node (close_at at.port side) None
    close-means Sender =
        let steps = close-steps Sender in
        record {
          state = ap (λ (cs : List Step). state_of (done_all cs p)) steps ∙ send-state;
          moves = λ n. ap (λ (cs : List Step). all_moves cs n) steps ∙ put-moves c.peer (close_frame Sender) [] n ∙ ap (λ (fs : List (ℕ × List ℕ)). moves_at fs [] n) (sym (close-puts Sender));
          ids = ap (λ (cs : List Step). ids_in (done_all cs p).requests) steps ∙ sym (append-nil (ids_in p.requests));
          fresh = tt;
          lent = None;
          packets = ap (λ (cs : List Step). (done_all cs p).records.lent) steps ∙ sym (append-nil p.records.lent);
          lends = refl;
        }
    close-means Receiver =
        let steps = close-steps Receiver in
        let ss = slots_at p.records i in
        record {
          state = ap (λ (cs : List Step). state_of (done_all cs p)) steps ∙ recv-state;
          moves = λ n.
              ap (λ (cs : List Step). all_moves cs n) steps ∙ recv-moves n
              ∙ ap (λ (fs : List (ℕ × List ℕ)). moves_at fs (map (numbered_at p.book) ss) n) (sym (close-puts Receiver))
              ∙ ap (λ (is : List state.Item). moves_at (success_puts s at.node (close_at at.port Receiver)) is n) (gone-items plain p.book p.records p.requests p.table p.peers at i sound there ∙ returned-agrees s at.node (close_at at.port Receiver));
          ids =
              ap (λ (cs : List Step). ids_in (done_all cs p).requests) steps
              ∙ ap (λ (x : Parts). ids_in x.requests) (sym last-is)
              ∙ ap ids_in left.requests
              ∙ ids-all (waiters.Receives at) (complete.Ended ChanClosed) p.requests.standing
              ∙ sym (append-nil (ids_in p.requests));
          fresh = tt;
          lent = None;
          packets =
              ap (λ (cs : List Step). (done_all cs p).records.lent) steps
              ∙ ap (λ (x : Parts). x.records.lent) (sym last-is)
              ∙ left.lent
              ∙ sym (append-nil p.records.lent);
          lends = refl;
        }
