use Rattle.std.proofs.Common.{refl, ◌≡◌, ◌∙◌, ◌<◌, ◌++◌, ◌∷◌, [], List, ℕ, ap, arith, length, subst, sym, take}
use Rattle.std.specs.Prelude.{IsNone, Some, slice_set}
use Rattle.std.proofs.lemmas.List.{length-map, length-take}
use Rattle.mc_base.specs.declared.fate.Fate.{Fate}
use Rattle.mc_base.specs.declared.request.Slot.{Slot}
use Rattle.board_model.specs.Journal.{take_line}
use Rattle.buffer_book.specs.Book.{Book, IsAway, IsQueued, kept_in_buffer, queued_at, with_joined, with_queued}
use Rattle.message_queue.specs.Queue.{waiting}
use Rattle.request_set.specs.declared.ask.Complete.{Complete}
use Rattle.request_set.specs.Requests.{IsPending, Requests, with_complete}
use Rattle.domain_parts.specs.declared.holdings.Holdings.TheInside.{Inside}
use Rattle.domain_parts.specs.declared.parts.OpenPart.{OpenPart}
use Rattle.board_model.specs.Change.{frame_taken}
use Rattle.board_model.specs.State.{held_of}
use Rattle.mc_base.specs.Limits.{domain_limit}
use Rattle.domain_parts.specs.Dealt.{IsDealt, grown_bytes, word_of}
use Rattle.domain_parts.specs.Growing.{begun_by}
use Rattle.domain_parts.specs.Pieces.{part_with}
use Rattle.domain_parts.specs.Doing.{Takes}
use Rattle.domain_parts.specs.InBook.{endpoint_in}
use Rattle.domain_parts.specs.InPlaces.{slot_at}
use Rattle.domain_parts.specs.InRequests.{handed_by}
use Rattle.domain_parts.specs.LaneSeen.{LaneSeen}
use Rattle.domain_parts.specs.Parts.{Holding, Parts, Sound, holding_in, parts_in, state_of}
use Rattle.domain_parts.specs.Records.{Records, all_waiting, without_part, with_part_open, with_waiting_at, without_part_of}
use Rattle.domain_parts.specs.Verdicts.{Desk, desk, fate_of}
use Rattle.domain_parts.proofs.PartLists.{found-peer}
use Rattle.domain_parts.proofs.Taking.{away-slot, back-keeps, back-takes, begun-keeps, begun-takes, end-out, end-queued, few-open, given-out, grown-keeps, grown-takes, handed-keeps, handed-takes, join-away, join-queued, queued-keeps, queued-takes, room-left, shows, shows-part, small, unqueued-slot, whole_handed-keeps, whole_handed-takes, whole_queued-keeps, whole_queued-takes}
use Rattle.domain_parts.proofs.Turning.{there-read}
use Rattle.domain_parts.proofs.holdings.Holdings.take_frame.Given.{Over}
use Rattle.domain_parts.proofs.holdings.Holdings.take_frame.Goals as goal

abbrev v : (g : Over) → (g.row.P.Denot → LaneSeen)
v g = g.P.PeerLane.seen

abbrev p : (g : Over) → Inside g.row.P.Denot → Parts
p g d = parts_in (v g) d.book d.endpoints d.requests d.table d.peers.items

-- ---- the open part

pub deal_with-dealt-requires-clause-small : goal.deal_with-dealt-requires-clause-small
deal_with-dealt-requires-clause-small g c =
    let d = c.self.inside in
    let x = c.index_mut-peer.result.now in
    let at = there-read (v g) d.book d.endpoints d.requests d.table d.peers.items c.args.place x (subst (λ (h : Holding g.row.P.Denot). c.args.place < length h.parts.peers) (sym c.self.view_is) c.requires.within) c.index_mut-peer.ensures.value in
    let lines = c.args.journal.now.lines in
    let found = c.part_of-open.result in
    let open_is = c.part_of-open.ensures in
    let lines' = lines in
    λ o f. small g.P.PeerLane.Moved g.met.P.PeerLane.none g.met.P.PeerLane.both (v g) d.book d.endpoints d.requests d.table d.peers.items c.self.invariant c.args.place x at c.take-buffer.result.0 c.take-buffer.result.1 lines lines' found open_is o f

pub end_part-requires-clause-queued : goal.end_part-requires-clause-queued
end_part-requires-clause-queued g c =
    let d = c.self.inside in
    let x = c.index_mut-peer.result.now in
    let at = there-read (v g) d.book d.endpoints d.requests d.table d.peers.items c.args.place x (subst (λ (h : Holding g.row.P.Denot). c.args.place < length h.parts.peers) (sym c.self.view_is) c.requires.within) c.index_mut-peer.ensures.value in
    let lines = c.args.journal.now.lines in
    let found = c.part_of-open.result in
    let open_is = c.part_of-open.ensures in
    let lines' = c.note.new.self.lines in
    let n = x.number in
    let m = c.take-buffer.result.0.number in
    let bytes = take c.take-buffer.result.1 c.take-buffer.result.0.bytes in
    let frame : c.split_at.result.0.now ≡ bytes = c.split_at.ensures.front ∙ ap (take c.take-buffer.result.1) c.bytes.ensures.value in
    let took = c.take-buffer.ensures in
    let before = desk d.endpoints d.requests x.known x.replies in
    let after = desk c.deal_with-dealt.new.endpoints c.deal_with-dealt.new.requests c.deal_with-dealt.new.known c.deal_with-dealt.new.replies in
    let all = subst (λ (f : List ℕ). IsDealt (state_of (p g d)) (Some m) n d.book f before after c.deal_with-dealt.result) frame (c.deal_with-dealt.ensures d.book (state_of (p g d)) (Some m) (shows g.P.PeerLane.Moved g.met.P.PeerLane.none g.met.P.PeerLane.both (v g) d.book d.endpoints d.requests d.table d.peers.items c.self.invariant c.args.place x at c.take-buffer.result.0 c.take-buffer.result.1 lines lines' found open_is) (shows-part g.P.PeerLane.Moved g.met.P.PeerLane.none g.met.P.PeerLane.both (v g) d.book d.endpoints d.requests d.table d.peers.items c.self.invariant c.args.place x at c.take-buffer.result.0 c.take-buffer.result.1 lines lines' found open_is)) in
    λ o f. end-queued g.P.PeerLane.Moved g.met.P.PeerLane.none g.met.P.PeerLane.both (v g) d.book d.endpoints d.requests d.table d.peers.items c.self.invariant c.args.place x at c.take-buffer.result.0 c.take-buffer.result.1 lines lines' found open_is c.take-buffer.new.self took.seen took.moved took.apart o f

pub end_part-requires-clause-out : goal.end_part-requires-clause-out
end_part-requires-clause-out g c =
    let d = c.self.inside in
    let x = c.index_mut-peer.result.now in
    let at = there-read (v g) d.book d.endpoints d.requests d.table d.peers.items c.args.place x (subst (λ (h : Holding g.row.P.Denot). c.args.place < length h.parts.peers) (sym c.self.view_is) c.requires.within) c.index_mut-peer.ensures.value in
    let lines = c.args.journal.now.lines in
    let found = c.part_of-open.result in
    let open_is = c.part_of-open.ensures in
    let lines' = c.note.new.self.lines in
    let n = x.number in
    let m = c.take-buffer.result.0.number in
    let bytes = take c.take-buffer.result.1 c.take-buffer.result.0.bytes in
    let frame : c.split_at.result.0.now ≡ bytes = c.split_at.ensures.front ∙ ap (take c.take-buffer.result.1) c.bytes.ensures.value in
    let took = c.take-buffer.ensures in
    let before = desk d.endpoints d.requests x.known x.replies in
    let after = desk c.deal_with-dealt.new.endpoints c.deal_with-dealt.new.requests c.deal_with-dealt.new.known c.deal_with-dealt.new.replies in
    let all = subst (λ (f : List ℕ). IsDealt (state_of (p g d)) (Some m) n d.book f before after c.deal_with-dealt.result) frame (c.deal_with-dealt.ensures d.book (state_of (p g d)) (Some m) (shows g.P.PeerLane.Moved g.met.P.PeerLane.none g.met.P.PeerLane.both (v g) d.book d.endpoints d.requests d.table d.peers.items c.self.invariant c.args.place x at c.take-buffer.result.0 c.take-buffer.result.1 lines lines' found open_is) (shows-part g.P.PeerLane.Moved g.met.P.PeerLane.none g.met.P.PeerLane.both (v g) d.book d.endpoints d.requests d.table d.peers.items c.self.invariant c.args.place x at c.take-buffer.result.0 c.take-buffer.result.1 lines lines' found open_is)) in
    end-out g.P.PeerLane.Moved g.met.P.PeerLane.none g.met.P.PeerLane.both (v g) d.book d.endpoints d.requests d.table d.peers.items c.self.invariant c.args.place x at c.take-buffer.result.0 c.take-buffer.result.1 lines lines' found open_is c.take-buffer.new.self took.seen took.moved took.apart

-- ---- its message is queued

pub enqueue-slot-requires-clause-away : goal.enqueue-slot-requires-clause-away
enqueue-slot-requires-clause-away g c =
    let d = c.self.inside in
    let x = c.index_mut-peer.result.now in
    let at = there-read (v g) d.book d.endpoints d.requests d.table d.peers.items c.args.place x (subst (λ (h : Holding g.row.P.Denot). c.args.place < length h.parts.peers) (sym c.self.view_is) c.requires.within) c.index_mut-peer.ensures.value in
    let lines = c.args.journal.now.lines in
    let found = c.part_of-open.result in
    let open_is = c.part_of-open.ensures in
    let lines' = c.note.new.self.lines in
    let n = x.number in
    let m = c.take-buffer.result.0.number in
    let bytes = take c.take-buffer.result.1 c.take-buffer.result.0.bytes in
    let frame : c.split_at.result.0.now ≡ bytes = c.split_at.ensures.front ∙ ap (take c.take-buffer.result.1) c.bytes.ensures.value in
    let took = c.take-buffer.ensures in
    let before = desk d.endpoints d.requests x.known x.replies in
    let after = desk c.deal_with-dealt.new.endpoints c.deal_with-dealt.new.requests c.deal_with-dealt.new.known c.deal_with-dealt.new.replies in
    let all = subst (λ (f : List ℕ). IsDealt (state_of (p g d)) (Some m) n d.book f before after c.deal_with-dealt.result) frame (c.deal_with-dealt.ensures d.book (state_of (p g d)) (Some m) (shows g.P.PeerLane.Moved g.met.P.PeerLane.none g.met.P.PeerLane.both (v g) d.book d.endpoints d.requests d.table d.peers.items c.self.invariant c.args.place x at c.take-buffer.result.0 c.take-buffer.result.1 lines lines' found open_is) (shows-part g.P.PeerLane.Moved g.met.P.PeerLane.none g.met.P.PeerLane.both (v g) d.book d.endpoints d.requests d.table d.peers.items c.self.invariant c.args.place x at c.take-buffer.result.0 c.take-buffer.result.1 lines lines' found open_is)) in
    subst (λ (b : Book). IsAway b (slot_at n m)) (sym c.end_part.ensures.book) (away-slot g.P.PeerLane.Moved g.met.P.PeerLane.none g.met.P.PeerLane.both (v g) d.book d.endpoints d.requests d.table d.peers.items c.self.invariant c.args.place x at c.take-buffer.result.0 c.take-buffer.result.1 lines lines' found open_is c.take-buffer.new.self took.seen took.moved took.apart)

pub enqueue-slot-requires-clause-unqueued : goal.enqueue-slot-requires-clause-unqueued
enqueue-slot-requires-clause-unqueued g c =
    let d = c.self.inside in
    let x = c.index_mut-peer.result.now in
    let at = there-read (v g) d.book d.endpoints d.requests d.table d.peers.items c.args.place x (subst (λ (h : Holding g.row.P.Denot). c.args.place < length h.parts.peers) (sym c.self.view_is) c.requires.within) c.index_mut-peer.ensures.value in
    let lines = c.args.journal.now.lines in
    let found = c.part_of-open.result in
    let open_is = c.part_of-open.ensures in
    let lines' = c.note.new.self.lines in
    let n = x.number in
    let m = c.take-buffer.result.0.number in
    let bytes = take c.take-buffer.result.1 c.take-buffer.result.0.bytes in
    let frame : c.split_at.result.0.now ≡ bytes = c.split_at.ensures.front ∙ ap (take c.take-buffer.result.1) c.bytes.ensures.value in
    let took = c.take-buffer.ensures in
    let before = desk d.endpoints d.requests x.known x.replies in
    let after = desk c.deal_with-dealt.new.endpoints c.deal_with-dealt.new.requests c.deal_with-dealt.new.known c.deal_with-dealt.new.replies in
    let all = subst (λ (f : List ℕ). IsDealt (state_of (p g d)) (Some m) n d.book f before after c.deal_with-dealt.result) frame (c.deal_with-dealt.ensures d.book (state_of (p g d)) (Some m) (shows g.P.PeerLane.Moved g.met.P.PeerLane.none g.met.P.PeerLane.both (v g) d.book d.endpoints d.requests d.table d.peers.items c.self.invariant c.args.place x at c.take-buffer.result.0 c.take-buffer.result.1 lines lines' found open_is) (shows-part g.P.PeerLane.Moved g.met.P.PeerLane.none g.met.P.PeerLane.both (v g) d.book d.endpoints d.requests d.table d.peers.items c.self.invariant c.args.place x at c.take-buffer.result.0 c.take-buffer.result.1 lines lines' found open_is)) in
    subst IsNone (sym (ap (λ (b : Book). queued_at b (slot_at n m)) c.end_part.ensures.book ∙ unqueued-slot g.P.PeerLane.Moved g.met.P.PeerLane.none g.met.P.PeerLane.both (v g) d.book d.endpoints d.requests d.table d.peers.items c.self.invariant c.args.place x at c.take-buffer.result.0 c.take-buffer.result.1 lines lines' found open_is c.take-buffer.new.self took.seen took.moved took.apart)) refl

pub enqueue-slot-requires-clause-inside : goal.enqueue-slot-requires-clause-inside
enqueue-slot-requires-clause-inside g c =
    let d = c.self.inside in
    let x = c.index_mut-peer.result.now in
    let at = there-read (v g) d.book d.endpoints d.requests d.table d.peers.items c.args.place x (subst (λ (h : Holding g.row.P.Denot). c.args.place < length h.parts.peers) (sym c.self.view_is) c.requires.within) c.index_mut-peer.ensures.value in
    let lines = c.args.journal.now.lines in
    let found = c.part_of-open.result in
    let open_is = c.part_of-open.ensures in
    let lines' = c.note.new.self.lines in
    let n = x.number in
    let m = c.take-buffer.result.0.number in
    let bytes = take c.take-buffer.result.1 c.take-buffer.result.0.bytes in
    let frame : c.split_at.result.0.now ≡ bytes = c.split_at.ensures.front ∙ ap (take c.take-buffer.result.1) c.bytes.ensures.value in
    let took = c.take-buffer.ensures in
    let before = desk d.endpoints d.requests x.known x.replies in
    let after = desk c.deal_with-dealt.new.endpoints c.deal_with-dealt.new.requests c.deal_with-dealt.new.known c.deal_with-dealt.new.replies in
    let all = subst (λ (f : List ℕ). IsDealt (state_of (p g d)) (Some m) n d.book f before after c.deal_with-dealt.result) frame (c.deal_with-dealt.ensures d.book (state_of (p g d)) (Some m) (shows g.P.PeerLane.Moved g.met.P.PeerLane.none g.met.P.PeerLane.both (v g) d.book d.endpoints d.requests d.table d.peers.items c.self.invariant c.args.place x at c.take-buffer.result.0 c.take-buffer.result.1 lines lines' found open_is) (shows-part g.P.PeerLane.Moved g.met.P.PeerLane.none g.met.P.PeerLane.both (v g) d.book d.endpoints d.requests d.table d.peers.items c.self.invariant c.args.place x at c.take-buffer.result.0 c.take-buffer.result.1 lines lines' found open_is)) in
    let alone = rw c.in-Alone.is at all in
    let is = rw c.in-Queued.is at alone.verdict in
    let inside = is.1.inside in let cut = length-take c.take-buffer.result.1 c.take-buffer.result.0.bytes in let most = took.fits in omega (arith, inside, cut, most)

pub queue_last-requires-clause-within : goal.queue_last-requires-clause-within
queue_last-requires-clause-within g c =
    let d = c.self.inside in
    let x = c.index_mut-peer.result.now in
    let at = there-read (v g) d.book d.endpoints d.requests d.table d.peers.items c.args.place x (subst (λ (h : Holding g.row.P.Denot). c.args.place < length h.parts.peers) (sym c.self.view_is) c.requires.within) c.index_mut-peer.ensures.value in
    let lines = c.args.journal.now.lines in
    let found = c.part_of-open.result in
    let open_is = c.part_of-open.ensures in
    let lines' = c.note.new.self.lines in
    let n = x.number in
    let m = c.take-buffer.result.0.number in
    let bytes = take c.take-buffer.result.1 c.take-buffer.result.0.bytes in
    let frame : c.split_at.result.0.now ≡ bytes = c.split_at.ensures.front ∙ ap (take c.take-buffer.result.1) c.bytes.ensures.value in
    let took = c.take-buffer.ensures in
    let before = desk d.endpoints d.requests x.known x.replies in
    let after = desk c.deal_with-dealt.new.endpoints c.deal_with-dealt.new.requests c.deal_with-dealt.new.known c.deal_with-dealt.new.replies in
    let all = subst (λ (f : List ℕ). IsDealt (state_of (p g d)) (Some m) n d.book f before after c.deal_with-dealt.result) frame (c.deal_with-dealt.ensures d.book (state_of (p g d)) (Some m) (shows g.P.PeerLane.Moved g.met.P.PeerLane.none g.met.P.PeerLane.both (v g) d.book d.endpoints d.requests d.table d.peers.items c.self.invariant c.args.place x at c.take-buffer.result.0 c.take-buffer.result.1 lines lines' found open_is) (shows-part g.P.PeerLane.Moved g.met.P.PeerLane.none g.met.P.PeerLane.both (v g) d.book d.endpoints d.requests d.table d.peers.items c.self.invariant c.args.place x at c.take-buffer.result.0 c.take-buffer.result.1 lines lines' found open_is)) in
    let alone = rw c.in-Alone.is at all in
    let is = rw c.in-Queued.is at alone.verdict in
    let within = is.0.within in let same = ap (λ (r : Records). length r.endpoints) (c.drop_part.ensures ∙ ap (λ (z : Desk). without_part_of z.records n) is.3) in let long = length-map d.endpoints.endpoints (endpoint_in d.book) in omega (arith, within, same, long)

pub queue_last-requires-clause-room : goal.queue_last-requires-clause-room
queue_last-requires-clause-room g c =
    let d = c.self.inside in
    let x = c.index_mut-peer.result.now in
    let at = there-read (v g) d.book d.endpoints d.requests d.table d.peers.items c.args.place x (subst (λ (h : Holding g.row.P.Denot). c.args.place < length h.parts.peers) (sym c.self.view_is) c.requires.within) c.index_mut-peer.ensures.value in
    let lines = c.args.journal.now.lines in
    let found = c.part_of-open.result in
    let open_is = c.part_of-open.ensures in
    let lines' = c.note.new.self.lines in
    let n = x.number in
    let m = c.take-buffer.result.0.number in
    let bytes = take c.take-buffer.result.1 c.take-buffer.result.0.bytes in
    let frame : c.split_at.result.0.now ≡ bytes = c.split_at.ensures.front ∙ ap (take c.take-buffer.result.1) c.bytes.ensures.value in
    let took = c.take-buffer.ensures in
    let before = desk d.endpoints d.requests x.known x.replies in
    let after = desk c.deal_with-dealt.new.endpoints c.deal_with-dealt.new.requests c.deal_with-dealt.new.known c.deal_with-dealt.new.replies in
    let all = subst (λ (f : List ℕ). IsDealt (state_of (p g d)) (Some m) n d.book f before after c.deal_with-dealt.result) frame (c.deal_with-dealt.ensures d.book (state_of (p g d)) (Some m) (shows g.P.PeerLane.Moved g.met.P.PeerLane.none g.met.P.PeerLane.both (v g) d.book d.endpoints d.requests d.table d.peers.items c.self.invariant c.args.place x at c.take-buffer.result.0 c.take-buffer.result.1 lines lines' found open_is) (shows-part g.P.PeerLane.Moved g.met.P.PeerLane.none g.met.P.PeerLane.both (v g) d.book d.endpoints d.requests d.table d.peers.items c.self.invariant c.args.place x at c.take-buffer.result.0 c.take-buffer.result.1 lines lines' found open_is)) in
    let alone = rw c.in-Alone.is at all in
    let is = rw c.in-Queued.is at alone.verdict in
    subst (λ (r : Records). length (all_waiting r.endpoints) < r.room) (sym (c.drop_part.ensures ∙ ap (λ (z : Desk). without_part_of z.records n) is.3)) (room-left g.P.PeerLane.Moved g.met.P.PeerLane.none g.met.P.PeerLane.both (v g) d.book d.endpoints d.requests d.table d.peers.items c.self.invariant c.args.place x at c.take-buffer.result.0 c.take-buffer.result.1 lines lines' found open_is c.take-buffer.new.self took.seen took.moved took.apart)

pub invariant_of-self : goal.invariant_of-self
invariant_of-self g c =
    let d = c.self.inside in
    let x = c.index_mut-peer.result.now in
    let at = there-read (v g) d.book d.endpoints d.requests d.table d.peers.items c.args.place x (subst (λ (h : Holding g.row.P.Denot). c.args.place < length h.parts.peers) (sym c.self.view_is) c.requires.within) c.index_mut-peer.ensures.value in
    let lines = c.args.journal.now.lines in
    let found = c.part_of-open.result in
    let open_is = c.part_of-open.ensures in
    let lines' = c.note.new.self.lines in
    let n = x.number in
    let m = c.take-buffer.result.0.number in
    let bytes = take c.take-buffer.result.1 c.take-buffer.result.0.bytes in
    let frame : c.split_at.result.0.now ≡ bytes = c.split_at.ensures.front ∙ ap (take c.take-buffer.result.1) c.bytes.ensures.value in
    let took = c.take-buffer.ensures in
    let before = desk d.endpoints d.requests x.known x.replies in
    let after = desk c.deal_with-dealt.new.endpoints c.deal_with-dealt.new.requests c.deal_with-dealt.new.known c.deal_with-dealt.new.replies in
    let all = subst (λ (f : List ℕ). IsDealt (state_of (p g d)) (Some m) n d.book f before after c.deal_with-dealt.result) frame (c.deal_with-dealt.ensures d.book (state_of (p g d)) (Some m) (shows g.P.PeerLane.Moved g.met.P.PeerLane.none g.met.P.PeerLane.both (v g) d.book d.endpoints d.requests d.table d.peers.items c.self.invariant c.args.place x at c.take-buffer.result.0 c.take-buffer.result.1 lines lines' found open_is) (shows-part g.P.PeerLane.Moved g.met.P.PeerLane.none g.met.P.PeerLane.both (v g) d.book d.endpoints d.requests d.table d.peers.items c.self.invariant c.args.place x at c.take-buffer.result.0 c.take-buffer.result.1 lines lines' found open_is)) in
    let alone = rw c.in-Alone.is at all in
    let is = rw c.in-Queued.is at alone.verdict in
    let slot = c.enqueue-slot.ensures.slot in
    let records = c.queue_last.ensures ∙ ap (λ (r : Records). with_waiting_at r c.in-Queued.at (waiting c.enqueue-slot.result c.in-Queued.priority)) (c.drop_part.ensures ∙ ap (λ (z : Desk). without_part_of z.records n) is.3) ∙ ap (λ (s : Slot). with_waiting_at (without_part_of d.endpoints n) c.in-Queued.at (waiting s c.in-Queued.priority)) slot in
    let book = c.enqueue-slot.ensures.book ∙ ap (λ (s : Slot). with_queued c.end_part.new.book s (kept_in_buffer c.take-buffer.result.0 c.in-Alone.headers c.in-Queued.size)) slot ∙ ap (λ (b : Book). with_queued b (slot_at n m) (kept_in_buffer c.take-buffer.result.0 c.in-Alone.headers c.in-Queued.size)) c.end_part.ensures.book in
    queued-keeps g.P.PeerLane.Moved g.met.P.PeerLane.none g.met.P.PeerLane.both (v g) d.book d.endpoints d.requests d.table d.peers.items c.self.invariant c.args.place x at c.take-buffer.result.0 c.take-buffer.result.1 lines lines' found open_is c.take-buffer.new.self took.seen took.moved took.apart c.end_part.new.ends c.end_part.ensures.seen c.end_part.ensures.moved c.in-Alone.headers c.in-Queued.size is.1 c.enqueue-slot.new.self book c.deal_with-dealt.new.known (ap (λ (z : Desk). z.names) is.3) c.deal_with-dealt.new.replies (ap (λ (z : Desk). z.replies) is.3) alone.shut c.in-Queued.at c.in-Queued.priority is.0 is.2 (rw c.in-Queued.is at alone.gives) c.queue_last.new.self c.deal_with-dealt.new.requests records (ap (λ (z : Desk). z.requests) is.3)

pub returns-in-Queued-clause-takes : goal.returns-in-Queued-clause-takes
returns-in-Queued-clause-takes g c =
    let d = c.self.inside in
    let x = c.index_mut-peer.result.now in
    let at = there-read (v g) d.book d.endpoints d.requests d.table d.peers.items c.args.place x (subst (λ (h : Holding g.row.P.Denot). c.args.place < length h.parts.peers) (sym c.self.view_is) c.requires.within) c.index_mut-peer.ensures.value in
    let lines = c.args.journal.now.lines in
    let found = c.part_of-open.result in
    let open_is = c.part_of-open.ensures in
    let lines' = c.note.new.self.lines in
    let n = x.number in
    let m = c.take-buffer.result.0.number in
    let bytes = take c.take-buffer.result.1 c.take-buffer.result.0.bytes in
    let frame : c.split_at.result.0.now ≡ bytes = c.split_at.ensures.front ∙ ap (take c.take-buffer.result.1) c.bytes.ensures.value in
    let took = c.take-buffer.ensures in
    let before = desk d.endpoints d.requests x.known x.replies in
    let after = desk c.deal_with-dealt.new.endpoints c.deal_with-dealt.new.requests c.deal_with-dealt.new.known c.deal_with-dealt.new.replies in
    let all = subst (λ (f : List ℕ). IsDealt (state_of (p g d)) (Some m) n d.book f before after c.deal_with-dealt.result) frame (c.deal_with-dealt.ensures d.book (state_of (p g d)) (Some m) (shows g.P.PeerLane.Moved g.met.P.PeerLane.none g.met.P.PeerLane.both (v g) d.book d.endpoints d.requests d.table d.peers.items c.self.invariant c.args.place x at c.take-buffer.result.0 c.take-buffer.result.1 lines lines' found open_is) (shows-part g.P.PeerLane.Moved g.met.P.PeerLane.none g.met.P.PeerLane.both (v g) d.book d.endpoints d.requests d.table d.peers.items c.self.invariant c.args.place x at c.take-buffer.result.0 c.take-buffer.result.1 lines lines' found open_is)) in
    let alone = rw c.in-Alone.is at all in
    let is = rw c.in-Queued.is at alone.verdict in
    let slot = c.enqueue-slot.ensures.slot in
    let records = c.queue_last.ensures ∙ ap (λ (r : Records). with_waiting_at r c.in-Queued.at (waiting c.enqueue-slot.result c.in-Queued.priority)) (c.drop_part.ensures ∙ ap (λ (z : Desk). without_part_of z.records n) is.3) ∙ ap (λ (s : Slot). with_waiting_at (without_part_of d.endpoints n) c.in-Queued.at (waiting s c.in-Queued.priority)) slot in
    let book = c.enqueue-slot.ensures.book ∙ ap (λ (s : Slot). with_queued c.end_part.new.book s (kept_in_buffer c.take-buffer.result.0 c.in-Alone.headers c.in-Queued.size)) slot ∙ ap (λ (b : Book). with_queued b (slot_at n m) (kept_in_buffer c.take-buffer.result.0 c.in-Alone.headers c.in-Queued.size)) c.end_part.ensures.book in
    let told = c.note.ensures.lines ∙ ap (λ (f : List ℕ). lines ++ take_line n f c.fate-fate.result ∷ []) frame ∙ ap (λ (w : Fate). lines ++ take_line n bytes w ∷ []) (c.fate-fate.ensures ∙ ap word_of c.in-Alone.is ∙ ap fate_of c.in-Queued.is) in
    subst (λ (h : Holding g.row.P.Denot). Takes g.P.PeerLane.Moved c.args.place 1 h (holding_in (v g) c.enqueue-slot.new.self c.queue_last.new.self c.deal_with-dealt.new.requests d.table (slice_set d.peers.items c.args.place (record x { ends = c.end_part.new.ends; known = c.deal_with-dealt.new.known; replies = c.deal_with-dealt.new.replies }))) lines lines') c.self.view_is
    (queued-takes g.P.PeerLane.Moved g.met.P.PeerLane.none g.met.P.PeerLane.both (v g) d.book d.endpoints d.requests d.table d.peers.items c.self.invariant c.args.place x at c.take-buffer.result.0 c.take-buffer.result.1 lines lines' found open_is c.take-buffer.new.self took.seen took.moved took.apart c.end_part.new.ends c.end_part.ensures.seen c.end_part.ensures.moved c.in-Alone.headers c.in-Queued.size is.1 c.enqueue-slot.new.self book c.deal_with-dealt.new.known (ap (λ (z : Desk). z.names) is.3) c.deal_with-dealt.new.replies (ap (λ (z : Desk). z.replies) is.3) alone.shut c.in-Queued.at c.in-Queued.priority is.0 is.2 (rw c.in-Queued.is at alone.gives) c.queue_last.new.self c.deal_with-dealt.new.requests records (ap (λ (z : Desk). z.requests) is.3) told)

-- ---- it is handed to a request

pub enqueue-slot-requires-in-Handed-clause-away : goal.enqueue-slot-requires-in-Handed-clause-away
enqueue-slot-requires-in-Handed-clause-away g c =
    let d = c.self.inside in
    let x = c.index_mut-peer.result.now in
    let at = there-read (v g) d.book d.endpoints d.requests d.table d.peers.items c.args.place x (subst (λ (h : Holding g.row.P.Denot). c.args.place < length h.parts.peers) (sym c.self.view_is) c.requires.within) c.index_mut-peer.ensures.value in
    let lines = c.args.journal.now.lines in
    let found = c.part_of-open.result in
    let open_is = c.part_of-open.ensures in
    let lines' = c.note.new.self.lines in
    let n = x.number in
    let m = c.take-buffer.result.0.number in
    let bytes = take c.take-buffer.result.1 c.take-buffer.result.0.bytes in
    let frame : c.split_at.result.0.now ≡ bytes = c.split_at.ensures.front ∙ ap (take c.take-buffer.result.1) c.bytes.ensures.value in
    let took = c.take-buffer.ensures in
    let before = desk d.endpoints d.requests x.known x.replies in
    let after = desk c.deal_with-dealt.new.endpoints c.deal_with-dealt.new.requests c.deal_with-dealt.new.known c.deal_with-dealt.new.replies in
    let all = subst (λ (f : List ℕ). IsDealt (state_of (p g d)) (Some m) n d.book f before after c.deal_with-dealt.result) frame (c.deal_with-dealt.ensures d.book (state_of (p g d)) (Some m) (shows g.P.PeerLane.Moved g.met.P.PeerLane.none g.met.P.PeerLane.both (v g) d.book d.endpoints d.requests d.table d.peers.items c.self.invariant c.args.place x at c.take-buffer.result.0 c.take-buffer.result.1 lines lines' found open_is) (shows-part g.P.PeerLane.Moved g.met.P.PeerLane.none g.met.P.PeerLane.both (v g) d.book d.endpoints d.requests d.table d.peers.items c.self.invariant c.args.place x at c.take-buffer.result.0 c.take-buffer.result.1 lines lines' found open_is)) in
    subst (λ (b : Book). IsAway b (slot_at n m)) (sym c.end_part.ensures.book) (away-slot g.P.PeerLane.Moved g.met.P.PeerLane.none g.met.P.PeerLane.both (v g) d.book d.endpoints d.requests d.table d.peers.items c.self.invariant c.args.place x at c.take-buffer.result.0 c.take-buffer.result.1 lines lines' found open_is c.take-buffer.new.self took.seen took.moved took.apart)

pub enqueue-slot-requires-in-Handed-clause-unqueued : goal.enqueue-slot-requires-in-Handed-clause-unqueued
enqueue-slot-requires-in-Handed-clause-unqueued g c =
    let d = c.self.inside in
    let x = c.index_mut-peer.result.now in
    let at = there-read (v g) d.book d.endpoints d.requests d.table d.peers.items c.args.place x (subst (λ (h : Holding g.row.P.Denot). c.args.place < length h.parts.peers) (sym c.self.view_is) c.requires.within) c.index_mut-peer.ensures.value in
    let lines = c.args.journal.now.lines in
    let found = c.part_of-open.result in
    let open_is = c.part_of-open.ensures in
    let lines' = c.note.new.self.lines in
    let n = x.number in
    let m = c.take-buffer.result.0.number in
    let bytes = take c.take-buffer.result.1 c.take-buffer.result.0.bytes in
    let frame : c.split_at.result.0.now ≡ bytes = c.split_at.ensures.front ∙ ap (take c.take-buffer.result.1) c.bytes.ensures.value in
    let took = c.take-buffer.ensures in
    let before = desk d.endpoints d.requests x.known x.replies in
    let after = desk c.deal_with-dealt.new.endpoints c.deal_with-dealt.new.requests c.deal_with-dealt.new.known c.deal_with-dealt.new.replies in
    let all = subst (λ (f : List ℕ). IsDealt (state_of (p g d)) (Some m) n d.book f before after c.deal_with-dealt.result) frame (c.deal_with-dealt.ensures d.book (state_of (p g d)) (Some m) (shows g.P.PeerLane.Moved g.met.P.PeerLane.none g.met.P.PeerLane.both (v g) d.book d.endpoints d.requests d.table d.peers.items c.self.invariant c.args.place x at c.take-buffer.result.0 c.take-buffer.result.1 lines lines' found open_is) (shows-part g.P.PeerLane.Moved g.met.P.PeerLane.none g.met.P.PeerLane.both (v g) d.book d.endpoints d.requests d.table d.peers.items c.self.invariant c.args.place x at c.take-buffer.result.0 c.take-buffer.result.1 lines lines' found open_is)) in
    subst IsNone (sym (ap (λ (b : Book). queued_at b (slot_at n m)) c.end_part.ensures.book ∙ unqueued-slot g.P.PeerLane.Moved g.met.P.PeerLane.none g.met.P.PeerLane.both (v g) d.book d.endpoints d.requests d.table d.peers.items c.self.invariant c.args.place x at c.take-buffer.result.0 c.take-buffer.result.1 lines lines' found open_is c.take-buffer.new.self took.seen took.moved took.apart)) refl

pub enqueue-slot-requires-in-Handed-clause-inside : goal.enqueue-slot-requires-in-Handed-clause-inside
enqueue-slot-requires-in-Handed-clause-inside g c =
    let d = c.self.inside in
    let x = c.index_mut-peer.result.now in
    let at = there-read (v g) d.book d.endpoints d.requests d.table d.peers.items c.args.place x (subst (λ (h : Holding g.row.P.Denot). c.args.place < length h.parts.peers) (sym c.self.view_is) c.requires.within) c.index_mut-peer.ensures.value in
    let lines = c.args.journal.now.lines in
    let found = c.part_of-open.result in
    let open_is = c.part_of-open.ensures in
    let lines' = c.note.new.self.lines in
    let n = x.number in
    let m = c.take-buffer.result.0.number in
    let bytes = take c.take-buffer.result.1 c.take-buffer.result.0.bytes in
    let frame : c.split_at.result.0.now ≡ bytes = c.split_at.ensures.front ∙ ap (take c.take-buffer.result.1) c.bytes.ensures.value in
    let took = c.take-buffer.ensures in
    let before = desk d.endpoints d.requests x.known x.replies in
    let after = desk c.deal_with-dealt.new.endpoints c.deal_with-dealt.new.requests c.deal_with-dealt.new.known c.deal_with-dealt.new.replies in
    let all = subst (λ (f : List ℕ). IsDealt (state_of (p g d)) (Some m) n d.book f before after c.deal_with-dealt.result) frame (c.deal_with-dealt.ensures d.book (state_of (p g d)) (Some m) (shows g.P.PeerLane.Moved g.met.P.PeerLane.none g.met.P.PeerLane.both (v g) d.book d.endpoints d.requests d.table d.peers.items c.self.invariant c.args.place x at c.take-buffer.result.0 c.take-buffer.result.1 lines lines' found open_is) (shows-part g.P.PeerLane.Moved g.met.P.PeerLane.none g.met.P.PeerLane.both (v g) d.book d.endpoints d.requests d.table d.peers.items c.self.invariant c.args.place x at c.take-buffer.result.0 c.take-buffer.result.1 lines lines' found open_is)) in
    let alone = rw c.in-Alone.is at all in
    let is = rw c.in-Handed.is at alone.verdict in
    let inside = is.1.inside in let cut = length-take c.take-buffer.result.1 c.take-buffer.result.0.bytes in let most = took.fits in omega (arith, inside, cut, most)

pub complete-requires : goal.complete-requires
complete-requires g c =
    let d = c.self.inside in
    let x = c.index_mut-peer.result.now in
    let at = there-read (v g) d.book d.endpoints d.requests d.table d.peers.items c.args.place x (subst (λ (h : Holding g.row.P.Denot). c.args.place < length h.parts.peers) (sym c.self.view_is) c.requires.within) c.index_mut-peer.ensures.value in
    let lines = c.args.journal.now.lines in
    let found = c.part_of-open.result in
    let open_is = c.part_of-open.ensures in
    let lines' = c.note.new.self.lines in
    let n = x.number in
    let m = c.take-buffer.result.0.number in
    let bytes = take c.take-buffer.result.1 c.take-buffer.result.0.bytes in
    let frame : c.split_at.result.0.now ≡ bytes = c.split_at.ensures.front ∙ ap (take c.take-buffer.result.1) c.bytes.ensures.value in
    let took = c.take-buffer.ensures in
    let before = desk d.endpoints d.requests x.known x.replies in
    let after = desk c.deal_with-dealt.new.endpoints c.deal_with-dealt.new.requests c.deal_with-dealt.new.known c.deal_with-dealt.new.replies in
    let all = subst (λ (f : List ℕ). IsDealt (state_of (p g d)) (Some m) n d.book f before after c.deal_with-dealt.result) frame (c.deal_with-dealt.ensures d.book (state_of (p g d)) (Some m) (shows g.P.PeerLane.Moved g.met.P.PeerLane.none g.met.P.PeerLane.both (v g) d.book d.endpoints d.requests d.table d.peers.items c.self.invariant c.args.place x at c.take-buffer.result.0 c.take-buffer.result.1 lines lines' found open_is) (shows-part g.P.PeerLane.Moved g.met.P.PeerLane.none g.met.P.PeerLane.both (v g) d.book d.endpoints d.requests d.table d.peers.items c.self.invariant c.args.place x at c.take-buffer.result.0 c.take-buffer.result.1 lines lines' found open_is)) in
    let alone = rw c.in-Alone.is at all in
    let is = rw c.in-Handed.is at alone.verdict in
    subst (λ (z : Desk). IsPending z.requests c.in-Handed.id) (sym is.2) is.0.pending

pub invariant_of-self-in-Handed : goal.invariant_of-self-in-Handed
invariant_of-self-in-Handed g c =
    let d = c.self.inside in
    let x = c.index_mut-peer.result.now in
    let at = there-read (v g) d.book d.endpoints d.requests d.table d.peers.items c.args.place x (subst (λ (h : Holding g.row.P.Denot). c.args.place < length h.parts.peers) (sym c.self.view_is) c.requires.within) c.index_mut-peer.ensures.value in
    let lines = c.args.journal.now.lines in
    let found = c.part_of-open.result in
    let open_is = c.part_of-open.ensures in
    let lines' = c.note.new.self.lines in
    let n = x.number in
    let m = c.take-buffer.result.0.number in
    let bytes = take c.take-buffer.result.1 c.take-buffer.result.0.bytes in
    let frame : c.split_at.result.0.now ≡ bytes = c.split_at.ensures.front ∙ ap (take c.take-buffer.result.1) c.bytes.ensures.value in
    let took = c.take-buffer.ensures in
    let before = desk d.endpoints d.requests x.known x.replies in
    let after = desk c.deal_with-dealt.new.endpoints c.deal_with-dealt.new.requests c.deal_with-dealt.new.known c.deal_with-dealt.new.replies in
    let all = subst (λ (f : List ℕ). IsDealt (state_of (p g d)) (Some m) n d.book f before after c.deal_with-dealt.result) frame (c.deal_with-dealt.ensures d.book (state_of (p g d)) (Some m) (shows g.P.PeerLane.Moved g.met.P.PeerLane.none g.met.P.PeerLane.both (v g) d.book d.endpoints d.requests d.table d.peers.items c.self.invariant c.args.place x at c.take-buffer.result.0 c.take-buffer.result.1 lines lines' found open_is) (shows-part g.P.PeerLane.Moved g.met.P.PeerLane.none g.met.P.PeerLane.both (v g) d.book d.endpoints d.requests d.table d.peers.items c.self.invariant c.args.place x at c.take-buffer.result.0 c.take-buffer.result.1 lines lines' found open_is)) in
    let alone = rw c.in-Alone.is at all in
    let is = rw c.in-Handed.is at alone.verdict in
    let slot = c.enqueue-slot-in-Handed.ensures.slot in
    let requests = c.complete.ensures ∙ ap (λ (q : Requests). with_complete q c.in-Handed.id c.handed.result) (ap (λ (z : Desk). z.requests) is.2) ∙ ap (λ (how : Complete). with_complete d.requests c.in-Handed.id how) (c.handed.ensures ∙ ap (handed_by c.in-Handed.ask) slot) in
    let book = c.enqueue-slot-in-Handed.ensures.book ∙ ap (λ (s : Slot). with_queued c.end_part.new.book s (kept_in_buffer c.take-buffer.result.0 c.in-Alone.headers c.in-Handed.size)) slot ∙ ap (λ (b : Book). with_queued b (slot_at n m) (kept_in_buffer c.take-buffer.result.0 c.in-Alone.headers c.in-Handed.size)) c.end_part.ensures.book in
    handed-keeps g.P.PeerLane.Moved g.met.P.PeerLane.none g.met.P.PeerLane.both (v g) d.book d.endpoints d.requests d.table d.peers.items c.self.invariant c.args.place x at c.take-buffer.result.0 c.take-buffer.result.1 lines lines' found open_is c.take-buffer.new.self took.seen took.moved took.apart c.end_part.new.ends c.end_part.ensures.seen c.end_part.ensures.moved c.in-Alone.headers c.in-Handed.size is.1 c.enqueue-slot-in-Handed.new.self book c.deal_with-dealt.new.known (ap (λ (z : Desk). z.names) is.2) c.deal_with-dealt.new.replies (ap (λ (z : Desk). z.replies) is.2) alone.shut c.in-Handed.id c.in-Handed.ask is.0 (rw c.in-Handed.is at alone.gives) c.drop_part.new.self c.complete.new.self (c.drop_part.ensures ∙ ap (λ (z : Desk). without_part_of z.records n) is.2) requests

pub returns-in-Handed-clause-takes : goal.returns-in-Handed-clause-takes
returns-in-Handed-clause-takes g c =
    let d = c.self.inside in
    let x = c.index_mut-peer.result.now in
    let at = there-read (v g) d.book d.endpoints d.requests d.table d.peers.items c.args.place x (subst (λ (h : Holding g.row.P.Denot). c.args.place < length h.parts.peers) (sym c.self.view_is) c.requires.within) c.index_mut-peer.ensures.value in
    let lines = c.args.journal.now.lines in
    let found = c.part_of-open.result in
    let open_is = c.part_of-open.ensures in
    let lines' = c.note.new.self.lines in
    let n = x.number in
    let m = c.take-buffer.result.0.number in
    let bytes = take c.take-buffer.result.1 c.take-buffer.result.0.bytes in
    let frame : c.split_at.result.0.now ≡ bytes = c.split_at.ensures.front ∙ ap (take c.take-buffer.result.1) c.bytes.ensures.value in
    let took = c.take-buffer.ensures in
    let before = desk d.endpoints d.requests x.known x.replies in
    let after = desk c.deal_with-dealt.new.endpoints c.deal_with-dealt.new.requests c.deal_with-dealt.new.known c.deal_with-dealt.new.replies in
    let all = subst (λ (f : List ℕ). IsDealt (state_of (p g d)) (Some m) n d.book f before after c.deal_with-dealt.result) frame (c.deal_with-dealt.ensures d.book (state_of (p g d)) (Some m) (shows g.P.PeerLane.Moved g.met.P.PeerLane.none g.met.P.PeerLane.both (v g) d.book d.endpoints d.requests d.table d.peers.items c.self.invariant c.args.place x at c.take-buffer.result.0 c.take-buffer.result.1 lines lines' found open_is) (shows-part g.P.PeerLane.Moved g.met.P.PeerLane.none g.met.P.PeerLane.both (v g) d.book d.endpoints d.requests d.table d.peers.items c.self.invariant c.args.place x at c.take-buffer.result.0 c.take-buffer.result.1 lines lines' found open_is)) in
    let alone = rw c.in-Alone.is at all in
    let is = rw c.in-Handed.is at alone.verdict in
    let slot = c.enqueue-slot-in-Handed.ensures.slot in
    let requests = c.complete.ensures ∙ ap (λ (q : Requests). with_complete q c.in-Handed.id c.handed.result) (ap (λ (z : Desk). z.requests) is.2) ∙ ap (λ (how : Complete). with_complete d.requests c.in-Handed.id how) (c.handed.ensures ∙ ap (handed_by c.in-Handed.ask) slot) in
    let book = c.enqueue-slot-in-Handed.ensures.book ∙ ap (λ (s : Slot). with_queued c.end_part.new.book s (kept_in_buffer c.take-buffer.result.0 c.in-Alone.headers c.in-Handed.size)) slot ∙ ap (λ (b : Book). with_queued b (slot_at n m) (kept_in_buffer c.take-buffer.result.0 c.in-Alone.headers c.in-Handed.size)) c.end_part.ensures.book in
    let told = c.note.ensures.lines ∙ ap (λ (f : List ℕ). lines ++ take_line n f c.fate-fate.result ∷ []) frame ∙ ap (λ (w : Fate). lines ++ take_line n bytes w ∷ []) (c.fate-fate.ensures ∙ ap word_of c.in-Alone.is ∙ ap fate_of c.in-Handed.is) in
    subst (λ (h : Holding g.row.P.Denot). Takes g.P.PeerLane.Moved c.args.place 1 h (holding_in (v g) c.enqueue-slot-in-Handed.new.self c.drop_part.new.self c.complete.new.self d.table (slice_set d.peers.items c.args.place (record x { ends = c.end_part.new.ends; known = c.deal_with-dealt.new.known; replies = c.deal_with-dealt.new.replies }))) lines lines') c.self.view_is
    (handed-takes g.P.PeerLane.Moved g.met.P.PeerLane.none g.met.P.PeerLane.both (v g) d.book d.endpoints d.requests d.table d.peers.items c.self.invariant c.args.place x at c.take-buffer.result.0 c.take-buffer.result.1 lines lines' found open_is c.take-buffer.new.self took.seen took.moved took.apart c.end_part.new.ends c.end_part.ensures.seen c.end_part.ensures.moved c.in-Alone.headers c.in-Handed.size is.1 c.enqueue-slot-in-Handed.new.self book c.deal_with-dealt.new.known (ap (λ (z : Desk). z.names) is.2) c.deal_with-dealt.new.replies (ap (λ (z : Desk). z.replies) is.2) alone.shut c.in-Handed.id c.in-Handed.ask is.0 (rw c.in-Handed.is at alone.gives) c.drop_part.new.self c.complete.new.self (c.drop_part.ensures ∙ ap (λ (z : Desk). without_part_of z.records n) is.2) requests told)

-- ---- its buffer is given back

pub give_back-requires-clause-wide : goal.give_back-requires-clause-wide
give_back-requires-clause-wide g c = c.take-buffer.ensures.wide

pub give_back-requires-clause-out : goal.give_back-requires-clause-out
give_back-requires-clause-out g c =
    let d = c.self.inside in
    let x = c.index_mut-peer.result.now in
    let at = there-read (v g) d.book d.endpoints d.requests d.table d.peers.items c.args.place x (subst (λ (h : Holding g.row.P.Denot). c.args.place < length h.parts.peers) (sym c.self.view_is) c.requires.within) c.index_mut-peer.ensures.value in
    let lines = c.args.journal.now.lines in
    let found = c.part_of-open.result in
    let open_is = c.part_of-open.ensures in
    let lines' = c.note.new.self.lines in
    let n = x.number in
    let m = c.take-buffer.result.0.number in
    let bytes = take c.take-buffer.result.1 c.take-buffer.result.0.bytes in
    let frame : c.split_at.result.0.now ≡ bytes = c.split_at.ensures.front ∙ ap (take c.take-buffer.result.1) c.bytes.ensures.value in
    let took = c.take-buffer.ensures in
    let before = desk d.endpoints d.requests x.known x.replies in
    let after = desk c.deal_with-dealt.new.endpoints c.deal_with-dealt.new.requests c.deal_with-dealt.new.known c.deal_with-dealt.new.replies in
    let all = subst (λ (f : List ℕ). IsDealt (state_of (p g d)) (Some m) n d.book f before after c.deal_with-dealt.result) frame (c.deal_with-dealt.ensures d.book (state_of (p g d)) (Some m) (shows g.P.PeerLane.Moved g.met.P.PeerLane.none g.met.P.PeerLane.both (v g) d.book d.endpoints d.requests d.table d.peers.items c.self.invariant c.args.place x at c.take-buffer.result.0 c.take-buffer.result.1 lines lines' found open_is) (shows-part g.P.PeerLane.Moved g.met.P.PeerLane.none g.met.P.PeerLane.both (v g) d.book d.endpoints d.requests d.table d.peers.items c.self.invariant c.args.place x at c.take-buffer.result.0 c.take-buffer.result.1 lines lines' found open_is)) in
    given-out g.P.PeerLane.Moved g.met.P.PeerLane.none g.met.P.PeerLane.both (v g) d.book d.endpoints d.requests d.table d.peers.items c.self.invariant c.args.place x at c.take-buffer.result.0 c.take-buffer.result.1 lines lines' found open_is c.take-buffer.new.self took.seen took.moved took.apart c.end_part.new.ends c.end_part.ensures.seen c.end_part.ensures.moved

pub invariant_of-self-in-Returned : goal.invariant_of-self-in-Returned
invariant_of-self-in-Returned g c =
    let d = c.self.inside in
    let x = c.index_mut-peer.result.now in
    let at = there-read (v g) d.book d.endpoints d.requests d.table d.peers.items c.args.place x (subst (λ (h : Holding g.row.P.Denot). c.args.place < length h.parts.peers) (sym c.self.view_is) c.requires.within) c.index_mut-peer.ensures.value in
    let lines = c.args.journal.now.lines in
    let found = c.part_of-open.result in
    let open_is = c.part_of-open.ensures in
    let lines' = c.note.new.self.lines in
    let n = x.number in
    let m = c.take-buffer.result.0.number in
    let bytes = take c.take-buffer.result.1 c.take-buffer.result.0.bytes in
    let frame : c.split_at.result.0.now ≡ bytes = c.split_at.ensures.front ∙ ap (take c.take-buffer.result.1) c.bytes.ensures.value in
    let took = c.take-buffer.ensures in
    let before = desk d.endpoints d.requests x.known x.replies in
    let after = desk c.deal_with-dealt.new.endpoints c.deal_with-dealt.new.requests c.deal_with-dealt.new.known c.deal_with-dealt.new.replies in
    let all = subst (λ (f : List ℕ). IsDealt (state_of (p g d)) (Some m) n d.book f before after c.deal_with-dealt.result) frame (c.deal_with-dealt.ensures d.book (state_of (p g d)) (Some m) (shows g.P.PeerLane.Moved g.met.P.PeerLane.none g.met.P.PeerLane.both (v g) d.book d.endpoints d.requests d.table d.peers.items c.self.invariant c.args.place x at c.take-buffer.result.0 c.take-buffer.result.1 lines lines' found open_is) (shows-part g.P.PeerLane.Moved g.met.P.PeerLane.none g.met.P.PeerLane.both (v g) d.book d.endpoints d.requests d.table d.peers.items c.self.invariant c.args.place x at c.take-buffer.result.0 c.take-buffer.result.1 lines lines' found open_is)) in
    let alone = rw c.in-Alone.is at all in
    let is = rw c.in-Returned.is at alone.verdict in
    subst (λ (r : Records). Sound (parts_in (v g) c.end_part.new.book r c.deal_with-dealt.new.requests d.table (slice_set d.peers.items c.args.place (record x { ends = c.give_back.new.self; known = c.deal_with-dealt.new.known; replies = c.deal_with-dealt.new.replies })))) (sym c.drop_part.ensures)
    (subst (λ (b : Book). Sound (parts_in (v g) b (without_part_of c.deal_with-dealt.new.endpoints n) c.deal_with-dealt.new.requests d.table (slice_set d.peers.items c.args.place (record x { ends = c.give_back.new.self; known = c.deal_with-dealt.new.known; replies = c.deal_with-dealt.new.replies })))) (sym c.end_part.ensures.book)
    (back-keeps g.P.PeerLane.Moved g.met.P.PeerLane.none g.met.P.PeerLane.both (v g) d.book d.endpoints d.requests d.table d.peers.items c.self.invariant c.args.place x at c.take-buffer.result.0 c.take-buffer.result.1 lines lines' found open_is c.take-buffer.new.self took.seen took.moved took.apart c.end_part.new.ends c.end_part.ensures.seen c.end_part.ensures.moved c.give_back.new.self c.give_back.ensures.seen c.give_back.ensures.moved c.in-Returned.field-0 after is alone.shut (rw c.in-Returned.is at alone.gives)))

pub returns-in-Returned-clause-takes : goal.returns-in-Returned-clause-takes
returns-in-Returned-clause-takes g c =
    let d = c.self.inside in
    let x = c.index_mut-peer.result.now in
    let at = there-read (v g) d.book d.endpoints d.requests d.table d.peers.items c.args.place x (subst (λ (h : Holding g.row.P.Denot). c.args.place < length h.parts.peers) (sym c.self.view_is) c.requires.within) c.index_mut-peer.ensures.value in
    let lines = c.args.journal.now.lines in
    let found = c.part_of-open.result in
    let open_is = c.part_of-open.ensures in
    let lines' = c.note.new.self.lines in
    let n = x.number in
    let m = c.take-buffer.result.0.number in
    let bytes = take c.take-buffer.result.1 c.take-buffer.result.0.bytes in
    let frame : c.split_at.result.0.now ≡ bytes = c.split_at.ensures.front ∙ ap (take c.take-buffer.result.1) c.bytes.ensures.value in
    let took = c.take-buffer.ensures in
    let before = desk d.endpoints d.requests x.known x.replies in
    let after = desk c.deal_with-dealt.new.endpoints c.deal_with-dealt.new.requests c.deal_with-dealt.new.known c.deal_with-dealt.new.replies in
    let all = subst (λ (f : List ℕ). IsDealt (state_of (p g d)) (Some m) n d.book f before after c.deal_with-dealt.result) frame (c.deal_with-dealt.ensures d.book (state_of (p g d)) (Some m) (shows g.P.PeerLane.Moved g.met.P.PeerLane.none g.met.P.PeerLane.both (v g) d.book d.endpoints d.requests d.table d.peers.items c.self.invariant c.args.place x at c.take-buffer.result.0 c.take-buffer.result.1 lines lines' found open_is) (shows-part g.P.PeerLane.Moved g.met.P.PeerLane.none g.met.P.PeerLane.both (v g) d.book d.endpoints d.requests d.table d.peers.items c.self.invariant c.args.place x at c.take-buffer.result.0 c.take-buffer.result.1 lines lines' found open_is)) in
    let alone = rw c.in-Alone.is at all in
    let is = rw c.in-Returned.is at alone.verdict in
    let told = c.note.ensures.lines ∙ ap (λ (f : List ℕ). lines ++ take_line n f c.fate-fate.result ∷ []) frame ∙ ap (λ (w : Fate). lines ++ take_line n bytes w ∷ []) (c.fate-fate.ensures ∙ ap word_of c.in-Alone.is ∙ ap fate_of c.in-Returned.is) in
    subst (λ (h : Holding g.row.P.Denot). Takes g.P.PeerLane.Moved c.args.place 1 h (holding_in (v g) c.end_part.new.book c.drop_part.new.self c.deal_with-dealt.new.requests d.table (slice_set d.peers.items c.args.place (record x { ends = c.give_back.new.self; known = c.deal_with-dealt.new.known; replies = c.deal_with-dealt.new.replies }))) lines lines') c.self.view_is
    (subst (λ (r : Records). Takes g.P.PeerLane.Moved c.args.place 1 (holding_in (v g) d.book d.endpoints d.requests d.table d.peers.items) (holding_in (v g) c.end_part.new.book r c.deal_with-dealt.new.requests d.table (slice_set d.peers.items c.args.place (record x { ends = c.give_back.new.self; known = c.deal_with-dealt.new.known; replies = c.deal_with-dealt.new.replies }))) lines lines') (sym c.drop_part.ensures)
    (subst (λ (b : Book). Takes g.P.PeerLane.Moved c.args.place 1 (holding_in (v g) d.book d.endpoints d.requests d.table d.peers.items) (holding_in (v g) b (without_part_of c.deal_with-dealt.new.endpoints n) c.deal_with-dealt.new.requests d.table (slice_set d.peers.items c.args.place (record x { ends = c.give_back.new.self; known = c.deal_with-dealt.new.known; replies = c.deal_with-dealt.new.replies }))) lines lines') (sym c.end_part.ensures.book)
    (back-takes g.P.PeerLane.Moved g.met.P.PeerLane.none g.met.P.PeerLane.both (v g) d.book d.endpoints d.requests d.table d.peers.items c.self.invariant c.args.place x at c.take-buffer.result.0 c.take-buffer.result.1 lines lines' found open_is c.take-buffer.new.self took.seen took.moved took.apart c.end_part.new.ends c.end_part.ensures.seen c.end_part.ensures.moved c.give_back.new.self c.give_back.ensures.seen c.give_back.ensures.moved c.in-Returned.field-0 after is alone.shut (rw c.in-Returned.is at alone.gives) told)))

-- ---- a part begins with it

pub end_part-requires-in-Begins-clause-queued : goal.end_part-requires-in-Begins-clause-queued
end_part-requires-in-Begins-clause-queued g c =
    let d = c.self.inside in
    let x = c.index_mut-peer.result.now in
    let at = there-read (v g) d.book d.endpoints d.requests d.table d.peers.items c.args.place x (subst (λ (h : Holding g.row.P.Denot). c.args.place < length h.parts.peers) (sym c.self.view_is) c.requires.within) c.index_mut-peer.ensures.value in
    let lines = c.args.journal.now.lines in
    let found = c.part_of-open.result in
    let open_is = c.part_of-open.ensures in
    let lines' = c.note.new.self.lines in
    let n = x.number in
    let m = c.take-buffer.result.0.number in
    let bytes = take c.take-buffer.result.1 c.take-buffer.result.0.bytes in
    let frame : c.split_at.result.0.now ≡ bytes = c.split_at.ensures.front ∙ ap (take c.take-buffer.result.1) c.bytes.ensures.value in
    let took = c.take-buffer.ensures in
    let before = desk d.endpoints d.requests x.known x.replies in
    let after = desk c.deal_with-dealt.new.endpoints c.deal_with-dealt.new.requests c.deal_with-dealt.new.known c.deal_with-dealt.new.replies in
    let all = subst (λ (f : List ℕ). IsDealt (state_of (p g d)) (Some m) n d.book f before after c.deal_with-dealt.result) frame (c.deal_with-dealt.ensures d.book (state_of (p g d)) (Some m) (shows g.P.PeerLane.Moved g.met.P.PeerLane.none g.met.P.PeerLane.both (v g) d.book d.endpoints d.requests d.table d.peers.items c.self.invariant c.args.place x at c.take-buffer.result.0 c.take-buffer.result.1 lines lines' found open_is) (shows-part g.P.PeerLane.Moved g.met.P.PeerLane.none g.met.P.PeerLane.both (v g) d.book d.endpoints d.requests d.table d.peers.items c.self.invariant c.args.place x at c.take-buffer.result.0 c.take-buffer.result.1 lines lines' found open_is)) in
    λ o f. end-queued g.P.PeerLane.Moved g.met.P.PeerLane.none g.met.P.PeerLane.both (v g) d.book d.endpoints d.requests d.table d.peers.items c.self.invariant c.args.place x at c.take-buffer.result.0 c.take-buffer.result.1 lines lines' found open_is c.take-buffer.new.self took.seen took.moved took.apart o f

pub end_part-requires-in-Begins-clause-out : goal.end_part-requires-in-Begins-clause-out
end_part-requires-in-Begins-clause-out g c =
    let d = c.self.inside in
    let x = c.index_mut-peer.result.now in
    let at = there-read (v g) d.book d.endpoints d.requests d.table d.peers.items c.args.place x (subst (λ (h : Holding g.row.P.Denot). c.args.place < length h.parts.peers) (sym c.self.view_is) c.requires.within) c.index_mut-peer.ensures.value in
    let lines = c.args.journal.now.lines in
    let found = c.part_of-open.result in
    let open_is = c.part_of-open.ensures in
    let lines' = c.note.new.self.lines in
    let n = x.number in
    let m = c.take-buffer.result.0.number in
    let bytes = take c.take-buffer.result.1 c.take-buffer.result.0.bytes in
    let frame : c.split_at.result.0.now ≡ bytes = c.split_at.ensures.front ∙ ap (take c.take-buffer.result.1) c.bytes.ensures.value in
    let took = c.take-buffer.ensures in
    let before = desk d.endpoints d.requests x.known x.replies in
    let after = desk c.deal_with-dealt.new.endpoints c.deal_with-dealt.new.requests c.deal_with-dealt.new.known c.deal_with-dealt.new.replies in
    let all = subst (λ (f : List ℕ). IsDealt (state_of (p g d)) (Some m) n d.book f before after c.deal_with-dealt.result) frame (c.deal_with-dealt.ensures d.book (state_of (p g d)) (Some m) (shows g.P.PeerLane.Moved g.met.P.PeerLane.none g.met.P.PeerLane.both (v g) d.book d.endpoints d.requests d.table d.peers.items c.self.invariant c.args.place x at c.take-buffer.result.0 c.take-buffer.result.1 lines lines' found open_is) (shows-part g.P.PeerLane.Moved g.met.P.PeerLane.none g.met.P.PeerLane.both (v g) d.book d.endpoints d.requests d.table d.peers.items c.self.invariant c.args.place x at c.take-buffer.result.0 c.take-buffer.result.1 lines lines' found open_is)) in
    end-out g.P.PeerLane.Moved g.met.P.PeerLane.none g.met.P.PeerLane.both (v g) d.book d.endpoints d.requests d.table d.peers.items c.self.invariant c.args.place x at c.take-buffer.result.0 c.take-buffer.result.1 lines lines' found open_is c.take-buffer.new.self took.seen took.moved took.apart

pub enqueue-slot-requires-in-Begins-clause-away : goal.enqueue-slot-requires-in-Begins-clause-away
enqueue-slot-requires-in-Begins-clause-away g c =
    let d = c.self.inside in
    let x = c.index_mut-peer.result.now in
    let at = there-read (v g) d.book d.endpoints d.requests d.table d.peers.items c.args.place x (subst (λ (h : Holding g.row.P.Denot). c.args.place < length h.parts.peers) (sym c.self.view_is) c.requires.within) c.index_mut-peer.ensures.value in
    let lines = c.args.journal.now.lines in
    let found = c.part_of-open.result in
    let open_is = c.part_of-open.ensures in
    let lines' = c.note.new.self.lines in
    let n = x.number in
    let m = c.take-buffer.result.0.number in
    let bytes = take c.take-buffer.result.1 c.take-buffer.result.0.bytes in
    let frame : c.split_at.result.0.now ≡ bytes = c.split_at.ensures.front ∙ ap (take c.take-buffer.result.1) c.bytes.ensures.value in
    let took = c.take-buffer.ensures in
    let before = desk d.endpoints d.requests x.known x.replies in
    let after = desk c.deal_with-dealt.new.endpoints c.deal_with-dealt.new.requests c.deal_with-dealt.new.known c.deal_with-dealt.new.replies in
    let all = subst (λ (f : List ℕ). IsDealt (state_of (p g d)) (Some m) n d.book f before after c.deal_with-dealt.result) frame (c.deal_with-dealt.ensures d.book (state_of (p g d)) (Some m) (shows g.P.PeerLane.Moved g.met.P.PeerLane.none g.met.P.PeerLane.both (v g) d.book d.endpoints d.requests d.table d.peers.items c.self.invariant c.args.place x at c.take-buffer.result.0 c.take-buffer.result.1 lines lines' found open_is) (shows-part g.P.PeerLane.Moved g.met.P.PeerLane.none g.met.P.PeerLane.both (v g) d.book d.endpoints d.requests d.table d.peers.items c.self.invariant c.args.place x at c.take-buffer.result.0 c.take-buffer.result.1 lines lines' found open_is)) in
    subst (λ (b : Book). IsAway b (slot_at n m)) (sym c.end_part-in-Begins.ensures.book) (away-slot g.P.PeerLane.Moved g.met.P.PeerLane.none g.met.P.PeerLane.both (v g) d.book d.endpoints d.requests d.table d.peers.items c.self.invariant c.args.place x at c.take-buffer.result.0 c.take-buffer.result.1 lines lines' found open_is c.take-buffer.new.self took.seen took.moved took.apart)

pub enqueue-slot-requires-in-Begins-clause-unqueued : goal.enqueue-slot-requires-in-Begins-clause-unqueued
enqueue-slot-requires-in-Begins-clause-unqueued g c =
    let d = c.self.inside in
    let x = c.index_mut-peer.result.now in
    let at = there-read (v g) d.book d.endpoints d.requests d.table d.peers.items c.args.place x (subst (λ (h : Holding g.row.P.Denot). c.args.place < length h.parts.peers) (sym c.self.view_is) c.requires.within) c.index_mut-peer.ensures.value in
    let lines = c.args.journal.now.lines in
    let found = c.part_of-open.result in
    let open_is = c.part_of-open.ensures in
    let lines' = c.note.new.self.lines in
    let n = x.number in
    let m = c.take-buffer.result.0.number in
    let bytes = take c.take-buffer.result.1 c.take-buffer.result.0.bytes in
    let frame : c.split_at.result.0.now ≡ bytes = c.split_at.ensures.front ∙ ap (take c.take-buffer.result.1) c.bytes.ensures.value in
    let took = c.take-buffer.ensures in
    let before = desk d.endpoints d.requests x.known x.replies in
    let after = desk c.deal_with-dealt.new.endpoints c.deal_with-dealt.new.requests c.deal_with-dealt.new.known c.deal_with-dealt.new.replies in
    let all = subst (λ (f : List ℕ). IsDealt (state_of (p g d)) (Some m) n d.book f before after c.deal_with-dealt.result) frame (c.deal_with-dealt.ensures d.book (state_of (p g d)) (Some m) (shows g.P.PeerLane.Moved g.met.P.PeerLane.none g.met.P.PeerLane.both (v g) d.book d.endpoints d.requests d.table d.peers.items c.self.invariant c.args.place x at c.take-buffer.result.0 c.take-buffer.result.1 lines lines' found open_is) (shows-part g.P.PeerLane.Moved g.met.P.PeerLane.none g.met.P.PeerLane.both (v g) d.book d.endpoints d.requests d.table d.peers.items c.self.invariant c.args.place x at c.take-buffer.result.0 c.take-buffer.result.1 lines lines' found open_is)) in
    subst IsNone (sym (ap (λ (b : Book). queued_at b (slot_at n m)) c.end_part-in-Begins.ensures.book ∙ unqueued-slot g.P.PeerLane.Moved g.met.P.PeerLane.none g.met.P.PeerLane.both (v g) d.book d.endpoints d.requests d.table d.peers.items c.self.invariant c.args.place x at c.take-buffer.result.0 c.take-buffer.result.1 lines lines' found open_is c.take-buffer.new.self took.seen took.moved took.apart)) refl

pub enqueue-slot-requires-in-Begins-clause-inside : goal.enqueue-slot-requires-in-Begins-clause-inside
enqueue-slot-requires-in-Begins-clause-inside g c =
    let d = c.self.inside in
    let x = c.index_mut-peer.result.now in
    let at = there-read (v g) d.book d.endpoints d.requests d.table d.peers.items c.args.place x (subst (λ (h : Holding g.row.P.Denot). c.args.place < length h.parts.peers) (sym c.self.view_is) c.requires.within) c.index_mut-peer.ensures.value in
    let lines = c.args.journal.now.lines in
    let found = c.part_of-open.result in
    let open_is = c.part_of-open.ensures in
    let lines' = c.note.new.self.lines in
    let n = x.number in
    let m = c.take-buffer.result.0.number in
    let bytes = take c.take-buffer.result.1 c.take-buffer.result.0.bytes in
    let frame : c.split_at.result.0.now ≡ bytes = c.split_at.ensures.front ∙ ap (take c.take-buffer.result.1) c.bytes.ensures.value in
    let took = c.take-buffer.ensures in
    let before = desk d.endpoints d.requests x.known x.replies in
    let after = desk c.deal_with-dealt.new.endpoints c.deal_with-dealt.new.requests c.deal_with-dealt.new.known c.deal_with-dealt.new.replies in
    let all = subst (λ (f : List ℕ). IsDealt (state_of (p g d)) (Some m) n d.book f before after c.deal_with-dealt.result) frame (c.deal_with-dealt.ensures d.book (state_of (p g d)) (Some m) (shows g.P.PeerLane.Moved g.met.P.PeerLane.none g.met.P.PeerLane.both (v g) d.book d.endpoints d.requests d.table d.peers.items c.self.invariant c.args.place x at c.take-buffer.result.0 c.take-buffer.result.1 lines lines' found open_is) (shows-part g.P.PeerLane.Moved g.met.P.PeerLane.none g.met.P.PeerLane.both (v g) d.book d.endpoints d.requests d.table d.peers.items c.self.invariant c.args.place x at c.take-buffer.result.0 c.take-buffer.result.1 lines lines' found open_is)) in
    let its = rw c.in-Begins.is at all in
    let inside = its.inside in let cut = length-take c.take-buffer.result.1 c.take-buffer.result.0.bytes in let most = took.fits in omega (arith, inside, cut, most)

pub keep_part-requires : goal.keep_part-requires
keep_part-requires g c =
    let d = c.self.inside in
    let x = c.index_mut-peer.result.now in
    let at = there-read (v g) d.book d.endpoints d.requests d.table d.peers.items c.args.place x (subst (λ (h : Holding g.row.P.Denot). c.args.place < length h.parts.peers) (sym c.self.view_is) c.requires.within) c.index_mut-peer.ensures.value in
    let lines = c.args.journal.now.lines in
    let found = c.part_of-open.result in
    let open_is = c.part_of-open.ensures in
    let lines' = c.note.new.self.lines in
    let n = x.number in
    let m = c.take-buffer.result.0.number in
    let bytes = take c.take-buffer.result.1 c.take-buffer.result.0.bytes in
    let frame : c.split_at.result.0.now ≡ bytes = c.split_at.ensures.front ∙ ap (take c.take-buffer.result.1) c.bytes.ensures.value in
    let took = c.take-buffer.ensures in
    let before = desk d.endpoints d.requests x.known x.replies in
    let after = desk c.deal_with-dealt.new.endpoints c.deal_with-dealt.new.requests c.deal_with-dealt.new.known c.deal_with-dealt.new.replies in
    let all = subst (λ (f : List ℕ). IsDealt (state_of (p g d)) (Some m) n d.book f before after c.deal_with-dealt.result) frame (c.deal_with-dealt.ensures d.book (state_of (p g d)) (Some m) (shows g.P.PeerLane.Moved g.met.P.PeerLane.none g.met.P.PeerLane.both (v g) d.book d.endpoints d.requests d.table d.peers.items c.self.invariant c.args.place x at c.take-buffer.result.0 c.take-buffer.result.1 lines lines' found open_is) (shows-part g.P.PeerLane.Moved g.met.P.PeerLane.none g.met.P.PeerLane.both (v g) d.book d.endpoints d.requests d.table d.peers.items c.self.invariant c.args.place x at c.take-buffer.result.0 c.take-buffer.result.1 lines lines' found open_is)) in
    let its = rw c.in-Begins.is at all in
    let slot = c.enqueue-slot-in-Begins.ensures.slot in
    let new = c.begun.ensures ∙ ap (λ (s : Slot). begun_by s c.in-Begins.piece) slot in
    subst (λ (o : OpenPart). length (without_part o.slot.peer c.deal_with-dealt.new.endpoints.parts) < domain_limit) (sym new) (subst (λ (z : Desk). length (without_part n z.records.parts) < domain_limit) (sym its.same) (few-open g.P.PeerLane.Moved g.met.P.PeerLane.none g.met.P.PeerLane.both (v g) d.book d.endpoints d.requests d.table d.peers.items c.self.invariant c.args.place x at c.take-buffer.result.0 c.take-buffer.result.1 lines lines' found open_is c.take-buffer.new.self took.seen took.moved took.apart (begun_by (slot_at n m) c.in-Begins.piece) refl))

pub invariant_of-self-in-Begins : goal.invariant_of-self-in-Begins
invariant_of-self-in-Begins g c =
    let d = c.self.inside in
    let x = c.index_mut-peer.result.now in
    let at = there-read (v g) d.book d.endpoints d.requests d.table d.peers.items c.args.place x (subst (λ (h : Holding g.row.P.Denot). c.args.place < length h.parts.peers) (sym c.self.view_is) c.requires.within) c.index_mut-peer.ensures.value in
    let lines = c.args.journal.now.lines in
    let found = c.part_of-open.result in
    let open_is = c.part_of-open.ensures in
    let lines' = c.note.new.self.lines in
    let n = x.number in
    let m = c.take-buffer.result.0.number in
    let bytes = take c.take-buffer.result.1 c.take-buffer.result.0.bytes in
    let frame : c.split_at.result.0.now ≡ bytes = c.split_at.ensures.front ∙ ap (take c.take-buffer.result.1) c.bytes.ensures.value in
    let took = c.take-buffer.ensures in
    let before = desk d.endpoints d.requests x.known x.replies in
    let after = desk c.deal_with-dealt.new.endpoints c.deal_with-dealt.new.requests c.deal_with-dealt.new.known c.deal_with-dealt.new.replies in
    let all = subst (λ (f : List ℕ). IsDealt (state_of (p g d)) (Some m) n d.book f before after c.deal_with-dealt.result) frame (c.deal_with-dealt.ensures d.book (state_of (p g d)) (Some m) (shows g.P.PeerLane.Moved g.met.P.PeerLane.none g.met.P.PeerLane.both (v g) d.book d.endpoints d.requests d.table d.peers.items c.self.invariant c.args.place x at c.take-buffer.result.0 c.take-buffer.result.1 lines lines' found open_is) (shows-part g.P.PeerLane.Moved g.met.P.PeerLane.none g.met.P.PeerLane.both (v g) d.book d.endpoints d.requests d.table d.peers.items c.self.invariant c.args.place x at c.take-buffer.result.0 c.take-buffer.result.1 lines lines' found open_is)) in
    let its = rw c.in-Begins.is at all in
    let slot = c.enqueue-slot-in-Begins.ensures.slot in
    let new = c.begun.ensures ∙ ap (λ (s : Slot). begun_by s c.in-Begins.piece) slot in
    let records = c.keep_part.ensures ∙ ap (λ (o : OpenPart). with_part_open c.deal_with-dealt.new.endpoints o) new ∙ ap (λ (z : Desk). with_part_open z.records (begun_by (slot_at n m) c.in-Begins.piece)) its.same in
    let book = c.enqueue-slot-in-Begins.ensures.book ∙ ap (λ (s : Slot). with_queued c.end_part-in-Begins.new.book s (kept_in_buffer c.take-buffer.result.0 28 c.in-Begins.piece.size)) slot ∙ ap (λ (b : Book). with_queued b (slot_at n m) (kept_in_buffer c.take-buffer.result.0 28 c.in-Begins.piece.size)) c.end_part-in-Begins.ensures.book in
    begun-keeps g.P.PeerLane.Moved g.met.P.PeerLane.none g.met.P.PeerLane.both (v g) d.book d.endpoints d.requests d.table d.peers.items c.self.invariant c.args.place x at c.take-buffer.result.0 c.take-buffer.result.1 lines lines' found open_is c.take-buffer.new.self took.seen took.moved took.apart c.end_part-in-Begins.new.ends c.end_part-in-Begins.ensures.seen c.end_part-in-Begins.ensures.moved c.in-Begins.piece before after its c.enqueue-slot-in-Begins.new.self book c.deal_with-dealt.new.known (ap (λ (z : Desk). z.names) its.same) c.deal_with-dealt.new.replies (ap (λ (z : Desk). z.replies) its.same) c.keep_part.new.self c.deal_with-dealt.new.requests records (ap (λ (z : Desk). z.requests) its.same)

pub returns-in-Begins-clause-takes : goal.returns-in-Begins-clause-takes
returns-in-Begins-clause-takes g c =
    let d = c.self.inside in
    let x = c.index_mut-peer.result.now in
    let at = there-read (v g) d.book d.endpoints d.requests d.table d.peers.items c.args.place x (subst (λ (h : Holding g.row.P.Denot). c.args.place < length h.parts.peers) (sym c.self.view_is) c.requires.within) c.index_mut-peer.ensures.value in
    let lines = c.args.journal.now.lines in
    let found = c.part_of-open.result in
    let open_is = c.part_of-open.ensures in
    let lines' = c.note.new.self.lines in
    let n = x.number in
    let m = c.take-buffer.result.0.number in
    let bytes = take c.take-buffer.result.1 c.take-buffer.result.0.bytes in
    let frame : c.split_at.result.0.now ≡ bytes = c.split_at.ensures.front ∙ ap (take c.take-buffer.result.1) c.bytes.ensures.value in
    let took = c.take-buffer.ensures in
    let before = desk d.endpoints d.requests x.known x.replies in
    let after = desk c.deal_with-dealt.new.endpoints c.deal_with-dealt.new.requests c.deal_with-dealt.new.known c.deal_with-dealt.new.replies in
    let all = subst (λ (f : List ℕ). IsDealt (state_of (p g d)) (Some m) n d.book f before after c.deal_with-dealt.result) frame (c.deal_with-dealt.ensures d.book (state_of (p g d)) (Some m) (shows g.P.PeerLane.Moved g.met.P.PeerLane.none g.met.P.PeerLane.both (v g) d.book d.endpoints d.requests d.table d.peers.items c.self.invariant c.args.place x at c.take-buffer.result.0 c.take-buffer.result.1 lines lines' found open_is) (shows-part g.P.PeerLane.Moved g.met.P.PeerLane.none g.met.P.PeerLane.both (v g) d.book d.endpoints d.requests d.table d.peers.items c.self.invariant c.args.place x at c.take-buffer.result.0 c.take-buffer.result.1 lines lines' found open_is)) in
    let its = rw c.in-Begins.is at all in
    let slot = c.enqueue-slot-in-Begins.ensures.slot in
    let new = c.begun.ensures ∙ ap (λ (s : Slot). begun_by s c.in-Begins.piece) slot in
    let records = c.keep_part.ensures ∙ ap (λ (o : OpenPart). with_part_open c.deal_with-dealt.new.endpoints o) new ∙ ap (λ (z : Desk). with_part_open z.records (begun_by (slot_at n m) c.in-Begins.piece)) its.same in
    let book = c.enqueue-slot-in-Begins.ensures.book ∙ ap (λ (s : Slot). with_queued c.end_part-in-Begins.new.book s (kept_in_buffer c.take-buffer.result.0 28 c.in-Begins.piece.size)) slot ∙ ap (λ (b : Book). with_queued b (slot_at n m) (kept_in_buffer c.take-buffer.result.0 28 c.in-Begins.piece.size)) c.end_part-in-Begins.ensures.book in
    let told = c.note.ensures.lines ∙ ap (λ (f : List ℕ). lines ++ take_line n f c.fate-fate.result ∷ []) frame ∙ ap (λ (w : Fate). lines ++ take_line n bytes w ∷ []) (c.fate-fate.ensures ∙ ap word_of c.in-Begins.is) in
    subst (λ (h : Holding g.row.P.Denot). Takes g.P.PeerLane.Moved c.args.place 1 h (holding_in (v g) c.enqueue-slot-in-Begins.new.self c.keep_part.new.self c.deal_with-dealt.new.requests d.table (slice_set d.peers.items c.args.place (record x { ends = c.end_part-in-Begins.new.ends; known = c.deal_with-dealt.new.known; replies = c.deal_with-dealt.new.replies }))) lines lines') c.self.view_is
    (begun-takes g.P.PeerLane.Moved g.met.P.PeerLane.none g.met.P.PeerLane.both (v g) d.book d.endpoints d.requests d.table d.peers.items c.self.invariant c.args.place x at c.take-buffer.result.0 c.take-buffer.result.1 lines lines' found open_is c.take-buffer.new.self took.seen took.moved took.apart c.end_part-in-Begins.new.ends c.end_part-in-Begins.ensures.seen c.end_part-in-Begins.ensures.moved c.in-Begins.piece before after its c.enqueue-slot-in-Begins.new.self book c.deal_with-dealt.new.known (ap (λ (z : Desk). z.names) its.same) c.deal_with-dealt.new.replies (ap (λ (z : Desk). z.replies) its.same) c.keep_part.new.self c.deal_with-dealt.new.requests records (ap (λ (z : Desk). z.requests) its.same) told)

-- ---- the open part grows

pub join-requires-clause-item : goal.join-requires-clause-item
join-requires-clause-item g c =
    let d = c.self.inside in
    let x = c.index_mut-peer.result.now in
    let at = there-read (v g) d.book d.endpoints d.requests d.table d.peers.items c.args.place x (subst (λ (h : Holding g.row.P.Denot). c.args.place < length h.parts.peers) (sym c.self.view_is) c.requires.within) c.index_mut-peer.ensures.value in
    let lines = c.args.journal.now.lines in
    let found = c.part_of-open.result in
    let open_is = c.part_of-open.ensures in
    let lines' = c.note.new.self.lines in
    let n = x.number in
    let m = c.take-buffer.result.0.number in
    let bytes = take c.take-buffer.result.1 c.take-buffer.result.0.bytes in
    let frame : c.split_at.result.0.now ≡ bytes = c.split_at.ensures.front ∙ ap (take c.take-buffer.result.1) c.bytes.ensures.value in
    let took = c.take-buffer.ensures in
    let before = desk d.endpoints d.requests x.known x.replies in
    let after = desk c.deal_with-dealt.new.endpoints c.deal_with-dealt.new.requests c.deal_with-dealt.new.known c.deal_with-dealt.new.replies in
    let all = subst (λ (f : List ℕ). IsDealt (state_of (p g d)) (Some m) n d.book f before after c.deal_with-dealt.result) frame (c.deal_with-dealt.ensures d.book (state_of (p g d)) (Some m) (shows g.P.PeerLane.Moved g.met.P.PeerLane.none g.met.P.PeerLane.both (v g) d.book d.endpoints d.requests d.table d.peers.items c.self.invariant c.args.place x at c.take-buffer.result.0 c.take-buffer.result.1 lines lines' found open_is) (shows-part g.P.PeerLane.Moved g.met.P.PeerLane.none g.met.P.PeerLane.both (v g) d.book d.endpoints d.requests d.table d.peers.items c.self.invariant c.args.place x at c.take-buffer.result.0 c.take-buffer.result.1 lines lines' found open_is)) in
    let its = rw c.in-Grows.is at all in
    subst (λ (o : OpenPart). IsQueued d.book o.slot) (sym its.is) (join-queued g.P.PeerLane.Moved g.met.P.PeerLane.none g.met.P.PeerLane.both (v g) d.book d.endpoints d.requests d.table d.peers.items c.self.invariant c.args.place x at c.take-buffer.result.0 c.take-buffer.result.1 lines lines' found open_is c.take-buffer.new.self took.seen took.moved took.apart its.before c.in-Grows.size its.on.was its.on.inside its.on.within)

pub join-requires-clause-away : goal.join-requires-clause-away
join-requires-clause-away g c =
    let d = c.self.inside in
    let x = c.index_mut-peer.result.now in
    let at = there-read (v g) d.book d.endpoints d.requests d.table d.peers.items c.args.place x (subst (λ (h : Holding g.row.P.Denot). c.args.place < length h.parts.peers) (sym c.self.view_is) c.requires.within) c.index_mut-peer.ensures.value in
    let lines = c.args.journal.now.lines in
    let found = c.part_of-open.result in
    let open_is = c.part_of-open.ensures in
    let lines' = c.note.new.self.lines in
    let n = x.number in
    let m = c.take-buffer.result.0.number in
    let bytes = take c.take-buffer.result.1 c.take-buffer.result.0.bytes in
    let frame : c.split_at.result.0.now ≡ bytes = c.split_at.ensures.front ∙ ap (take c.take-buffer.result.1) c.bytes.ensures.value in
    let took = c.take-buffer.ensures in
    let before = desk d.endpoints d.requests x.known x.replies in
    let after = desk c.deal_with-dealt.new.endpoints c.deal_with-dealt.new.requests c.deal_with-dealt.new.known c.deal_with-dealt.new.replies in
    let all = subst (λ (f : List ℕ). IsDealt (state_of (p g d)) (Some m) n d.book f before after c.deal_with-dealt.result) frame (c.deal_with-dealt.ensures d.book (state_of (p g d)) (Some m) (shows g.P.PeerLane.Moved g.met.P.PeerLane.none g.met.P.PeerLane.both (v g) d.book d.endpoints d.requests d.table d.peers.items c.self.invariant c.args.place x at c.take-buffer.result.0 c.take-buffer.result.1 lines lines' found open_is) (shows-part g.P.PeerLane.Moved g.met.P.PeerLane.none g.met.P.PeerLane.both (v g) d.book d.endpoints d.requests d.table d.peers.items c.self.invariant c.args.place x at c.take-buffer.result.0 c.take-buffer.result.1 lines lines' found open_is)) in
    let its = rw c.in-Grows.is at all in
    subst (λ (o : OpenPart). IsAway d.book (slot_at o.slot.peer m)) (sym its.is) (join-away g.P.PeerLane.Moved g.met.P.PeerLane.none g.met.P.PeerLane.both (v g) d.book d.endpoints d.requests d.table d.peers.items c.self.invariant c.args.place x at c.take-buffer.result.0 c.take-buffer.result.1 lines lines' found open_is c.take-buffer.new.self took.seen took.moved took.apart its.before c.in-Grows.size its.on.was its.on.inside its.on.within)

pub join-requires-clause-inside : goal.join-requires-clause-inside
join-requires-clause-inside g c =
    let d = c.self.inside in
    let x = c.index_mut-peer.result.now in
    let at = there-read (v g) d.book d.endpoints d.requests d.table d.peers.items c.args.place x (subst (λ (h : Holding g.row.P.Denot). c.args.place < length h.parts.peers) (sym c.self.view_is) c.requires.within) c.index_mut-peer.ensures.value in
    let lines = c.args.journal.now.lines in
    let found = c.part_of-open.result in
    let open_is = c.part_of-open.ensures in
    let lines' = c.note.new.self.lines in
    let n = x.number in
    let m = c.take-buffer.result.0.number in
    let bytes = take c.take-buffer.result.1 c.take-buffer.result.0.bytes in
    let frame : c.split_at.result.0.now ≡ bytes = c.split_at.ensures.front ∙ ap (take c.take-buffer.result.1) c.bytes.ensures.value in
    let took = c.take-buffer.ensures in
    let before = desk d.endpoints d.requests x.known x.replies in
    let after = desk c.deal_with-dealt.new.endpoints c.deal_with-dealt.new.requests c.deal_with-dealt.new.known c.deal_with-dealt.new.replies in
    let all = subst (λ (f : List ℕ). IsDealt (state_of (p g d)) (Some m) n d.book f before after c.deal_with-dealt.result) frame (c.deal_with-dealt.ensures d.book (state_of (p g d)) (Some m) (shows g.P.PeerLane.Moved g.met.P.PeerLane.none g.met.P.PeerLane.both (v g) d.book d.endpoints d.requests d.table d.peers.items c.self.invariant c.args.place x at c.take-buffer.result.0 c.take-buffer.result.1 lines lines' found open_is) (shows-part g.P.PeerLane.Moved g.met.P.PeerLane.none g.met.P.PeerLane.both (v g) d.book d.endpoints d.requests d.table d.peers.items c.self.invariant c.args.place x at c.take-buffer.result.0 c.take-buffer.result.1 lines lines' found open_is)) in
    let its = rw c.in-Grows.is at all in
    let inside = its.on.inside in let cut = length-take c.take-buffer.result.1 c.take-buffer.result.0.bytes in let most = took.fits in omega (arith, inside, cut, most)

pub keep_part-requires-in-Grows : goal.keep_part-requires-in-Grows
keep_part-requires-in-Grows g c =
    let d = c.self.inside in
    let x = c.index_mut-peer.result.now in
    let at = there-read (v g) d.book d.endpoints d.requests d.table d.peers.items c.args.place x (subst (λ (h : Holding g.row.P.Denot). c.args.place < length h.parts.peers) (sym c.self.view_is) c.requires.within) c.index_mut-peer.ensures.value in
    let lines = c.args.journal.now.lines in
    let found = c.part_of-open.result in
    let open_is = c.part_of-open.ensures in
    let lines' = c.note.new.self.lines in
    let n = x.number in
    let m = c.take-buffer.result.0.number in
    let bytes = take c.take-buffer.result.1 c.take-buffer.result.0.bytes in
    let frame : c.split_at.result.0.now ≡ bytes = c.split_at.ensures.front ∙ ap (take c.take-buffer.result.1) c.bytes.ensures.value in
    let took = c.take-buffer.ensures in
    let before = desk d.endpoints d.requests x.known x.replies in
    let after = desk c.deal_with-dealt.new.endpoints c.deal_with-dealt.new.requests c.deal_with-dealt.new.known c.deal_with-dealt.new.replies in
    let all = subst (λ (f : List ℕ). IsDealt (state_of (p g d)) (Some m) n d.book f before after c.deal_with-dealt.result) frame (c.deal_with-dealt.ensures d.book (state_of (p g d)) (Some m) (shows g.P.PeerLane.Moved g.met.P.PeerLane.none g.met.P.PeerLane.both (v g) d.book d.endpoints d.requests d.table d.peers.items c.self.invariant c.args.place x at c.take-buffer.result.0 c.take-buffer.result.1 lines lines' found open_is) (shows-part g.P.PeerLane.Moved g.met.P.PeerLane.none g.met.P.PeerLane.both (v g) d.book d.endpoints d.requests d.table d.peers.items c.self.invariant c.args.place x at c.take-buffer.result.0 c.take-buffer.result.1 lines lines' found open_is)) in
    let its = rw c.in-Grows.is at all in
    subst (λ (z : Desk). length (without_part c.in-Grows.part.slot.peer z.records.parts) < domain_limit) (sym its.same) (few-open g.P.PeerLane.Moved g.met.P.PeerLane.none g.met.P.PeerLane.both (v g) d.book d.endpoints d.requests d.table d.peers.items c.self.invariant c.args.place x at c.take-buffer.result.0 c.take-buffer.result.1 lines lines' found open_is c.take-buffer.new.self took.seen took.moved took.apart c.in-Grows.part (ap (λ (o : OpenPart). o.slot.peer) its.is ∙ found-peer n d.endpoints.parts its.before its.on.was))

pub invariant_of-self-in-Grows : goal.invariant_of-self-in-Grows
invariant_of-self-in-Grows g c =
    let d = c.self.inside in
    let x = c.index_mut-peer.result.now in
    let at = there-read (v g) d.book d.endpoints d.requests d.table d.peers.items c.args.place x (subst (λ (h : Holding g.row.P.Denot). c.args.place < length h.parts.peers) (sym c.self.view_is) c.requires.within) c.index_mut-peer.ensures.value in
    let lines = c.args.journal.now.lines in
    let found = c.part_of-open.result in
    let open_is = c.part_of-open.ensures in
    let lines' = c.note.new.self.lines in
    let n = x.number in
    let m = c.take-buffer.result.0.number in
    let bytes = take c.take-buffer.result.1 c.take-buffer.result.0.bytes in
    let frame : c.split_at.result.0.now ≡ bytes = c.split_at.ensures.front ∙ ap (take c.take-buffer.result.1) c.bytes.ensures.value in
    let took = c.take-buffer.ensures in
    let before = desk d.endpoints d.requests x.known x.replies in
    let after = desk c.deal_with-dealt.new.endpoints c.deal_with-dealt.new.requests c.deal_with-dealt.new.known c.deal_with-dealt.new.replies in
    let all = subst (λ (f : List ℕ). IsDealt (state_of (p g d)) (Some m) n d.book f before after c.deal_with-dealt.result) frame (c.deal_with-dealt.ensures d.book (state_of (p g d)) (Some m) (shows g.P.PeerLane.Moved g.met.P.PeerLane.none g.met.P.PeerLane.both (v g) d.book d.endpoints d.requests d.table d.peers.items c.self.invariant c.args.place x at c.take-buffer.result.0 c.take-buffer.result.1 lines lines' found open_is) (shows-part g.P.PeerLane.Moved g.met.P.PeerLane.none g.met.P.PeerLane.both (v g) d.book d.endpoints d.requests d.table d.peers.items c.self.invariant c.args.place x at c.take-buffer.result.0 c.take-buffer.result.1 lines lines' found open_is)) in
    let its = rw c.in-Grows.is at all in
    let book = c.join.ensures ∙ ap (λ (o : OpenPart). with_joined d.book o.slot (kept_in_buffer c.take-buffer.result.0 28 c.in-Grows.size)) its.is in
    let records = c.keep_part-in-Grows.ensures ∙ ap (λ (z : Desk). with_part_open z.records c.in-Grows.part) its.same ∙ ap (with_part_open d.endpoints) its.is in
    let opens = its.opens ∙ ap (λ (o : OpenPart). frame_taken n (Some (part_with o (grown_bytes d.book its.before bytes c.in-Grows.size))) (held_of (state_of (p g d)) n ++ m ∷ [])) its.is in
    grown-keeps g.P.PeerLane.Moved g.met.P.PeerLane.none g.met.P.PeerLane.both (v g) d.book d.endpoints d.requests d.table d.peers.items c.self.invariant c.args.place x at c.take-buffer.result.0 c.take-buffer.result.1 lines lines' found open_is c.take-buffer.new.self took.seen took.moved took.apart its.before c.in-Grows.size its.on.was its.on.inside its.on.within c.join.new.self book c.deal_with-dealt.new.known (ap (λ (z : Desk). z.names) its.same) c.deal_with-dealt.new.replies (ap (λ (z : Desk). z.replies) its.same) c.keep_part-in-Grows.new.self c.deal_with-dealt.new.requests opens its.row_is its.gives records (ap (λ (z : Desk). z.requests) its.same)

pub returns-in-Grows-clause-takes : goal.returns-in-Grows-clause-takes
returns-in-Grows-clause-takes g c =
    let d = c.self.inside in
    let x = c.index_mut-peer.result.now in
    let at = there-read (v g) d.book d.endpoints d.requests d.table d.peers.items c.args.place x (subst (λ (h : Holding g.row.P.Denot). c.args.place < length h.parts.peers) (sym c.self.view_is) c.requires.within) c.index_mut-peer.ensures.value in
    let lines = c.args.journal.now.lines in
    let found = c.part_of-open.result in
    let open_is = c.part_of-open.ensures in
    let lines' = c.note.new.self.lines in
    let n = x.number in
    let m = c.take-buffer.result.0.number in
    let bytes = take c.take-buffer.result.1 c.take-buffer.result.0.bytes in
    let frame : c.split_at.result.0.now ≡ bytes = c.split_at.ensures.front ∙ ap (take c.take-buffer.result.1) c.bytes.ensures.value in
    let took = c.take-buffer.ensures in
    let before = desk d.endpoints d.requests x.known x.replies in
    let after = desk c.deal_with-dealt.new.endpoints c.deal_with-dealt.new.requests c.deal_with-dealt.new.known c.deal_with-dealt.new.replies in
    let all = subst (λ (f : List ℕ). IsDealt (state_of (p g d)) (Some m) n d.book f before after c.deal_with-dealt.result) frame (c.deal_with-dealt.ensures d.book (state_of (p g d)) (Some m) (shows g.P.PeerLane.Moved g.met.P.PeerLane.none g.met.P.PeerLane.both (v g) d.book d.endpoints d.requests d.table d.peers.items c.self.invariant c.args.place x at c.take-buffer.result.0 c.take-buffer.result.1 lines lines' found open_is) (shows-part g.P.PeerLane.Moved g.met.P.PeerLane.none g.met.P.PeerLane.both (v g) d.book d.endpoints d.requests d.table d.peers.items c.self.invariant c.args.place x at c.take-buffer.result.0 c.take-buffer.result.1 lines lines' found open_is)) in
    let its = rw c.in-Grows.is at all in
    let book = c.join.ensures ∙ ap (λ (o : OpenPart). with_joined d.book o.slot (kept_in_buffer c.take-buffer.result.0 28 c.in-Grows.size)) its.is in
    let records = c.keep_part-in-Grows.ensures ∙ ap (λ (z : Desk). with_part_open z.records c.in-Grows.part) its.same ∙ ap (with_part_open d.endpoints) its.is in
    let opens = its.opens ∙ ap (λ (o : OpenPart). frame_taken n (Some (part_with o (grown_bytes d.book its.before bytes c.in-Grows.size))) (held_of (state_of (p g d)) n ++ m ∷ [])) its.is in
    let told = c.note.ensures.lines ∙ ap (λ (f : List ℕ). lines ++ take_line n f c.fate-fate.result ∷ []) frame ∙ ap (λ (w : Fate). lines ++ take_line n bytes w ∷ []) (c.fate-fate.ensures ∙ ap word_of c.in-Grows.is) in
    subst (λ (h : Holding g.row.P.Denot). Takes g.P.PeerLane.Moved c.args.place 1 h (holding_in (v g) c.join.new.self c.keep_part-in-Grows.new.self c.deal_with-dealt.new.requests d.table (slice_set d.peers.items c.args.place (record x { ends = c.take-buffer.new.self; known = c.deal_with-dealt.new.known; replies = c.deal_with-dealt.new.replies }))) lines lines') c.self.view_is
    (grown-takes g.P.PeerLane.Moved g.met.P.PeerLane.none g.met.P.PeerLane.both (v g) d.book d.endpoints d.requests d.table d.peers.items c.self.invariant c.args.place x at c.take-buffer.result.0 c.take-buffer.result.1 lines lines' found open_is c.take-buffer.new.self took.seen took.moved took.apart its.before c.in-Grows.size its.on.was its.on.inside its.on.within c.join.new.self book c.deal_with-dealt.new.known (ap (λ (z : Desk). z.names) its.same) c.deal_with-dealt.new.replies (ap (λ (z : Desk). z.replies) its.same) c.keep_part-in-Grows.new.self c.deal_with-dealt.new.requests opens its.row_is its.gives records (ap (λ (z : Desk). z.requests) its.same) told)

-- ---- it is whole, and queued

pub join-requires-in-WholeQueued-clause-item : goal.join-requires-in-WholeQueued-clause-item
join-requires-in-WholeQueued-clause-item g c =
    let d = c.self.inside in
    let x = c.index_mut-peer.result.now in
    let at = there-read (v g) d.book d.endpoints d.requests d.table d.peers.items c.args.place x (subst (λ (h : Holding g.row.P.Denot). c.args.place < length h.parts.peers) (sym c.self.view_is) c.requires.within) c.index_mut-peer.ensures.value in
    let lines = c.args.journal.now.lines in
    let found = c.part_of-open.result in
    let open_is = c.part_of-open.ensures in
    let lines' = c.note.new.self.lines in
    let n = x.number in
    let m = c.take-buffer.result.0.number in
    let bytes = take c.take-buffer.result.1 c.take-buffer.result.0.bytes in
    let frame : c.split_at.result.0.now ≡ bytes = c.split_at.ensures.front ∙ ap (take c.take-buffer.result.1) c.bytes.ensures.value in
    let took = c.take-buffer.ensures in
    let before = desk d.endpoints d.requests x.known x.replies in
    let after = desk c.deal_with-dealt.new.endpoints c.deal_with-dealt.new.requests c.deal_with-dealt.new.known c.deal_with-dealt.new.replies in
    let all = subst (λ (f : List ℕ). IsDealt (state_of (p g d)) (Some m) n d.book f before after c.deal_with-dealt.result) frame (c.deal_with-dealt.ensures d.book (state_of (p g d)) (Some m) (shows g.P.PeerLane.Moved g.met.P.PeerLane.none g.met.P.PeerLane.both (v g) d.book d.endpoints d.requests d.table d.peers.items c.self.invariant c.args.place x at c.take-buffer.result.0 c.take-buffer.result.1 lines lines' found open_is) (shows-part g.P.PeerLane.Moved g.met.P.PeerLane.none g.met.P.PeerLane.both (v g) d.book d.endpoints d.requests d.table d.peers.items c.self.invariant c.args.place x at c.take-buffer.result.0 c.take-buffer.result.1 lines lines' found open_is)) in
    let its = rw c.in-WholeQueued.is at all in
    subst (λ (o : OpenPart). IsQueued d.book o.slot) (sym its.is) (join-queued g.P.PeerLane.Moved g.met.P.PeerLane.none g.met.P.PeerLane.both (v g) d.book d.endpoints d.requests d.table d.peers.items c.self.invariant c.args.place x at c.take-buffer.result.0 c.take-buffer.result.1 lines lines' found open_is c.take-buffer.new.self took.seen took.moved took.apart its.before c.in-WholeQueued.size its.on.was its.on.inside its.on.within)

pub join-requires-in-WholeQueued-clause-away : goal.join-requires-in-WholeQueued-clause-away
join-requires-in-WholeQueued-clause-away g c =
    let d = c.self.inside in
    let x = c.index_mut-peer.result.now in
    let at = there-read (v g) d.book d.endpoints d.requests d.table d.peers.items c.args.place x (subst (λ (h : Holding g.row.P.Denot). c.args.place < length h.parts.peers) (sym c.self.view_is) c.requires.within) c.index_mut-peer.ensures.value in
    let lines = c.args.journal.now.lines in
    let found = c.part_of-open.result in
    let open_is = c.part_of-open.ensures in
    let lines' = c.note.new.self.lines in
    let n = x.number in
    let m = c.take-buffer.result.0.number in
    let bytes = take c.take-buffer.result.1 c.take-buffer.result.0.bytes in
    let frame : c.split_at.result.0.now ≡ bytes = c.split_at.ensures.front ∙ ap (take c.take-buffer.result.1) c.bytes.ensures.value in
    let took = c.take-buffer.ensures in
    let before = desk d.endpoints d.requests x.known x.replies in
    let after = desk c.deal_with-dealt.new.endpoints c.deal_with-dealt.new.requests c.deal_with-dealt.new.known c.deal_with-dealt.new.replies in
    let all = subst (λ (f : List ℕ). IsDealt (state_of (p g d)) (Some m) n d.book f before after c.deal_with-dealt.result) frame (c.deal_with-dealt.ensures d.book (state_of (p g d)) (Some m) (shows g.P.PeerLane.Moved g.met.P.PeerLane.none g.met.P.PeerLane.both (v g) d.book d.endpoints d.requests d.table d.peers.items c.self.invariant c.args.place x at c.take-buffer.result.0 c.take-buffer.result.1 lines lines' found open_is) (shows-part g.P.PeerLane.Moved g.met.P.PeerLane.none g.met.P.PeerLane.both (v g) d.book d.endpoints d.requests d.table d.peers.items c.self.invariant c.args.place x at c.take-buffer.result.0 c.take-buffer.result.1 lines lines' found open_is)) in
    let its = rw c.in-WholeQueued.is at all in
    subst (λ (o : OpenPart). IsAway d.book (slot_at o.slot.peer m)) (sym its.is) (join-away g.P.PeerLane.Moved g.met.P.PeerLane.none g.met.P.PeerLane.both (v g) d.book d.endpoints d.requests d.table d.peers.items c.self.invariant c.args.place x at c.take-buffer.result.0 c.take-buffer.result.1 lines lines' found open_is c.take-buffer.new.self took.seen took.moved took.apart its.before c.in-WholeQueued.size its.on.was its.on.inside its.on.within)

pub join-requires-in-WholeQueued-clause-inside : goal.join-requires-in-WholeQueued-clause-inside
join-requires-in-WholeQueued-clause-inside g c =
    let d = c.self.inside in
    let x = c.index_mut-peer.result.now in
    let at = there-read (v g) d.book d.endpoints d.requests d.table d.peers.items c.args.place x (subst (λ (h : Holding g.row.P.Denot). c.args.place < length h.parts.peers) (sym c.self.view_is) c.requires.within) c.index_mut-peer.ensures.value in
    let lines = c.args.journal.now.lines in
    let found = c.part_of-open.result in
    let open_is = c.part_of-open.ensures in
    let lines' = c.note.new.self.lines in
    let n = x.number in
    let m = c.take-buffer.result.0.number in
    let bytes = take c.take-buffer.result.1 c.take-buffer.result.0.bytes in
    let frame : c.split_at.result.0.now ≡ bytes = c.split_at.ensures.front ∙ ap (take c.take-buffer.result.1) c.bytes.ensures.value in
    let took = c.take-buffer.ensures in
    let before = desk d.endpoints d.requests x.known x.replies in
    let after = desk c.deal_with-dealt.new.endpoints c.deal_with-dealt.new.requests c.deal_with-dealt.new.known c.deal_with-dealt.new.replies in
    let all = subst (λ (f : List ℕ). IsDealt (state_of (p g d)) (Some m) n d.book f before after c.deal_with-dealt.result) frame (c.deal_with-dealt.ensures d.book (state_of (p g d)) (Some m) (shows g.P.PeerLane.Moved g.met.P.PeerLane.none g.met.P.PeerLane.both (v g) d.book d.endpoints d.requests d.table d.peers.items c.self.invariant c.args.place x at c.take-buffer.result.0 c.take-buffer.result.1 lines lines' found open_is) (shows-part g.P.PeerLane.Moved g.met.P.PeerLane.none g.met.P.PeerLane.both (v g) d.book d.endpoints d.requests d.table d.peers.items c.self.invariant c.args.place x at c.take-buffer.result.0 c.take-buffer.result.1 lines lines' found open_is)) in
    let its = rw c.in-WholeQueued.is at all in
    let inside = its.on.inside in let cut = length-take c.take-buffer.result.1 c.take-buffer.result.0.bytes in let most = took.fits in omega (arith, inside, cut, most)

pub queue_last-requires-in-WholeQueued-clause-within : goal.queue_last-requires-in-WholeQueued-clause-within
queue_last-requires-in-WholeQueued-clause-within g c =
    let d = c.self.inside in
    let x = c.index_mut-peer.result.now in
    let at = there-read (v g) d.book d.endpoints d.requests d.table d.peers.items c.args.place x (subst (λ (h : Holding g.row.P.Denot). c.args.place < length h.parts.peers) (sym c.self.view_is) c.requires.within) c.index_mut-peer.ensures.value in
    let lines = c.args.journal.now.lines in
    let found = c.part_of-open.result in
    let open_is = c.part_of-open.ensures in
    let lines' = c.note.new.self.lines in
    let n = x.number in
    let m = c.take-buffer.result.0.number in
    let bytes = take c.take-buffer.result.1 c.take-buffer.result.0.bytes in
    let frame : c.split_at.result.0.now ≡ bytes = c.split_at.ensures.front ∙ ap (take c.take-buffer.result.1) c.bytes.ensures.value in
    let took = c.take-buffer.ensures in
    let before = desk d.endpoints d.requests x.known x.replies in
    let after = desk c.deal_with-dealt.new.endpoints c.deal_with-dealt.new.requests c.deal_with-dealt.new.known c.deal_with-dealt.new.replies in
    let all = subst (λ (f : List ℕ). IsDealt (state_of (p g d)) (Some m) n d.book f before after c.deal_with-dealt.result) frame (c.deal_with-dealt.ensures d.book (state_of (p g d)) (Some m) (shows g.P.PeerLane.Moved g.met.P.PeerLane.none g.met.P.PeerLane.both (v g) d.book d.endpoints d.requests d.table d.peers.items c.self.invariant c.args.place x at c.take-buffer.result.0 c.take-buffer.result.1 lines lines' found open_is) (shows-part g.P.PeerLane.Moved g.met.P.PeerLane.none g.met.P.PeerLane.both (v g) d.book d.endpoints d.requests d.table d.peers.items c.self.invariant c.args.place x at c.take-buffer.result.0 c.take-buffer.result.1 lines lines' found open_is)) in
    let its = rw c.in-WholeQueued.is at all in
    let within = its.becomes.1.within in let same = ap (λ (r : Records). length r.endpoints) (c.drop_part-in-WholeQueued.ensures ∙ ap (λ (z : Desk). without_part_of z.records n) its.same) in let long = length-map d.endpoints.endpoints (endpoint_in d.book) in omega (arith, within, same, long)

pub queue_last-requires-in-WholeQueued-clause-room : goal.queue_last-requires-in-WholeQueued-clause-room
queue_last-requires-in-WholeQueued-clause-room g c =
    let d = c.self.inside in
    let x = c.index_mut-peer.result.now in
    let at = there-read (v g) d.book d.endpoints d.requests d.table d.peers.items c.args.place x (subst (λ (h : Holding g.row.P.Denot). c.args.place < length h.parts.peers) (sym c.self.view_is) c.requires.within) c.index_mut-peer.ensures.value in
    let lines = c.args.journal.now.lines in
    let found = c.part_of-open.result in
    let open_is = c.part_of-open.ensures in
    let lines' = c.note.new.self.lines in
    let n = x.number in
    let m = c.take-buffer.result.0.number in
    let bytes = take c.take-buffer.result.1 c.take-buffer.result.0.bytes in
    let frame : c.split_at.result.0.now ≡ bytes = c.split_at.ensures.front ∙ ap (take c.take-buffer.result.1) c.bytes.ensures.value in
    let took = c.take-buffer.ensures in
    let before = desk d.endpoints d.requests x.known x.replies in
    let after = desk c.deal_with-dealt.new.endpoints c.deal_with-dealt.new.requests c.deal_with-dealt.new.known c.deal_with-dealt.new.replies in
    let all = subst (λ (f : List ℕ). IsDealt (state_of (p g d)) (Some m) n d.book f before after c.deal_with-dealt.result) frame (c.deal_with-dealt.ensures d.book (state_of (p g d)) (Some m) (shows g.P.PeerLane.Moved g.met.P.PeerLane.none g.met.P.PeerLane.both (v g) d.book d.endpoints d.requests d.table d.peers.items c.self.invariant c.args.place x at c.take-buffer.result.0 c.take-buffer.result.1 lines lines' found open_is) (shows-part g.P.PeerLane.Moved g.met.P.PeerLane.none g.met.P.PeerLane.both (v g) d.book d.endpoints d.requests d.table d.peers.items c.self.invariant c.args.place x at c.take-buffer.result.0 c.take-buffer.result.1 lines lines' found open_is)) in
    let its = rw c.in-WholeQueued.is at all in
    subst (λ (r : Records). length (all_waiting r.endpoints) < r.room) (sym (c.drop_part-in-WholeQueued.ensures ∙ ap (λ (z : Desk). without_part_of z.records n) its.same)) (room-left g.P.PeerLane.Moved g.met.P.PeerLane.none g.met.P.PeerLane.both (v g) d.book d.endpoints d.requests d.table d.peers.items c.self.invariant c.args.place x at c.take-buffer.result.0 c.take-buffer.result.1 lines lines' found open_is c.take-buffer.new.self took.seen took.moved took.apart)

pub invariant_of-self-in-WholeQueued : goal.invariant_of-self-in-WholeQueued
invariant_of-self-in-WholeQueued g c =
    let d = c.self.inside in
    let x = c.index_mut-peer.result.now in
    let at = there-read (v g) d.book d.endpoints d.requests d.table d.peers.items c.args.place x (subst (λ (h : Holding g.row.P.Denot). c.args.place < length h.parts.peers) (sym c.self.view_is) c.requires.within) c.index_mut-peer.ensures.value in
    let lines = c.args.journal.now.lines in
    let found = c.part_of-open.result in
    let open_is = c.part_of-open.ensures in
    let lines' = c.note.new.self.lines in
    let n = x.number in
    let m = c.take-buffer.result.0.number in
    let bytes = take c.take-buffer.result.1 c.take-buffer.result.0.bytes in
    let frame : c.split_at.result.0.now ≡ bytes = c.split_at.ensures.front ∙ ap (take c.take-buffer.result.1) c.bytes.ensures.value in
    let took = c.take-buffer.ensures in
    let before = desk d.endpoints d.requests x.known x.replies in
    let after = desk c.deal_with-dealt.new.endpoints c.deal_with-dealt.new.requests c.deal_with-dealt.new.known c.deal_with-dealt.new.replies in
    let all = subst (λ (f : List ℕ). IsDealt (state_of (p g d)) (Some m) n d.book f before after c.deal_with-dealt.result) frame (c.deal_with-dealt.ensures d.book (state_of (p g d)) (Some m) (shows g.P.PeerLane.Moved g.met.P.PeerLane.none g.met.P.PeerLane.both (v g) d.book d.endpoints d.requests d.table d.peers.items c.self.invariant c.args.place x at c.take-buffer.result.0 c.take-buffer.result.1 lines lines' found open_is) (shows-part g.P.PeerLane.Moved g.met.P.PeerLane.none g.met.P.PeerLane.both (v g) d.book d.endpoints d.requests d.table d.peers.items c.self.invariant c.args.place x at c.take-buffer.result.0 c.take-buffer.result.1 lines lines' found open_is)) in
    let its = rw c.in-WholeQueued.is at all in
    let book = c.join-in-WholeQueued.ensures ∙ ap (λ (o : OpenPart). with_joined d.book o.slot (kept_in_buffer c.take-buffer.result.0 28 c.in-WholeQueued.size)) its.is in
    let records = c.queue_last-in-WholeQueued.ensures ∙ ap (λ (r : Records). with_waiting_at r c.in-WholeQueued.at (waiting c.in-WholeQueued.part.slot c.in-WholeQueued.priority)) (c.drop_part-in-WholeQueued.ensures ∙ ap (λ (z : Desk). without_part_of z.records n) its.same) ∙ ap (λ (o : OpenPart). with_waiting_at (without_part_of d.endpoints n) c.in-WholeQueued.at (waiting o.slot c.in-WholeQueued.priority)) its.is in
    whole_queued-keeps g.P.PeerLane.Moved g.met.P.PeerLane.none g.met.P.PeerLane.both (v g) d.book d.endpoints d.requests d.table d.peers.items c.self.invariant c.args.place x at c.take-buffer.result.0 c.take-buffer.result.1 lines lines' found open_is c.take-buffer.new.self took.seen took.moved took.apart its.before c.in-WholeQueued.size its.on.was its.on.inside its.on.within c.join-in-WholeQueued.new.self book c.deal_with-dealt.new.known (ap (λ (z : Desk). z.names) its.same) c.deal_with-dealt.new.replies (ap (λ (z : Desk). z.replies) its.same) c.queue_last-in-WholeQueued.new.self c.deal_with-dealt.new.requests its.shut c.in-WholeQueued.at c.in-WholeQueued.priority its.becomes.1 its.becomes.0 its.gives records (ap (λ (z : Desk). z.requests) its.same)

pub returns-in-WholeQueued-clause-takes : goal.returns-in-WholeQueued-clause-takes
returns-in-WholeQueued-clause-takes g c =
    let d = c.self.inside in
    let x = c.index_mut-peer.result.now in
    let at = there-read (v g) d.book d.endpoints d.requests d.table d.peers.items c.args.place x (subst (λ (h : Holding g.row.P.Denot). c.args.place < length h.parts.peers) (sym c.self.view_is) c.requires.within) c.index_mut-peer.ensures.value in
    let lines = c.args.journal.now.lines in
    let found = c.part_of-open.result in
    let open_is = c.part_of-open.ensures in
    let lines' = c.note.new.self.lines in
    let n = x.number in
    let m = c.take-buffer.result.0.number in
    let bytes = take c.take-buffer.result.1 c.take-buffer.result.0.bytes in
    let frame : c.split_at.result.0.now ≡ bytes = c.split_at.ensures.front ∙ ap (take c.take-buffer.result.1) c.bytes.ensures.value in
    let took = c.take-buffer.ensures in
    let before = desk d.endpoints d.requests x.known x.replies in
    let after = desk c.deal_with-dealt.new.endpoints c.deal_with-dealt.new.requests c.deal_with-dealt.new.known c.deal_with-dealt.new.replies in
    let all = subst (λ (f : List ℕ). IsDealt (state_of (p g d)) (Some m) n d.book f before after c.deal_with-dealt.result) frame (c.deal_with-dealt.ensures d.book (state_of (p g d)) (Some m) (shows g.P.PeerLane.Moved g.met.P.PeerLane.none g.met.P.PeerLane.both (v g) d.book d.endpoints d.requests d.table d.peers.items c.self.invariant c.args.place x at c.take-buffer.result.0 c.take-buffer.result.1 lines lines' found open_is) (shows-part g.P.PeerLane.Moved g.met.P.PeerLane.none g.met.P.PeerLane.both (v g) d.book d.endpoints d.requests d.table d.peers.items c.self.invariant c.args.place x at c.take-buffer.result.0 c.take-buffer.result.1 lines lines' found open_is)) in
    let its = rw c.in-WholeQueued.is at all in
    let book = c.join-in-WholeQueued.ensures ∙ ap (λ (o : OpenPart). with_joined d.book o.slot (kept_in_buffer c.take-buffer.result.0 28 c.in-WholeQueued.size)) its.is in
    let records = c.queue_last-in-WholeQueued.ensures ∙ ap (λ (r : Records). with_waiting_at r c.in-WholeQueued.at (waiting c.in-WholeQueued.part.slot c.in-WholeQueued.priority)) (c.drop_part-in-WholeQueued.ensures ∙ ap (λ (z : Desk). without_part_of z.records n) its.same) ∙ ap (λ (o : OpenPart). with_waiting_at (without_part_of d.endpoints n) c.in-WholeQueued.at (waiting o.slot c.in-WholeQueued.priority)) its.is in
    let told = c.note.ensures.lines ∙ ap (λ (f : List ℕ). lines ++ take_line n f c.fate-fate.result ∷ []) frame ∙ ap (λ (w : Fate). lines ++ take_line n bytes w ∷ []) (c.fate-fate.ensures ∙ ap word_of c.in-WholeQueued.is) in
    subst (λ (h : Holding g.row.P.Denot). Takes g.P.PeerLane.Moved c.args.place 1 h (holding_in (v g) c.join-in-WholeQueued.new.self c.queue_last-in-WholeQueued.new.self c.deal_with-dealt.new.requests d.table (slice_set d.peers.items c.args.place (record x { ends = c.take-buffer.new.self; known = c.deal_with-dealt.new.known; replies = c.deal_with-dealt.new.replies }))) lines lines') c.self.view_is
    (whole_queued-takes g.P.PeerLane.Moved g.met.P.PeerLane.none g.met.P.PeerLane.both (v g) d.book d.endpoints d.requests d.table d.peers.items c.self.invariant c.args.place x at c.take-buffer.result.0 c.take-buffer.result.1 lines lines' found open_is c.take-buffer.new.self took.seen took.moved took.apart its.before c.in-WholeQueued.size its.on.was its.on.inside its.on.within c.join-in-WholeQueued.new.self book c.deal_with-dealt.new.known (ap (λ (z : Desk). z.names) its.same) c.deal_with-dealt.new.replies (ap (λ (z : Desk). z.replies) its.same) c.queue_last-in-WholeQueued.new.self c.deal_with-dealt.new.requests its.shut c.in-WholeQueued.at c.in-WholeQueued.priority its.becomes.1 its.becomes.0 its.gives records (ap (λ (z : Desk). z.requests) its.same) told)

-- ---- it is whole, and handed to a request

pub join-requires-in-WholeHanded-clause-item : goal.join-requires-in-WholeHanded-clause-item
join-requires-in-WholeHanded-clause-item g c =
    let d = c.self.inside in
    let x = c.index_mut-peer.result.now in
    let at = there-read (v g) d.book d.endpoints d.requests d.table d.peers.items c.args.place x (subst (λ (h : Holding g.row.P.Denot). c.args.place < length h.parts.peers) (sym c.self.view_is) c.requires.within) c.index_mut-peer.ensures.value in
    let lines = c.args.journal.now.lines in
    let found = c.part_of-open.result in
    let open_is = c.part_of-open.ensures in
    let lines' = c.note.new.self.lines in
    let n = x.number in
    let m = c.take-buffer.result.0.number in
    let bytes = take c.take-buffer.result.1 c.take-buffer.result.0.bytes in
    let frame : c.split_at.result.0.now ≡ bytes = c.split_at.ensures.front ∙ ap (take c.take-buffer.result.1) c.bytes.ensures.value in
    let took = c.take-buffer.ensures in
    let before = desk d.endpoints d.requests x.known x.replies in
    let after = desk c.deal_with-dealt.new.endpoints c.deal_with-dealt.new.requests c.deal_with-dealt.new.known c.deal_with-dealt.new.replies in
    let all = subst (λ (f : List ℕ). IsDealt (state_of (p g d)) (Some m) n d.book f before after c.deal_with-dealt.result) frame (c.deal_with-dealt.ensures d.book (state_of (p g d)) (Some m) (shows g.P.PeerLane.Moved g.met.P.PeerLane.none g.met.P.PeerLane.both (v g) d.book d.endpoints d.requests d.table d.peers.items c.self.invariant c.args.place x at c.take-buffer.result.0 c.take-buffer.result.1 lines lines' found open_is) (shows-part g.P.PeerLane.Moved g.met.P.PeerLane.none g.met.P.PeerLane.both (v g) d.book d.endpoints d.requests d.table d.peers.items c.self.invariant c.args.place x at c.take-buffer.result.0 c.take-buffer.result.1 lines lines' found open_is)) in
    let its = rw c.in-WholeHanded.is at all in
    subst (λ (o : OpenPart). IsQueued d.book o.slot) (sym its.is) (join-queued g.P.PeerLane.Moved g.met.P.PeerLane.none g.met.P.PeerLane.both (v g) d.book d.endpoints d.requests d.table d.peers.items c.self.invariant c.args.place x at c.take-buffer.result.0 c.take-buffer.result.1 lines lines' found open_is c.take-buffer.new.self took.seen took.moved took.apart its.before c.in-WholeHanded.size its.on.was its.on.inside its.on.within)

pub join-requires-in-WholeHanded-clause-away : goal.join-requires-in-WholeHanded-clause-away
join-requires-in-WholeHanded-clause-away g c =
    let d = c.self.inside in
    let x = c.index_mut-peer.result.now in
    let at = there-read (v g) d.book d.endpoints d.requests d.table d.peers.items c.args.place x (subst (λ (h : Holding g.row.P.Denot). c.args.place < length h.parts.peers) (sym c.self.view_is) c.requires.within) c.index_mut-peer.ensures.value in
    let lines = c.args.journal.now.lines in
    let found = c.part_of-open.result in
    let open_is = c.part_of-open.ensures in
    let lines' = c.note.new.self.lines in
    let n = x.number in
    let m = c.take-buffer.result.0.number in
    let bytes = take c.take-buffer.result.1 c.take-buffer.result.0.bytes in
    let frame : c.split_at.result.0.now ≡ bytes = c.split_at.ensures.front ∙ ap (take c.take-buffer.result.1) c.bytes.ensures.value in
    let took = c.take-buffer.ensures in
    let before = desk d.endpoints d.requests x.known x.replies in
    let after = desk c.deal_with-dealt.new.endpoints c.deal_with-dealt.new.requests c.deal_with-dealt.new.known c.deal_with-dealt.new.replies in
    let all = subst (λ (f : List ℕ). IsDealt (state_of (p g d)) (Some m) n d.book f before after c.deal_with-dealt.result) frame (c.deal_with-dealt.ensures d.book (state_of (p g d)) (Some m) (shows g.P.PeerLane.Moved g.met.P.PeerLane.none g.met.P.PeerLane.both (v g) d.book d.endpoints d.requests d.table d.peers.items c.self.invariant c.args.place x at c.take-buffer.result.0 c.take-buffer.result.1 lines lines' found open_is) (shows-part g.P.PeerLane.Moved g.met.P.PeerLane.none g.met.P.PeerLane.both (v g) d.book d.endpoints d.requests d.table d.peers.items c.self.invariant c.args.place x at c.take-buffer.result.0 c.take-buffer.result.1 lines lines' found open_is)) in
    let its = rw c.in-WholeHanded.is at all in
    subst (λ (o : OpenPart). IsAway d.book (slot_at o.slot.peer m)) (sym its.is) (join-away g.P.PeerLane.Moved g.met.P.PeerLane.none g.met.P.PeerLane.both (v g) d.book d.endpoints d.requests d.table d.peers.items c.self.invariant c.args.place x at c.take-buffer.result.0 c.take-buffer.result.1 lines lines' found open_is c.take-buffer.new.self took.seen took.moved took.apart its.before c.in-WholeHanded.size its.on.was its.on.inside its.on.within)

pub join-requires-in-WholeHanded-clause-inside : goal.join-requires-in-WholeHanded-clause-inside
join-requires-in-WholeHanded-clause-inside g c =
    let d = c.self.inside in
    let x = c.index_mut-peer.result.now in
    let at = there-read (v g) d.book d.endpoints d.requests d.table d.peers.items c.args.place x (subst (λ (h : Holding g.row.P.Denot). c.args.place < length h.parts.peers) (sym c.self.view_is) c.requires.within) c.index_mut-peer.ensures.value in
    let lines = c.args.journal.now.lines in
    let found = c.part_of-open.result in
    let open_is = c.part_of-open.ensures in
    let lines' = c.note.new.self.lines in
    let n = x.number in
    let m = c.take-buffer.result.0.number in
    let bytes = take c.take-buffer.result.1 c.take-buffer.result.0.bytes in
    let frame : c.split_at.result.0.now ≡ bytes = c.split_at.ensures.front ∙ ap (take c.take-buffer.result.1) c.bytes.ensures.value in
    let took = c.take-buffer.ensures in
    let before = desk d.endpoints d.requests x.known x.replies in
    let after = desk c.deal_with-dealt.new.endpoints c.deal_with-dealt.new.requests c.deal_with-dealt.new.known c.deal_with-dealt.new.replies in
    let all = subst (λ (f : List ℕ). IsDealt (state_of (p g d)) (Some m) n d.book f before after c.deal_with-dealt.result) frame (c.deal_with-dealt.ensures d.book (state_of (p g d)) (Some m) (shows g.P.PeerLane.Moved g.met.P.PeerLane.none g.met.P.PeerLane.both (v g) d.book d.endpoints d.requests d.table d.peers.items c.self.invariant c.args.place x at c.take-buffer.result.0 c.take-buffer.result.1 lines lines' found open_is) (shows-part g.P.PeerLane.Moved g.met.P.PeerLane.none g.met.P.PeerLane.both (v g) d.book d.endpoints d.requests d.table d.peers.items c.self.invariant c.args.place x at c.take-buffer.result.0 c.take-buffer.result.1 lines lines' found open_is)) in
    let its = rw c.in-WholeHanded.is at all in
    let inside = its.on.inside in let cut = length-take c.take-buffer.result.1 c.take-buffer.result.0.bytes in let most = took.fits in omega (arith, inside, cut, most)

pub complete-requires-in-WholeHanded : goal.complete-requires-in-WholeHanded
complete-requires-in-WholeHanded g c =
    let d = c.self.inside in
    let x = c.index_mut-peer.result.now in
    let at = there-read (v g) d.book d.endpoints d.requests d.table d.peers.items c.args.place x (subst (λ (h : Holding g.row.P.Denot). c.args.place < length h.parts.peers) (sym c.self.view_is) c.requires.within) c.index_mut-peer.ensures.value in
    let lines = c.args.journal.now.lines in
    let found = c.part_of-open.result in
    let open_is = c.part_of-open.ensures in
    let lines' = c.note.new.self.lines in
    let n = x.number in
    let m = c.take-buffer.result.0.number in
    let bytes = take c.take-buffer.result.1 c.take-buffer.result.0.bytes in
    let frame : c.split_at.result.0.now ≡ bytes = c.split_at.ensures.front ∙ ap (take c.take-buffer.result.1) c.bytes.ensures.value in
    let took = c.take-buffer.ensures in
    let before = desk d.endpoints d.requests x.known x.replies in
    let after = desk c.deal_with-dealt.new.endpoints c.deal_with-dealt.new.requests c.deal_with-dealt.new.known c.deal_with-dealt.new.replies in
    let all = subst (λ (f : List ℕ). IsDealt (state_of (p g d)) (Some m) n d.book f before after c.deal_with-dealt.result) frame (c.deal_with-dealt.ensures d.book (state_of (p g d)) (Some m) (shows g.P.PeerLane.Moved g.met.P.PeerLane.none g.met.P.PeerLane.both (v g) d.book d.endpoints d.requests d.table d.peers.items c.self.invariant c.args.place x at c.take-buffer.result.0 c.take-buffer.result.1 lines lines' found open_is) (shows-part g.P.PeerLane.Moved g.met.P.PeerLane.none g.met.P.PeerLane.both (v g) d.book d.endpoints d.requests d.table d.peers.items c.self.invariant c.args.place x at c.take-buffer.result.0 c.take-buffer.result.1 lines lines' found open_is)) in
    let its = rw c.in-WholeHanded.is at all in
    subst (λ (z : Desk). IsPending z.requests c.in-WholeHanded.id) (sym its.same) its.becomes.pending

pub invariant_of-self-in-WholeHanded : goal.invariant_of-self-in-WholeHanded
invariant_of-self-in-WholeHanded g c =
    let d = c.self.inside in
    let x = c.index_mut-peer.result.now in
    let at = there-read (v g) d.book d.endpoints d.requests d.table d.peers.items c.args.place x (subst (λ (h : Holding g.row.P.Denot). c.args.place < length h.parts.peers) (sym c.self.view_is) c.requires.within) c.index_mut-peer.ensures.value in
    let lines = c.args.journal.now.lines in
    let found = c.part_of-open.result in
    let open_is = c.part_of-open.ensures in
    let lines' = c.note.new.self.lines in
    let n = x.number in
    let m = c.take-buffer.result.0.number in
    let bytes = take c.take-buffer.result.1 c.take-buffer.result.0.bytes in
    let frame : c.split_at.result.0.now ≡ bytes = c.split_at.ensures.front ∙ ap (take c.take-buffer.result.1) c.bytes.ensures.value in
    let took = c.take-buffer.ensures in
    let before = desk d.endpoints d.requests x.known x.replies in
    let after = desk c.deal_with-dealt.new.endpoints c.deal_with-dealt.new.requests c.deal_with-dealt.new.known c.deal_with-dealt.new.replies in
    let all = subst (λ (f : List ℕ). IsDealt (state_of (p g d)) (Some m) n d.book f before after c.deal_with-dealt.result) frame (c.deal_with-dealt.ensures d.book (state_of (p g d)) (Some m) (shows g.P.PeerLane.Moved g.met.P.PeerLane.none g.met.P.PeerLane.both (v g) d.book d.endpoints d.requests d.table d.peers.items c.self.invariant c.args.place x at c.take-buffer.result.0 c.take-buffer.result.1 lines lines' found open_is) (shows-part g.P.PeerLane.Moved g.met.P.PeerLane.none g.met.P.PeerLane.both (v g) d.book d.endpoints d.requests d.table d.peers.items c.self.invariant c.args.place x at c.take-buffer.result.0 c.take-buffer.result.1 lines lines' found open_is)) in
    let its = rw c.in-WholeHanded.is at all in
    let book = c.join-in-WholeHanded.ensures ∙ ap (λ (o : OpenPart). with_joined d.book o.slot (kept_in_buffer c.take-buffer.result.0 28 c.in-WholeHanded.size)) its.is in
    let records = c.drop_part-in-WholeHanded.ensures ∙ ap (λ (z : Desk). without_part_of z.records n) its.same in
    let requests = c.complete-in-WholeHanded.ensures ∙ ap (λ (q : Requests). with_complete q c.in-WholeHanded.id c.handed-in-WholeHanded.result) (ap (λ (z : Desk). z.requests) its.same) ∙ ap (λ (how : Complete). with_complete d.requests c.in-WholeHanded.id how) (c.handed-in-WholeHanded.ensures ∙ ap (λ (o : OpenPart). handed_by c.in-WholeHanded.ask o.slot) its.is) in
    whole_handed-keeps g.P.PeerLane.Moved g.met.P.PeerLane.none g.met.P.PeerLane.both (v g) d.book d.endpoints d.requests d.table d.peers.items c.self.invariant c.args.place x at c.take-buffer.result.0 c.take-buffer.result.1 lines lines' found open_is c.take-buffer.new.self took.seen took.moved took.apart its.before c.in-WholeHanded.size its.on.was its.on.inside its.on.within c.join-in-WholeHanded.new.self book c.deal_with-dealt.new.known (ap (λ (z : Desk). z.names) its.same) c.deal_with-dealt.new.replies (ap (λ (z : Desk). z.replies) its.same) c.drop_part-in-WholeHanded.new.self c.complete-in-WholeHanded.new.self its.shut c.in-WholeHanded.id c.in-WholeHanded.ask its.becomes its.gives records requests

pub returns-in-WholeHanded-clause-takes : goal.returns-in-WholeHanded-clause-takes
returns-in-WholeHanded-clause-takes g c =
    let d = c.self.inside in
    let x = c.index_mut-peer.result.now in
    let at = there-read (v g) d.book d.endpoints d.requests d.table d.peers.items c.args.place x (subst (λ (h : Holding g.row.P.Denot). c.args.place < length h.parts.peers) (sym c.self.view_is) c.requires.within) c.index_mut-peer.ensures.value in
    let lines = c.args.journal.now.lines in
    let found = c.part_of-open.result in
    let open_is = c.part_of-open.ensures in
    let lines' = c.note.new.self.lines in
    let n = x.number in
    let m = c.take-buffer.result.0.number in
    let bytes = take c.take-buffer.result.1 c.take-buffer.result.0.bytes in
    let frame : c.split_at.result.0.now ≡ bytes = c.split_at.ensures.front ∙ ap (take c.take-buffer.result.1) c.bytes.ensures.value in
    let took = c.take-buffer.ensures in
    let before = desk d.endpoints d.requests x.known x.replies in
    let after = desk c.deal_with-dealt.new.endpoints c.deal_with-dealt.new.requests c.deal_with-dealt.new.known c.deal_with-dealt.new.replies in
    let all = subst (λ (f : List ℕ). IsDealt (state_of (p g d)) (Some m) n d.book f before after c.deal_with-dealt.result) frame (c.deal_with-dealt.ensures d.book (state_of (p g d)) (Some m) (shows g.P.PeerLane.Moved g.met.P.PeerLane.none g.met.P.PeerLane.both (v g) d.book d.endpoints d.requests d.table d.peers.items c.self.invariant c.args.place x at c.take-buffer.result.0 c.take-buffer.result.1 lines lines' found open_is) (shows-part g.P.PeerLane.Moved g.met.P.PeerLane.none g.met.P.PeerLane.both (v g) d.book d.endpoints d.requests d.table d.peers.items c.self.invariant c.args.place x at c.take-buffer.result.0 c.take-buffer.result.1 lines lines' found open_is)) in
    let its = rw c.in-WholeHanded.is at all in
    let book = c.join-in-WholeHanded.ensures ∙ ap (λ (o : OpenPart). with_joined d.book o.slot (kept_in_buffer c.take-buffer.result.0 28 c.in-WholeHanded.size)) its.is in
    let records = c.drop_part-in-WholeHanded.ensures ∙ ap (λ (z : Desk). without_part_of z.records n) its.same in
    let requests = c.complete-in-WholeHanded.ensures ∙ ap (λ (q : Requests). with_complete q c.in-WholeHanded.id c.handed-in-WholeHanded.result) (ap (λ (z : Desk). z.requests) its.same) ∙ ap (λ (how : Complete). with_complete d.requests c.in-WholeHanded.id how) (c.handed-in-WholeHanded.ensures ∙ ap (λ (o : OpenPart). handed_by c.in-WholeHanded.ask o.slot) its.is) in
    let told = c.note.ensures.lines ∙ ap (λ (f : List ℕ). lines ++ take_line n f c.fate-fate.result ∷ []) frame ∙ ap (λ (w : Fate). lines ++ take_line n bytes w ∷ []) (c.fate-fate.ensures ∙ ap word_of c.in-WholeHanded.is) in
    subst (λ (h : Holding g.row.P.Denot). Takes g.P.PeerLane.Moved c.args.place 1 h (holding_in (v g) c.join-in-WholeHanded.new.self c.drop_part-in-WholeHanded.new.self c.complete-in-WholeHanded.new.self d.table (slice_set d.peers.items c.args.place (record x { ends = c.take-buffer.new.self; known = c.deal_with-dealt.new.known; replies = c.deal_with-dealt.new.replies }))) lines lines') c.self.view_is
    (whole_handed-takes g.P.PeerLane.Moved g.met.P.PeerLane.none g.met.P.PeerLane.both (v g) d.book d.endpoints d.requests d.table d.peers.items c.self.invariant c.args.place x at c.take-buffer.result.0 c.take-buffer.result.1 lines lines' found open_is c.take-buffer.new.self took.seen took.moved took.apart its.before c.in-WholeHanded.size its.on.was its.on.inside its.on.within c.join-in-WholeHanded.new.self book c.deal_with-dealt.new.known (ap (λ (z : Desk). z.names) its.same) c.deal_with-dealt.new.replies (ap (λ (z : Desk). z.replies) its.same) c.drop_part-in-WholeHanded.new.self c.complete-in-WholeHanded.new.self its.shut c.in-WholeHanded.id c.in-WholeHanded.ask its.becomes its.gives records requests told)
