-- Turns and calls that put nothing and give nothing back, by the lines of the journal.
use Rattle.std.proofs.Common.{◌≡◌, ℕ, ◌-◌, Bool, true, false, ◌&&◌, ◌||◌, cond, List, [], ◌∷◌, ◌++◌, length, map, sum, flat_map, slice_get, Option, Some, None, refl, sym, ap, ◌∙◌, subst, arith, eqb-true, true≢false, append_assoc, append-nil, length-append}
use Rattle.std.specs.Prelude.{◌==◌, ◌≤◌}
use Rattle.std.proofs.lemmas.List.{length-map}
use Rattle.std.proofs.lemmas.List.Sums.{sum_by-append}
use Rattle.std.specs.List.{AllByRecursion, list_all}
use Rattle.mc_base.specs.declared.refusal.Refusal.{Refusal}
use Rattle.lane_end.specs.SendMoves.{Looked, Sent}
use Rattle.lane_end.specs.ReceiveMoves as receiving
use Rattle.lane_end.specs.Loop.{Loop}
use Rattle.lane_end.specs.SendParts.{frames_sent, back_counts}
use Rattle.lane_end.specs.ReceiveParts.{frames_taken, numbers_given}
use Rattle.lane_end.specs.Entries.{return_in}
use Rattle.lane_end.specs.RingSender.{RingSender, put_by, RingSends}
use Rattle.lane_end.specs.RingReceiver.{RingReceiver, RingReceives, taken_by, given_by, given_entries, with_lengths}
use Rattle.lane_end.specs.AnySender.{AnySends}
use Rattle.lane_end.specs.AnyReceiver.{AnyReceives}
use Rattle.lane_end.specs.declared.any.AnySend.{AnySend}
use Rattle.lane_end.specs.declared.any.AnyRecv.{AnyRecv}
use Rattle.lane_end.specs.declared.any.AnySend.TheVariants as send
use Rattle.lane_end.specs.declared.any.AnyRecv.TheVariants as recv
use Rattle.board_model.specs.declared.scenario.Call.{Call}
use Rattle.board_model.specs.declared.scenario.Call.TheVariants.{Create, Delete, Lookup, MsgSend, MsgRecv, MsgRecvI, MsgAvailable, Connect, OpenSend, OpenRecv, PktSend, PktRecv, PktRecvI, Release, SclSend, SclRecv, CloseSend, CloseRecv, Test, Wait, WaitAny, Cancel, Raw, Turn}
use Rattle.board_model.specs.declared.scenario.CallLine.{CallLine}
use Rattle.board_model.specs.Answer.{puts, refusal, unless_refused}
use Rattle.board_model.specs.DomainCall.{turn_alone}
use Rattle.board_model.specs.CallChanges.{returned}
use Rattle.board_model.specs.Deeds.{after_deeds}
use Rattle.board_model.specs.Journal.{Line, turn_line, back_line, put_line, see_line, looked, taken_line, visit_lines, Visit, Taken, is_idle, turned, noted, noted_idle, noted_all}
use Rattle.board_model.specs.Serial.{put_entry}
use Rattle.board_model.specs.State.{DomainState, Item}
use Rattle.board_model.specs.Step.{is_tried}
use Rattle.domain_core.specs.declared.Ends.TheVariants.{Own, Linked}
use Rattle.domain_core.specs.LoopMoved.{LoopMoved, loop_after}
use Rattle.domain_core.specs.LaneMoves.{LaneMove, sender, receiver, sends, receives}
use Rattle.domain_core.specs.NumberedDeeds.{numbered_deeds}
use Rattle.domain_core.specs.VisitMoves.{before_takes, putting, taking, visit_moves}
use Rattle.domain_core.specs.AllMoved.{AllMoved, turn_moves, call_moves}
use Rattle.mc_journal.specs.Entry.{plain_answer}
use Rattle.board_runner.specs.declared.station.Station.{Station}
use Rattle.board_runner.specs.declared.line.Made.{Made}
use Rattle.board_runner.specs.Near.{SentNear, GotNear, sent_by, got_by, sent_near, got_near, nothing_near, RunEnds, near_to, near_among}
use Rattle.board_runner.specs.Carried.{DidNothing, StayCarried, StayCarriedWhere}
use Rattle.board_runner.specs.Lines.{MakesCall, IsIdleWhere, call_by, call_at_station, is_idle_line, ends_idle, is_turn, is_quiet}
use Rattle.board_runner.proofs.CallLemmas.{tried_nothing}
use Rattle.board_runner.proofs.NamedItems.{named-none}
use Rattle.board_runner.proofs.NearEnds.{contents, loads-frames}
use Rattle.board_runner.proofs.RunCarried.{did-nothing, did-nothing-both}
use Rattle.board_runner.proofs.TurnEnds.{Moved}

-- ---- moves that only look, and show nothing to have come back

abbrev OnlyLooks : List LaneMove → Type 0
OnlyLooks [] = Unit {0}
OnlyLooks (sender (Looked n) ∷ ms) = (n ≡ 0) × OnlyLooks ms
OnlyLooks (receiver (receiving.Looked n) ∷ ms) = OnlyLooks ms
OnlyLooks (sender (Sent f) ∷ ms) = ⊥
OnlyLooks (receiver (receiving.Took n f) ∷ ms) = ⊥
OnlyLooks (receiver (receiving.Gave n) ∷ ms) = ⊥

-- they put, take and give back nothing
record PartsNone (ms : List LaneMove) : Type 0 where
  sent : frames_sent (sends ms) ≡ []
  back : sum (back_counts (sends ms)) ≡ 0
  taken : frames_taken (receives ms) ≡ []
  given : numbers_given (receives ms) ≡ []

parts_none : (ms : List LaneMove) → OnlyLooks ms → PartsNone ms
parts_none [] looks = record { sent = refl; back = refl; taken = refl; given = refl }
parts_none (sender (Looked n) ∷ ms) looks =
    let rest = parts_none ms looks.1 in
    record { sent = rest.sent; back = (let s = sum_by-append (λ (x : ℕ). x) (n ∷ []) (back_counts (sends ms)) in omega (arith, s, looks.0, rest.back)); taken = rest.taken; given = rest.given }
parts_none (receiver (receiving.Looked n) ∷ ms) looks = let rest = parts_none ms looks in record { sent = rest.sent; back = rest.back; taken = rest.taken; given = rest.given }
parts_none (sender (Sent f) ∷ ms) looks = absurd looks
parts_none (receiver (receiving.Took n f) ∷ ms) looks = absurd looks
parts_none (receiver (receiving.Gave n) ∷ ms) looks = absurd looks

record SentStays (s t : SentNear) : Type 0 where
  put : t.put ≡ s.put
  back : t.back ≡ s.back
  knows : s.known ≤ t.known

record GotStays (r q : GotNear) : Type 0 where
  taken : q.taken ≡ r.taken
  given : q.given ≡ r.given
  knows : r.known ≤ q.known

module _ (ms : List LaneMove) (none : PartsNone ms) where
  ring_sends : (s t : RingSender) → RingSends s (sends ms) t → SentStays (sent_by s) (sent_by t)
  ring_sends s t moved = record {
    put = moved.put ∙ ap (λ (fs : List (List ℕ)). put_by s ++ fs) none.sent ∙ append-nil (put_by s);
    back = (let a = ap sum moved.looks in let b = sum_by-append (λ (x : ℕ). x) s.half.looks (back_counts (sends ms)) in omega (arith, a, b, none.back));
    knows = moved.known;
  }

  ring_receives : (r q : RingReceiver) → RingReceives r (receives ms) q → GotStays (got_by r) (got_by q)
  ring_receives r q moved = record {
    taken = sym (loads-frames q.half.taken) ∙ ap contents (moved.taken ∙ ap (λ (fs : List (ℕ × List ℕ)). taken_by r ++ fs) none.taken ∙ append-nil (taken_by r)) ∙ loads-frames r.half.taken;
    given = (let a = ap length (moved.given ∙ ap (λ (ns : List ℕ). given_by r ++ with_lengths r.role r.half.ring ns) none.given ∙ append-nil (given_by r)) in let c = length-map (given_entries r) return_in in let d = length-map (given_entries q) return_in in omega (arith, a, c, d));
    knows = moved.known;
  }

  any_sends : (s t : AnySend) → AnySends s (sends ms) t → SentStays (sent_near s) (sent_near t)
  any_sends (send.Driver s) (send.Driver t) moved = ring_sends s t moved
  any_sends (send.Device s) (send.Device t) moved = ring_sends s t moved
  any_sends (send.Plain s) (send.Plain t) moved = record { put = refl; back = refl; knows = omega arith }
  any_sends (send.Plain s) (send.Driver t) moved = absurd moved
  any_sends (send.Plain s) (send.Device t) moved = absurd moved
  any_sends (send.Driver s) (send.Plain t) moved = absurd moved
  any_sends (send.Driver s) (send.Device t) moved = absurd moved
  any_sends (send.Device s) (send.Plain t) moved = absurd moved
  any_sends (send.Device s) (send.Driver t) moved = absurd moved

  any_receives : (r q : AnyRecv) → AnyReceives r (receives ms) q → GotStays (got_near r) (got_near q)
  any_receives (recv.Driver r) (recv.Driver q) moved = ring_receives r q moved
  any_receives (recv.Device r) (recv.Device q) moved = ring_receives r q moved
  any_receives (recv.Plain r) (recv.Plain q) moved = record { taken = refl; given = refl; knows = omega arith }
  any_receives (recv.Plain r) (recv.Driver q) moved = absurd moved
  any_receives (recv.Plain r) (recv.Device q) moved = absurd moved
  any_receives (recv.Driver r) (recv.Plain q) moved = absurd moved
  any_receives (recv.Driver r) (recv.Device q) moved = absurd moved
  any_receives (recv.Device r) (recv.Plain q) moved = absurd moved
  any_receives (recv.Device r) (recv.Driver q) moved = absurd moved

-- ---- the own lane

record LoopStays (a b : Loop) : Type 0 where
  frames : b.frames ≡ a.frames
  back : length b.back ≡ length a.back

loop_stays : (ms : List LaneMove) (a b : Loop) → OnlyLooks ms → LoopMoved a ms b → LoopStays a b
loop_stays [] a b looks moved = record { frames = ap (λ (l : Loop). l.frames) moved; back = ap (λ (l : Loop). length l.back) moved }
loop_stays (sender (Looked n) ∷ ms) a b looks moved =
    let rest = loop_stays ms (loop_after a (sender (Looked n))) b looks.1 moved.1 in
    let many = moved.0 in
    record { frames = rest.frames; back = omega (arith, rest.back, many, looks.0) }
loop_stays (receiver (receiving.Looked n) ∷ ms) a b looks moved =
    let rest = loop_stays ms (loop_after a (receiver (receiving.Looked n))) b looks moved.1 in
    record { frames = rest.frames; back = rest.back }
loop_stays (sender (Sent f) ∷ ms) a b looks moved = absurd looks
loop_stays (receiver (receiving.Took n f) ∷ ms) a b looks moved = absurd looks
loop_stays (receiver (receiving.Gave n) ∷ ms) a b looks moved = absurd looks

end_stays : (e : RunEnds) (ms : List LaneMove) (e' : RunEnds) → OnlyLooks ms → Moved e ms e' → DidNothing (near_to e) (near_to e')
end_stays (Own a) ms (Own b) looks moved =
    let stays = loop_stays ms a b looks moved in
    let many = ap length stays.frames in
    record { put = ap contents stays.frames; back = refl; taken = refl; given = stays.back; knows = record { come = omega (arith, many); back = omega (arith, stays.back) } }
end_stays (Linked a) ms (Linked b) looks moved =
    let none = parts_none ms looks in
    let sent = any_sends ms none a.send b.send moved.sent in
    let got = any_receives ms none a.recv b.recv moved.received in
    record { put = sent.put; back = sent.back; taken = got.taken; given = got.given; knows = record { come = got.knows; back = sent.knows } }
end_stays (Own a) ms (Linked b) looks moved = absurd moved
end_stays (Linked a) ms (Own b) looks moved = absurd moved

stay_carried : (es : List RunEnds) (moves : List (List LaneMove)) (es' : List RunEnds) → AllByRecursion OnlyLooks moves → AllMoved Moved es moves es' → StayCarried es es'
stay_carried es moves es' looks moved [] p = did-nothing nothing_near nothing_near refl
stay_carried [] [] [] looks moved (q ∷ ps) p = did-nothing nothing_near nothing_near refl
stay_carried [] [] (e' ∷ es') looks moved (q ∷ ps) p = absurd moved
stay_carried [] (ms ∷ moves) es' looks moved (q ∷ ps) p = absurd moved
stay_carried (e ∷ es) [] es' looks moved (q ∷ ps) p = absurd moved
stay_carried (e ∷ es) (ms ∷ moves) [] looks moved (q ∷ ps) p = absurd moved
stay_carried (e ∷ es) (ms ∷ moves) (e' ∷ es') looks moved (q ∷ ps) p = go (q == p) (stay_carried es moves es' looks.1 moved.1 ps p)
  where
    go : (b : Bool) → DidNothing (near_among ps es p) (near_among ps es' p) → DidNothing (cond b (near_to e) (near_among ps es p)) (cond b (near_to e') (near_among ps es' p))
    go true later = end_stays e ms e' looks.0 moved.0
    go false later = later

-- ---- idle turns

both_true : (x y : Bool) → (x && y) ≡ true → (x ≡ true) × (y ≡ true)
both_true true y e = (refl, e)
both_true false y e = absurd cc

looks_of : (s : DomainState) (peer see : ℕ) (owed : List (List ℕ)) (ns : List ℕ) (ts : List Taken) → length owed ≡ 0 → length ts ≡ 0 → OnlyLooks (putting owed ++ receiver (receiving.Looked see) ∷ taking s peer ns ts)
looks_of s peer see [] [] [] none_owed none_taken = tt
looks_of s peer see [] (n ∷ ns) [] none_owed none_taken = tt
looks_of s peer see [] ns (t ∷ ts) none_owed none_taken = absurd (omega (arith, none_taken))
looks_of s peer see (f ∷ fs) ns ts none_owed none_taken = absurd (omega (arith, none_owed))

idle_looks : (s : DomainState) (v : Visit) (ns : List ℕ) → is_idle v ≡ true → OnlyLooks (visit_moves s v ns)
idle_looks s v ns idle =
    let back = both_true (v.back == 0) (length v.owed == 0 && (v.see == 0 && length v.takes == 0)) idle in
    let owed = both_true (length v.owed == 0) (v.see == 0 && length v.takes == 0) back.1 in
    let takes = (both_true (v.see == 0) (length v.takes == 0) owed.1).1 in
    (eqb-true v.back 0 back.0, looks_of (before_takes s v) v.peer v.see v.owed ns v.takes (eqb-true (length v.owed) 0 owed.0) (eqb-true (length v.takes) 0 takes))

turn_looks : (s : DomainState) (vs : List Visit) (numbers : List (List ℕ)) → list_all is_idle vs ≡ true → AllByRecursion OnlyLooks (turn_moves s vs numbers)
turn_looks s [] numbers idle = tt
turn_looks s (v ∷ vs) [] idle = tt
turn_looks s (v ∷ vs) (ns ∷ numbers) idle = let both = both_true (is_idle v) (list_all is_idle vs) idle in (idle_looks s v ns both.0, turn_looks (after_deeds s (numbered_deeds v ns)) vs numbers both.1)

pub idle-stays : (s : DomainState) (es : List RunEnds) (vs : List Visit) (numbers : List (List ℕ)) (es' : List RunEnds) → list_all is_idle vs ≡ true → AllMoved Moved es (turn_moves s vs numbers) es' → StayCarried es es'
idle-stays s es vs numbers es' idle moved = stay_carried es (turn_moves s vs numbers) es' (turn_looks s vs numbers idle) moved

-- ---- calls that put nothing and give nothing back

call_looks : (ps : List ℕ) → AllByRecursion OnlyLooks (call_moves [] [] ps)
call_looks [] = tt
call_looks (p ∷ ps) = (tt, call_looks ps)

call_stays : (es : List RunEnds) (frames : List (ℕ × List ℕ)) (items : List Item) (ps : List ℕ) (es' : List RunEnds) → frames ≡ [] → items ≡ [] → AllMoved Moved es (call_moves frames items ps) es' → StayCarried es es'
call_stays es frames items ps es' no_frames no_items moved =
    stay_carried es (call_moves [] [] ps) es' (call_looks ps)
    (subst (λ (is : List Item). AllMoved Moved es (call_moves [] is ps) es') no_items (subst (λ (fs : List (ℕ × List ℕ)). AllMoved Moved es (call_moves fs items ps) es') no_frames moved))

-- ---- what the last line tells

behind_all : {A : Type 0} (xs : List A) (y : A) → slice_get (xs ++ y ∷ []) (length xs) ≡ Some y
behind_all [] y = refl
behind_all (x ∷ xs) y = behind_all xs y

last_of : {A : Type 0} (xs : List A) (y : A) → slice_get (xs ++ y ∷ []) (length (xs ++ y ∷ []) - 1) ≡ Some y
last_of xs y = let before : length (xs ++ y ∷ []) - 1 ≡ length xs = omega (arith, length-append xs (y ∷ [])) in ap (slice_get (xs ++ y ∷ [])) before ∙ behind_all xs y

abbrev NotIdle : Line → Type 0
NotIdle l = is_idle_line (Some l) ≡ false

-- lines behind which more lines stand, none of them of idle turns
ends_busy : (lines : List Line) (l : Line) (more : List Line) → NotIdle l → AllByRecursion NotIdle more → ends_idle (lines ++ l ∷ more) ≡ false
ends_busy lines l [] busy all = ap is_idle_line (last_of lines l) ∙ busy
ends_busy lines l (m ∷ more) busy all = ap ends_idle (sym (append_assoc lines (l ∷ []) (m ∷ more))) ∙ ends_busy (lines ++ l ∷ []) m more all.0 all.1

puts_busy : (lines : List Line) (ps : List (ℕ × List ℕ)) → ends_idle lines ≡ false → ends_idle (noted_all lines (map put_entry ps)) ≡ false
puts_busy lines [] busy = busy
puts_busy lines (p ∷ ps) busy = puts_busy (lines ++ put_line p.0 p.1 ∷ []) ps (ends_busy lines (put_line p.0 p.1) [] refl tt)

all_both : {A : Type 0} (P : A → Type 0) (xs ys : List A) → AllByRecursion P xs → AllByRecursion P ys → AllByRecursion P (xs ++ ys)
all_both P [] ys one two = two
all_both P (x ∷ xs) ys one two = (one.0, all_both P xs ys one.1 two)

looked_busy : (b : Bool) (l : Line) → NotIdle l → AllByRecursion NotIdle (cond b [] (l ∷ []))
looked_busy true l busy = tt
looked_busy false l busy = (busy, tt)

put_busy : (p : ℕ) (fs : List (List ℕ)) → AllByRecursion NotIdle (map (put_line p) fs)
put_busy p [] = tt
put_busy p (f ∷ fs) = (refl, put_busy p fs)

take_busy : (p : ℕ) (ts : List Taken) → AllByRecursion NotIdle (map (taken_line p) ts)
take_busy p [] = tt
take_busy p (t ∷ ts) = (refl, take_busy p ts)

visits_busy : (vs : List Visit) → AllByRecursion NotIdle (flat_map visit_lines vs)
visits_busy [] = tt
visits_busy (v ∷ vs) =
    let takes = map (taken_line v.peer) v.takes in
    let sees = looked (see_line v.peer) v.see in
    let puts_of = map (put_line v.peer) v.owed in
    all_both NotIdle (visit_lines v) (flat_map visit_lines vs)
    (all_both NotIdle (looked (back_line v.peer) v.back) (puts_of ++ (sees ++ takes)) (looked_busy (v.back == 0) (back_line v.peer v.back) refl)
    (all_both NotIdle puts_of (sees ++ takes) (put_busy v.peer v.owed) (all_both NotIdle sees takes (looked_busy (v.see == 0) (see_line v.peer v.see) refl) (take_busy v.peer v.takes)))) (visits_busy vs)

-- after a turn and puts the last line is one of idle turns only where the turn was idle and nothing was put
record EndsIdle (vs : List Visit) (ps : List (ℕ × List ℕ)) : Type 0 where
  idle : list_all is_idle vs ≡ true
  no_puts : ps ≡ []

told_idle : (lines : List Line) (vs : List Visit) (ps : List (ℕ × List ℕ)) → ends_idle (noted_all lines (turned vs ∷ map put_entry ps)) ≡ true → EndsIdle vs ps
told_idle lines vs ps ends = go (list_all is_idle vs) refl
  where
    no_puts_after : (ls : List Line) (qs : List (ℕ × List ℕ)) → ends_idle (noted_all ls (map put_entry qs)) ≡ true → qs ≡ []
    no_puts_after ls [] e = refl
    no_puts_after ls (q ∷ qs) e = absurd (true≢false (sym e ∙ puts_busy (ls ++ put_line q.0 q.1 ∷ []) qs (ends_busy ls (put_line q.0 q.1) [] refl tt)))

    go : (b : Bool) → list_all is_idle vs ≡ b → EndsIdle vs ps
    go true is = record { idle = is; no_puts = no_puts_after (noted lines (turned vs)) ps ends }
    go false is =
        let told : noted lines (turned vs) ≡ lines ++ turn_line ∷ flat_map visit_lines vs = ap (λ (b : Bool). cond b (noted_idle lines) (lines ++ turn_line ∷ flat_map visit_lines vs)) is in
        let busy : ends_idle (noted_all (noted lines (turned vs)) (map put_entry ps)) ≡ false = puts_busy (noted lines (turned vs)) ps (ap ends_idle told ∙ ends_busy lines turn_line (flat_map visit_lines vs) refl (visits_busy vs)) in
        absurd (true≢false (sym ends ∙ busy))

-- ---- a quiet call

nothing_refused : (o : Option Refusal) → unless_refused {A = List Item} o [] [] ≡ []
nothing_refused None = refl
nothing_refused (Some word) = refl

turn_returns : (line : CallLine) (st : Station) (s : DomainState) → is_turn line.call ≡ true → returned s line.node (call_at_station line st) ≡ []
turn_returns line st s e = go line.call e
  where
    go : (c : Call) → is_turn c ≡ true → returned s line.node (call_by st.ids st.packets st.domain.ids st.domain.packets c) ≡ []
    go (Raw domain bytes) e = absurd cc
    go Turn e = nothing_refused (refusal s line.node turn_alone)
    go (Create port) e = absurd cc
    go (Delete port) e = absurd cc
    go (Lookup name) e = absurd cc
    go (MsgSend port to priority bytes) e = absurd cc
    go (MsgRecv port max) e = absurd cc
    go (MsgRecvI port max) e = absurd cc
    go (MsgAvailable port) e = absurd cc
    go (Connect port to kind) e = absurd cc
    go (OpenSend port kind) e = absurd cc
    go (OpenRecv port kind) e = absurd cc
    go (PktSend port bytes) e = absurd cc
    go (PktRecv port) e = absurd cc
    go (PktRecvI port) e = absurd cc
    go (Release label) e = absurd cc
    go (SclSend port bits value) e = absurd cc
    go (SclRecv port bits) e = absurd cc
    go (CloseSend port) e = absurd cc
    go (CloseRecv port) e = absurd cc
    go (Test label) e = absurd cc
    go (Wait label limit) e = absurd cc
    go (WaitAny names limit) e = absurd cc
    go (Cancel label) e = absurd cc

either : {P : Type 0} (x y : Bool) → (x || y) ≡ true → (x ≡ true → P) → (y ≡ true → P) → P
either true y e one two = one refl
either false y e one two = two e

-- the turn of a quiet call is idle
pub quiet-idle : (line : CallLine) (old new : Station) (m : Made) (makes : MakesCall line old new m) → is_quiet line.call (plain_answer m.answer) new.journal.lines ≡ true → list_all is_idle makes.calls.visits ≡ true
quiet-idle line old new m makes quiet =
    let both = both_true (is_turn line.call || is_tried (plain_answer m.answer)) (ends_idle new.journal.lines) quiet in
    let c = makes.calls in
    (told_idle old.journal.lines c.visits (puts c.turned_to.state line.node (call_at_station line old)) (ap ends_idle (sym c.told) ∙ both.1)).idle

pub quiet-call : (line : CallLine) (old new : Station) (m : Made) → MakesCall line old new m → is_quiet line.call (plain_answer m.answer) new.journal.lines ≡ true → StayCarried old.domain.ends new.domain.ends
quiet-call line old new m makes quiet ps p =
    let both = both_true (is_turn line.call || is_tried (plain_answer m.answer)) (ends_idle new.journal.lines) quiet in
    let c = makes.calls in
    let s = c.turned_to.state in
    let call = call_at_station line old in
    let frames = puts s line.node call in
    let told = told_idle old.journal.lines c.visits frames (ap ends_idle (sym c.told) ∙ both.1) in
    let none : returned s line.node call ≡ [] =
    either (is_turn line.call) (is_tried (plain_answer m.answer)) both.0 (turn_returns line old s) (λ tried. (tried_nothing s line.node call (ap is_tried (sym c.does.answer) ∙ tried)).returns_none) in
    did-nothing-both (near_among ps old.domain.ends p) (near_among ps c.turned_to.ends p) (near_among ps new.domain.ends p) (idle-stays old.domain.numbered old.domain.ends c.visits c.numbers c.turned_to.ends told.idle c.turns.moved ps p)
    (call_stays c.turned_to.ends frames (returned c.turned_to.numbered line.node call) (map (λ q. q.number) s.peers) new.domain.ends told.no_puts (named-none c.turned_to line.node call none) c.does.moved ps p)

pub quiet-where : (line : CallLine) (old new : Station) (m : Made) (b : Bool) → MakesCall line old new m → b ≡ is_quiet line.call (plain_answer m.answer) new.journal.lines → StayCarriedWhere b old.domain.ends new.domain.ends
quiet-where line old new m true makes is = quiet-call line old new m makes (sym is)
quiet-where line old new m false makes is = tt

pub idle-where : (line : CallLine) (old new : Station) (m : Made) (b : Bool) (makes : MakesCall line old new m) → b ≡ is_quiet line.call (plain_answer m.answer) new.journal.lines → IsIdleWhere b makes.calls.visits
idle-where line old new m true makes is = quiet-idle line old new m makes (sym is)
idle-where line old new m false makes is = tt
