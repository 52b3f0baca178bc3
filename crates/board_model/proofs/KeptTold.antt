-- What the lines of a journal tell of the messages that its frames bring, and of those that it drops, deed by deed.
use Rattle.std.proofs.Common.{◌≡◌, ℕ, ◌+◌, ◌-◌, Bool, true, false, ◌&&◌, cond, List, [], ◌∷◌, ◌++◌, map, filter, length, Option, Some, None, refl, sym, ap, ◌∙◌, subst, arith, sum_by}
use Rattle.std.specs.Prelude.{count_by, slice_get, is_none, ◌==◌}
use Rattle.std.specs.List.{AllByRecursion, flat_map}
use Rattle.std.proofs.lemmas.List.{length-map}
use Rattle.std.proofs.lemmas.List.Sums.{sum_by-cons}
use Rattle.mc_base.specs.Reading.{Reading, is_faulty, announces, says, brings}
use Rattle.mc_base.specs.declared.fate.Fate.{Fate}
use Rattle.mc_base.specs.declared.fate.Fate.TheVariants as fate
use Rattle.board_model.specs.Parts.{part_of, coming_from, said_from, came_from}
use Rattle.board_model.specs.Fragments.{KeepsPart}
use Rattle.board_model.proofs.PartReadings.{is_part, is_open}
use Rattle.board_model.proofs.LaneTakes.{Brings, part_word, stray_word}
use Rattle.mc_base.specs.declared.refusal.Refusal.{Refusal}
use Rattle.board_model.specs.declared.scenario.Call.{Call}
use Rattle.board_model.specs.declared.scenario.Call.TheVariants.{Create, Delete, Lookup, MsgSend, MsgRecv, MsgRecvI, MsgAvailable, Connect, OpenSend, OpenRecv, PktSend, PktRecv, PktRecvI, Release, SclSend, SclRecv, CloseSend, CloseRecv, Test, Wait, WaitAny, Cancel, Raw, Turn}
use Rattle.board_model.specs.declared.scenario.CallLine.{CallLine}
use Rattle.board_model.specs.Journal.{PlainEntry, turned, put, again, waits, called, PlainAnswer, refuses, agrees, tells, connects, gives, completes, Visit, Taken, Line, turn_line, back_line, put_line, see_line, call_line, taken_line, looked, visit_lines, joined}
use Rattle.board_model.specs.State.{Item, DomainState, Endpoint, Part, is_at, live_at, endpoint_at, queue_in, queue_at}
use Rattle.board_model.specs.Labels.{Labels, call_of}
use Rattle.mc_base.specs.declared.name.Local.{Local}
use Rattle.board_model.specs.DomainCall.{DomainCall, create_at, delete_at, lookup_of, send_from, receive_at, request_at, available_at, connect_from, open_at, packet_from, lend_at, packet_request_at, release_of, scalar_from, scalar_at, close_at, test_of, wait_for, cancel_of, raw_to, turn_alone}
use Rattle.board_model.specs.Answer.{local, has_channel, holds, words_of, refusal, answer_by}
use Rattle.board_model.specs.Step.{RunState, Allowed, next_line, call_at, after}
use Rattle.board_model.specs.CallChanges.{at_live}
use Rattle.board_model.specs.Deeds.{Deed, looks_back, puts_owed, looks_ahead, takes, calls, after_deed, MayDo, AllMayDo, EachDeed, along}
use Rattle.board_model.specs.Turn.{takes_named}
use Rattle.board_model.specs.JournalDeeds.{names_from, named_deeds, call_deeds, entry_deeds, deeds_along}
use Rattle.board_model.specs.Traffic.{taken_from}
use Rattle.board_model.specs.Messages.{said_by, carries_message, message_of, is_message_item, queued_at}
use Rattle.board_model.specs.Drops.{drops, dropped_by}
use Rattle.board_model.specs.Tallies.{is_brought_line, is_lost_line, is_delete, deletes_line, number_told, deleted_in}
use Rattle.board_model.proofs.ListsCounts.{one_if, count-cons, count-append, count-every}
use Rattle.board_model.proofs.ListsJoined.{entry_lines, sum-joined}
use Rattle.board_model.proofs.MessageAlls.{none-passes, all-append}
use Rattle.board_model.proofs.OrderSound.{Sound as Queues, Bound, IsMessage, sound_bound}
use Rattle.board_model.proofs.OrderLaws.{AllQueues}
use Rattle.board_model.proofs.HonestDeeds.{not_some}
use Rattle.board_model.proofs.MessageLines.{joined-count}
use Rattle.board_model.proofs.MessageLists.{get-position}
use Rattle.board_model.proofs.MessageOnce.{total, total-append}
use Rattle.board_model.proofs.MessageVisitLines.{count-never, visit_lines_count}
use Rattle.board_model.proofs.KeptDeeds.{brought_by}
use Rattle.board_model.proofs.KeptLines.{any, IsHeld, said_bytes}
use Rattle.board_model.proofs.RunDeeds.{AllAllowed}

-- ---- by deeds

abbrev pub brought_deed : Deed → ℕ
brought_deed (takes q name frame word) = one_if (carries_message frame)
brought_deed other = 0

-- a frame that is taken is not stray
abbrev pub NotStray : Deed → Type 0
NotStray (takes q name frame word) = word ≡ fate.Stray → ⊥
NotStray other = Unit {0}

brings_it : (r : Reading) → is_part r ≡ true → Brings r
brings_it (brings a b q) e = (a, b, q, refl)
brings_it (is_faulty f) e = absurd cc
brings_it (announces text address there) e = absurd cc
brings_it (says a b l) e = absurd cc

pub not_stray : (s : DomainState) (q : ℕ) (name : Option ℕ) (frame : List ℕ) (word : Fate) → MayDo s (takes q name frame word) → NotStray (takes q name frame word) → IsHeld (coming_from s q frame)
not_stray s q name frame word may never part = go (coming_from s q frame).part refl
  where
    go : (o : Option Part) → (coming_from s q frame).part ≡ o → is_open o ≡ true
    go (Some p) is = refl
    go None is = absurd (never (sym may ∙ stray_word s q (came_from s q name frame) (said_from s q frame) (ap is_none is) (brings_it (said_from s q frame) part)))

deed_brought : (r : ℕ) (s : DomainState) (d : Deed) → MayDo s d → NotStray d → count_by any (brought_by r s d) ≡ brought_deed d
deed_brought r s (takes q name frame word) may never = said_bytes q r (part_of s q) frame (not_stray s q name frame word may never)
deed_brought r s (looks_back q n) may never = refl
deed_brought r s (puts_owed q f) may never = refl
deed_brought r s (looks_ahead q n) may never = refl
deed_brought r s (calls node call a) may never = refl

pub brought-deeds : (r : ℕ) (s : DomainState) (ds : List Deed) → AllMayDo s ds → AllByRecursion NotStray ds → count_by any (along (brought_by r) s ds) ≡ total brought_deed ds
brought-deeds r s [] may never = refl
brought-deeds r s (d ∷ ds) may never = omega (arith, count-append any (brought_by r s d) (along (brought_by r) (after_deed s d) ds), deed_brought r s d may.0 never.0, brought-deeds r (after_deed s d) ds may.1 never.1)

pub never-stray : (start : DomainState) (before ds : List Deed) → EachDeed (KeepsPart start) before ds → AllByRecursion NotStray ds
never-stray start before [] keeps = tt
never-stray start before (d ∷ ds) keeps = (one d keeps.0, never-stray start (before ++ d ∷ []) ds keeps.1)
  where
    one : (e : Deed) → KeepsPart start before e → NotStray e
    one (takes q name frame word) k = k.0
    one (looks_back q n) k = tt
    one (puts_owed q f) k = tt
    one (looks_ahead q n) k = tt
    one (calls node call a) k = tt

abbrev pub lost_deed : Deed → ℕ
lost_deed (takes q name frame word) = one_if (drops word && carries_message frame)
lost_deed (calls node (delete_at port) (tells n)) = n
lost_deed other = 0

-- a frame with a word that drops brings no part
frame_lost : (d : ℕ) (s : DomainState) (q : ℕ) (name : Option ℕ) (frame : List ℕ) (word : Fate) → MayDo s (takes q name frame word) → count_by any (dropped_by d s (takes q name frame word)) ≡ lost_deed (takes q name frame word)
frame_lost d s q name frame word may = go (drops word) refl
  where
    whole : drops word ≡ true → IsHeld (coming_from s q frame)
    whole dropped part = by_part (is_none (coming_from s q frame).part) refl
      where
        by_part : (b : Bool) → is_none (coming_from s q frame).part ≡ b → is_open (coming_from s q frame).part ≡ true
        by_part true is = let clash : true ≡ false = sym dropped ∙ ap drops (sym may ∙ stray_word s q (came_from s q name frame) (said_from s q frame) is (brings_it (said_from s q frame) part)) in absurd cc
        by_part false is = let clash : true ≡ false = sym dropped ∙ ap drops (sym may ∙ part_word s q (came_from s q name frame) (said_from s q frame) is (brings_it (said_from s q frame) part)) in absurd cc

    go : (b : Bool) → drops word ≡ b → count_by any (cond b (said_by q d (said_from s q frame)) []) ≡ one_if (b && carries_message frame)
    go true dropped = said_bytes q d (part_of s q) frame (whole dropped)
    go false dropped = refl

-- what is queued at an endpoint without a channel
deleted_length : (d : ℕ) (s : DomainState) → Queues s → (at : Local) (x : Option Endpoint) → live_at s at ≡ x → has_channel x ≡ false → count_by any (at_live x (queued_at d)) ≡ length (queue_in x)
deleted_length d s order at None found free = refl
deleted_length d s order at (Some e) found free =
    let all : AllByRecursion IsMessage e.queue = subst (Bound e.queue) (not_some e.channel free) (sound_bound s order (is_at at) e found) in
    count-every (queued_at d e) ∙ (length-map (filter is_message_item e.queue) (message_of d e.address) ∙ ap length (all_messages e.queue all))
  where
    all_messages : (q : List Item) → AllByRecursion IsMessage q → filter is_message_item q ≡ q
    all_messages [] all = refl
    all_messages (i ∷ q) all = let is : is_message_item i ≡ true = all.0 in rw is (ap (λ xs. i ∷ xs) (all_messages q all.1))

delete_lost : (d : ℕ) (s : DomainState) → Queues s → (node port : ℕ) (a : PlainAnswer) (o : Option Refusal) → refusal s node (delete_at port) ≡ o → a ≡ answer_by o (tells (length (queue_at s (local node port)))) → count_by any (dropped_by d s (calls node (delete_at port) a)) ≡ lost_deed (calls node (delete_at port) a)
delete_lost d s order node port a (Some w) why is = subst (λ k. count_by any (dropped_by d s (calls node (delete_at port) k)) ≡ lost_deed (calls node (delete_at port) k)) (sym is) refl
delete_lost d s order node port a None why is =
    let there : endpoint_at s (local node port) ≡ live_at s (local node port) = get-position (is_at (local node port)) s.endpoints in
    let free : has_channel (live_at s (local node port)) ≡ false = sym (ap has_channel there) ∙ (none-passes (holds s node (delete_at port)) (words_of (delete_at port)) why).1.0 in
    subst (λ k. count_by any (dropped_by d s (calls node (delete_at port) k)) ≡ lost_deed (calls node (delete_at port) k)) (sym is)
    (deleted_length d s order (local node port) (live_at s (local node port)) refl free ∙ ap (λ x. length (queue_in x)) (sym there))

call_lost : (d : ℕ) (s : DomainState) (node : ℕ) (call : DomainCall) (a : PlainAnswer) → Queues s → MayDo s (calls node call a) → count_by any (dropped_by d s (calls node call a)) ≡ lost_deed (calls node call a)
call_lost d s node (delete_at port) a order may = delete_lost d s order node port a (refusal s node (delete_at port)) refl may
call_lost d s node (create_at port) a order may = refl
call_lost d s node (lookup_of name) a order may = refl
call_lost d s node (send_from port to priority bytes) a order may = refl
call_lost d s node (receive_at port max) a order may = refl
call_lost d s node (request_at port max) a order may = refl
call_lost d s node (available_at port) a order may = refl
call_lost d s node (connect_from port to kind) a order may = refl
call_lost d s node (open_at port side kind) a order may = refl
call_lost d s node (packet_from port bytes) a order may = refl
call_lost d s node (lend_at port) a order may = refl
call_lost d s node (packet_request_at port) a order may = refl
call_lost d s node (release_of place) a order may = refl
call_lost d s node (scalar_from port bits value) a order may = refl
call_lost d s node (scalar_at port bits) a order may = refl
call_lost d s node (close_at port side) a order may = refl
call_lost d s node (test_of request) a order may = refl
call_lost d s node (wait_for requests says_place) a order may = refl
call_lost d s node (cancel_of request) a order may = refl
call_lost d s node (raw_to to bytes) a order may = refl
call_lost d s node turn_alone a order may = refl

deed_lost : (d : ℕ) (s : DomainState) (e : Deed) → Queues s → MayDo s e → count_by any (dropped_by d s e) ≡ lost_deed e
deed_lost d s (takes q name frame word) order may = frame_lost d s q name frame word may
deed_lost d s (calls node call a) order may = call_lost d s node call a order may
deed_lost d s (looks_back q n) order may = refl
deed_lost d s (puts_owed q f) order may = refl
deed_lost d s (looks_ahead q n) order may = refl

pub lost-deeds : (d : ℕ) (s : DomainState) (ds : List Deed) → AllQueues s ds → AllMayDo s ds → count_by any (along (dropped_by d) s ds) ≡ total lost_deed ds
lost-deeds d s [] order may = refl
lost-deeds d s (e ∷ ds) order may = omega (arith, count-append any (dropped_by d s e) (along (dropped_by d) (after_deed s e) ds), deed_lost d s e order.0 may.0, lost-deeds d (after_deed s e) ds order.1 may.1)

-- ---- the lines of a turn, where those of frames taken alone are counted

pub record Counts (w : Deed → ℕ) (test : Line → Bool) : Type 0 where
  pub back : (q n : ℕ) → w (looks_back q n) ≡ 0
  pub owed : (q : ℕ) (f : List ℕ) → w (puts_owed q f) ≡ 0
  pub ahead : (q n : ℕ) → w (looks_ahead q n) ≡ 0
  pub taken : (q : ℕ) (name : Option ℕ) (t : Taken) → w (takes q name t.frame t.fate) ≡ one_if (test (taken_line q t))
  pub no_turn : test turn_line ≡ false
  pub no_back : (q n : ℕ) → test (back_line q n) ≡ false
  pub no_see : (q n : ℕ) → test (see_line q n) ≡ false
  pub no_put : (q : ℕ) (f : List ℕ) → test (put_line q f) ≡ false

module _ (w : Deed → ℕ) (test : Line → Bool) (counts : Counts w test) where
  owed_none : (q : ℕ) (fs : List (List ℕ)) → total w (map (puts_owed q) fs) ≡ 0
  owed_none q [] = refl
  owed_none q (f ∷ fs) = omega (arith, counts.owed q f, owed_none q fs)

  takes_count : (q : ℕ) (name : ℕ → Option ℕ) (ts : List Taken) → total w (takes_named name q ts) ≡ count_by (λ t. test (taken_line q t)) ts
  takes_count q name [] = refl
  takes_count q name (t ∷ ts) = omega (arith, counts.taken q (name 0) t, takes_count q (λ k. name (k + 1)) ts, count-cons (λ u. test (taken_line q u)) t ts)

  visit_count : (before : List PlainEntry) (v : Visit) → total w (named_deeds before v) ≡ count_by test (visit_lines v)
  visit_count before v =
      let name : ℕ → Option ℕ = names_from (length (taken_from v.peer before)) in
      omega (
        arith,
        counts.back v.peer v.back,
        total-append w (map (puts_owed v.peer) v.owed) (looks_ahead v.peer v.see ∷ takes_named name v.peer v.takes),
        owed_none v.peer v.owed,
        counts.ahead v.peer v.see,
        takes_count v.peer name v.takes,
        visit_lines_count test v counts.no_back counts.no_see,
        count-never (λ f. test (put_line v.peer f)) (counts.no_put v.peer) v.owed,
      )

  visits_count : (before : List PlainEntry) (vs : List Visit) → total w (flat_map (named_deeds before) vs) ≡ count_by test (flat_map visit_lines vs)
  visits_count before [] = refl
  visits_count before (v ∷ vs) = omega (arith, total-append w (named_deeds before v) (flat_map (named_deeds before) vs), visit_count before v, visits_count before vs, count-append test (visit_lines v) (flat_map visit_lines vs))

  pub turn-count : (before : List PlainEntry) (vs : List Visit) → total w (flat_map (named_deeds before) vs) ≡ count_by test (entry_lines (turned vs))
  turn-count before vs = omega (arith, visits_count before vs, count-cons test turn_line (flat_map visit_lines vs), ap one_if counts.no_turn)

-- ---- what is brought

brought_counts : Counts brought_deed is_brought_line
brought_counts = record { back = λ q n. refl; owed = λ q f. refl; ahead = λ q n. refl; taken = λ q name t. refl; no_turn = refl; no_back = λ q n. refl; no_see = λ q n. refl; no_put = λ q f. refl }

call_brings : (r : RunState) (a : PlainAnswer) (o : Option CallLine) → total brought_deed (call_deeds o r a) ≡ 0
call_brings r a None = refl
call_brings r a (Some line) = refl

entry_brought : (lines : List CallLine) (before : List PlainEntry) (r : RunState) (e : PlainEntry) → total brought_deed (entry_deeds lines before r e) ≡ count_by is_brought_line (entry_lines e)
entry_brought lines before r (turned vs) = turn-count brought_deed is_brought_line brought_counts before vs
entry_brought lines before r (put peer frame) = refl
entry_brought lines before r (again word) = call_brings r (refuses word) (next_line lines r)
entry_brought lines before r (waits k) = refl
entry_brought lines before r (called k a) = call_brings r a (next_line lines r)

brought_along : (lines : List CallLine) (before : List PlainEntry) (r : RunState) (es : List PlainEntry) → total brought_deed (deeds_along lines before r es) ≡ count_by is_brought_line (flat_map entry_lines es)
brought_along lines before r [] = refl
brought_along lines before r (e ∷ es) =
    omega (arith, total-append brought_deed (entry_deeds lines before r e) (deeds_along lines (before ++ e ∷ []) (after lines r e) es), entry_brought lines before r e, brought_along lines (before ++ e ∷ []) (after lines r e) es, count-append is_brought_line (entry_lines e) (flat_map entry_lines es))

pub brought-told : (lines : List CallLine) (before : List PlainEntry) (r : RunState) (es : List PlainEntry) → total brought_deed (deeds_along lines before r es) ≡ count_by is_brought_line (joined es)
brought-told lines before r es = brought_along lines before r es ∙ sym (joined-count is_brought_line (record { idle = λ k. refl; again = λ w. refl; spin = λ k w. refl; turn = refl }) es)

-- ---- what is dropped

lost_counts : Counts lost_deed is_lost_line
lost_counts = record { back = λ q n. refl; owed = λ q f. refl; ahead = λ q n. refl; taken = λ q name t. refl; no_turn = refl; no_back = λ q n. refl; no_see = λ q n. refl; no_put = λ q f. refl }

-- by deletes, entry by entry
abbrev pub deleted_by : List CallLine → PlainEntry → ℕ
deleted_by lines (called k a) = deleted_in lines (call_line k a)
deleted_by lines other = 0

told_or_none : (node port : ℕ) (a : PlainAnswer) → lost_deed (calls node (delete_at port) a) ≡ number_told a
told_or_none node port (tells n) = refl
told_or_none node port (connects n channel) = refl
told_or_none node port (refuses w) = refl
told_or_none node port agrees = refl
told_or_none node port (gives size bytes) = refl
told_or_none node port (completes place x) = refl

line_lost : (labels : Labels) (s : DomainState) (node : ℕ) (call : Call) (a : PlainAnswer) → lost_deed (calls node (call_of labels s call) a) ≡ cond (is_delete call) (number_told a) 0
line_lost labels s node (Delete port) a = told_or_none node port a
line_lost labels s node (Create port) a = refl
line_lost labels s node (Lookup name) a = refl
line_lost labels s node (MsgSend port to priority bytes) a = refl
line_lost labels s node (MsgRecv port max) a = refl
line_lost labels s node (MsgRecvI port max) a = refl
line_lost labels s node (MsgAvailable port) a = refl
line_lost labels s node (Connect port to kind) a = refl
line_lost labels s node (OpenSend port kind) a = refl
line_lost labels s node (OpenRecv port kind) a = refl
line_lost labels s node (PktSend port bytes) a = refl
line_lost labels s node (PktRecv port) a = refl
line_lost labels s node (PktRecvI port) a = refl
line_lost labels s node (Release label) a = refl
line_lost labels s node (SclSend port bits value) a = refl
line_lost labels s node (SclRecv port bits) a = refl
line_lost labels s node (CloseSend port) a = refl
line_lost labels s node (CloseRecv port) a = refl
line_lost labels s node (Test label) a = refl
line_lost labels s node (Wait label limit) a = refl
line_lost labels s node (WaitAny names limit) a = refl
line_lost labels s node (Cancel label) a = refl
line_lost labels s node (Raw domain bytes) a = refl
line_lost labels s node Turn a = refl

called_lost : (lines : List CallLine) (r : RunState) (k : ℕ) (a : PlainAnswer) (line : CallLine) → next_line lines r ≡ Some line → k ≡ r.lines_called + 1 → total lost_deed (call_deeds (next_line lines r) r a) ≡ deleted_in lines (call_line k a)
called_lost lines r k a line at number =
    let before : k - 1 ≡ r.lines_called = omega arith in
    let it : slice_get lines (k - 1) ≡ Some line = ap (λ n. slice_get lines n) before ∙ at in
    ap (λ o. total lost_deed (call_deeds o r a)) at ∙ (omega (arith, line_lost r.labels r.state line.node line.call a) ∙ sym (ap (λ o. cond (deletes_line o) (number_told a) 0) it))

again_lost : (r : RunState) (w : Refusal) (o : Option CallLine) → total lost_deed (call_deeds o r (refuses w)) ≡ 0
again_lost r w None = refl
again_lost r w (Some line) = go (call_at r line)
  where
    go : (c : DomainCall) → total lost_deed (calls line.node c (refuses w) ∷ []) ≡ 0
    go (delete_at port) = refl
    go other = refl

entry_lost : (lines : List CallLine) (before : List PlainEntry) (r : RunState) (e : PlainEntry) → Allowed lines r e → total lost_deed (entry_deeds lines before r e) ≡ count_by is_lost_line (entry_lines e) + deleted_by lines e
entry_lost lines before r (turned vs) allowed = omega (arith, turn-count lost_deed is_lost_line lost_counts before vs)
entry_lost lines before r (put peer frame) allowed = refl
entry_lost lines before r (again word) allowed = again_lost r word (next_line lines r)
entry_lost lines before r (waits k) allowed = refl
entry_lost lines before r (called k a) allowed = omega (arith, called_lost lines r k a allowed.0 allowed.1 allowed.2)

lost_along : (lines : List CallLine) (before : List PlainEntry) (r : RunState) (es : List PlainEntry) → AllAllowed lines r es → total lost_deed (deeds_along lines before r es) ≡ count_by is_lost_line (flat_map entry_lines es) + sum_by (deleted_by lines) es
lost_along lines before r [] allowed = refl
lost_along lines before r (e ∷ es) allowed =
    omega (
      arith,
      total-append lost_deed (entry_deeds lines before r e) (deeds_along lines (before ++ e ∷ []) (after lines r e) es),
      entry_lost lines before r e allowed.0,
      lost_along lines (before ++ e ∷ []) (after lines r e) es allowed.1,
      count-append is_lost_line (entry_lines e) (flat_map entry_lines es),
      sum_by-cons (deleted_by lines) e es,
    )

-- ---- deletes, line by line

pub sum_none : (f : Line → ℕ) (ls : List Line) → AllByRecursion (λ l. f l ≡ 0) ls → sum_by f ls ≡ 0
sum_none f [] all = refl
sum_none f (l ∷ ls) all = omega (arith, sum_by-cons f l ls, all.0, sum_none f ls all.1)

module _ (lines : List CallLine) where
  abbrev NoDelete : Line → Type 0
  NoDelete l = deleted_in lines l ≡ 0

  looked_none : (b : Bool) (l : Line) → NoDelete l → AllByRecursion NoDelete (cond b [] (l ∷ []))
  looked_none true l none = tt
  looked_none false l none = (none, tt)

  puts_none : (p : ℕ) (fs : List (List ℕ)) → AllByRecursion NoDelete (map (put_line p) fs)
  puts_none p [] = tt
  puts_none p (f ∷ fs) = (refl, puts_none p fs)

  takes_none : (p : ℕ) (ts : List Taken) → AllByRecursion NoDelete (map (taken_line p) ts)
  takes_none p [] = tt
  takes_none p (t ∷ ts) = (refl, takes_none p ts)

  visit_none : (v : Visit) → AllByRecursion NoDelete (visit_lines v)
  visit_none v =
      all-append NoDelete (looked (back_line v.peer) v.back) (map (put_line v.peer) v.owed ++ (looked (see_line v.peer) v.see ++ map (taken_line v.peer) v.takes)) (looked_none (v.back == 0) (back_line v.peer v.back) refl)
      (all-append NoDelete (map (put_line v.peer) v.owed) (looked (see_line v.peer) v.see ++ map (taken_line v.peer) v.takes) (puts_none v.peer v.owed)
      (all-append NoDelete (looked (see_line v.peer) v.see) (map (taken_line v.peer) v.takes) (looked_none (v.see == 0) (see_line v.peer v.see) refl) (takes_none v.peer v.takes)))

  visits_none : (vs : List Visit) → AllByRecursion NoDelete (flat_map visit_lines vs)
  visits_none [] = tt
  visits_none (v ∷ vs) = all-append NoDelete (visit_lines v) (flat_map visit_lines vs) (visit_none v) (visits_none vs)

  agree : (es : List PlainEntry) → AllByRecursion (λ e. deleted_by lines e ≡ sum_by (deleted_in lines) (entry_lines e)) es
  agree [] = tt
  agree (turned vs ∷ es) = (sym (sum_none (deleted_in lines) (turn_line ∷ flat_map visit_lines vs) (refl, visits_none vs)), agree es)
  agree (put peer frame ∷ es) = (refl, agree es)
  agree (again word ∷ es) = (refl, agree es)
  agree (waits k ∷ es) = (refl, agree es)
  agree (called k a ∷ es) = (sym (sum_by-cons (deleted_in lines) (call_line k a) [] ∙ omega arith), agree es)

  pub lost-told : (before : List PlainEntry) (r : RunState) (es : List PlainEntry) → AllAllowed lines r es → total lost_deed (deeds_along lines before r es) ≡ count_by is_lost_line (joined es) + sum_by (deleted_in lines) (joined es)
  lost-told before r es allowed =
      omega (
        arith,
        lost_along lines before r es allowed,
        joined-count is_lost_line (record { idle = λ k. refl; again = λ w. refl; spin = λ k w. refl; turn = refl }) es,
        sum-joined (deleted_in lines) (deleted_by lines) (record { idle = λ k. refl; again = λ w. refl; spin = λ k w. refl; turn = refl }) es (agree es),
      )
