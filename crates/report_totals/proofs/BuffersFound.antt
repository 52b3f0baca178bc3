-- In a run of a domain each frame that is put finds a free buffer of its lane.
use Rattle.std.proofs.Common.{◌≡◌, ℕ, ◌+◌, ◌-◌, ◌<◌, ◌≤◌, Bool, true, false, cond, List, [], ◌∷◌, ◌++◌, length, map, take, Option, Some, None, is_some, option_map, count_by, refl, sym, ap, subst, ◌∙◌, inl, inr, arith, append_assoc, length-append, length-drop, length-take, eq-eqb, eqb-true}
use Rattle.std.specs.Prelude.{◌==◌, unwrap_or}
use Rattle.std.specs.List.{flat_map}
use Rattle.std.proofs.lemmas.Bool.Decides.{eqb_tells}
use Rattle.std.proofs.lemmas.List.{length-map}
use Rattle.board_model.specs.declared.scenario.CallLine.{CallLine}
use Rattle.board_model.specs.Journal.{Visit, PlainEntry, turned, put, again, waits, called}
use Rattle.board_model.specs.State.{DomainState, Peer, peer_at, peer_of, free_to}
use Rattle.board_model.specs.Turn.{after_visit, after_turn, IsVisit, AreVisits}
use Rattle.board_model.specs.Step.{RunState, HasNoPuts, Allowed, after, call_at, effect_of_line, limit_of, MayCome}
use Rattle.board_model.specs.Run.{Leads}
use Rattle.board_model.specs.Traffic.{visits_to}
use Rattle.board_model.proofs.ListsCounts.{count-append, count-cons, one_if}
use Rattle.board_model.proofs.LanePeers.{peer_found, free-at}
use Rattle.board_model.proofs.LaneRuns.{waiting, waiting_none, visit_free, visit_other, due_within}
use Rattle.board_model.proofs.LaneSends.{goes_to, call_frees}
use Rattle.board_model.proofs.VisitLooks.{looked, looked-free}
use Rattle.board_model.proofs.WaitCalls.{wait-puts}
use Rattle.ring_numbers.specs.SenderNumbers.{Numbers, Sending, comes_back, puts as puts_bytes, number_at, after_sending}
use Rattle.ring_numbers.specs.BoardRings.{put_of, sent_at, sent_by, sent_to}
use Rattle.report_totals.specs.SenderLanes.{FindBuffers}
use Rattle.report_totals.proofs.SendingsTold.{busy}

-- with so many free buffers at first, each frame finds one
abbrev pub HaveRoom : ℕ → List Sending → Type 0
HaveRoom free [] = Unit {0}
HaveRoom free (puts_bytes bytes ∷ es) = (0 < free) × HaveRoom (free - 1) es
HaveRoom free (comes_back count ∷ es) = HaveRoom (free + count) es

room-same : (m n : ℕ) (es : List Sending) → m ≡ n → HaveRoom m es → HaveRoom n es
room-same m n es is room = subst (λ k. HaveRoom k es) is room

pub busy-room : (free : ℕ) (es : List Sending) → HaveRoom free es → HaveRoom free (busy es)
busy-room free [] room = tt
busy-room free (puts_bytes bytes ∷ es) room = (room.0, busy-room (free - 1) es room.1)
busy-room free (comes_back count ∷ es) room = go (count == 0) refl (λ k. busy-room k es)
  where
    go : (b : Bool) → (count == 0) ≡ b → ((k : ℕ) → HaveRoom k es → HaveRoom k (busy es)) → HaveRoom free (cond b [] (comes_back count ∷ []) ++ busy es)
    go true is rest = rest free (room-same (free + count) free es (omega (arith, eqb-true count 0 is)) room)
    go false is rest = rest (free + count) room

-- ---- a visit

abbrev free_of : Option Peer → ℕ
free_of o = unwrap_or (option_map (λ p. p.free) o) 0

record VisitFree (n : ℕ) (s : DomainState) (v : Visit) : Type 0 where
  room : length v.owed ≤ free_to s n + v.back
  left : free_to (after_visit s v) n ≡ free_to s n + v.back - length v.owed

visit-own : (n : ℕ) (s : DomainState) (v : Visit) → v.peer ≡ n → IsVisit s v → VisitFree n s v
visit-own n s v same h =
    let known : peer_at s n ≡ Some h.at = sym (peer_found s n) ∙ (ap (peer_of s) (sym same) ∙ h.known) in
    let free : free_to s n ≡ h.at.free = free-at s n ∙ ap free_of known in
    record {
      room = omega (arith, due_within s v h, free);
      left = visit_free n s v true (eq-eqb v.peer n same) ∙ ap (λ o. free_of (option_map (looked v) o)) known ∙ looked-free v h.at ∙ ap (λ k. k + v.back - length v.owed) (sym free);
    }

-- ---- a turn

puts-room : (fs : List (List ℕ)) (free : ℕ) (rest : List Sending) → length fs ≤ free → HaveRoom (free - length fs) rest → HaveRoom free (map put_of fs ++ rest)
puts-room [] free rest fits room = room-same (free - 0) free rest (omega arith) room
puts-room (f ∷ fs) free rest fits room = (omega (arith, fits), puts-room fs (free - 1) rest (omega (arith, fits)) (room-same (free - length (f ∷ fs)) (free - 1 - length fs) rest (omega arith) room))

module _ (n : ℕ) (rest : List Sending) where
  turn-room : (s : DomainState) (vs : List Visit) → AreVisits s vs → HaveRoom (free_to (after_turn s vs) n) rest → HaveRoom (free_to s n) (flat_map sent_at (visits_to n vs) ++ rest)
  turn-room s [] are room = room
  turn-room s (v ∷ vs) are room = elim (eqb_tells v.peer n) [
    | inl same ↦
        let one = visit-own n s v same.1 are.0 in
        let later : List Sending = flat_map sent_at (visits_to n vs) ++ rest in
        subst (λ (us : List Visit). HaveRoom (free_to s n) (flat_map sent_at us ++ rest)) (sym (ap (λ b. cond b (v ∷ visits_to n vs) (visits_to n vs)) same.0))
        (subst (HaveRoom (free_to s n + v.back)) (sym (append_assoc (map put_of v.owed) (flat_map sent_at (visits_to n vs)) rest))
        (puts-room v.owed (free_to s n + v.back) later one.room (room-same (free_to (after_visit s v) n) (free_to s n + v.back - length v.owed) later one.left (turn-room (after_visit s v) vs are.1 room))))
    | inr other ↦
        subst (λ (us : List Visit). HaveRoom (free_to s n) (flat_map sent_at us ++ rest)) (sym (ap (λ b. cond b (v ∷ visits_to n vs) (visits_to n vs)) other.0))
        (room-same (free_to (after_visit s v) n) (free_to s n) (flat_map sent_at (visits_to n vs) ++ rest) (visit_other n s v other.1) (turn-room (after_visit s v) vs are.1 room))
  ]

-- ---- a run

waiting-more : (n : ℕ) (o : Option (List (ℕ × List ℕ))) (to : ℕ) (frame : List ℕ) → is_some o ≡ true → waiting n (option_map (λ ps. ps ++ (to, frame) ∷ []) o) ≡ waiting n o + one_if (to == n)
waiting-more n None to frame h = absurd cc
waiting-more n (Some ps) to frame h = omega (arith, count-append (goes_to n) ps ((to, frame) ∷ []), count-cons (goes_to n) (to, frame) [])

module _ (script : List CallLine) (n : ℕ) (new : RunState) (settled : HasNoPuts new.put_since_turn) where
  called-waits : (r : RunState) (line : CallLine) (limit : Option ℕ) → MayCome limit r line → waiting n r.put_since_turn ≤ free_to r.state n
  called-waits r line None come = omega (arith, ap (waiting n) come, call_frees r.state n line.node (call_at r line))
  called-waits r line (Some limit) come = omega (arith, waiting_none n r.put_since_turn come.0)

  -- the frames that no call has answered for yet have buffers
  waits-within : (r : RunState) (es : List PlainEntry) → Leads script r es new → waiting n r.put_since_turn ≤ free_to r.state n
  waits-within r [] leads = omega (arith, waiting_none n r.put_since_turn (subst (λ (x : RunState). HasNoPuts x.put_since_turn) leads settled))
  waits-within r (turned vs ∷ es) leads = omega (arith, waiting_none n r.put_since_turn leads.1.allowed.0)
  waits-within r (put to frame ∷ es) leads =
      let next : Leads script (after script r (put to frame)) es new = subst (λ x. Leads script x es new) leads.1.leads leads.2 in
      omega (arith, waits-within (after script r (put to frame)) es next, waiting-more n r.put_since_turn to frame leads.1.allowed)
  waits-within r (again word ∷ es) leads = omega (arith, ap (waiting n) leads.1.allowed.3)
  waits-within r (waits k ∷ es) leads = omega (arith, waiting_none n r.put_since_turn leads.1.allowed.5)
  waits-within r (called k a ∷ es) leads = called-waits r leads.1.allowed.0 (limit_of leads.1.allowed.0.call) leads.1.allowed.4

  called-frees : (r : RunState) (line : CallLine) (limit : Option ℕ) → MayCome limit r line → limit_of line.call ≡ limit → free_to r.state n - waiting n r.put_since_turn ≡ free_to (effect_of_line (Some line) r) n
  called-frees r line None come is = omega (arith, ap (waiting n) come, call_frees r.state n line.node (call_at r line))
  called-frees r line (Some limit) come is = omega (arith, waiting_none n r.put_since_turn come.0, call_frees r.state n line.node (call_at r line), ap (count_by (goes_to n)) (wait-puts r line limit is))

  pub run-room : (r : RunState) (es : List PlainEntry) → Leads script r es new → HaveRoom (free_to r.state n - waiting n r.put_since_turn) (sent_to n es)
  run-room r [] leads = tt
  run-room r (e ∷ es) leads =
      let next : Leads script (after script r e) es new = subst (λ x. Leads script x es new) leads.1.leads leads.2 in
      go e leads.1.allowed next (run-room (after script r e) es next)
    where
      go : (e : PlainEntry) → Allowed script r e → Leads script (after script r e) es new → HaveRoom (free_to (after script r e).state n - waiting n (after script r e).put_since_turn) (sent_to n es) → HaveRoom (free_to r.state n - waiting n r.put_since_turn) (sent_by n e ++ sent_to n es)
      go (turned vs) allowed next room =
          room-same (free_to r.state n) (free_to r.state n - waiting n r.put_since_turn) (sent_by n (turned vs) ++ sent_to n es) (omega (arith, waiting_none n r.put_since_turn allowed.0))
          (turn-room n (sent_to n es) r.state vs allowed.1.allowed (room-same (free_to (after_turn r.state vs) n - 0) (free_to (after_turn r.state vs) n) (sent_to n es) (omega arith) room))
      go (put to frame) allowed next room = by (to == n) refl
        where
          more : waiting n (after script r (put to frame)).put_since_turn ≡ waiting n r.put_since_turn + one_if (to == n)
          more = waiting-more n r.put_since_turn to frame allowed

          by : (b : Bool) → (to == n) ≡ b → HaveRoom (free_to r.state n - waiting n r.put_since_turn) (cond b (put_of frame ∷ []) [] ++ sent_to n es)
          by true is =
              let one : waiting n (after script r (put to frame)).put_since_turn ≡ waiting n r.put_since_turn + 1 = more ∙ ap (λ b. waiting n r.put_since_turn + one_if b) is in (
                omega (arith, one, waits-within (after script r (put to frame)) es next),
                room-same (free_to r.state n - waiting n (after script r (put to frame)).put_since_turn) (free_to r.state n - waiting n r.put_since_turn - 1) (sent_to n es) (omega (arith, one)) room,
              )
          by false is =
              let none : waiting n (after script r (put to frame)).put_since_turn ≡ waiting n r.put_since_turn + 0 = more ∙ ap (λ b. waiting n r.put_since_turn + one_if b) is in
              room-same (free_to r.state n - waiting n (after script r (put to frame)).put_since_turn) (free_to r.state n - waiting n r.put_since_turn) (sent_to n es) (omega (arith, none)) room
      go (again word) allowed next room = room-same (free_to r.state n - 0) (free_to r.state n - waiting n r.put_since_turn) (sent_to n es) (omega (arith, ap (waiting n) allowed.3)) room
      go (waits k) allowed next room = room
      go (called k a) allowed next room =
          room-same (free_to (after script r (called k a)).state n - 0) (free_to r.state n - waiting n r.put_since_turn) (sent_to n es)
          (omega (arith, ap (λ o. free_to (effect_of_line o r) n) allowed.1, called-frees r allowed.0 (limit_of allowed.0.call) allowed.4 refl))
          room

-- ---- the numbers of buffers

abbrev pub backs_of : List Sending → ℕ
backs_of [] = 0
backs_of (puts_bytes bytes ∷ es) = backs_of es
backs_of (comes_back count ∷ es) = count + backs_of es

-- where no more buffers come back than are given back, there are as many free numbers as free buffers
pub room-finds : (n : Numbers) (free : ℕ) (es : List Sending) → length n.free ≡ free → backs_of es ≤ length n.given → HaveRoom free es → FindBuffers n es
room-finds n free [] is backs room = tt
room-finds n free (puts_bytes bytes ∷ es) is backs room =
    (omega (arith, is, room.0), room-finds (after_sending n (puts_bytes bytes)) (free - 1) es (length-drop 1 n.free ∙ ap (λ k. k - 1) is) backs room.1)
room-finds n free (comes_back count ∷ es) is backs room =
    room-finds (after_sending n (comes_back count)) (free + count) es
    (omega (arith, length-append n.free (map (number_at n.used) (take count n.given)), length-map (take count n.given) (number_at n.used), length-take count n.given, is, backs))
    (omega (arith, length-drop count n.given, backs))
    room
