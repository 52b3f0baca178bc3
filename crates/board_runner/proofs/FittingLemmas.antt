-- The two ends of a lane fit together by what their domains' journals tell: over a finished ring, and on a lane to oneself.
use Rattle.std.specs.Prelude.{◌==◌, Some}
use Rattle.std.proofs.Common.{◌≡◌, ℕ, ◌+◌, ◌≤◌, Bool, true, false, cond, List, [], ◌∷◌, ◌++◌, length, map, flat_map, drop, sum, slice_index, sym, ap, ◌∙◌, subst, arith, append_assoc, append-nil, length-append}
use Rattle.std.proofs.lemmas.List.{map-append, length-map}
use Rattle.std.proofs.lemmas.List.Sums.{sum_by-cons}
use Rattle.shared_words.specs.declared.view.Role.{Role}
use Rattle.split_ring.specs.Finished.{FinishedRing}
use Rattle.lane_end.specs.SendMoves.{Looked, Sent}
use Rattle.lane_end.specs.ReceiveMoves as receiving
use Rattle.lane_end.specs.ReceiveMoves.{ReceiveMove, Took, Gave}
use Rattle.lane_end.specs.SendParts.{frames_sent, back_counts}
use Rattle.lane_end.specs.ReceiveParts.{frames_taken, numbers_given}
use Rattle.lane_end.specs.Loop.{Loop, new_loop}
use Rattle.lane_end.specs.LaneRun.{IsLaneRun, SeesAtMost as SeeMovesAtMost}
use Rattle.board_model.specs.declared.scenario.CallLine.{CallLine}
use Rattle.board_model.specs.Deeds.{after_deed, takes}
use Rattle.board_model.specs.Journal.{PlainEntry, turned, put, again, waits, called, Visit, Taken}
use Rattle.board_model.specs.Lists.{IsPrefix}
use Rattle.board_model.specs.Returns.{given_by_frame}
use Rattle.board_model.specs.State.{DomainState, frames_from}
use Rattle.board_model.specs.Step.{RunState, next_line, after}
use Rattle.board_model.specs.Traffic.{visits_to, puts_in, takes_in, put_to, taken_from, returned_by, given, back_looks}
use Rattle.board_model.specs.Board.{SeeAtMost, SeesAtMost}
use Rattle.board_model.specs.Turn.{after_visit}
use Rattle.domain_core.specs.LaneMoves.{LaneMove, sender, receiver, sends, receives}
use Rattle.domain_core.specs.LinkMoved.{receives-append}
use Rattle.domain_core.specs.LoopMoved.{LoopMoved, loop_after}
use Rattle.domain_core.specs.VisitMoves.{before_takes, giving, taking}
use Rattle.board_runner.specs.OwnRun.{unnumbered, visit_told, turn_told, moves_told}
use Rattle.board_runner.proofs.NearEnds.{contents, first-came, receives_putting, visit_taking}
use Rattle.board_runner.proofs.ToldTraffic.{HasTraffic, has_traffic, zeros_many, visit_receives, goes_back}
use Rattle.board_runner.proofs.Unnumbered.{zeros}

-- ---- how much the looks at frames show

unnumbered_sees : (total t : ℕ) (ms : List LaneMove) → SeeMovesAtMost total t (receives ms) → SeeMovesAtMost total t (receives (map unnumbered ms))
unnumbered_sees total t [] h = tt
unnumbered_sees total t (sender m ∷ ms) h = unnumbered_sees total t ms h
unnumbered_sees total t (receiver (receiving.Looked n) ∷ ms) h = (h.0, unnumbered_sees total t ms h.1)
unnumbered_sees total t (receiver (Took n f) ∷ ms) h = unnumbered_sees total (t + 1) ms h
unnumbered_sees total t (receiver (Gave n) ∷ ms) h = unnumbered_sees total t ms h

-- past the frames that are taken
past_giving : (total t : ℕ) (gs : List ℕ) (ms : List LaneMove) (xs : List ReceiveMove) → SeeMovesAtMost total t (receives (giving gs ++ ms) ++ xs) → SeeMovesAtMost total t (receives ms ++ xs)
past_giving total t [] ms xs h = h
past_giving total t (g ∷ gs) ms xs h = past_giving total t gs ms xs h

past_taking : (total t : ℕ) (s : DomainState) (peer : ℕ) (ns : List ℕ) (ts : List Taken) (xs : List ReceiveMove) → length ns ≡ length ts → SeeMovesAtMost total t (receives (taking s peer ns ts) ++ xs) → SeeMovesAtMost total (t + length ts) xs
past_taking total t s peer [] [] xs each h = let same : t ≡ t + 0 = omega arith in subst (λ (k : ℕ). SeeMovesAtMost total k xs) same h
past_taking total t s peer [] (u ∷ ts) xs each h = absurd (omega (arith, each))
past_taking total t s peer (n ∷ ns) [] xs each h = absurd (omega (arith, each))
past_taking total t s peer (n ∷ ns) (u ∷ ts) xs each h =
    let now = after_deed s (takes peer (Some n) u.frame u.fate) in
    let more : (t + 1) + length ts ≡ t + length (u ∷ ts) = omega arith in
    subst (λ (k : ℕ). SeeMovesAtMost total k xs) more (past_taking total (t + 1) now peer ns ts xs (omega (arith, each)) (past_giving total (t + 1) (given_by_frame s peer (Some n) u.frame u.fate) (taking now peer ns ts) xs h))

-- past a visit
past_visit : (total t : ℕ) (s : DomainState) (v : Visit) (ms : List LaneMove) (xs : List ReceiveMove) → SeeMovesAtMost total t (receives (visit_told s v ++ ms) ++ xs) → (v.see + t ≤ total) × SeeMovesAtMost total (t + length v.takes) (receives ms ++ xs)
past_visit total t s v ms xs h =
    let took = visit_taking s v (zeros v.takes) in
    let later = receives ms ++ xs in
    let split : receives (visit_told s v ++ ms) ++ xs ≡ receiving.Looked v.see ∷ (receives took ++ later) =
    ap (λ (ys : List ReceiveMove). ys ++ xs) (receives-append (visit_told s v) ms ∙ ap (λ (ys : List ReceiveMove). ys ++ receives ms) (visit_receives s v)) ∙ append_assoc (receiving.Looked v.see ∷ receives took) (receives ms) xs in
    let first = subst (SeeMovesAtMost total t) split h in
    (first.0, past_taking total t (before_takes s v) v.peer (zeros v.takes) v.takes later (zeros_many v.takes) first.1)

record PastVisits (total t : ℕ) (vs : List Visit) (xs : List ReceiveMove) : Type 0 where
  sees : SeeAtMost total t vs
  rest : SeeMovesAtMost total (t + length (flat_map (λ v. v.takes) vs)) xs

past_turn : (total t p : ℕ) (s : DomainState) (vs : List Visit) (xs : List ReceiveMove) → SeeMovesAtMost total t (receives (turn_told p s vs) ++ xs) → PastVisits total t (visits_to p vs) xs
past_turn total t p s [] xs h = let same : t ≡ t + 0 = omega arith in record { sees = tt; rest = subst (λ (k : ℕ). SeeMovesAtMost total k xs) same h }
past_turn total t p s (v ∷ vs) xs h = go (v.peer == p) h (λ k later. past_turn total k p (after_visit s v) vs xs later)
  where
    go : (b : Bool) → SeeMovesAtMost total t (receives (cond b (visit_told s v) [] ++ turn_told p (after_visit s v) vs) ++ xs)
        → ((k : ℕ) → SeeMovesAtMost total k (receives (turn_told p (after_visit s v) vs) ++ xs) → PastVisits total k (visits_to p vs) xs) → PastVisits total t (cond b (v ∷ visits_to p vs) (visits_to p vs)) xs
    go true h rest =
        let first = past_visit total t s v (turn_told p (after_visit s v) vs) xs h in
        let more = rest (t + length v.takes) first.1 in
        let takes_of = flat_map (λ (u : Visit). u.takes) (visits_to p vs) in
        let same : (t + length v.takes) + length takes_of ≡ t + length (v.takes ++ takes_of) = omega (arith, length-append v.takes takes_of) in
        record { sees = (first.0, more.sees); rest = subst (λ (k : ℕ). SeeMovesAtMost total k xs) same more.rest }
    go false h rest = rest t h

past_back : (total t : ℕ) (names : List ℕ) (xs : List ReceiveMove) → SeeMovesAtMost total t (receives (map goes_back names) ++ xs) → SeeMovesAtMost total t xs
past_back total t [] xs h = h
past_back total t (n ∷ names) xs h = past_back total t names xs h

-- of a journal
sees_told : (total t : ℕ) (lines : List CallLine) (r : RunState) (p : ℕ) (es : List PlainEntry) → SeeMovesAtMost total t (receives (moves_told lines r p es)) → SeesAtMost p total t es
sees_told total t lines r p [] h = tt
sees_told total t lines r p (turned vs ∷ es) h =
    let more = moves_told lines (after lines r (turned vs)) p es in
    let past = past_turn total t p r.state vs (receives more) (subst (SeeMovesAtMost total t) (receives-append (turn_told p r.state vs) more) h) in
    (past.sees, sees_told total (t + length (takes_in p (turned vs))) lines (after lines r (turned vs)) p es past.rest)
sees_told total t lines r p (put to frame ∷ es) h =
    sees_told total t lines (after lines r (put to frame)) p es (subst (SeeMovesAtMost total t) (receives_putting (puts_in p (put to frame)) (moves_told lines (after lines r (put to frame)) p es)) h)
sees_told total t lines r p (again word ∷ es) h = sees_told total t lines (after lines r (again word)) p es h
sees_told total t lines r p (waits k ∷ es) h = sees_told total t lines (after lines r (waits k)) p es h
sees_told total t lines r p (called k a ∷ es) h =
    let more = moves_told lines (after lines r (called k a)) p es in
    let names = frames_from p (returned_by (next_line lines r) r) in
    sees_told total t lines (after lines r (called k a)) p es (past_back total t names (receives more) (subst (SeeMovesAtMost total t) (receives-append (map goes_back names) more) h))

-- ---- a lane, by the journals of its two domains

-- what the receiver took is a front of what the sender put, no look showed more than there was, and no more came back than was given
pub record EntriesFit (lines : List CallLine) (r : RunState) (a b : ℕ) (sent got : List PlainEntry) : Type 0 where
  pub taken_first : IsPrefix (taken_from a got) (put_to b sent)
  pub sees : SeesAtMost a (length (put_to b sent)) 0 got
  pub backs : sum (back_looks b sent) ≤ given lines r a got

module _ (sender_lines receiver_lines : List CallLine) (sender_begun receiver_begun : RunState) (a b : ℕ) (sent got : List PlainEntry) (there back : List LaneMove)
    (sent_told : map unnumbered there ≡ moves_told sender_lines sender_begun b sent) (got_told : map unnumbered back ≡ moves_told receiver_lines receiver_begun a got) where
  out : HasTraffic sender_lines sender_begun b sent there
  out = has_traffic sender_lines sender_begun b sent there sent_told

  into : HasTraffic receiver_lines receiver_begun a got back
  into = has_traffic receiver_lines receiver_begun a got back got_told

  fits_by : IsPrefix (contents (frames_taken (receives back))) (frames_sent (sends there)) → SeeMovesAtMost (length (frames_sent (sends there))) 0 (receives back) → sum (back_counts (sends there)) ≤ length (numbers_given (receives back)) → EntriesFit receiver_lines receiver_begun a b sent got
  fits_by first sees backs = record {
    taken_first = subst (λ xs. IsPrefix xs (put_to b sent)) into.taken_is (subst (IsPrefix (contents (frames_taken (receives back)))) out.put_is first);
    sees =
        sees_told (length (put_to b sent)) 0 receiver_lines receiver_begun a got
        (subst (λ ms. SeeMovesAtMost (length (put_to b sent)) 0 (receives ms)) got_told
        (unnumbered_sees (length (put_to b sent)) 0 back (subst (λ (fs : List (List ℕ)). SeeMovesAtMost (length fs) 0 (receives back)) out.put_is sees)));
    backs = omega (arith, backs, ap sum out.backs_are, into.given_is);
  }

  -- over a ring
  pub ring_fits : (role : Role) (size : ℕ) (closed : FinishedRing) → IsLaneRun role size (sends there) (receives back) closed → EntriesFit receiver_lines receiver_begun a b sent got
  ring_fits role size closed run = fits_by run.taken_first run.sees run.backs

-- ---- a lane to oneself

-- frames leave it as they came, and so do buffers that are given back
record OwnMoved (a b : Loop) (ms : List LaneMove) : Type 0 where
  came : contents a.frames ++ frames_sent (sends ms) ≡ contents (frames_taken (receives ms)) ++ contents b.frames
  gone : length a.back + length (numbers_given (receives ms)) ≡ sum (back_counts (sends ms)) + length b.back
  shown : (total t : ℕ) → t + length a.frames + length (frames_sent (sends ms)) ≤ total → SeeMovesAtMost total t (receives ms)

own_moved : (a b : Loop) (ms : List LaneMove) → LoopMoved a ms b → OwnMoved a b ms
own_moved a b [] moved = record { came = append-nil (contents a.frames) ∙ ap (λ (l : Loop). contents l.frames) (sym moved); gone = omega (arith, ap (λ (l : Loop). length l.back) moved); shown = λ total t fits. tt }
own_moved a b (sender (Looked n) ∷ ms) moved =
    let rest = own_moved (loop_after a (sender (Looked n))) b ms moved.1 in
    let all = moved.0 in
    record { came = rest.came; gone = omega (arith, rest.gone, all, sum_by-cons (λ (x : ℕ). x) n (back_counts (sends ms))); shown = rest.shown }
own_moved a b (sender (Sent f) ∷ ms) moved =
    let rest = own_moved (loop_after a (sender (Sent f))) b ms moved.1 in
    let one : List (ℕ × List ℕ) = (slice_index a.free 0, f) ∷ [] in
    record {
      came =
          sym (ap (λ (xs : List (List ℕ)). xs ++ frames_sent (sends ms)) (map-append (λ (x : ℕ × List ℕ). x.1) a.frames one) ∙ append_assoc (contents a.frames) (f ∷ []) (frames_sent (sends ms)))
          ∙ rest.came;
      gone = rest.gone;
      shown = λ total t fits. rest.shown total t (omega (arith, fits, length-append a.frames one));
    }
own_moved a b (receiver (receiving.Looked n) ∷ ms) moved =
    let rest = own_moved (loop_after a (receiver (receiving.Looked n))) b ms moved.1 in
    let all = moved.0 in
    record { came = rest.came; gone = rest.gone; shown = λ total t fits. (omega (arith, fits, all), rest.shown total t fits) }
own_moved a b (receiver (Took n f) ∷ ms) moved =
    let rest = own_moved (loop_after a (receiver (Took n f))) b ms moved.1 in
    let first = first-came n f a.frames moved.0.1 in
    let many : length a.frames ≡ length (drop 1 a.frames) + 1 = omega (arith, ap length first, length-map a.frames (λ (x : ℕ × List ℕ). x.1), length-map (drop 1 a.frames) (λ (x : ℕ × List ℕ). x.1)) in
    record {
      came = ap (λ (xs : List (List ℕ)). xs ++ frames_sent (sends ms)) first ∙ ap (λ (xs : List (List ℕ)). f ∷ xs) rest.came;
      gone = rest.gone;
      shown = λ total t fits. rest.shown total (t + 1) (omega (arith, fits, many));
    }
own_moved a b (receiver (Gave n) ∷ ms) moved =
    let rest = own_moved (loop_after a (receiver (Gave n))) b ms moved.1 in
    record { came = rest.came; gone = omega (arith, rest.gone, length-append a.back (n ∷ [])); shown = rest.shown }

pub own_fits : (lines : List CallLine) (r : RunState) (d pool : ℕ) (es : List PlainEntry) (ms : List LaneMove) (l : Loop) → map unnumbered ms ≡ moves_told lines r d es → LoopMoved (new_loop pool) ms l → EntriesFit lines r d d es es
own_fits lines r d pool es ms l told moved =
    let own = own_moved (new_loop pool) l ms moved in
    fits_by lines lines r r d d es es ms ms told told (contents l.frames, own.came) (own.shown (length (frames_sent (sends ms))) 0 (omega arith)) (omega (arith, own.gone))
