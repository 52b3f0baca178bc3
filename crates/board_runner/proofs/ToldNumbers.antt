-- What journals tell of the numbers of a lane's buffers: when the sender puts and buffers come back, and of which frames the receiver gives
-- them back.
use Rattle.std.proofs.Common.{◌≡◌, ℕ, ◌+◌, ◌<◌, Bool, true, false, cond, List, [], ◌∷◌, ◌++◌, length, map, flat_map, take, drop, slice_index, refl, sym, ap, ap₂, ◌∙◌, subst, arith, append_assoc, length-append}
use Rattle.std.specs.Prelude.{◌==◌}
use Rattle.std.specs.List.{AllByRecursion}
use Rattle.std.proofs.lemmas.List.{map-append, length-map}
use Rattle.std.proofs.lemmas.Option.{slice_get_within}
use Rattle.lane_end.specs.SendMoves.{Looked, Sent}
use Rattle.lane_end.specs.ReceiveMoves as receiving
use Rattle.lane_end.specs.ReceiveMoves.{Took, Gave}
use Rattle.lane_end.specs.Loop.{Loop, new_loop}
use Rattle.board_model.specs.declared.scenario.CallLine.{CallLine}
use Rattle.board_model.specs.declared.scenario.Scenario.{Scenario}
use Rattle.board_model.specs.Deeds.{Deed}
use Rattle.board_model.specs.Given.{places_given}
use Rattle.board_model.specs.Journal.{PlainEntry, turned, put, again, waits, called, Visit}
use Rattle.board_model.specs.JournalDeeds.{named_deeds, names_from, entry_deeds, deeds_along}
use Rattle.board_model.specs.LinkedBoard.{IsLinkedBoard}
use Rattle.board_model.specs.Run.{start, IsDomainRun}
use Rattle.board_model.specs.Scenario.{script}
use Rattle.board_model.specs.SerialRun as run
use Rattle.board_model.specs.SerialRun.{journal_left}
use Rattle.board_model.specs.State.{DomainState, frames_from}
use Rattle.board_model.specs.Step.{RunState, next_line, after}
use Rattle.board_model.specs.Traffic.{returned_by, taken_from}
use Rattle.board_model.proofs.MessageAlls.{all-append, all-weaken}
use Rattle.domain_core.specs.LaneMoves.{LaneMove, sender, receiver, sends, receives}
use Rattle.domain_core.specs.LoopMoved.{LoopMoved, loop_after}
use Rattle.domain_core.specs.VisitMoves.{putting}
use Rattle.ring_numbers.specs.BoardRings.{put_of, sent_at, sent_by, sent_to}
use Rattle.ring_numbers.specs.InTime.{ComeBackLater}
use Rattle.ring_numbers.specs.SenderNumbers.{Sending, comes_back}
use Rattle.lane_images.specs.DeedMoves.{nameless_deed}
use Rattle.lane_images.specs.GivesAt.{GivesAt}
use Rattle.lane_images.specs.Sendings.{sending_of, sendings}
use Rattle.lane_images.proofs.GivenPlaces.{places-are-given}
use Rattle.board_runner.specs.OwnRun.{unnumbered, visit_told, entry_told, moves_told, deeds_told}
use Rattle.board_runner.proofs.MovedLemmas.{DoneAt}
use Rattle.board_runner.proofs.NearEnds.{first-came, sends_visit}
use Rattle.board_runner.proofs.NumberedMoves.{visit-nameless}
use Rattle.board_runner.proofs.ToldTraffic.{goes_back, of_run, of_turn}
use Rattle.board_runner.proofs.Unnumbered.{zeros}

-- ---- puts, and buffers that come back

abbrev dealings : List LaneMove → List Sending
dealings ms = sendings (sends ms)

dealings-append : (xs ys : List LaneMove) → dealings (xs ++ ys) ≡ dealings xs ++ dealings ys
dealings-append [] ys = refl
dealings-append (sender m ∷ xs) ys = ap (λ (es : List Sending). sending_of m ∷ es) (dealings-append xs ys)
dealings-append (receiver m ∷ xs) ys = dealings-append xs ys

unnumbered-dealings : (ms : List LaneMove) → dealings ms ≡ dealings (map unnumbered ms)
unnumbered-dealings [] = refl
unnumbered-dealings (sender m ∷ ms) = ap (λ (es : List Sending). sending_of m ∷ es) (unnumbered-dealings ms)
unnumbered-dealings (receiver (receiving.Looked n) ∷ ms) = unnumbered-dealings ms
unnumbered-dealings (receiver (Took n f) ∷ ms) = unnumbered-dealings ms
unnumbered-dealings (receiver (Gave n) ∷ ms) = unnumbered-dealings ms

sent-puts : (fs : List (List ℕ)) → sendings (map Sent fs) ≡ map put_of fs
sent-puts [] = refl
sent-puts (f ∷ fs) = ap (λ (es : List Sending). put_of f ∷ es) (sent-puts fs)

putting-puts : (fs : List (List ℕ)) → dealings (putting fs) ≡ map put_of fs
putting-puts [] = refl
putting-puts (f ∷ fs) = ap (λ (es : List Sending). put_of f ∷ es) (putting-puts fs)

visit-dealings : (s : DomainState) (v : Visit) → dealings (visit_told s v) ≡ sent_at v
visit-dealings s v = ap sendings (sends_visit s v (zeros v.takes)) ∙ ap (λ (es : List Sending). comes_back v.back ∷ es) (sent-puts v.owed)

back-dealings : (names : List ℕ) → dealings (map goes_back names) ≡ []
back-dealings [] = refl
back-dealings (n ∷ names) = back-dealings names

entry-dealings : (lines : List CallLine) (r : RunState) (p : ℕ) (e : PlainEntry) → dealings (entry_told lines r p e) ≡ sent_by p e
entry-dealings lines r p (turned vs) = of_turn dealings refl dealings-append p sent_at visit-dealings r.state vs
entry-dealings lines r p (put to frame) = go (to == p)
  where
    go : (b : Bool) → dealings (putting (cond b (frame ∷ []) [])) ≡ cond b (put_of frame ∷ []) []
    go true = refl
    go false = refl
entry-dealings lines r p (again word) = refl
entry-dealings lines r p (waits k) = refl
entry-dealings lines r p (called k a) = back-dealings (frames_from p (returned_by (next_line lines r) r))

pub told-sendings : (lines : List CallLine) (r : RunState) (p : ℕ) (es : List PlainEntry) (ms : List LaneMove) → map unnumbered ms ≡ moves_told lines r p es → sendings (sends ms) ≡ sent_to p es
told-sendings lines r p es ms told = unnumbered-dealings ms ∙ ap dealings told ∙ of_run dealings refl dealings-append lines p (sent_by p) (λ r e. entry-dealings lines r p e) r es

-- ---- buffers that are given back

turn-along : (before : List PlainEntry) (vs : List Visit) → map nameless_deed (flat_map (named_deeds []) vs) ≡ map nameless_deed (flat_map (named_deeds before) vs)
turn-along before [] = refl
turn-along before (v ∷ vs) =
    map-append nameless_deed (named_deeds [] v) (flat_map (named_deeds []) vs)
    ∙ ap₂ (λ (xs ys : List Deed). xs ++ ys) (visit-nameless (names_from (length (taken_from v.peer []))) (names_from (length (taken_from v.peer before))) v) (turn-along before vs)
    ∙ sym (map-append nameless_deed (named_deeds before v) (flat_map (named_deeds before) vs))

entry-along : (lines : List CallLine) (before : List PlainEntry) (r : RunState) (e : PlainEntry) → map nameless_deed (entry_deeds lines [] r e) ≡ map nameless_deed (entry_deeds lines before r e)
entry-along lines before r (turned vs) = turn-along before vs
entry-along lines before r (put to frame) = refl
entry-along lines before r (again word) = refl
entry-along lines before r (waits k) = refl
entry-along lines before r (called k a) = refl

-- the deeds of entries, whatever stood before them
deeds-along : (lines : List CallLine) (before : List PlainEntry) (r : RunState) (es : List PlainEntry) → deeds_told lines r es ≡ map nameless_deed (deeds_along lines before r es)
deeds-along lines before r [] = refl
deeds-along lines before r (e ∷ es) =
    ap₂ (λ (xs ys : List Deed). xs ++ ys) (entry-along lines before r e) (deeds-along lines (before ++ e ∷ []) (after lines r e) es)
    ∙ sym (map-append nameless_deed (entry_deeds lines before r e) (deeds_along lines (before ++ e ∷ []) (after lines r e) es))

pub gives-at : (s : Scenario) (t : run.Station) (moves : ℕ → List LaneMove) (p : ℕ) → IsLinkedBoard s → IsDomainRun s t.line t.entries → DoneAt s moves t → GivesAt [] (places_given s (journal_left t) p) (receives (moves p))
gives-at s t moves p board runs done =
    places-are-given s (journal_left t) p done.deeds (receives (moves p)) board runs
    (record { numbered = done.numbered; noted = done.noted ∙ deeds-along (script s t.line.domain) [] (start s t.line) t.entries; moved = done.dealt p })

-- ---- a lane to oneself

take-front : (xs ys : List ℕ) → take (length xs) (xs ++ ys) ≡ xs
take-front [] ys = refl
take-front (x ∷ xs) ys = ap (λ (zs : List ℕ). x ∷ zs) (take-front xs ys)

drop-front : (xs ys : List ℕ) → drop (length xs) (xs ++ ys) ≡ ys
drop-front [] ys = refl
drop-front (x ∷ xs) ys = drop-front xs ys

-- what was given back and not shown is of frames that were put
own-later : (a b : Loop) (taken back places : List ℕ) (puts : ℕ) (ms : List LaneMove) → LoopMoved a ms b → GivesAt taken places (receives ms) → length taken + length a.frames ≡ puts → AllByRecursion (λ place. place < puts) back → length back ≡ length a.back
    → ComeBackLater (back ++ places) puts (sendings (sends ms))
own-later a b taken back places puts [] moved gives all below many = tt
own-later a b taken back places puts (sender (Looked n) ∷ ms) moved gives all below many =
    let is : length back ≡ n = many ∙ sym moved.0 in
    subst (λ (k : ℕ). AllByRecursion (λ place. place < puts) (take k (back ++ places)) × ComeBackLater (drop k (back ++ places)) puts (sendings (sends ms))) is (
      subst (AllByRecursion (λ place. place < puts)) (sym (take-front back places)) below,
      subst (λ (ps : List ℕ). ComeBackLater ps puts (sendings (sends ms))) (sym (drop-front back places)) (own-later (loop_after a (sender (Looked n))) b taken [] places puts ms moved.1 gives all tt refl),
    )
own-later a b taken back places puts (sender (Sent f) ∷ ms) moved gives all below many =
    own-later (loop_after a (sender (Sent f))) b taken back places (puts + 1) ms moved.1 gives
    (let l = length-append a.frames ((slice_index a.free 0, f) ∷ []) in omega (arith, all, l)) (all-weaken (λ place. place < puts) (λ place. place < puts + 1) (λ place l. omega (arith, l)) back below) many
own-later a b taken back places puts (receiver (receiving.Looked n) ∷ ms) moved gives all below many = own-later (loop_after a (receiver (receiving.Looked n))) b taken back places puts ms moved.1 gives all below many
own-later a b taken back places puts (receiver (Took n f) ∷ ms) moved gives all below many =
    let first = first-came n f a.frames moved.0.1 in
    let fewer : length a.frames ≡ length (drop 1 a.frames) + 1 = omega (arith, ap length first, length-map a.frames (λ (x : ℕ × List ℕ). x.1), length-map (drop 1 a.frames) (λ (x : ℕ × List ℕ). x.1)) in
    own-later (loop_after a (receiver (Took n f))) b (taken ++ n ∷ []) back places puts ms moved.1 gives (let l = length-append taken (n ∷ []) in omega (arith, all, fewer, l)) below many
own-later a b taken back [] puts (receiver (Gave n) ∷ ms) moved gives all below many = absurd gives
own-later a b taken back (place ∷ places) puts (receiver (Gave n) ∷ ms) moved gives all below many =
    let within = slice_get_within taken place n gives.0 in
    subst (λ (ps : List ℕ). ComeBackLater ps puts (sendings (sends ms))) (append_assoc back (place ∷ []) places)
    (own-later (loop_after a (receiver (Gave n))) b taken (back ++ place ∷ []) places puts ms moved.1 gives.1 all
    (all-append (λ p. p < puts) back (place ∷ []) below (omega (arith, within, all), tt)) (let l = length-append back (place ∷ []) in let k = length-append a.back (n ∷ []) in omega (arith, many, l, k)))

pub own-in-time : (size : ℕ) (b : Loop) (places : List ℕ) (ms : List LaneMove) → LoopMoved (new_loop size) ms b → GivesAt [] places (receives ms) → ComeBackLater places 0 (sendings (sends ms))
own-in-time size b places ms moved gives = own-later (new_loop size) b [] [] places 0 ms moved gives refl tt refl
