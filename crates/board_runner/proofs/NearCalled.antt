-- One call at a domain's ends towards a peer: what the domain did there after it, by what it did before.
use Rattle.std.proofs.Common.{◌≡◌, ℕ, ◌+◌, ◌≤◌, Bool, true, false, cond, List, [], ◌∷◌, ◌++◌, length, map, sum, filter, refl, sym, ap, ◌∙◌, subst, inl, inr, arith, append-nil, length-append, eqb-true, eq-eqb, ne_eqb, true≢false}
use Rattle.std.specs.Prelude.{◌==◌}
use Rattle.std.proofs.lemmas.List.{length-map}
use Rattle.lane_end.specs.Halves.{IsRingSend, IsRingRecv}
use Rattle.lane_end.specs.SendMoves.{SendMove, Sent}
use Rattle.lane_end.specs.ReceiveMoves.{ReceiveMove, Gave}
use Rattle.lane_end.specs.ReceiveParts.{frames_taken, numbers_given}
use Rattle.lane_end.specs.Entries.{return_in}
use Rattle.lane_end.specs.RingSender.{RingSender, put_by, RingSends}
use Rattle.lane_end.specs.RingReceiver.{RingReceiver, RingReceives, taken_by, given_entries, given_by, with_lengths}
use Rattle.lane_end.specs.Opened.{given_length}
use Rattle.lane_end.specs.AnySender.{AnySends}
use Rattle.lane_end.specs.AnyReceiver.{AnyReceives}
use Rattle.lane_end.specs.declared.any.AnySend.{AnySend}
use Rattle.lane_end.specs.declared.any.AnyRecv.{AnyRecv}
use Rattle.lane_end.specs.declared.any.AnySend.TheVariants as send
use Rattle.lane_end.specs.declared.any.AnyRecv.TheVariants as recv
use Rattle.lane_end.specs.Loop.{Loop}
use Rattle.board_model.specs.State.{Item, frames_from}
use Rattle.board_model.proofs.WholeCalls.{frames_for}
use Rattle.domain_core.specs.declared.Ends.TheVariants.{Own, Linked}
use Rattle.domain_core.specs.LaneMoves.{receiver, sends, receives}
use Rattle.domain_core.specs.LinkMoved.{LinkMoved}
use Rattle.domain_core.specs.LoopMoved.{LoopMoved, loop_after}
use Rattle.domain_core.specs.VisitMoves.{putting}
use Rattle.domain_core.specs.AllMoved.{AllMoved, giving, frames_to, moves_at, call_moves}
use Rattle.domain_core.specs.Carrying.{AnyLink}
use Rattle.board_runner.specs.Near.{Near, SentNear, GotNear, RunEnds, sent_by, got_by, sent_near, got_near, IsLinkTo, near_to, near_among, EndsMatch}
use Rattle.board_runner.proofs.NearEnds.{contents, loads-frames, sent_puts, puts_show_none, sends_putting, receives_putting, loop-put}
use Rattle.board_runner.proofs.PeersLanes.{HasPeer}
use Rattle.board_runner.proofs.TurnEnds.{Moved}

-- frames are put and buffers given back at the ends of a link
pub record SentCalled (frames : List (List ℕ)) (old new : SentNear) : Type 0 where
  pub put : new.put ≡ old.put ++ frames
  pub back : new.back ≡ old.back
  pub grows : old.known ≤ new.known

pub record GotCalled (many : ℕ) (old new : GotNear) : Type 0 where
  pub taken : new.taken ≡ old.taken
  pub given : new.given ≡ old.given + many
  pub grows : old.known ≤ new.known

pub record LinkCalled (frames : List (List ℕ)) (many : ℕ) (old new : Near) : Type 0 where
  pub sent : SentCalled frames old.sent new.sent
  pub got : GotCalled many old.got new.got

-- on the own lane
pub record OwnCalled (frames : List (List ℕ)) (many : ℕ) (old new : Near) : Type 0 where
  pub put : new.sent.put ≡ old.sent.put ++ frames
  pub back : new.sent.back ≡ old.sent.back
  pub taken : new.got.taken ≡ old.got.taken
  pub given : new.got.given ≡ old.got.given + many

abbrev pub NearCalled : Bool → List (List ℕ) → ℕ → Near → Near → Type 0
NearCalled true frames many old new = OwnCalled frames many old new
NearCalled false frames many old new = LinkCalled frames many old new

-- ---- the ends of a link

sends_giving : (ns : List ℕ) → sends (giving ns) ≡ []
sends_giving [] = refl
sends_giving (n ∷ ns) = sends_giving ns

ring-sent : (fs : List (List ℕ)) (s s' : RingSender) → RingSends s (map Sent fs) s' → SentCalled fs (sent_by s) (sent_by s')
ring-sent fs s s' moved = record {
  put = moved.put ∙ ap (λ (gs : List (List ℕ)). put_by s ++ gs) (sent_puts fs);
  back = ap sum (moved.looks ∙ ap (λ (xs : List ℕ). s.half.looks ++ xs) (puts_show_none fs) ∙ append-nil s.half.looks);
  grows = moved.known;
}

any-sent : (fs : List (List ℕ)) (s s' : AnySend) → IsRingSend s → AnySends s (map Sent fs) s' → SentCalled fs (sent_near s) (sent_near s')
any-sent fs (send.Driver s) (send.Driver t) ring moved = ring-sent fs s t moved
any-sent fs (send.Device s) (send.Device t) ring moved = ring-sent fs s t moved
any-sent fs (send.Plain s) t ring moved = absurd ring
any-sent fs (send.Driver s) (send.Plain t) ring moved = absurd moved
any-sent fs (send.Driver s) (send.Device t) ring moved = absurd moved
any-sent fs (send.Device s) (send.Plain t) ring moved = absurd moved
any-sent fs (send.Device s) (send.Driver t) ring moved = absurd moved

gives_take_none : (ns : List ℕ) → frames_taken (receives (giving ns)) ≡ []
gives_take_none [] = refl
gives_take_none (n ∷ ns) = gives_take_none ns

gives_all : (ns : List ℕ) → numbers_given (receives (giving ns)) ≡ ns
gives_all [] = refl
gives_all (n ∷ ns) = ap (λ (ms : List ℕ). n ∷ ms) (gives_all ns)

ring-got : (ns : List ℕ) (r r' : RingReceiver) → RingReceives r (receives (giving ns)) r' → GotCalled (length ns) (got_by r) (got_by r')
ring-got ns r r' moved = record {
  taken = sym (loads-frames r'.half.taken) ∙ ap contents (moved.taken ∙ ap (λ (fs : List (ℕ × List ℕ)). taken_by r ++ fs) (gives_take_none ns) ∙ append-nil (taken_by r)) ∙ loads-frames r.half.taken;
  given = let a = ap length moved.given in let b = length-append (given_by r) (with_lengths r.role r.half.ring (numbers_given (receives (giving ns)))) in let c = length-map (given_entries r) return_in in let d = length-map (given_entries r') return_in in
      let e : length (with_lengths r.role r.half.ring (numbers_given (receives (giving ns)))) ≡ length (numbers_given (receives (giving ns))) = length-map (numbers_given (receives (giving ns))) (λ (n : ℕ). (n, given_length r.role r.half.ring)) in let f = ap length (gives_all ns) in omega (arith, a, b, c, d, e, f);
  grows = moved.known;
}

any-got : (ns : List ℕ) (r r' : AnyRecv) → IsRingRecv r → AnyReceives r (receives (giving ns)) r' → GotCalled (length ns) (got_near r) (got_near r')
any-got ns (recv.Driver a) (recv.Driver b) ring moved = ring-got ns a b moved
any-got ns (recv.Device a) (recv.Device b) ring moved = ring-got ns a b moved
any-got ns (recv.Plain a) b ring moved = absurd ring
any-got ns (recv.Driver a) (recv.Plain b) ring moved = absurd moved
any-got ns (recv.Driver a) (recv.Device b) ring moved = absurd moved
any-got ns (recv.Device a) (recv.Plain b) ring moved = absurd moved
any-got ns (recv.Device a) (recv.Driver b) ring moved = absurd moved

pub link-called : (frames : List (List ℕ)) (ns : List ℕ) (p : ℕ) (a b : AnyLink) → IsLinkTo p a → LinkMoved AnySends AnyReceives a (putting frames ++ giving ns) b → LinkCalled frames (length ns) (near_to (Linked a)) (near_to (Linked b))
link-called frames ns p a b rings moved =
    let sent = subst (λ (ms : List SendMove). AnySends a.send ms b.send) (sends_putting frames (giving ns) ∙ ap (λ (ms : List SendMove). map Sent frames ++ ms) (sends_giving ns) ∙ append-nil (map Sent frames)) moved.sent in
    let received = subst (λ (ms : List ReceiveMove). AnyReceives a.recv ms b.recv) (receives_putting frames (giving ns)) moved.received in
    record { sent = any-sent frames a.send b.send rings.sends sent; got = any-got ns a.recv b.recv rings.receives received }

-- ---- the own lane

record LoopGiven (many : ℕ) (a b : Loop) : Type 0 where
  frames : b.frames ≡ a.frames
  back : length b.back ≡ length a.back + many

loop_given : (ns : List ℕ) (a b : Loop) → LoopMoved a (giving ns) b → LoopGiven (length ns) a b
loop_given [] a b moved = record { frames = ap (λ (l : Loop). l.frames) moved; back = omega (arith, ap (λ (l : Loop). length l.back) moved) }
loop_given (n ∷ ns) a b moved =
    let rest = loop_given ns (loop_after a (receiver (Gave n))) b moved.1 in
    record { frames = rest.frames; back = omega (arith, rest.back, length-append a.back (n ∷ [])) }

own-called : (frames : List (List ℕ)) (ns : List ℕ) (a b : Loop) → LoopMoved a (putting frames ++ giving ns) b → OwnCalled frames (length ns) (near_to (Own a)) (near_to (Own b))
own-called frames ns a b moved =
    let puts = loop-put frames (giving ns) a b moved in
    let gives = loop_given ns puts.mid b puts.rest in
    record {
      put = ap contents gives.frames ∙ puts.put;
      back = refl;
      taken = refl;
      given = omega (arith, gives.back, ap length puts.back);
    }

-- ---- at the ends towards each peer

abbrev CalledAt : ℕ → List (ℕ × List ℕ) → List Item → ℕ → Near → Near → Type 0
CalledAt n puts items p old new = NearCalled (p == n) (frames_to p puts) (length (frames_from p items)) old new

one_called : (n : ℕ) (puts : List (ℕ × List ℕ)) (items : List Item) (p : ℕ) (ps : List ℕ) (e e' : RunEnds) (es : List RunEnds) → EndsMatch n (p ∷ ps) (e ∷ es) → Moved e (moves_at puts items p) e' → CalledAt n puts items p (near_to e) (near_to e')
one_called n puts items p ps (Own a) (Own b) es matched moved =
    subst (λ (o : Bool). NearCalled o (frames_to p puts) (length (frames_from p items)) (near_to (Own a)) (near_to (Own b))) (sym (eq-eqb p n matched.0)) (own-called (frames_to p puts) (frames_from p items) a b moved)
one_called n puts items p ps (Linked a) (Linked b) es matched moved =
    subst (λ (o : Bool). NearCalled o (frames_to p puts) (length (frames_from p items)) (near_to (Linked a)) (near_to (Linked b))) (sym (ne_eqb p n matched.0)) (link-called (frames_to p puts) (frames_from p items) p a b matched.1 moved)
one_called n puts items p ps (Own a) (Linked b) es matched moved = absurd moved
one_called n puts items p ps (Linked a) (Own b) es matched moved = absurd moved

pub match_rest : (n p : ℕ) (ps : List ℕ) (e : RunEnds) (es : List RunEnds) → EndsMatch n (p ∷ ps) (e ∷ es) → EndsMatch n ps es
match_rest n p ps (Own l) es matched = matched.1
match_rest n p ps (Linked l) es matched = matched.2

among-called : (n : ℕ) (puts : List (ℕ × List ℕ)) (items : List Item) (ps : List ℕ) (es es' : List RunEnds) → EndsMatch n ps es → AllMoved Moved es (call_moves puts items ps) es' → (q : ℕ) → HasPeer ps q → CalledAt n puts items q (near_among ps es q) (near_among ps es' q)
among-called n puts items [] es es' matched moved q has = absurd has
among-called n puts items (p ∷ ps) [] es' matched moved q has = absurd matched
among-called n puts items (p ∷ ps) (e ∷ es) [] matched moved q has = absurd moved
among-called n puts items (p ∷ ps) (e ∷ es) (e' ∷ es') matched moved q has =
    go (p == q) refl has (λ later. among-called n puts items ps es es' (match_rest n p ps e es matched) moved.1 q later)
  where
    go : (b : Bool) → (p == q) ≡ b → HasPeer (p ∷ ps) q → (HasPeer ps q → CalledAt n puts items q (near_among ps es q) (near_among ps es' q))
        → CalledAt n puts items q (cond b (near_to e) (near_among ps es q)) (cond b (near_to e') (near_among ps es' q))
    go true is here later = subst (λ (x : ℕ). CalledAt n puts items x (near_to e) (near_to e')) (eqb-true p q is) (one_called n puts items p ps e e' es matched moved.0)
    go false is (inl here) later = absurd (true≢false (sym (eq-eqb p q here) ∙ is))
    go false is (inr there) later = later there

-- ---- at a peer that the domain has

frames_same : (q : ℕ) (puts : List (ℕ × List ℕ)) → frames_to q puts ≡ frames_for q puts
frames_same q [] = refl
frames_same q (p ∷ ps) = go (p.0 == q) (frames_same q ps)
  where
    go : (b : Bool) → frames_to q ps ≡ frames_for q ps → map (λ (x : ℕ × List ℕ). x.1) (cond b (p ∷ filter (λ (x : ℕ × List ℕ). x.0 == q) ps) (filter (λ (x : ℕ × List ℕ). x.0 == q) ps)) ≡ cond b (p.1 ∷ frames_for q ps) (frames_for q ps)
    go true rest = ap (λ (fs : List (List ℕ)). p.1 ∷ fs) rest
    go false rest = rest

-- by the frames that the board's loads count
pub peer-called : (n : ℕ) (puts : List (ℕ × List ℕ)) (items : List Item) (ps : List ℕ) (es es' : List RunEnds) → EndsMatch n ps es → AllMoved Moved es (call_moves puts items ps) es'
    → (q : ℕ) → HasPeer ps q → NearCalled (q == n) (frames_for q puts) (length (frames_from q items)) (near_among ps es q) (near_among ps es' q)
peer-called n puts items ps es es' matched moved q has =
    subst (λ (fs : List (List ℕ)). NearCalled (q == n) fs (length (frames_from q items)) (near_among ps es q) (near_among ps es' q)) (frames_same q puts) (among-called n puts items ps es es' matched moved q has)
