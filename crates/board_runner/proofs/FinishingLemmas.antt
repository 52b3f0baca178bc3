-- The rings of links, finished one link after the other.
use Rattle.std.proofs.Common.{◌≡◌, ℕ, zero, suc, ◌+◌, List, [], ◌∷◌, ◌++◌, drop, slice_get, Option, Some, refl, sym, ap, ◌∙◌, subst, inl, inr, arith, append_assoc, append-nil}
use Rattle.std.specs.List.{All, AllByRecursion}
use Rattle.shared_words.specs.Entry.{Entry}
use Rattle.shared_words.specs.Shown.{TableShown, size_of}
use Rattle.split_ring.specs.Ends.{End}
use Rattle.split_ring.specs.Finished.{FinishedRing}
use Rattle.shared_words.specs.declared.view.Role.TheVariants.{Driver, Device}
use Rattle.lane_end.specs.AnyReceiver.{AnyReceives}
use Rattle.lane_end.specs.AnySender.{AnySends}
use Rattle.lane_end.specs.Halves.{AreFinished, SendLeaves, RecvLeaves}
use Rattle.lane_end.specs.LaneRun.{HaveRun, AreLaneRuns, opened_send, opened_recv}
use Rattle.lane_end.specs.ReceiveMoves.{ReceiveMove}
use Rattle.lane_end.specs.ReturnedLengths.{Queue1ReturnsAreEmpty}
use Rattle.lane_end.specs.SendMoves.{SendMove}
use Rattle.lane_end.specs.declared.any.AnyRecv.{AnyRecv}
use Rattle.lane_end.specs.declared.any.AnyRecv.TheVariants as recv
use Rattle.lane_end.specs.declared.any.AnySend.{AnySend}
use Rattle.lane_end.specs.declared.any.AnySend.TheVariants as send
use Rattle.lane_end.specs.declared.finishing.SendHalf.{SendHalf}
use Rattle.lane_end.specs.declared.finishing.RecvHalf.{RecvHalf}
use Rattle.lane_end.specs.declared.finishing.SendHalf.TheVariants as sent
use Rattle.lane_end.specs.declared.finishing.RecvHalf.TheVariants as received
use Rattle.board_model.specs.declared.scenario.LinkLine.{LinkLine}
use Rattle.board_model.specs.LinkedBoard.{IsSamePair, PairsDiffer}
use Rattle.domain_core.specs.LaneMoves.{sends, receives}
use Rattle.board_runner.specs.declared.ended.EndedLink.{EndedLink}
use Rattle.board_runner.specs.declared.rings.LinkRings.{LinkRings}
use Rattle.board_runner.specs.Ended.{ended_at}
use Rattle.board_runner.specs.Finishing.{BoardMoves, LinkHasRun, LinkIsRun, IsOfLink, LinksHaveRun, LinksAreRun}
use Rattle.board_runner.specs.ThreadRun.{WasFinished}

-- ---- a finished ring is of its queue and size

pub finished-is : (ring : TableShown) (send : SendHalf) (recv : RecvHalf) (closed : FinishedRing) → AreFinished ring send recv closed → (closed.queue ≡ ring.queue) × (closed.size ≡ size_of ring.ring) × (closed.width ≡ ring.ring.width)
finished-is ring (sent.Driver h) (received.Device g) closed finished = (finished.queue, finished.size, finished.width)
finished-is ring (sent.Device h) (received.Driver g) closed finished = (finished.queue, finished.size, finished.width)
finished-is ring (sent.Driver h) (received.Driver g) closed finished = absurd finished
finished-is ring (sent.Device h) (received.Device g) closed finished = absurd finished

-- ---- its halves finished it

-- in queue 0, whatever was returned
zero-finished : (ring : TableShown) (send : SendHalf) (recv : RecvHalf) (closed : FinishedRing) → AreFinished ring send recv closed → closed.queue ≡ 0 → WasFinished closed
zero-finished ring (sent.Driver h) (received.Device g) closed finished is = record { ring = ring; driver = h; device = g; finished = finished; empty = λ one. absurd (omega (arith, is, one)) }
zero-finished ring (sent.Device h) (received.Driver g) closed finished is = record { ring = ring; driver = g; device = h; finished = finished; empty = λ one. absurd (omega (arith, is, one)) }
zero-finished ring (sent.Driver h) (received.Driver g) closed finished is = absurd finished
zero-finished ring (sent.Device h) (received.Device g) closed finished is = absurd finished

-- a receiver over queue 1 returned each buffer with a length of 0
returned-empty : Queue1ReturnsAreEmpty → (ring : TableShown) (moves : List ReceiveMove) (end : AnyRecv) (half : End) → AnyReceives (opened_recv Driver ring.ring) moves end → RecvLeaves end (received.Device half) → All (λ (e : Entry). e.1 ≡ 0) half.written
returned-empty law ring moves (recv.Device r) half moved leaves = subst (λ (x : End). All (λ (e : Entry). e.1 ≡ 0) x.written) (sym leaves.half_is) (law ring.ring moves r moved)
returned-empty law ring moves (recv.Driver r) half moved leaves = absurd moved
returned-empty law ring moves (recv.Plain r) half moved leaves = absurd moved

-- a driver that sends leaves no device's half
no-device : (ring : TableShown) (moves : List SendMove) (end : AnySend) (half : End) → AnySends (opened_send Driver ring.ring) moves end → SendLeaves end (sent.Device half) → ⊥
no-device ring moves (send.Driver s) half moved leaves = leaves
no-device ring moves (send.Device s) half moved leaves = moved
no-device ring moves (send.Plain s) half moved leaves = moved

one-finished : Queue1ReturnsAreEmpty → (ring : TableShown) (sends : List SendMove) (receives : List ReceiveMove) (send : SendHalf) (recv : RecvHalf) (closed : FinishedRing) → HaveRun Driver ring sends receives send recv → AreFinished ring send recv closed → WasFinished closed
one-finished law ring sends receives (sent.Driver h) (received.Device g) closed run finished =
    record { ring = ring; driver = h; device = g; finished = finished; empty = λ one. returned-empty law ring receives run.received.end g run.received.moved run.received.leaves }
one-finished law ring sends receives (sent.Device h) (received.Driver g) closed run finished = absurd (no-device ring sends run.sent.end h run.sent.moved run.sent.leaves)
one-finished law ring sends receives (sent.Driver h) (received.Driver g) closed run finished = absurd finished
one-finished law ring sends receives (sent.Device h) (received.Device g) closed run finished = absurd finished

-- ---- the ends of other links stay

-- those of another pair of domains
not-of : (l m : LinkLine) → (IsSamePair l m → ⊥) → (IsOfLink l m.driver m.device → ⊥) × (IsOfLink l m.device m.driver → ⊥)
not-of l m apart = (
  λ of. elim of [ inl h ↦ apart (inl (h.0, h.1)) | inr h ↦ apart (inr (h.1, h.0)) ],
  λ of. elim of [ inl h ↦ apart (inr (h.0, h.1)) | inr h ↦ apart (inl (h.1, h.0)) ],
)

others-stay : (moves : BoardMoves) (l : LinkLine) (ls : List LinkLine) (rings : List LinkRings) (old new : List EndedLink) → AllByRecursion (λ m. IsSamePair l m → ⊥) ls → ((a b : ℕ) → (IsOfLink l a b → ⊥) → ended_at new a b ≡ ended_at old a b) → LinksHaveRun moves ls rings old → LinksHaveRun moves ls rings new
others-stay moves l [] [] old new apart same ran = tt
others-stay moves l [] (on ∷ rings) old new apart same ran = absurd ran
others-stay moves l (m ∷ ls) [] old new apart same ran = absurd ran
others-stay moves l (m ∷ ls) (on ∷ rings) old new apart same ran =
    let other = not-of l m apart.0 in
    let first = ran.0 in (
      record {
        there = first.there;
        back = first.back;
        there_at = same m.driver m.device other.0 ∙ first.there_at;
        back_at = same m.device m.driver other.1 ∙ first.back_at;
        zero = first.zero;
        one = first.one;
      },
      others-stay moves l ls rings old new apart.1 same ran.1,
    )

-- ---- link after link

-- whatever moves led here: what is left of the links from this place on led to it too, and whatever finishes them finishes all
pub record GoesOn (moves : BoardMoves) (ls : List LinkLine) (rings : List LinkRings) (i : ℕ) (rest : List LinkRings) (ended : List EndedLink) (closed : List FinishedRing) : Type 0 where
  pub left : LinksHaveRun moves (drop i ls) rest ended
  pub so_far : (more : List FinishedRing) → LinksAreRun moves (drop i ls) rest more → LinksAreRun moves ls rings (closed ++ more)

pub goes-begin : (moves : BoardMoves) (ls : List LinkLine) (rings rest : List LinkRings) (ended : List EndedLink) (closed : List FinishedRing) → rest ≡ rings → closed ≡ [] → LinksHaveRun moves ls rings ended → GoesOn moves ls rings 0 rest ended closed
goes-begin moves ls rings rest ended closed all none ran = record {
  left = subst (λ (rs : List LinkRings). LinksHaveRun moves ls rs ended) (sym all) ran;
  so_far = λ more are.
      subst (λ (cs : List FinishedRing). LinksAreRun moves ls rings (cs ++ more)) (sym none)
      (subst (λ (rs : List LinkRings). LinksAreRun moves ls rs more) all are);
}

-- the next link
pub record NextLink (moves : BoardMoves) (ls : List LinkLine) (i : ℕ) (on : LinkRings) (rest : List LinkRings) (ended : List EndedLink) : Type 0 where
  pub line : LinkLine
  pub at : slice_get ls i ≡ Some line
  pub is : drop i ls ≡ line ∷ drop (i + 1) ls
  pub ran : LinkHasRun moves line on ended
  pub others : LinksHaveRun moves (drop (i + 1) ls) rest ended

drop_next : (ls : List LinkLine) (i : ℕ) (l : LinkLine) (ms : List LinkLine) → drop i ls ≡ l ∷ ms → (slice_get ls i ≡ Some l) × (drop (i + 1) ls ≡ ms)
drop_next [] zero l ms is = absurd cc
drop_next [] (suc i) l ms is = absurd cc
drop_next (k ∷ ls) zero l ms is = let first : k ≡ l = cc in let later : ls ≡ ms = cc in (ap Some first, later)
drop_next (k ∷ ls) (suc i) l ms is =
    let h = drop_next ls i l ms is in
    let next : suc i + 1 ≡ suc (i + 1) = omega arith in
    (h.0, ap (λ (n : ℕ). drop n (k ∷ ls)) next ∙ h.1)

pub next-link : (moves : BoardMoves) (ls : List LinkLine) (i : ℕ) (on : LinkRings) (rest : List LinkRings) (ended : List EndedLink) → LinksHaveRun moves (drop i ls) (on ∷ rest) ended → NextLink moves ls i on rest ended
next-link moves ls i on rest ended ran = go (drop i ls) refl ran
  where
    go : (ms : List LinkLine) → drop i ls ≡ ms → LinksHaveRun moves ms (on ∷ rest) ended → NextLink moves ls i on rest ended
    go [] is ran = absurd ran
    go (l ∷ ms) is ran =
        let h = drop_next ls i l ms is in
        record { line = l; at = h.0; is = is ∙ ap (λ (ks : List LinkLine). l ∷ ks) (sym h.1); ran = ran.0; others = subst (λ (ks : List LinkLine). LinksHaveRun moves ks rest ended) (sym h.1) ran.1 }

-- what holds of all links holds of the next
pub all-at-next : (P : LinkLine → Type 0) (ls : List LinkLine) (i : ℕ) (l : LinkLine) → slice_get ls i ≡ Some l → AllByRecursion P ls → P l
all-at-next P [] i l at all = absurd cc
all-at-next P (k ∷ ls) zero l at all = let same : k ≡ l = cc in subst P same all.0
all-at-next P (k ∷ ls) (suc i) l at all = all-at-next P ls i l at all.1

pairs-next : (ls : List LinkLine) (i : ℕ) (l : LinkLine) → slice_get ls i ≡ Some l → PairsDiffer ls → AllByRecursion (λ m. IsSamePair l m → ⊥) (drop (i + 1) ls)
pairs-next [] i l at differ = absurd cc
pairs-next (k ∷ ls) zero l at differ = let same : k ≡ l = cc in subst (λ (x : LinkLine). AllByRecursion (λ m. IsSamePair x m → ⊥) ls) same differ.0
pairs-next (k ∷ ls) (suc i) l at differ =
    let next : suc (i + 1) ≡ suc i + 1 = omega arith in
    subst (λ (n : ℕ). AllByRecursion (λ m. IsSamePair l m → ⊥) (drop n (k ∷ ls))) next (pairs-next ls i l at differ.1)

pub goes-on : (moves : BoardMoves) (ls : List LinkLine) (rings : List LinkRings) (i : ℕ) (on : LinkRings) (rest : List LinkRings) (line : LinkLine) (ended new : List EndedLink) (closed mid more : List FinishedRing) (first last : FinishedRing) → PairsDiffer ls → GoesOn moves ls rings i (on ∷ rest) ended closed →
    slice_get ls i ≡ Some line → (LinkHasRun moves line on ended → LinkIsRun moves line on first last) → ((a b : ℕ) → (IsOfLink line a b → ⊥) → ended_at new a b ≡ ended_at ended a b) → mid ≡ closed ++ first ∷ [] → more ≡ mid ++ last ∷ [] → GoesOn moves ls rings (i + 1) rest new more
goes-on moves ls rings i on rest line ended new closed mid more first last differ h at finishes others added also =
    let n = next-link moves ls i on rest ended h.left in
    let same : n.line ≡ line = some_is (sym n.at ∙ at) in
    let run : LinkIsRun moves n.line on first last = subst (λ (l : LinkLine). LinkIsRun moves l on first last) (sym same) (finishes (subst (λ (l : LinkLine). LinkHasRun moves l on ended) same n.ran)) in
    record {
      left = others-stay moves line (drop (i + 1) ls) rest ended new (pairs-next ls i line at differ) others n.others;
      so_far = λ later are.
          subst (LinksAreRun moves ls rings) (longer later)
          (h.so_far (first ∷ (last ∷ later)) (subst (λ (ms : List LinkLine). LinksAreRun moves ms (on ∷ rest) (first ∷ (last ∷ later))) (sym n.is) (run, are)));
    }
  where
    some_is : {x y : LinkLine} → Some x ≡ Some y → x ≡ y
    some_is e = cc

    longer : (later : List FinishedRing) → closed ++ first ∷ (last ∷ later) ≡ more ++ later
    longer later = sym (append_assoc closed (first ∷ []) (last ∷ later)) ∙ sym (append_assoc (closed ++ first ∷ []) (last ∷ []) later) ∙ ap (λ (cs : List FinishedRing). (cs ++ last ∷ []) ++ later) (sym added) ∙ ap (λ (cs : List FinishedRing). cs ++ later) (sym also)

-- after the last link
pub all-finished : (moves : BoardMoves) (ls : List LinkLine) (rings : List LinkRings) (i : ℕ) (rest : List LinkRings) (ended : List EndedLink) (closed : List FinishedRing) → rest ≡ [] → GoesOn moves ls rings i rest ended closed → LinksAreRun moves ls rings closed
all-finished moves ls rings i rest ended closed none h = subst (LinksAreRun moves ls rings) (append-nil closed) (h.so_far [] (go (drop i ls) rest none h.left))
  where
    go : (ms : List LinkLine) (rs : List LinkRings) → rs ≡ [] → LinksHaveRun moves ms rs ended → LinksAreRun moves ms rs []
    go [] [] e ran = tt
    go ms (r ∷ rs) e ran = absurd cc
    go (m ∷ ms) [] e ran = absurd ran

-- ---- one link

-- what is left of the two ends of a link that is taken out, first its driver's and then its device's
pub record TakenOut (l : LinkLine) (old mid new : List EndedLink) (there back : EndedLink) : Type 0 where
  pub there_is : ended_at old l.driver l.device ≡ Some there
  pub back_is : ended_at old l.device l.driver ≡ Some back
  pub others : (a b : ℕ) → (IsOfLink l a b → ⊥) → ended_at new a b ≡ ended_at old a b

abbrev pub TakesFrom : List EndedLink → List EndedLink → ℕ → ℕ → Type 0
TakesFrom old new c d = (a b : ℕ) → (c ≡ a → d ≡ b → ⊥) → ended_at new a b ≡ ended_at old a b

pub taken-out : (l : LinkLine) (old mid new : List EndedLink) (there back : EndedLink) → (l.driver ≡ l.device → ⊥) → Some there ≡ ended_at old l.driver l.device → TakesFrom old mid l.driver l.device → Some back ≡ ended_at mid l.device l.driver → TakesFrom mid new l.device l.driver → TakenOut l old mid new there back
taken-out l old mid new there back apart first before second after = record {
  there_is = sym first;
  back_is = sym (before l.device l.driver (λ e f. apart e)) ∙ sym second;
  others = λ a b other. after a b (λ e f. other (inr (e, f))) ∙ before a b (λ e f. other (inl (e, f)));
}

-- they are those that whatever moves left
module _ (moves : BoardMoves) (l : LinkLine) (on : LinkRings) (old mid new : List EndedLink) (there back : EndedLink) (taken : TakenOut l old mid new there back) (ran : LinkHasRun moves l on old) where
  some-is : {x y : EndedLink} {o : Option EndedLink} → o ≡ Some x → o ≡ Some y → x ≡ y
  some-is e f = cc

  there_same : ran.there ≡ there
  there_same = some-is ran.there_at taken.there_is

  back_same : ran.back ≡ back
  back_same = some-is ran.back_at taken.back_is

  pub run-zero : HaveRun Device on.queue0 (sends (moves l.device l.driver)) (receives (moves l.driver l.device)) back.send there.recv
  run-zero = subst (λ (x : EndedLink). HaveRun Device on.queue0 (sends (moves l.device l.driver)) (receives (moves l.driver l.device)) x.send there.recv) back_same (subst (λ (x : EndedLink). HaveRun Device on.queue0 (sends (moves l.device l.driver)) (receives (moves l.driver l.device)) ran.back.send x.recv) there_same ran.zero)

  pub run-one : HaveRun Driver on.queue1 (sends (moves l.driver l.device)) (receives (moves l.device l.driver)) there.send back.recv
  run-one = subst (λ (x : EndedLink). HaveRun Driver on.queue1 (sends (moves l.driver l.device)) (receives (moves l.device l.driver)) x.send back.recv) there_same (subst (λ (x : EndedLink). HaveRun Driver on.queue1 (sends (moves l.driver l.device)) (receives (moves l.device l.driver)) ran.there.send x.recv) back_same ran.one)

  -- their rings, finished
  pub link-is-run : Queue1ReturnsAreEmpty → (first last : FinishedRing) → AreFinished on.queue0 back.send there.recv first → AreLaneRuns on.queue0 back.send there.recv first → AreFinished on.queue1 there.send back.recv last → AreLaneRuns on.queue1 there.send back.recv last → LinkIsRun moves l on first last
  link-is-run law first last closed0 runs0 closed1 runs1 =
      let is0 = finished-is on.queue0 back.send there.recv first closed0 in
      let is1 = finished-is on.queue1 there.send back.recv last closed1 in
      record {
        queue0 = is0.0;
        size0 = is0.1;
        width0 = is0.2;
        finished0 = zero-finished on.queue0 back.send there.recv first closed0;
        was0 = record { send = back.send; recv = there.recv; ran = run-zero; finished = closed0 };
        run0 = runs0 Device (sends (moves l.device l.driver)) (receives (moves l.driver l.device)) run-zero;
        queue1 = is1.0;
        size1 = is1.1;
        width1 = is1.2;
        finished1 = one-finished law on.queue1 (sends (moves l.driver l.device)) (receives (moves l.device l.driver)) there.send back.recv last run-one closed1;
        was1 = record { send = there.send; recv = back.recv; ran = run-one; finished = closed1 };
        run1 = runs1 Driver (sends (moves l.driver l.device)) (receives (moves l.device l.driver)) run-one;
      }
