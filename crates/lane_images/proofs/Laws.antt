-- From the ends of a lane and its finished ring: the image, and that no buffer came back before its frame was put.
use Rattle.std.proofs.Common.{◌≡◌, ℕ, ◌+◌, List, [], ◌∷◌, ◌++◌, length, map, refl, ap, sym, ◌∙◌, subst, arith}
use Rattle.mc_base.specs.Limits.{buffer_size}
use Rattle.shared_words.specs.Shown.{TableShown, RingId, size_of}
use Rattle.shared_words.specs.Way.{other}
use Rattle.shared_words.specs.declared.view.Role.{Role}
use Rattle.shared_words.specs.declared.view.Role.TheVariants.{Driver, Device}
use Rattle.split_ring.specs.Ends.{End}
use Rattle.split_ring.specs.Finished.{FinishedRing}
use Rattle.board_model.specs.RingImage.{Offer, start_image, driver_writes, device_writes, all_written}
use Rattle.lane_end.specs.Entries.{loads_in, numbers_in, returns_in}
use Rattle.lane_end.specs.LaneRun.{first_hand}
use Rattle.lane_end.specs.Numbers.{often, inside}
use Rattle.lane_end.specs.Opened.{given_length}
use Rattle.lane_end.specs.PlainLane.{carriers}
use Rattle.lane_end.specs.ReceiveMoves.{ReceiveMove}
use Rattle.lane_end.specs.ReceiveParts.{frames_taken, numbers_given}
use Rattle.lane_end.specs.RingLane.{IsSender, IsReceiver, IsFinishedBetween}
use Rattle.lane_end.specs.RingReceiver.{RingReceiver, given_entries, with_lengths, written_by, out_at, struck, OutMoves, RingReceives}
use Rattle.lane_end.specs.RingSender.{RingSender, sent_by, back_to, lengths_by, hand_of, RingSends}
use Rattle.lane_end.specs.SendMoves.{SendMove}
use Rattle.lane_end.specs.SendParts.{frames_sent}
use Rattle.lane_end.proofs.CountLemmas.{often-all}
use Rattle.lane_end.proofs.EntryLemmas.{numbers-append}
use Rattle.lane_end.proofs.FinishLemmas.{sent-over, received-over, between}
use Rattle.lane_end.proofs.LaneLemmas.{carriers-append}
use Rattle.lane_end.proofs.LaneRunLemmas.{carriers-of, sender_opened, receiver_opened, Sent, sent-since, Received, received-since, Sides, sides, given-all, loads-are}
use Rattle.ring_trace.specs.WordImage.{word_image}
use Rattle.ring_trace.proofs.BothSides.{both_sides}
use Rattle.ring_numbers.specs.RingLists.{all_with, given_with, offered, returned, image_left}
use Rattle.ring_numbers.specs.SenderNumbers.{at_start}
use Rattle.lane_images.specs.GivesAt.{GivesAt}
use Rattle.lane_images.specs.LaneImages.{queue_of, AreLater, ImagesAreLeft, BacksAreLater}
use Rattle.lane_images.specs.Sendings.{numbers_after}
use Rattle.lane_images.proofs.Dealt.{come-later, uses, Uses}
use Rattle.lane_images.proofs.Early.{Early, early}
use Rattle.lane_images.proofs.Lists.{pairs-same, numbers-returned, lengths-returned, given-same, new-whole}

struck-none : (gs : List ℕ) → struck gs [] ≡ []
struck-none [] = refl
struck-none (g ∷ gs) = struck-none gs

-- at the opening nothing is out, and the half that receives has offered every buffer or none
abbrev before : Role → RingId → List Offer
before Driver ring = []
before Device ring = all_with ring.width (size_of ring)

outs-since : (sender : Role) (ring : RingId) (receives : List ReceiveMove) (r : RingReceiver) → RingReceives (receiver_opened sender ring) receives r → OutMoves (size_of ring) [] receives (out_at r)
outs-since Driver ring receives r m = m.outs
outs-since Device ring receives r m = subst (λ (out : List ℕ). OutMoves (size_of ring) out receives (out_at r)) (struck-none (numbers_in (given_entries (receiver_opened Device ring)))) m.outs

written-since : (sender : Role) (ring : RingId) (receives : List ReceiveMove) (r : RingReceiver) → RingReceives (receiver_opened sender ring) receives r
    → written_by r ≡ before sender ring ++ with_lengths (other sender) ring (numbers_given receives)
written-since Driver ring receives r m = m.written
written-since Device ring receives r m = m.written ∙ ap (λ (os : List Offer). os ++ with_lengths Driver ring (numbers_given receives)) (new-whole ring)

lengths-since : (sender : Role) (ring : RingId) (sends : List SendMove) (s : RingSender) → RingSends (sender_opened sender ring) sends s → lengths_by s ≡ map (λ (frame : List ℕ). length frame) (frames_sent sends)
lengths-since Driver ring sends s m = m.lengths
lengths-since Device ring sends s m = m.lengths

module _ (sender : Role) (ring : TableShown) (s : RingSender) (r : RingReceiver) (sends : List SendMove) (receives : List ReceiveMove) (closed : FinishedRing) (places : List ℕ)
    (sent : RingSends (sender_opened sender ring.ring) sends s) (received : RingReceives (receiver_opened sender ring.ring) receives r) (is_sender : IsSender s) (is_receiver : IsReceiver r)
    (done : IsFinishedBetween sender ring s.half r.half closed) (gives : GivesAt [] places receives) where
  a : Sent sender ring.ring sends s
  a = sent-since sender ring.ring sends s sent

  b : Received sender ring.ring receives r
  b = received-since sender ring.ring receives r received

  f : Sides sender (size_of ring.ring) s.half r.half closed
  f = sides sender ring s.half r.half closed done

  -- what is put is what is taken, and more
  front : sent_by s ≡ carriers (frames_taken receives) ++ carriers (loads_in f.rest)
  front = sym (carriers-of s.half.written) ∙ (ap carriers (loads-are sender ring s r sends receives closed a b is_sender is_receiver f) ∙ carriers-append (frames_taken receives) (loads_in f.rest))

  -- what is given back is what came back, and more
  given : numbers_given receives ≡ back_to s ++ numbers_in f.rest_back
  given = sym b.given ∙ (ap numbers_in (given-all sender ring s r sends receives closed a b is_sender is_receiver f) ∙ numbers-append _ f.rest_back)

  is-early : Early (sent_by s) [] places (numbers_given receives)
  is-early = early (size_of ring.ring) (sent_by s) [] [] [] places (carriers (loads_in f.rest)) (out_at r) receives front (λ x. refl) (λ x. omega arith) (outs-since sender ring.ring receives r received) gives

  balanced : (x : ℕ) → often x (first_hand (size_of ring.ring)).free + 0 ≡ inside (size_of ring.ring) x + 0
  balanced x = let o = often-all (size_of ring.ring) x in omega (arith, o)

  pub later : AreLater sends places
  later = come-later (size_of ring.ring) (first_hand (size_of ring.ring)) (hand_of s) places (numbers_given receives) (numbers_in f.rest_back) sends balanced a.deals given is-early

  numbers-used : Uses (numbers_after (size_of ring.ring) places sends) (hand_of s) sends []
  numbers-used = uses (size_of ring.ring) (first_hand (size_of ring.ring)) (hand_of s) (numbers_given receives) (numbers_in f.rest_back) sends (at_start (size_of ring.ring) places) balanced a.deals given is-early refl refl

  used-are : returns_in s.half.written ≡ (numbers_after (size_of ring.ring) places sends).used
  used-are = pairs-same (returns_in s.half.written) (numbers_after (size_of ring.ring) places sends).used (numbers-returned s.half.written ∙ sym numbers-used.numbers_are)
      (lengths-returned s.half.written ∙ (lengths-since sender ring.ring sends s sent ∙ sym numbers-used.lengths_are))

  given-are : returns_in r.half.written ≡ before sender ring.ring ++ given_with (given_length (other sender) ring.ring) (numbers_after (size_of ring.ring) places sends).used places
  given-are =
      written-since sender ring.ring receives r received
      ∙ ap (λ (os : List Offer). before sender ring.ring ++ os) (sym (given-same (given_length (other sender) ring.ring) (numbers_after (size_of ring.ring) places sends).used [] places (numbers_given receives)
      (subst (λ (ns : List ℕ). Early ns [] places (numbers_given receives)) (sym numbers-used.numbers_are) is-early)))

-- the lists of both sides, by the half that sends
image : (sender : Role) (ring : TableShown) (sending receiving : End) (closed : FinishedRing) (used : ℕ → List Offer) (places : List ℕ) → IsFinishedBetween sender ring sending receiving closed → closed.queue ≡ queue_of sender → closed.width ≡ buffer_size
    → returns_in sending.written ≡ used (size_of ring.ring) → returns_in receiving.written ≡ before sender ring.ring ++ given_with (given_length (other sender) ring.ring) (used (size_of ring.ring)) places
    → word_image closed.size closed.words ≡ image_left closed.size closed.queue (used closed.size) places
image Driver ring sending receiving closed used places done queue full put gave =
    let size = sym done.size in
    let one : returns_in sending.written ≡ offered closed.size closed.queue (used closed.size) places = put ∙ (ap used size ∙ ap (λ (q : ℕ). offered closed.size q (used closed.size) places) (sym queue)) in
    let two : returns_in receiving.written ≡ returned closed.queue (used closed.size) places =
    gave ∙ (ap (λ (n : ℕ). given_with 0 (used n) places) size ∙ ap (λ (q : ℕ). returned q (used closed.size) places) (sym queue)) in
    sym (both_sides ring sending receiving closed done full).0 ∙ (λ i. all_written (start_image closed.size closed.queue) (driver_writes closed.size (one i) ++ device_writes closed.size (two i)))
image Device ring sending receiving closed used places done queue full put gave =
    let size = sym done.size in
    let width : ring.ring.width ≡ buffer_size = sym done.width ∙ full in
    let one : returns_in receiving.written ≡ offered closed.size closed.queue (used closed.size) places =
    gave ∙ ((λ i. all_with (width i) (size i) ++ given_with (width i) (used (size i)) places) ∙ ap (λ (q : ℕ). offered closed.size q (used closed.size) places) (sym queue)) in
    let two : returns_in sending.written ≡ returned closed.queue (used closed.size) places = put ∙ (ap used size ∙ ap (λ (q : ℕ). returned q (used closed.size) places) (sym queue)) in
    sym (both_sides ring receiving sending closed done full).0 ∙ (λ i. all_written (start_image closed.size closed.queue) (driver_writes closed.size (one i) ++ device_writes closed.size (two i)))

pub backs-are-later : BacksAreLater
backs-are-later sender ring sends receives closed places run gives =
    let x = sent-over sender ring.ring sends run.ran.sent.end run.send run.ran.sent.moved run.ran.sent.leaves in
    let y = received-over sender ring.ring receives run.ran.received.end run.recv run.ran.received.moved run.ran.received.leaves in
    later sender ring x.s y.r sends receives closed places x.moved y.moved x.leaves.sender y.leaves.receiver
    (subst (λ (t : Role × End × End). IsFinishedBetween t.0 ring t.1 t.2 closed) (λ i. (x.role_is i, x.leaves.half_is i, y.leaves.half_is i)) (between ring run.send run.recv closed run.finished)) gives

pub images-are-left : ImagesAreLeft
images-are-left sender ring sends receives closed places run queue full gives =
    let x = sent-over sender ring.ring sends run.ran.sent.end run.send run.ran.sent.moved run.ran.sent.leaves in
    let y = received-over sender ring.ring receives run.ran.received.end run.recv run.ran.received.moved run.ran.received.leaves in
    let done = subst (λ (t : Role × End × End). IsFinishedBetween t.0 ring t.1 t.2 closed) (λ i. (x.role_is i, x.leaves.half_is i, y.leaves.half_is i)) (between ring run.send run.recv closed run.finished) in
    image sender ring x.s.half y.r.half closed (λ n. (numbers_after n places sends).used) places done queue full
    (used-are sender ring x.s y.r sends receives closed places x.moved y.moved x.leaves.sender y.leaves.receiver done gives)
    (given-are sender ring x.s y.r sends receives closed places x.moved y.moved x.leaves.sender y.leaves.receiver done gives)
