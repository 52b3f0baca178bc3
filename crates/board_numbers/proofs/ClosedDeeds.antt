-- What receivers' closes dropped of a channel, deed by deed: the frame that a close puts, and the number that it answers.
use Rattle.std.proofs.Common.{◌≡◌, ℕ, Bool, true, false, not, ◌&&◌, cond, List, [], ◌∷◌, ◌++◌, map, flat_map, length, Option, None, Some, refl, sym, ap, ◌∙◌, subst, arith}
use Rattle.std.specs.Prelude.{◌==◌}
use Rattle.std.specs.List.{AllByRecursion}
use Rattle.mc_base.specs.Letter.{Carrier, of_message, of_packet, carried, accept, reject, fields_of, spelling, recv_close}
use Rattle.mc_base.specs.Frame.{made}
use Rattle.mc_base.specs.Reading.{Reading, is_faulty, announces, says, brings, reading}
use Rattle.mc_base.specs.declared.channel.Reason.{Reason}
use Rattle.mc_base.specs.declared.channel.Side.TheVariants.{Sender, Receiver}
use Rattle.mc_base.specs.declared.name.Local.{Local}
use Rattle.mc_base.specs.declared.refusal.Refusal.{Refusal}
use Rattle.mc_base.specs.declared.refusal.Refusal.TheVariants.{NotConnected, ChanDirection}
use Rattle.board_model.specs.Answer.{local, channel_at, end_holds, holds, words_of, refusal, unless_refused, answer_by, success, success_posts, success_puts, puts, puts_of, over_channel}
use Rattle.board_model.specs.CallChanges.{at_live}
use Rattle.board_model.specs.ChannelEnds.{closes, same_side, hears_from}
use Rattle.board_model.specs.Channels.{contents_of, lost_by, is_numbered}
use Rattle.board_model.specs.Deeds.{Deed, calls, MayDo}
use Rattle.board_model.specs.DomainCall.{DomainCall, create_at, delete_at, lookup_of, send_from, receive_at, request_at, available_at, connect_from, open_at, packet_from, lend_at, packet_request_at, release_of, scalar_from, scalar_at, close_at, test_of, wait_for, cancel_of, raw_to, turn_alone}
use Rattle.board_model.specs.Journal.{PlainAnswer, refuses}
use Rattle.board_model.specs.Parts.{coming}
use Rattle.board_model.specs.State.{Item, Part, ChannelEnd, Endpoint, DomainState, Announcement, Reply, Peer, announcing, replying, owed_to, letter_by, is_at, live_at, queue_at, queue_in, channel_in}
use Rattle.board_model.specs.Tallies.{number_told}
use Rattle.board_model.proofs.ChannelWords.{contents_if}
use Rattle.board_model.proofs.HearingItems.{bound_contents}
use Rattle.board_model.proofs.HonestFrames.{MadeReads, made_faulty, made_letter, reads_made, Tells, tells_faulty, tells_name, tells_made}
use Rattle.board_model.proofs.MessageAlls.{all-append, all-found}
use Rattle.board_model.proofs.MessageLists.{get-position}
use Rattle.board_model.proofs.OrderLookups.{none_holds}
use Rattle.board_model.proofs.OrderSound.{Sound, Bound, sound_bound}
use Rattle.board_model.proofs.PartLetters.{FramesSaid, said-once}
use Rattle.board_model.proofs.PartReadings.{coming-holds}
use Rattle.board_model.proofs.SendingCalls.{Reads}
use Rattle.board_model.proofs.SendingDeeds.{ReadsDeed}
use Rattle.board_numbers.specs.Items.{close_said, closes_channel}
use Rattle.board_numbers.proofs.ReceiverEnds.{IsOwned, OwnedEnds}

-- ---- owed frames close nothing

module _ (n : ℕ) where
  abbrev pub ClosesNone : List ℕ → Type 0
  ClosesNone f = closes_channel n f ≡ false

  announcement_none : (d : ℕ) (a : Announcement) → ClosesNone (announcing d a)
  announcement_none d a = go (reading (announcing d a)) (tells_made d a)
    where
      go : (r : Reading) → Tells d a r → is_numbered n (close_said r) ≡ false
      go r (tells_faulty w) = refl
      go r (tells_name name m create is named created) = refl

  reply_none : (r : Reply) → ClosesNone (replying r)
  reply_none r = go r.reason
    where
      accepted : (x : Reading) → MadeReads r.source (fields_of (accept r.channel)) x → is_numbered n (close_said x) ≡ false
      accepted x (made_faulty w) = refl
      accepted x (made_letter s d j from number) = refl

      rejected : (why : Reason) (x : Reading) → MadeReads r.source (fields_of (reject r.channel why)) x → is_numbered n (close_said x) ≡ false
      rejected why x (made_faulty w) = refl
      rejected why x (made_letter s d j from number) = refl

      go : (x : Option Reason) → ClosesNone (made r.source r.destination (spelling (letter_by r.channel x)))
      go None = accepted _ (reads_made r.source r.destination (fields_of (accept r.channel)) refl)
      go (Some why) = rejected why _ (reads_made r.source r.destination (fields_of (reject r.channel why)) refl)

  announcements_none : (d : ℕ) (news : List Announcement) → AllByRecursion ClosesNone (map (announcing d) news)
  announcements_none d [] = tt
  announcements_none d (a ∷ news) = (announcement_none d a, announcements_none d news)

  replies_none : (rs : List Reply) → AllByRecursion ClosesNone (map replying rs)
  replies_none [] = tt
  replies_none (r ∷ rs) = (reply_none r, replies_none rs)

  pub owed-closes-none : (d : ℕ) (p : Peer) → AllByRecursion ClosesNone (owed_to d p)
  owed-closes-none d p = all-append ClosesNone (map (announcing d) p.announcements) (map replying p.replies) (announcements_none d p.announcements) (replies_none p.replies)

-- ---- a close says so, whatever part is open before it

carried_none : (s d : ℕ) (k : Carrier) (bytes : List ℕ) → close_said (says s d (carried k bytes)) ≡ None
carried_none s d (of_message priority) bytes = refl
carried_none s d (of_packet m) bytes = refl

close_same : (o : Option Part) (r : Reading) → close_said (coming o r).reading ≡ close_said r
close_same o (brings s d q) = coming-holds (λ r. close_said r ≡ None) carried_none (λ a b p. refl) o (brings s d q) refl
close_same o (is_faulty f) = refl
close_same o (announces text address there) = refl
close_same o (says s d l) = refl

same_length : (b c : Bool) → cond {A = List ℕ} b (0 ∷ []) [] ++ [] ≡ cond c (0 ∷ []) [] → b ≡ c
same_length true true e = refl
same_length false false e = refl
same_length true false e = absurd cc
same_length false true e = absurd cc

said_close : (n a b m : ℕ) → FramesSaid a b (recv_close m) (made a b (spelling (recv_close m)) ∷ []) → closes_channel n (made a b (spelling (recv_close m))) ≡ (m == n)
said_close n a b m said =
    let closing : Reading → List ℕ = λ r. cond (is_numbered n (close_said r)) (0 ∷ []) [] in
    let frame : List ℕ = made a b (spelling (recv_close m)) in
    ap (is_numbered n) (sym (close_same None (reading frame)))
    ∙ same_length (is_numbered n (close_said (coming None (reading frame)).reading)) (m == n) (said-once closing (λ s d q. refl) a b (recv_close m) (frame ∷ []) said)

-- ---- one close

module _ (o n : ℕ) where
  -- what a call's deed drops
  abbrev pub close_lost : DomainState → Deed → List (List ℕ)
  close_lost s (calls node call a) = lost_by o n s (calls node call a)
  close_lost s other = []

  -- whether the last of the frames that a call put closes the channel
  abbrev pub closing_put : Bool → List (ℕ × List ℕ) → Bool
  closing_put b [] = b
  closing_put b (p ∷ ps) = closing_put (p.0 == o && closes_channel n p.1) ps

  not_false : (b : Bool) → not b ≡ false → b ≡ true
  not_false true h = refl
  not_false false h = absurd cc

  if_length : (b : Bool) (q : List Item) → length (contents_if b q) ≡ cond b (length q) 0
  if_length true q = go q
    where
      go : (q : List Item) → length (map (λ (i : Item). i.content) q) ≡ length q
      go [] = refl
      go (i ∷ q) = omega (arith, go q)
  if_length false q = refl

  and_turned : (a b : Bool) → (a && b) ≡ (b && a)
  and_turned true true = refl
  and_turned true false = refl
  and_turned false true = refl
  and_turned false false = refl

  module _ (s : DomainState) (sound : Sound s) (owned : OwnedEnds s) (node port : ℕ) where
    abbrev at : Local
    at = local node port

    closed_here : (e : Endpoint) (c : ChannelEnd) → live_at s at ≡ Some e → e.channel ≡ Some c → same_side c.side Receiver ≡ true → AllByRecursion Reads (over_channel (Some e) (Some c) recv_close) →
        cond (closing_put false (flat_map puts_of (over_channel (Some e) (Some c) recv_close))) (length e.queue) 0 ≡ length (contents_of o n e.queue)
    closed_here e c live has side read =
        let bound : Bound e.queue (Some c) = subst (Bound e.queue) has (sound_bound s sound (is_at at) e live) in
        let own : c.owner ≡ c.peer = subst IsOwned has (all-found (λ (x : Endpoint). IsOwned x.channel) (is_at at) s.endpoints e owned live) side in
        let frame : List ℕ = made e.address c.peer_address (spelling (recv_close c.number)) in
        let tells : closes_channel n frame ≡ (c.number == n) = said_close n e.address c.peer_address c.number read.0 in
        let test : (c.peer == o && closes_channel n frame) ≡ hears_from o n c
        = ap (λ b. c.peer == o && b) tells ∙ (ap (λ p. p == o && c.number == n) (sym own) ∙ (and_turned (c.owner == o) (c.number == n) ∙ sym (ap (λ b. b && (c.number == n && c.owner == o)) side))) in
        ap (λ b. cond b (length e.queue) 0) test ∙ (sym (if_length (hears_from o n c) e.queue) ∙ ap length (sym (bound_contents o n e.queue (Some c) bound)))

    closed_at : (x : Option Endpoint) → live_at s at ≡ x → (y : Option ChannelEnd) → channel_in x ≡ y → end_holds (closes Receiver) y NotConnected ≡ false → end_holds (closes Receiver) y ChanDirection ≡ false → AllByRecursion Reads (over_channel x y recv_close) →
        cond (closing_put false (flat_map puts_of (over_channel x y recv_close))) (length (queue_in x)) 0 ≡ length (at_live x (λ e. contents_of o n e.queue))
    closed_at x live None has connected direction read = absurd cc
    closed_at None live (Some c) has connected direction read = absurd cc
    closed_at (Some e) live (Some c) has connected direction read = closed_here e c live has (not_false (same_side c.side Receiver) direction) read

    -- where the close succeeds
    close_told : refusal s node (close_at port Receiver) ≡ None → AllByRecursion Reads (success_posts s node (close_at port Receiver)) →
        cond (closing_put false (success_puts s node (close_at port Receiver))) (length (queue_at s at)) 0 ≡ length (at_live (live_at s at) (λ e. contents_of o n e.queue))
    close_told none read =
        let words = none_holds (holds s node (close_at port Receiver)) (words_of (close_at port Receiver)) none in
        ap (λ x. cond (closing_put false (success_puts s node (close_at port Receiver))) (length (queue_in x)) 0) (get-position (is_at at) s.endpoints)
        ∙ closed_at (live_at s at) refl (channel_at s at) refl words.1.0 words.1.1.0 read

  -- ---- each call

  abbrev pub ClosesTold : DomainState → ℕ → DomainCall → PlainAnswer → Type 0
  ClosesTold s node call a = cond (closing_put false (puts s node call)) (number_told a) 0 ≡ length (close_lost s (calls node call a))

  zero_if : (b : Bool) → cond {A = ℕ} b 0 0 ≡ 0
  zero_if true = refl
  zero_if false = refl

  pub refused_told : (s : DomainState) (node : ℕ) (call : DomainCall) (word : Refusal) → length (close_lost s (calls node call (refuses word))) ≡ 0
  refused_told s node (close_at port Receiver) word = refl
  refused_told s node (close_at port Sender) word = refl
  refused_told s node (create_at port) word = refl
  refused_told s node (delete_at port) word = refl
  refused_told s node (lookup_of name) word = refl
  refused_told s node (send_from port to priority bytes) word = refl
  refused_told s node (receive_at port max) word = refl
  refused_told s node (request_at port max) word = refl
  refused_told s node (available_at port) word = refl
  refused_told s node (connect_from port to kind) word = refl
  refused_told s node (open_at port side kind) word = refl
  refused_told s node (packet_from port bytes) word = refl
  refused_told s node (lend_at port) word = refl
  refused_told s node (packet_request_at port) word = refl
  refused_told s node (release_of place) word = refl
  refused_told s node (scalar_from port bits value) word = refl
  refused_told s node (scalar_at port bits) word = refl
  refused_told s node (test_of request) word = refl
  refused_told s node (wait_for requests says_place) word = refl
  refused_told s node (cancel_of request) word = refl
  refused_told s node (raw_to to bytes) word = refl
  refused_told s node turn_alone word = refl

  -- what a success puts and answers
  success_told : (s : DomainState) → Sound s → OwnedEnds s → (node : ℕ) (call : DomainCall) → refusal s node call ≡ None → AllByRecursion Reads (success_posts s node call) →
      cond (closing_put false (success_puts s node call)) (number_told (success s node call)) 0 ≡ length (close_lost s (calls node call (success s node call)))
  success_told s sound owned node (close_at port Receiver) none read = close_told s sound owned node port none read
  success_told s sound owned node (close_at port Sender) none read = zero_if _
  success_told s sound owned node (create_at port) none read = refl
  success_told s sound owned node (delete_at port) none read = refl
  success_told s sound owned node (lookup_of name) none read = refl
  success_told s sound owned node (send_from port to priority bytes) none read = zero_if _
  success_told s sound owned node (receive_at port max) none read = refl
  success_told s sound owned node (request_at port max) none read = refl
  success_told s sound owned node (available_at port) none read = refl
  success_told s sound owned node (connect_from port to kind) none read = zero_if _
  success_told s sound owned node (open_at port side kind) none read = zero_if _
  success_told s sound owned node (packet_from port bytes) none read = zero_if _
  success_told s sound owned node (lend_at port) none read = refl
  success_told s sound owned node (packet_request_at port) none read = refl
  success_told s sound owned node (release_of place) none read = refl
  success_told s sound owned node (scalar_from port bits value) none read = zero_if _
  success_told s sound owned node (scalar_at port bits) none read = refl
  success_told s sound owned node (test_of request) none read = refl
  success_told s sound owned node (wait_for requests says_place) none read = refl
  success_told s sound owned node (cancel_of request) none read = refl
  success_told s sound owned node (raw_to to bytes) none read = zero_if _
  success_told s sound owned node turn_alone none read = refl

  pub closes-told : (s : DomainState) → Sound s → OwnedEnds s → (node : ℕ) (call : DomainCall) (a : PlainAnswer) → MayDo s (calls node call a) → ReadsDeed s (calls node call a) → ClosesTold s node call a
  closes-told s sound owned node call a may read = subst (ClosesTold s node call) (sym may) (go (refusal s node call) refl)
    where
      go : (r : Option Refusal) → refusal s node call ≡ r → cond (closing_put false (unless_refused r [] (success_puts s node call))) (number_told (answer_by r (success s node call))) 0 ≡ length (close_lost s (calls node call (answer_by r (success s node call))))
      go (Some w) is = sym (refused_told s node call w)
      go None is = success_told s sound owned node call is (read is)
