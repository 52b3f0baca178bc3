-- A call puts as many frames as its line and its answer say.
use Rattle.std.proofs.Common.{◌≡◌, ℕ, false, List, [], ◌∷◌, length, length-append, map, Option, Some, None, refl, sym, ap, ◌∙◌, arith}
use Rattle.std.specs.Prelude.{unwrap_or}
use Rattle.std.specs.List.{flat_map}
use Rattle.std.proofs.lemmas.List.{length-map}
use Rattle.mc_base.specs.Letter.{PlainLetter, of_message, of_packet, msg, packet, scalar}
use Rattle.mc_base.specs.Pieces.{frames_of_size, spellings}
use Rattle.mc_base.specs.declared.channel.Kind.TheVariants.{Packet, Scalar}
use Rattle.mc_base.specs.declared.channel.Side.TheVariants.{Sender, Receiver}
use Rattle.mc_base.specs.declared.refusal.Refusal.{Refusal}
use Rattle.mc_base.specs.declared.refusal.Refusal.TheVariants.{NotConnected}
use Rattle.board_model.specs.declared.scenario.Call.{Call}
use Rattle.board_model.specs.declared.scenario.Call.TheVariants.{MsgSend, Connect, OpenSend, OpenRecv, PktSend, SclSend, CloseSend, CloseRecv, Raw}
use Rattle.board_model.specs.DomainCall.{send_from, open_at, packet_from, scalar_from, close_at}
use Rattle.board_model.specs.State.{DomainState, ChannelEnd, Endpoint, address_at, live_at, channel_in}
use Rattle.board_model.specs.ChannelEnds.{EndCall, opens, sends, closes}
use Rattle.board_model.specs.Answer.{local, address_of, end_holds, holds, words_of, Post, post, put_as, puts_of, over_channel, opening_letter, closing_letter, success_puts, refusal, success, answer_by, answer, unless_refused, puts}
use Rattle.board_model.specs.Journal.{PlainAnswer, refuses, agrees, tells, connects, gives, completes}
use Rattle.board_model.specs.Labels.{Labels, call_of}
use Rattle.board_model.specs.Unjoined.{frames_put, puts_by}
use Rattle.board_model.proofs.MessageAlls.{none-passes}
use Rattle.board_model.proofs.RefusedCalls.{refused-is}
use Rattle.mc_base.proofs.PieceCounts.{item-frames}
use Rattle.report_text.specs.Outlines.{is_refusal}

-- a letter is put in as many frames as it has payloads
post-many : (x : Post) (n : ℕ) → length (spellings x.letter) ≡ n → length (flat_map puts_of (x ∷ [])) ≡ n
post-many x n many = length-append (map (put_as x) (spellings x.letter)) [] ∙ omega (arith, length-map (spellings x.letter) (put_as x), many)

-- a call that is not refused because it lacks a channel has one, and puts one such letter on it
over-many : (call : EndCall) (o : Option Endpoint) (letter : ℕ → PlainLetter) (n : ℕ) → ((number : ℕ) → length (spellings (letter number)) ≡ n) → end_holds call (channel_in o) NotConnected ≡ false → length (flat_map puts_of (over_channel o (channel_in o) letter)) ≡ n
over-many call None letter n many connected = absurd cc
over-many call (Some e) letter n many connected = go e.channel connected
  where
    go : (c : Option ChannelEnd) → end_holds call c NotConnected ≡ false → length (flat_map puts_of (over_channel (Some e) c letter)) ≡ n
    go None connected = absurd cc
    go (Some c) connected = post-many (post c.peer e.address c.peer_address (letter c.number)) n (many c.number)

module _ (labels : Labels) (s : DomainState) (node : ℕ) where
  success-many : (c : Call) → refusal s node (call_of labels s c) ≡ None → length (success_puts s node (call_of labels s c)) ≡ frames_put c
  success-many (OpenSend port kind) done =
      over-many (opens Sender kind) (live_at s (local node port)) (opening_letter Sender) 1 (λ number. refl) (none-passes (holds s node (open_at port Sender kind)) (words_of (open_at port Sender kind)) done).1.0
  success-many (OpenRecv port kind) done =
      over-many (opens Receiver kind) (live_at s (local node port)) (opening_letter Receiver) 1 (λ number. refl) (none-passes (holds s node (open_at port Receiver kind)) (words_of (open_at port Receiver kind)) done).1.0
  success-many (PktSend port bytes) done =
      over-many (sends Packet) (live_at s (local node port)) (λ number. packet number bytes) (frames_of_size (length bytes)) (λ number. item-frames (of_packet number) bytes)
      (none-passes (holds s node (packet_from port bytes)) (words_of (packet_from port bytes)) done).1.0
  success-many (SclSend port bits value) done =
      over-many (sends Scalar) (live_at s (local node port)) (λ number. scalar number bits value) 1 (λ number. refl) (none-passes (holds s node (scalar_from port bits value)) (words_of (scalar_from port bits value)) done).1.0
  success-many (CloseSend port) done =
      over-many (closes Sender) (live_at s (local node port)) (closing_letter Sender) 1 (λ number. refl) (none-passes (holds s node (close_at port Sender)) (words_of (close_at port Sender)) done).1.0
  success-many (CloseRecv port) done =
      over-many (closes Receiver) (live_at s (local node port)) (closing_letter Receiver) 1 (λ number. refl) (none-passes (holds s node (close_at port Receiver)) (words_of (close_at port Receiver)) done).1.0
  success-many (MsgSend port to priority bytes) done =
      post-many (post to.domain (unwrap_or (address_at s (local node port)) 0) (unwrap_or (address_of s to) 0) (msg priority bytes)) (frames_of_size (length bytes)) (item-frames (of_message priority) bytes)
  success-many (Connect port to kind) done = refl
  success-many (Raw domain bytes) done = refl
  success-many other done = refl

  -- an answer that is no word is that of success
  done-many : (c : Call) (a : PlainAnswer) → is_refusal a ≡ false → a ≡ answer s node (call_of labels s c) → length (puts s node (call_of labels s c)) ≡ frames_put c
  done-many c a done is = go (refusal s node (call_of labels s c)) refl (sym (ap is_refusal is) ∙ done)
    where
      go : (o : Option Refusal) → refusal s node (call_of labels s c) ≡ o → is_refusal (answer_by o (success s node (call_of labels s c))) ≡ false → length (unless_refused o [] (success_puts s node (call_of labels s c))) ≡ frames_put c
      go (Some word) is done = absurd cc
      go None is done = success-many c is

  pub puts-many : (c : Call) (a : PlainAnswer) → a ≡ answer s node (call_of labels s c) → length (puts s node (call_of labels s c)) ≡ puts_by c a
  puts-many c (refuses word) is = ap (λ o. length (unless_refused o [] (success_puts s node (call_of labels s c)))) (refused-is s node word (call_of labels s c) is)
  puts-many c agrees is = done-many c agrees refl is
  puts-many c (tells n) is = done-many c (tells n) refl is
  puts-many c (connects request channel) is = done-many c (connects request channel) refl is
  puts-many c (gives size bytes) is = done-many c (gives size bytes) refl is
  puts-many c (completes place result) is = done-many c (completes place result) refl is
