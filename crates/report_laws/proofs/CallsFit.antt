-- The calls of a lawful script: each frame that one puts is bytes, and goes to a peer; and a wait names at most eight requests.
use Rattle.std.proofs.Common.{ℕ, ◌+◌, ◌^◌, ◌<◌, ◌≤◌, List, [], ◌∷◌, map, length, Option, Some, None, unwrap_or, arith}
use Rattle.std.specs.List.{AllByRecursion, flat_map}
use Rattle.std.proofs.lemmas.List.{length-map}
use Rattle.mc_base.specs.Letter.{PlainLetter, msg, connect, packet, scalar}
use Rattle.mc_base.specs.Pieces.{spellings}
use Rattle.mc_base.specs.declared.name.EndName.{EndName}
use Rattle.mc_base.specs.declared.name.Local.{Local}
use Rattle.mc_base.specs.declared.channel.Side.{Side}
use Rattle.mc_base.specs.declared.channel.Side.TheVariants.{Sender, Receiver}
use Rattle.mc_base.specs.declared.refusal.Refusal.{Refusal}
use Rattle.board_model.specs.declared.scenario.Call.{Call}
use Rattle.board_model.specs.declared.scenario.Call.TheVariants.{Create, Delete, Lookup, MsgSend, MsgRecv, MsgRecvI, MsgAvailable, Connect, OpenSend, OpenRecv, PktSend, PktRecv, PktRecvI, Release, SclSend, SclRecv, CloseSend, CloseRecv, Test, Wait, WaitAny, Cancel, Raw, Turn}
use Rattle.board_model.specs.Answer.{Post, post, put_as, puts_of, local, address_of, channel_at, over_channel, opening_letter, closing_letter, success_puts, puts, refusal, unless_refused}
use Rattle.board_model.specs.DomainCall.{DomainCall, send_from, connect_from, open_at, packet_from, scalar_from, close_at, raw_to}
use Rattle.board_model.specs.Labels.{Labels, place_of_label, call_of}
use Rattle.board_model.specs.LinkedBoard.{HasFitArguments}
use Rattle.board_model.specs.State.{ChannelEnd, Endpoint, DomainState, live_at, address_at}
use Rattle.board_model.proofs.MessageAlls.{all-append, all-with}
use Rattle.mc_journal.specs.EntryText.{AreBytes}
use Rattle.report_text.proofs.CallsDue.{put_lines, small-call_puts}
use Rattle.report_text.proofs.LinesTold.{IsSmall}
use Rattle.report_text.proofs.TurnsDue.{Sound}
use Rattle.report_laws.proofs.FramesFit.{FitsLetter, made-fits, spellings-fit}
use Rattle.report_laws.proofs.AnswersFit.{AsksFew}

-- what a call sends is bytes
abbrev pub SendsBytes : DomainCall → Type 0
SendsBytes (send_from port to priority bytes) = (priority < 256) × AreBytes bytes
SendsBytes (packet_from port bytes) = AreBytes bytes
SendsBytes (raw_to to bytes) = AreBytes bytes
SendsBytes other = Unit {0}

-- both of each call
abbrev FitsCall : DomainCall → Type 0
FitsCall call = SendsBytes call × AsksFew call

pub call-fits : (labels : Labels) (s : DomainState) (call : Call) → HasFitArguments call → FitsCall (call_of labels s call)
call-fits labels s (MsgSend port to priority bytes) fits = let low = fits.2 in ((omega (arith, low), fits.4), tt)
call-fits labels s (PktSend port bytes) fits = (fits.2, tt)
call-fits labels s (Raw domain bytes) fits = (fits.3, tt)
call-fits labels s (Wait label limit) fits = (tt, omega arith)
call-fits labels s (WaitAny names limit) fits = let few : length names.items ≤ 8 = fits.1 in (tt, omega (arith, few, length-map names.items (λ l. place_of_label labels.requests s l.items)))
call-fits labels s (Create port) fits = (tt, tt)
call-fits labels s (Delete port) fits = (tt, tt)
call-fits labels s (Lookup name) fits = (tt, tt)
call-fits labels s (MsgRecv port max) fits = (tt, tt)
call-fits labels s (MsgRecvI port max) fits = (tt, tt)
call-fits labels s (MsgAvailable port) fits = (tt, tt)
call-fits labels s (Connect port to kind) fits = (tt, tt)
call-fits labels s (OpenSend port kind) fits = (tt, tt)
call-fits labels s (OpenRecv port kind) fits = (tt, tt)
call-fits labels s (PktRecv port) fits = (tt, tt)
call-fits labels s (PktRecvI port) fits = (tt, tt)
call-fits labels s (Release label) fits = (tt, tt)
call-fits labels s (SclSend port bits value) fits = (tt, tt)
call-fits labels s (SclRecv port bits) fits = (tt, tt)
call-fits labels s (CloseSend port) fits = (tt, tt)
call-fits labels s (CloseRecv port) fits = (tt, tt)
call-fits labels s (Test label) fits = (tt, tt)
call-fits labels s (Cancel label) fits = (tt, tt)
call-fits labels s Turn fits = (tt, tt)

-- ---- the frames that a call puts

abbrev IsBytes : ℕ × List ℕ → Type 0
IsBytes p = AreBytes p.1

put-each : (x : Post) (payloads : List (List ℕ)) → AllByRecursion AreBytes payloads → AllByRecursion IsBytes (map (put_as x) payloads)
put-each x [] all = tt
put-each x (p ∷ ps) all = (made-fits x.source x.destination p all.0, put-each x ps all.1)

post-fits : (x : Post) → FitsLetter x.letter → AllByRecursion IsBytes (flat_map puts_of (x ∷ []))
post-fits x fits = all-append IsBytes (puts_of x) [] (put-each x (spellings x.letter) (spellings-fit x.letter fits)) tt

module _ (s : DomainState) (node : ℕ) where
  over-fits : (x : Option Endpoint) (c : Option ChannelEnd) (letter : ℕ → PlainLetter) → ((m : ℕ) → FitsLetter (letter m)) → AllByRecursion IsBytes (flat_map puts_of (over_channel x c letter))
  over-fits None c letter fits = tt
  over-fits (Some e) None letter fits = tt
  over-fits (Some e) (Some c) letter fits = post-fits (post c.peer e.address c.peer_address (letter c.number)) (fits c.number)

  opening-fits : (side : Side) (m : ℕ) → FitsLetter (opening_letter side m)
  opening-fits Sender m = tt
  opening-fits Receiver m = tt

  closing-fits : (side : Side) (m : ℕ) → FitsLetter (closing_letter side m)
  closing-fits Sender m = tt
  closing-fits Receiver m = tt

  -- to the named endpoint
  to-fits : (at : Local) (to : EndName) (l : PlainLetter) → FitsLetter l → AllByRecursion IsBytes (flat_map puts_of (post to.domain (unwrap_or (address_at s at) 0) (unwrap_or (address_of s to) 0) l ∷ []))
  to-fits at to l fits = post-fits (post to.domain (unwrap_or (address_at s at) 0) (unwrap_or (address_of s to) 0) l) fits

  success-bytes : (call : DomainCall) → SendsBytes call → AllByRecursion IsBytes (success_puts s node call)
  success-bytes (send_from port to priority bytes) fits = to-fits (local node port) to (msg priority bytes) fits
  success-bytes (connect_from port to kind) fits = to-fits (local node port) to (connect (s.channels_given + 1) kind) tt
  success-bytes (open_at port side kind) fits = over-fits (live_at s (local node port)) (channel_at s (local node port)) (opening_letter side) (opening-fits side)
  success-bytes (packet_from port bytes) fits = over-fits (live_at s (local node port)) (channel_at s (local node port)) (λ m. packet m bytes) (λ m. fits)
  success-bytes (scalar_from port bits value) fits = over-fits (live_at s (local node port)) (channel_at s (local node port)) (λ m. scalar m bits value) (λ m. tt)
  success-bytes (close_at port side) fits = over-fits (live_at s (local node port)) (channel_at s (local node port)) (closing_letter side) (closing-fits side)
  success-bytes (raw_to to bytes) fits = (fits, tt)
  success-bytes other fits = tt

  puts-bytes : (call : DomainCall) → SendsBytes call → AllByRecursion IsBytes (puts s node call)
  puts-bytes call fits = go (refusal s node call)
    where
      go : (o : Option Refusal) → AllByRecursion IsBytes (unless_refused o [] (success_puts s node call))
      go (Some word) = tt
      go None = success-bytes call fits

-- a frame with its peer
abbrev pub FitsPut : ℕ × List ℕ → Type 0
FitsPut p = (p.0 < 2 ^ 8) × AreBytes p.1

small-peers : (ps : List (ℕ × List ℕ)) → AllByRecursion IsSmall (put_lines ps) → AllByRecursion (λ p. p.0 < 2 ^ 8) ps
small-peers [] small = tt
small-peers (p ∷ ps) small = (small.0, small-peers ps small.1)

pub puts-fit : (peers : List ℕ) → AllByRecursion (λ n. n < 2 ^ 8) peers → (s : DomainState) → Sound peers s → (node : ℕ) (call : DomainCall) → SendsBytes call → AllByRecursion FitsPut (puts s node call)
puts-fit peers few s h node call fits =
    all-with (λ (p : ℕ × List ℕ). p.0 < 2 ^ 8) IsBytes FitsPut (λ p small bytes. (small, bytes)) (puts s node call)
    (small-peers (puts s node call) (small-call_puts peers few s h node call)) (puts-bytes s node call fits)
