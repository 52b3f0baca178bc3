-- How many frames a message or a packet goes in.
use Rattle.std.proofs.Common.{◌≡◌, ℕ, ◌<◌, List, [], ◌∷◌, ◌++◌, length, length-append, map, Option, None, Some, option_map, refl, sym, ap, arith}
use Rattle.std.specs.Prelude.{unwrap_or}
use Rattle.std.specs.List.{flat_map}
use Rattle.std.proofs.lemmas.List.{length-map}
use Rattle.mc_base.specs.Letter.{of_message, of_packet, msg, packet}
use Rattle.mc_base.specs.Pieces.{frames_of_size, frames_needed, item_spellings}
use Rattle.mc_base.proofs.PieceCounts.{item-frames, message-frames, packet-frames, some-frames}
use Rattle.mc_base.specs.declared.name.EndName.{EndName}
use Rattle.board_model.specs.Answer.{Post, address_of, channel_at, local, over_channel, post, put_as, puts_of, success_puts}
use Rattle.board_model.specs.CallChanges.{at_channel, at_end, success_changes}
use Rattle.board_model.specs.Change.{buffers_used, changed, changed_all}
use Rattle.board_model.specs.DomainCall.{packet_from, send_from}
use Rattle.board_model.specs.State.{ChannelEnd, DomainState, Endpoint, address_at, channel_in, live_at}
use Rattle.report_replay.specs.Puts.{headed}

packet-buffers : (o : Option Endpoint) (bytes : List ℕ) → at_end o (λ e c. buffers_used c.peer (frames_of_size (length bytes)) ∷ []) ≡ at_end o (λ e c. buffers_used c.peer (frames_needed (packet c.number bytes)) ∷ [])
packet-buffers None bytes = refl
packet-buffers (Some e) bytes = go e.channel
  where
    go : (c : Option ChannelEnd) → at_channel c (λ d. buffers_used d.peer (frames_of_size (length bytes)) ∷ []) ≡ at_channel c (λ d. buffers_used d.peer (frames_needed (packet d.number bytes)) ∷ [])
    go None = refl
    go (Some c) = ap (λ n. buffers_used c.peer n ∷ []) (sym (packet-frames c.number bytes))

-- ---- what success changes

pub send_changes : (s : DomainState) (node port : ℕ) (to : EndName) (priority : ℕ) (bytes : List ℕ) → changed s (buffers_used to.domain (frames_of_size (length bytes))) ≡ changed_all s (success_changes s node (send_from port to priority bytes))
send_changes s node port to priority bytes = ap (λ n. changed s (buffers_used to.domain n)) (sym (message-frames priority bytes))

pub packet_changes : (s : DomainState) (node port : ℕ) (bytes : List ℕ)
    → changed_all s (at_end (live_at s (local node port)) (λ e c. buffers_used c.peer (frames_of_size (length bytes)) ∷ [])) ≡ changed_all s (success_changes s node (packet_from port bytes))
packet_changes s node port bytes = ap (changed_all s) (packet-buffers (live_at s (local node port)) bytes)

-- ---- to whom they go

heads : (x : Post) (ss : List (List ℕ)) (n : ℕ) → length ss ≡ n → 0 < n → headed (map (put_as x) ss ++ []) ≡ Some (x.peer, n)
heads x [] n is some = absurd (omega arith)
heads x (s ∷ ss) n is some = ap (λ m. Some (x.peer, m)) (omega (arith, is, length-append (map (put_as x) ss) [], length-map ss (put_as x)))

message-headed : (peer source destination priority : ℕ) (bytes : List ℕ) → headed (flat_map puts_of (post peer source destination (msg priority bytes) ∷ [])) ≡ Some (peer, frames_of_size (length bytes))
message-headed peer source destination priority bytes = heads (post peer source destination (msg priority bytes)) (item_spellings (of_message priority) bytes) (frames_of_size (length bytes)) (item-frames (of_message priority) bytes) (some-frames (length bytes))

packet-headed : (o : Option Endpoint) (bytes : List ℕ) → headed (flat_map puts_of (over_channel o (channel_in o) (λ number. packet number bytes))) ≡ option_map (λ c. (c.peer, frames_of_size (length bytes))) (channel_in o)
packet-headed None bytes = refl
packet-headed (Some e) bytes = go e.channel
  where
    go : (c : Option ChannelEnd) → headed (flat_map puts_of (over_channel (Some e) c (λ number. packet number bytes))) ≡ option_map (λ d. (d.peer, frames_of_size (length bytes))) c
    go None = refl
    go (Some c) = heads (post c.peer e.address c.peer_address (packet c.number bytes)) (item_spellings (of_packet c.number) bytes) (frames_of_size (length bytes)) (item-frames (of_packet c.number) bytes) (some-frames (length bytes))

pub send_headed : (s : DomainState) (node port : ℕ) (to : EndName) (priority : ℕ) (bytes : List ℕ) → headed (success_puts s node (send_from port to priority bytes)) ≡ Some (to.domain, frames_of_size (length bytes))
send_headed s node port to priority bytes = message-headed to.domain (unwrap_or (address_at s (local node port)) 0) (unwrap_or (address_of s to) 0) priority bytes

pub packet_headed : (s : DomainState) (node port : ℕ) (bytes : List ℕ) → headed (success_puts s node (packet_from port bytes)) ≡ option_map (λ c. (c.peer, frames_of_size (length bytes))) (channel_at s (local node port))
packet_headed s node port bytes = packet-headed (live_at s (local node port)) bytes
