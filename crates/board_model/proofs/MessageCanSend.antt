-- All that a call puts goes to a peer: where no word of refusal holds, a lane has a buffer for it.
use Rattle.board_model.proofs.PartLetters.{some-frames}
use Rattle.std.proofs.lemmas.Bool.{lt-ltb}
use Rattle.mc_base.specs.Pieces.{spellings}
use Rattle.std.proofs.Common.{◌≡◌, ℕ, ◌+◌, true, false, List, [], ◌∷◌, map, Option, Some, None, refl, sym, ap, ◌∙◌, length, suc, ◌++◌, arith, subst}
use Rattle.std.specs.Prelude.{find, option_map, is_some, unwrap_or, nat_lt}
use Rattle.std.specs.List.{AllByRecursion, flat_map}
use Rattle.mc_base.specs.Letter.{PlainLetter, msg, connect, packet, scalar}
use Rattle.mc_base.specs.declared.name.EndName.{EndName}
use Rattle.mc_base.specs.declared.refusal.Refusal.{Refusal}
use Rattle.board_model.specs.DomainCall.{DomainCall, send_from, connect_from, open_at, packet_from, scalar_from, close_at, raw_to}
use Rattle.board_model.specs.State.{DomainState, ChannelEnd, Endpoint, Peer, address_at, is_numbered, live_at, channel_in, peer_of}
use Rattle.board_model.specs.Answer.{local, address_of, post, puts_of, put_as, Post, over_channel, opening_letter, closing_letter, lacks_buffers, holds, words_of, refusal, success_puts, puts, unless_refused}
use Rattle.board_model.proofs.MessageLists.{get-position}
use Rattle.board_model.proofs.MessageAlls.{none-passes}

some_free : (o : Option Peer) → nat_lt (unwrap_or (option_map (λ p. p.free) o) 0) 1 ≡ false → is_some o ≡ true
some_free None h = absurd cc
some_free (Some p) h = refl

-- a frame goes to a peer
abbrev pub HasPeer : DomainState → ℕ × List ℕ → Type 0
HasPeer s p = is_some (find (is_numbered p.0) s.peers) ≡ true

one_found : (s : DomainState) (p : ℕ × List ℕ) → lacks_buffers s (p ∷ []) ≡ false → AllByRecursion (HasPeer s) (p ∷ [])
one_found s p room = (ap (λ o. is_some o) (sym (get-position (is_numbered p.0) s.peers)) ∙ some_free (peer_of s p.0) room, tt)

-- so do all frames of a letter
some_found : (o : Option Peer) (n : ℕ) → nat_lt (unwrap_or (option_map (λ p. p.free) o) 0) (suc n) ≡ false → is_some o ≡ true
some_found None n h = let less : nat_lt 0 (suc n) ≡ true = lt-ltb 0 (suc n) (omega arith) in absurd cc
some_found (Some p) n h = refl

all_found : (s : DomainState) (x : Post) (ps : List (List ℕ)) → is_some (find (is_numbered x.peer) s.peers) ≡ true → AllByRecursion (HasPeer s) (map (put_as x) ps ++ [])
all_found s x [] there = tt
all_found s x (p ∷ ps) there = (there, all_found s x ps there)

frames_found : (s : DomainState) (x : Post) (ps : List (List ℕ)) → lacks_buffers s (map (put_as x) ps ++ []) ≡ false → AllByRecursion (HasPeer s) (map (put_as x) ps ++ [])
frames_found s x [] room = tt
frames_found s x (p ∷ ps) room = all_found s x (p ∷ ps) (ap (λ o. is_some o) (sym (get-position (is_numbered x.peer) s.peers)) ∙ some_found (peer_of s x.peer) (length (map (put_as x) ps ++ [])) room)

post_found : (s : DomainState) (x : Post) → lacks_buffers s (flat_map puts_of (x ∷ [])) ≡ false → AllByRecursion (HasPeer s) (flat_map puts_of (x ∷ []))
post_found s x room = frames_found s x (spellings x.letter) room

over_found : (s : DomainState) (o : Option Endpoint) (c : Option ChannelEnd) (letter : ℕ → PlainLetter) → lacks_buffers s (flat_map puts_of (over_channel o c letter)) ≡ false → AllByRecursion (HasPeer s) (flat_map puts_of (over_channel o c letter))
over_found s None c letter room = tt
over_found s (Some e) None letter room = tt
over_found s (Some e) (Some c) letter room = post_found s (post c.peer e.address c.peer_address (letter c.number)) room

found_of : (s : DomainState) (node : ℕ) (call : DomainCall) (o : Option Refusal) → refusal s node call ≡ o → AllByRecursion (HasPeer s) (unless_refused o [] (success_puts s node call))
found_of s node call (Some w) is = tt
found_of s node (send_from port to priority bytes) None is = post_found s (post to.domain (unwrap_or (address_at s (local node port)) 0) (unwrap_or (address_of s to) 0) (msg priority bytes)) (none-passes (holds s node (send_from port to priority bytes)) (words_of (send_from port to priority bytes)) is).1.1.1.1.0
found_of s node (connect_from port to kind) None is = post_found s (post to.domain (unwrap_or (address_at s (local node port)) 0) (unwrap_or (address_of s to) 0) (connect (s.channels_given + 1) kind)) (none-passes (holds s node (connect_from port to kind)) (words_of (connect_from port to kind)) is).1.1.1.1.1.1.0
found_of s node (open_at port side kind) None is =
    over_found s (live_at s (local node port)) (channel_in (live_at s (local node port))) (opening_letter side) (none-passes (holds s node (open_at port side kind)) (words_of (open_at port side kind)) is).1.1.1.1.1.1.0
found_of s node (packet_from port bytes) None is =
    over_found s (live_at s (local node port)) (channel_in (live_at s (local node port))) (λ number. packet number bytes) (none-passes (holds s node (packet_from port bytes)) (words_of (packet_from port bytes)) is).1.1.1.1.1.1.1.0
found_of s node (scalar_from port bits value) None is =
    over_found s (live_at s (local node port)) (channel_in (live_at s (local node port))) (λ number. scalar number bits value) (none-passes (holds s node (scalar_from port bits value)) (words_of (scalar_from port bits value)) is).1.1.1.1.1.1.0
found_of s node (close_at port side) None is =
    over_found s (live_at s (local node port)) (channel_in (live_at s (local node port))) (closing_letter side) (none-passes (holds s node (close_at port side)) (words_of (close_at port side)) is).1.1.1.1.0
found_of s node (raw_to to bytes) None is = one_found s (to, bytes) (none-passes (holds s node (raw_to to bytes)) (words_of (raw_to to bytes)) is).1.1.0
found_of s node other None is = tt

pub puts-found : (s : DomainState) (node : ℕ) (call : DomainCall) → AllByRecursion (HasPeer s) (puts s node call)
puts-found s node call = found_of s node call (refusal s node call) refl

-- a letter has a frame, whose peer is there
first_found : (s : DomainState) (x : Post) → AllByRecursion (HasPeer s) (map (put_as x) (spellings x.letter) ++ []) → is_some (find (is_numbered x.peer) s.peers) ≡ true
first_found s x all = let some = some-frames x.letter in (subst (λ ps. AllByRecursion (HasPeer s) (map (put_as x) ps ++ [])) some.are all).0

pub send-found : (s : DomainState) (node port : ℕ) (to : EndName) (priority : ℕ) (bytes : List ℕ) → refusal s node (send_from port to priority bytes) ≡ None → is_some (find (is_numbered to.domain) s.peers) ≡ true
send-found s node port to priority bytes is = first_found s (post to.domain (unwrap_or (address_at s (local node port)) 0) (unwrap_or (address_of s to) 0) (msg priority bytes)) (found_of s node (send_from port to priority bytes) None is)
