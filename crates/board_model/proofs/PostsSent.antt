-- Which letters a call puts: no accept and no reject; and a Connect has the next number, which is one that a domain may give.
use Rattle.std.proofs.Common.{◌≡◌, ℕ, ◌+◌, ◌<◌, Bool, true, false, List, [], ◌∷◌, Option, None, Some, unwrap_or, refl}
use Rattle.std.specs.Prelude.{is_none, ◌==◌}
use Rattle.std.specs.List.{AllByRecursion, flat_map}
use Rattle.std.proofs.lemmas.Bool.{leb-false}
use Rattle.mc_base.specs.Limits.{channel_limit}
use Rattle.mc_base.specs.Fault.{fault}
use Rattle.mc_base.specs.Letter.{PlainLetter, msg, connect, accept, reject, packet, scalar}
use Rattle.mc_base.specs.declared.channel.Side.{Side}
use Rattle.mc_base.specs.declared.channel.Side.TheVariants.{Sender, Receiver}
use Rattle.mc_base.specs.declared.refusal.Refusal.{Refusal}
use Rattle.board_model.specs.Answer.{local, address_of, channel_at, Post, post, puts_of, over_channel, opening_letter, closing_letter, success_puts, puts, holds, words_of, refusal, unless_refused}
use Rattle.board_model.specs.DomainCall.{DomainCall, send_from, connect_from, open_at, packet_from, scalar_from, close_at, raw_to}
use Rattle.board_model.specs.State.{ChannelEnd, Endpoint, DomainState, address_at, live_at}
use Rattle.board_model.proofs.DeedRuns.{frames_if, frames_to}
use Rattle.board_model.proofs.MessageAlls.{all-append}
use Rattle.board_model.proofs.OrderLookups.{none_holds}

abbrev pub MaySend : DomainState → PlainLetter → Type 0
MaySend s (connect m kind) = (m ≡ s.channels_given + 1) × (s.channels_given < channel_limit)
MaySend s (accept m) = ⊥
MaySend s (reject m why) = ⊥
MaySend s other = Unit {0}

module _ (P : ℕ × List ℕ → Type 0) (s : DomainState) (node : ℕ) (each : (p : Post) → MaySend s p.letter → AllByRecursion P (puts_of p)) (raw : (to : ℕ) (bytes : List ℕ) → is_none (fault bytes) ≡ false → P (to, bytes)) where
  one_post : (p : Post) → MaySend s p.letter → AllByRecursion P (flat_map puts_of (p ∷ []))
  one_post p may = all-append P (puts_of p) [] (each p may) tt

  over_all : (x : Option Endpoint) (c : Option ChannelEnd) (l : ℕ → PlainLetter) → ((m : ℕ) → MaySend s (l m)) → AllByRecursion P (flat_map puts_of (over_channel x c l))
  over_all None c l may = tt
  over_all (Some e) None l may = tt
  over_all (Some e) (Some c) l may = one_post (post c.peer e.address c.peer_address (l c.number)) (may c.number)

  may_open : (side : Side) (m : ℕ) → MaySend s (opening_letter side m)
  may_open Sender m = tt
  may_open Receiver m = tt

  may_close : (side : Side) (m : ℕ) → MaySend s (closing_letter side m)
  may_close Sender m = tt
  may_close Receiver m = tt

  success_all : (call : DomainCall) → AllByRecursion (λ w. holds s node call w ≡ false) (words_of call) → AllByRecursion P (success_puts s node call)
  success_all (send_from port to priority bytes) no_word = one_post (post to.domain (unwrap_or (address_at s (local node port)) 0) (unwrap_or (address_of s to) 0) (msg priority bytes)) tt
  success_all (connect_from port to kind) no_word =
      one_post (post to.domain (unwrap_or (address_at s (local node port)) 0) (unwrap_or (address_of s to) 0) (connect (s.channels_given + 1) kind)) (refl, leb-false channel_limit s.channels_given no_word.1.1.1.1.0)
  success_all (open_at port side kind) no_word = over_all (live_at s (local node port)) (channel_at s (local node port)) (opening_letter side) (may_open side)
  success_all (packet_from port bytes) no_word = over_all (live_at s (local node port)) (channel_at s (local node port)) (λ m. packet m bytes) (λ m. tt)
  success_all (scalar_from port bits value) no_word = over_all (live_at s (local node port)) (channel_at s (local node port)) (λ m. scalar m bits value) (λ m. tt)
  success_all (close_at port side) no_word = over_all (live_at s (local node port)) (channel_at s (local node port)) (closing_letter side) (may_close side)
  success_all (raw_to to bytes) no_word = (raw to bytes no_word.1.0, tt)
  success_all other no_word = tt

  -- what holds of each letter that may be sent, and of each raw frame, holds of all that a call puts
  pub puts_all : (call : DomainCall) → AllByRecursion P (puts s node call)
  puts_all call = go (refusal s node call) refl
    where
      go : (r : Option Refusal) → refusal s node call ≡ r → AllByRecursion P (unless_refused r [] (success_puts s node call))
      go (Some w) h = tt
      go None h = success_all call (none_holds (holds s node call) (words_of call) h)

-- and of those that go to a peer
pub frames_all : (P : List ℕ → Type 0) (p : ℕ) (ps : List (ℕ × List ℕ)) → AllByRecursion (λ q. P q.1) ps → AllByRecursion P (frames_to p ps)
frames_all P p [] all = tt
frames_all P p (q ∷ ps) all = all-append P (frames_if (q.0 == p) (q.1 ∷ [])) (frames_to p ps) (one (q.0 == p)) (frames_all P p ps all.1)
  where
    one : (b : Bool) → AllByRecursion P (frames_if b (q.1 ∷ []))
    one true = (all.0, tt)
    one false = tt
