-- Each letter that a call posts is read back: it goes from an address of the domain's own to one that it knows, and a channel's number
-- is one.
use Rattle.std.proofs.Common.{◌≡◌, ℕ, ◌+◌, ◌*◌, ◌≤◌, ◌<◌, ◌^◌, Bool, true, false, not, List, find, length, Option, Some, None, refl, sym, ◌∙◌, subst, arith}
use Rattle.std.specs.Prelude.{is_some, option_map, unwrap_or, nat_lt, ◌||◌}
use Rattle.std.specs.List.{AllByRecursion}
use Rattle.std.proofs.lemmas.Bool.{leb-false, ltb-false}
use Rattle.mc_base.specs.Limits.{item_size, channel_limit, last_priority}
use Rattle.mc_base.specs.Letter.{PlainLetter, bytes_of_bits, msg, connect, packet, scalar, IsChannel}
use Rattle.mc_base.specs.declared.name.Local.{Local}
use Rattle.mc_base.specs.declared.name.EndName.{EndName}
use Rattle.mc_base.specs.declared.channel.Side.{Side}
use Rattle.mc_base.specs.declared.channel.Side.TheVariants.{Sender, Receiver}
use Rattle.board_model.specs.DomainCall.{DomainCall, create_at, send_from, connect_from, open_at, packet_from, scalar_from, close_at}
use Rattle.board_model.specs.State.{ChannelEnd, Endpoint, DomainState, is_at, place_at, address_at, live_at, channel_in}
use Rattle.board_model.specs.Answer.{local, address_of, over_channel, over_end, opening_letter, closing_letter, Post, post, success_posts}
use Rattle.board_model.proofs.MessageAlls.{all-found}
use Rattle.board_model.proofs.MessageLists.{get-position}
use Rattle.board_model.proofs.StateEnds.{there_is}
use Rattle.board_model.proofs.PartLetters.{FramesSaid, CanGo, letter_frames, letter_said}
use Rattle.board_model.proofs.HonestSound.{own, Sound}
use Rattle.board_model.proofs.HonestDeeds.{NoWord}
use Rattle.board_model.proofs.HonestEnds.{FarReal, FarEnds, address_holds}

-- an address that a frame can be sent to, so that it is read back
pub record CanReach (a : ℕ) : Type 0 where
  pub above : 1024 ≤ a
  pub below : a < 2 ^ 32

neither : (a b : Bool) → (a || b) ≡ false → (a ≡ false) × (b ≡ false)
neither true b none = absurd cc
neither false b none = (refl, none)

-- a call as a lawful scenario has it: the port of an endpoint that is made, and a scalar's value fit their bits
abbrev pub FitsCall : DomainCall → Type 0
FitsCall (create_at port) = port < 2 ^ 16
FitsCall (send_from port to priority bytes) = priority ≤ last_priority
FitsCall (scalar_from port bits value) = value < 2 ^ (8 * bytes_of_bits bits)
FitsCall other = Unit {0}

-- the frames say the letter
abbrev pub Reads : Post → Type 0
Reads x = FramesSaid x.source x.destination x.letter (letter_frames x.source x.destination x.letter)

reads_post : (x : Post) → CanReach x.source → CanReach x.destination → CanGo x.letter → Reads x
reads_post x from into has = letter_said x.source x.destination from.below into.above into.below x.letter has

module _ (made : ℕ) (known : ℕ → ℕ → Type 0) (ns : List ℕ) (reach : (q a : ℕ) → known q a → CanReach a) (s : DomainState) (sound : Sound made known ns s) where
  pub own_reach : (p : Endpoint → Bool) (e : Endpoint) → find p s.endpoints ≡ Some e → CanReach e.address
  own_reach p e is =
      let k = own p 1024 (1024 + s.endpoints_given) s.endpoints e sound.rise is in
      let top : e.address < 1024 + s.endpoints_given = k.below in
      let most : s.endpoints_given ≤ 60000 = sound.few in
      record { above = k.above; below = omega arith }

  pub address_reach : (n : EndName) → not (is_some (address_of s n)) ≡ false → CanReach (unwrap_or (address_of s n) 0)
  address_reach n there = address_holds made known ns s sound (λ q a. CanReach a) own_reach reach n there

  here_reach : (at : Local) → not (is_some (place_at s at)) ≡ false → CanReach (unwrap_or (address_at s at) 0)
  here_reach at there =
      let e = there_is s at there in
      subst (λ o. CanReach (unwrap_or (option_map (λ (k : Endpoint). k.address) o) 0)) (sym (get-position (is_at at) s.endpoints ∙ e.1)) (own_reach (is_at at) e.0 e.1)

  module _ (far : FarEnds known s) where
    over_reads : (at : Local) (letter : ℕ → PlainLetter) → ((n : ℕ) → IsChannel n → CanGo (letter n)) → (x : Option Endpoint) → live_at s at ≡ x → (c : Option ChannelEnd) → FarReal known c → AllByRecursion Reads (over_channel x c letter)
    over_reads at letter has None found c real = tt
    over_reads at letter has (Some e) found None real = tt
    over_reads at letter has (Some e) found (Some c) real = (reads_post (post c.peer e.address c.peer_address (letter c.number)) (own_reach (is_at at) e found) (reach c.peer c.peer_address real.0) (has c.number real.1), tt)

    end_reads : (at : Local) (letter : ℕ → PlainLetter) → ((n : ℕ) → IsChannel n → CanGo (letter n)) → AllByRecursion Reads (over_end s at letter)
    end_reads at letter has = go (live_at s at) refl
      where
        go : (x : Option Endpoint) → live_at s at ≡ x → AllByRecursion Reads (over_channel x (channel_in x) letter)
        go None found = tt
        go (Some e) found = over_reads at letter has (Some e) found e.channel (all-found (λ (k : Endpoint). FarReal known k.channel) (is_at at) s.endpoints e far found)

    opening_spelled : (side : Side) (n : ℕ) → IsChannel n → CanGo (opening_letter side n)
    opening_spelled Sender n is = is
    opening_spelled Receiver n is = is

    closing_spelled : (side : Side) (n : ℕ) → IsChannel n → CanGo (closing_letter side n)
    closing_spelled Sender n is = is
    closing_spelled Receiver n is = is

    pub posts_read : (node : ℕ) (call : DomainCall) → FitsCall call → NoWord s node call → AllByRecursion Reads (success_posts s node call)
    posts_read node (send_from port to priority bytes) fits no_word =
        (reads_post (post to.domain (unwrap_or (address_at s (local node port)) 0) (unwrap_or (address_of s to) 0) (msg priority bytes)) (here_reach (local node port) no_word.0) (address_reach to no_word.1.1.0) (fits, ltb-false item_size (length bytes) (neither (nat_lt item_size (length bytes)) _ no_word.1.1.1.0).0), tt)
    posts_read node (connect_from port to kind) fits no_word =
        let less : s.channels_given < 65535 = leb-false channel_limit s.channels_given no_word.1.1.1.1.0 in
        (reads_post (post to.domain (unwrap_or (address_at s (local node port)) 0) (unwrap_or (address_of s to) 0) (connect (s.channels_given + 1) kind)) (here_reach (local node port) no_word.0) (address_reach to no_word.1.1.1.0) (omega arith, omega arith), tt)
    posts_read node (open_at port side kind) fits no_word = end_reads (local node port) (opening_letter side) (opening_spelled side)
    posts_read node (packet_from port bytes) fits no_word = end_reads (local node port) (λ number. packet number bytes) (λ n is. (is, ltb-false item_size (length bytes) (neither (nat_lt item_size (length bytes)) _ no_word.1.1.1.1.1.1.0).0))
    posts_read node (scalar_from port bits value) fits no_word = end_reads (local node port) (λ number. scalar number bits value) (λ n is. (is, fits))
    posts_read node (close_at port side) fits no_word = end_reads (local node port) (closing_letter side) (closing_spelled side)
    posts_read node other fits no_word = tt
