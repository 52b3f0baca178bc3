-- The answer of a call is one of an entry, in each state of a run.
use Rattle.std.proofs.Common.{◌≡◌, ℕ, zero, suc, ◌+◌, ◌^◌, ◌<◌, ◌≤◌, Bool, true, false, List, [], ◌∷◌, length, Option, Some, None, option_map, position, slice_get, refl, sym, subst, arith}
use Rattle.std.specs.List.{AllByRecursion}
use Rattle.std.proofs.lemmas.Bool.{leb-false}
use Rattle.byteorder.specs.Endian.{little_number}
use Rattle.mc_base.specs.Letter.{bytes_of_bits}
use Rattle.mc_base.specs.Limits.{creation_limit, channel_limit}
use Rattle.mc_base.specs.declared.channel.Bits.{Bits}
use Rattle.mc_base.specs.declared.channel.Bits.TheVariants.{B8, B16, B32, B64}
use Rattle.mc_base.specs.declared.channel.Side.TheVariants.{Sender, Receiver}
use Rattle.mc_base.specs.declared.name.Local.{Local}
use Rattle.mc_base.specs.declared.refusal.Refusal.{Refusal}
use Rattle.board_model.specs.Answer.{local, is_complete_at, first_complete, place_said, holds, words_of, refusal, lent_whole, value_of, given, given_to, result_by, result_of, success, answer_by, answer}
use Rattle.board_model.specs.Choice.{best, oldest}
use Rattle.board_model.specs.DomainCall.{DomainCall, create_at, delete_at, lookup_of, send_from, receive_at, request_at, available_at, connect_from, open_at, packet_from, lend_at, packet_request_at, release_of, scalar_from, scalar_at, close_at, test_of, wait_for, cancel_of, raw_to, turn_alone}
use Rattle.board_model.specs.State.{Item, Endpoint, Asked, name_of, channel_of, message_at, packet_at, Outcome, has_address, is_accepted, is_rejected, has_item, has_ended, Request, DomainState, is_at, live_at, queue_in, queue_at, request_at_place}
use Rattle.board_model.proofs.HonestDeeds.{NoWord}
use Rattle.board_model.proofs.ListsCounts.{position-tells}
use Rattle.board_model.proofs.MessageAlls.{none-passes, all-at}
use Rattle.board_model.proofs.MessageLists.{get-position}
use Rattle.mc_journal.specs.EntryText.{AreBytes, FitsResult, FitsPlace, FitsAnswer}
use Rattle.report_laws.proofs.DeedsFit.{FitsHeld, best-fits, oldest-fits, queue-fits}
use Rattle.report_laws.proofs.ReadingsFit.{bytes-take, little-number-fits}
use Rattle.report_laws.proofs.StatesFit.{FitsItem, FitsOutcome, FitsRequest, Fits}

-- a wait names at most eight requests
abbrev pub AsksFew : DomainCall → Type 0
AsksFew (wait_for requests says_place) = length requests ≤ 8
AsksFew other = Unit {0}

-- ---- contents

given-fits : (max : ℕ) (o : Option Item) → FitsHeld o → FitsAnswer (given max o)
given-fits max None fits = tt
given-fits max (Some i) fits = (fits.size, bytes-take max i.content fits.all)

whole-fits : (o : Option Item) → FitsHeld o → FitsAnswer (lent_whole o)
whole-fits None fits = tt
whole-fits (Some i) fits = (fits.size, fits.all)

number-fits : (bits : Bits) (content : List ℕ) → AreBytes content → little_number (bytes_of_bits bits) content < 2 ^ 64
number-fits B8 content all = omega (arith, little-number-fits 1 content all)
number-fits B16 content all = omega (arith, little-number-fits 2 content all)
number-fits B32 content all = omega (arith, little-number-fits 4 content all)
number-fits B64 content all = omega (arith, little-number-fits 8 content all)

value-fits : (bits : Bits) (o : Option Item) → FitsHeld o → FitsAnswer (value_of bits o)
value-fits bits None fits = tt
value-fits bits (Some i) fits = number-fits bits i.content fits.all

asked-fits : (asked : Asked) (bytes : List ℕ) → AreBytes bytes → AreBytes (given_to asked bytes)
asked-fits (message_at at max) bytes all = bytes-take max bytes all
asked-fits (packet_at at) bytes all = all
asked-fits (name_of n) bytes all = all
asked-fits (channel_of n) bytes all = all

result-fits : (asked : Asked) (o : Option Outcome) → FitsOutcome o → FitsResult (result_by asked o)
result-fits asked None fits = tt
result-fits asked (Some (has_address address)) fits = fits
result-fits asked (Some is_accepted) fits = tt
result-fits asked (Some (is_rejected reason)) fits = tt
result-fits asked (Some (has_item i)) fits = (fits.size, asked-fits asked i.content fits.all)
result-fits asked (Some (has_ended word)) fits = tt

-- ---- places

some-below : {A : Type 0} (xs : List A) (i : ℕ) (x : A) → slice_get xs i ≡ Some x → i < length xs
some-below [] i x e = absurd cc
some-below (y ∷ ys) zero x e = omega arith
some-below (y ∷ ys) (suc i) x e = let less = some-below ys i x e in omega (arith, less)

module _ (s : DomainState) (h : Fits s) (short : (at : Local) → length (queue_at s at) < 2 ^ 64) where
  place-fits : (requests : List (Option ℕ)) (says_place : Bool) → length requests ≤ 8 → FitsPlace (place_said s requests says_place)
  place-fits requests false few = tt
  place-fits requests true few = go (position (is_complete_at s) requests) refl
    where
      go : (o : Option ℕ) → position (is_complete_at s) requests ≡ o → FitsPlace (option_map (λ i. i + 1) o)
      go None is = tt
      go (Some i) is =
          let found = position-tells (is_complete_at s) requests i is in
          let less = some-below requests i found.0 found.1 in
          omega (arith, less, few)

  request-fits : (place : Option ℕ) → FitsResult (result_of (request_at_place s place))
  request-fits None = tt
  request-fits (Some i) = go (slice_get s.requests i) refl
    where
      go : (o : Option Request) → slice_get s.requests i ≡ o → FitsResult (result_of o)
      go None at = tt
      go (Some r) at = result-fits r.asked r.outcome (all-at FitsRequest s.requests i r h.requests at)

  -- ---- queues

  items-fit : (at : Local) → AllByRecursion FitsItem (queue_at s at)
  items-fit at = subst (λ o. AllByRecursion FitsItem (queue_in o)) (sym (get-position (is_at at) s.endpoints)) (go (live_at s at) refl)
    where
      go : (o : Option Endpoint) → live_at s at ≡ o → AllByRecursion FitsItem (queue_in o)
      go None live = tt
      go (Some e) live = queue-fits s h at e live

  -- ---- calls

  success-fits : (node : ℕ) (call : DomainCall) → AsksFew call → NoWord s node call → FitsAnswer (success s node call)
  success-fits node (create_at port) few no_word = let less : s.endpoints_given < 60000 = leb-false creation_limit s.endpoints_given no_word.1.1.1.0 in omega (arith, less)
  success-fits node (delete_at port) few no_word = short (local node port)
  success-fits node (lookup_of name) few no_word = h.serials
  success-fits node (send_from port to priority bytes) few no_word = tt
  success-fits node (receive_at port max) few no_word = given-fits max (best (λ i. i.priority) (queue_at s (local node port))) (best-fits (queue_at s (local node port)) (items-fit (local node port)))
  success-fits node (request_at port max) few no_word = h.serials
  success-fits node (available_at port) few no_word = short (local node port)
  success-fits node (connect_from port to kind) few no_word = let less : s.channels_given < 65535 = leb-false channel_limit s.channels_given no_word.1.1.1.1.0 in (h.serials, omega (arith, less))
  success-fits node (open_at port side kind) few no_word = tt
  success-fits node (packet_from port bytes) few no_word = tt
  success-fits node (lend_at port) few no_word = whole-fits (oldest (queue_at s (local node port))) (oldest-fits (queue_at s (local node port)) (items-fit (local node port)))
  success-fits node (packet_request_at port) few no_word = h.serials
  success-fits node (release_of place) few no_word = tt
  success-fits node (scalar_from port bits value) few no_word = tt
  success-fits node (scalar_at port bits) few no_word = value-fits bits (oldest (queue_at s (local node port))) (oldest-fits (queue_at s (local node port)) (items-fit (local node port)))
  success-fits node (close_at port Sender) few no_word = tt
  success-fits node (close_at port Receiver) few no_word = short (local node port)
  success-fits node (test_of request) few no_word = (tt, request-fits request)
  success-fits node (wait_for requests says_place) few no_word = (place-fits requests says_place few, request-fits (first_complete s requests))
  success-fits node (cancel_of request) few no_word = tt
  success-fits node (raw_to to bytes) few no_word = tt
  success-fits node turn_alone few no_word = tt

  pub answer-fits : (node : ℕ) (call : DomainCall) → AsksFew call → FitsAnswer (answer s node call)
  answer-fits node call few = go (refusal s node call) refl
    where
      go : (o : Option Refusal) → refusal s node call ≡ o → FitsAnswer (answer_by o (success s node call))
      go (Some word) is = tt
      go None is = success-fits node call few (none-passes (holds s node call) (words_of call) is)
