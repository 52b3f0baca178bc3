-- A call that answers with a word is refused with it.
use Rattle.std.proofs.Common.{◌≡◌, ℕ, false, List, [], ◌∷◌, length, Option, Some, None, refl, ap, ◌∙◌}
use Rattle.std.specs.Prelude.{◌==◌}
use Rattle.mc_base.specs.declared.channel.Bits.{Bits}
use Rattle.mc_base.specs.declared.channel.Side.TheVariants.{Sender, Receiver}
use Rattle.mc_base.specs.declared.refusal.Refusal.{Refusal}
use Rattle.board_model.specs.State.{Item, DomainState, queue_at}
use Rattle.board_model.specs.Choice.{best, oldest}
use Rattle.board_model.specs.DomainCall.{DomainCall, create_at, delete_at, lookup_of, send_from, receive_at, request_at, available_at, connect_from, open_at, packet_from, lend_at, packet_request_at, release_of, scalar_from, scalar_at, close_at, test_of, wait_for, cancel_of, raw_to, turn_alone}
use Rattle.board_model.specs.Journal.{PlainResult, refuses, agrees, tells, gives, connects, completes}
use Rattle.board_model.specs.Answer.{local, holds, words_of, refusal, lent_whole, value_of, given, success, answer_by, answer}
use Rattle.board_model.proofs.MessageAlls.{none-passes}
use Rattle.board_model.proofs.MessageBest.{best-none}

not_agrees : (word : Refusal) → refuses word ≡ agrees → ⊥
not_agrees word e = cc

not_tells : (word : Refusal) (n : ℕ) → refuses word ≡ tells n → ⊥
not_tells word n e = cc

not_gives : (word : Refusal) (size : ℕ) (bytes : List ℕ) → refuses word ≡ gives size bytes → ⊥
not_gives word size bytes e = cc

not_connects : (word : Refusal) (request channel : ℕ) → refuses word ≡ connects request channel → ⊥
not_connects word request channel e = cc

not_completes : (word : Refusal) (place : Option ℕ) (result : PlainResult) → refuses word ≡ completes place result → ⊥
not_completes word place result e = cc

same_word : (word other : Refusal) → refuses word ≡ refuses other → other ≡ word
same_word word other e = cc

not_empty : (q : List Item) → q ≡ [] → (length q == 0) ≡ false → ⊥
not_empty [] empty some = cc
not_empty (i ∷ q) empty some = cc

pub refused-is : (u : DomainState) (node : ℕ) (word : Refusal) (call : DomainCall) → refuses word ≡ answer u node call → refusal u node call ≡ Some word
refused-is u node word call is = go (refusal u node call) refl is
  where
    gives_none : (max : ℕ) (o : Option Item) → refuses word ≡ given max o → o ≡ None
    gives_none max None told = refl
    gives_none max (Some i) told = absurd (not_gives word _ _ told)

    lends_none : (q : List Item) → refuses word ≡ lent_whole (oldest q) → q ≡ []
    lends_none [] told = refl
    lends_none (i ∷ q) told = absurd (not_gives word _ _ told)

    value_none : (bits : Bits) (q : List Item) → refuses word ≡ value_of bits (oldest q) → q ≡ []
    value_none bits [] told = refl
    value_none bits (i ∷ q) told = absurd (not_tells word _ told)

    -- a receive that is not refused finds something queued
    never : (call : DomainCall) → refusal u node call ≡ None → refuses word ≡ success u node call → ⊥
    never (receive_at port max) none told =
        let q : List Item = queue_at u (local node port) in
        let empty : q ≡ [] = best-none (λ (i : Item). i.priority) q (gives_none max (best (λ i. i.priority) q) told) in
        not_empty q empty (none-passes (holds u node (receive_at port max)) (words_of (receive_at port max)) none).1.1.0
    never (lend_at port) none told = not_empty (queue_at u (local node port)) (lends_none (queue_at u (local node port)) told) (none-passes (holds u node (lend_at port)) (words_of (lend_at port)) none).1.1.1.1.1.1.0
    never (scalar_at port bits) none told = not_empty (queue_at u (local node port)) (value_none bits (queue_at u (local node port)) told) (none-passes (holds u node (scalar_at port bits)) (words_of (scalar_at port bits)) none).1.1.1.1.1.1.0
    never (create_at port) none told = not_tells word _ told
    never (delete_at port) none told = not_tells word _ told
    never (lookup_of name) none told = not_tells word _ told
    never (send_from port to priority bytes) none told = not_agrees word told
    never (request_at port max) none told = not_tells word _ told
    never (available_at port) none told = not_tells word _ told
    never (connect_from port to kind) none told = not_connects word _ _ told
    never (open_at port side kind) none told = not_agrees word told
    never (packet_from port bytes) none told = not_agrees word told
    never (packet_request_at port) none told = not_tells word _ told
    never (release_of place) none told = not_agrees word told
    never (scalar_from port bits value) none told = not_agrees word told
    never (close_at port Sender) none told = not_agrees word told
    never (close_at port Receiver) none told = not_tells word _ told
    never (test_of request) none told = not_completes word _ _ told
    never (wait_for requests says_place) none told = not_completes word _ _ told
    never (cancel_of request) none told = not_agrees word told
    never (raw_to to bytes) none told = not_agrees word told
    never turn_alone none told = not_agrees word told

    go : (o : Option Refusal) → refusal u node call ≡ o → refuses word ≡ answer_by o (success u node call) → refusal u node call ≡ Some word
    go (Some other) at told = at ∙ ap Some (same_word word other told)
    go None at told = absurd (never call at told)
