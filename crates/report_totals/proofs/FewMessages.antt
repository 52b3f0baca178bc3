-- The numbers of a board's run fit their types: no domain drops or queues more messages than the board accepted.
use Rattle.std.proofs.Common.{◌≡◌, ℕ, ◌+◌, ◌<◌, ◌^◌, true, List, [], ◌∷◌, length, Option, None, Some, refl, ap, arith}
use Rattle.std.specs.Prelude.{IsSome, option_map}
use Rattle.std.specs.List.{AllByRecursion}
use Rattle.board_model.specs.declared.scenario.Scenario.{Scenario}
use Rattle.board_model.specs.LinkedBoard.{IsLinkedBoard}
use Rattle.board_model.specs.State.{DomainState, Peer, peer_of, held_from}
use Rattle.board_model.specs.Run.{left_by}
use Rattle.board_model.specs.Board.{DomainJournal, IsBoardRun}
use Rattle.board_model.specs.Messages.{accepted, messages_queued, messages_in_ring}
use Rattle.board_model.specs.Drops.{dropped}
use Rattle.board_model.specs.Takings.{messages_taken}
use Rattle.board_model.proofs.ListsCounts.{count-every}
use Rattle.board_model.proofs.MessageOnce.{total}
use Rattle.board_model.proofs.KeptBoard.{no-message-lost}
use Rattle.board_model.proofs.KeptFew.{accepted-few}
use Rattle.board_model.proofs.KeptNumbers.{lost, numbers-told}
use Rattle.board_model.proofs.WholePeers.{size_at}
use Rattle.board_numbers.proofs.QueueLemmas.{queued_apart, messages-apart}
use Rattle.report_text.proofs.TurnsDue.{Sound}

few-each : {A : Type 0} (f : A → ℕ) (m : ℕ) (xs : List A) → total f xs < m → AllByRecursion (λ x. f x < m) xs
few-each f m [] few = tt
few-each f m (x ∷ xs) few = (omega (arith, few), few-each f m xs (omega (arith, few)))

module _ (s : Scenario) (js : List DomainJournal) (board : IsLinkedBoard s) (run : IsBoardRun s js) where
  accepted-all : length (accepted s js) ≡ length (messages_taken s js) + length (dropped s js) + length (messages_queued s js) + length (messages_in_ring s js)
  accepted-all = omega (arith, no-message-lost s js board run (λ m. true), count-every (accepted s js), count-every (messages_taken s js), count-every (dropped s js), count-every (messages_queued s js), count-every (messages_in_ring s js))

  few-accepted : length (accepted s js) < 2 ^ 32
  few-accepted = let few = board.lines_few in omega (arith, accepted-few s js board run, few)

  pub lost-few : AllByRecursion (λ j. lost s j < 2 ^ 32) js
  lost-few = let drops = (numbers-told s js board run).drops_some in few-each (lost s) (2 ^ 32) js (omega (arith, few-accepted, accepted-all, drops))

  pub queued-few : AllByRecursion (λ j. queued_apart (left_by s j.line j.entries).state < 2 ^ 32) js
  queued-few = few-each (λ j. queued_apart (left_by s j.line j.entries).state) (2 ^ 32) js (omega (arith, few-accepted, accepted-all, messages-apart s js board run))

-- ---- a known peer's buffers that are held

sized : (s : DomainState) (n : ℕ) → IsSome (peer_of s n) → (size : ℕ) × (size_at s n ≡ Some size)
sized s n known = go (peer_of s n) refl known
  where
    go : (o : Option Peer) → peer_of s n ≡ o → IsSome o → (size : ℕ) × (size_at s n ≡ Some size)
    go None e known = absurd cc
    go (Some p) e known = (p.size, ap (option_map (λ p. p.size)) e)

pub held-few : (peers : List ℕ) (s : DomainState) → Sound peers s → (n : ℕ) → IsSome (peer_of s n) → held_from n s < 2 ^ 32
held-few peers s sound n known =
    let size = sized s n known in
    omega (arith, sound.room n size.0 size.1, sound.small n size.0 size.1)
