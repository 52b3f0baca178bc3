-- Numbers of a domain's run that fit their types, as those of a board's run do.
-- Source: docs/PROFILE.md, "Lanes": a domain holds no more buffers of a lane than the lane has.
use Rattle.std.specs.Prelude.{ℕ, ◌<◌, ◌^◌, sum_by, IsSome}
use Rattle.board_model.specs.declared.scenario.Scenario.{Scenario}
use Rattle.board_model.specs.Scenario.{script}
use Rattle.board_model.specs.Journal.{joined}
use Rattle.board_model.specs.State.{DomainState, peer_of, queued_from, lent_from}
use Rattle.board_model.specs.Tallies.{deleted_in}
use Rattle.board_model.specs.SerialRun.{Station}
use Rattle.board_model.specs.Queues.{messages_at}

-- what a domain in this state holds
pub record HoldsFew (s : DomainState) : Type 0 where
  pub messages : sum_by messages_at s.endpoints < 2 ^ 32
  pub queued : (n : ℕ) → IsSome (peer_of s n) → queued_from n s < 2 ^ 32
  pub lent : (n : ℕ) → IsSome (peer_of s n) → lent_from n s < 2 ^ 32

-- and how many messages its deletes dropped
pub record IsSmall (s : Scenario) (t : Station) : Type 0 where
  pub deleted : sum_by (deleted_in (script s t.line.domain)) (joined t.entries) < 2 ^ 64
  pub held : HoldsFew t.run.state
