-- What a domain does depends on no name of a frame: in two states that differ in names alone a call has the same answer and the same puts, and its
-- effects differ in names alone.
-- Source: docs/PROFILE.md, "Messages".
use Rattle.std.specs.Prelude.{◌≡◌, ℕ}
use Rattle.board_model.specs.DomainCall.{DomainCall}
use Rattle.board_model.specs.State.{DomainState}
use Rattle.board_model.specs.Renamed.{renamed}
use Rattle.board_model.specs.Answer.{answer, puts}
use Rattle.board_model.specs.CallChanges.{effect}

pub record HangsOnNoName (names : ℕ → ℕ → ℕ) (s : DomainState) (node : ℕ) (call : DomainCall) : Type 0 where
  pub answers : answer (renamed names s) node call ≡ answer s node call
  pub puts_same : puts (renamed names s) node call ≡ puts s node call
  pub effects : renamed names (effect s node call) ≡ effect (renamed names s) node call

abbrev pub CallsHangOnNoName : Type 0
CallsHangOnNoName = (names : ℕ → ℕ → ℕ) (s : DomainState) (node : ℕ) (call : DomainCall) → HangsOnNoName names s node call
