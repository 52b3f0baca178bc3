-- The messages of a log, by what a run's deeds send and receive.
use Rattle.std.proofs.Common.{◌≡◌, ℕ, [], refl}
use Rattle.mc_base.specs.declared.refusal.Refusal.{Refusal}
use Rattle.board_model.specs.declared.scenario.Call.{Call}
use Rattle.board_model.specs.declared.scenario.Call.TheVariants.{MsgRecv, MsgSend}
use Rattle.board_model.specs.declared.scenario.Scenario.{Scenario}
use Rattle.board_model.specs.Journal.{PlainAnswer, agrees, gives, refuses}
use Rattle.board_model.specs.State.{DomainState}
use Rattle.board_model.specs.Labels.{Labels, call_of}
use Rattle.board_model.specs.Deeds.{calls}
use Rattle.board_model.specs.Run.{IsDomainRun}
use Rattle.board_model.specs.Board.{DomainJournal}
use Rattle.board_model.proofs.LogDeeds.{Collects, log-collects}
use Rattle.call_logs.specs.LogMessages.{received_by, sent_by}
use Rattle.call_logs.specs.MessageDeeds.{sent_in, received_in, HasMessages}

same_sent : (s t : DomainState) (labels : Labels) (node : ℕ) (call : Call) (a : PlainAnswer) → sent_in s (calls node (call_of labels t call) a) ≡ sent_by call a
same_sent s t labels node (MsgSend port to priority bytes) agrees = refl
same_sent s t labels node (MsgSend port to priority bytes) a = refl
same_sent s t labels node call a = refl

same_received : (s t : DomainState) (labels : Labels) (node : ℕ) (call : Call) (a : PlainAnswer) → received_in s (calls node (call_of labels t call) a) ≡ received_by call a
same_received s t labels node (MsgRecv port max) (gives size bytes) = refl
same_received s t labels node (MsgRecv port max) a = refl
same_received s t labels node call a = refl

none_sent : (call : Call) (w : Refusal) → sent_by call (refuses w) ≡ []
none_sent (MsgSend port to priority bytes) w = refl
none_sent call w = refl

none_received : (call : Call) (w : Refusal) → received_by call (refuses w) ≡ []
none_received (MsgRecv port max) w = refl
none_received call w = refl

sends_collect : Collects sent_in sent_by
sends_collect = record { back = λ s p n. refl; owed = λ s p f. refl; ahead = λ s p n. refl; took = λ s p name f w. refl; same = same_sent; refused = none_sent }

receives_collect : Collects received_in received_by
receives_collect = record { back = λ s p n. refl; owed = λ s p f. refl; ahead = λ s p n. refl; took = λ s p name f w. refl; same = same_received; refused = none_received }

pub has_messages : (s : Scenario) (j : DomainJournal) → IsDomainRun s j.line j.entries → HasMessages s j
has_messages s j run = record { sends = log-collects sent_in sent_by sends_collect s j run; receives = log-collects received_in received_by receives_collect s j run }
