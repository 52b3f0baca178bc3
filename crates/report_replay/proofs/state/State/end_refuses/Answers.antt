use Rattle.std.proofs.Common.{◌≡◌, ◌∙◌, Option, ap, length}
use Rattle.mc_base.specs.declared.refusal.Refusal.{Refusal}
use Rattle.board_model.specs.State.{ChannelEnd}
use Rattle.board_model.specs.ChannelEnds.{EndCall}
use Rattle.board_model.specs.Answer.{end_call, holds_at_end}
use Rattle.report_replay.specs.PlainCalls.{plain_call}
use Rattle.report_replay.proofs.state.State.end_refuses.Goals as goal

alike : {a b : Option EndCall} {c d : Option ChannelEnd} (word : Refusal) → a ≡ b → c ≡ d → holds_at_end a c word ≡ holds_at_end b d word
alike {b = b} {c = c} word asks ends = ap (λ a. holds_at_end a c word) asks ∙ ap (λ e. holds_at_end b e word) ends

pub returns : goal.returns
returns c =
    c.end_refuses.ensures
    ∙ alike c.args.word (c.asks_of_end.ensures ∙ ap (λ q. end_call (length q) (plain_call c.args.call.now)) c.queue_at.ensures) c.channel_at.ensures
