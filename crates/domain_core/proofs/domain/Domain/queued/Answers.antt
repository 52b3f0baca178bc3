use Rattle.std.proofs.Common.{◌∙◌, ap, sym}
use Rattle.board_model.specs.Queues.{queued_on}
use Rattle.domain_parts.specs.Parts.{state_of}
use Rattle.board_model.proofs.UnnamedCounts.{queue-unnamed-on}
use Rattle.domain_core.proofs.domain.Domain.queued.Goals as goal

pub returns : goal.returns
returns g c =
    c.queued_on.ensures
    ∙ sym (queue-unnamed-on c.args.owner c.args.number (state_of c.self.inside.inside.parts))
    ∙ ap (λ x. queued_on c.args.owner c.args.number x.state) c.self.view_is
