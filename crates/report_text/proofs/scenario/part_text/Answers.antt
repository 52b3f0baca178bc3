use Rattle.std.proofs.Common.{ap, ◌∙◌}
use Rattle.report_text.specs.TextLines.{lines_in}
use Rattle.report_text.proofs.TextFronts.{longest-behind, parted}
use Rattle.report_text.proofs.scenario.part_text.Goals as goal

pub returns-clause-front : goal.returns-clause-front
returns-clause-front c = ap lines_in c.split_at.ensures.front ∙ (parted c.args.text.now c.front_size-bytes.result.0 c.front_size-bytes.ensures.bytes).front

pub returns-clause-behind : goal.returns-clause-behind
returns-clause-behind c = ap lines_in c.split_at.ensures.back ∙ (parted c.args.text.now c.front_size-bytes.result.0 c.front_size-bytes.ensures.bytes).behind

pub returns-clause-fits : goal.returns-clause-fits
returns-clause-fits c = longest-behind c.args.text.now c.split_at.result.1.now (ap lines_in c.split_at.ensures.back ∙ (parted c.args.text.now c.front_size-bytes.result.0 c.front_size-bytes.ensures.bytes).behind)
