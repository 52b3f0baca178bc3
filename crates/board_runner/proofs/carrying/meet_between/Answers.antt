use Rattle.std.proofs.Common.{arith}
use Rattle.board_runner.proofs.AllCarried.{may-meet, links-met, meets-back}
use Rattle.board_runner.proofs.carrying.meet_between.Goals as goal

pub meet_at-requires-clause-may : goal.meet_at-requires-clause-may
meet_at-requires-clause-may c = let run = c.requires.board in may-meet run.scenario run.lawful _ run.stands c.args.one c.args.two c.if-one-two.true

pub meet_at-requires-else-one-two-clause-may : goal.meet_at-requires-else-one-two-clause-may
meet_at-requires-else-one-two-clause-may c = let run = c.requires.board in may-meet run.scenario run.lawful _ run.stands c.args.two c.args.one (omega (arith, c.if-one-two.false, c.requires.apart))

pub returns-then-one-two : goal.returns-then-one-two
returns-then-one-two c = let run = c.requires.board in links-met run.scenario run.lawful _ run.stands c.args.one c.args.two c.if-one-two.true _ c.meet_at.ensures

pub returns-else-one-two : goal.returns-else-one-two
returns-else-one-two c =
    let run = c.requires.board in
    meets-back c.args.two c.args.one _ _ (links-met run.scenario run.lawful _ run.stands c.args.two c.args.one (omega (arith, c.if-one-two.false, c.requires.apart)) _ c.meet_at-else-one-two.ensures)
