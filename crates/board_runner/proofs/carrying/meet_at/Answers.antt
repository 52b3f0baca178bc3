use Rattle.board_runner.proofs.TwoPlaces.{meets-at}
use Rattle.board_runner.proofs.carrying.meet_at.Goals as goal

pub returns : goal.returns
returns g c = let cut = c.split_at_mut-before.ensures in meets-at g.T.Meets.Met c.args.low c.args.high c.args.items.now _ _ _ _ _ _ c.requires.order c.requires.within cut.value cut.front_len c.meet.ensures
