use Rattle.std.proofs.Common.{List, map, subst}
use Rattle.board_numbers.specs.ToldChannels.{TellChannels}
use Rattle.board_runner.specs.declared.station.Station.{Station}
use Rattle.board_runner.specs.EndedStations.{TellStations, ended_station}
use Rattle.board_runner.proofs.ended.take_apart.Goals as goal

pub returns-clause-tallies : goal.returns-clause-tallies
returns-clause-tallies c = subst (λ (sts : List Station). TellStations sts c.in_ok-tallies.tallies) c.deref.ensures.value c.in_ok-tallies.ensures

pub returns-clause-channels : goal.returns-clause-channels
returns-clause-channels c = subst (λ (sts : List Station). TellChannels c.args.scenario.now (map ended_station sts) c.in_ok-channels.channels) c.deref-2.ensures.value c.in_ok-channels.ensures
