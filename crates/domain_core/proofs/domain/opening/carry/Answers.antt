use Rattle.domain_core.proofs.CarriedDomains.{carried-inside, kept-inside, linked-inside, still-linked}
use Rattle.domain_core.proofs.domain.opening.carry.Goals as goal

pub carry-requires : goal.carry-requires
carry-requires g c = linked-inside c.one.inside.inside c.two.inside.inside c.args.one.now c.args.two.now c.one.view_is c.two.view_is g.S.MeetsEnd.May c.requires.linked

pub returns-clause-carries : goal.returns-clause-carries
returns-clause-carries g c = carried-inside c.one.inside.inside c.two.inside.inside c.args.one.now c.args.two.now c.one.view_is c.two.view_is g.S.MeetsEnd.Met c.carry.new.one c.carry.new.two c.carry.ensures.met

pub returns-clause-one : goal.returns-clause-one
returns-clause-one g c = kept-inside c.one.inside.inside c.carry.new.one c.args.one.now c.one.view_is c.carry.ensures.one

pub returns-clause-two : goal.returns-clause-two
returns-clause-two g c = kept-inside c.two.inside.inside c.carry.new.two c.args.two.now c.two.view_is c.carry.ensures.two

pub returns-clause-linked : goal.returns-clause-linked
returns-clause-linked g c =
    still-linked c.one.inside.inside c.two.inside.inside c.args.one.now c.args.two.now c.one.view_is c.two.view_is g.S.MeetsEnd.Met c.carry.new.one c.carry.new.two c.carry.ensures.met g.S.MeetsEnd.May g.met.S.MeetsEnd.still c.requires.linked c.carry.ensures.one c.carry.ensures.two
