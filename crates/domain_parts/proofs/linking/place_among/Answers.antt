use Rattle.std.proofs.Common.{sym}
use Rattle.domain_parts.proofs.LinkPlaces.{place-none}
use Rattle.domain_parts.proofs.linking.place_among.Goals as goal

pub returns-in-None-clause-place : goal.returns-in-None-clause-place
returns-in-None-clause-place g c = place-none c.args.number c.args.links.now (sym c.in-None.ensures.place)
