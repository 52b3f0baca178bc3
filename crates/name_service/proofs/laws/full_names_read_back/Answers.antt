use Rattle.mc_base.proofs.FullNames as full_names
use Rattle.name_service.proofs.laws.full_names_read_back.Goals as goal

pub returns-clause-read_back : goal.returns-clause-read_back
returns-clause-read_back c = full_names.read_back

pub returns-clause-only : goal.returns-clause-only
returns-clause-only c = λ name n h. let f = full_names.named-full name n h in (f.same, f.in_range)

pub returns-clause-one : goal.returns-clause-one
returns-clause-one c = full_names.one_named
