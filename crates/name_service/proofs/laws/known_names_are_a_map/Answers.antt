use Rattle.name_service.proofs.NameLists as names
use Rattle.name_service.proofs.laws.known_names_are_a_map.Goals as goal

pub returns-clause-apart : goal.returns-clause-apart
returns-clause-apart c = names.rank_tells_names

pub returns-clause-learned : goal.returns-clause-learned
returns-clause-learned c = names.learned_has_its_address

pub returns-clause-learned_alone : goal.returns-clause-learned_alone
returns-clause-learned_alone c = names.learned_leaves_others

pub returns-clause-forgotten : goal.returns-clause-forgotten
returns-clause-forgotten c = names.forgotten_has_none

pub returns-clause-forgotten_alone : goal.returns-clause-forgotten_alone
returns-clause-forgotten_alone c = names.forgotten_leaves_others

pub returns-clause-very_name : goal.returns-clause-very_name
returns-clause-very_name c = names.address_of_the_very_name

pub returns-clause-learned_counts : goal.returns-clause-learned_counts
returns-clause-learned_counts c = names.learned_counts

pub returns-clause-forgotten_counts : goal.returns-clause-forgotten_counts
returns-clause-forgotten_counts c = names.forgotten_counts

pub returns-clause-order : goal.returns-clause-order
returns-clause-order c = names.order_stays

pub returns-clause-one_list : goal.returns-clause-one_list
returns-clause-one_list c = names.one_list_for_each_map
