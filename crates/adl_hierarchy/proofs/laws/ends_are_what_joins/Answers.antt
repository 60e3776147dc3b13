use Rattle.adl_hierarchy.proofs.Joining.{joined, joins_joined, all_joined, ends_kept, end_numbers_kept}
use Rattle.adl_hierarchy.proofs.laws.ends_are_what_joins.Goals as goal

pub returns-clause-found : goal.returns-clause-found
returns-clause-found c = λ s sound x n e r i g j. (joined s sound x n e r i g j).0

pub returns-clause-leaf : goal.returns-clause-leaf
returns-clause-leaf c = λ s sound x n e r i g j. (joined s sound x n e r i g j).1

pub returns-clause-every : goal.returns-clause-every
returns-clause-every c = joins_joined

pub returns-clause-all : goal.returns-clause-all
returns-clause-all c = all_joined

pub returns-clause-as_many : goal.returns-clause-as_many
returns-clause-as_many c = ends_kept

pub returns-clause-numbers : goal.returns-clause-numbers
returns-clause-numbers c = end_numbers_kept
