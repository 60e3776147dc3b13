use Rattle.vspace_layout.proofs.Limits.{none_passed, pages_passed, tables_passed}
use Rattle.vspace_layout.proofs.laws.limits_are_told_in_order.Goals as goal

pub returns-clause-pages : goal.returns-clause-pages
returns-clause-pages c = pages_passed

pub returns-clause-tables : goal.returns-clause-tables
returns-clause-tables c = tables_passed

pub returns-clause-none : goal.returns-clause-none
returns-clause-none c = none_passed
