use Rattle.vspace_layout.proofs.Joining.{pages_counted, tables_counted}
use Rattle.vspace_layout.proofs.laws.pages_are_counted.Goals as goal

pub returns-clause-pages : goal.returns-clause-pages
returns-clause-pages c = pages_counted

pub returns-clause-tables : goal.returns-clause-tables
returns-clause-tables c = tables_counted
