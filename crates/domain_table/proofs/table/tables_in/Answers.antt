use Rattle.domain_table.proofs.Common.{named}
use Rattle.domain_table.proofs.Tabled.{tabled}
use Rattle.domain_table.proofs.table.tables_in.Goals as goal

pub returns : goal.returns
returns c = tabled (named c.args.names.now) c.args.lines.now c.args.domain _ _ _ _ c.in_ok-slots.ensures c.in_ok-threads.ensures
    c.in_ok-windows.ensures c.in_ok-pages.ensures
