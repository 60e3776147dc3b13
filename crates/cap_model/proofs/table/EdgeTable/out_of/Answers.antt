use Rattle.cap_model.proofs.Common.{Receive}
use Rattle.cap_model.proofs.TablePlaces.{firsts_in_order}
use Rattle.cap_model.proofs.table.EdgeTable.out_of.Goals as goal

pub returns-clause-order : goal.returns-clause-order
returns-clause-order c =
    firsts_in_order c.args.self.now (record { from = 0; authority = Receive; to = 0 }) c.args.label c.first_from.result
    c.first_from-2.result c.first_from.ensures.first c.first_from-2.ensures.first
