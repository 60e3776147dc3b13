use Rattle.cap_model.proofs.TableRows.{firsts_rise}
use Rattle.cap_model.proofs.table.EdgeTable.get_near.Goals as goal

pub rows_near-hint-requires : goal.rows_near-hint-requires
rows_near-hint-requires c = rw c.as_slice-rows.ensures.value (firsts_rise c.self.inside.classes.items c.self.inside.rows.items
    c.self.invariant.0.places)
