use Rattle.system_spec.proofs.Common.{ap, arith, length, told, ◌∙◌}
use Rattle.system_spec.proofs.Bounds.{bounds}
use Rattle.system_spec.proofs.listing.push_tables.Goals as goal

pub table_parts-requires : goal.table_parts-requires
table_parts-requires c = omega (
  arith,
  ap length (c.as_slice.ensures ∙ c.in_ok-all.ensures),
  (bounds (told c.args.tables.now) c.requires).tables,
)
