use Rattle.system_spec.proofs.Common.{ap, arith, cnodes, length, told, ◌∙◌}
use Rattle.system_spec.proofs.Bounds.{bounds}
use Rattle.system_spec.proofs.listing.push_holders.Goals as goal

pub numbered-requires : goal.numbered-requires
numbered-requires c = omega (
  arith,
  ap length (c.as_slice-2.ensures ∙ c.in_ok-cnodes.ensures ∙ ap cnodes c.as_slice.ensures),
  (bounds (told c.args.tables.now) c.requires).cnodes,
)

pub numbered-requires-2 : goal.numbered-requires-2
numbered-requires-2 c = omega (
  arith,
  ap length (c.as_slice-3.ensures ∙ c.in_ok-tcbs.ensures),
  (bounds (told c.args.tables.now) c.requires).tcbs,
)
