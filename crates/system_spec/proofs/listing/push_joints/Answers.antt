use Rattle.system_spec.proofs.Common.{ap, arith, gather, irq, length, told, ◌∙◌}
use Rattle.system_spec.proofs.Bounds.{bounds}
use Rattle.system_spec.proofs.listing.push_joints.Goals as goal

pub numbered-requires : goal.numbered-requires
numbered-requires c = omega (
  arith,
  ap length (c.as_slice.ensures ∙ c.in_ok-locks.ensures),
  (bounds (told c.args.tables.now) c.requires).locks,
)

pub numbered-requires-2 : goal.numbered-requires-2
numbered-requires-2 c =
    omega (
      arith,
      ap length (c.as_slice-2.ensures ∙ c.in_ok-irqs.ensures ∙ ap (gather irq) c.as_slice-connections.ensures),
      (bounds (told c.args.tables.now) c.requires).irqs,
    )
