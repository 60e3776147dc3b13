use Rattle.text_commands.proofs.Common.{Err, Ok, err_is, inl, inr, refl, tell_text, tell_untyped}
use Rattle.boot_plan.specs.UntypedTexts as untypeds
use Rattle.capdl_text.specs.Texts as capdl
use Rattle.text_commands.proofs.Turning.{turn_after, turn_until}
use Rattle.text_commands.proofs.commands.plan_texts.Goals as goal

pub returns-in_err-spec-clause-planned : goal.returns-in_err-spec-clause-planned
returns-in_err-spec-clause-planned g c m told =
    rw (err_is c.from_residual.result c.in_err-spec.field-0.0 c.from_residual.ensures.1)
    (inr (c.in_err-spec.field-0.0, (c.in_err-spec.ensures.system m told), refl))

pub returns-in_err-regions-clause-planned : goal.returns-in_err-regions-clause-planned
returns-in_err-regions-clause-planned g c m told =
    rw (err_is c.from_residual-in_err-regions.result c.in_err-regions.field-0.0 c.from_residual-in_err-regions.ensures.1)
    (inl (
      c.in_ok-spec.spec,
      (turn_until m g.F.Files.faults tell_text capdl.IsRead c.args.cdl.now c.args.files.now c.read_system.new.files
          c.read_regions.new.files c.in_ok-spec.spec
          (c.in_ok-spec.ensures.system m (c.in_err-regions.ensures.kept.told_still m told))),
      inr (
        c.in_err-regions.field-0.0,
        (turn_after m g.F.Files.faults tell_untyped untypeds.IsRead c.args.untypeds.now
            c.args.files.now c.read_system.new.files c.read_regions.new.files (Err c.in_err-regions.field-0.0)
            c.in_ok-spec.ensures.kept (c.in_err-regions.ensures.regions m told)),
        refl,
      ),
    ))

pub returns-clause-planned : goal.returns-clause-planned
returns-clause-planned g c m told =
    let decided = rw c.as_slice.ensures at c.plan_system.ensures in
    inl (
      c.in_ok-spec.spec,
      (turn_until m g.F.Files.faults tell_text capdl.IsRead c.args.cdl.now c.args.files.now c.read_system.new.files
          c.read_regions.new.files c.in_ok-spec.spec
          (c.in_ok-spec.ensures.system m (c.in_ok-regions.ensures.kept.told_still m told))),
      inl (
        c.in_ok-regions.regions,
        (turn_after m g.F.Files.faults tell_untyped untypeds.IsRead c.args.untypeds.now c.args.files.now c.read_system.new.files
            c.read_regions.new.files (Ok c.in_ok-regions.regions) c.in_ok-spec.ensures.kept
            (c.in_ok-regions.ensures.regions m told)),
        decided,
      ),
    )

pub returns-in_err-spec-clause-learned : goal.returns-in_err-spec-clause-learned
returns-in_err-spec-clause-learned g c m n now old alike =
    c.in_err-spec.ensures.learned m n now old (alike c.args.cdl.now (inl refl))

pub returns-in_err-regions-clause-learned : goal.returns-in_err-regions-clause-learned
returns-in_err-regions-clause-learned g c m n now old alike =
    let held = c.in_err-regions.ensures.kept.told_still m now in
    let one = c.in_ok-spec.ensures.learned m n held old (alike c.args.cdl.now (inl refl)) in
    c.in_err-regions.ensures.learned m n now one (alike c.args.untypeds.now (inr (inl refl)))

pub returns-clause-learned : goal.returns-clause-learned
returns-clause-learned g c m n now old alike =
    let held = c.in_ok-regions.ensures.kept.told_still m now in
    let one = c.in_ok-spec.ensures.learned m n held old (alike c.args.cdl.now (inl refl)) in
    c.in_ok-regions.ensures.learned m n now one (alike c.args.untypeds.now (inr (inl refl)))
