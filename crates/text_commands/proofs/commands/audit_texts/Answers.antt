use Rattle.text_commands.proofs.Common.{Err, IsAudit, IsPolicyRead, Ok, err_is, inl, inr, refl, subst, tell_text}
use Rattle.capdl_text.specs.Texts as capdl
use Rattle.text_commands.proofs.Turning.{turn_after, turn_until}
use Rattle.text_commands.proofs.commands.audit_texts.Goals as goal

pub returns-in_err-spec-clause-audited : goal.returns-in_err-spec-clause-audited
returns-in_err-spec-clause-audited g c m told =
    rw (err_is c.from_residual.result c.in_err-spec.field-0.0 c.from_residual.ensures.1)
    (inr (c.in_err-spec.field-0.0, (c.in_err-spec.ensures.system m told), refl))

pub returns-in_err-allowed-clause-audited : goal.returns-in_err-allowed-clause-audited
returns-in_err-allowed-clause-audited g c m told =
    rw (err_is c.from_residual-in_err-allowed.result c.in_err-allowed.field-0.0 c.from_residual-in_err-allowed.ensures.1)
    (inl (
      c.in_ok-spec.spec,
      (turn_until m g.F.Files.faults tell_text capdl.IsRead c.args.cdl.now c.args.files.now c.read_system.new.files
          c.read_labels.new.files c.in_ok-spec.spec
          (c.in_ok-spec.ensures.system m (c.in_err-allowed.ensures.kept.told_still m told))),
      inr (
        c.in_err-allowed.field-0.0,
        (turn_after m g.F.Files.faults tell_text IsPolicyRead c.args.policy.now c.args.files.now
            c.read_system.new.files c.read_labels.new.files (Err c.in_err-allowed.field-0.0) c.in_ok-spec.ensures.kept
            (c.in_err-allowed.ensures.policy m told)),
        refl,
      ),
    ))

pub returns-in_err-labels-clause-audited : goal.returns-in_err-labels-clause-audited
returns-in_err-labels-clause-audited g c m told =
    rw (err_is c.from_residual-in_err-labels.result c.in_err-labels.field-0.0 c.from_residual-in_err-labels.ensures.1)
    (inl (
      c.in_ok-spec.spec,
      (turn_until m g.F.Files.faults tell_text capdl.IsRead c.args.cdl.now c.args.files.now c.read_system.new.files
          c.read_labels.new.files c.in_ok-spec.spec
          (c.in_ok-spec.ensures.system m (c.in_ok-allowed.ensures.kept.told_still m told))),
      inl (
        c.in_ok-allowed.allowed,
        (turn_after m g.F.Files.faults tell_text IsPolicyRead c.args.policy.now c.args.files.now c.read_system.new.files
            c.read_labels.new.files (Ok c.in_ok-allowed.allowed) c.in_ok-spec.ensures.kept
            (c.in_ok-allowed.ensures.policy m told)),
        inr (c.in_err-labels.field-0.0, c.in_err-labels.ensures.labels, refl),
      ),
    ))

pub returns-clause-audited : goal.returns-clause-audited
returns-clause-audited g c m told =
    inl (
      c.in_ok-spec.spec,
      (turn_until m g.F.Files.faults tell_text capdl.IsRead c.args.cdl.now c.args.files.now c.read_system.new.files
          c.read_labels.new.files c.in_ok-spec.spec
          (c.in_ok-spec.ensures.system m (c.in_ok-allowed.ensures.kept.told_still m told))),
      inl (
        c.in_ok-allowed.allowed,
        (turn_after m g.F.Files.faults tell_text IsPolicyRead c.args.policy.now c.args.files.now c.read_system.new.files
            c.read_labels.new.files (Ok c.in_ok-allowed.allowed) c.in_ok-spec.ensures.kept
            (c.in_ok-allowed.ensures.policy m told)),
        inl (
          c.in_ok-labels.labels,
          c.in_ok-labels.ensures.labels,
          subst (λ names. IsAudit c.args.cdl.now c.in_ok-spec.spec c.in_ok-labels.labels.by_object names
              c.audit_system.result) c.of.ensures c.audit_system.ensures,
        ),
      ),
    )

pub returns-in_err-spec-clause-learned : goal.returns-in_err-spec-clause-learned
returns-in_err-spec-clause-learned g c m n now old alike =
    c.in_err-spec.ensures.learned m n now old (alike c.args.cdl.now (inl refl))

pub returns-in_err-allowed-clause-learned : goal.returns-in_err-allowed-clause-learned
returns-in_err-allowed-clause-learned g c m n now old alike =
    let held = c.in_err-allowed.ensures.kept.told_still m now in
    let one = c.in_ok-spec.ensures.learned m n held old (alike c.args.cdl.now (inl refl)) in
    c.in_err-allowed.ensures.learned m n now one (alike c.args.policy.now (inr (inl refl)))

pub returns-in_err-labels-clause-learned : goal.returns-in_err-labels-clause-learned
returns-in_err-labels-clause-learned g c m n now old alike =
    let held = c.in_ok-allowed.ensures.kept.told_still m now in
    let one = c.in_ok-spec.ensures.learned m n held old (alike c.args.cdl.now (inl refl)) in
    c.in_ok-allowed.ensures.learned m n now one (alike c.args.policy.now (inr (inl refl)))

pub returns-clause-learned : goal.returns-clause-learned
returns-clause-learned g c m n now old alike =
    let held = c.in_ok-allowed.ensures.kept.told_still m now in
    let one = c.in_ok-spec.ensures.learned m n held old (alike c.args.cdl.now (inl refl)) in
    c.in_ok-allowed.ensures.learned m n now one (alike c.args.policy.now (inr (inl refl)))
