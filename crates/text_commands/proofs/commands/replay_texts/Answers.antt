use Rattle.text_commands.proofs.Common.{Err, IsPolicyRead, IsReplayed, NoMemory, Ok, Ran, ap, err_is, inl, inr, keeps_twice, refl, subst, tell_text}
use Rattle.capdl_text.specs.Texts as capdl
use Rattle.step_text.specs.StepTexts as steps
use Rattle.text_commands.proofs.Turning.{turn_after, turn_until}
use Rattle.text_commands.proofs.commands.replay_texts.Goals as goal

pub returns-in_err-spec-clause-ran : goal.returns-in_err-spec-clause-ran
returns-in_err-spec-clause-ran g c m told =
    rw (err_is c.from_residual.result c.in_err-spec.field-0.0 c.from_residual.ensures.1)
    (inr (c.in_err-spec.field-0.0, (c.in_err-spec.ensures.system m told), refl))

pub returns-in_err-allowed-clause-ran : goal.returns-in_err-allowed-clause-ran
returns-in_err-allowed-clause-ran g c m told =
    rw (err_is c.from_residual-in_err-allowed.result c.in_err-allowed.field-0.0 c.from_residual-in_err-allowed.ensures.1)
    (inl (
      c.in_ok-spec.spec,
      (turn_until m g.F.Files.faults tell_text capdl.IsRead c.args.cdl.now c.args.files.now c.read_system.new.files
          c.read_labels.new.files c.in_ok-spec.spec
          (c.in_ok-spec.ensures.system m (c.in_err-allowed.ensures.kept.told_still m told))),
      inr (
        c.in_err-allowed.field-0.0,
        (turn_after m g.F.Files.faults tell_text IsPolicyRead c.args.policy.now c.args.files.now
            c.read_system.new.files c.read_labels.new.files (Err c.in_err-allowed.field-0.0) c.in_ok-spec.ensures.kept
            (c.in_err-allowed.ensures.policy m told)),
        refl,
      ),
    ))

pub returns-in_err-list-clause-ran : goal.returns-in_err-list-clause-ran
returns-in_err-list-clause-ran g c m told =
    let before = c.in_err-list.ensures.kept.told_still m told in
    rw (err_is c.from_residual-in_err-list.result c.in_err-list.field-0.0 c.from_residual-in_err-list.ensures.1)
    (inl (
      c.in_ok-spec.spec,
      (turn_until m g.F.Files.faults tell_text capdl.IsRead c.args.cdl.now c.args.files.now c.read_system.new.files
          c.read_run.new.files c.in_ok-spec.spec
          (c.in_ok-spec.ensures.system m (c.in_ok-allowed.ensures.kept.told_still m before))),
      inl (
        c.in_ok-allowed.allowed,
        (turn_until m g.F.Files.faults tell_text IsPolicyRead c.args.policy.now c.args.files.now c.read_labels.new.files
            c.read_run.new.files c.in_ok-allowed.allowed (turn_after m g.F.Files.faults tell_text IsPolicyRead c.args.policy.now
            c.args.files.now c.read_system.new.files c.read_labels.new.files (Ok c.in_ok-allowed.allowed)
            c.in_ok-spec.ensures.kept (c.in_ok-allowed.ensures.policy m before))),
        inr (
          c.in_err-list.field-0.0,
          (turn_after m g.F.Files.faults tell_text (steps.IsRead c.in_ok-spec.spec) c.args.steps.now
              c.args.files.now c.read_labels.new.files c.read_run.new.files (Err c.in_err-list.field-0.0)
              (keeps_twice {told = g.F.Files.told} {faults = g.F.Files.faults} c.args.files.now c.read_system.new.files
              c.read_labels.new.files c.in_ok-spec.ensures.kept c.in_ok-allowed.ensures.kept)
              (c.in_err-list.ensures.steps m told)),
          refl,
        ),
      ),
    ))

pub returns-in_err-labels-clause-ran : goal.returns-in_err-labels-clause-ran
returns-in_err-labels-clause-ran g c m told =
    let before = c.in_ok-list.ensures.kept.told_still m told in
    rw (err_is c.from_residual-in_err-labels.result c.in_err-labels.field-0.0 c.from_residual-in_err-labels.ensures.1)
    (inl (
      c.in_ok-spec.spec,
      (turn_until m g.F.Files.faults tell_text capdl.IsRead c.args.cdl.now c.args.files.now c.read_system.new.files
          c.read_run.new.files c.in_ok-spec.spec
          (c.in_ok-spec.ensures.system m (c.in_ok-allowed.ensures.kept.told_still m before))),
      inl (
        c.in_ok-allowed.allowed,
        (turn_until m g.F.Files.faults tell_text IsPolicyRead c.args.policy.now c.args.files.now c.read_labels.new.files
            c.read_run.new.files c.in_ok-allowed.allowed (turn_after m g.F.Files.faults tell_text IsPolicyRead c.args.policy.now
            c.args.files.now c.read_system.new.files c.read_labels.new.files (Ok c.in_ok-allowed.allowed)
            c.in_ok-spec.ensures.kept (c.in_ok-allowed.ensures.policy m before))),
        inl (
          c.in_ok-list.list,
          (turn_after m g.F.Files.faults tell_text (steps.IsRead c.in_ok-spec.spec) c.args.steps.now c.args.files.now
              c.read_labels.new.files c.read_run.new.files (Ok c.in_ok-list.list)
              (keeps_twice {told = g.F.Files.told} {faults = g.F.Files.faults} c.args.files.now c.read_system.new.files
              c.read_labels.new.files c.in_ok-spec.ensures.kept c.in_ok-allowed.ensures.kept)
              (c.in_ok-list.ensures.steps m told)),
          inr (c.in_err-labels.field-0.0, c.in_err-labels.ensures.labels, refl),
        ),
      ),
    ))

pub of-requires : goal.of-requires
of-requires g c = c.in_ok-allowed.ensures.apart

pub returns-in_err-replayed-clause-ran : goal.returns-in_err-replayed-clause-ran
returns-in_err-replayed-clause-ran g c m told =
    let before = c.in_ok-list.ensures.kept.told_still m told in
    rw (err_is c.from_residual-in_err-replayed.result NoMemory c.from_residual-in_err-replayed.ensures.1)
    (inl (
      c.in_ok-spec.spec,
      (turn_until m g.F.Files.faults tell_text capdl.IsRead c.args.cdl.now c.args.files.now c.read_system.new.files
          c.read_run.new.files c.in_ok-spec.spec
          (c.in_ok-spec.ensures.system m (c.in_ok-allowed.ensures.kept.told_still m before))),
      inl (
        c.in_ok-allowed.allowed,
        (turn_until m g.F.Files.faults tell_text IsPolicyRead c.args.policy.now c.args.files.now c.read_labels.new.files
            c.read_run.new.files c.in_ok-allowed.allowed (turn_after m g.F.Files.faults tell_text IsPolicyRead c.args.policy.now
            c.args.files.now c.read_system.new.files c.read_labels.new.files (Ok c.in_ok-allowed.allowed)
            c.in_ok-spec.ensures.kept (c.in_ok-allowed.ensures.policy m before))),
        inl (
          c.in_ok-list.list,
          (turn_after m g.F.Files.faults tell_text (steps.IsRead c.in_ok-spec.spec) c.args.steps.now c.args.files.now
              c.read_labels.new.files c.read_run.new.files (Ok c.in_ok-list.list)
              (keeps_twice {told = g.F.Files.told} {faults = g.F.Files.faults} c.args.files.now c.read_system.new.files
              c.read_labels.new.files c.in_ok-spec.ensures.kept c.in_ok-allowed.ensures.kept)
              (c.in_ok-list.ensures.steps m told)),
          inl (c.in_ok-labels.labels, c.in_ok-labels.ensures.labels, tt),
        ),
      ),
    ))

pub returns-clause-ran : goal.returns-clause-ran
returns-clause-ran g c m told =
    let before = c.in_ok-list.ensures.kept.told_still m told in
    inl (
      c.in_ok-spec.spec,
      (turn_until m g.F.Files.faults tell_text capdl.IsRead c.args.cdl.now c.args.files.now c.read_system.new.files
          c.read_run.new.files c.in_ok-spec.spec
          (c.in_ok-spec.ensures.system m (c.in_ok-allowed.ensures.kept.told_still m before))),
      inl (
        c.in_ok-allowed.allowed,
        (turn_until m g.F.Files.faults tell_text IsPolicyRead c.args.policy.now c.args.files.now c.read_labels.new.files
            c.read_run.new.files c.in_ok-allowed.allowed (turn_after m g.F.Files.faults tell_text IsPolicyRead c.args.policy.now
            c.args.files.now c.read_system.new.files c.read_labels.new.files (Ok c.in_ok-allowed.allowed)
            c.in_ok-spec.ensures.kept (c.in_ok-allowed.ensures.policy m before))),
        inl (
          c.in_ok-list.list,
          (turn_after m g.F.Files.faults tell_text (steps.IsRead c.in_ok-spec.spec) c.args.steps.now c.args.files.now
              c.read_labels.new.files c.read_run.new.files (Ok c.in_ok-list.list)
              (keeps_twice {told = g.F.Files.told} {faults = g.F.Files.faults} c.args.files.now c.read_system.new.files
              c.read_labels.new.files c.in_ok-spec.ensures.kept c.in_ok-allowed.ensures.kept)
              (c.in_ok-list.ensures.steps m told)),
          inl (
            c.in_ok-labels.labels,
            c.in_ok-labels.ensures.labels,
            (
              c.in_ok-replayed.replayed,
              ap (λ n. Ran c.in_ok-replayed.replayed n) c.of.ensures,
              subst (λ zs. IsReplayed c.in_ok-spec.spec c.in_ok-labels.labels.by_object zs c.in_ok-replayed.replayed)
                  c.as_slice.ensures c.in_ok-replayed.ensures,
            ),
          ),
        ),
      ),
    )

pub returns-in_err-spec-clause-learned : goal.returns-in_err-spec-clause-learned
returns-in_err-spec-clause-learned g c m n now old alike =
    c.in_err-spec.ensures.learned m n now old (alike c.args.cdl.now (inl refl))

pub returns-in_err-allowed-clause-learned : goal.returns-in_err-allowed-clause-learned
returns-in_err-allowed-clause-learned g c m n now old alike =
    let held = c.in_err-allowed.ensures.kept.told_still m now in
    let one = c.in_ok-spec.ensures.learned m n held old (alike c.args.cdl.now (inl refl)) in
    c.in_err-allowed.ensures.learned m n now one (alike c.args.policy.now (inr (inl refl)))

pub returns-in_err-list-clause-learned : goal.returns-in_err-list-clause-learned
returns-in_err-list-clause-learned g c m n now old alike =
    let held = c.in_err-list.ensures.kept.told_still m now in
    let first = c.in_ok-allowed.ensures.kept.told_still m held in
    let one = c.in_ok-spec.ensures.learned m n first old (alike c.args.cdl.now (inl refl)) in
    let two = c.in_ok-allowed.ensures.learned m n held one (alike c.args.policy.now (inr (inl refl))) in
    c.in_err-list.ensures.learned m n now two (alike c.args.steps.now (inr (inr (inl refl))))

pub returns-in_err-labels-clause-learned : goal.returns-in_err-labels-clause-learned
returns-in_err-labels-clause-learned g c m n now old alike =
    let held = c.in_ok-list.ensures.kept.told_still m now in
    let first = c.in_ok-allowed.ensures.kept.told_still m held in
    let one = c.in_ok-spec.ensures.learned m n first old (alike c.args.cdl.now (inl refl)) in
    let two = c.in_ok-allowed.ensures.learned m n held one (alike c.args.policy.now (inr (inl refl))) in
    c.in_ok-list.ensures.learned m n now two (alike c.args.steps.now (inr (inr (inl refl))))

pub returns-in_err-replayed-clause-learned : goal.returns-in_err-replayed-clause-learned
returns-in_err-replayed-clause-learned g c m n now old alike =
    let held = c.in_ok-list.ensures.kept.told_still m now in
    let first = c.in_ok-allowed.ensures.kept.told_still m held in
    let one = c.in_ok-spec.ensures.learned m n first old (alike c.args.cdl.now (inl refl)) in
    let two = c.in_ok-allowed.ensures.learned m n held one (alike c.args.policy.now (inr (inl refl))) in
    c.in_ok-list.ensures.learned m n now two (alike c.args.steps.now (inr (inr (inl refl))))

pub returns-clause-learned : goal.returns-clause-learned
returns-clause-learned g c m n now old alike =
    let held = c.in_ok-list.ensures.kept.told_still m now in
    let first = c.in_ok-allowed.ensures.kept.told_still m held in
    let one = c.in_ok-spec.ensures.learned m n first old (alike c.args.cdl.now (inl refl)) in
    let two = c.in_ok-allowed.ensures.learned m n held one (alike c.args.policy.now (inr (inl refl))) in
    c.in_ok-list.ensures.learned m n now two (alike c.args.steps.now (inr (inr (inl refl))))
