use Rattle.text_commands.proofs.Common.{Run, Some, [], ap, arith, boot, refl, subst, sym, take, take_all, take_more, ◌∙◌, ◌∷◌}
use Rattle.cap_audit.proofs.Quiet.{run_append}
use Rattle.text_commands.proofs.Running.{refused_is}
use Rattle.text_commands.proofs.replay.replay.Goals as goal
use Rattle.std.proofs.lemmas.Option.{slice_get-get_or}

pub loop-place-init : goal.loop-place-init
loop-place-init c = record {
  run = c.in_ok-state.ensures.state;
  applied = c.in_ok-state.ensures.applied;
  fits = c.in_ok-state.ensures.fits;
}

pub apply-requires : goal.apply-requires
apply-requires c = let same = c.loop-place.invariant.applied in omega arith

pub returns-in-Err-Illegal : goal.returns-in-Err-Illegal
returns-in-Err-Illegal c = (
  c.loop-place.place,
  refl,
  record {
    state = c.loop-place.state.state;
    run = c.loop-place.invariant.run;
    step = _;
    here = slice_get-get_or c.args.steps.now c.loop-place.place _ c.loop-place-test.true;
    refused = refused_is c.args.spec.now c.loop-place.state.state _ c.in-Err-Illegal.field-0 _ c.in-Err-Illegal.field-0-is
        c.in-Err-Illegal.ensures.refused ∙ sym (ap Some c.in-Err-Illegal.why-is);
  },
)

pub loop-place-preserved : goal.loop-place-preserved
loop-place-preserved c = record {
  run = subst (λ zs. Run c.args.spec.now (boot c.args.spec.now) zs c.apply.new.self.state)
      (sym (take_more c.args.steps.now c.loop-place.place _ c.loop-place-test.true))
      (run_append c.args.spec.now (take c.loop-place.place c.args.steps.now) (_ ∷ []) (boot c.args.spec.now)
      c.loop-place.state.state c.apply.new.self.state c.loop-place.invariant.run
      (c.apply.new.self.state, c.in-Ok.ensures.ok, refl));
  applied = let same = c.loop-place.invariant.applied in let more = c.in-Ok.ensures.counted in omega arith;
  fits = c.in-Ok.ensures.fits c.loop-place.invariant.fits;
}

pub authorities-requires-clause-fits : goal.authorities-requires-clause-fits
authorities-requires-clause-fits c = c.loop-place.invariant.fits

pub returns : goal.returns
returns c = (
  refl,
  record {
    state = c.loop-place.state.state;
    run = subst (λ zs. Run c.args.spec.now (boot c.args.spec.now) zs c.loop-place.state.state)
        (take_all c.loop-place.place c.args.steps.now (omega arith)) c.loop-place.invariant.run;
    has = record { sorted = c.len-count.ensures.sorted; same = c.in_ok-edges.ensures };
  },
)
