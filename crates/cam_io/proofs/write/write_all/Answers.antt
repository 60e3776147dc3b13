use Rattle.cam_io.proofs.Common.{ap, arith, length, refl, sym, ◌≡◌}
use Rattle.cam_io.proofs.Appends.{appended_nil, appended_slice, open_appended}
use Rattle.cam_io.proofs.write.write_all.Goals as goal

pub loop-done-init : goal.loop-done-init
loop-done-init g c = record {
  within = omega arith;
  so_far = sym (appended_nil (g.O.Outputs.sink c.args.out.now) c.args.channel);
  open_still = c.requires;
  later = omega arith;
  quiet = λ e. refl;
}

pub loop-done-preserved : goal.loop-done-preserved
loop-done-preserved g c = record {
  within = omega (arith, c.in_ok-done.ensures.at_most);
  so_far = appended_slice _ _ _ _ _ _ _ c.loop-done.invariant.so_far c.in_ok-done.ensures.ok;
  open_still = record { may = open_appended _ _ _ c.args.channel _ c.in_ok-done.ensures.ok c.loop-done.invariant.open_still.may };
  later = omega (arith, c.in_ok-done.ensures.later);
  quiet = λ e. absurd (let none : length c.args.bytes.now ≡ 0 = ap length e in omega (arith, none, c.loop-done-test.true));
}

pub returns-in_err-done-clause-empty : goal.returns-in_err-done-clause-empty
returns-in_err-done-clause-empty g c = λ e. absurd (let none : length c.args.bytes.now ≡ 0 = ap length e in
    omega (arith, none, c.loop-done-test.true))

pub returns-in_err-done-clause-quiet : goal.returns-in_err-done-clause-quiet
returns-in_err-done-clause-quiet g c = λ e. absurd (let none : length c.args.bytes.now ≡ 0 = ap length e in
    omega (arith, none, c.loop-done-test.true))
