use Rattle.cap_audit.proofs.Common.{AreGates, arith, length, subst, ℕ, ◌≡◌}
use Rattle.cap_audit.proofs.Gating.{gates_by, gates_none}
use Rattle.cap_audit.proofs.gates.let_all_in.Goals as goal

pub loop-place-init : goal.loop-place-init
loop-place-init c = gates_none c.args.spec.now c.args.findings.now c.args.heads.now c.args.gates.now c.requires.none

pub loop-place-preserved : goal.loop-place-preserved
loop-place-preserved c =
    gates_by c.args.spec.now c.args.findings.now c.args.heads.now c.loop-place.gates c.loop-place.place c.pair-pair.result
    c.pair-pair.ensures c.loop-place.invariant c.caller.result c.let_in.new.gates c.caller.ensures c.in_ok-let_in.ensures

pub returns : goal.returns
returns c =
    let at_end : c.loop-place.place ≡ length c.args.findings.now.queue =
    omega (arith, c.loop-place-test.false, c.loop-place.auto.place-end, c.count-place-end.ensures) in
    subst (λ (n : ℕ). AreGates c.args.spec.now c.args.findings.now c.args.heads.now c.loop-place.gates n) at_end
    c.loop-place.invariant
