use Rattle.cap_audit.proofs.Common.{AreRosters, Entry, List, Some, ap, arith, get_or, length, root_of, subst, sym, ℕ, ◌<◌, ◌∙◌, ◌≡◌}
use Rattle.cap_audit.proofs.Beginning.{root_item}
use Rattle.cap_audit.proofs.Gating.{rosters_by, rosters_none}
use Rattle.cap_audit.proofs.gates.enrol_all.Goals as goal

pub loop-t-init : goal.loop-t-init
loop-t-init c = rosters_none c.args.spec.now c.args.rosters.now c.requires.none

pub loop-t-preserved : goal.loop-t-preserved
loop-t-preserved c =
    let item : Entry = c.index-entries-t.result in
    let less : c.loop-t.t < length c.args.spec.now.entries = subst (λ (es : List Entry). c.loop-t.t < length es)
    c.as_slice-entries.ensures c.loop-t-test.true in
    let is =
    sym (root_item c.args.spec.now c.loop-t.t item less)
    ∙ (ap (λ (es : List Entry). root_of (Some (get_or es c.loop-t.t item).object)) (sym c.as_slice-entries.ensures)
    ∙ sym c.root_of.ensures) in
    rosters_by c.args.spec.now c.loop-t.rosters c.loop-t.t c.loop-t.invariant c.root_of.result c.enrol.new.rosters c.requires.kept
    is c.in_ok-enrol.ensures

pub returns : goal.returns
returns c =
    let many = ap (λ (es : List Entry). length es) c.as_slice-entries.ensures in
    let at_end : c.loop-t.t ≡ length c.args.spec.now.entries = omega (arith, c.loop-t-test.false, c.loop-t.auto.t-end) in
    subst (λ (n : ℕ). AreRosters c.args.spec.now c.loop-t.rosters n) at_end c.loop-t.invariant
