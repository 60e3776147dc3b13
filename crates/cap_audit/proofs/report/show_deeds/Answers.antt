use Rattle.cap_audit.proofs.Common.{AreHeadRoots, Edge, Gains, IsKept, List, Made, OfAllDeeds, OfRoots, Option, subst, sym, ℕ}
use Rattle.cap_audit.specs.declared.making.Deed.TheVariants as deeds
use Rattle.cap_audit.proofs.Assembling.{deeds_parts}
use Rattle.cap_audit.proofs.Gaining.{gains_by, gains_then}
use Rattle.cap_audit.proofs.report.show_deeds.Goals as goal

pub act_at_all-requires-clause-roots : goal.act_at_all-requires-clause-roots
act_at_all-requires-clause-roots c =
    subst (λ (xs : List (Option ℕ)). AreHeadRoots c.args.making.now.spec c.args.making.now.heads xs)
    (sym c.as_slice.ensures.value) c.in_ok-roots.ensures

pub act_at_all-requires-2-clause-kept : goal.act_at_all-requires-2-clause-kept
act_at_all-requires-2-clause-kept c = subst (λ (x : Made). IsKept x.spec) (sym c.in_ok-act_at_all.ensures.same) c.requires.kept

pub act_at_all-requires-2-clause-roots : goal.act_at_all-requires-2-clause-roots
act_at_all-requires-2-clause-roots c =
    subst (λ (x : Made). AreHeadRoots x.spec x.heads c.as_slice-2.result.now) (sym c.in_ok-act_at_all.ensures.same)
    (subst (λ (xs : List (Option ℕ)). AreHeadRoots c.args.making.now.spec c.args.making.now.heads xs)
    (sym c.as_slice-2.ensures.value) c.in_ok-roots.ensures)

pub returns : goal.returns
returns c =
    let m : Made = c.args.making.now in
    let roots : List (Option ℕ) = c.in_ok-roots.roots.items in
    let P : Edge → Type 0 = OfRoots m.spec m.labels m.found deeds.Map roots in
    let Q : Edge → Type 0 = OfRoots m.spec m.labels m.found deeds.Bind roots in
    let g : Gains P m c.act_at_all.new.self =
    subst (λ (xs : List (Option ℕ)). Gains (OfRoots m.spec m.labels m.found deeds.Map xs) m c.act_at_all.new.self)
    c.as_slice.ensures.value c.in_ok-act_at_all.ensures in
    let h : Gains Q c.act_at_all.new.self c.act_at_all-2.new.self =
    subst (λ (x : Made). Gains (OfRoots x.spec x.labels x.found deeds.Bind roots) c.act_at_all.new.self
    c.act_at_all-2.new.self) g.same
    (subst (λ (xs : List (Option ℕ)). Gains (OfRoots c.act_at_all.new.self.spec c.act_at_all.new.self.labels
    c.act_at_all.new.self.found deeds.Bind xs) c.act_at_all.new.self c.act_at_all-2.new.self)
    c.as_slice-2.ensures.value c.in_ok-act_at_all-2.ensures) in
    gains_by _ (OfAllDeeds m.spec m.labels m.found m.heads) (deeds_parts m.spec m.labels m.found m.heads roots c.requires.all
    c.requires.kept c.in_ok-roots.ensures) m c.act_at_all-2.new.self
    (gains_then P Q m c.act_at_all.new.self c.act_at_all-2.new.self g h)
