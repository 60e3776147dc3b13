use Rattle.cap_audit.proofs.Common.{Below, Gains, HasRoot, Made, None, OfRoot, Option, arith, get_or, length, subst, sym, ℕ, ◌∙◌, ◌≡◌}
use Rattle.cap_audit.proofs.Gaining.{below_more, below_none}
use Rattle.cap_audit.proofs.making.Making.act_at_all.Goals as goal

pub loop-c-init : goal.loop-c-init
loop-c-init c = below_none (λ (d : ℕ). OfRoot c.args.self.now.spec c.args.self.now.labels c.args.self.now.found c.args.deed
    (get_or c.args.roots.now d None) d) c.args.self.now c.requires.so_far

pub act_at_root-requires-clause-root : goal.act_at_root-requires-clause-root
act_at_root-requires-clause-root c = λ t is.
    subst (λ (x : Made). HasRoot x.spec t c.loop-c.c) (sym c.loop-c.invariant.same)
    (c.requires.roots.true_ones c.loop-c.c t (sym c.thread_of.ensures ∙ is))

pub loop-c-preserved : goal.loop-c-preserved
loop-c-preserved c =
    let m : Made = c.args.self.now in
    below_more (λ (d : ℕ). OfRoot m.spec m.labels m.found c.args.deed (get_or c.args.roots.now d None) d) c.loop-c.c m
    c.loop-c.self c.act_at_root.new.self c.loop-c.invariant
    (subst (λ (o : Option ℕ). Gains (OfRoot m.spec m.labels m.found c.args.deed o c.loop-c.c) c.loop-c.self
    c.act_at_root.new.self) c.thread_of.ensures
    (subst (λ (x : Made). Gains (OfRoot x.spec x.labels x.found c.args.deed c.thread_of.result c.loop-c.c) c.loop-c.self
    c.act_at_root.new.self) c.loop-c.invariant.same c.in_ok-act_at_root.ensures))

pub returns : goal.returns
returns c =
    let m : Made = c.args.self.now in
    let at_end : c.loop-c.c ≡ length m.spec.entries =
    omega (arith, c.objects-c-end.ensures, c.loop-c-test.false, c.loop-c.auto.c-end) in
    subst (λ (n : ℕ). Gains (Below (λ (d : ℕ). OfRoot m.spec m.labels m.found c.args.deed (get_or c.args.roots.now d None) d) n)
    m c.loop-c.self) at_end c.loop-c.invariant
