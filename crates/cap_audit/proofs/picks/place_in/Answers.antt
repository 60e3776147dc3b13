use Rattle.cap_audit.proofs.Common.{Held, None, ap, arith, drop, drop-length, eq-eqb, get_or, length, ne_eqb, place_in, subst, sym, ℕ, ◌∙◌, ◌≡◌}
use Rattle.cap_audit.proofs.Meeting.{place_here, place_past}
use Rattle.cap_audit.proofs.picks.place_in.Goals as goal

pub loop-held-preserved : goal.loop-held-preserved
loop-held-preserved c =
    let none : Held = record { value = 0; number = 0 } in
    c.loop-held.invariant
    ∙ place_past c.args.node c.args.value c.args.helds.now c.loop-held.held-index none c.loop-held-test.true
    (ne_eqb (get_or c.args.helds.now c.loop-held.held-index none).value c.args.value c.if-held-value.false)

pub returns-then-held-value : goal.returns-then-held-value
returns-then-held-value c =
    let none : Held = record { value = 0; number = 0 } in
    sym
    (c.loop-held.invariant
    ∙ place_here c.args.node c.args.value c.args.helds.now c.loop-held.held-index none c.loop-held-test.true
    (eq-eqb (get_or c.args.helds.now c.loop-held.held-index none).value c.args.value c.if-held-value.true))

pub returns : goal.returns
returns c =
    let at_end : c.loop-held.held-index ≡ length c.args.helds.now =
    omega (arith, c.loop-held-test.false, c.loop-held.auto.held-index-end) in
    let none : place_in c.args.node c.args.value (drop c.loop-held.held-index c.args.helds.now) ≡ None =
    subst (λ (n : ℕ). place_in c.args.node c.args.value (drop n c.args.helds.now) ≡ None) (sym at_end)
    (ap (place_in c.args.node c.args.value) (drop-length c.args.helds.now)) in
    sym (c.loop-held.invariant ∙ none)
