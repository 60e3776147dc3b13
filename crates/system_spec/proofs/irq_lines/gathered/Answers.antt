use Rattle.system_spec.proofs.Common.{AreFew, Connector, FlatConnection, Interrupt, List, Owner, Tables, [], ap, arith, before, first_of, gather, gather_turn, irq, irq_by, irq_owner, length, line}
use Rattle.system_spec.proofs.Common.{line_by, refl, take, taken_le, told, ℕ, ◌+◌, ◌<◌, ◌^◌, ◌∙◌, ◌≡◌}
use Rattle.system_spec.proofs.Bounds.{ends}
use Rattle.system_spec.proofs.Placing.{as_long}
use Rattle.system_spec.proofs.irq_lines.gathered.Goals as goal

length-line : (t : Tables) (k : ℕ) (c : FlatConnection) (o : Owner) (by : Connector)
    → length (line_by t k c by) ≡ length (irq_by k o by)
length-line t k c o Interrupt = refl
length-line t k c o _ = refl

-- as many lines as interrupts so far
so_far : (t : Tables) (i n : ℕ) (lines : List (ℕ × ℕ)) → lines ≡ gather (line t) (take i t.flat.connections) → n ≡ length lines
    → n ≡ before irq t.flat.connections i
so_far t i n lines e l =
    l ∙ ap (λ (z : List (ℕ × ℕ)). length z) e
    ∙ as_long (line t) irq (take i t.flat.connections) (λ k c. length-line t k c (irq_owner k c) c.connector)

fits : (t : Tables) → AreFew t → (i n first : ℕ) → first ≡ first_of t 5 → n ≡ before irq t.flat.connections i → first + n < 2 ^ 32
fits t few i n first f e = omega (arith, f, e, taken_le irq t.flat.connections i, (ends t few).irqs)

pub overflow_cast-at : goal.overflow_cast-at
overflow_cast-at c =
    let t = told c.args.tables.now in
    let n = so_far t c.loop-number.number c.len.result c.loop-number.lines c.loop-number.invariant c.len.ensures in
    let low = fits t c.requires.few c.loop-number.number c.len.result c.args.first c.requires.first n in
    omega (arith, low)

pub overflow_add-at : goal.overflow_add-at
overflow_add-at c =
    let t = told c.args.tables.now in
    let n = so_far t c.loop-number.number c.len.result c.loop-number.lines c.loop-number.invariant c.len.ensures in
    let low = fits t c.requires.few c.loop-number.number c.len.result c.args.first c.requires.first n in
    omega (arith, low)

pub push_line-requires : goal.push_line-requires
push_line-requires c =
    let t = told c.args.tables.now in
    let n = so_far t c.loop-number.number c.len.result c.loop-number.lines c.loop-number.invariant c.len.ensures in
    omega (arith, n, c.requires.first)

pub loop-number-preserved : goal.loop-number-preserved
loop-number-preserved c =
    let t = told c.args.tables.now in
    gather_turn (line t) t.flat.connections _ c.loop-number.number _ [] _ _ c.as_slice-connection-items.ensures
    c.loop-number-test.true c.connection-item.is c.loop-number.invariant c.in_ok-push_line.ensures
