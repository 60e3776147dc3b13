use Rattle.adl_items.proofs.Common.{[], ap, arith, drop, found, number_from, option_or, option_or-none, sym, trees, ◌∙◌, ◌≡◌}
use Rattle.std.proofs.Math.ListN.{drop_of_length-le}
use Rattle.adl_items.proofs.names.component_numbers.Goals as goal

pub returns : goal.returns
returns c n =
    let past : drop c.loop-i.i c.args.components.now ≡ [] =
    drop_of_length-le c.args.components.now (omega (arith, c.loop-i-test.false)) in
    option_or-none (found c.loop-i.table n)
    ∙ ap (λ xs. option_or (found c.loop-i.table n) (number_from c.loop-i.i (trees xs) n)) (sym past)
    ∙ c.loop-i.invariant n
