use Rattle.adl_names.proofs.Common.{Item, ItemAt, ap, arith, common_steps, component_at, drop_all, items_of, map, noted-append, ◌∙◌}
use Rattle.adl_names.proofs.BodyLists.{component_numbered}
use Rattle.adl_names.proofs.bodies.SourceTables.of.Goals as goal

pub invariant_of-result : goal.invariant_of-result
invariant_of-result c =
    rw c.source.ensures (record {
      items_are = c.in_ok-bodies.ensures.bodies;
      components = λ n. ap (component_at (map (λ (x : ItemAt × Item). x.1) (items_of c.args.items.now)))
          (c.in_ok-components.ensures.numbers n) ∙ component_numbered c.args.items.now n;
      are_procedures = λ n. grind (arith, common_steps, c.loop-x.invariant.procedures n);
    })

pub returns-clause-noted : goal.returns-clause-noted
returns-clause-noted c =
    let all = rw (drop_all c.loop-x.x-index c.procedures-x-items.result.now c.loop-x-test.false) at c.loop-x.invariant.noted in
    rw (c.in_ok-bodies.ensures.noted, c.in_ok-components.ensures.noted, all, noted-append, noted-append)
