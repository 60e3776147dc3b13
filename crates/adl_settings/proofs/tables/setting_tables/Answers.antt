use Rattle.adl_settings.proofs.SettleCommon.{IsTable, ap, arith, length, noted-append, sym, ◌∙◌}
use Rattle.adl_settings.proofs.TableSteps.{bodies_next, body-behind, each_more, each_or, setting_of-same}
use Rattle.adl_settings.proofs.tables.setting_tables.Goals as goal

pub push_reserved-requires : goal.push_reserved-requires
push_reserved-requires c =
    let before = c.loop-number.invariant in
    omega (arith, before.count, before.room, c.loop-number-test.true, c.top_number-number-end.ensures.number)

pub loop-number-preserved : goal.loop-number-preserved
loop-number-preserved c =
    let h = c.args.bodies.now in
    let before = c.loop-number.invariant in
    let next =
    bodies_next h c.loop-number.number (omega (arith, c.loop-number-test.true, c.top_number-number-end.ensures.number)) in
    let pushed = c.push_reserved.ensures in
    record {
      count = omega (arith, pushed.len, before.count);
      room = pushed.capacity ∙ before.room;
      so_many = ap length pushed.items ∙ search (arith, before.so_many);
      each = each_more (IsTable h) c.loop-number.tables.items c.push_reserved.new.self.items c.in_ok-table_of.field-0
          c.loop-number.number before.so_many pushed.items before.each c.in_ok-table_of.ensures.found;
      twice = grind (arith, noted-append, next, c.in_ok-table_of.ensures.noted, before.twice);
    }

pub returns-clause-found : goal.returns-clause-found
returns-clause-found c =
    let h = c.args.bodies.now in
    let last = c.top_number.result in
    let at_last = body-behind h last (omega (arith, c.top_number.ensures.number)) in
    each_or (IsTable h) c.loop-number.tables.items c.in_ok-top.top
    (λ k l. c.loop-number.invariant.each k (omega (arith, l, c.loop-number.invariant.so_many)))
    (λ k l p x.
    c.in_ok-top.ensures.found p x
    ∙ setting_of-same h last k
    (at_last
    ∙ sym
    (body-behind h k (omega (
      arith,
      l,
      c.loop-number.invariant.so_many,
      c.loop-number-test.false,
      c.top_number-number-end.ensures.number,
    )))) p x)
