use Rattle.system_spec.proofs.Common.{Global, OfDomain, PageTable, TableOf, [], ap, counted, gather_turn, get_or, get_or_default, one_more, part, refl, sym, table_part, take, ◌++◌, ◌∙◌, ◌∷◌}
use Rattle.system_spec.specs.Names.{level_series}
use Rattle.system_spec.proofs.LevelCounting.{counted_in, counts_more}
use Rattle.system_spec.proofs.levels.table_parts.Goals as goal

pub loop-table-preserved : goal.loop-table-preserved
loop-table-preserved c =
    let all = c.args.tables.now in
    let i = c.loop-table.table-index in
    let none : PageTable = record { domain = 0; place = 0; level = Global } in
    let x = get_or all i none in
    let below = c.loop-table-test.true in
    let number = c.counted.ensures ∙ ap (λ z. counted z x.level) c.loop-table.invariant.counts
    ∙ counted_in (take i all) x.level in
    record {
      so_far = gather_turn (λ m (y : PageTable). table_part all m y ∷ []) all _ i x [] _ _ refl below
          (get_or_default _ _ _ _ below) c.loop-table.invariant.so_far
          (c.in_ok-push.ensures.ok ∙ ap (λ z. c.loop-table.parts ++ part z c.counted.result (OfDomain x.domain)
          (TableOf x.domain x.place) ∷ []) c.of_level.ensures
          ∙ ap (λ z. c.loop-table.parts ++ part (level_series x.level) z (OfDomain x.domain) (TableOf x.domain x.place)
          ∷ []) number);
      counts = c.one_more-counts.ensures ∙ ap (λ z. one_more z x.level) c.loop-table.invariant.counts
          ∙ sym (counts_more all i x x.level below (get_or_default _ _ _ _ below) refl);
    }
