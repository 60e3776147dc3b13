use Rattle.vspace_layout.proofs.Common.{MappedPage, arith, length-map, map, ℕ}
use Rattle.page_tables.proofs.Counting.{counts_within}
use Rattle.vspace_layout.proofs.counts.all_tables.Goals as goal

pub table_count-requires : goal.table_count-requires
table_count-requires c =
    let pages = c.as_slice.result.now in
    let at : MappedPage → ℕ = λ p. p.at in
    omega (arith, counts_within c.args.arch (map at pages), length-map pages at)
