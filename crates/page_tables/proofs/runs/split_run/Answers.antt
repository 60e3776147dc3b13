use Rattle.page_tables.proofs.Common.{ap, arith, head_of, take, ◌∙◌}
use Rattle.page_tables.proofs.Running.{first_within, front_taken}
use Rattle.page_tables.proofs.runs.split_run.Goals as goal

pub split_at-requires : goal.split_at-requires
split_at-requires c =
    let xs = c.args.mappings.now in
    let within = first_within c.args.span (head_of c.args.span xs) xs in
    omega (arith, within, c.first_count.ensures)

pub returns-clause-run : goal.returns-clause-run
returns-clause-run c =
    let xs = c.args.mappings.now in
    c.split_at.ensures.front ∙ ap (λ n. take n xs) c.first_count.ensures ∙ front_taken c.args.span (head_of c.args.span xs) xs
