use Rattle.page_tables.proofs.Common.{IsIn, [], ap, append_assoc, first_run, in_left, in_right, length, map, rules, runs, span, subst, sym, table_of, ◌++◌, ◌<◌, ◌∙◌, ◌∷◌, ◌≡◌}
use Rattle.page_tables.proofs.Running.{runs_split}
use Rattle.page_tables.proofs.tables.push_level.Goals as goal

pub table_of-requires-clause-links : goal.table_of-requires-clause-links
table_of-requires-clause-links c = λ x i. c.loop-rest.invariant.links x (subst (λ z. IsIn x z) c.split_run.ensures.all
    (in_left x c.split_run.result.0.now c.split_run.result.1.now i))

pub loop-rest-preserved : goal.loop-rest-preserved
loop-rest-preserved c =
    let l = span c.args.shape in
    let made = table_of c.args.shape c.args.link in
    let rest = c.loop-rest.rest.now in
    let run = c.split_run.result.0.now in
    let behind = c.split_run.result.1.now in
    let first : run ≡ first_run l rest = c.split_run.ensures.run ∙ ap (λ n. first_run n rest) c.span.ensures in
    let some : 0 < length rest = search rules in
    let split = runs_split l rest run behind first c.split_run.ensures.all some in
    record {
      links = λ x i. c.loop-rest.invariant.links x (subst (λ z. IsIn x z) c.split_run.ensures.all (in_right x run behind i));
      so_far =
          ap (λ z. z ++ map made (runs l behind)) (c.in_ok-push.ensures.ok
          ∙ ap (λ z. c.loop-rest.objects ++ z ∷ []) c.in_ok-table_of.ensures)
          ∙ append_assoc c.loop-rest.objects (made run ∷ []) (map made (runs l behind))
          ∙ ap (λ z. c.loop-rest.objects ++ map made z) (sym split.0)
          ∙ c.loop-rest.invariant.so_far;
    }
