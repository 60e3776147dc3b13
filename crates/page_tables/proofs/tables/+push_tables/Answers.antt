use Rattle.page_tables.proofs.Common.{CanLinkAll, OnOk, ap, append_assoc, arith, layers, map, numbered, runs, sizes, span, subst, sym, table_of, uppers, ◌++◌, ◌+◌, ◌<◌, ◌^◌, ◌∙◌, ◌≡◌}
use Rattle.page_tables.proofs.Counted.{counted}
use Rattle.page_tables.proofs.Fitting.{above_fit, above_stack, all_sizes, uppers_link}
use Rattle.page_tables.proofs.tables.+push_tables.Goals as goal

pub count_over-requires-clause-few : goal.count_over-requires-clause-few
count_over-requires-clause-few t c =
    let shape = c.in-Some.shape.now in
    let above = c.in-Some.above.now in
    let e = c.in-Some.ensures.cases.0 in
    let mapped = c.as_slice.ensures ∙ c.in_ok-mapped.ensures in
    let all = all_sizes c.args.shapes.now shape above e c.args.mappings.now in
    let count = counted c.args.shapes.now shape above e c.args.mappings.now _ mapped c.requires.shapes c.requires.stacked in
    omega (arith, all, count, c.requires.few)

pub overflow_cast-place : goal.overflow_cast-place
overflow_cast-place t c =
    let shape = c.in-Some.shape.now in
    let above = c.in-Some.above.now in
    let e = c.in-Some.ensures.cases.0 in
    let mapped = c.as_slice.ensures ∙ c.in_ok-mapped.ensures in
    let all = all_sizes c.args.shapes.now shape above e c.args.mappings.now in
    let count = counted c.args.shapes.now shape above e c.args.mappings.now _ mapped c.requires.shapes c.requires.stacked in
    omega (arith, all, count, c.count_over.ensures, c.requires.few)

pub overflow_add-place : goal.overflow_add-place
overflow_add-place t c =
    let shape = c.in-Some.shape.now in
    let above = c.in-Some.above.now in
    let e = c.in-Some.ensures.cases.0 in
    let mapped = c.as_slice.ensures ∙ c.in_ok-mapped.ensures in
    let all = all_sizes c.args.shapes.now shape above e c.args.mappings.now in
    let count = counted c.args.shapes.now shape above e c.args.mappings.now _ mapped c.requires.shapes c.requires.stacked in
    omega (arith, all, count, c.count_over.ensures, c.requires.few)

pub push_tables-requires : goal.push_tables-requires
push_tables-requires t c =
    let shape = c.in-Some.shape.now in
    let above = c.in-Some.above.now in
    let e = c.in-Some.ensures.cases.0 in
    let mapped = c.as_slice.ensures ∙ c.in_ok-mapped.ensures in
    let again = c.as_slice-2.ensures ∙ c.in_ok-mapped.ensures in
    let all = all_sizes c.args.shapes.now shape above e c.args.mappings.now in
    let count = counted c.args.shapes.now shape above e c.args.mappings.now _ mapped c.requires.shapes c.requires.stacked in
    let place = c.args.first + c.count_over.result in (
      omega (arith, c.in-Some.ensures.cases.1),
      (
        above_fit c.args.shapes.now shape above e c.requires.shapes,
        (
          above_stack c.args.shapes.now shape above e c.requires.stacked,
          (
            subst (λ z. CanLinkAll place z) (sym again) (uppers_link shape c.args.mappings.now place
                (omega (arith, all, count, c.count_over.ensures, c.requires.few))),
            subst (λ z. c.args.first + sizes (layers above z) < 2 ^ 32) (sym again) (omega (arith, all, c.requires.few)),
          ),
        ),
      ),
    )

pub returns : goal.returns
returns t c =
    let shape = c.in-Some.shape.now in
    let above = c.in-Some.above.now in
    let e = c.in-Some.ensures.cases.0 in
    let xs = c.args.mappings.now in
    let objects = c.args.objects.now in
    let first = c.args.first in
    let mapped = c.as_slice.ensures ∙ c.in_ok-mapped.ensures in
    let again = c.as_slice-2.ensures ∙ c.in_ok-mapped.ensures in
    let ys = layers above (uppers shape (runs (span shape) xs)) in
    let here = map (table_of shape c.args.link) (runs (span shape) xs) in
    let count = counted c.args.shapes.now shape above e xs _ mapped c.requires.shapes c.requires.stacked in
    let place = ap (λ n. first + n) (c.count_over.ensures ∙ count) in
    let front = c.in_ok-push_tables.ensures
    ∙ ap (λ z. objects ++ numbered first (first + c.count_over.result) (layers above z)) again
    ∙ ap (λ n. objects ++ numbered first n ys) place in
    let made = ap (λ z. z ++ here) front ∙ append_assoc objects (numbered first (first + sizes ys) ys) here
    ∙ ap (λ ls. objects ++ numbered first c.args.link (layers ls xs)) (sym e) in
    subst (λ z. OnOk c.push_level.result (c.push_level.new.objects ≡ z)) made c.push_level.ensures
