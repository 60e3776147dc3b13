use Rattle.page_tables.proofs.Common.{List, Mapping, [], ap, arith, drop, first_run, gather_more, get_or, length, length_append, no_rights, runs, span, suc, sym, take, upper, uppers, ℕ, ◌++◌, ◌∙◌, ◌∷◌, ◌≡◌}
use Rattle.page_tables.proofs.Running.{all_taken, dropped, headed, runs_none, runs_split}
use Rattle.page_tables.proofs.tables.uppers.Goals as goal

pub loop-rest-preserved : goal.loop-rest-preserved
loop-rest-preserved c =
    let l = span c.args.shape in
    let rs = runs l c.args.mappings.now in
    let rest = c.loop-rest.rest.now in
    let run = c.split_run.result.0.now in
    let behind = c.split_run.result.1.now in
    let found = c.loop-rest.found in
    let n = length found in
    let F : ℕ → List Mapping → List Mapping = λ j r. upper c.args.shape j r ∷ [] in
    let first : run ≡ first_run l rest = c.split_run.ensures.run ∙ ap (λ n. first_run n rest) c.span.ensures in
    let split = runs_split l rest run behind first c.split_run.ensures.all (omega (arith, c.in-len1-up.len_at_least)) in
    let here = dropped rs n run (runs l behind) (sym c.loop-rest.invariant.left ∙ split.0) in
    let head = headed run behind rest (record { at = 0; cap = no_rights 0 }) c.split_run.ensures.all split.1 in
    let made : c.upper.result ≡ upper c.args.shape n run = c.upper.ensures head.0
    ∙ ap (λ k. upper c.args.shape k (get_or rest 0 (record { at = 0; cap = no_rights 0 }) ∷ head.0)) c.len.ensures
    ∙ ap (upper c.args.shape n) (sym head.1) in
    let more : c.push.new.self ≡ found ++ F n run = c.in_ok-push.ensures.ok ∙ ap (λ z. found ++ z ∷ []) made in
    let long : length c.push.new.self ≡ suc n =
    (let e = ap (λ (z : List Mapping). length z) more in let k = length_append found (F n run) in omega (arith, e, k)) in
    record {
      left = sym here.1 ∙ ap (λ k. drop k rs) (sym long);
      so_far = more ∙ ap (λ z. z ++ F n run) c.loop-rest.invariant.so_far ∙ sym (gather_more F rs n run here.0)
          ∙ ap (λ k. uppers c.args.shape (take k rs)) (sym long);
    }

pub returns : goal.returns
returns c =
    let rs = runs (span c.args.shape) c.args.mappings.now in
    let none = runs_none (span c.args.shape) c.loop-rest.rest.now c.in_default.len_below in
    c.loop-rest.invariant.so_far
    ∙ ap (uppers c.args.shape) (all_taken rs (length c.loop-rest.found) (sym c.loop-rest.invariant.left ∙ none))
