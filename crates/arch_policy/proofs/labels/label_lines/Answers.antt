use Rattle.arch_policy.proofs.Common.{List, [], ap, arith, below, gather, gather_ones, length, sym, ℕ, ◌++◌, ◌∙◌, ◌∷◌, ◌≡◌}
use Rattle.std.specs.Vec.Iter.{into_iter_len}
use Rattle.cspace_layout.proofs.Taking.{Turned, gather_push, turned}
use Rattle.arch_policy.proofs.labels.label_lines.Goals as goal

pub overflow_cast-number : goal.overflow_cast-number
overflow_cast-number c =
    let it = c.into_iter-text-iterator.result in
    let items = c.into_vec-text-items.ensures in
    let gives = c.into_iter-text-iterator.ensures.into_iter_gives in
    let many : into_iter_len it ≡ length c.args.texts =
    omega (arith, gives.1, c.into_vec-text-items.result.ok.0, ap (λ (z : List (List ℕ)). length z) items) in
    let t : Turned c.args.texts c.loop-text.yielded c.in-Some.text = turned it c.loop-text.text-iterator c.next.new.self
    c.args.texts (gives.0 ∙ items) many c.loop-text.yielded c.loop-text.yielded_by c.next.result c.in-Some.text c.in-Some.is
    c.next.ensures.steps in
    let l = below c.args.texts (length c.loop-text.yielded) c.in-Some.text t.here in
    let so_far = ap (λ (z : List (ℕ × List ℕ)). length z) c.loop-text.invariant ∙ gather_ones (λ n t. (n, t))
    c.loop-text.yielded in
    omega (arith, l, so_far, c.requires)

pub loop-text-preserved : goal.loop-text-preserved
loop-text-preserved c =
    let so_far = ap (λ (z : List (ℕ × List ℕ)). length z) c.loop-text.invariant ∙ gather_ones (λ n t. (n, t))
    c.loop-text.yielded in
    c.in_ok-push.ensures.ok
    ∙ ap (λ n. c.loop-text.lines ++ (n, c.in-Some.text) ∷ []) c.len-number.ensures
    ∙ ap (λ z. z ++ (length c.loop-text.lines, c.in-Some.text) ∷ []) c.loop-text.invariant
    ∙ ap (λ n. gather (λ n t. (n, t) ∷ []) c.loop-text.yielded ++ (n, c.in-Some.text) ∷ []) so_far
    ∙ sym (gather_push (λ n t. (n, t) ∷ []) c.loop-text.yielded c.in-Some.text)
