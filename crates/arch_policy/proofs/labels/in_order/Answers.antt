-- in_order
use Rattle.arch_policy.proofs.Common.{IsPermutation-map, YieldsList-end, ap, firsts, in_order, map, map-id, rules, subst, sym, ◌∙◌, ◌≡◌}
use Rattle.std.proofs.lemmas.Iterator.Adapters.{YieldsList-from_vec}
use Rattle.arch_policy.proofs.Ordering.{firsts_sorted, sorted_once}
use Rattle.arch_policy.proofs.labels.in_order.Goals as goal

pub returns : goal.returns
returns c =
    let placed = c.into_vec-placed.result.items in
    let sorted = c.sort.new.self.items in
    let end = YieldsList-end (YieldsList-from_vec {s = c.into_iter-text-iterator.result} sorted (search rules) (search rules))
    c.loop-text.yielded c.loop-text.text-iterator c.loop-text.yielded_by c.next.result c.next.new.self c.in-None.is
    c.next.ensures.steps in
    let all : c.loop-text.yielded ≡ sorted = sym (map-id c.loop-text.yielded) ∙ end.0 in
    let listed : c.loop-text.ordered.items ≡ map (λ p. p.0) sorted = c.loop-text.invariant ∙ ap (map (λ p. p.0)) all in
    c.from_vec.ensures
    ∙ subst (λ z. c.dedup.new.self.items ≡ in_order z) (ap firsts c.into_vec-placed.ensures)
    (sorted_once (map (λ p. p.0) placed) (map (λ p. p.0) sorted) c.dedup.new.self.items
    (IsPermutation-map (λ p. p.0) placed sorted c.sort.ensures.permutation) (firsts_sorted sorted c.in_ok-sort.ensures.sorted)
    (rw listed at c.dedup.ensures.filtered))
