use Rattle.adl_names.proofs.Common.{Bor, Component, Instance, ItemAt, List, Located, Name, Option, ap, arith, found, get_map, graph_in_range, graph_of, in_place, length, length-map, listed, map, noted, number_named, numbers_below, option_copied, pointed, refl, slice_get_read, sym, trees, trees-located, types_of, ℕ, ◌∙◌, ◌≡◌}
use Rattle.adl_meaning.specs.Recursive.{recursive_among}
use Rattle.adl_names.proofs.Leaves.{none_recursive}
use Rattle.adl_names.proofs.recursion.note_recursive.Goals as goal

graph_length : (numbers : Name → Option ℕ) (g : List (List ℕ)) (xs : List (Located Component)) → g ≡ graph_of numbers (trees xs)
    → length g ≡ length xs
graph_length numbers g xs e = ap length e ∙ length-map (trees xs) (types_of numbers)
    ∙ length-map xs (λ (x : Located Component). x.item.now)

pub returns-then-are_leaves : goal.returns-then-are_leaves
returns-then-are_leaves c =
    let xs = c.components-components.result.now in
    let all = trees-located xs ∙ ap (map (λ (x : ItemAt × Component). x.1)) c.components-components.ensures.components in
    let numbers = number_named (trees xs) in
    let none = none_recursive numbers (graph_of numbers (trees xs)) xs 0 (sym c.are_leaves.ensures ∙ c.if-are_leaves.true) in
    ap (noted c.args.first.now) (sym none ∙ ap (λ cs. recursive_among (number_named cs) cs) all)

pub of-requires-clause-range : goal.of-requires-clause-range
of-requires-clause-range c =
    let cs = trees c.components-components.result.now in
    rw c.in_ok-graph.ensures (graph_in_range (found c.in_ok-numbers.field-0) cs
    (λ m a e. numbers_below cs m a (sym (c.in_ok-numbers.ensures m) ∙ e)))

pub of-requires-clause-few : goal.of-requires-clause-few
of-requires-clause-few c = let e = graph_length _ _ c.components-components.result.now c.in_ok-graph.ensures in
    rw e c.components-components.ensures.few

pub loop-i-init : goal.loop-i-init
loop-i-init c =
    let cs = c.components-components.result.now in
    let same : found c.in_ok-numbers.field-0 ≡ number_named (trees cs) = λ i n. c.in_ok-numbers.ensures n i in
    let all = trees-located cs ∙ ap (map (λ (x : ItemAt × Component). x.1)) c.components-components.ensures.components in
    rw (c.in_ok-cycles.ensures ∙ c.in_ok-graph.ensures, same, all)

pub holds_back-requires-clause-component : goal.holds_back-requires-clause-component
holds_back-requires-clause-component c = let e = graph_length _ _ c.components-components.result.now (c.in_ok-cycles.ensures
    ∙ c.in_ok-graph.ensures) in omega arith

pub holds_back-requires-clause-inner : goal.holds_back-requires-clause-inner
holds_back-requires-clause-inner c =
    let xs = c.components-components.result.now in
    let x = c.index-components-i.result in
    let rs = c.as_slice-instance-items.result.now in
    let r = c.instance-item.result in
    let k = c.loop-instance.instance-index in
    let at = get_map (λ (y : Located Component). y.item.now) xs c.loop-i.i x (slice_get_read xs (length xs) c.loop-i.i x refl
    (omega arith) c.index-components-i.is) in
    let one = rw (ap pointed c.as_slice-instance-items.ensures.value ∙ c.in_ok-instances.ensures) at
    (in_place r.now (pointed rs) k (get_map (λ (q : Bor Instance). q.now) rs k r
    (slice_get_read rs (length rs) k r refl c.loop-instance-test.true c.instance-item.is))) in
    rw (c.in_ok-cycles.ensures ∙ c.in_ok-graph.ensures) (listed (found c.in_ok-numbers.field-0) (trees xs) c.loop-i.i x.item.now
    r.now _ at one (sym c.get.ensures ∙ ap option_copied c.in-Some.is))
