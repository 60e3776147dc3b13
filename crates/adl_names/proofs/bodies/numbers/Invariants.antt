use Rattle.adl_names.proofs.Common.{Name, as_component, components, drop, enumerate_from, filter_map, find, found, has_name, is_named, item_number, items_of, located, map, noted, option_map, option_or, repeats, repeats_after, ◌≡◌}
use Rattle.adl_names.proofs.bodies.numbers.Given as goal

abbrev pub invariant-loop-number : goal.invariant-loop-number
invariant-loop-number l = record {
  noted : noted l.first
      (repeats_after (has_name l.numbers) (map (λ c. c.1.id) (filter_map as_component (map located (drop l.number l.all)))))
      ≡ noted l.fn.first (repeats (map (λ c. c.1.id) (components l.items)));
  numbers : (n : Name)
      → option_or (found l.numbers n)
      (option_map (λ x. x.0)
      (find (λ x. is_named n x.1) (enumerate_from l.number (map (λ x. x.1) (map located (drop l.number l.all)))))) ≡ item_number
      (map (λ x. x.1) (items_of l.items)) n;
}
