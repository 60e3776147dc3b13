use Rattle.adl_names.proofs.Common.{drop, duplicates_in_item, flat_map, items_of, length, located, map, noted, ◌++◌, ◌≡◌}
use Rattle.adl_names.specs.Bodies.{item_of}
use Rattle.std.specs.Prelude.{vec_capacity, vec_len}
use Rattle.adl_names.proofs.bodies.bodies.Given as goal

abbrev pub invariant-loop-x : goal.invariant-loop-x
invariant-loop-x l = record {
  count : vec_len l.bodies ≡ l.x-index;
  room : vec_capacity l.bodies ≡ length l.all;
  noted : noted l.first (flat_map (λ x. duplicates_in_item x.1) (map located (drop l.x-index l.all))) ≡ noted l.fn.first
      (flat_map (λ x. duplicates_in_item x.1) (items_of l.items));
  bodies : map item_of l.bodies.items ++ map (λ x. x.1) (map located (drop l.x-index l.all)) ≡ map (λ x. x.1)
      (items_of l.items);
}
