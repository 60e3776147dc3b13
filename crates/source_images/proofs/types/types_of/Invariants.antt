use Rattle.source_images.proofs.Common.{List, bytes_eq, drop, filter_map, found, length, names_told, position, type_of, types, ℕ, ◌++◌, ◌≡◌, ◌≤◌}
use Rattle.source_images.proofs.Typing.{behind}
use Rattle.source_images.proofs.types.types_of.Given as goal

abbrev pub invariant-loop-leaf : goal.invariant-loop-leaf
invariant-loop-leaf l = record {
  few : length l.types.names.items ≤ l.leaf-index;
  told : (n : List ℕ) → found l.types.numbers n ≡ position (bytes_eq n) (names_told l.types.names.items);
  names : names_told l.types.names.items ++ behind (names_told l.types.names.items)
      (filter_map (type_of l.source) (drop l.leaf-index l.leaf-items)) ≡ types l.source l.fn.flat;
}
