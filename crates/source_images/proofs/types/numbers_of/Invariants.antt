use Rattle.source_images.proofs.Common.{map, take, type_number, ◌≡◌}
use Rattle.source_images.proofs.types.numbers_of.Given as goal

abbrev pub invariant-loop-leaf : goal.invariant-loop-leaf
invariant-loop-leaf l = l.list ≡ map (type_number l.source l.fn.flat) (take l.leaf-index l.leaf-items)
