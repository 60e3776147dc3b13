use Rattle.source_images.proofs.Common.{[], ap, found, type_number, type_of, ◌++◌, ◌∙◌, ◌∷◌}
use Rattle.source_images.proofs.Typing.{map_more, number_is}
use Rattle.source_images.proofs.types.numbers_of.Goals as goal

pub loop-leaf-preserved : goal.loop-leaf-preserved
loop-leaf-preserved c =
    let number = c.number_of.ensures ∙ number_is c.args.source.now c.args.flat.now (found c.args.numbers.now)
    (type_of c.args.source.now c.leaf-item.result) c.requires in
    map_more (type_number c.args.source.now c.args.flat.now) c.as_slice-leaf-items.result.now c.loop-leaf.leaf-index
    c.leaf-item.result c.loop-leaf.list c.push.new.self c.loop-leaf-test.true c.leaf-item.is
    c.loop-leaf.invariant (c.in_ok-push.ensures.ok ∙ ap (λ z. c.loop-leaf.list ++ z ∷ []) number)
