use Rattle.source_images.proofs.Common.{ap, arith, bytes_eq, filter_map, firsts, found, length, names_told, position, sym, type_of, ◌++◌, ◌∙◌}
use Rattle.source_images.proofs.Typing.{behind, few_more, firsts-behind, leaf_typed, leaf_untyped}
use Rattle.source_images.proofs.types.types_of.Goals as goal
use Rattle.source_images.proofs.types.types_of.Goals.{in-Some+in_ok-add, in_default}

pub loop-leaf-init : goal.loop-leaf-init
loop-leaf-init c = record {
  few = omega (arith, ap length c.new.ensures.items);
  told = λ n. ap (λ z. found z n) c.new-2.ensures ∙ sym (ap (λ z. position (bytes_eq n) (names_told z)) c.new.ensures.items);
  names =
      ap (λ z. names_told z ++ behind (names_told z) (filter_map (type_of c.args.source.now) c.as_slice-leaf-items.result.now))
      c.new.ensures.items
      ∙ sym (firsts-behind (filter_map (type_of c.args.source.now) c.as_slice-leaf-items.result.now))
      ∙ ap (λ z. firsts bytes_eq (filter_map (type_of c.args.source.now) z)) c.as_slice-leaf-items.ensures;
}

pub loop-leaf-preserved : goal.loop-leaf-preserved
loop-leaf-preserved c =
    let i = c.loop-leaf.invariant in
    elim c.match-type_of.branch [
      | in-Some+in_ok-add w ↦ rw w.types-is (record {
        few = few_more c.loop-leaf.types.names.items w.add.new.self.names.items w.in-Some.name.now c.loop-leaf.leaf-index
            w.in_ok-add.ensures.names i.few;
        told = w.in_ok-add.ensures.told;
        names = leaf_typed (type_of c.args.source.now) c.as_slice-leaf-items.result.now c.loop-leaf.leaf-index c.leaf-item.result
            (names_told c.loop-leaf.types.names.items) (names_told w.add.new.self.names.items)
            _ w.in-Some.name.now c.loop-leaf-test.true c.leaf-item.is w.in-Some.ensures w.in_ok-add.ensures.names i.names;
      })
      | in_default w ↦ rw w.types-is (record {
        few = omega (arith, i.few);
        told = i.told;
        names = leaf_untyped (type_of c.args.source.now) c.as_slice-leaf-items.result.now c.loop-leaf.leaf-index
            c.leaf-item.result (names_told c.loop-leaf.types.names.items) _ c.loop-leaf-test.true c.leaf-item.is
            w.in_default.ensures i.names;
      })
    ]
