use Rattle.arch_compile.proofs.Common.{Entry, List, [], ap, arith, gather_turn, label_of, refl, ℕ, ◌++◌, ◌∙◌, ◌∷◌, ◌≡◌}
use Rattle.arch_compile.proofs.labelled.labelled_objects.Goals as goal

line_is : (before after : List (List ℕ × ℕ)) (name copy : List ℕ) (label given : ℕ) → copy ≡ name → given ≡ label
    → after ≡ before ++ (copy, given) ∷ [] → after ≡ before ++ (name, label) ∷ []
line_is before after name copy label given a b e = e ∙ ap (λ z. before ++ (z, given) ∷ []) a
    ∙ ap (λ z. before ++ (name, z) ∷ []) b

pub loop-number-preserved : goal.loop-number-preserved
loop-number-preserved c =
    let e = c.index-entries-number.result in
    record {
      items = gather_turn (λ n (x : Entry). (x.name, label_of c.args.labels.now.by_object n) ∷ []) c.args.entries.now _
          c.loop-number.number e [] _ _ refl c.loop-number-test.true c.index-entries-number.is c.loop-number.invariant.items
          (line_is c.loop-number.objects.items c.push_reserved.new.self.items e.name c.in_ok-copy.field-0
          (label_of c.args.labels.now.by_object c.loop-number.number) c.of.result c.in_ok-copy.ensures c.of.ensures
          c.push_reserved.ensures.items);
      count = omega (arith, c.push_reserved.ensures.len, c.loop-number.invariant.count);
      room = omega (arith, c.push_reserved.ensures.capacity, c.loop-number.invariant.room);
    }
