use Rattle.cap_model.proofs.Common.{Bool, Class, IsSorted, IsTable, List, [], ap, arith, false, length, nat_tests, subst, sym, table_edges, ℕ, ◌*◌, ◌++◌, ◌<◌, ◌==◌, ◌∙◌, ◌∷◌, ◌≡◌}
use Rattle.cap_model.proofs.SharedRows.{edges_shared, table_shared, shared_long, shared_sorted}
use Rattle.cap_model.proofs.table.EdgeTable.shared.Goals as goal

some_labels : (b : Bool) (labels : List ℕ) → b ≡ (length labels == 0) → b ≡ false → 0 < length labels
some_labels b labels e f = let g : (length labels == 0) ≡ false = sym e ∙ f in grind (arith, nat_tests)

pub of_rows-requires-clause-table : goal.of_rows-requires-clause-table
of_rows-requires-clause-table c =
    let labels = c.args.labels.now in
    let pairs = c.args.pairs.now in
    let rows = c.in_ok-rows.rows.items in
    let class = c.in_ok-class.class in
    let some : 0 < length labels = some_labels c.is_empty.result labels c.is_empty.ensures c.if-is_empty.false in
    let one : c.push.new.self.items ≡ class ∷ [] = c.in_ok-push.ensures.items ∙ ap (λ (cs : List Class). cs ++ class ∷ [])
    c.new-classes.ensures.items in
    subst (λ (cs : List Class). IsTable cs rows) (sym one) (table_shared labels pairs rows class c.requires.labels
    c.requires.pairs c.in_ok-rows.ensures c.in_ok-class.ensures.pairs c.in_ok-class.ensures.class some
    c.in_ok-class.ensures.label)

pub of_rows-requires-clause-len : goal.of_rows-requires-clause-len
of_rows-requires-clause-len c =
    let labels = c.args.labels.now in
    let pairs = c.args.pairs.now in
    let rows = c.in_ok-rows.rows.items in
    let class = c.in_ok-class.class in
    let some : 0 < length labels = some_labels c.is_empty.result labels c.is_empty.ensures c.if-is_empty.false in
    let one : c.push.new.self.items ≡ class ∷ [] = c.in_ok-push.ensures.items ∙ ap (λ (cs : List Class). cs ++ class ∷ [])
    c.new-classes.ensures.items in
    subst (λ (cs : List Class). length labels * length pairs ≡ length (table_edges cs rows)) (sym one)
    (shared_long labels pairs rows class c.requires.labels c.requires.pairs c.in_ok-rows.ensures c.in_ok-class.ensures.pairs
    c.in_ok-class.ensures.class some c.in_ok-class.ensures.label)

pub returns-clause-edges : goal.returns-clause-edges
returns-clause-edges c =
    let labels = c.args.labels.now in
    let pairs = c.args.pairs.now in
    let rows = c.in_ok-rows.rows.items in
    let class = c.in_ok-class.class in
    let some : 0 < length labels = some_labels c.is_empty.result labels c.is_empty.ensures c.if-is_empty.false in
    let one : c.push.new.self.items ≡ class ∷ [] = c.in_ok-push.ensures.items ∙ ap (λ (cs : List Class). cs ++ class ∷ [])
    c.new-classes.ensures.items in
    c.of_rows.ensures ∙ ap (λ (cs : List Class). table_edges cs rows) one ∙ edges_shared labels pairs rows class c.requires.labels
    c.requires.pairs c.in_ok-rows.ensures c.in_ok-class.ensures.pairs c.in_ok-class.ensures.class some
    c.in_ok-class.ensures.label

pub returns-clause-sorted : goal.returns-clause-sorted
returns-clause-sorted c =
    let labels = c.args.labels.now in
    let pairs = c.args.pairs.now in
    let rows = c.in_ok-rows.rows.items in
    let class = c.in_ok-class.class in
    let some : 0 < length labels = some_labels c.is_empty.result labels c.is_empty.ensures c.if-is_empty.false in
    let one : c.push.new.self.items ≡ class ∷ [] = c.in_ok-push.ensures.items ∙ ap (λ (cs : List Class). cs ++ class ∷ [])
    c.new-classes.ensures.items in
    subst IsSorted (sym (c.of_rows.ensures ∙ ap (λ (cs : List Class). table_edges cs rows) one ∙ edges_shared labels pairs rows
    class c.requires.labels c.requires.pairs c.in_ok-rows.ensures c.in_ok-class.ensures.pairs c.in_ok-class.ensures.class
    some c.in_ok-class.ensures.label)) (shared_sorted labels pairs c.requires.labels c.requires.pairs)
