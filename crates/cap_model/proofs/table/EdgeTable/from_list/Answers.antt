use Rattle.cap_model.proofs.Common.{Edge, Err, IfOk, IsSorted, List, Ok, Result, has, subst, sym, ◌≡◌}
use Rattle.cap_model.proofs.TableSorting.{sorted_then_dedup, has-sorted_then_dedup}
use Rattle.cap_model.proofs.table.EdgeTable.from_list.Goals as goal

ok_same : {E : Type 0} (P : List Edge → Type 0) (edges : List Edge) (r : Result (List Edge) E) → IfOk r (λ t. t ≡ edges)
    → P edges → IfOk r P
ok_same P edges (Ok t) same p = subst P (sym same) p
ok_same P edges (Err e) same p = tt

pub table_of-requires : goal.table_of-requires
table_of-requires c = rw c.as_slice.ensures.value (sorted_then_dedup c.sort_unstable.new.self.items c.dedup.new.self.items
    c.dedup.ensures.filtered c.sort_unstable.ensures.sorted)

pub returns-clause-sorted : goal.returns-clause-sorted
returns-clause-sorted c = ok_same IsSorted c.as_slice.result.now c.table_of.result c.table_of.ensures
    (rw c.as_slice.ensures.value (sorted_then_dedup c.sort_unstable.new.self.items c.dedup.new.self.items c.dedup.ensures.filtered
    c.sort_unstable.ensures.sorted))

pub returns-clause-same : goal.returns-clause-same
returns-clause-same c = ok_same (λ t. (e : Edge) → has t e ≡ has c.args.edges.now e) c.as_slice.result.now c.table_of.result
    c.table_of.ensures
    (λ e. rw (c.as_slice.ensures.value, ← c.in_ok-sorted.ensures.items_if_clones_equal (λ x y e. e))
    (has-sorted_then_dedup c.sort_unstable.new.self.items c.dedup.new.self.items c.dedup.ensures.filtered
    c.in_ok-sorted.sorted.items c.sort_unstable.ensures.permutation e))
