use Rattle.cspace_layout.proofs.Common.{EndAt, List, Member, OnOk, SlotUse, all_ends, ap, append_assoc, ends_at, flat_map, gather, lock_uses, subst, uses_at, ◌++◌, ◌∙◌, ◌≡◌}
use Rattle.cspace_layout.proofs.Using.{leaf_laid}
use Rattle.cspace_layout.proofs.lay.add_leaf.Goals as goal

pub returns : goal.returns
returns c =
    let s = c.args.wiring.now in
    let old : List SlotUse = c.args.uses.now in
    let ends : List EndAt → List SlotUse = flat_map (uses_at s.flat) in
    let locks : List Member → List SlotUse = gather (λ m x. lock_uses c.args.leaf m x) in
    let here = ends (ends_at (all_ends s) c.args.leaf) in
    let front = c.in_ok-add_ends.ensures ∙ ap (λ (z : List EndAt). old ++ ends z) c.ends.ensures in
    let laid = ap (λ (z : List SlotUse). z ++ locks c.members.result.now) front
    ∙ append_assoc old here (locks c.members.result.now)
    ∙ ap (λ (z : List Member). old ++ (here ++ locks z)) c.members.ensures.members
    ∙ ap (λ (z : List SlotUse). old ++ z) (leaf_laid s c.args.leaf) in
    subst (λ z. OnOk c.add_locks.result (c.add_locks.new.uses ≡ z)) laid c.add_locks.ensures
