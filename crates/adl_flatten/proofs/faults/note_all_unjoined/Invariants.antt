use Rattle.adl_flatten.proofs.Common.{drop, enumerate_from, flat_map, map, noted, unjoined_at, unjoined_member, ◌++◌, ◌+◌, ◌≡◌}
use Rattle.adl_flatten.proofs.faults.note_all_unjoined.Given as goal

abbrev pub invariant-loop-number : goal.invariant-loop-number
invariant-loop-number l =
    noted l.first (flat_map (unjoined_at l.program l.ends) (enumerate_from l.number (map (λ x. x.leaf) (drop l.number l.leaves))))
    ≡ noted l.fn.first (flat_map (unjoined_at l.program l.ends) (enumerate_from 0 (map (λ x. x.leaf) l.leaves)))

abbrev pub invariant-loop-place : goal.invariant-loop-place
invariant-loop-place l =
    noted l.first (flat_map (unjoined_member l.ends l.number) (enumerate_from l.place (drop l.place l.members))
    ++ flat_map (unjoined_at l.program l.ends) (enumerate_from (l.number + 1) (map (λ x. x.leaf) (drop (l.number + 1) l.leaves))))
    ≡ noted l.fn.first (flat_map (unjoined_at l.program l.ends) (enumerate_from 0 (map (λ x. x.leaf) l.leaves)))
