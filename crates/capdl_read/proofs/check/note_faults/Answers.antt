use Rattle.capdl_read.proofs.Common.{spread_found}
use Rattle.capdl_read.proofs.Checked.{all_in_parts, same_slots}
use Rattle.capdl_read.proofs.check.note_faults.Goals as goal

pub returns-clause-first : goal.returns-clause-first
returns-clause-first c =
    all_in_parts c.args.tree.now (spread_found c.in_ok-known.known) (λ n. rw c.as_slice.ensures at c.in_ok-known.ensures.known n)
    _ _ _ _ _ _ _ _
    (rw c.none.ensures at c.in_ok-held.ensures.unknown) c.merge.ensures c.in_ok-note_twices.ensures
    (rw c.none-2.ensures at c.in_ok-held.ensures.kind) c.merge-2.ensures
    (rw c.as_slice-2.ensures at c.in_ok-note_slot_ranges.ensures) c.in_ok-note_limits.ensures

pub returns-clause-slots : goal.returns-clause-slots
returns-clause-slots c = λ n.
    same_slots c.args.tree.now (spread_found c.in_ok-known.known) (λ n. rw c.as_slice.ensures at c.in_ok-known.ensures.known n) n
    _ (c.in_ok-held.ensures.slots n)
