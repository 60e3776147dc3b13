use Rattle.adl_parse.proofs.Common.{Many, behind, entries_line, entry_form, length, mark_code, nests, value_form, values_line, with_front, ◌*◌, ◌+◌, ◌≡◌}
use Rattle.cam_base.specs.declared.token.Mark.TheVariants as marks
use Rattle.adl_parse.proofs.value.+values.Given as goal

abbrev pub decreases-value_within : goal.decreases-value_within
decreases-value_within l = 10 * l.room + 2

abbrev pub decreases-nested : goal.decreases-nested
decreases-nested l = 10 * l.room + 1

abbrev pub decreases-next_value : goal.decreases-next_value
decreases-next_value l = 10 * l.room + 3

abbrev pub decreases-entry : goal.decreases-entry
decreases-entry l = 10 * l.room + 3

abbrev pub decreases-next_entry : goal.decreases-next_entry
decreases-next_entry l = 10 * l.room + 4

abbrev pub decreases-values : goal.decreases-values
decreases-values l = 10 * l.room + 5

abbrev pub decreases-entries : goal.decreases-entries
decreases-entries l = 10 * l.room + 5

abbrev pub decreases-list : goal.decreases-list
decreases-list l = 10 * l.room + 6

abbrev pub decreases-dictionary : goal.decreases-dictionary
decreases-dictionary l = 10 * l.room + 6

abbrev pub invariant-values-more : goal.invariant-values-more
invariant-values-more l = with_front l.items (nests l.room (Many (behind (mark_code marks.Comma) value_form)) l.at)
    ≡ nests l.room values_line l.fn.at

abbrev pub decreases-values-more : goal.decreases-values-more
decreases-values-more l = length l.at

abbrev pub invariant-entries-more : goal.invariant-entries-more
invariant-entries-more l = with_front l.items (nests l.room (Many (behind (mark_code marks.Comma) entry_form)) l.at)
    ≡ nests l.room entries_line l.fn.at

abbrev pub decreases-entries-more : goal.decreases-entries-more
decreases-entries-more l = length l.at
