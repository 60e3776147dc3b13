use Rattle.policy_text.proofs.Common.{IsNear, List, body, count_by, edges_limit, form_fault, has_label, is_edge, lines_left, told, told_lines, ℕ, ◌++◌, ◌+◌, ◌||◌, ◌≡◌, ◌≤◌}
use Rattle.policy_text.proofs.read.note_lines.Given as goal
use Rattle.policy_text.specs.WordSets.{has}

abbrev pub invariant-loop-line : goal.invariant-loop-line
invariant-loop-line l = record {
  forms : form_fault l.kind (lines_left l.line-iterator) ≡ form_fault l.kind (body l.bytes);
  numbers : (n : List ℕ) → (has l.noted.numbers n || has_label (told l.kind (lines_left l.line-iterator)) n) ≡ has_label
      (told l.kind (body l.bytes)) n;
  edges : l.noted.edges ≤ edges_limit
      → l.noted.edges + count_by (λ t. is_edge t.1) (told l.kind (lines_left l.line-iterator)) ≡ count_by (λ t. is_edge t.1)
      (told l.kind (body l.bytes));
  near : IsNear l.noted.near.items l.noted.numbers;
  lines : told_lines l.noted.lines.items ++ told l.kind (lines_left l.line-iterator) ≡ told l.kind (body l.bytes);
}
