use Rattle.view_tool.proofs.PageCommon.{List, Receive, [], ap, arith, gather_turn, get_or_from_slice_get, mark_at, marked, refl, slice_get-get_or, sym, ℕ, ◌++◌, ◌∙◌, ◌∷◌}
use Rattle.view_tool.proofs.matrix.marks_of.Goals as goal
use Rattle.view_tool.proofs.matrix.marks_of.Goals.{in-Some+in_ok-push_mark, in_default}

pub loop-at-preserved : goal.loop-at-preserved
loop-at-preserved c = elim c.match-get.branch [
  | in-Some+in_ok-push_mark w ↦
      let here = sym (get_or_from_slice_get c.args.edges.now c.loop-at.at w.in-Some.edge w.in-Some.edge
      (sym w.in-Some.ensures)) in
      rw w.marks-is (gather_turn (mark_at c.args.notes.now) c.args.edges.now c.args.edges.now c.loop-at.at w.in-Some.edge []
      c.loop-at.marks _ refl (omega arith) here c.loop-at.invariant
      (w.in_ok-push_mark.ensures ∙ ap (λ (n : List ℕ). c.loop-at.marks ++ marked w.in-Some.edge n ∷ []) w.note_at.ensures))
  | in_default w ↦
      absurd (w.in_default.not-Some _ (c.get.ensures ∙ slice_get-get_or c.args.edges.now c.loop-at.at
      (record { from = 0; authority = Receive; to = 0 }) (omega arith)))
]
