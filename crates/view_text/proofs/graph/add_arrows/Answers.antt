use Rattle.view_text.proofs.Common.{Receive, ap, arith, arrow_line, gather_turn, get_or_from_slice_get, note_at, refl, slice_get-get_or, sym, ◌++◌, ◌∙◌, ◌≡◌}
use Rattle.view_text.proofs.graph.add_arrows.Goals as goal
use Rattle.view_text.proofs.graph.add_arrows.Goals.{in-Some+in_ok-add_arrow, in_default}

pub loop-at-preserved : goal.loop-at-preserved
loop-at-preserved c = elim c.match-get.branch [
  | in-Some+in_ok-add_arrow w ↦
      let here = sym (get_or_from_slice_get c.args.edges.now c.loop-at.at w.in-Some.edge w.in-Some.edge
      (sym w.in-Some.ensures)) in
      rw w.text-is (gather_turn (λ at e. arrow_line (note_at c.args.notes.now at) e) c.args.edges.now c.args.edges.now
      c.loop-at.at w.in-Some.edge c.args.text.now c.loop-at.text _ refl (omega arith) here c.loop-at.invariant
      (w.in_ok-add_arrow.ensures ∙ ap (λ n. c.loop-at.text ++ arrow_line n w.in-Some.edge) w.note_at.ensures))
  | in_default w ↦
      absurd (w.in_default.not-Some _ (c.get.ensures ∙ slice_get-get_or c.args.edges.now c.loop-at.at
      (record { from = 0; authority = Receive; to = 0 }) (omega arith)))
]
