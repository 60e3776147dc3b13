use Rattle.view_tool.proofs.Common.{arith, sym, told, ◌∙◌}
use Rattle.std.proofs.lemmas.Option.{get_or_from_slice_get, slice_get-get_or}
use Rattle.authorities.specs.declared.authority.Authority.TheVariants.{Receive}
use Rattle.view_tool.proofs.Noting.{notes_all, notes_turn}
use Rattle.view_tool.proofs.reasons.notes_of.Goals as goal
use Rattle.view_tool.proofs.reasons.notes_of.Goals.{in-Some+in_ok-note+in_ok-push, in_default}

pub returns : goal.returns
returns c = notes_all (told c.args.grounds.now) c.args.grounds.now.policy.now.edges c.loop-at.at c.loop-at.notes (omega arith)
    c.loop-at.invariant

pub loop-at-preserved : goal.loop-at-preserved
loop-at-preserved c = elim c.match-get.branch [
  | in-Some+in_ok-note+in_ok-push w ↦
      let g = told c.args.grounds.now in
      let edges = g.policy.edges in
      let here = sym (get_or_from_slice_get edges c.loop-at.at w.in-Some.edge w.in-Some.edge (sym w.in-Some.ensures)) in
      rw (w.notes-is, w.in_ok-push.ensures.ok)
      (notes_turn g edges c.loop-at.at w.in-Some.edge c.loop-at.notes w.in_ok-note.note (omega arith) here c.loop-at.invariant
      w.in_ok-note.ensures)
  | in_default w ↦
      absurd (w.in_default.not-Some _ (c.get.ensures ∙ slice_get-get_or c.args.grounds.now.policy.now.edges c.loop-at.at
      (record { from = 0; authority = Receive; to = 0 }) (omega arith)))
]
