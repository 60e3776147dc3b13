use Rattle.policy_text.proofs.Common.{HasFewEdges, [], ap, knows, meant, subst, sym, wrong_entry, ◌++◌, ◌∙◌, ◌∷◌}
use Rattle.policy_text.proofs.Taking.{room_for}
use Rattle.policy_text.proofs.seen.Seen.wrong.Goals as goal

pub returns-in-Label : goal.returns-in-Label
returns-in-Label c = λ before line text seen few.
    c.wrong_label.ensures before (knows c.args.known.now) line seen
    ∙ ap (λ e. wrong_entry (knows c.args.known.now) before line (meant e)) (sym c.in-Label.is)

pub returns-in-Object : goal.returns-in-Object
returns-in-Object c = λ before line text seen few. c.wrong_object.ensures before line seen
    ∙ ap (λ e. wrong_entry (knows c.args.known.now) before line (meant e)) (sym c.in-Object.is)

pub returns-in-Edge : goal.returns-in-Edge
returns-in-Edge c = λ before line text seen few.
    c.wrong_edge.ensures before line c.in-Edge.authority text seen
    (λ none. room_for before line c.in-Edge.from.text.now c.in-Edge.authority c.in-Edge.to.text.now
    (subst (λ e. HasFewEdges (before ++ (line, meant e) ∷ [])) c.in-Edge.is (few none)))
    ∙ ap (λ e. wrong_entry (knows c.args.known.now) before line (meant e)) (sym c.in-Edge.is)
