use Rattle.adl_flatten.proofs.Common.{Fault, None, Option, Refuses, ap, arith, faults_by, least, noted, noted-none, noting, subst, ◌∙◌, ◌≡◌}
use Rattle.adl_flatten.proofs.Templates.{faults_are}
use Rattle.adl_flatten.proofs.faults.check_joins.Goals as goal

pub returns : goal.returns
returns c =
    let h = c.args.program.now in
    let fs = faults_by h c.args.leaves.now c.args.template.now.leaves.items c.args.template.now.connections.items in
    let all : c.note_calls.new.first ≡ noted None fs = grind (arith, noting) in
    let P : Option Fault → Type 0 = λ o. Refuses c.refuse.result o in
    subst P (all ∙ noted-none fs ∙ ap least (faults_are h _ _ _ c.requires.leaves c.requires.template.leaves
    c.requires.template.connections)) c.refuse.ensures
