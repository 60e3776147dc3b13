use Rattle.adl_program.proofs.Common.{Leads, ap, length, ◌∙◌, ◌≤◌}
use Rattle.adl_program.specs.LedEnds.{led_wires}
use Rattle.adl_program.proofs.program.Program.wires.Goals as goal

pub returns : goal.returns
returns c =
    let low : c.args.number ≤ length c.self.inside.bodies.bodies = rw c.self.view_is c.requires in
    c.as_slice.ensures ∙ ap (λ (l : Leads). l.wires) c.index.ensures
    ∙ (c.self.invariant.leads.each c.args.number c.index.result.now low).wires
    ∙ (λ i. led_wires (c.self.view_is i) c.args.number)
