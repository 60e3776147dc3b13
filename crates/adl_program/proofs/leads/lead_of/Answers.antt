use Rattle.adl_program.proofs.Common.{None, Some, refl, ◌∙◌}
use Rattle.adl_program.proofs.Leading.{leads_through, part_leads}
use Rattle.adl_program.proofs.leads.lead_of.Goals as goal

pub returns-in_err-part-2 : goal.returns-in_err-part-2
returns-in_err-part-2 c = c.from_residual-in_err-part-2.ensures ∙ leads_through c.args.words.now c.in_ok-part.part.now
    c.in_ok-part.interface.now None None c.requires c.in_ok-part.ensures c.body.ensures c.in_err-part-2.ensures refl

pub inner_port-requires : goal.inner_port-requires
inner_port-requires c =
    let x = part_leads c.in_ok-part.part.now c.in_ok-part-2.part c.requires c.body.ensures c.in_ok-part-2.ensures in
    record { within = x.0; leads = x.1 }

pub returns-in_err-port : goal.returns-in_err-port
returns-in_err-port c = c.from_residual-in_err-port.ensures ∙ leads_through c.args.words.now c.in_ok-part.part.now
    c.in_ok-part.interface.now (Some c.in_ok-part-2.part) None c.requires c.in_ok-part.ensures c.body.ensures
    c.in_ok-part-2.ensures c.in_err-port.ensures

pub returns : goal.returns
returns c = leads_through c.args.words.now c.in_ok-part.part.now c.in_ok-part.interface.now (Some c.in_ok-part-2.part)
    (Some c.in_ok-port.port) c.requires c.in_ok-part.ensures c.body.ensures c.in_ok-part-2.ensures c.in_ok-port.ensures
