use Rattle.adl_flatten.proofs.Common.{Fault, Option, Refuses, ap, flat_connection_of, flattened, map, pointed, refl, rules, subst, sym, ◌∙◌}
use Rattle.adl_flatten.proofs.Homes.{domains_are, leaves_are}
use Rattle.adl_flatten.proofs.PassedLimits.{fault_is}
use Rattle.adl_flatten.proofs.SoundReady.{sound_is_ready}
use Rattle.adl_flatten.proofs.Templates.{connections_are}
use Rattle.adl_flatten.proofs.flat.flatten_program.Goals as goal

pub check_limits-requires-clause-ready : goal.check_limits-requires-clause-ready
check_limits-requires-clause-ready c = sound_is_ready _ _ c.requires.sound c.requires.members c.requires.program

pub assembly_template-requires-clause-ready : goal.assembly_template-requires-clause-ready
assembly_template-requires-clause-ready c = sound_is_ready _ _ c.requires.sound c.requires.members c.requires.program

pub check_joins-requires-clause-leaves : goal.check_joins-requires-clause-leaves
check_joins-requires-clause-leaves c =
    c.as_slice-2.ensures ∙ c.in_ok-leaves.ensures.leaves ∙ leaves_are c.args.program.now _ _ refl
    (c.as_slice.ensures.value ∙ c.in_ok-template.ensures.leaves)

pub returns-in_err-check_joins-clause-fault : goal.returns-in_err-check_joins-clause-fault
returns-in_err-check_joins-clause-fault c =
    let P : Option Fault → Type 0 = λ o. Refuses c.from_residual-in_err-check_joins.result o in
    subst P (sym (fault_is c.args.source.now c.args.program.now c.requires.program c.in_ok-check_limits.ensures)) (search rules)

pub returns-clause-fault : goal.returns-clause-fault
returns-clause-fault c = fault_is c.args.source.now c.args.program.now c.requires.program c.in_ok-check_limits.ensures
    ∙ c.in_ok-check_joins.ensures

pub returns-clause-flat : goal.returns-clause-flat
returns-clause-flat c =
    let h = c.args.program.now in
    let paths = c.in_ok-leaves.ensures.paths in
    let leaves = c.in_ok-leaves.ensures.leaves ∙ leaves_are h _ _ refl (c.as_slice.ensures.value
    ∙ c.in_ok-template.ensures.leaves) in
    let domains = c.in_ok-flat_domains.ensures ∙ domains_are h _ _ (c.as_slice-4.ensures ∙ leaves)
    (ap pointed c.as_slice-3.ensures.keys ∙ paths) in
    let connections = c.in_ok-flat_connections.ensures ∙ ap (map flat_connection_of) (c.as_slice-5.ensures.value
    ∙ c.in_ok-template.ensures.connections) ∙ connections_are h in
    (λ i. record { leaves = (c.leaves.view_is ∙ leaves) i; domains = domains i; connections = connections i })
    ∙ ap flattened c.requires.program
