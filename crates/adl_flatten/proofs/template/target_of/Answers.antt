use Rattle.adl_flatten.proofs.TemplateCommon.{Body, ap, option_and_then, option_map, part_from, sym, target, target_by, get_or, ◌∙◌, ◌≡◌}
use Rattle.adl_flatten.proofs.Filling.{is_port, no_port}
use Rattle.adl_flatten.specs.AreTemplates.{IsInside}
use Rattle.adl_flatten.proofs.template.target_of.Goals.{In_ok-at}
use Rattle.adl_flatten.proofs.template.target_of.Goals as goal

port : (c : In_ok-at) → IsInside c.args.program.now c.args.all.now c.args.before.now c.in_ok-at.at
    × (target_by c.args.program.now (get_or c.args.before.now c.in_ok-at.at.number 0) c.in_ok-at.at.kind
    c.in_ok-part.interface.now ≡ target c.args.program.now c.args.number (c.in_ok-part.part.now, c.in_ok-part.interface.now))
port c = is_port c.args.program.now c.args.number c.args.all.now c.args.before.now c.requires.inner c.requires.before
    c.in_ok-part.part.now c.in_ok-part.interface.now c.in_ok-at.at
    (ap (λ (b : Body). part_from 0 b.parts c.in_ok-part.part.now) (sym c.body.ensures) ∙ sym c.part.ensures ∙ c.in_ok-at.was)

pub returns-in_err-at : goal.returns-in_err-at
returns-in_err-at c =
    c.from_residual-in_err-at.ensures
    ∙ sym (no_port c.args.program.now c.requires.inner.ready c.args.number c.args.words.now c.in_ok-part.part.now
    c.in_ok-part.interface.now _ c.requires.inner.number (sym c.port_in.ensures ∙ ap (option_map (λ p. (p.0.now, p.1.now)))
    c.in_ok-part.was) c.body.ensures (sym c.part.ensures ∙ c.in_err-at.was))

pub target_by-requires-clause-inside : goal.target_by-requires-clause-inside
target_by-requires-clause-inside c = (port (goal.at.target_by-requires-clause-inside c).In_ok-at).0

pub returns : goal.returns
returns c =
    c.target_by.ensures ∙ (port (goal.at.returns c).In_ok-at).1
    ∙ ap (option_and_then (target c.args.program.now c.args.number)) (sym (sym c.port_in.ensures
    ∙ ap (option_map (λ p. (p.0.now, p.1.now))) c.in_ok-part.was))
