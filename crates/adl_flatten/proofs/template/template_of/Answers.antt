use Rattle.adl_flatten.proofs.TemplateCommon.{arith, body, common_steps, flat_map, leaves_by, sym, ◌∙◌, ◌≡◌}
use Rattle.adl_flatten.proofs.Placing.{connections_placed, template_leaves_placed}
use Rattle.adl_flatten.proofs.template.template_of.Goals as goal

pub returns : goal.returns
returns c =
    let h = c.args.program.now in
    let k = c.args.number in
    let leaves : c.loop-part.leaves.items ≡ flat_map (leaves_by h) (body h k).parts = grind (arith, common_steps) in
    record {
      leaves = leaves ∙ sym (template_leaves_placed h c.requires.ready k c.requires.number);
      connections = c.in_ok-connections.ensures ∙ sym (connections_placed h c.requires.ready k c.requires.number);
      targets = c.in_ok-targets.ensures;
    }
