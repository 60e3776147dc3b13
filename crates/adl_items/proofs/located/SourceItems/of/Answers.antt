use Rattle.adl_items.proofs.Common.{Component, ap, arith, as_assembly, as_component, as_procedure, components, filter_map, length, located, map, ◌∙◌, ◌≡◌}
use Rattle.std.proofs.lemmas.List.{length-map}
use Rattle.adl_meaning.proofs.FewComponents.{few_components}
use Rattle.adl_items.proofs.located.SourceItems.of.Goals as goal

pub invariant_of-result : goal.invariant_of-result
invariant_of-result c =
    let s = c.args.source.now in
    let cs = c.in_ok-components.components.items in
    let all = c.in_ok-components.ensures ∙ ap (filter_map as_component) (ap (map located) c.as_slice-2.ensures.value
    ∙ c.in_ok-items.ensures) in
    let long = length-map cs (located {T = Component}) in
    let same : length (map located cs) ≡ length (components s) = ap length all in
    let few = few_components s c.requires in
    record {
      items_are = c.in_ok-items.ensures;
      procedures_are = c.in_ok-procedures.ensures ∙ ap (filter_map as_procedure) (ap (map located) c.as_slice.ensures.value
          ∙ c.in_ok-items.ensures);
      components_are = all;
      assemblies_are = c.in_ok-assemblies.ensures ∙ ap (filter_map as_assembly) (ap (map located) c.as_slice-3.ensures.value
          ∙ c.in_ok-items.ensures);
      few = omega arith;
    }
