use Rattle.adl_names.proofs.Common.{Name, Rises, as_component, as_procedure, component_named, drop, first_place, located, map, option_map, procedure_named, table_places, ◌++◌, ◌≡◌}
use Rattle.adl_names.proofs.Rising.{places}
use Rattle.adl_names.proofs.names.resolve.Given as goal

abbrev pub invariant-loop-x : goal.invariant-loop-x
invariant-loop-x l = record {
  procedures : (n : Name) → first_place as_procedure (λ p. p.id.name) l.procedures (map located (drop l.x-index l.x-items))
      n ≡ option_map (λ p. p.0) (procedure_named l.source n);
  components : (n : Name) → first_place as_component (λ c. c.id.name) l.components (map located (drop l.x-index l.x-items))
      n ≡ option_map (λ c. c.0) (component_named l.source n);
  procedures_rise : Rises (table_places l.procedures ++ places (map located (drop l.x-index l.x-items)));
  components_rise : Rises (table_places l.components ++ places (map located (drop l.x-index l.x-items)));
}
