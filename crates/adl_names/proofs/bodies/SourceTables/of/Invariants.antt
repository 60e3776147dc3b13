use Rattle.adl_names.proofs.Common.{Name, bytes_eq, drop, find, has_name, is_procedure, is_some, located, map, noted, procedures, repeats, repeats_after, ◌||◌, ◌≡◌}
use Rattle.adl_names.proofs.bodies.SourceTables.of.Given as goal

abbrev pub invariant-loop-x : goal.invariant-loop-x
invariant-loop-x l = record {
  noted : noted l.first (repeats_after (has_name l.procedures) (map (λ p. p.1.id) (map located (drop l.x-index l.x-items))))
      ≡ noted l.fn.first (repeats (map (λ p. p.1.id) (procedures l.items)));
  procedures : (n : Name)
      → (has_name l.procedures n || is_some (find (λ p. bytes_eq n p.1.id.name) (map located (drop l.x-index l.x-items))))
      ≡ is_procedure l.items n;
}
