use Rattle.capdl_read.proofs.Common.{Holder, List, drop, flat_map, held, is_some, map, names_after, names_twice, noted, off_in, slot_said, slots_or, spread_found, unknown_in, ℕ, ◌≡◌}
use Rattle.capdl_read.proofs.held.holders_held.Given as goal

abbrev pub invariant-loop-holder : goal.invariant-loop-holder
invariant-loop-holder l = record {
  unknown : noted l.faults.unknown (flat_map (unknown_in (spread_found l.known)) (drop l.holder-index l.holders)) ≡ noted
      l.fn.faults.unknown (flat_map (unknown_in (spread_found l.known)) l.holders);
  kind : noted l.faults.kind (flat_map (off_in l.arch (spread_found l.known)) (drop l.holder-index l.holders)) ≡ noted
      l.fn.faults.kind (flat_map (off_in l.arch (spread_found l.known)) l.holders);
  twice : noted l.twice (names_after (λ n. is_some (spread_found l.table n))
      (map (λ (h : Holder). h.id) (drop l.holder-index l.holders))) ≡ noted l.fn.twice
      (names_twice (map (λ (h : Holder). h.id) l.holders));
  said : (n : List ℕ)
      → slots_or (spread_found l.table n) (map (slot_said (spread_found l.known)) (held (drop l.holder-index l.holders) n)) ≡ map
      (slot_said (spread_found l.known)) (held l.holders n);
}
