use Rattle.system_spec.proofs.Common.{Domain, TableOf, [], domain_tables, first_of, gather, length, place, space_tables, take, told, ◌+◌, ◌∷◌, ◌≡◌}
use Rattle.system_spec.proofs.landmarks.all_spaces.Given as goal

abbrev pub invariant-loop-number : goal.invariant-loop-number
invariant-loop-number l = record {
  roots : l.roots ≡ gather (λ d (x : Domain). place (told l.tables) (TableOf d 0) ∷ []) (take l.number l.tables.flat.now.domains);
  all : l.objects ≡ gather (λ d (x : Domain). space_tables (told l.tables) d) (take l.number l.tables.flat.now.domains);
  next : l.first + length l.objects ≡ first_of (told l.tables) 6 + length
      (gather (domain_tables (told l.tables)) (take l.number l.tables.flat.now.domains));
}
