use Rattle.adl_program.proofs.Common.{Name, bytes_eq, drop, false, found, is_some, list_any, option_map_or, option_or, part_from, ◌||◌, ◌≡◌}
use Rattle.adl_program.proofs.body.names_of.Given as goal

abbrev pub invariant-loop-number : goal.invariant-loop-number
invariant-loop-number l = record {
  named : (n : Name) → option_or (found l.named n) (part_from l.number (drop l.number l.parts) n) ≡ part_from 0 l.parts n;
  groups : (n : Name) → is_some (found l.groups n) || list_any (λ x. option_map_or (bytes_eq n) x.group false)
      (drop l.number l.parts) ≡ list_any (λ x. option_map_or (bytes_eq n) x.group false) l.parts;
}
