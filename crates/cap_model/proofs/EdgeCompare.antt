-- What the comparisons of edges in code say of the order.
use Rattle.cap_model.proofs.Common.{Before, Edge, Equal, Greater, Less, arith, false, is_lt, matches_eq-law, ordering_then, refl, rules, total-law, true, ◌≡◌}
use Rattle.std.specs.declared.cmp.Ordering.{Ordering}
use Rattle.std.proofs.lemmas.Grind.{common_steps}
use Rattle.cap_model.specs.contracts.edge.EdgeOrd.TheImpl.{ghosts as ordered}
use Rattle.cap_model.specs.contracts.edge.EdgePartialEq.TheImpl.{ghosts as compared}

pub eq-same : (d e : Edge) → compared.eq d e ≡ true → d ≡ e
eq-same d e h = search rules

pub cmp-before : (d e : Edge) → ordered.cmp d e ≡ Less → Before d e
cmp-before d e h = grind (arith, common_steps)

pub cmp-same : (d e : Edge) → ordered.cmp d e ≡ Equal → d ≡ e
cmp-same d e h = eq-same d e (rw (matches_eq-law d e, h) refl)

pub cmp-after : (d e : Edge) → ordered.cmp d e ≡ Greater → Before e d
cmp-after d e h = cmp-before e d (rw (total-law.antisymm e d, h) refl)

-- what isn't less by two comparisons isn't less by the first
pub first_not_less : (o q : Ordering) → is_lt (ordering_then o q) ≡ false → is_lt o ≡ false
first_not_less Less q h = h
first_not_less Equal q h = refl
first_not_less Greater q h = refl
