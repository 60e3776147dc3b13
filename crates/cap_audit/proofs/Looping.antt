-- The turns of the loops of an audit.
use Rattle.std.proofs.Common.{rules}
use Rattle.cap_audit.proofs.Common.{Edge, List, Made, None, OfKinds, OfListening, OfSome, Option, Pair, Pick, Some, eqb-false, false, has, pick_of, row_at, same_Some, stand_in}
use Rattle.cap_audit.proofs.Common.{true, ℕ, ◌==◌, ◌∙◌, ◌≡◌, ◌≢◌}
use Rattle.cap_audit.specs.declared.picks.Wanted.TheVariants as wants
use Rattle.cap_audit.proofs.Picking.{picked, picked_from}

module _ (m : Made) (rosters members : List (List ℕ)) (gates : List (List Pair)) (pair : Pair) where
  -- one whose capability listens
  pub listen_by : (pick : Pick) → pick_of m.spec m.found wants.Listener pair.held ≡ Some pick → (e : Edge)
      → OfListening m.spec m.labels m.found m.heads rosters members gates pair e
      → OfSome (λ (door : Pair). OfKinds m.labels rosters members door.node pair.node) (row_at gates pick.cap.object) e
  listen_by pick is e x = search (rules, same_Some, picked_from)

  -- and one whose doesn't
  pub listen_none : pick_of m.spec m.found wants.Listener pair.held ≡ None → (e : Edge)
      → OfListening m.spec m.labels m.found m.heads rosters members gates pair e → e.from ≢ e.to → has m.edges e ≡ true
  listen_none is e x differ = search (rules, picked)

  pub no_head : (stand_in m.heads pair.node == pair.node) ≡ false → (e : Edge)
      → OfListening m.spec m.labels m.found m.heads rosters members gates pair e → e.from ≢ e.to → has m.edges e ≡ true
  no_head fails e x differ = absurd (eqb-false (stand_in m.heads pair.node) pair.node fails x.itself)
