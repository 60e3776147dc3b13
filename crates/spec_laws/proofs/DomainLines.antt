-- The map has a line for each domain
use Rattle.spec_laws.proofs.Common.{Domain, DomainLine, IsIn, MapLine, OwnLock, SlotUse, Some, Tables, [], domain_lines, in_gather, in_left, inl}
use Rattle.spec_laws.proofs.Common.{map_lines, refl, slice_get, slot_line, slot_lines, thread_lines, use_cap, window_lines, ℕ, ◌++◌, ◌↔◌, ◌∷◌, ◌≡◌}
use Rattle.spec_laws.proofs.MapLines.{by_line}

module _ (t : Tables) where
  abbrev SaysDomain : MapLine → Type 0
  SaysDomain (DomainLine d) = (x : Domain) × (slice_get t.flat.domains d ≡ Some x)
  SaysDomain _ = Unit {0}

  of_slot : (o n : ℕ) (u : SlotUse) → SaysDomain (slot_line o n u)
  of_slot o n (OwnLock leaf m) = tt
  of_slot o n _ = tt

  pub domains_are : (d : ℕ) → IsIn (DomainLine d) (map_lines t) ↔ ((x : Domain) × (slice_get t.flat.domains d ≡ Some x))
  domains_are d = (
    by_line t SaysDomain (λ d x h. (x, h)) (λ d x h n y e. tt) (λ d x h n u e. of_slot (use_cap t d n u).object n u)
        (λ d x h n w e. tt) (DomainLine d),
    λ h. in_left (DomainLine d) (domain_lines t) (thread_lines t ++ (slot_lines t ++ window_lines t))
        (in_gather (λ d (x : Domain). DomainLine d ∷ []) (DomainLine d) t.flat.domains d h.0 h.1 (inl refl)),
  )
