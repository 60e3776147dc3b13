-- What holds of the lines of domains, of threads, of slots and of windows holds of each line of the map.
use Rattle.spec_laws.proofs.Common.{Domain, DomainLine, IsIn, List, MapLine, Some, Tables, [], domain_lines, from_gather, gather, in_append, map_lines, single, slice_get, slot_line, slot_lines, subst, thread_line, thread_lines}
use Rattle.spec_laws.proofs.Common.{rules, threads_at, use_cap, uses_at, window_line, window_lines, windows_at, ℕ, ◌++◌, ◌∷◌, ◌≡◌, inl, inr}

module _ (t : Tables) (P : MapLine → Type 0) where
  -- what holds of the line of each item of each domain
  abbrev OfItems : {X : Type 0} → (ℕ → List X) → (ℕ → ℕ → X → MapLine) → Type 0
  OfItems {X} items f = (d : ℕ) (x : Domain) → slice_get t.flat.domains d ≡ Some x
      → (n : ℕ) (y : X) → slice_get (items d) n ≡ Some y → P (f d n y)

  of_each : {X : Type 0} (items : ℕ → List X) (f : ℕ → ℕ → X → MapLine) → OfItems items f → (line : MapLine)
      → IsIn line (gather (λ d (x : Domain). gather (λ n (y : X). f d n y ∷ []) (items d)) t.flat.domains) → P line
  of_each {X} items f holds line i = search (rules, from_gather, single)

  pub by_line : ((d : ℕ) (x : Domain) → slice_get t.flat.domains d ≡ Some x → P (DomainLine d))
      → OfItems (threads_at t) (thread_line t) → OfItems (uses_at t) (λ d n u. slot_line (use_cap t d n u).object n u)
      → OfItems (windows_at t) (λ d n w. window_line w) → (line : MapLine) → IsIn line (map_lines t) → P line
  by_line domain thread slot window line i =
      elim (in_append line (domain_lines t) (thread_lines t ++ (slot_lines t ++ window_lines t)) i) [
        | inl j ↦
            let a = from_gather (λ d (x : Domain). DomainLine d ∷ []) line t.flat.domains j in
            subst P (single (DomainLine a.0) line a.3) (domain a.0 a.1 a.2)
        | inr r ↦ elim (in_append line (thread_lines t) (slot_lines t ++ window_lines t) r) [
          | inl j ↦ of_each (threads_at t) (thread_line t) thread line j
          | inr q ↦ elim (in_append line (slot_lines t) (window_lines t) q) [
            | inl j ↦ of_each (uses_at t) (λ d n u. slot_line (use_cap t d n u).object n u) slot line j
            | inr j ↦ of_each (windows_at t) (λ d n w. window_line w) window line j
          ]
        ]
      ]
