-- A page is found by its address, where addresses rise
use Rattle.std.proofs.Common.{rules}
use Rattle.system_spec.proofs.Common.{Bool, IsIn, IsNonDecreasingBy, IsPartitionPoint, List, None, Page, Rises, Some, [], ap, arith, cond, false, find, frame_at, get_or, get_or_from_slice_get, inl, inr, length, ltb, ltb-false, ltb-true, map, ne_eqb}
use Rattle.system_spec.proofs.Common.{option_map, refl, slice_get, slice_get_within, subst, suc, true, zero, ℕ, ◌<◌, ◌==◌, ◌∙◌, ◌∷◌, ◌≡◌, ◌≤◌}
use Rattle.std.specs.Prelude.{Option}

abbrev at_page : ℕ → Page → Bool
at_page at p = p.vaddr == at

-- the page there, where its address is the one that is looked for
abbrev pub there_at : ℕ → Option Page → Option Page
there_at at None = None
there_at at (Some p) = cond (p.vaddr == at) (Some p) None

-- nothing stands at an address below all of them
none_above : (at v : ℕ) (ps : List Page) → Rises (v ∷ map (λ p. p.vaddr) ps) → at ≤ v → find (at_page at) ps ≡ None
none_above at v [] r l = refl
none_above at v (p ∷ ps) r l =
    let below : v < p.vaddr = r.0 in
    let other : (p.vaddr == at) ≡ false = ne_eqb p.vaddr at (λ e. omega (arith, below, l, e)) in
    ap (λ z. cond z (Some p) (find (at_page at) ps)) other ∙ none_above at p.vaddr ps r.1 (omega (arith, below, l))

pub found_at : (at i : ℕ) (ps : List Page) → Rises (map (λ p. p.vaddr) ps) → ((k : ℕ) (p : Page) → slice_get ps k ≡ Some p → k < i
    → p.vaddr < at) → ((k : ℕ) (p : Page) → slice_get ps k ≡ Some p → i ≤ k → at ≤ p.vaddr)
    → find (at_page at) ps ≡ there_at at (slice_get ps i)
found_at at i [] r low high = refl
found_at at zero (p ∷ ps) r low high =
    let above : at ≤ p.vaddr = high 0 p refl (omega arith) in
    ap (λ z. cond (p.vaddr == at) (Some p) z) (none_above at p.vaddr ps r above)
found_at at (suc i) (p ∷ ps) r low high =
    let below : p.vaddr < at = low 0 p refl (omega arith) in
    let other : (p.vaddr == at) ≡ false = ne_eqb p.vaddr at (λ e. omega (arith, below, e)) in
    ap (λ z. cond z (Some p) (find (at_page at) ps)) other ∙ found_at at i ps r.1 (λ k q e l. low (suc k) q e (omega (arith, l)))
    (λ k q e l. high (suc k) q e (omega (arith, l)))

-- what is found is one of the list
in_found : (test : Page → Bool) (ps : List Page) (p : Page) → find test ps ≡ Some p → IsIn p ps
in_found test [] p e = absurd cc
in_found test (q ∷ ps) p e = by_test (test q) e (in_found test ps p)
  where
    by_test : (b : Bool) → cond b (Some q) (find test ps) ≡ Some p → (find test ps ≡ Some p → IsIn p ps) → IsIn p (q ∷ ps)
    by_test true h more = inl cc
    by_test false h more = inr (more h)

-- the frame of the page there
pub frame_found : (at : ℕ) (ps : List Page) (f : ℕ) → frame_at ps at ≡ Some f → (p : Page) × IsIn p ps × (p.frame ≡ f)
frame_found at ps f e = search (rules, in_found)

-- ---- order

from_rises : (ps : List Page) → Rises (map (λ p. p.vaddr) ps) → (i j : ℕ) (d : Page) → i ≤ j → j < length ps
    → (get_or ps i d).vaddr ≤ (get_or ps j d).vaddr
from_rises [] r i j d l m = absurd (omega (arith, m))
from_rises (p ∷ ps) r zero zero d l m = omega arith
from_rises (p ∷ []) r zero (suc j) d l m = absurd (omega (arith, m))
from_rises (p ∷ q ∷ ps) r zero (suc j) d l m =
    let first : p.vaddr < q.vaddr = r.0 in
    omega (arith, first, from_rises (q ∷ ps) r.1 0 j d (omega arith) (omega (arith, m)))
from_rises (p ∷ ps) r (suc i) zero d l m = absurd (omega (arith, l))
from_rises (p ∷ ps) r (suc i) (suc j) d l m = from_rises ps r.1 i j d (omega (arith, l)) (omega (arith, m))

pub rises_in_order : (ps : List Page) → Rises (map (λ p. p.vaddr) ps) → IsNonDecreasingBy (λ (p : Page). p.vaddr) ps
rises_in_order ps r = from_rises ps r

-- what the search by halves finds is the page there
pub halves_find : (at i : ℕ) (ps : List Page) → Rises (map (λ p. p.vaddr) ps)
    → IsPartitionPoint (λ (p : Page). ltb p.vaddr at ≡ true) (λ p. ltb p.vaddr at ≡ false) ps i
    → find (at_page at) ps ≡ there_at at (slice_get ps i)
halves_find at i ps r point = search (rules, found_at, get_or_from_slice_get, ltb-true, ltb, ltb-false, slice_get_within)

pub frame_read : (at i : ℕ) (ps : List Page) → Rises (map (λ p. p.vaddr) ps)
    → IsPartitionPoint (λ (p : Page). ltb p.vaddr at ≡ true) (λ p. ltb p.vaddr at ≡ false) ps i → (r : Option Page)
    → slice_get ps i ≡ r → frame_at ps at ≡ option_map (λ (p : Page). p.frame) (there_at at r)
frame_read at i ps rise point r e = ap (λ z. option_map (λ (p : Page). p.frame) z) (halves_find at i ps rise point
    ∙ ap (there_at at) e)

pub frame_here : (at : ℕ) (p : Page) → p.vaddr ≡ at → option_map (λ (q : Page). q.frame) (there_at at (Some p)) ≡ Some p.frame
frame_here at p e = search (rules)

pub frame_elsewhere : (at : ℕ) (p : Page) → (p.vaddr ≡ at → ⊥) → option_map (λ (q : Page). q.frame) (there_at at (Some p)) ≡ None
frame_elsewhere at p h = ap (λ z. option_map (λ (q : Page). q.frame) (cond z (Some p) None)) (ne_eqb p.vaddr at h)
