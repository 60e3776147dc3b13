-- Regions are few where their pages are, and what stands before a region is a part of all
use Rattle.vspace_layout.proofs.Common.{EndAt, Flat, IsIn, List, Region, Settled, Some, ThreadOf, [], ap, arith, flat_map, inl, inr, length, length_append, map, pages_in, refl, regions_in, same_Some, slice_get, suc, take, thread_regions}
use Rattle.vspace_layout.proofs.Common.{window_pages, window_region, zero, ℕ, ◌*◌, ◌++◌, ◌+◌, ◌<◌, ◌∷◌, ◌≡◌, ◌≤◌}

pub pages_append : (xs ys : List Region) → pages_in (xs ++ ys) ≡ pages_in xs + pages_in ys
pages_append [] ys = omega arith
pages_append (x ∷ xs) ys = let ih = pages_append xs ys in omega (arith, ih)

few_threads : (settled : Settled) (ts : List ThreadOf) → length (flat_map (thread_regions settled) ts) ≤ 2 * pages_in
    (flat_map (thread_regions settled) ts)
few_threads settled [] = omega arith
few_threads settled (t ∷ ts) = let ih = few_threads settled ts in omega (arith, ih)

few_windows : (flat : Flat) (settled : Settled) (ws : List EndAt) → ((e : EndAt) → IsIn e ws → 0 < window_pages flat settled e)
    → length (map (window_region flat settled) ws) ≤ pages_in (map (window_region flat settled) ws)
few_windows flat settled [] h = omega arith
few_windows flat settled (w ∷ ws) h = let ih = few_windows flat settled ws (λ e i. h e (inr i)) in let one = h w (inl refl) in
    omega (arith, ih, one)

-- no more than twice as many regions as pages, where each window has a page
pub few_regions : (flat : Flat) (settled : Settled) (ts : List ThreadOf) (ws : List EndAt)
    → ((e : EndAt) → IsIn e ws → 0 < window_pages flat settled e)
    → length (regions_in flat settled ts ws) ≤ 2 * pages_in (regions_in flat settled ts ws)
few_regions flat settled ts ws h = grind (arith, few_threads, few_windows, length_append, pages_append)

pub pages_next : (rs : List Region) (i : ℕ) (r : Region) → slice_get rs i ≡ Some r
    → pages_in (take (suc i) rs) ≡ pages_in (take i rs) + r.pages
pages_next [] i r e = cc
pages_next (q ∷ rs) zero r e = let same : q.pages ≡ r.pages = ap (λ (z : Region). z.pages) (same_Some q r e) in
    omega (arith, same)
pages_next (q ∷ rs) (suc i) r e = let ih = pages_next rs i r e in omega (arith, ih)

pub pages_upto : (rs : List Region) (i : ℕ) → pages_in (take i rs) ≤ pages_in rs
pages_upto [] zero = omega arith
pages_upto [] (suc i) = omega arith
pages_upto (q ∷ rs) zero = omega arith
pages_upto (q ∷ rs) (suc i) = let ih = pages_upto rs i in omega (arith, ih)
