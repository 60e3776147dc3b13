-- Where regions begin, and that they have addresses of 64 bits
use Rattle.vspace_layout.proofs.Common.{Aarch64, Arch, AreFew, Arm11, EndAt, Flat, List, Region, RegionsFit, Settled, Some, Stack, StacksFit, ThreadOf, [], add-one, ap, arith, below, flat_map, gather, gather_ones, gather_same, gather_turn, get_or}
use Rattle.vspace_layout.proofs.Common.{get_or_default, length, map, pages_from, pages_in, pages_of_region, refl, region, region_part, region_start, regions_in, same_Some, sections_end, slice_get, slice_get-get_or, stack_pages, starting, starts_in}
use Rattle.vspace_layout.proofs.Common.{rules, suc, take, thread_regions, window_region, zero, ℕ, ◌*◌, ◌++◌, ◌+◌, ◌<◌, ◌^◌, ◌∙◌, ◌∷◌, ◌≡◌, ◌≤◌}
use Rattle.vspace_layout.proofs.Fitting.{pages_next, pages_upto}
use Rattle.vspace_layout.proofs.Laying.{length_regions, start_same}

-- ---- the turn of the loop over regions

pub room : (base end : ℕ) (rs : List Region) (i : ℕ) (d : Region) → base + 4096 * (length rs + pages_in rs) < 2 ^ 64
    → end ≡ base + 4096 * (i + pages_in (take i rs)) → i < length rs
    → end + 4096 + 4096 * (get_or rs i d).pages < 2 ^ 64
room base end rs i d fit at l = grind (arith, pages_next, slice_get-get_or, pages_upto)

pub end_more : (base end : ℕ) (rs : List Region) (i : ℕ) (d : Region) → end ≡ base + 4096 * (i + pages_in (take i rs))
    → i < length rs
    → end + 4096 + 4096 * (get_or rs i d).pages ≡ base + 4096 * (i + 1 + pages_in (take (i + 1) rs))
end_more base end rs i d at l = grind (arith, pages_next, slice_get-get_or, add-one)

pub starts_more : (base end : ℕ) (rs : List Region) (i : ℕ) (d : Region) (starts new : List ℕ)
    → end ≡ base + 4096 * (i + pages_in (take i rs)) → i < length rs
    → starts ≡ gather (λ n (r : Region). region_start base rs n ∷ []) (take i rs) → new ≡ starts ++ (end + 4096) ∷ []
    → new ≡ gather (λ n (r : Region). region_start base rs n ∷ []) (take (i + 1) rs)
starts_more base end rs i d starts new at l before push =
    let here : end + 4096 ≡ region_start base rs i = omega (arith, at) in
    gather_turn (λ n (r : Region). region_start base rs n ∷ []) rs rs i (get_or rs i d) [] starts new refl l
    (get_or_default rs i d (get_or rs i d) l) before (push ∙ ap (λ n. starts ++ n ∷ []) here)

-- ---- what fits

pub starts_length : (base : ℕ) (rs : List Region) → length (starts_in base rs) ≡ length rs
starts_length base rs = gather_ones (λ n (r : Region). region_start base rs n) rs

pub regions_fit : (base : ℕ) (rs : List Region) → base ≤ 2 ^ 40 → AreFew rs → RegionsFit (starts_in base rs) rs
regions_fit base rs low few = search (rules, below, start_same, pages_next, pages_upto)

pub starting_same : (settled : Settled) (base : ℕ) (rs : List Region)
    → gather (starting settled (starts_in base rs)) rs ≡ region_part settled base rs
starting_same settled base rs = gather_same (starting settled (starts_in base rs)) (pages_of_region settled base rs) rs
    (λ n r e. ap (λ s. pages_from settled s r) (start_same base rs n (below rs n r e)))

stack_at : (settled : Settled) (ts : List ThreadOf) (more : List Region) (i m : ℕ) (x : ThreadOf)
    → slice_get ts i ≡ Some x → m ≡ 2 * i
    → slice_get (flat_map (thread_regions settled) ts ++ more) m ≡ Some (region Stack (stack_pages settled x.leaf))
stack_at settled [] more i m x e same = cc
stack_at settled (t ∷ ts) more zero zero x e same = ap (λ (z : ThreadOf). Some (region Stack (stack_pages settled z.leaf)))
    (same_Some t x e)
stack_at settled (t ∷ ts) more zero (suc m) x e same = absurd (omega arith)
stack_at settled (t ∷ ts) more (suc i) zero x e same = absurd (omega arith)
stack_at settled (t ∷ ts) more (suc i) (suc zero) x e same = absurd (omega arith)
stack_at settled (t ∷ ts) more (suc i) (suc (suc m)) x e same = stack_at settled ts more i m x e (omega arith)

pub stacks_fit : (flat : Flat) (settled : Settled) (base : ℕ) (ts : List ThreadOf) (ws : List EndAt) → base ≤ 2 ^ 40
    → AreFew (regions_in flat settled ts ws)
    → StacksFit settled (starts_in base (regions_in flat settled ts ws)) ts
stacks_fit flat settled base ts ws low few = λ i x e.
    regions_fit base (regions_in flat settled ts ws) low few (2 * i) (region Stack (stack_pages settled x.leaf))
    (stack_at settled ts (map (window_region flat settled) ws) i (2 * i) x e refl)

pub many_starts : (flat : Flat) (settled : Settled) (base : ℕ) (ts : List ThreadOf) (ws : List EndAt)
    → length (starts_in base (regions_in flat settled ts ws)) ≡ 2 * length ts + length ws
many_starts flat settled base ts ws = starts_length base (regions_in flat settled ts ws) ∙ length_regions flat settled ts ws

pub low_base : (a : Arch) → sections_end a ≤ 2 ^ 40
low_base Arm11 = omega arith
low_base Aarch64 = omega arith
