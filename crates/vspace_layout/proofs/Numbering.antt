-- The pages of spaces with the numbers of their frames, domain by domain
use Rattle.vspace_layout.proofs.Common.{FrameInfo, List, MappedPage, Some, [], ap, append_assoc, arith, before, gather, gather_push, length, length-gather, length_append, map, own_added, own_frame, same_Some, slice_get, suc, sum, sum_by-cons, take}
use Rattle.vspace_layout.proofs.Common.{rules, zero, ℕ, ◌++◌, ◌+◌, ◌∷◌, ◌≡◌, ◌≤◌}
use Rattle.vspace_layout.proofs.Few.{own_one}

-- ---- pages of a domain

pub own_upto : (d : ℕ) (ps : List MappedPage) → length (own_added d ps) ≤ length ps
own_upto d ps = length-gather (λ n (p : MappedPage). own_frame d p.shown) ps (λ n p. own_one d p.shown)

-- how many frames there are before page n of a domain, when those of the pages before it were added
pub frames_so_far : (d : ℕ) (mapped sofar : List MappedPage) (old frames : List FrameInfo) → sofar ≡ take (length sofar) mapped
    → frames ≡ old ++ own_added d sofar
    → length frames ≡ length old + before (λ m (q : MappedPage). own_frame d q.shown) mapped (length sofar)
frames_so_far d mapped sofar old frames front e = search (rules, length_append)

pub frames_more : (d : ℕ) (sofar : List MappedPage) (p : MappedPage) (old mid new : List FrameInfo)
    → mid ≡ old ++ own_added d sofar → new ≡ mid ++ own_frame d p.shown → new ≡ old ++ own_added d (sofar ++ p ∷ [])
frames_more d sofar p old mid new e g = search (rules, append_assoc, gather_push)

-- ---- pages of all domains

sum_from : (f : ℕ → List MappedPage → List FrameInfo) (ms : List (List MappedPage)) (k : ℕ) (ps : List MappedPage)
    → ((n : ℕ) (qs : List MappedPage) → length (f n qs) ≤ length qs) → slice_get ms k ≡ Some ps
    → length (gather f (take k ms)) + length ps ≤ sum (map (λ (qs : List MappedPage). length qs) ms)
sum_from f [] k ps h e = cc
sum_from f (m ∷ ms) zero ps h e =
    let same : length m ≡ length ps = ap (λ (z : List MappedPage). length z) (same_Some m ps e) in
    let s = sum_by-cons (λ (n : ℕ). n) (length m) (map (λ (qs : List MappedPage). length qs) ms) in
    omega (arith, same, s)
sum_from f (m ∷ ms) (suc k) ps h e =
    let ih = sum_from (λ n qs. f (suc n) qs) ms k ps (λ n qs. h (suc n) qs) e in
    let a = length_append (f 0 m) (gather (λ n (qs : List MappedPage). f (suc n) qs) (take k ms)) in
    let s = sum_by-cons (λ (n : ℕ). n) (length m) (map (λ (qs : List MappedPage). length qs) ms) in
    let b = h 0 m in
    omega (arith, ih, a, s, b)

-- the own frames of the domains before one, and the pages of that
pub few_so_far : (ms : List (List MappedPage)) (k : ℕ) (ps : List MappedPage) → slice_get ms k ≡ Some ps
    → before own_added ms k + length ps ≤ sum (map (λ (qs : List MappedPage). length qs) ms)
few_so_far ms k ps e = sum_from own_added ms k ps (λ n qs. own_upto n qs) e

-- how many frames there are before the own ones of a domain, when those of the domains before it were added
pub own_so_far : (ms sofar : List (List MappedPage)) (old frames : List FrameInfo) → sofar ≡ take (length sofar) ms
    → frames ≡ old ++ gather own_added sofar → length frames ≡ length old + before own_added ms (length sofar)
own_so_far ms sofar old frames front e = search (rules, length_append)
