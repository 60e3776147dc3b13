-- Regions of which no two share an address: each address lies in one of them at most.
use Rattle.boot_plan.proofs.Common.{Apart, Bool, Bytes, IsPermutation, LieIn, LieInOne, List, None, Option, Some, Untyped, [], and_parts, append-nil, append_assoc, arith, bytes_end, cases_lt, cond, false, first_overlap, inl, inr, le-leb, leb, lt-ltb}
use Rattle.boot_plan.proofs.Common.{nat_lt, nat_tests, option_map, overlap_at, overlap_behind, position_from, refl, region_end, shares, subst, sum_by, sum_by-IsPermutation, sum_by-append, sum_by-cons, sym, true, ℕ, ⊎_elim, ◌&&◌, ◌++◌, ◌+◌}
use Rattle.boot_plan.proofs.Common.{rules, ◌<◌, ◌∙◌, ◌∷◌, ◌≡◌, ◌≤◌}
use Rattle.std.proofs.lemmas.Iterator.Adapters.{position_from-zero}
use Rattle.cam_base.proofs.Options.{neither}
use Rattle.boot_plan.proofs.Multiples.{power_pos}

pub holds : ℕ → Untyped → Bool
holds x r = leb r.paddr x && nat_lt x (region_end r)

-- 1 where the region has the address
pub one : ℕ → Untyped → ℕ
one x r = cond (holds x r) 1 0

pub record Solo (rs : List Untyped) : Type 0 where
  pub at_most : (x : ℕ) → sum_by (one x) rs ≤ 1

holds_both : (x : ℕ) (r q : Untyped) → holds x r ≡ true → holds x q ≡ true → shares r q ≡ true
unfolding holds
holds_both x r q a b = search (rules, and_parts, leb, nat_lt, nat_tests)

-- where a region shares no address with the earlier ones, an address of it lies in none of them
none_hold : (x : ℕ) (r : Untyped) (i : ℕ) (rs : List Untyped) → holds x r ≡ true → position_from (shares r) i rs ≡ None
    → sum_by (one x) rs ≡ 0
unfolding one
none_hold x r i [] a e = refl
none_hold x r i (q ∷ qs) a e = go (shares r q) refl (holds x q) refl (λ left. none_hold x r (i + 1) qs a left)
  where
    go : (s : Bool) → shares r q ≡ s → (h : Bool) → holds x q ≡ h → (position_from (shares r) (i + 1) qs ≡ None
        → sum_by (one x) qs ≡ 0) → sum_by (one x) (q ∷ qs) ≡ 0
    go true s h k ih = let found : position_from (shares r) i (q ∷ qs) ≡ Some i = rw s refl in absurd cc
    go false s true k ih = let t = holds_both x r q a k in absurd cc
    go false s false k ih = grind (arith, one, sum_by-cons)

map_none : {A B : Type 0} (f : A → B) (a : Option A) → option_map f a ≡ None → a ≡ None
map_none f None e = refl
map_none f (Some x) e = absurd cc

solo_more : (before : List Untyped) (r : Untyped) → overlap_at before r ≡ None → Solo before → Solo (before ++ r ∷ [])
unfolding one
solo_more before r e s = search (rules, holds, position_from-zero, map_none, one, none_hold, sum_by-append, sum_by-cons)

solo_behind : (before rs : List Untyped) → overlap_behind before rs ≡ None → Solo before → Solo (before ++ rs)
solo_behind before [] e s = subst Solo (sym (append-nil before)) s
solo_behind before (r ∷ rs) e s =
    let p = neither (overlap_at before r) (overlap_behind (before ++ r ∷ []) rs) e in
    subst Solo (append_assoc before (r ∷ []) rs) (solo_behind (before ++ r ∷ []) rs p.1 (solo_more before r p.0 s))

pub solo_from : (rs : List Untyped) → first_overlap rs ≡ None → Solo rs
solo_from rs e = solo_behind [] rs e (record { at_most = λ x. omega arith })

pub solo_permuted : (rs ss : List Untyped) → IsPermutation rs ss → Solo rs → Solo ss
solo_permuted rs ss p s = record { at_most = λ x. omega (arith, sum_by-IsPermutation (one x) rs ss p, s.at_most x) }

pub solo_rest : (r : Untyped) (rs : List Untyped) → Solo (r ∷ rs) → Solo rs
solo_rest r rs s = record { at_most = λ x. omega (arith, s.at_most x, sum_by-cons (one x) r rs) }

holds_in : (device : Bool) (b : Bytes) (r : Untyped) (x : ℕ) → LieIn device b r → b.first ≤ x → x < bytes_end b → one x r ≡ 1
unfolding one holds
holds_in device b r x lie low high = search (rules, leb, le-leb, nat_lt, lt-ltb)

counted_in : (device : Bool) (b : Bytes) (rs : List Untyped) (x : ℕ) → LieInOne device b rs → b.first ≤ x → x < bytes_end b
    → 1 ≤ sum_by (one x) rs
counted_in device b [] x lie low high = absurd lie
counted_in device b (r ∷ rs) x (inl lie) low high = omega (arith, holds_in device b r x lie low high, sum_by-cons (one x) r rs)
counted_in device b (r ∷ rs) x (inr lie) low high = omega (arith, counted_in device b rs x lie low high, sum_by-cons (one x) r rs)

-- bytes in two different regions are apart
pub solo_apart : (d e : Bool) (b c : Bytes) (r : Untyped) (rs : List Untyped) → Solo (r ∷ rs) → LieIn d b r
    → LieInOne e c rs → Apart b c
solo_apart d e b c r rs s lie lies =
    ⊎_elim (λ overlap. ⊎_elim (λ under. absurd (clash overlap under)) (λ le. inr le) (cases_lt b.first (bytes_end c)))
    (λ le. inl le) (cases_lt c.first (bytes_end b))
  where
    at : (x : ℕ) → b.first ≤ x → c.first ≤ x → x < bytes_end b → x < bytes_end c → ⊥
    at x bl cl bh ch =
        let here = holds_in d b r x lie bl bh in
        let there = counted_in e c rs x lies cl ch in
        let most = s.at_most x in
        omega (arith, here, there, most, sum_by-cons (one x) r rs)

    clash : c.first < bytes_end b → b.first < bytes_end c → ⊥
    clash o u = ⊎_elim
        (λ lt. at c.first (omega arith) (omega arith) o (let p = power_pos c.bits in omega (arith, p)))
        (λ ge. at b.first (omega arith) ge (let p = power_pos b.bits in omega (arith, p)) u)
        (cases_lt b.first c.first)

pub apart_sym : (b c : Bytes) → Apart b c → Apart c b
apart_sym b c (inl h) = inr h
apart_sym b c (inr h) = inl h

-- so are bytes in a device's region and in one that is no device's
pub kinds_apart : (b c : Bytes) (rs : List Untyped) → Solo rs → LieInOne true b rs → LieInOne false c rs → Apart b c
kinds_apart b c [] s x y = absurd x
kinds_apart b c (r ∷ rs) s (inl x) (inl y) = let p = x.kind in let q = y.kind in absurd cc
kinds_apart b c (r ∷ rs) s (inl x) (inr y) = solo_apart true false b c r rs s x y
kinds_apart b c (r ∷ rs) s (inr x) (inl y) = apart_sym c b (solo_apart false true c b r rs s y x)
kinds_apart b c (r ∷ rs) s (inr x) (inr y) = kinds_apart b c rs (solo_rest r rs s) x y
