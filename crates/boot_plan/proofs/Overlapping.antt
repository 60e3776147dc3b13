-- A region more that is looked at.
use Rattle.boot_plan.proofs.Common.{List, None, Some, Untyped, ap, arith, at_drop_more, drop, get_or, length, length-take-le, option_map, option_or, overlap_at, overlap_behind, position, shares, sym, take, take_more, ℕ, ◌+◌, ◌<◌, ◌∙◌, ◌≡◌}

pub overlap_next : (rs : List Untyped) (i : ℕ) (d : Untyped) → i < length rs
    → overlap_behind (take i rs) (drop i rs) ≡ option_or (overlap_at (take i rs) (get_or rs i d))
    (overlap_behind (take (i + 1) rs) (drop (i + 1) rs))
overlap_next rs i d l =
    at_drop_more (overlap_behind (take i rs)) rs i d l
    ∙ ap (λ before. option_or (overlap_at (take i rs) (get_or rs i d)) (overlap_behind before (drop (i + 1) rs)))
    (sym (take_more rs i d l))

pub overlap_passed : (rs : List Untyped) (i : ℕ) (d : Untyped) → i < length rs
    → position (shares (get_or rs i d)) (take i rs) ≡ None
    → overlap_behind (take i rs) (drop i rs) ≡ overlap_behind (take (i + 1) rs) (drop (i + 1) rs)
overlap_passed rs i d l e =
    overlap_next rs i d l
    ∙ ap (λ o. option_or (option_map (λ k. (k, length (take i rs))) o) (overlap_behind (take (i + 1) rs) (drop (i + 1) rs))) e

pub overlap_found : (rs : List Untyped) (i : ℕ) (d : Untyped) (first : ℕ) → i < length rs
    → position (shares (get_or rs i d)) (take i rs) ≡ Some first
    → overlap_behind (take i rs) (drop i rs) ≡ Some (first, i)
overlap_found rs i d first l e =
    overlap_next rs i d l
    ∙ ap (λ o. option_or (option_map (λ k. (k, length (take i rs))) o) (overlap_behind (take (i + 1) rs) (drop (i + 1) rs))) e
    ∙ ap (λ n. Some (first, n)) (length-take-le i rs (omega arith))
