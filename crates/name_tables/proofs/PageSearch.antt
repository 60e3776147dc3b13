-- Which regions share a page with one, where they are in the order of their first places, and how far the first so many reach.
use Rattle.name_tables.proofs.Common.{IsPartitionPoint, IsReach, List, Region, [], and-true, and_right, ap, arith, cases_lt, ends_behind, false, get_or, get_or_append_left, get_or_push, is_same, length, length_push, list_any, nat_lt, not}
use Rattle.name_tables.proofs.Common.{refl, shares, subst, suc, sym, take, true, zero, ℕ, ◌&&◌, ⊎_elim, ◌++◌, ◌+◌, ◌<◌, ◌||◌, ◌∙◌, ◌∷◌, ◌≡◌, ◌≤◌}
use Rattle.std.proofs.Math.Seq.{take-suc}
use Rattle.name_tables.specs.declared.reach.Reach.{Reach}

-- ---- the regions that begin before the end e of region a

module _ (a : Region) (e : ℕ) (is : e ≡ a.first + a.count) where
  shares-before : (b : Region) → nat_lt b.first e ≡ true → shares a b ≡ ends_behind a b
  shares-before b t =
      ap (λ x. not (is_same a b) && (nat_lt a.first (b.first + b.count) && x)) (ap (nat_lt b.first) (sym is) ∙ t)
      ∙ ap (λ x. not (is_same a b) && x) (and-true (nat_lt a.first (b.first + b.count)))

  shares-behind : (b : Region) → nat_lt b.first e ≡ false → shares a b ≡ false
  shares-behind b t =
      and_right (not (is_same a b)) _ (and_right (nat_lt a.first (b.first + b.count)) _ (ap (nat_lt b.first) (sym is) ∙ t))

  pub any-shares : (rs : List Region) (k : ℕ) → k ≤ length rs → IsPartitionPoint (λ r. nat_lt r.first e ≡ true)
      (λ r. nat_lt r.first e ≡ false) rs k
      → list_any (shares a) rs ≡ list_any (ends_behind a) (take k rs)
  any-shares [] zero l h = refl
  any-shares [] (suc k) l h = refl
  any-shares (r ∷ rs) zero l h =
      ap (λ t. t || list_any (shares a) rs) (shares-behind r (h.1 0 r (omega arith) (omega arith)))
      ∙ any-shares rs zero (omega arith) (
        (λ j d m n. absurd (omega arith)),
        (λ j d m n. h.1 (suc j) d (omega arith) (omega arith)),
      )
  any-shares (r ∷ rs) (suc k) l h =
      ap (λ t. t || list_any (shares a) rs) (shares-before r (h.0 0 r (omega arith) (omega arith)))
      ∙ ap (λ t. ends_behind a r || t) (any-shares rs k (omega arith) (
        (λ j d m n. h.0 (suc j) d (omega arith) (omega arith)),
        (λ j d m n. h.1 (suc j) d (omega arith) (omega arith)),
      ))

-- ---- reaches, of which the first i regions were looked at

pub record AreReachesTo (rs : List Region) (i : ℕ) (reach : Reach) (found : List Reach) : Type 0 where
  pub count : length found ≡ i + 1
  pub last : IsReach (take i rs) reach
  pub each : (k : ℕ) (d : Reach) → k ≤ i → IsReach (take k rs) (get_or found k d)

taken_more : (rs : List Region) (i : ℕ) (d : Region) → i < length rs → take i rs ++ get_or rs i d ∷ [] ≡ take (i + 1) rs
taken_more rs i d l = let next : suc i ≡ i + 1 = omega arith in sym (ap (λ k. take k rs) (sym next) ∙ take-suc rs i d l)

pub reaches_to_more : (rs : List Region) (i : ℕ) (d : Region) (reach new : Reach) (found : List Reach) → i < length rs
    → AreReachesTo rs i reach found
    → ((ps : List Region) → IsReach ps reach → IsReach (ps ++ get_or rs i d ∷ []) new)
    → AreReachesTo rs (i + 1) new (found ++ new ∷ [])
reaches_to_more rs i d reach new found l h more =
    let whole : IsReach (take (i + 1) rs) new = subst (λ ps. IsReach ps new) (taken_more rs i d l) (more (take i rs) h.last) in
    record {
      count = length_push found new ∙ ap (λ n. n + 1) h.count;
      last = whole;
      each = λ k f m. ⊎_elim
          (λ below. subst (IsReach (take k rs)) (sym (get_or_append_left found (new ∷ []) f k (omega (arith, h.count))))
          (h.each k f (omega arith)))
          (λ past. let at : k ≡ i + 1 = omega arith in
          subst (IsReach (take k rs)) (sym (get_or_push found new f k (h.count ∙ sym at)))
          (subst (λ n. IsReach (take n rs) new) (sym at) whole))
          (cases_lt k (i + 1));
    }
