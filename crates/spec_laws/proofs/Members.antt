-- Members of lists that are made by ranges and by flat maps
use Rattle.spec_laws.proofs.Common.{IsIn, List, Some, arith, range_with_len, slice_get, slice_index_or, subst, suc, ℕ, ◌*◌, ◌+◌, ◌/◌, ◌<◌, ◌∷◌, ◌≡◌}
use Rattle.cam_base.proofs.NumberedLists as lists

pub in_range : (n i : ℕ) → i < n → IsIn i (range_with_len 0 n)
in_range n i l =
    let e : 0 + i ≡ i = omega arith in
    let P : ℕ → Type 0 = λ z. IsIn z (range_with_len 0 n) in subst P e (lists.in_range 0 n i l)

-- ---- lists that begin with another

pub index_is : {X : Type 0} (xs : List X) (j : ℕ) (d y : X) → slice_get xs j ≡ Some y → slice_index_or xs j d ≡ y
index_is (x ∷ xs) (suc j) d y e = index_is xs j d y e
index_is _ _ d y e = cc

pub whole : (v : ℕ) → (4096 * (v / 4096)) / 4096 ≡ v / 4096
whole v = omega arith
