-- The uses of the ends of a leaf, in their order, are those of its interfaces.
use Rattle.cspace_layout.proofs.Common.{Bool, EndAt, Flat, FlatConnection, FlatEnd, Leaf, List, Member, None, Option, Some, Source, System, [], ap, append-nil, cond, end_here, end_uses, ends_at, ends_in, ends_of, false, flat_map, flat_map-gather}
use Rattle.cspace_layout.proofs.Common.{gather, gather_same, joined_uses, joins, leaf_ends, leaf_members, lock_uses, member_ends, member_uses, members_at, members_of_leaf, option_and_then, option_map, refl, slice_get, suc, true, uses_at, uses_by}
use Rattle.cspace_layout.proofs.Common.{uses_of, zero, ℕ, ◌++◌, ◌∙◌, ◌∷◌, ◌≡◌}
use Rattle.cspace_layout.specs.Lookups.{end_in}

module _ (flat : Flat) where
  abbrev cs : List FlatConnection
  cs = flat.connections

  uses_found : (k n : ℕ) (c : FlatConnection) (e : FlatEnd) → slice_get cs k ≡ Some c → slice_get c.ends n ≡ Some e
      → uses_at flat (record { connection = k; end = n }) ≡ end_uses c.connector e.role k n
  uses_found k n c e here there =
      let at : EndAt = record { connection = k; end = n } in
      ap (λ o. uses_by (option_and_then (end_in n) o) at) here
      ∙ ap (λ o. uses_by (option_map (λ (x : FlatEnd). (c.connector, x)) o) at) there

  uses_here : (leaf m k n : ℕ) (c : FlatConnection) (e : FlatEnd) → slice_get cs k ≡ Some c → slice_get c.ends n ≡ Some e
      → flat_map (uses_at flat) (end_here leaf m k n e) ≡ joined_uses leaf m k c.connector n e
  uses_here leaf m k n c e here there = by_test (joins leaf m e)
    where
      by_test : (b : Bool) → flat_map (uses_at flat) (cond b (record { connection = k; end = n } ∷ []) []) ≡ cond b
          (end_uses c.connector e.role k n) []
      by_test true = append-nil _ ∙ uses_found k n c e here there
      by_test false = refl

  uses_of_member : (leaf m : ℕ) → flat_map (uses_at flat) (member_ends cs leaf m) ≡ member_uses cs leaf m
  uses_of_member leaf m =
      flat_map-gather (uses_at flat) (λ k (c : FlatConnection). gather (λ n e. end_here leaf m k n e) c.ends) cs
      ∙ gather_same (λ k (c : FlatConnection). flat_map (uses_at flat) (gather (λ n e. end_here leaf m k n e) c.ends))
      (λ k c. gather (λ n e. joined_uses leaf m k c.connector n e) c.ends) cs
      (λ k c here. flat_map-gather (uses_at flat) (λ n e. end_here leaf m k n e) c.ends
      ∙ gather_same (λ n e. flat_map (uses_at flat) (end_here leaf m k n e)) (λ n e. joined_uses leaf m k c.connector n e) c.ends
      (λ n e there. uses_here leaf m k n c e here there))

  uses_of_leaf : (leaf : ℕ) (members : List Member) → flat_map (uses_at flat) (leaf_ends cs leaf members) ≡ gather
      (λ m x. member_uses cs leaf m) members
  uses_of_leaf leaf members =
      flat_map-gather (uses_at flat) (λ m (x : Member). member_ends cs leaf m) members
      ∙ gather_same (λ m (x : Member). flat_map (uses_at flat) (member_ends cs leaf m)) (λ m x. member_uses cs leaf m) members
      (λ m x s. uses_of_member leaf m)

-- ---- leaves by number

get_made : {X Y : Type 0} (f : ℕ → X → Y) (xs : List X) (n : ℕ)
    → slice_get (gather (λ k x. f k x ∷ []) xs) n ≡ option_map (f n) (slice_get xs n)
get_made f [] n = refl
get_made f (x ∷ xs) zero = refl
get_made f (x ∷ xs) (suc n) = get_made (λ k y. f (suc k) y) xs n

pub ends_at_leaf : (source : Source) (flat : Flat) (leaf : ℕ)
    → ends_at (ends_of source flat) leaf ≡ leaf_ends flat.connections leaf (leaf_members source flat leaf)
ends_at_leaf source flat leaf =
    ap ends_in (get_made (λ n (x : Leaf). leaf_ends flat.connections n (members_at source x.component)) flat.leaves leaf)
    ∙ by_leaf (slice_get flat.leaves leaf)
  where
    by_leaf : (o : Option Leaf) → ends_in (option_map (λ x. leaf_ends flat.connections leaf (members_at source x.component)) o)
        ≡ leaf_ends flat.connections leaf (members_of_leaf source o)
    by_leaf None = refl
    by_leaf (Some x) = refl

-- the uses of a leaf: those of its ends, in their order, and then those of its locks
pub leaf_laid : (s : System) (leaf : ℕ) → flat_map (uses_at s.flat) (ends_at (ends_of s.source s.flat) leaf)
    ++ gather (λ m x. lock_uses leaf m x) (leaf_members s.source s.flat leaf) ≡ uses_of s leaf
leaf_laid s leaf =
    let members = leaf_members s.source s.flat leaf in
    ap (λ z. z ++ gather (λ m x. lock_uses leaf m x) members)
    (ap (flat_map (uses_at s.flat)) (ends_at_leaf s.source s.flat leaf) ∙ uses_of_leaf s.flat leaf members)
