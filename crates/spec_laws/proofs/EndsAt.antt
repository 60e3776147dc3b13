-- The ends at a leaf
use Rattle.spec_laws.proofs.Common.{Bool, EndAt, FlatConnection, FlatEnd, IsIn, Leaf, List, Member, Some, Tables, [], and_parts, ap, at_place, cond, end_here, ends, ends_at, eq-eqb, eqb-true, from_gather, gather, in_gather}
use Rattle.spec_laws.proofs.Common.{inl, joins, leaf_ends, leaf_members, length, member_ends, refl, rules, slice_get, subst, sym, system, true, ℕ, ◌&&◌, ◌<◌, ◌==◌, ◌∙◌, ◌∷◌, ◌≡◌}
use Rattle.spec_laws.proofs.Once.{Once, once_gather, once_if}
use Rattle.spec_laws.proofs.SlotLists.{some}
use Rattle.spec_laws.proofs.Lists.{shown_if}
use Rattle.cspace_layout.proofs.Using.{ends_at_leaf}

-- an end that joins the leaf, by its numbers
pub record JoinsLeaf (cs : List FlatConnection) (leaf member : ℕ) (e : EndAt) : Type 0 where
  pub connection : FlatConnection
  pub here : slice_get cs e.connection ≡ Some connection
  pub end : FlatEnd
  pub stands : slice_get connection.ends e.end ≡ Some end
  pub leaf_is : end.leaf ≡ leaf
  pub member_is : end.member ≡ member

abbrev at : ℕ → ℕ → EndAt
at k n = record { connection = k; end = n }

-- what an end gives, if it joins the member
here_is : (leaf m k n : ℕ) (x : FlatEnd) (e : EndAt) → IsIn e (end_here leaf m k n x) → (joins leaf m x ≡ true) × (at k n ≡ e)
here_is leaf m k n x e i = shown_if (joins leaf m x) (at k n) e i

once_here : (leaf m k n : ℕ) (x : FlatEnd) → Once (end_here leaf m k n x)
once_here leaf m k n x = once_if (joins leaf m x) (at k n)

module _ (cs : List FlatConnection) (leaf : ℕ) where
  abbrev of_connection : ℕ → ℕ → FlatConnection → List EndAt
  of_connection m k c = gather (λ n x. end_here leaf m k n x) c.ends

  pub member_end : (m : ℕ) (e : EndAt) → IsIn e (member_ends cs leaf m) → JoinsLeaf cs leaf m e
  member_end m e i = search (rules, from_gather, here_is, and_parts, eqb-true)

  pub in_member_ends : (m k n : ℕ) (c : FlatConnection) (x : FlatEnd) → slice_get cs k ≡ Some c → slice_get c.ends n ≡ Some x
      → x.leaf ≡ leaf → x.member ≡ m → IsIn (at k n) (member_ends cs leaf m)
  in_member_ends m k n c x h g p q =
      let joined : joins leaf m x ≡ true = ap (λ b. b && (x.member == m)) (eq-eqb x.leaf leaf p) ∙ eq-eqb x.member m q in
      let P : Bool → Type 0 = λ b. IsIn (at k n) (cond b (at k n ∷ []) []) in
      let f : ℕ → FlatEnd → List EndAt = λ n x. end_here leaf m k n x in
      in_gather (of_connection m) (at k n) cs k c h (in_gather f (at k n) c.ends n x g (subst P (sym joined) (inl refl)))

  once_member : (m : ℕ) → Once (member_ends cs leaf m)
  once_member m = search (rules, once_gather, once_here, here_is, from_gather)

  pub once_leaf : (members : List Member) → Once (leaf_ends cs leaf members)
  once_leaf members = search (rules, once_gather, once_member, member_end, some)

-- ---- of a leaf of the system

pub ends_are : (t : Tables) (leaf : ℕ) (x : Leaf) → slice_get t.flat.leaves leaf ≡ Some x
    → ends_at (ends (system t)) leaf ≡ leaf_ends t.flat.connections leaf (leaf_members t.source t.flat leaf)
ends_are t leaf x h = ends_at_leaf t.source t.flat leaf

pub end_of_leaf : (t : Tables) (leaf : ℕ) (e : EndAt) (members : List Member) → IsIn e (leaf_ends t.flat.connections leaf members)
    → (m : ℕ) × JoinsLeaf t.flat.connections leaf m e
end_of_leaf t leaf e members i = search (rules, from_gather, member_end)

pub in_leaf_ends : (t : Tables) (leaf k n : ℕ) (c : FlatConnection) (x : FlatEnd) (members : List Member)
    → slice_get t.flat.connections k ≡ Some c → slice_get c.ends n ≡ Some x → x.leaf ≡ leaf → x.member < length members
    → IsIn (at k n) (leaf_ends t.flat.connections leaf members)
in_leaf_ends t leaf k n c x members h g p l =
    let f : ℕ → Member → List EndAt = λ m x. member_ends t.flat.connections leaf m in
    let m = at_place members x.member l in
    in_gather f (at k n) members x.member m.0 m.1 (in_member_ends t.flat.connections leaf x.member k n c x h g p refl)
