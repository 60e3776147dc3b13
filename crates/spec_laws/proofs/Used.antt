-- The uses of a domain are those of the ends that join its leaves, and its locks.
use Rattle.spec_laws.proofs.Common.{Bool, Connector, Flat, FlatConnection, FlatEnd, Handler, Interrupt, IsIn, Leaf, List, Member, Notification, OfEnd, OwnLock, Role, Rpc, SlotUse, Some, Source, To, []}
use Rattle.spec_laws.proofs.Common.{and_from, and_parts, ap, cond, domain_uses, end_uses, eq-eqb, eqb-true, false, from_gather, gather, in_append, in_gather, in_left, in_place, in_right, inl, inr, joined_uses, joins, leaf_members, leaf_uses}
use Rattle.spec_laws.proofs.Common.{lock_uses, member_uses, members_at, members_of_leaf, place_of, refl, rules, slice_get, subst, sym, true, true≢false, ℕ, ◌∙◌, ◌≡◌, ◌⊎◌}
use lib.Dec.{eqb}
use Rattle.adl_ast.specs.declared.component.Lock.{Lock}
use Rattle.adl_ast.specs.declared.component.Member.TheVariants as members
use Rattle.arch_policy.proofs.Listed.{lock_of_member}
use Rattle.spec_laws.proofs.Lists.{from_if, shown_if}

pub record UseOf (cs : List FlatConnection) (leaf : ℕ) (u : SlotUse) : Type 0 where
  pub place : ℕ
  pub connection : FlatConnection
  pub here : slice_get cs place ≡ Some connection
  pub number : ℕ
  pub end : FlatEnd
  pub stands : slice_get connection.ends number ≡ Some end
  pub joins : end.leaf ≡ leaf
  pub use_is : IsIn u (end_uses connection.connector end.role place number)

-- the slot of a lock that is declared there
abbrev pub IsLock : List Member → ℕ → SlotUse → Type 0
IsLock ms leaf u = (m : ℕ) × (u ≡ OwnLock leaf m) × (x : Lock) × (slice_get ms m ≡ Some (members.Lock x))

from_joined : (leaf m k n : ℕ) (c : FlatConnection) (e : FlatEnd) (u : SlotUse) → IsIn u (joined_uses leaf m k c.connector n e)
    → (e.leaf ≡ leaf) × IsIn u (end_uses c.connector e.role k n)
from_joined leaf m k n c e u i = search (rules, from_if, eqb-true, and_parts, eqb)

in_joined : (leaf m k n : ℕ) (c : FlatConnection) (e : FlatEnd) (u : SlotUse) → e.leaf ≡ leaf → e.member ≡ m
    → IsIn u (end_uses c.connector e.role k n) → IsIn u (joined_uses leaf m k c.connector n e)
in_joined leaf m k n c e u l q i =
    subst (λ b. IsIn u (cond b (end_uses c.connector e.role k n) []))
    (sym (and_from (eqb e.leaf leaf) (eqb e.member m) (eq-eqb e.leaf leaf l) (eq-eqb e.member m q))) i

from_member : (cs : List FlatConnection) (leaf m : ℕ) (u : SlotUse) → IsIn u (member_uses cs leaf m) → UseOf cs leaf u
from_member cs leaf m u i = search (rules, from_gather, from_joined)

in_member : (cs : List FlatConnection) (leaf m : ℕ) (u : SlotUse) (o : UseOf cs leaf u) → o.end.member ≡ m
    → IsIn u (member_uses cs leaf m)
in_member cs leaf m u o q = search (rules, in_gather, in_joined)

from_lock : (ms : List Member) (leaf m : ℕ) (member : Member) (u : SlotUse) → slice_get ms m ≡ Some member
    → IsIn u (lock_uses leaf m member) → IsLock ms leaf u
from_lock ms leaf m member u s i = search (rules, shown_if, lock_of_member)

pub from_leaf : (cs : List FlatConnection) (leaf : ℕ) (ms : List Member) (u : SlotUse) → IsIn u (leaf_uses cs leaf ms)
    → UseOf cs leaf u ⊎ IsLock ms leaf u
from_leaf cs leaf ms u i =
    let F : ℕ → Member → List SlotUse = λ m member. member_uses cs leaf m in
    let G : ℕ → Member → List SlotUse = λ m member. lock_uses leaf m member in
    elim (in_append u (gather F ms) (gather G ms) i) [
      | inl j ↦ let m = from_gather F u ms j in inl (from_member cs leaf m.0 u m.3)
      | inr j ↦ let m = from_gather G u ms j in inr (from_lock ms leaf m.0 m.1 u m.2 m.3)
    ]

pub in_leaf : (cs : List FlatConnection) (leaf : ℕ) (ms : List Member) (u : SlotUse) (o : UseOf cs leaf u) (member : Member)
    → slice_get ms o.end.member ≡ Some member → IsIn u (leaf_uses cs leaf ms)
in_leaf cs leaf ms u o member s =
    let F : ℕ → Member → List SlotUse = λ m member. member_uses cs leaf m in
    let G : ℕ → Member → List SlotUse = λ m member. lock_uses leaf m member in
    in_left u (gather F ms) (gather G ms) (in_gather F u ms o.end.member member s (in_member cs leaf o.end.member u o refl))

pub from_domain : (source : Source) (flat : Flat) (leaves : List ℕ) (u : SlotUse) → IsIn u (domain_uses source flat leaves)
    → (leaf : ℕ) × IsIn leaf leaves × (UseOf flat.connections leaf u ⊎ IsLock (leaf_members source flat leaf) leaf u)
from_domain source flat leaves u i = search (rules, from_gather, in_place, from_leaf)

pub in_domain : (source : Source) (flat : Flat) (leaves : List ℕ) (u : SlotUse) (leaf : ℕ) (found : Leaf)
    (o : UseOf flat.connections leaf u) (member : Member) → IsIn leaf leaves → slice_get flat.leaves leaf ≡ Some found
    → slice_get (members_at source found.component) o.end.member ≡ Some member → IsIn u (domain_uses source flat leaves)
in_domain source flat leaves u leaf found o member here is s =
    let F : ℕ → ℕ → List SlotUse = λ i leaf. leaf_uses flat.connections leaf (leaf_members source flat leaf) in
    let p = place_of leaf leaves here in
    in_gather F u leaves p.0 leaf p.1 (subst (λ x. IsIn u (leaf_uses flat.connections leaf (members_of_leaf source x))) (sym is)
    (in_leaf flat.connections leaf (members_at source found.component) u o member s))

-- a declared lock has a slot
pub lock_used : (source : Source) (flat : Flat) (leaves : List ℕ) (leaf m : ℕ) (found : Leaf) (x : Lock) → IsIn leaf leaves
    → slice_get flat.leaves leaf ≡ Some found → slice_get (members_at source found.component) m ≡ Some (members.Lock x)
    → IsIn (OwnLock leaf m) (domain_uses source flat leaves)
lock_used source flat leaves leaf m found x i here declared =
    let F : ℕ → Member → List SlotUse = λ m member. member_uses flat.connections leaf m in
    let G : ℕ → Member → List SlotUse = λ m member. lock_uses leaf m member in
    let ms = leaf_members source flat leaf in
    let there : slice_get ms m ≡ Some (members.Lock x) = ap (λ z. slice_get (members_of_leaf source z) m) here ∙ declared in
    let p = place_of leaf leaves i in
    in_gather (λ i at. leaf_uses flat.connections at (leaf_members source flat at)) (OwnLock leaf m) leaves p.0 leaf p.1
    (in_right (OwnLock leaf m) (gather F ms) (gather G ms) (in_gather G (OwnLock leaf m) ms m (members.Lock x) there (inl refl)))

-- ---- what the slots of an end are

abbrev pub has_slot : Connector → Role → Bool
has_slot Rpc role = true
has_slot Notification role = true
has_slot Interrupt To = true
has_slot _ _ = false

pub record IsHandler (c : Connector) (r : Role) (k n : ℕ) (u : SlotUse) : Type 0 where
  pub interrupt : c ≡ Interrupt
  pub receives : r ≡ To
  pub is : Handler k n ≡ u

pub from_end_uses : (c : Connector) (r : Role) (k n : ℕ) (u : SlotUse) → IsIn u (end_uses c r k n)
    → (has_slot c r ≡ true) × ((OfEnd k n ≡ u) ⊎ IsHandler c r k n u)
from_end_uses Rpc r k n u (inl e) = (refl, inl e)
from_end_uses Rpc r k n u (inr i) = absurd i
from_end_uses Notification r k n u (inl e) = (refl, inl e)
from_end_uses Notification r k n u (inr i) = absurd i
from_end_uses Interrupt To k n u (inl e) = (refl, inl e)
from_end_uses Interrupt To k n u (inr (inl e)) = (refl, inr (record { interrupt = refl; receives = refl; is = e }))
from_end_uses Interrupt To k n u (inr (inr i)) = absurd i
from_end_uses _ _ k n u i = absurd i

pub end_in_uses : (c : Connector) (r : Role) (k n : ℕ) → has_slot c r ≡ true → IsIn (OfEnd k n) (end_uses c r k n)
end_in_uses Rpc r k n s = inl refl
end_in_uses Notification r k n s = inl refl
end_in_uses Interrupt To k n s = inl refl
end_in_uses _ _ k n s = absurd (true≢false (sym s))
