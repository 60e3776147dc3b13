-- What the slots of a domain lead to: ends of connections that have a slot, interrupts, and locks.
use Rattle.spec_laws.proofs.Common.{Domain, FlatConnection, FlatEnd, Handler, Interrupt, IsIn, List, OfEnd, OwnLock, SlotUse, Some, Tables, domain_uses, get_map, in_place, inr, rules, slice_get, slots_of, subst, true, uses_at, ℕ, ◌≡◌}
use Rattle.spec_laws.proofs.Used.{UseOf, from_domain, from_end_uses, has_slot}

pub record IsEnd (cs : List FlatConnection) (k n : ℕ) : Type 0 where
  pub connection : FlatConnection
  pub end : FlatEnd
  pub here : slice_get cs k ≡ Some connection
  pub stands : slice_get connection.ends n ≡ Some end
  pub slot : has_slot connection.connector end.role ≡ true

abbrev pub IsUse : List FlatConnection → SlotUse → Type 0
IsUse cs (OfEnd k n) = IsEnd cs k n
IsUse cs (Handler k n) = (c : FlatConnection) × (slice_get cs k ≡ Some c) × (c.connector ≡ Interrupt)
IsUse cs (OwnLock leaf m) = Unit {0}

of_end : (cs : List FlatConnection) (leaf : ℕ) (u : SlotUse) → UseOf cs leaf u → IsUse cs u
of_end cs leaf u o = search (rules, from_end_uses)

-- the uses of a domain are those of the flat system
pub uses_are : (t : Tables) → t.slots ≡ slots_of t.source t.flat → (d : ℕ) (x : Domain) → slice_get t.flat.domains d ≡ Some x
    → uses_at t d ≡ domain_uses t.source t.flat x.leaves
uses_are t laid d x h = search (rules, get_map)

pub is_use : (t : Tables) → t.slots ≡ slots_of t.source t.flat → (d : ℕ) (x : Domain) → slice_get t.flat.domains d ≡ Some x
    → (n : ℕ) (u : SlotUse) → slice_get (uses_at t d) n ≡ Some u → IsUse t.flat.connections u
is_use t laid d x h n u s =
    let f = from_domain t.source t.flat x.leaves u (subst (λ z. IsIn u z) (uses_are t laid d x h)
    (in_place u (uses_at t d) n s)) in
    search (rules, of_end)
