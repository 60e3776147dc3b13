-- Numbers are sums: which lock, which interrupt and which thread has which
use Rattle.spec_laws.proofs.Common.{Bool, Connector, Domain, FlatConnection, Handler, Interrupt, IrqOf, IsIn, IsLockNumber, List, LockOf, Member, OfDomain, OfEnd, OwnLock, Owned, Owner, Part, Role, SharedMemory, SlotUse, Some, Tables, To, [], ap}
use Rattle.spec_laws.proofs.Common.{arith, before, cond, domain_uses, end_uses, false, flat_map, flat_map-gather, gather, gather_same, gathered, in_gather, in_together, inl, interrupt, irq, irq_by, irq_owner, irqs, is_lock, leaf_locks, leaf_members}
use Rattle.spec_laws.proofs.Common.{leaf_uses, length, length_append, lock, lock_uses, locks, member_uses, numbered, owned, part, parts, refl, rules, sections, slice_get, subst, suc, sym, take, true, uses_at, zero, ℕ, ◌++◌, ◌+◌, ◌∙◌, ◌∷◌, ◌≡◌}
use Rattle.std.proofs.lemmas.List.Concat.{flat_map-append}
use Rattle.system_spec.specs.declared.series.Series.TheVariants as series
use Rattle.system_spec.specs.Parts.{domain_locks as parted_locks}
use Rattle.system_spec.specs.Landmarks.{has_irq}
use Rattle.system_spec.proofs.Placing.{as_long}
use Rattle.spec_laws.specs.Slotted.{domain_locks}

-- ---- sums

-- what gives as much at each element has as much before each
pub before_same : {X Y Z : Type 0} (f : ℕ → X → List Y) (g : ℕ → X → List Z) (xs : List X) (k : ℕ)
    → ((j : ℕ) (x : X) → slice_get xs j ≡ Some x → length (f j x) ≡ length (g j x)) → before f xs k ≡ before g xs k
before_same f g [] zero h = refl
before_same f g [] (suc k) h = refl
before_same f g (x ∷ xs) zero h = refl
before_same {X} {Y} {Z} f g (x ∷ xs) (suc k) h =
    let f' : ℕ → X → List Y = λ j y. f (suc j) y in
    let g' : ℕ → X → List Z = λ j y. g (suc j) y in
    omega (
      arith,
      h 0 x refl,
      before_same f' g' xs k (λ j y e. h (suc j) y e),
      length_append (f 0 x) (gather f' (take k xs)),
      length_append (g 0 x) (gather g' (take k xs)),
    )

as_gathered : {X Y : Type 0} (f : X → List Y) (xs : List X) → flat_map f xs ≡ gather (λ k x. f x) xs
as_gathered f [] = refl
as_gathered f (x ∷ xs) = ap (λ z. f x ++ z) (as_gathered f xs)

none_gathered : {X Y : Type 0} (f : ℕ → X → List Y) (xs : List X) → ((k : ℕ) (x : X) → f k x ≡ []) → gather f xs ≡ []
none_gathered f [] h = refl
none_gathered {X} {Y} f (x ∷ xs) h =
    let g : ℕ → X → List Y = λ k y. f (suc k) y in
    ap (λ z. z ++ gather g xs) (h 0 x) ∙ none_gathered g xs (λ k y. h (suc k) y)

-- ---- locks

abbrev lock_of : SlotUse → List (ℕ × ℕ)
lock_of (OfEnd k m) = []
lock_of (Handler k m) = []
lock_of (OwnLock leaf m) = (leaf, m) ∷ []

end_none : (c : Connector) (r : Role) (k n : ℕ) → flat_map lock_of (end_uses c r k n) ≡ []
end_none Interrupt To k n = refl
end_none _ _ k n = refl

none_if : (b : Bool) (us : List SlotUse) → flat_map lock_of us ≡ [] → flat_map lock_of (cond b us []) ≡ []
none_if true us e = e
none_if false us e = refl

member_none : (cs : List FlatConnection) (leaf m : ℕ) → flat_map lock_of (member_uses cs leaf m) ≡ []
member_none cs leaf m = search (rules, flat_map-gather, none_gathered, none_if, end_none)

lock_if : (b : Bool) (leaf m : ℕ) → flat_map lock_of (cond b (OwnLock leaf m ∷ []) []) ≡ cond b ((leaf, m) ∷ []) []
lock_if true leaf m = refl
lock_if false leaf m = refl

-- the locks among the uses of a leaf, and of a domain
leaf_has : (t : Tables) (leaf : ℕ) → flat_map lock_of (leaf_uses t.flat.connections leaf (leaf_members t.source t.flat leaf))
    ≡ leaf_locks t leaf
leaf_has t leaf =
    let members = leaf_members t.source t.flat leaf in
    let p : ℕ → Member → List SlotUse = λ m x. member_uses t.flat.connections leaf m in
    let q : ℕ → Member → List SlotUse = λ m x. lock_uses leaf m x in
    let l : ℕ → Member → List (ℕ × ℕ) = λ m x. cond (is_lock x) ((leaf, m) ∷ []) [] in
    flat_map-append lock_of (gather p members) (gather q members) ∙ ap (λ z. z ++ flat_map lock_of (gather q members))
    (flat_map-gather lock_of p members ∙ none_gathered (λ m x. flat_map lock_of (p m x)) members
    (λ m x. member_none t.flat.connections leaf m)) ∙ flat_map-gather lock_of q members
    ∙ gather_same (λ m x. flat_map lock_of (q m x)) l members (λ m x e. lock_if (is_lock x) leaf m)

domain_has : (t : Tables) (x : Domain) → flat_map lock_of (domain_uses t.source t.flat x.leaves) ≡ domain_locks t x
domain_has t x = search (rules, flat_map-gather, gather_same, leaf_has)

as_many : (d n : ℕ) (u : SlotUse) → length (lock d n u) ≡ length (lock_of u)
as_many d n (OwnLock leaf m) = refl
as_many d n _ = refl

module _ (t : Tables) (uses_are : (d : ℕ) (x : Domain) → slice_get t.flat.domains d ≡ Some x
    → uses_at t d ≡ domain_uses t.source t.flat x.leaves) (d n leaf m : ℕ) (x : Domain)
    (h : slice_get t.flat.domains d ≡ Some x) (e : slice_get (uses_at t d) n ≡ Some (OwnLock leaf m)) where
  -- the locks of the domains before, and those before it in its own
  abbrev pub lock_number : ℕ
  lock_number = before (parted_locks t) t.flat.domains d + before (lock d) (uses_at t d) n

  pub lock_numbered : IsLockNumber t leaf m lock_number
  lock_numbered =
      let us = uses_at t d in let i = before (lock d) us n in
      let listed : (e : ℕ) (z : Domain) → slice_get t.flat.domains e ≡ Some z
      → gather (λ k u. lock_of u) (uses_at t e) ≡ domain_locks t z =
      λ e z j. sym (as_gathered lock_of (uses_at t e)) ∙ ap (flat_map lock_of) (uses_are e z j) ∙ domain_has t z in
      let sums = before_same (parted_locks t) (λ d z. domain_locks t z) t.flat.domains d
      (λ e z j. as_long (lock e) (λ k u. lock_of u) (uses_at t e) (as_many e) ∙ ap length (listed e z j)) in
      let own = before_same (lock d) (λ k u. lock_of u) us n (λ k u j. as_many d k u) in
      let stands : slice_get (gather (λ k u. lock_of u) us) i ≡ Some (leaf, m) = gathered (λ k u. lock_of u) us n (OwnLock leaf m)
      0 (leaf, m) i e refl (omega (arith, own)) in
      search (rules)

  -- it is a part, under its number
  pub lock_part : IsIn (part series.Lock lock_number (OfDomain d) (LockOf d n)) (parts t)
  lock_part =
      let y = owned (OfDomain d) (LockOf d n) in let us = uses_at t d in
      let i = before (lock d) us n in
      let inner : slice_get (gather (lock d) us) i ≡ Some y = gathered (lock d) us n (OwnLock leaf m) 0 y i e refl
      (omega arith) in
      let at : slice_get (locks t) lock_number ≡ Some y = search (rules, gathered) in
      let f : ℕ → Owned → List Part = λ n z. part series.Lock n z.owner z.what ∷ [] in
      let p = part series.Lock lock_number (OfDomain d) (LockOf d n) in
      in_together (sections t) 4 (numbered series.Lock (locks t)) p refl (in_gather f p (locks t) lock_number y at (inl refl))

-- ---- interrupts

as_interrupt : (k : ℕ) (o : Owner) (c : Connector) → length (irq_by k o c) ≡ length (cond (has_irq c) (k ∷ []) [])
as_interrupt k o SharedMemory = refl
as_interrupt k o _ = refl

pub irqs_before : (t : Tables) (k : ℕ) → before irq t.flat.connections k ≡ before interrupt t.flat.connections k
irqs_before t k = before_same irq interrupt t.flat.connections k (λ j x i. as_interrupt j (irq_owner j x) x.connector)

pub irq_part : (t : Tables) (k : ℕ) (c : FlatConnection) → slice_get t.flat.connections k ≡ Some c → c.connector ≡ Interrupt
    → IsIn (part series.Irq (before interrupt t.flat.connections k) (irq_owner k c) (IrqOf k)) (parts t)
irq_part t k c h e =
    let y = owned (irq_owner k c) (IrqOf k) in let cs = t.flat.connections in
    let at : slice_get (irqs t) (before interrupt cs k) ≡ Some y = gathered irq cs k c 0 y (before interrupt cs k) h
    (subst (λ m. slice_get (irq_by k (irq_owner k c) m) 0 ≡ Some y) (sym e) refl) (omega (arith, irqs_before t k)) in
    let p = part series.Irq (before interrupt cs k) (irq_owner k c) (IrqOf k) in
    in_together (sections t) 5 (numbered series.Irq (irqs t)) p refl (in_gather (λ n z. part series.Irq n z.owner z.what ∷ []) p
    (irqs t) (before interrupt cs k) y at (inl refl))
