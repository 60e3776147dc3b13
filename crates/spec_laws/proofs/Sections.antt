-- In each section the series and the number of a part tell its place.
use Rattle.spec_laws.proofs.Common.{Bool, Connector, Directory, EndpointOf, FlatConnection, Interrupt, Level, List, Notification, OfConnection, Owned, PageTable, Part, Rpc, Series, Some}
use Rattle.spec_laws.proofs.Common.{Tables, [], all_tables, ap, arith, before, cases_order, cnodes, cond, count_by, count_by-le-length, endpoint, endpoint_by, endpoints, eq-eqb, flat_map, frame_parts, from_ones, from_place, gather_ones, inl}
use Rattle.spec_laws.proofs.Common.{inr, irqs, length, length-take-le, length_append, level_number, level_series, locks, notification, notification_by, notifications, numbered, of_level, part, parts, rank, refl, same_Some, sections, slice_get}
use Rattle.spec_laws.proofs.Common.{rules, slice_get_within, split_get, subst, suc, sum_by-cons, sym, table_part, table_parts, take, tcbs, true, zero, ℕ, ◌+◌, ◌<◌, ◌==◌, ◌∙◌, ◌∷◌, ◌≡◌, ◌≤◌}
use Rattle.cam_base.proofs.NumberedLists.{single}
use Rattle.system_spec.specs.declared.series.Series.TheVariants as series
use Rattle.spec_laws.proofs.Blocks.{behind}

-- ---- each section

-- a part at place j tells that it stands there, by its number
pub record Told (s : List Part) (rank : Series → ℕ) (n : ℕ) (bound : ℕ) : Type 0 where
  pub series : (j : ℕ) (p : Part) → slice_get s j ≡ Some p → rank p.series ≡ n
  pub number : (j : ℕ) (p : Part) → slice_get s j ≡ Some p → p.number < bound
  pub rising : (i j : ℕ) (p q : Part) → slice_get s i ≡ Some p → slice_get s j ≡ Some q → i < j → p.series ≡ q.series
      → p.number < q.number

-- so one series and number stand at one place
pub told_place : (s : List Part) (rank : Series → ℕ) (n bound : ℕ) → Told s rank n bound → (i j : ℕ) (p q : Part)
    → slice_get s i ≡ Some p → slice_get s j ≡ Some q → p.series ≡ q.series → p.number ≡ q.number → i ≡ j
told_place s rank n bound told i j p q e f same number = grind (arith, cases_order)

told_numbered : (s : Series) (xs : List Owned) (bound : ℕ) → length xs ≤ bound → Told (numbered s xs) rank (rank s) bound
told_numbered s xs bound few = record {
  series = λ j p e. ap (λ (z : Part). rank z.series) (sym (at j p e).2);
  number = λ j p e. let o = at j p e in let l = slice_get_within xs j o.0 o.1 in let same = number_is j p e in
      omega (arith, l, same, few);
  rising = λ i j p q e f less same. let m = number_is i p e in let n = number_is j q f in omega (arith, m, n, less);
} where
  at : (j : ℕ) (p : Part) → slice_get (numbered s xs) j ≡ Some p → (x : Owned) × (slice_get xs j ≡ Some x)
      × (part s j x.owner x.what ≡ p)
  at j p e = from_ones (λ n (x : Owned). part s n x.owner x.what) xs j p e

  number_is : (j : ℕ) (p : Part) → slice_get (numbered s xs) j ≡ Some p → p.number ≡ j
  number_is j p e = ap (λ (z : Part). z.number) (sym (at j p e).2)

-- where the parts of connections stand, each of which has its connection's number and is its only one of the kind
pub record OfConnections (t : Tables) (f : ℕ → FlatConnection → List Part) (name : Series) (j : ℕ) (p : Part) : Type 0 where
  pub series : name ≡ p.series
  pub connection : FlatConnection
  pub here : slice_get t.flat.connections p.number ≡ Some connection
  pub one : length (f p.number connection) ≡ 1
  pub place : j ≡ before f t.flat.connections p.number

-- the one part of connection k
one_part : (t : Tables) (f : ℕ → FlatConnection → List Part) (name : Series) (k i j : ℕ) (c : FlatConnection) (x p : Part)
    → slice_get t.flat.connections k ≡ Some c → f k c ≡ x ∷ [] → slice_get (x ∷ []) i ≡ Some p
    → j ≡ before f t.flat.connections k + i → x.series ≡ name → x.number ≡ k → OfConnections t f name j p
one_part t f name k i j c x p here is h at series number =
    let s = single x p i h in
    let n : k ≡ p.number = sym number ∙ ap (λ (q : Part). q.number) s.1 in
    let stands : j ≡ before f t.flat.connections k = omega (arith, at, s.0) in
    let P : ℕ → Type 0 = λ m. length (f m c) ≡ 1 in
    record {
      series = sym series ∙ ap (λ (q : Part). q.series) s.1;
      connection = c;
      here = subst (λ m. slice_get t.flat.connections m ≡ Some c) n here;
      one = subst P n (ap length is);
      place = stands ∙ ap (before f t.flat.connections) n;
    }

endpoint_at : (t : Tables) (j : ℕ) (p : Part) → slice_get (endpoints t) j ≡ Some p → OfConnections t endpoint series.Ep j p
endpoint_at t j p e =
    let g = from_place endpoint t.flat.connections j p e in
    by_kind g.item.connector g.place g.number g.item g.here refl g.stands g.sum where
      by_kind : (m : Connector) (k i : ℕ) (c : FlatConnection) → slice_get t.flat.connections k ≡ Some c
          → endpoint k c ≡ endpoint_by k m → slice_get (endpoint_by k m) i ≡ Some p
          → j ≡ before endpoint t.flat.connections k + i → OfConnections t endpoint series.Ep j p
      by_kind Rpc k i c here is h a =
          one_part t endpoint series.Ep k i j c (part series.Ep k (OfConnection k) (EndpointOf k)) p here is h a refl refl
      by_kind _ k i c here is h a = cc

notification_at : (t : Tables) (j : ℕ) (p : Part) → slice_get (notifications t) j ≡ Some p
    → OfConnections t notification series.Ntfn j p
notification_at t j p e =
    let g = from_place notification t.flat.connections j p e in
    by_kind g.item.connector g.place g.number g.item g.here refl g.stands g.sum where
      by_kind : (m : Connector) (k i : ℕ) (c : FlatConnection) → slice_get t.flat.connections k ≡ Some c
          → notification k c ≡ notification_by k m → slice_get (notification_by k m) i ≡ Some p
          → j ≡ before notification t.flat.connections k + i → OfConnections t notification series.Ntfn j p
      by_kind Notification k i c here is h a = search (rules, one_part)
      by_kind Interrupt k i c here is h a = search (rules, one_part)
      by_kind _ k i c here is h a = cc

told_connections : (t : Tables) (s : List Part) (f : ℕ → FlatConnection → List Part) (name : Series) (bound : ℕ)
    → length t.flat.connections ≤ bound → ((j : ℕ) (p : Part) → slice_get s j ≡ Some p → OfConnections t f name j p)
    → Told s rank (rank name) bound
told_connections t s f name bound few at = record {
  series = λ j p e. ap rank (sym (at j p e).series);
  number = λ j p e. let o = at j p e in let l = slice_get_within t.flat.connections p.number o.connection o.here in
      omega (arith, l, few);
  rising = λ i j p q e g less same. rise p q i j (at i p e) (at j q g) less;
} where
  rise : (p q : Part) (i j : ℕ) → OfConnections t f name i p → OfConnections t f name j q → i < j → p.number < q.number
  rise p q i j a b less = elim (cases_order p.number q.number) [
    | inl is ↦
        let same : i ≡ j = a.place ∙ ap (before f t.flat.connections) is ∙ sym b.place in absurd (omega (arith, same, less))
    | inr (inl l) ↦ l
    | inr (inr more) ↦
        let over = behind f t.flat.connections q.number p.number b.connection b.here more in
        absurd (omega (arith, over, b.one, a.place, b.place, less))
  ]

-- ---- page tables

level_back : Series → ℕ
level_back series.Pgd = 0
level_back series.Pud = 1
level_back series.Pd = 2
level_back _ = 3

unfold_back : (l : Level) → level_back (level_series l) ≡ level_number l
unfolding level_back
unfold_back Directory = refl
unfold_back _ = refl

table_rank : (l : Level) → rank (level_series l) ≡ 6
table_rank Directory = refl
table_rank _ = refl

-- behind one that passes there are more that do
pub count_rises : {X : Type 0} (test : X → Bool) (xs : List X) (i j : ℕ) (x : X) → slice_get xs i ≡ Some x → test x ≡ true → i < j
    → count_by test (take i xs) < count_by test (take j xs)
count_rises test [] i j x e p l = cc
count_rises test (y ∷ xs) i zero x e p l = absurd (omega (arith, l))
count_rises {X} test (y ∷ xs) zero (suc j) x e p l =
    let same : y ≡ x = cc in
    let count : X → ℕ = λ z. cond (test z) 1 0 in
    let once : ℕ = 1 in
    let one : count y ≡ once = ap count same ∙ ap (λ b. cond b 1 0) p in
    omega (arith, one, sum_by-cons count y (take j xs))
count_rises {X} test (y ∷ xs) (suc i) (suc j) x e p l =
    let ih : count_by test (take i xs) < count_by test (take j xs) = count_rises test xs i j x e p (omega (arith, l)) in
    let count : X → ℕ = λ z. cond (test z) 1 0 in
    omega (arith, ih, sum_by-cons count y (take i xs), sum_by-cons count y (take j xs))

told_tables : (all : List PageTable) (bound : ℕ) → length all ≤ bound → Told (table_parts all) rank 6 bound
told_tables all bound few = record {
  series = λ j p e. let o = at j p e in ap (λ (z : Part). rank z.series) (sym o.2) ∙ table_rank o.0.level;
  number = λ j p e. let o = at j p e in number o.0 j p o.1 (ap (λ (z : Part). z.number) o.2);
  rising = λ i j p q e f less s. let o = at i p e in let w = at j q f in
      rise p q o.0 w.0 i j o.1 w.1
      (sym (unfold_back o.0.level) ∙ ap level_back (ap (λ (z : Part). z.series) o.2 ∙ s ∙ sym (ap (λ (z : Part). z.series) w.2))
      ∙ unfold_back w.0.level)
      (ap (λ (z : Part). z.number) o.2) (ap (λ (z : Part). z.number) w.2) less;
} where
  at : (j : ℕ) (p : Part) → slice_get (table_parts all) j ≡ Some p → (x : PageTable) × (slice_get all j ≡ Some x)
      × (table_part all j x ≡ p)
  at j p e = from_ones (λ n (x : PageTable). table_part all n x) all j p e

  number : (x : PageTable) (j : ℕ) (p : Part) → slice_get all j ≡ Some x → of_level x.level all j ≡ p.number → p.number < bound
  number x j p e n = grind (arith, slice_get_within, count_by-le-length, length-take-le)

  rise : (p q : Part) (x y : PageTable) (i j : ℕ) → slice_get all i ≡ Some x → slice_get all j ≡ Some y
      → level_number x.level ≡ level_number y.level → of_level x.level all i ≡ p.number → of_level y.level all j ≡ q.number
      → i < j → p.number < q.number
  rise p q x y i j e f level m n less =
      let test : ℕ → PageTable → Bool = λ k z. level_number z.level == k in
      let k = level_number x.level in
      let here : test k x ≡ true = eq-eqb (level_number x.level) k refl in
      let more : count_by (test k) (take i all) < count_by (test k) (take j all) = count_rises (test k) all i j x e here less in
      let same : count_by (test k) (take j all) ≡ q.number = ap (λ z. count_by (test z) (take j all)) level ∙ n in
      omega (arith, more, same, m)

-- ---- all sections

-- a section is no longer than all of them
section_within : {X : Type 0} (ss : List (List X)) (n : ℕ) (s : List X) → slice_get ss n ≡ Some s
    → length s ≤ length (flat_map (λ z. z) ss)
section_within [] n s e = cc
section_within (r ∷ ss) n s e = grind (arith, length_append r (flat_map (λ z. z) ss), section_within ss)

module _ (t : Tables) (bound : ℕ) (few : length t.flat.connections ≤ bound) (all : length (parts t) ≤ bound) where
  few_owned : (n : ℕ) (s : Series) (xs : List Owned) → slice_get (sections t) n ≡ Some (numbered s xs) → length xs ≤ bound
  few_owned n s xs e =
      let m : length (numbered s xs) ≡ length xs = gather_ones (λ k (x : Owned). part s k x.owner x.what) xs in
      omega (arith, all, section_within (sections t) n (numbered s xs) e, m)

  few_tables : length (all_tables t) ≤ bound
  few_tables =
      let m : length (table_parts (all_tables t)) ≡ length (all_tables t) = search (rules, gather_ones) in
      omega (arith, all, section_within (sections t) 6 (table_parts (all_tables t)) refl, m)

  abbrev Tells : ℕ → List Part → Type 0
  Tells n s = Told s rank n bound

  owned_told : (n : ℕ) (name : Series) (xs : List Owned) → slice_get (sections t) n ≡ Some (numbered name xs) → rank name ≡ n
      → (s : List Part) → numbered name xs ≡ s → Tells n s
  owned_told n name xs here is s same =
      subst (Tells n) same (subst (λ k. Tells k (numbered name xs)) is (told_numbered name xs bound (few_owned n name xs here)))

  pub told : (n : ℕ) (s : List Part) → slice_get (sections t) n ≡ Some s → Tells n s
  told zero s e = owned_told 0 series.CNode (cnodes t.flat.domains) refl refl s (same_Some _ _ e)
  told (suc zero) s e = owned_told 1 series.Tcb (tcbs t) refl refl s (same_Some _ _ e)
  told (suc (suc zero)) s e =
      subst (Tells 2) (same_Some _ _ e) (told_connections t (endpoints t) endpoint series.Ep bound few (endpoint_at t))
  told (suc (suc (suc zero))) s e =
      subst (Tells 3) (same_Some _ _ e) (told_connections t (notifications t) notification series.Ntfn bound few
      (notification_at t))
  told (suc (suc (suc (suc zero)))) s e = owned_told 4 series.Lock (locks t) refl refl s (same_Some _ _ e)
  told (suc (suc (suc (suc (suc zero))))) s e = owned_told 5 series.Irq (irqs t) refl refl s (same_Some _ _ e)
  told (suc (suc (suc (suc (suc (suc zero)))))) s e =
      subst (Tells 6) (same_Some _ _ e) (told_tables (all_tables t) bound few_tables)
  told (suc (suc (suc (suc (suc (suc (suc zero))))))) s e =
      owned_told 7 series.Frame (frame_parts t.spaces.frames) refl refl s (same_Some _ _ e)
  told (suc (suc (suc (suc (suc (suc (suc (suc n)))))))) s e = cc

-- what stands at place m of all stands in a section, behind those before it
pub record InSection {X : Type 0} (ss : List (List X)) (m : ℕ) (y : X) : Type 0 where
  pub section : ℕ
  pub list : List X
  pub place : ℕ
  pub is : slice_get ss section ≡ Some list
  pub stands : slice_get list place ≡ Some y
  pub sum : m ≡ length (flat_map (λ z. z) (take section ss)) + place

pub in_section : {X : Type 0} (ss : List (List X)) (m : ℕ) (y : X) → slice_get (flat_map (λ z. z) ss) m ≡ Some y
    → InSection ss m y
in_section [] m y e = cc
in_section {X} (r ∷ ss) m y e = elim (split_get r (flat_map (λ z. z) ss) m y e) [
  | inl h ↦ record { section = 0; list = r; place = m; is = refl; stands = h; sum = omega arith }
  | inr h ↦
      let k : InSection ss h.0 y = in_section ss h.0 y h.2 in
      record {
        section = suc k.section;
        list = k.list;
        place = k.place;
        is = k.is;
        stands = k.stands;
        sum = omega (arith, length_append r (flat_map (λ z. z) (take k.section ss)), h.1, k.sum);
      }
]
