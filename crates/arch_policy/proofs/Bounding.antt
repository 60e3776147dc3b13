-- Edges that bound interrupts give, added one handler after another.
use Rattle.arch_policy.proofs.Common.{Adds, AsyncSend, Edge, IsBound, IsBoundAt, IsBoundBy, IsFirstFrom, IsIn, List, None, Option, Some, adds_none, adds_same, adds_then, ap, arith, bound_to, cases_lt, edge, in_append, in_left, in_place, in_right}
use Rattle.arch_policy.proofs.Common.{inl, inr, length, place_of, refl, rules, slice_get, slice_get_within, subst, sym, ℕ, ◌++◌, ◌+◌, ◌<◌, ◌∙◌, ◌≡◌, ◌≤◌, ◌⊎◌}
use Rattle.arch_policy.proofs.Lists.{has_in, in_has}

-- a list behind another adds what stands in it
pub adds_list : (xs b c : List Edge) → c ≡ b ++ xs → Adds (λ e. IsIn e xs) b c
adds_list xs b c is =
    let P : List Edge → Type 0 = λ z. Adds (λ e. IsIn e xs) b z in
    subst P (sym is) (record {
      kept = λ e h. in_has e (b ++ xs) (in_left e b xs (has_in e b h));
      added = λ e i. in_has e (b ++ xs) (in_right e b xs i);
      only = λ e h. elim (in_append e b xs (has_in e (b ++ xs) h)) [ inl i ↦ inl (in_has e b i) | inr i ↦ inr i ];
    })

-- by those by which labels signal from one place up to another
pub record Until (handle : Edge) (signals : List Edge) (first : ℕ) (at : ℕ) (e : Edge) : Type 0 where
  pub place : ℕ
  pub low : first ≤ place
  pub below : place < at
  pub signal : Edge
  pub there : slice_get signals place ≡ Some signal
  pub is : edge handle.to AsyncSend signal.to ≡ e

module _ (handle : Edge) (signals : List Edge) where
  pub until_none : (first : ℕ) (a : List Edge) → Adds (Until handle signals first first) a a
  until_none first a = adds_none (Until handle signals first first) (λ e u. let l = u.low in let b = u.below in
      absurd (omega arith)) a

  of_bound : (o : Option Edge) (e : Edge) → IsIn e (bound_to handle o)
      → (s : Edge) × (o ≡ Some s) × (edge handle.to AsyncSend s.to ≡ e)
  of_bound None e i = absurd i
  of_bound (Some s) e (inl is) = (s, refl, is)
  of_bound (Some s) e (inr i) = absurd i

  in_bound : (o : Option Edge) (s : Edge) (e : Edge) → o ≡ Some s → edge handle.to AsyncSend s.to ≡ e → IsIn e (bound_to handle o)
  in_bound None s e h is = absurd cc
  in_bound (Some r) s e h is = let same : r ≡ s = cc in inl (ap (λ (z : Edge). edge handle.to AsyncSend z.to) same ∙ is)

  pub until_more : (first at : ℕ) (a b c : List Edge) (o : Option Edge) → first ≤ at → Adds (Until handle signals first at) a b
      → o ≡ slice_get signals at → c ≡ b ++ bound_to handle o → Adds (Until handle signals first (at + 1)) a c
  until_more first at a b c o le before here now =
      adds_same (λ e. Until handle signals first at e ⊎ IsIn e (bound_to handle o)) (Until handle signals first (at + 1))
      (λ e h. elim h [
        | inl u ↦ search (rules)
        | inr i ↦ search (rules, of_bound)
      ])
      (λ e u. elim (cases_lt u.place at) [
        | inl below ↦ inl (record { place = u.place; low = u.low; below = below; signal = u.signal; there = u.there; is = u.is })
        | inr ge ↦ search (rules, in_bound)
      ])
      a c
      (adds_then (Until handle signals first at) (λ e. IsIn e (bound_to handle o)) a b c before
      (adds_list (bound_to handle o) b c now))

  pub until_all : (first past : ℕ) (a b : List Edge) → IsFirstFrom signals handle.from first
      → IsFirstFrom signals (handle.from + 1) past → Adds (Until handle signals first past) a b
      → Adds (IsBoundBy handle signals) a b
  until_all first past a b f p grown = search (rules, adds_same, in_place, place_of, cases_lt)

-- by the handlers at lesser places
pub record Among (handles : List Edge) (signals : List Edge) (n : ℕ) (e : Edge) : Type 0 where
  pub place : ℕ
  pub below : place < n
  pub by : IsBoundAt (slice_get handles place) signals e

module _ (handles : List Edge) (signals : List Edge) where
  pub among_none : (a : List Edge) → Adds (Among handles signals 0) a a
  among_none a = adds_none (Among handles signals 0) (λ e x. let b = x.below in absurd (omega arith)) a

  pub among_more : (n : ℕ) (a b c : List Edge) (o : Option Edge) → o ≡ slice_get handles n → Adds (Among handles signals n) a b
      → Adds (IsBoundAt o signals) b c → Adds (Among handles signals (n + 1)) a c
  among_more n a b c o here before now = search (rules, adds_same, cases_lt, adds_then)

  from_at : (n : ℕ) (e : Edge) (o : Option Edge) → slice_get handles n ≡ o → IsBoundAt o signals e → IsBound handles signals e
  from_at n e None h x = absurd x
  from_at n e (Some d) h x = record { handle = d; listed = in_place d handles n h; by = x }

  pub among_all : (n : ℕ) (a b : List Edge) → length handles ≤ n → Adds (Among handles signals n) a b
      → Adds (IsBound handles signals) a b
  among_all n a b le grown =
      adds_same (Among handles signals n) (IsBound handles signals)
      (λ e x. from_at x.place e (slice_get handles x.place) refl x.by)
      (λ e x.
      let k = place_of x.handle handles x.listed in
      let l = slice_get_within handles k.0 x.handle k.1 in
      record { place = k.0; below = omega (arith, l, le); by = subst (λ z. IsBoundAt z signals e) (sym k.1) x.by })
      a b grown
