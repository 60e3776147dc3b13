-- Who leads whom, and the edge of a leader.
use Rattle.least_cert.proofs.Common.{Authority, Bool, Closure, Edge, Flows, Has, IsRelabeled, IsSound, Knows, List, OfLeast, Reply, Widens, [], ap, arith, cases_lt, edge, eqb-true, false, get_or, get_or-map, get_or_past, has, inl, inr, lead}
use Rattle.least_cert.proofs.Common.{leader_at, led_by, length, length-append, length-map, map, ne_eqb, number_of, refl, rules, same_itself, same_number, subst, suc, sym, true, zero, ℕ, ◌++◌, ◌+◌, ◌<◌, ◌==◌, ◌^◌, ◌∙◌, ◌∷◌, ◌≡◌, ◌≢◌, ◌≤◌, ◌⊎◌}

-- ---- the edge of a leader

pub number_other : (a : Authority) → number_of a == 9 ≡ false → a ≢ Reply
number_other a is reply = absurd (let yes_it : number_of a == 9 ≡ true = rw reply refl in cc)

pub other_number : (a : Authority) → a ≢ Reply → number_of a == 9 ≡ false
other_number a other = ne_eqb (number_of a) 9 (λ e. other (same_number a Reply e))

-- a reply or not
pub reply_or_not : (e : Edge) → (number_of e.authority == 9 ≡ true) ⊎ (number_of e.authority == 9 ≡ false)
reply_or_not e = search (rules)

pub lead_reply : (leaders : List ℕ) (e : Edge) → number_of e.authority == 9 ≡ true → lead leaders e ≡ e
lead_reply leaders e is = rw is refl

pub lead_other : (leaders : List ℕ) (e : Edge) → number_of e.authority == 9 ≡ false
    → lead leaders e ≡ edge (leader_at leaders e.from) e.authority e.to
lead_other leaders e is = rw is refl

pub lead_as : (leaders : List ℕ) (l : ℕ) (a : Authority) (x : ℕ) → a ≢ Reply
    → lead leaders (edge l a x) ≡ edge (leader_at leaders l) a x
lead_as leaders l a x other = lead_other leaders (edge l a x) (other_number a other)

pub lead_then : (old new : List ℕ) → ((l : ℕ) → leader_at new (leader_at old l) ≡ leader_at new l) → (e : Edge)
    → lead new (lead old e) ≡ lead new e
lead_then old new same e = search (rules, reply_or_not, lead_reply, lead_other)

pub flows_then : (c : Closure) (l m n : ℕ) → Flows c.spec c.labels l m → Flows c.spec c.labels m n → Flows c.spec c.labels l n
flows_then c l m n f g = λ a x other h. g a x other (f a x other h)

module _ (c : Closure) (sound : IsSound c) where
  -- what flows between labels flows between their leaders
  pub flows_led : (l m : ℕ) → Flows c.spec c.labels l m → Flows c.spec c.labels (leader_at c.leaders l) (leader_at c.leaders m)
  flows_led l m f = λ a x other h. sound.leads m a x other (f a x other (sound.follows l a x other h))

  pub knows_led : (l : ℕ) (a : Authority) (x : ℕ) → a ≢ Reply → Knows c (edge l a x) → Has c.queue (leader_at c.leaders l) a x
  knows_led l a x other h = subst (λ (e : Edge). has c.queue e ≡ true) (lead_as c.leaders l a x other) h

  pub led_knows : (l : ℕ) (a : Authority) (x : ℕ) → a ≢ Reply → Has c.queue (leader_at c.leaders l) a x → Knows c (edge l a x)
  led_knows l a x other h = subst (λ (e : Edge). has c.queue e ≡ true) (sym (lead_as c.leaders l a x other)) h

  pub least_led : (e : Edge) → OfLeast c e → OfLeast c (lead c.leaders e)
  least_led e h = elim (reply_or_not e) [
    | inl is ↦ subst (λ (x : Edge). OfLeast c x) (sym (lead_reply c.leaders e is)) h
    | inr is ↦ subst (λ (x : Edge). OfLeast c x) (sym (lead_other c.leaders e is))
        (sound.leads e.from e.authority e.to (number_other e.authority is) h)
  ]

  pub knows_least : (e : Edge) → Knows c e → OfLeast c e
  knows_least e h = elim (reply_or_not e) [
    | inl is ↦ subst (λ (x : Edge). OfLeast c x) (lead_reply c.leaders e is) (sound.least (lead c.leaders e) h)
    | inr is ↦ sound.follows e.from e.authority e.to (number_other e.authority is)
        (subst (λ (x : Edge). OfLeast c x) (lead_other c.leaders e is) (sound.least (lead c.leaders e) h))
  ]

-- ---- leaders that change

pub led_cases : (from to leader : ℕ) → (led_by from to leader ≡ leader) ⊎ ((leader ≡ from) × (led_by from to leader ≡ to))
led_cases from to leader = search (rules, eqb-true)

pub led_to : (from to : ℕ) → led_by from to to ≡ to
led_to from to = elim (led_cases from to to) [ inl is ↦ is | inr is ↦ is.1 ]

pub led_from : (from to : ℕ) → led_by from to from ≡ to
led_from from to = rw (same_itself from) refl

relabeled : (leaders : List ℕ) (from to l : ℕ) → from < length leaders → leader_at (map (led_by from to) leaders) l ≡ led_by from
    to (leader_at leaders l)
relabeled leaders from to l less = search (rules, cases_lt, get_or-map, led_cases, length-map, get_or_past)

-- ---- labels that lead themselves

push_at : (xs : List ℕ) (n k d : ℕ) → (get_or (xs ++ n ∷ []) k d ≡ get_or xs k d)
    ⊎ ((k ≡ length xs) × (get_or (xs ++ n ∷ []) k d ≡ n) × (get_or xs k d ≡ d))
push_at [] n zero d = inr (refl, refl, refl)
push_at [] n (suc k) d = inl refl
push_at (x ∷ xs) n zero d = inl refl
push_at (x ∷ xs) n (suc k) d = elim (push_at xs n k d) [ inl same ↦ inl same | inr is ↦ inr (ap suc is.0, is.1, is.2) ]

-- the places up to n, where the labels have the leaders that they had
pub record WidensTo (n : ℕ) (leaders : List ℕ) (new : List ℕ) : Type 0 where
  pub long : length new ≡ n
  pub same : (l : ℕ) → leader_at new l ≡ leader_at leaders l

pub widens_more : (n : ℕ) (leaders mid new : List ℕ) → WidensTo n leaders mid → new ≡ mid ++ n ∷ [] → WidensTo (n + 1) leaders new
widens_more n leaders mid new w is = search (rules, length-append, push_at)

pub widens_all : (n label : ℕ) (leaders new : List ℕ) → WidensTo n leaders new → label < n → n ≤ 2 ^ 32 → Widens label leaders new
widens_all n label leaders new w less few = let long = w.long in record { within = omega arith; few = omega arith; same = w.same }

-- ---- one leader in place of another

pub is_relabeled : (from to : ℕ) (leaders wide new : List ℕ) → Widens from leaders wide → new ≡ map (led_by from to) wide
    → IsRelabeled from to leaders new
is_relabeled from to leaders wide new w is = search (rules, length-map, relabeled)

pub widens_same : (label : ℕ) (leaders same new : List ℕ) → same ≡ leaders → Widens label same new → Widens label leaders new
widens_same label leaders same new is w = subst (λ (ls : List ℕ). Widens label ls new) is w
