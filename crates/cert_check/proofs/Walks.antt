-- A walk through the first edges of a rule, past the partners that are held.
use Rattle.cert_check.proofs.Common.{Alike, AreMet, AreOthers, AtMost, Breaks, Contains, Contains-append_left, Contains-permutation, Contains-push, Contains-push_cases, Edge, FindsLeast, FindsLeastAt, GoesLike, HasPartners, IfSome, IsLeastAlike}
use Rattle.cert_check.proofs.Common.{IsLed, IsNonDecreasingBy-from_sort, IsPermutation-sym, IsReach, IsSorted, LesserOf, List, MeetToo, Meeting, None, OfPartners, Option, Some, Violation, With, [], ap, arith, at_contains, at_has, cases_lt}
use Rattle.cert_check.proofs.Common.{contains_at, edge, end_of, eqb-false, false, first_authority, first_not_less, get_or, get_or_from_slice_get, has, has_at, inl, inr, later_at_most, leb-false, leb-true, length, ltb-false, ltb-true, nat_le, nat_lt}
use Rattle.cert_check.proofs.Common.{partner_authority, partner_of, refl, rules, slice_get, slice_get-get_or, slice_get_within, subst, sym, true, ℕ, ◌++◌, ◌+◌, ◌-◌, ◌<◌, ◌==◌, ◌∙◌, ◌∷◌, ◌≡◌, ◌≤◌, ◌⊎◌}
use Rattle.std.specs.List.Sorted.{IsNonDecreasingBy, IsPartitionPoint, IsPermutation, IsSorted as IsInOrder}
use Rattle.std.specs.Ordering.{nat_cmp, ordering_then}
use Rattle.cert_check.specs.declared.meetings.Meeting.TheVariants as rules
use Rattle.cert_check.specs.declared.partners.Met.{Met}
use Rattle.cert_check.proofs.Pairs.{first_has, first_is, partner_has, partner_is, partner_to, parts}
use Rattle.cert_check.proofs.Search.{NoneUpTo, none_start, none_more, none_on}
use Rattle.cert_check.proofs.Twins.{twin, twin_first, twin_partner, twin_breaks, twin_not_after, alike_self, alike_has, alike_chain, first_no_reply, partner_no_reply}
use Rattle.cert_check.proofs.Violations.{Covered, covered_later, found_covers, found_is, kept_covers, kept_is, finds_least, first_of}

pair_of : (p : ℕ × ℕ) (a b : ℕ) → p.0 ≡ a → p.1 ≡ b → p ≡ (a, b)
pair_of p a b f g = ap (λ (x : ℕ). (x, p.1)) f ∙ ap (λ (y : ℕ). (a, y)) g

module _ (ends : List (ℕ × ℕ)) where
  -- ---- the places of partners

  same_label : (a b k j : ℕ) (p q : ℕ × ℕ) → (get_or ends (a + k) (0, 0)).1 ≡ (get_or ends (b + k) (0, 0)).1 → j ≡ k
      → slice_get ends (a + j) ≡ Some p → slice_get ends (b + j) ≡ Some q → p.1 ≡ q.1
  same_label a b k j p q same at here there = search (rules, get_or_from_slice_get)

  pub alike_more : (a b k : ℕ) → ((j : ℕ) (p q : ℕ × ℕ) → j < k → slice_get ends (a + j) ≡ Some p
      → slice_get ends (b + j) ≡ Some q → p.1 ≡ q.1)
      → (get_or ends (a + k) (0, 0)).1 ≡ (get_or ends (b + k) (0, 0)).1
      → (j : ℕ) (p q : ℕ × ℕ) → j < k + 1 → slice_get ends (a + j) ≡ Some p → slice_get ends (b + j) ≡ Some q → p.1 ≡ q.1
  alike_more a b k before same j p q less here there = elim (cases_lt j k) [
    | inl l ↦ before j p q l here there
    | inr ge ↦ same_label a b k j p q same (omega arith) here there
  ]

  pub met_too : (last met : Met) (n : ℕ) → IsReach ends last.edge.to last.low last.high
      → IsReach ends met.edge.to met.low met.high → last.high - last.low ≡ met.high - met.low
      → met.high - met.low ≤ n → ((j : ℕ) (p q : ℕ × ℕ) → j < n → slice_get ends (last.low + j) ≡ Some p
      → slice_get ends (met.low + j) ≡ Some q → p.1 ≡ q.1) → MeetToo ends last met
  met_too last met n was now same le alike r among =
      let at : (k : ℕ) × (slice_get ends k ≡ Some (met.edge.to, r)) = contains_at ends (met.edge.to, r) among in
      let inside : (met.low ≤ at.0) × (at.0 < met.high) = now.all at.0 (met.edge.to, r) at.1 refl in
      let low = inside.0 in
      let high = inside.1 in
      let bound = was.bound in
      let order = was.order in
      let j : ℕ = at.0 - met.low in
      let back : met.low + j ≡ at.0 = omega arith in
      let below : last.low + j < last.high = omega arith in
      let p : ℕ × ℕ = get_or ends (last.low + j) (0, 0) in
      let here : slice_get ends (last.low + j) ≡ Some p = slice_get-get_or ends (last.low + j) (0, 0) (omega arith) in
      let there : slice_get ends (met.low + j) ≡ Some (met.edge.to, r) = search (rules, slice_get) in
      let label : p.1 ≡ r = alike j p (met.edge.to, r) (omega arith) here there in
      let to : p.0 ≡ last.edge.to = was.inside (last.low + j) p (omega arith) below here in
      let pair : p ≡ (last.edge.to, r) = pair_of p last.edge.to r to label in
      at_contains ends (last.edge.to, r) (last.low + j) (here ∙ ap (λ (x : ℕ × ℕ). Some x) pair)

  pub reach_of : (to low high : ℕ) → low ≤ length ends → high ≤ length ends
      → IsPartitionPoint (λ p. nat_lt p.0 to ≡ true) (λ p. nat_lt p.0 to ≡ false) ends low
      → IsPartitionPoint (λ p. nat_le p.0 to ≡ true) (λ p. nat_le p.0 to ≡ false) ends high → IsReach ends to low high
  reach_of to low high within bound lesser most = record {
    bound = bound;
    order = elim (cases_lt high low) [
      | inl less ↦ absurd (
          let l : (get_or ends high (0, 0)).0 < to = ltb-true _ to (lesser.0 high (0, 0) (omega arith) less) in
          let g : to < (get_or ends high (0, 0)).0 = leb-false _ to (most.1 high (0, 0) (omega arith) (omega arith)) in
          omega arith)
      | inr ge ↦ ge
    ];
    inside = λ k p le less h.
        let e : get_or ends k p ≡ p = get_or_from_slice_get ends k p p h in
        let g : to ≤ p.0 = ltb-false _ to (subst (λ (q : ℕ × ℕ). nat_lt q.0 to ≡ false) e (lesser.1 k p le (omega arith))) in
        let l : p.0 ≤ to = leb-true _ to (subst (λ (q : ℕ × ℕ). nat_le q.0 to ≡ true) e (most.0 k p (omega arith) less)) in
        omega arith;
    all = λ k p h is.
        let e : get_or ends k p ≡ p = get_or_from_slice_get ends k p p h in
        let there : k < length ends = slice_get_within ends k p h in (
          elim (cases_lt k low) [
            | inl less ↦ search (rules, ltb-true, nat_lt)
            | inr ge ↦ ge
          ],
          elim (cases_lt k high) [
            | inl less ↦ less
            | inr ge ↦ search (rules, leb-false, nat_le)
          ],
        );
  }

  pub rising_of : IsInOrder (λ p q. ordering_then (nat_cmp p.0 q.0) (nat_cmp p.1 q.1)) ends → IsNonDecreasingBy (λ p. p.0) ends
  rising_of sorted = IsNonDecreasingBy-from_sort (λ (p : ℕ × ℕ). p.0) ends (λ k d low less.
      first_not_less (nat_cmp (get_or ends (k + 1) d).0 (get_or ends k d).0)
      (nat_cmp (get_or ends (k + 1) d).1 (get_or ends k d).1)
      (sorted k d low less))

module _ (rule : Meeting) (cert : List Edge) where
  -- an edge whose label is led stands behind the same edge of the label that leads it
  led_before : (i l m x : ℕ) (e : Edge) → IsSorted cert → slice_get cert i ≡ Some e → e.from ≡ l → m < l
      → has cert (edge m e.authority x) ≡ true
      → (k : ℕ) × (k < i) × (slice_get cert k ≡ Some (edge m e.authority x))
  led_before i l m x e sorted here from less there =
      let at : (k : ℕ) × (slice_get cert k ≡ Some (edge m e.authority x)) = at_has cert (edge m e.authority x) there in
      elim (cases_lt at.0 i) [
        | inl before ↦ (at.0, before, at.1)
        | inr ge ↦ absurd (let most : AtMost e (edge m e.authority x) = later_at_most cert i at.0 e (edge m e.authority x) sorted
            ge here at.1 in let le : e.from ≤ m = most.by_from in omega arith)
      ]

  -- ---- partners that are taken in

  pub partners_start : (low : ℕ) → HasPartners rule cert low low []
  partners_start low = search (rules)

  pub partners_on : (low i j : ℕ) (ends : List (ℕ × ℕ)) → HasPartners rule cert low i ends
      → AreOthers cert (partner_authority rule) i j → HasPartners rule cert low j ends
  partners_on low i j ends h others = search (rules, cases_lt)

  pub partners_past : (low k : ℕ) (d : Edge) (ends : List (ℕ × ℕ)) → HasPartners rule cert low k ends → slice_get cert k ≡ Some d
      → (d.authority ≡ partner_authority rule → IsLed rule cert d.from) → HasPartners rule cert low (k + 1) ends
  partners_past low k d ends h here led = search (rules, cases_lt)

  pub partners_more : (low k : ℕ) (d : Edge) (ends : List (ℕ × ℕ)) → HasPartners rule cert low k ends → slice_get cert k ≡ Some d
      → d.authority ≡ partner_authority rule
      → HasPartners rule cert low (k + 1) (ends ++ end_of d ∷ [])
  partners_more low k d ends h here is = record {
    each = λ j c le less there partner.
        elim (cases_lt j k) [
          | inl before ↦ elim (h.each j c le before there partner) [
            | inl held ↦ inl (Contains-append_left ends (end_of d ∷ []) (end_of c) held)
            | inr led ↦ inr led
          ]
          | inr ge ↦ let at : j ≡ k = omega arith in let same : d ≡ c = cc in
              inl (subst (λ (x : Edge). Contains (ends ++ end_of d ∷ []) (end_of x)) same (Contains-push ends (end_of d)))
        ];
    only = λ p c. elim (Contains-push_cases ends (end_of d) p c) [
      | inl old ↦ h.only p old
      | inr new ↦ search (rules, parts, has_at)
    ];
  }

  pub partners_sorted : (low k : ℕ) (ends sorted : List (ℕ × ℕ)) → IsPermutation ends sorted → HasPartners rule cert low k ends
      → HasPartners rule cert low k sorted
  partners_sorted low k ends sorted same h = record {
    each = λ j c le less there is. elim (h.each j c le less there is) [
      | inl held ↦ inl (Contains-permutation ends sorted (end_of c) same held)
      | inr led ↦ inr led
    ];
    only = λ p c. h.only p (Contains-permutation sorted ends p (IsPermutation-sym ends sorted same) c);
  }

  -- ---- the least violation over partners that were taken in one after another

  pub record Covers (next : ℕ) (best : Option Violation) : Type 0 where
    pub sound : (v : Violation) → best ≡ Some v → Breaks rule cert v
    pub covers : (v : Violation) (k : ℕ) → Breaks rule cert v → k < next → slice_get cert k ≡ Some (partner_of rule v)
        → Covered best v

  pub covers_start : Covers 0 None
  covers_start = record { sound = λ v is. absurd cc; covers = λ v k b less there. absurd (omega arith) }

  pub covers_more : (next past : ℕ) (ends : List (ℕ × ℕ)) (best found kept : Option Violation) → IsSorted cert → Covers next best
      → HasPartners rule cert next past ends
      → FindsLeast (OfPartners rule cert ends) found → LesserOf best found kept → Covers past kept
  covers_more next past ends best found kept sorted old h now lesser = record {
    sound = λ v same. elim (kept_is best found kept v lesser same) [
      | inl was ↦ old.sound v was
      | inr new ↦ (found_is (OfPartners rule cert ends) found v now new).breaks
    ];
    covers = λ v k b less there. elim (cases_lt k next) [
      | inl before ↦ kept_covers best found kept v lesser (inl (old.covers v k b before there))
      | inr ge ↦ elim (h.each k (partner_of rule v) ge less there (partner_is cert rule v b)) [
        | inl held ↦ taken v b held
        | inr led ↦ by_twin v k b led less there
      ]
    ];
  } where
    taken : (v : Violation) → Breaks rule cert v → Contains ends (end_of (partner_of rule v)) → Covered kept v
    taken v b held =
        kept_covers best found kept v lesser
        (inr (found_covers (OfPartners rule cert ends) found v now (record { breaks = b; among = held })))

    at_twin : (v : Violation) (k : ℕ) → Breaks rule cert v → k < past → slice_get cert k ≡ Some (partner_of rule v)
        → (IsLed rule cert (partner_of rule v).from → ⊥) → Covered kept v
    at_twin v k b less there leads = elim (cases_lt k next) [
      | inl before ↦ kept_covers best found kept v lesser (inl (old.covers v k b before there))
      | inr ge ↦ elim (h.each k (partner_of rule v) ge less there (partner_is cert rule v b)) [
        | inl held ↦ taken v b held
        | inr led ↦ absurd (leads led)
      ]
    ]

    by_twin : (v : Violation) (k : ℕ) → Breaks rule cert v → IsLed rule cert (partner_of rule v).from → k < past
        → slice_get cert k ≡ Some (partner_of rule v) → Covered kept v
    by_twin v k b led less there =
        let p : Edge = partner_of rule v in
        let is : p.authority ≡ partner_authority rule = partner_is cert rule v b in
        let to : p.to ≡ v.first.to = partner_to cert rule v b in
        let same : p ≡ edge p.from (partner_authority rule) v.first.to = search (rules, parts) in
        let has_p : has cert (edge p.from (partner_authority rule) v.first.to) ≡ true = search (rules, partner_has) in
        let has_q : has cert (edge led.label (partner_authority rule) v.first.to) ≡ true =
        alike_has cert rule p.from led.label (partner_authority rule) v.first.to led.alike (partner_no_reply rule) has_p in
        let has_f : has cert (edge v.first.from (first_authority rule) v.first.to) ≡ true =
        search (rules, parts, first_is, first_has) in
        let at = led_before k p.from led.label v.first.to p sorted there refl led.less
        (subst (λ a. has cert (edge led.label a v.first.to) ≡ true) (sym is) has_q) in
        let w : Violation = twin rule v v.first.from led.label v.first.to in
        let here : slice_get cert at.0 ≡ Some (partner_of rule w) = search (rules, twin_partner) in
        let breaks : Breaks rule cert w = search (rules, twin_breaks, alike_self) in
        covered_later kept w v
        (at_twin w at.0 breaks (let l = at.1 in omega arith) here (λ again. (
        let q : IsLed rule cert led.label = search (rules, twin_partner) in
        let le : led.label ≤ q.label = led.least q.label (alike_chain cert rule p.from led.label q.label led.alike q.alike) in
        let l : q.label < led.label = q.less in
        omega arith)))
        (twin_not_after cert rule v led.label b (let l : led.label < p.from = led.less in omega arith))

  pub covers_end : (next : ℕ) (best : Option Violation) → length cert ≤ next → Covers next best
      → FindsLeast (Breaks rule cert) best
  covers_end next best le c = finds_least (Breaks rule cert) best c.sound (λ v b. (
      let there : (k : ℕ) × (slice_get cert k ≡ Some (partner_of rule v)) = search (rules, at_has, partner_has, b) in
      let within : there.0 < length cert = slice_get_within cert there.0 (partner_of rule v) there.1 in
      c.covers v there.0 b (omega arith) there.1))

  module _ (ends : List (ℕ × ℕ)) where
    -- ---- the partners that meet one first edge

    pub record Taken (e : Edge) (j : ℕ) (best : Option Violation) : Type 0 where
      pub sound : (v : Violation) → best ≡ Some v → OfPartners rule cert ends v × (v.first ≡ e)
      pub covers : (v : Violation) (k : ℕ) → OfPartners rule cert ends v → v.first ≡ e → k < j
          → slice_get ends k ≡ Some (end_of (partner_of rule v)) → Covered best v

    partner_end : (v : Violation) (e : Edge) → OfPartners rule cert ends v → v.first ≡ e → (partner_of rule v).to ≡ e.to
    partner_end v e of first = partner_to cert rule v of.breaks ∙ ap (λ (x : Edge). x.to) first

    pub taken_start : (e : Edge) (low high : ℕ) → IsReach ends e.to low high → Taken e low None
    taken_start e low high reach = search (rules, partner_end)

    pub taken_more : (e other : Edge) (p : ℕ × ℕ) (j : ℕ) (best found kept : Option Violation) → Taken e j best
        → slice_get ends j ≡ Some p → other ≡ edge p.1 (partner_authority rule) p.0
        → p.0 ≡ e.to → e.authority ≡ first_authority rule → FindsLeast (With rule cert e.from other) found
        → LesserOf best found kept → Taken e (j + 1) kept
    taken_more e other p j best found kept old here is to first now lesser = record {
      sound = λ v same. elim (kept_is best found kept v lesser same) [
        | inl was ↦ old.sound v was
        | inr new ↦ found_sound v (found_is (With rule cert e.from other) found v now new)
      ];
      covers = λ v k of at less there. elim (cases_lt k j) [
        | inl before ↦ kept_covers best found kept v lesser (inl (old.covers v k of at before there))
        | inr ge ↦ kept_covers best found kept v lesser (inr (found_covers (With rule cert e.from other) found v now (record {
          breaks = of.breaks;
          from = ap (λ (x : Edge). x.from) at;
          partner = (
              let same : k ≡ j = omega arith in
              let one : p ≡ end_of (partner_of rule v) = cc in
              parts (partner_of rule v) p.1 (partner_authority rule) p.0 (ap (λ (q : ℕ × ℕ). q.1) (sym one))
              (partner_is cert rule v of.breaks) (ap (λ (q : ℕ × ℕ). q.0) (sym one)) ∙ sym is);
        })))
      ];
    } where
      found_sound : (v : Violation) → With rule cert e.from other v → OfPartners rule cert ends v × (v.first ≡ e)
      found_sound v w =
          let partner : partner_of rule v ≡ edge p.1 (partner_authority rule) p.0 = w.partner ∙ is in
          let goes : v.first.to ≡ e.to = sym (partner_to cert rule v w.breaks) ∙ ap (λ (x : Edge). x.to) partner ∙ to in (
            record {
              breaks = w.breaks;
              among = subst (λ (x : Edge). Contains ends (end_of x)) (sym partner)
                  (at_contains ends p j here);
            },
            parts v.first e.from (first_authority rule) e.to w.from (first_is cert rule v w.breaks) goes
                ∙ sym (parts e e.from (first_authority rule) e.to refl first refl),
          )

    pub taken_end : (e : Edge) (low high j : ℕ) (best : Option Violation) → IsReach ends e.to low high → high ≤ j → Taken e j best
        → FindsLeastAt (OfPartners rule cert ends) e best
    taken_end e low high j best reach le t = finds_least (λ v. OfPartners rule cert ends v × (v.first ≡ e)) best t.sound (λ v p. (
        let at = contains_at ends (end_of (partner_of rule v)) p.0.among in
        let within = reach.all at.0 (end_of (partner_of rule v)) at.1 (partner_end v e p.0 p.1) in
        t.covers v at.0 p.0 p.1 (let l = within.1 in omega arith) at.1))

    -- ---- the walk

    -- no violation is left where its twin has an earlier first edge
    twin_gone : (i k : ℕ) (v : Violation) (s e : ℕ) → AreMet rule cert ends → NoneUpTo (OfPartners rule cert ends) first_of cert i
        → OfPartners rule cert ends v
        → Alike rule cert v.first.from s → slice_get cert k ≡ Some (edge s (first_authority rule) e) → k < i
        → Contains ends (e, (partner_of rule v).from) → ⊥
    twin_gone i k v s e met before of alike here less among =
        let r : ℕ = (partner_of rule v).from in
        before.none k (twin rule v s r e) less (here ∙ ap (λ (x : Edge). Some x) (sym (twin_first rule v s r e)))
        (search (rules, twin_breaks, alike_self, has_at, twin_partner))

    -- the last first edge that was looked at
    pub record Behind (i : ℕ) (m : Met) : Type 0 where
      pub place : ℕ
      pub below : place < i
      pub there : slice_get cert place ≡ Some m.edge
      pub first : m.edge.authority ≡ first_authority rule
      pub reach : IsReach ends m.edge.to m.low m.high

    pub record Walked (i : ℕ) (last : Option Met) : Type 0 where
      pub none : NoneUpTo (OfPartners rule cert ends) first_of cert i
      pub behind : (m : Met) → last ≡ Some m → Behind i m

    pub walked_start : Walked 0 None
    walked_start = record { none = none_start (OfPartners rule cert ends) first_of cert; behind = λ m is. absurd cc }

    further : (i : ℕ) (m : Met) → Behind i m → Behind (i + 1) m
    further i m b = search (rules)

    walked_past : (i : ℕ) (e : Edge) (last : Option Met) → Walked i last → slice_get cert i ≡ Some e
        → ((v : Violation) → first_of v ≡ e → OfPartners rule cert ends v → ⊥) → Walked (i + 1) last
    walked_past i e last w here gone = search (rules, none_more, first_of, further)

    pub walked_on : (i j : ℕ) (last : Option Met) → i ≤ j → AreOthers cert (first_authority rule) i j → Walked i last
        → Walked j last
    walked_on i j last le others w = record {
      none = none_on (OfPartners rule cert ends) first_of cert (first_authority rule) i j (λ v of. first_is cert rule v of.breaks)
          others w.none;
      behind = search (rules);
    }

    pub led_past : (i : ℕ) (e : Edge) (last : Option Met) → IsSorted cert → AreMet rule cert ends → Walked i last
        → slice_get cert i ≡ Some e → e.authority ≡ first_authority rule
        → IsLed rule cert e.from → Walked (i + 1) last
    led_past i e last sorted met w here first led = walked_past i e last w here gone where
      at : (k : ℕ) × (k < i) × (slice_get cert k ≡ Some (edge led.label e.authority e.to))
      at = led_before i e.from led.label e.to e sorted here refl led.less
          (subst (λ a. has cert (edge led.label a e.to) ≡ true) (sym first)
          (alike_has cert rule e.from led.label (first_authority rule) e.to led.alike (first_no_reply rule)
          (subst (λ (x : Edge). has cert x ≡ true) (parts e e.from (first_authority rule) e.to refl first refl)
          (has_at cert i e here))))

      gone : (v : Violation) → first_of v ≡ e → OfPartners rule cert ends v → ⊥
      gone v is of = twin_gone i at.0 v led.label e.to met w.none of
          (subst (λ (l : ℕ). Alike rule cert l led.label) (ap (λ (x : Edge). x.from) (sym is)) led.alike)
          (at.2 ∙ ap (λ a. Some (edge led.label a e.to)) first) at.1
          (subst (λ (n : ℕ). Contains ends (n, (partner_of rule v).from)) (partner_end v e of is) of.among)

    alike_past : (i : ℕ) (met last : Met) → AreMet rule cert ends → Walked i (Some last) → slice_get cert i ≡ Some met.edge
        → last.edge.from ≡ met.edge.from → MeetToo ends last met
        → Walked (i + 1) (Some last)
    alike_past i met last are w here from too = walked_past i met.edge (Some last) w here gone where
      b : Behind i last
      b = w.behind last refl

      gone : (v : Violation) → first_of v ≡ met.edge → OfPartners rule cert ends v → ⊥
      gone v is of = search (rules, twin_gone, b, alike_self, parts, partner_end)

    pub like_past : (i : ℕ) (met : Met) (last : Option Met) → AreMet rule cert ends → Walked i last
        → slice_get cert i ≡ Some met.edge → GoesLike ends last met → Walked (i + 1) last
    like_past i met None are w here like = absurd like
    like_past i met (Some last) are w here like = alike_past i met last are w here like.0 like.1

    pub last_reach : (i : ℕ) (last : Option Met) → Walked i last → IfSome last (λ m. IsReach ends m.edge.to m.low m.high)
    last_reach i None w = tt
    last_reach i (Some m) w = (w.behind m refl).reach

    pub looked_past : (i : ℕ) (met : Met) (last : Option Met) → Walked i last → slice_get cert i ≡ Some met.edge
        → met.edge.authority ≡ first_authority rule → IsReach ends met.edge.to met.low met.high
        → FindsLeastAt (OfPartners rule cert ends) met.edge None → Walked (i + 1) (Some met)
    looked_past i met last w here first reach none = search (rules, none_more, first_of)

-- a label for which a lesser one may stand
pub led_by : (rule : Meeting) (cert : List Edge) (l n : ℕ) → (rule ≡ rules.Grant) ⊎ (rule ≡ rules.GrantBack)
    → IsLeastAlike cert l n → (n == l) ≡ false → IsLed rule cert l
led_by rules.Call cert l n is least other = absurd (elim is [ inl e ↦ cc | inr e ↦ cc ])
led_by rules.Grant cert l n is least other = record {
  label = n;
  less = (let le : n ≤ l = least.least l (λ a x w. refl) in
      let ne = eqb-false n l other in omega arith);
  alike = least.alike;
  least = least.least;
}
led_by rules.GrantBack cert l n is least other = record {
  label = n;
  less = (let le : n ≤ l = least.least l (λ a x w. refl) in
      let ne = eqb-false n l other in omega arith);
  alike = least.alike;
  least = least.least;
}
