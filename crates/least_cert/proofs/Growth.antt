-- How edges in the making grow.
use Rattle.least_cert.proofs.Common.{AddsAll, AddsSome, AreCopies, Bool, Closure, Copies, Edge, Flows, Gifted, Gives, GivesAll, GivesSome, Grant, Grows, Has, HasMoreThan, IsCopy, IsGift, IsLess, IsSorted, IsSound, IsTrue, Joins, Knows, List, OfLeast}
use Rattle.least_cert.proofs.Common.{Puts, PutsGift, Receive, Relabels, Some, [], ap, append_assoc, arith, at_has, cases_lt, edge, edges_same, false, filter_map, has, has_at, inl, inr, lead, leader_at, led_by, length, length-append, number_of}
use Rattle.least_cert.proofs.Common.{passed_to, refl, rules, same_edge, slice_get, slice_get_within, subst, sym, true, turn, ℕ, ◌&&◌, ◌++◌, ◌+◌, ◌<◌, ◌==◌, ◌^◌, ◌||◌, ◌↔◌, ◌∙◌, ◌∷◌, ◌≡◌, ◌≤◌, ◌⊎◌}
use Rattle.least_cert.specs.Closing.{Adds}
use Rattle.least_cert.proofs.Leading.{flows_then, knows_led, lead_other, lead_reply, lead_then, led_cases, led_from, led_to, least_led, number_other, other_number, reply_or_not}
use Rattle.least_cert.proofs.Listing.{from_mapped, has_end, has_front, has_last, has_push, put_cases, put_has, put_self, to_mapped}
use Rattle.least_cert.proofs.Passing.{passed_is, passes_on}

-- over the same spec and labels the words say the same

pub least_moves : (c new : Closure) → new.spec ≡ c.spec → new.labels ≡ c.labels → (e : Edge) → OfLeast c e → OfLeast new e
least_moves c new s l e h = rw (s, l) h

pub gift_moves : (c new : Closure) → new.spec ≡ c.spec → new.labels ≡ c.labels → (g : Edge) → IsGift c g → IsGift new g
gift_moves c new s l g h = record { grant = h.grant; flows = rw (s, l) h.flows }

-- ---- growth

append_none : (xs : List Edge) → xs ++ [] ≡ xs
append_none [] = refl
append_none (x ∷ xs) = ap (λ (ys : List Edge). x ∷ ys) (append_none xs)

pub grows_none : (c : Closure) → IsSound c → Grows c c
grows_none c sound = search (rules, append_none)

pub grows_has : (c new : Closure) → Grows c new → (e : Edge) → has c.queue e ≡ true → has new.queue e ≡ true
grows_has c new g e h = subst (λ (xs : List Edge). has xs e ≡ true) (sym g.longer) (has_front c.queue g.more e h)

pub knows_grows : (c new : Closure) → Grows c new → (e : Edge) → Knows c e → Knows new e
knows_grows c new g e h =
    subst (λ (x : Edge). has new.queue x ≡ true) (lead_then c.leaders new.leaders g.together e)
    (g.sound.carried (lead c.leaders e) (grows_has c new g (lead c.leaders e) h))

pub grows_then : (a b c : Closure) → Grows a b → Grows b c → Grows a c
grows_then a b c g h = record {
  spec_is = h.spec_is ∙ g.spec_is;
  labels_is = h.labels_is ∙ g.labels_is;
  sound = h.sound;
  more = g.more ++ h.more;
  longer = h.longer ∙ (ap (λ (xs : List Edge). xs ++ h.more) g.longer ∙ append_assoc a.queue g.more h.more);
  given = λ s r x. h.given s r (g.given s r x);
  copied = λ s r x. elim (h.copied s r x) [
    | inl y ↦ elim (g.copied s r y) [
      | inl z ↦ inl z
      | inr z ↦ inr (λ o m other there. knows_grows b c h (edge r o m) (z o m other there))
    ]
    | inr y ↦ inr (λ o m other there. y o m other (grows_has a b g (edge s o m) there))
  ];
  together = λ l.
      sym (h.together (leader_at a.leaders l)) ∙ (ap (λ (k : ℕ). leader_at c.leaders k) (g.together l) ∙ h.together l);
  led_before = λ l x. g.led_before l (h.led_before l x);
}

-- of labels with one leader
pub one_grows : (c new : Closure) → Grows c new → (l m : ℕ) → leader_at c.leaders l ≡ leader_at c.leaders m
    → leader_at new.leaders l ≡ leader_at new.leaders m
one_grows c new g l m same = sym (g.together l) ∙ (ap (λ (k : ℕ). leader_at new.leaders k) same ∙ g.together m)

pub gifted_grows : (c new : Closure) → Grows c new → (s r : ℕ) → Gifted c s r → Gifted new s r
gifted_grows c new g s r h = search (rules)

turned_back : (d e : Edge) → same_edge (turn d) (turn e) ≡ same_edge d e
turned_back d e = swap (d.to == e.to) (number_of d.authority == number_of e.authority) (d.from == e.from) where
  swap : (x y z : Bool) → (x && (y && z)) ≡ (z && (y && x))
  swap true true true = refl
  swap true true false = refl
  swap true false true = refl
  swap true false false = refl
  swap false true true = refl
  swap false true false = refl
  swap false false true = refl
  swap false false false = refl

module _ (asked edge_in : Edge) (c new : Closure) (sound : IsSound c) (is : edge_in ≡ lead c.leaders asked)
    (puts : Puts edge_in c new) (unknown : has c.known edge_in ≡ false) (of_least : OfLeast c asked) where
  least : OfLeast c edge_in
  least = subst (λ (x : Edge). OfLeast c x) (sym is) (least_led c sound asked of_least)

  put_known : (e : Edge) → has new.known e ≡ has new.queue e
  put_known e = search (rules, has_push)

  put_turned : (e : Edge) → has new.turned (turn e) ≡ has new.queue e
  put_turned e = search (rules, turned_back, has_push)

  put_cases_of : (e : Edge) → has new.queue e ≡ true → (has c.queue e ≡ true) ⊎ (edge_in ≡ e)
  put_cases_of e h = has_last c.queue edge_in e (subst (λ (xs : List Edge). has xs e ≡ true) puts.queue_is h)

  put_least : (e : Edge) → has new.queue e ≡ true → OfLeast new e
  put_least e h = search (rules, least_moves, put_cases_of, least)

  put_leads : (e : Edge) → has new.queue (lead c.leaders e) ≡ true → Knows new e
  put_leads e h = subst (λ (ls : List ℕ). has new.queue (lead ls e) ≡ true) (sym puts.leaders_is) h

  put_there : has new.queue edge_in ≡ true
  put_there = subst (λ (xs : List Edge). has xs edge_in ≡ true) (sym puts.queue_is) (has_end c.queue edge_in)

  put_carried : (e : Edge) → has new.queue e ≡ true → Knows new e
  put_carried e h = elim (put_cases_of e h) [
    | inl old ↦ put_leads e (subst (λ (xs : List Edge). has xs (lead c.leaders e) ≡ true) (sym puts.queue_is)
        (has_front c.queue (edge_in ∷ []) (lead c.leaders e) (sound.carried e old)))
    | inr same ↦ search (rules, put_leads, lead_then, put_there)
  ]

  put_length : length new.queue ≡ length new.known
  put_length = search (rules, length-append)

  -- where there are too many now
  pub put_many : IsSorted new.known → 262144 < length new.known → HasMoreThan c.spec c.labels 262144
  put_many sorted many = record {
    edges = new.known;
    sorted = sorted;
    more = many;
    each = λ l a m h.
        elim (put_cases_of (edge l a m) (sym (put_known (edge l a m)) ∙ h)) [
          | inl old ↦ sound.least (edge l a m) old
          | inr same ↦
              subst (λ (x : Edge). OfLeast c x) same least
        ];
  }

  pub put_adds : length new.known ≤ 262144 → Adds asked c new
  put_adds few = record {
    grows = record {
      spec_is = puts.spec_is;
      labels_is = puts.labels_is;
      sound = record {
        known_is = put_known;
        turned_is = put_turned;
        as_many = put_length;
        few = few;
        least = put_least;
        flows =
            λ s r h. rw (puts.spec_is, puts.labels_is)
            (sound.flows s r (subst (λ (xs : List Edge). Has xs s Grant r) puts.gives_is h));
        less = λ e h. elim (put_cases_of e h) [ inl old ↦ sound.less e old | inr same ↦ subst IsLess same puts.less ];
        gives_less = λ e h. sound.gives_less e (subst (λ (xs : List Edge). has xs e ≡ true) puts.gives_is h);
        leads = λ l. rw (puts.spec_is, puts.labels_is, puts.leaders_is) (sound.leads l);
        follows = λ l. rw (puts.spec_is, puts.labels_is, puts.leaders_is) (sound.follows l);
        flat = λ l. rw puts.leaders_is (sound.flat l);
        carried = put_carried;
        few_leaders = rw puts.leaders_is sound.few_leaders;
      };
      more = edge_in ∷ [];
      longer = puts.queue_is;
      given = λ s r h. subst (λ (xs : List Edge). Has xs s Grant r) (sym puts.gives_is) h;
      copied = λ s r h. inl (subst (λ (xs : List Edge). Has xs s Grant r) puts.gives_is h);
      together = λ l. rw puts.leaders_is (sound.flat l);
      led_before = λ l h. subst (λ (ls : List ℕ). leader_at ls l ≡ l) puts.leaders_is h;
    };
    leaders_is = puts.leaders_is;
    there = put_leads asked (subst (λ (x : Edge). has new.queue x ≡ true) is put_there);
    only = λ e h. elim (put_cases_of e h) [ inl old ↦ inl old | inr same ↦ inr (sym is ∙ same) ];
  }

pub known_adds : (asked edge_in : Edge) (c : Closure) → IsSound c → edge_in ≡ lead c.leaders asked → has c.known edge_in ≡ true
    → Adds asked c c
known_adds asked edge_in c sound is h = search (rules, grows_none)

-- ---- copies

module _ (giver taker : ℕ) (c : Closure) (sound : IsSound c) where
  pub are_copies : (edges copies : List Edge) → ((e : Edge) → has edges e ≡ true → (has c.known e ≡ true) × (e.from ≡ giver))
      → ((e : Edge) → has c.known e ≡ true → e.from ≡ giver → e.to < 2 ^ 32 → has edges e ≡ true)
      → copies ≡ filter_map (passed_to taker) edges → AreCopies c giver taker copies
  are_copies edges copies only every made = record {
    only = λ e h.
        let from = from_mapped (passed_to taker) edges e (subst (λ (xs : List Edge). has xs e ≡ true) made h) in
        let there = only from.0 from.1 in
        let x : Edge = from.0 in
        let giver_is : x ≡ edge giver x.authority x.to = edges_same x (edge giver x.authority x.to) there.1 refl refl in
        let was : has c.queue (edge giver x.authority x.to) ≡ true = search (rules) in
        let passes = passed_is taker x e from.2 in
        subst (λ (y : Edge). IsCopy c giver taker y) passes.1 (record { other = passes.0; from_is = refl; known = was });
    every = search (rules, edges_same, to_mapped, passes_on);
  }

  pub copy_least : Flows c.spec c.labels giver taker → (e : Edge) → IsCopy c giver taker e → OfLeast c e
  copy_least flows e copy =
      subst (λ (y : Edge). OfLeast c y) (edges_same (edge taker e.authority e.to) e (sym copy.from_is) refl refl)
      (flows e.authority e.to copy.other (sound.least (edge giver e.authority e.to) copy.known))

  pub copies_made : (copies : List Edge) (new : Closure) → AreCopies c giver taker copies → AddsAll copies c new
      → Copies giver taker c new
  copies_made copies new are adds = record {
    grows = adds.grows;
    leaders_is = adds.leaders_is;
    copied = λ a x other h. elim (adds.only (edge giver a x) h) [
      | inl old ↦ adds.there (edge taker a x) (are.every (edge taker a x) (record { other = other; from_is = refl; known = old }))
      | inr made ↦ (
          let d : Edge = made.0 in
          let copy = are.only d made.1 in
          let led : edge (leader_at c.leaders d.from) d.authority d.to ≡ edge giver a x =
          sym (lead_other c.leaders d (other_number d.authority copy.other)) ∙ made.2 in
          let is : d ≡ edge taker a x = search (rules, edges_same) in
          subst (λ (y : Edge). Knows new y) is (adds.there d made.1)
          )
    ];
  }

-- ---- gifts

module _ (giver taker : ℕ) (c mid new : Closure) (copies : Copies giver taker c mid) (puts : PutsGift (edge giver Grant taker) mid
    new) (less : IsLess (edge giver Grant taker)) (flows : Flows c.spec c.labels giver taker) where
  gives_cases : (e : Edge) → has new.gives e ≡ true → (has mid.gives e ≡ true) ⊎ (edge giver Grant taker ≡ e)
  gives_cases e h = put_cases (has mid.gives e) (edge giver Grant taker) e (sym (puts.gives_is e) ∙ h)

  kept_gives : (s r : ℕ) → Has mid.gives s Grant r → Has new.gives s Grant r
  kept_gives s r h = puts.gives_is (edge s Grant r) ∙ put_has (has mid.gives (edge s Grant r)) (edge giver Grant taker)
      (edge s Grant r) h

  gift_there : Has new.gives giver Grant taker
  gift_there = puts.gives_is (edge giver Grant taker) ∙ put_self (has mid.gives (edge giver Grant taker)) (edge giver Grant taker)

  gift_flows : Flows mid.spec mid.labels giver taker
  gift_flows = rw (copies.grows.spec_is, copies.grows.labels_is) flows

  base_sound : IsSound (record mid { gives = new.gives })
  base_sound =
      let s : IsSound mid = copies.grows.sound in
      record {
        known_is = s.known_is;
        turned_is = s.turned_is;
        as_many = s.as_many;
        few = s.few;
        least = s.least;
        flows = λ g r h. elim (gives_cases (edge g Grant r) h) [
          | inl old ↦ s.flows g r old
          | inr same ↦ subst (λ (x : Edge). Flows mid.spec mid.labels x.from x.to) same gift_flows
        ];
        less = s.less;
        gives_less = λ e h. elim (gives_cases e h) [ inl old ↦ s.gives_less e old | inr same ↦ subst IsLess same less ];
        leads = s.leads;
        follows = s.follows;
        flat = s.flat;
        carried = s.carried;
        few_leaders = s.few_leaders;
      }

  pub gift_given : Gives giver taker c new
  gift_given =
      let is : Gives giver taker c (record mid { gives = new.gives }) = record {
        grows = record {
          spec_is = copies.grows.spec_is;
          labels_is = copies.grows.labels_is;
          sound = base_sound;
          more = copies.grows.more;
          longer = copies.grows.longer;
          given = λ s r h. kept_gives s r (copies.grows.given s r h);
          copied = λ s r h. elim (gives_cases (edge s Grant r) h) [
            | inl old ↦ copies.grows.copied s r old
            | inr same ↦ inr (λ a m other before.
                let known : Knows mid (edge taker a m) =
                copies.copied a m other (grows_has c mid copies.grows (edge giver a m)
                (subst (λ (l : ℕ). Has c.queue l a m) (sym (ap (λ (x : Edge). x.from) same)) before)) in
                subst (λ (l : ℕ). Knows mid (edge l a m)) (ap (λ (x : Edge). x.to) same) known)
          ];
          together = copies.grows.together;
          led_before = copies.grows.led_before;
        };
        given = λ to_s to_r. inr (taker, gift_there, to_r);
      } in
      subst (λ (x : Closure). Gives giver taker c x) (sym puts.is) is

pub gives_same : (s r : ℕ) (c : Closure) → IsSound c → s ≡ r → Gives s r c c
gives_same s r c sound same = record { grows = grows_none c sound; given = λ to_s to_r. inl same }

pub gives_known : (s r : ℕ) (c : Closure) → IsSound c → Has c.gives s Grant r → Gives s r c c
gives_known s r c sound h = record { grows = grows_none c sound; given = λ to_s to_r. inr (r, h, to_r) }

pub gives_joined : (s r : ℕ) (c new : Closure) → Joins s r c new → Gives s r c new
gives_joined s r c new j = record { grows = j.grows; given = λ to_s to_r. inl (sym to_s ∙ (j.one ∙ to_r)) }

-- what leaders give, their labels do
pub gives_led : (s r : ℕ) (c new : Closure) → Gives (leader_at c.leaders s) (leader_at c.leaders r) c new → Gives s r c new
gives_led s r c new g = search (rules)

-- ---- labels that one leader leads

pub joins_led : (a b : ℕ) (c new : Closure) → Joins (leader_at c.leaders a) (leader_at c.leaders b) c new → Joins a b c new
joins_led a b c new j = record { grows = j.grows; one = sym (j.grows.together a) ∙ (j.one ∙ j.grows.together b) }

pub joins_turned : (a b : ℕ) (c new : Closure) → Joins b a c new → Joins a b c new
joins_turned a b c new j = record { grows = j.grows; one = sym j.one }

pub joins_same : (a b : ℕ) (c : Closure) → IsSound c → a ≡ b → Joins a b c c
joins_same a b c sound same = record { grows = grows_none c sound; one = ap (λ (l : ℕ). leader_at c.leaders l) same }

module _ (to from : ℕ) (c mid new : Closure) (copies : Copies from to c mid) (relabels : Relabels to from mid new)
    (there : Flows c.spec c.labels to from) (back : Flows c.spec c.labels from to)
    (first : leader_at c.leaders to ≡ to) (second : leader_at c.leaders from ≡ from) where
  mid_sound : IsSound mid
  mid_sound = copies.grows.sound

  first_is : leader_at mid.leaders to ≡ to
  first_is = ap (λ (ls : List ℕ). leader_at ls to) copies.leaders_is ∙ first

  second_is : leader_at mid.leaders from ≡ from
  second_is = ap (λ (ls : List ℕ). leader_at ls from) copies.leaders_is ∙ second

  -- the leader is as before, or the other one took its place
  new_cases : (l : ℕ) → (leader_at new.leaders l ≡ leader_at mid.leaders l)
      ⊎ ((leader_at mid.leaders l ≡ from) × (leader_at new.leaders l ≡ to))
  new_cases l = search (rules, led_cases)

  to_is : leader_at new.leaders to ≡ to
  to_is = relabels.leaders_are.led to ∙ (ap (led_by from to) first_is ∙ led_to from to)

  from_is : leader_at new.leaders from ≡ to
  from_is = relabels.leaders_are.led from ∙ (ap (led_by from to) second_is ∙ led_from from to)

  new_together : (l : ℕ) → leader_at new.leaders (leader_at mid.leaders l) ≡ leader_at new.leaders l
  new_together l = relabels.leaders_are.led (leader_at mid.leaders l)
      ∙ (ap (led_by from to) (mid_sound.flat l) ∙ sym (relabels.leaders_are.led l))

  new_flat : (l : ℕ) → leader_at new.leaders (leader_at new.leaders l) ≡ leader_at new.leaders l
  new_flat l = search (rules, new_cases, new_together, to_is)

  new_before : (l : ℕ) → leader_at new.leaders l ≡ l → leader_at mid.leaders l ≡ l
  new_before l h = search (rules, new_cases, first_is)

  to_flows : Flows mid.spec mid.labels to from
  to_flows = rw (copies.grows.spec_is, copies.grows.labels_is) there

  from_flows : Flows mid.spec mid.labels from to
  from_flows = rw (copies.grows.spec_is, copies.grows.labels_is) back

  new_carried : (e : Edge) → has mid.queue e ≡ true → has mid.queue (lead new.leaders e) ≡ true
  new_carried e h = search (rules, reply_or_not, lead_reply, lead_other, mid_sound, new_cases, first_is, knows_led, number_other)

  base_grows : Grows mid (record mid { leaders = new.leaders })
  base_grows = record {
    spec_is = refl;
    labels_is = refl;
    sound = record {
      known_is = mid_sound.known_is;
      turned_is = mid_sound.turned_is;
      as_many = mid_sound.as_many;
      few = mid_sound.few;
      least = mid_sound.least;
      flows = mid_sound.flows;
      less = mid_sound.less;
      gives_less = mid_sound.gives_less;
      leads = λ l. elim (new_cases l) [
        | inl same ↦ subst (λ (k : ℕ). Flows mid.spec mid.labels l k) (sym same) (mid_sound.leads l)
        | inr led ↦ subst (λ (k : ℕ). Flows mid.spec mid.labels l k) (sym led.1)
            (flows_then mid l from to (subst (λ (k : ℕ). Flows mid.spec mid.labels l k) led.0 (mid_sound.leads l)) from_flows)
      ];
      follows = λ l. elim (new_cases l) [
        | inl same ↦ subst (λ (k : ℕ). Flows mid.spec mid.labels k l) (sym same) (mid_sound.follows l)
        | inr led ↦ subst (λ (k : ℕ). Flows mid.spec mid.labels k l) (sym led.1)
            (flows_then mid to from l to_flows (subst (λ (k : ℕ). Flows mid.spec mid.labels k l) led.0 (mid_sound.follows l)))
      ];
      flat = new_flat;
      carried = new_carried;
      few_leaders = relabels.leaders_are.few;
    };
    more = [];
    longer = sym (append_none mid.queue);
    given = λ s r h. h;
    copied = λ s r h. inl h;
    together = new_together;
    led_before = new_before;
  }

  pub merged : Joins to from c new
  merged = search (rules, grows_then, base_grows, to_is, from_is)

-- ---- edges of a list, one after the other

abbrev pub no_edge : Edge
no_edge = record { from = 0; authority = Receive; to = 0 }

pub adds_none : (edges : List Edge) (c : Closure) → IsSound c → AddsSome edges 0 c c
adds_none edges c sound = search (rules, grows_none)

pub adds_more : (edges : List Edge) (n : ℕ) (e : Edge) (c mid new : Closure) → slice_get edges n ≡ Some e → AddsSome edges n c mid
    → Adds e mid new → AddsSome edges (n + 1) c new
adds_more edges n e c mid new here before adds = record {
  grows = grows_then c mid new before.grows adds.grows;
  leaders_is = adds.leaders_is ∙ before.leaders_is;
  there = λ k d less at. elim (cases_lt k n) [
    | inl below ↦ knows_grows mid new adds.grows d (before.there k d below at)
    | inr ge ↦ (let same : k ≡ n = omega arith in let is : e ≡ d = let g : slice_get edges n ≡ Some d = subst
        (λ (i : ℕ). slice_get edges i ≡ Some d) same at in cc in subst (λ (x : Edge). Knows new x) is adds.there)
  ];
  only = λ d h. elim (adds.only d h) [
    | inl old ↦ before.only d old
    | inr same ↦ inr (e, has_at edges n e here, subst (λ (ls : List ℕ). lead ls e ≡ d) before.leaders_is same)
  ];
}

pub adds_all : (edges : List Edge) (n : ℕ) (c new : Closure) → length edges ≤ n → AddsSome edges n c new → AddsAll edges c new
adds_all edges n c new le some = record {
  grows = some.grows;
  leaders_is = some.leaders_is;
  only = some.only;
  there = λ e h.
      let at = at_has edges e h in
      some.there at.0 e (let less : at.0 < length edges = slice_get_within edges at.0 e at.1 in omega arith) at.1;
}

pub gives_none : (gifts : List Edge) (c : Closure) → IsSound c → GivesSome gifts 0 c c
gives_none gifts c sound = record { grows = grows_none c sound; given = λ k e less at. absurd (omega arith) }

pub gives_more : (gifts : List Edge) (n : ℕ) (g : Edge) (c mid new : Closure) → slice_get gifts n ≡ Some g
    → GivesSome gifts n c mid → Gives g.from g.to mid new → GivesSome gifts (n + 1) c new
gives_more gifts n g c mid new here before gives = record {
  grows = grows_then c mid new before.grows gives.grows;
  given = λ k d less at. elim (cases_lt k n) [
    | inl below ↦ gifted_grows mid new gives.grows d.from d.to (before.given k d below at)
    | inr ge ↦ (let same : k ≡ n = omega arith in let is : g ≡ d = let h : slice_get gifts n ≡ Some d = subst
        (λ (i : ℕ). slice_get gifts i ≡ Some d) same at in cc in subst (λ (x : Edge). Gifted new x.from x.to) is gives.given)
  ];
}

pub gives_all : (gifts : List Edge) (n : ℕ) (c new : Closure) → length gifts ≤ n → GivesSome gifts n c new → GivesAll gifts c new
gives_all gifts n c new le some = search (rules, at_has, slice_get_within)

-- what a test that fails says
pub not_over : (test : Bool) (n : ℕ) → IsTrue test ↔ (262144 < n) → test ≡ false → n ≤ 262144
not_over test n over no_it = search (rules, cases_lt)
