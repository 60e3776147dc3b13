-- A set of edges in order: a list that is sorted, and what lies between two edges.
use Rattle.cap_model.proofs.Common.{AsyncSend, AtMost, Authority, Bool, Call, Control, Edge, Equal, Grant, GrantBack, Greater, Handle, IsBetween, IsSorted, IsStrictlySortedBy, IsStrictlySortedBy-filter, Less, List, Read, Receive, Reply, Reset}
use Rattle.cap_model.proofs.Common.{SyncSend, Write, and_parts, ap, arith, edge, false, filter, has, is_gt, is_le, is_lt, not, number_of, refl, rules, same_edge, subst, sym, true, ℕ, ◌&&◌, ◌<◌, ◌^◌, ◌↔◌, ◌∙◌, ◌≡◌, ◌≤◌}
use Rattle.std.proofs.lemmas.Map.Views.{any-filter_same}
use Rattle.std.specs.declared.cmp.Ordering.{Ordering}
use Rattle.cap_model.specs.contracts.edge.EdgeOrd.TheImpl.{ghosts as ordered}
use Rattle.cap_model.proofs.EdgeCompare.{cmp-after, cmp-before, cmp-same}
use Rattle.cap_model.proofs.EdgeOrder.{at_most_before, at_most_self, before_at_most, same_edge_true, same_number, not_before_self}
use Rattle.cap_model.proofs.TableSorting.{sorted_by_place}

-- ---- the comparison, by its answer

at_most_by : (d e : Edge) (o : Ordering) → ordered.cmp d e ≡ o → is_le o ≡ true → AtMost d e
at_most_by d e Less is h = before_at_most d e (cmp-before d e is)
at_most_by d e Equal is h = subst (λ (x : Edge). AtMost d x) (cmp-same d e is) (at_most_self d)
at_most_by d e Greater is h = absurd cc

pub at_most_compared : (d e : Edge) → is_le (ordered.cmp d e) ≡ true → AtMost d e
at_most_compared d e h = at_most_by d e (ordered.cmp d e) refl h

le_by : (d e : Edge) (o : Ordering) → ordered.cmp d e ≡ o → AtMost d e → is_le o ≡ true
le_by d e Less is h = refl
le_by d e Equal is h = refl
le_by d e Greater is h = absurd (not_before_self d (at_most_before d e d h (cmp-after d e is)))

pub compared_at_most : (d e : Edge) → AtMost d e → is_le (ordered.cmp d e) ≡ true
compared_at_most d e h = le_by d e (ordered.cmp d e) refl h

not_gt : (o : Ordering) → is_le o ≡ true → is_gt o ≡ false
not_gt Less h = refl
not_gt Equal h = refl
not_gt Greater h = absurd cc

pub forward : (d e : Edge) → AtMost d e → is_gt (ordered.cmp d e) ≡ false
forward d e h = not_gt (ordered.cmp d e) (compared_at_most d e h)

below_by : (last e : Edge) (o : Ordering) → ordered.cmp last e ≡ o → not (is_lt o) ≡ true → AtMost e last
below_by last e Less is h = absurd cc
below_by last e Equal is h = subst (λ (x : Edge). AtMost x last) (cmp-same last e is) (at_most_self last)
below_by last e Greater is h = before_at_most e last (cmp-after last e is)

not_past_by : (last e : Edge) (o : Ordering) → ordered.cmp last e ≡ o → AtMost e last → not (is_lt o) ≡ true
not_past_by last e Less is h = absurd (not_before_self e (at_most_before e last e h (cmp-before last e is)))
not_past_by last e Equal is h = refl
not_past_by last e Greater is h = refl

-- ---- what lies between two edges

abbrev pub lies_between : Edge → Edge → Edge → Bool
lies_between first last e = is_le (ordered.cmp first e) && not (is_lt (ordered.cmp last e))

and_true : (a b : Bool) → a ≡ true → b ≡ true → a && b ≡ true
and_true true true p q = refl
and_true true false p q = q
and_true false b p q = p

module _ (edges : List Edge) (first last e : Edge) where
  has_filtered : has (filter (lies_between first last) edges) e ≡ (lies_between first last e && has edges e)
  has_filtered = any-filter_same (λ d. same_edge d e) (lies_between first last) (lies_between first last e)
      (λ d same. ap (lies_between first last) (same_edge_true d e same)) edges

  pub between_is : (has (filter (lies_between first last) edges) e ≡ true) ↔ IsBetween edges first last e
  between_is = (
    λ h.
        let both = and_parts (lies_between first last e) (has edges e) (sym has_filtered ∙ h) in
        let ends = and_parts (is_le (ordered.cmp first e)) (not (is_lt (ordered.cmp last e))) both.0 in
        record {
          there = both.1;
          above = at_most_compared first e ends.0;
          below = below_by last e (ordered.cmp last e) refl ends.1;
        },
    λ b.
        has_filtered ∙ and_true (lies_between first last e) (has edges e)
        (and_true (is_le (ordered.cmp first e)) (not (is_lt (ordered.cmp last e))) (compared_at_most first e b.above)
        (not_past_by last e (ordered.cmp last e) refl b.below)) b.there,
  )

pub between_sorted : (first last : Edge) (edges : List Edge) → IsStrictlySortedBy ordered.cmp edges
    → IsSorted (filter (lies_between first last) edges)
between_sorted first last edges s = sorted_by_place (filter (lies_between first last) edges)
    (IsStrictlySortedBy-filter ordered.cmp (lies_between first last) edges s)

-- ---- out of a label

last_authority : (a : Authority) → number_of a ≤ number_of Handle
last_authority Receive = omega arith
last_authority SyncSend = omega arith
last_authority AsyncSend = omega arith
last_authority Reset = omega arith
last_authority Grant = omega arith
last_authority Read = omega arith
last_authority Write = omega arith
last_authority Control = omega arith
last_authority Call = omega arith
last_authority Reply = omega arith
last_authority GrantBack = omega arith
last_authority Handle = omega arith

pub all_forward : (label : ℕ) → AtMost (edge label Receive 0) (edge label Handle 4294967295)
all_forward label = record { by_from = omega arith; by_authority = λ f. last_authority Receive; by_to = λ f g. omega arith }

module _ (label : ℕ) (e : Edge) where
  pub out_label : AtMost (edge label Receive 0) e → AtMost e (edge label Handle 4294967295) → e.from ≡ label
  out_label p q = let a : label ≤ e.from = p.by_from in let b : e.from ≤ label = q.by_from in omega arith

  pub label_out : e.from ≡ label → e.to < 2 ^ 32 → AtMost (edge label Receive 0) e × AtMost e (edge label Handle 4294967295)
  label_out is less = search (rules, last_authority)

module _ (label : ℕ) (a : Authority) where
  pub with_forward : AtMost (edge label a 0) (edge label a 4294967295)
  with_forward = record { by_from = omega arith; by_authority = λ f. omega arith; by_to = λ f g. omega arith }

  pub with_label : (e : Edge) → AtMost (edge label a 0) e → AtMost e (edge label a 4294967295)
      → (e.from ≡ label) × (e.authority ≡ a)
  with_label e p q = grind (arith, same_number)

  pub label_with : (m : ℕ) → m < 2 ^ 32 → AtMost (edge label a 0) (edge label a m)
      × AtMost (edge label a m) (edge label a 4294967295)
  label_with m less = search (rules)
