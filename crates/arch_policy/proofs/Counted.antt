-- A table that has the listed edges has as many as there are different ones.
use Rattle.arch_policy.proofs.Common.{Adds, Bool, Edge, IsBound, IsIn, IsPolicyOf, IsSorted, List, Tables, [], ap, arith, bound_edges, cases_lt, edge_count, filter, has, in_append, in_left, in_right, inl, inr, length, refl}
use Rattle.arch_policy.proofs.Common.{rules, sym, triples, true, true≢false, ◌++◌, ◌<◌, ◌∙◌, ◌∷◌, ◌≡◌}
use Rattle.std.specs.Cmp.Derive.{one_truth}
use Rattle.cap_model.proofs.EdgeLists.{distinct, member_has, same_laws}
use Rattle.std.proofs.lemmas.Map.Made.{length-from_keys}
use Rattle.arch_policy.proofs.Listed.{from_bound, in_bound, triples_are_policy}
use Rattle.arch_policy.proofs.Lists.{from_filter, has_in, in_filter, in_has}

pub table_counts : (t : Tables) (table : List Edge) → IsSorted table → ((e : Edge) → has table e ≡ has (triples t) e)
    → length table ≡ edge_count t
table_counts t table s same = length-from_keys same_laws table (triples t) (distinct table s) (λ q. member_has table q ∙ same q
    ∙ sym (member_has (triples t) q))

pub table_is_policy : (t : Tables) (table : List Edge) → ((e : Edge) → has table e ≡ has (triples t) e) → IsPolicyOf t table
table_is_policy t table same e = (λ h. (triples_are_policy t e).0 (sym (same e) ∙ h), λ r. same e ∙ (triples_are_policy t e).1 r)

-- ---- what is put together

swapped : (xs ys : List Edge) → ((e : Edge) → has xs e ≡ has ys e) → (e : Edge) → IsIn e xs → IsIn e ys
swapped xs ys same e i = has_in e ys (sym (same e) ∙ in_has e xs i)

same_bound : (xs ys us vs : List Edge) → ((e : Edge) → has xs e ≡ has ys e) → ((e : Edge) → has us e ≡ has vs e) → (e : Edge)
    → IsBound xs us e → IsBound ys vs e
same_bound xs ys us vs h s e x = search (rules, swapped)

-- by tables hs and ss that have the edges of two lists
module _ (direct reply handles signals hs ss before edges : List Edge) (h : (e : Edge) → has hs e ≡ has handles e) (s : (e : Edge)
    → has ss e ≡ has signals e)
    (is : before ≡ direct ++ reply) (grown : Adds (IsBound hs ss) before edges) where
  abbrev all : List Edge
  all = direct ++ (reply ++ bound_edges handles signals)

  old_in : (e : Edge) → IsIn e (direct ++ reply) → IsIn e all
  old_in e i = elim (in_append e direct reply i) [
    | inl j ↦ in_left e direct (reply ++ bound_edges handles signals) j
    | inr j ↦ in_right e direct (reply ++ bound_edges handles signals) (in_left e reply (bound_edges handles signals) j)
  ]

  bound_in : (e : Edge) → IsBound hs ss e → IsIn e all
  bound_in e x = in_right e direct (reply ++ bound_edges handles signals) (in_right e reply (bound_edges handles signals)
      (in_bound handles signals e (same_bound hs handles ss signals h s e x)))

  collected_in : (e : Edge) → has edges e ≡ true → has all e ≡ true
  collected_in e k = search (rules, in_has, old_in, has_in, bound_in)

  old_has : (e : Edge) → IsIn e (direct ++ reply) → has edges e ≡ true
  old_has e i = grown.kept e (ap (λ z. has z e) is ∙ in_has e (direct ++ reply) i)

  all_has : (e : Edge) → has all e ≡ true → has edges e ≡ true
  all_has e k = elim (in_append e direct (reply ++ bound_edges handles signals) (has_in e all k)) [
    | inl j ↦ old_has e (in_left e direct reply j)
    | inr i ↦ elim (in_append e reply (bound_edges handles signals) i) [
      | inl j ↦ old_has e (in_right e direct reply j)
      | inr j ↦ grown.added e (same_bound handles hs signals ss (λ d. sym (h d)) (λ d. sym (s d)) e
          (from_bound handles signals e j))
    ]
  ]

  pub collected : (e : Edge) → has edges e ≡ has all e
  collected e = one_truth (has edges e) (has all e) (collected_in e) (all_has e)

none_handled : (hs handles : List Edge) → ((e : Edge) → has hs e ≡ has handles e) → length hs ≡ 0 → handles ≡ []
none_handled [] [] h e = refl
none_handled [] (d ∷ ds) h e = absurd (true≢false (sym (in_has d (d ∷ ds) (inl refl)) ∙ sym (h d)))
none_handled (d ∷ ds) handles h e = absurd (omega arith)

-- the signals are asked for only where something is handled
pub collected_few : (direct reply handles signals hs ss before edges : List Edge) → ((e : Edge) → has hs e ≡ has handles e)
    → (0 < length hs → (e : Edge) → has ss e ≡ has signals e) → before ≡ direct ++ reply → Adds (IsBound hs ss) before edges
    → (e : Edge) → has edges e ≡ has (direct ++ (reply ++ bound_edges handles signals)) e
collected_few direct reply handles signals hs ss before edges h s is grown e = elim (cases_lt 0 (length hs)) [
  | inl some ↦ collected direct reply handles signals hs ss before edges h (s some) is grown e
  | inr none ↦
      let nothing : handles ≡ [] = none_handled hs handles h (omega (arith, none)) in
      collected direct reply handles ss hs ss before edges h (λ d. refl) is grown e
      ∙ ap (λ z. has (direct ++ (reply ++ bound_edges z ss)) e) nothing
      ∙ sym (ap (λ z. has (direct ++ (reply ++ bound_edges z signals)) e) nothing)
]

pub has_filter : (xs ys : List Edge) (p : Edge → Bool) → ((e : Edge) → has xs e ≡ has ys e) → (e : Edge)
    → has (filter p xs) e ≡ has (filter p ys) e
has_filter xs ys p same e = search (rules, from_filter, has_in, in_has, in_filter, swapped)
