-- What a table of ends says after one end more, and what it says of clashes.
use Rattle.adl_flatten.proofs.Common.{Bool, Decides, JoinedEnd, List, None, Option, Some, [], ap, arith, common_steps, comparing, cond, count_by, false, is_at, is_some, joins, joins_apart, list_any, nat_le, nat_tests, refl, rules, same_key, seen_at, sym, tally, true, true≢false, unwrap_or, ℕ, ◌&&◌, ◌++◌, ◌+◌, ◌==◌, ◌||◌, ◌∙◌, ◌∷◌, ◌≡◌, ◌≤◌}
use Rattle.std.proofs.lemmas.List.Sums.{sum_by-le-sum_by, sum_by_push}
use Rattle.adl_meaning.specs.UsedTwice.{clashes}
use Rattle.adl_flatten.specs.TemplateJoins.{AreSeen, is_apart}
use Rattle.adl_flatten.specs.declared.end_counts.EndKey.{EndKey}

pub same_key-Decides : (k l : EndKey) → Decides (same_key k l) (k ≡ l)
same_key-Decides k l = search (comparing, rules)

-- ---- counts

count_last : {X : Type 0} (f : X → Bool) (xs : List X) (x : X) (b : Bool) → f x ≡ b
    → count_by f (xs ++ x ∷ []) ≡ count_by f xs + cond b 1 0
count_last f xs x b e = sum_by_push (λ x. cond (f x) 1 0) xs x ∙ ap (λ b. count_by f xs + cond b 1 0) e

none_counted : {X : Type 0} (xs : List X) → count_by (λ (x : X). false) xs ≡ 0
none_counted [] = refl
none_counted (x ∷ xs) = none_counted xs

-- ---- what the table says of so many

tally_more : (n : ℕ) → Some (is_some (tally n)) ≡ tally (n + 1)
tally_more n = grind (arith, nat_tests)

tally_none : (n : ℕ) → is_some (tally n) ≡ false → n ≡ 0
tally_none n e = grind (arith, nat_tests)

pub tally_some : (n : ℕ) → is_some (tally n) ≡ nat_le 1 n
tally_some n = grind (arith, nat_tests)

pub tally_several : (n : ℕ) → unwrap_or (tally n) false ≡ nat_le 2 n
tally_several n = grind (arith, nat_tests)

-- ---- one end more, where f says which end counts at which key, and so many were counted before

module _ (f : EndKey → JoinedEnd → Bool) (before : EndKey → ℕ) (old : EndKey → Option Bool) (key : EndKey) (es : List JoinedEnd)
    (e : JoinedEnd) (same : (k : EndKey) → f k e ≡ same_key key k)
    (was : (k : EndKey) → old k ≡ tally (before k + count_by (f k) es)) where
  pub one_more : (new : EndKey → Option Bool) → ((k : EndKey) → new k ≡ cond (same_key key k) (Some (is_some (old key))) (old k))
      → (k : EndKey) → new k ≡ tally (before k + count_by (f k) (es ++ e ∷ []))
  one_more new put k = put k ∙ by_test (same_key key k) refl
    where
      by_test : (b : Bool) → same_key key k ≡ b
          → cond b (Some (is_some (old key))) (old k) ≡ tally (before k + count_by (f k) (es ++ e ∷ []))
      by_test true t =
          let n = count_by (f k) es in
          let more : (before k + n) + 1 ≡ before k + count_by (f k) (es ++ e ∷ []) =
          omega (arith, count_last (f k) es e true (same k ∙ t)) in
          ap (λ o. Some (is_some o)) (ap old ((same_key-Decides key k).0 t) ∙ was k) ∙ tally_more (before k + n) ∙ ap tally more
      by_test false t =
          let more : before k + count_by (f k) es ≡ before k + count_by (f k) (es ++ e ∷ []) =
          omega (arith, count_last (f k) es e false (same k ∙ t)) in
          was k ∙ ap tally more

  -- a key that had none has one then
  pub once_more : is_some (old key) ≡ false → ((k : EndKey) → count_by (f k) es ≤ 1) → (k : EndKey)
      → count_by (f k) (es ++ e ∷ []) ≤ 1
  once_more none few k = by_test (same_key key k) refl
    where
      by_test : (b : Bool) → same_key key k ≡ b → count_by (f k) (es ++ e ∷ []) ≤ 1
      by_test true t =
          let no : before k + count_by (f k) es ≡ 0 = tally_none (before k + count_by (f k) es)
          (ap is_some (sym (ap old ((same_key-Decides key k).0 t) ∙ was k)) ∙ none) in
          omega (arith, no, count_last (f k) es e true (same k ∙ t))
      by_test false t = omega (arith, few k, count_last (f k) es e false (same k ∙ t))

-- ---- clashes

and_true : (a : Bool) → a ≡ (a && true)
and_true true = refl
and_true false = refl

turned : (a b : Bool) → (a && b) ≡ (b && a)
turned a b = grind (arith, nat_tests)

module _ (e : JoinedEnd) (es : List JoinedEnd) where
  pub clash_once : e.once ≡ true → count_by (is_at e.end.leaf e.end.member) es ≡ count_by (clashes e) es
  clash_once o =
      ap (λ (p : JoinedEnd → Bool). count_by p es)
      (λ i f. (and_true (is_at e.end.leaf e.end.member f) ∙ ap (λ b. is_at e.end.leaf e.end.member f
      && (b || f.connection == e.connection)) (sym o)) i)

  pub clash_apart : e.once ≡ false → count_by (is_apart e.connection e.end.leaf e.end.member) es ≡ count_by (clashes e) es
  clash_apart o =
      ap (λ (p : JoinedEnd → Bool). count_by p es)
      (λ i f. (turned (f.connection == e.connection) (is_at e.end.leaf e.end.member f) ∙ ap (λ b. is_at e.end.leaf e.end.member f
      && (b || f.connection == e.connection)) (sym o)) i)

pub clash_few : (e : JoinedEnd) (es : List JoinedEnd) → count_by (clashes e) es ≤ count_by (is_at e.end.leaf e.end.member) es
clash_few e es =
    sum_by-le-sum_by (λ f. cond (clashes e f) 1 0) (λ f. cond (is_at e.end.leaf e.end.member f) 1 0) es
    (λ f. at_most (is_at e.end.leaf e.end.member f) (e.once || f.connection == e.connection))
  where
    at_most : (a b : Bool) → cond (a && b) 1 0 ≤ cond a 1 0
    at_most true true = omega arith
    at_most true false = omega arith
    at_most false b = omega arith

module _ (seen : List (EndKey × Bool)) (several : Bool) (es : List JoinedEnd) (is : AreSeen seen several es) (e : JoinedEnd) where
  pub alone : several ≡ false → false ≡ nat_le 2 (count_by (clashes e) es)
  alone one = let few = is.once one e.end.leaf e.end.member in grind (arith, nat_tests, clash_few e es)

  pub several_once : e.once ≡ true
      → unwrap_or (seen_at seen (record { connection = None; leaf = e.end.leaf; member = e.end.member })) false ≡ nat_le 2
      (count_by (clashes e) es)
  several_once o =
      ap (λ t. unwrap_or t false) (is.all e.end.leaf e.end.member) ∙ tally_several (count_by (is_at e.end.leaf e.end.member) es)
      ∙ ap (nat_le 2) (clash_once e es o)

  pub several_apart : several ≡ true → e.once ≡ false
      → unwrap_or (seen_at seen (record { connection = Some e.connection; leaf = e.end.leaf; member = e.end.member }))
      false ≡ nat_le 2 (count_by (clashes e) es)
  several_apart more o =
      ap (λ t. unwrap_or t false) (is.apart more e.connection e.end.leaf e.end.member)
      ∙ tally_several (count_by (is_apart e.connection e.end.leaf e.end.member) es) ∙ ap (nat_le 2) (clash_apart e es o)

-- ---- whole tables

pub once_seen : (seen : List (EndKey × Bool)) (es : List JoinedEnd)
    → ((k : EndKey) → seen_at seen k ≡ tally (count_by (joins k) es)) → ((k : EndKey) → count_by (joins k) es ≤ 1)
    → AreSeen seen false es
once_seen seen es is few = record {
  all = λ leaf member. is (record { connection = None; leaf = leaf; member = member });
  once = λ e leaf member. few (record { connection = None; leaf = leaf; member = member });
  apart = λ e. absurd (true≢false (sym e));
}

pub apart_seen : (seen : List (EndKey × Bool)) (es : List JoinedEnd)
    → ((k : EndKey) → seen_at seen k ≡ tally (count_by (joins k) es + count_by (joins_apart k) es)) → AreSeen seen true es
apart_seen seen es is = record {
  all = λ leaf member.
      let n = count_by (is_at leaf member) es in
      let same : n + 0 ≡ n = omega arith in
      is (record { connection = None; leaf = leaf; member = member }) ∙ ap (λ m. tally (n + m)) (none_counted es) ∙ ap tally same;
  once = λ e. absurd (true≢false e);
  apart = λ e connection leaf member.
      let n = count_by (is_apart connection leaf member) es in
      let same : 0 + n ≡ n = omega arith in
      is (record { connection = Some connection; leaf = leaf; member = member }) ∙ ap (λ m. tally (m + n)) (none_counted es)
      ∙ ap tally same;
}

-- an end is counted where it joins the interface
pub any_at : (leaf member : ℕ) (es : List JoinedEnd)
    → nat_le 1 (count_by (is_at leaf member) es) ≡ list_any (is_at leaf member) es
any_at leaf member [] = refl
any_at leaf member (e ∷ es) = grind (arith, common_steps, any_at leaf member es)
