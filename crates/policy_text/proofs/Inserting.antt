-- Labels in the order of their numbers, after one label more.
use Rattle.policy_text.proofs.Common.{All, All-cons, All-nil, AllPairs, AllPairs-cons, Bool, List, NumbersDiffer, [], ap, arith, bytes_eq, bytes_eq-Decides, bytes_eq-sym, eqb-true, false, fold, insert_entry, is_label_name, label_name, list_any}
use Rattle.policy_text.proofs.Common.{nat_cmp, nat_lt, nat_tests, or_parts, refl, rules, sym, true, true≢false, ℕ, ◌<◌, ◌==◌, ◌||◌, ◌∙◌, ◌∷◌, ◌≡◌, ◌≢◌}
use Rattle.std.specs.Option.{is_some}

abbrev pub Pairs : Type 0
Pairs = List (ℕ × List ℕ)

-- ---- truth

pub neither : {a b : Bool} → a ≡ false → b ≡ false → (a || b) ≡ false
neither {a} {b} h k = ap (λ c. c || b) h ∙ k

pub or_left : {a : Bool} (b : Bool) → a ≡ true → (a || b) ≡ true
or_left b h = ap (λ c. c || b) h

pub or_right : (a : Bool) {b : Bool} → b ≡ true → (a || b) ≡ true
or_right true h = refl
or_right false h = h

or_map : (a : Bool) {b c : Bool} → (a || b) ≡ true → (b ≡ true → c ≡ true) → (a || c) ≡ true
or_map true h f = refl
or_map false h f = f h

-- ---- where a label comes to stand

pub insert_by : (k : ℕ) (v : List ℕ) (e : ℕ × List ℕ) (es : Pairs) (P : Pairs → Type 0) → (k < e.0 → P ((k, v) ∷ e ∷ es))
    → (k ≡ e.0 → P ((e.0, v) ∷ es))
    → (e.0 < k → P (e ∷ insert_entry nat_cmp es k v)) → P (insert_entry nat_cmp (e ∷ es) k v)
insert_by k v e es P less same more = search (rules, nat_lt, nat_tests, eqb-true)

-- ---- names

abbrev pub named : List ℕ → Pairs → Bool
named x es = list_any (λ l. bytes_eq l.1 x) es

-- no name stands twice
abbrev pub Differ : Pairs → Type 0
Differ [] = Unit {0}
Differ (e ∷ es) = (named e.1 es ≡ false) × Differ es

pub named_insert : (x : List ℕ) (k : ℕ) (v : List ℕ) (es : Pairs) → bytes_eq v x ≡ false → named x es ≡ false
    → named x (insert_entry nat_cmp es k v) ≡ false
named_insert x k v [] h n = neither h refl
named_insert x k v (e ∷ es) h n =
    let parts = or_parts (bytes_eq e.1 x) (named x es) n in
    insert_by k v e es (λ l. named x l ≡ false) (λ lt. neither h n) (λ s. neither h parts.1)
    (λ g. neither parts.0 (named_insert x k v es h parts.1))

pub differ_insert : (k : ℕ) (v : List ℕ) (es : Pairs) → named v es ≡ false → Differ es → Differ (insert_entry nat_cmp es k v)
differ_insert k v [] n d = (refl, tt)
differ_insert k v (e ∷ es) n d =
    let parts = or_parts (bytes_eq e.1 v) (named v es) n in
    insert_by k v e es Differ (λ lt. (n, d)) (λ s. (parts.1, d.1))
    (λ g. (named_insert e.1 k v es (bytes_eq-sym v e.1 ∙ parts.0) d.0, differ_insert k v es parts.1 d.1))

named_all : (x : List ℕ) (es : Pairs) → named x es ≡ false → All (λ m. x ≢ m.1) es
named_all x [] n = All-nil (λ m. x ≢ m.1)
named_all x (e ∷ es) n =
    let parts = or_parts (bytes_eq e.1 x) (named x es) n in
    All-cons (λ m. x ≢ m.1) e es (λ h. true≢false (sym ((bytes_eq-Decides e.1 x).1 (sym h)) ∙ parts.0)) (named_all x es parts.1)

pub none_pair : {X : Type 0} (R : X → X → Type 0) → AllPairs R []
none_pair R = λ i j d below within. absurd (omega arith)

pub names_differ : (es : Pairs) → Differ es → AllPairs (λ l m. l.1 ≢ m.1) es
names_differ [] d = none_pair (λ l m. l.1 ≢ m.1)
names_differ (e ∷ es) d = AllPairs-cons (λ l m. l.1 ≢ m.1) e es (named_all e.1 es d.0) (names_differ es d.1)

abbrev pub Valid : Pairs → Type 0
Valid [] = Unit {0}
Valid (e ∷ es) = (is_label_name e.1 ≡ true) × Valid es

pub valid_insert : (k : ℕ) (v : List ℕ) (es : Pairs) → is_label_name v ≡ true → Valid es → Valid (insert_entry nat_cmp es k v)
valid_insert k v [] h d = (h, tt)
valid_insert k v (e ∷ es) h d = insert_by k v e es Valid (λ lt. (h, d)) (λ s. (h, d.1)) (λ g. (d.0, valid_insert k v es h d.1))

pub all_valid : (es : Pairs) → Valid es → All (λ l. is_label_name l.1 ≡ true) es
all_valid [] d = All-nil (λ l. is_label_name l.1 ≡ true)
all_valid (e ∷ es) d = All-cons (λ l. is_label_name l.1 ≡ true) e es d.0 (all_valid es d.1)

-- ---- numbers

abbrev pub Above : ℕ → Pairs → Type 0
Above k [] = Unit {0}
Above k (e ∷ es) = (k < e.0) × Above k es

abbrev pub Rising : Pairs → Type 0
Rising [] = Unit {0}
Rising (e ∷ es) = Above e.0 es × Rising es

above_insert : (k j : ℕ) (v : List ℕ) (es : Pairs) → k < j → Above k es → Above k (insert_entry nat_cmp es j v)
above_insert k j v [] lt a = (lt, tt)
above_insert k j v (e ∷ es) lt a = insert_by j v e es (Above k) (λ l. (lt, a)) (λ s. a) (λ g. (a.0, above_insert k j v es lt a.1))

above_less : (k j : ℕ) (es : Pairs) → k < j → Above j es → Above k es
above_less k j [] lt a = tt
above_less k j (e ∷ es) lt a = let first = a.0 in (omega arith, above_less k j es lt a.1)

pub rising_insert : (k : ℕ) (v : List ℕ) (es : Pairs) → Rising es → Rising (insert_entry nat_cmp es k v)
rising_insert k v [] r = (tt, tt)
rising_insert k v (e ∷ es) r =
    insert_by k v e es Rising (λ lt. ((lt, above_less k e.0 es lt r.0), r)) (λ s. r)
    (λ g. (above_insert e.0 k v es g r.0, rising_insert k v es r.1))

above_all : (k : ℕ) (es : Pairs) → Above k es → All (λ m. k ≢ m.0) es
above_all k [] a = All-nil (λ m. k ≢ m.0)
above_all k (e ∷ es) a = let first = a.0 in All-cons (λ m. k ≢ m.0) e es (λ h. omega arith) (above_all k es a.1)

pub numbers_differ : (es : Pairs) → Rising es → NumbersDiffer es
numbers_differ [] r = none_pair (λ l m. l.0 ≢ m.0)
numbers_differ (e ∷ es) r = AllPairs-cons (λ l m. l.0 ≢ m.0) e es (above_all e.0 es r.0) (numbers_differ es r.1)

-- ---- which numbers there are

abbrev pub keyed : ℕ → Pairs → Bool
keyed q es = list_any (λ l. l.0 == q) es

keyed_insert_old : (q k : ℕ) (v : List ℕ) (es : Pairs) → keyed q es ≡ true → keyed q (insert_entry nat_cmp es k v) ≡ true
keyed_insert_old q k v [] h = absurd (true≢false (sym h))
keyed_insert_old q k v (e ∷ es) h =
    insert_by k v e es (λ l. keyed q l ≡ true) (λ lt. or_right (k == q) h) (λ s. h)
    (λ g. or_map (e.0 == q) h (keyed_insert_old q k v es))

keyed_insert_new : (q k : ℕ) (v : List ℕ) (es : Pairs) → k == q ≡ true → keyed q (insert_entry nat_cmp es k v) ≡ true
keyed_insert_new q k v [] h = or_left false h
keyed_insert_new q k v (e ∷ es) h =
    insert_by k v e es (λ l. keyed q l ≡ true) (λ lt. or_left (keyed q (e ∷ es)) h)
    (λ s. or_left (keyed q es) (ap (λ n. n == q) (sym s) ∙ h)) (λ g. or_right (e.0 == q) (keyed_insert_new q k v es h))

abbrev pub inserted : Pairs → Pairs → Pairs
inserted es pairs = fold (λ sorted l. insert_entry nat_cmp sorted l.0 l.1) es pairs

keyed_kept : (q : ℕ) (es pairs : Pairs) → keyed q es ≡ true → keyed q (inserted es pairs) ≡ true
keyed_kept q es [] h = h
keyed_kept q es (p ∷ pairs) h = keyed_kept q (insert_entry nat_cmp es p.0 p.1) pairs (keyed_insert_old q p.0 p.1 es h)

pub keyed_in : (q : ℕ) (es pairs : Pairs) → list_any (λ p. p.0 == q) pairs ≡ true → keyed q (inserted es pairs) ≡ true
keyed_in q es [] h = absurd (true≢false (sym h))
keyed_in q es (p ∷ pairs) h = go (p.0 == q) refl (λ k. keyed_in q (insert_entry nat_cmp es p.0 p.1) pairs k)
  where
    go : (b : Bool) → p.0 == q ≡ b
        → (list_any (λ p. p.0 == q) pairs ≡ true → keyed q (inserted (insert_entry nat_cmp es p.0 p.1) pairs) ≡ true)
        → keyed q (inserted es (p ∷ pairs)) ≡ true
    go true e rest = keyed_kept q (insert_entry nat_cmp es p.0 p.1) pairs (keyed_insert_new q p.0 p.1 es e)
    go false e rest = rest (ap (λ b. b || list_any (λ p. p.0 == q) pairs) (sym e) ∙ h)

-- a number among the labels has a name
pub has_name : (q : ℕ) (es : Pairs) → keyed q es ≡ true → is_some (label_name es q) ≡ true
has_name q [] h = absurd (true≢false (sym h))
has_name q (e ∷ es) h = go (e.0 == q) refl (λ k. has_name q es k)
  where
    go : (b : Bool) → e.0 == q ≡ b → (keyed q es ≡ true → is_some (label_name es q) ≡ true)
        → is_some (label_name (e ∷ es) q) ≡ true
    go true s rest = rw s refl
    go false s rest = rw s (rest (ap (λ b. b || keyed q es) (sym s) ∙ h))
