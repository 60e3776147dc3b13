-- With the lines that are written of a policy or a certificate nothing is wrong.
use Rattle.policy_text.proofs.Common.{All, All-head, All-tail, AllPairs, Authority, Bool, Edge, Entry, Line, List, None, Number, Option, Some, Told, [], ap, arith, bytes_eq, bytes_eq-Decides, cond, count_by, decimal, edge, eqb-true}
use Rattle.policy_text.proofs.Common.{false, first_wrong, get_or, gives, has_label, is_edge, is_label, is_name, is_object, is_past, is_some, label, label_name, labels_object, length, list_any, map, names_label, nat_le, nat_lt, nat_tests, new_edges}
use Rattle.policy_text.proofs.Common.{not, number_value, number_value-decimal, object, refl, suc, sum_by-cons, sym, true, true≢false, wrong_entry, ℕ, ◌&&◌, ◌++◌, ◌+◌, ◌<◌, ◌==◌, ◌^◌, ◌||◌, ◌∙◌, ◌∷◌}
use Rattle.policy_text.proofs.Common.{rules, ◌≡◌, ◌≢◌, ◌≤◌}
use Rattle.policy_text.proofs.Before.{any_more, count_more}
use Rattle.policy_text.proofs.Inserting.{Pairs, neither, or_left, or_right}
use Rattle.policy_text.proofs.Rendering.{label_item, object_item, edge_item}
use Rattle.policy_text.proofs.Rows.{Item, line_at, told_at}
use Rattle.policy_text.proofs.Taking.{new_edges_most}

-- ---- numbers and words that differ

bytes_apart : (a b : List ℕ) → a ≢ b → bytes_eq a b ≡ false
bytes_apart a b h = search (rules, bytes_eq-Decides)

decimal_apart : (m n : ℕ) → m < n → n < 2 ^ 64 → decimal m ≢ decimal n
decimal_apart m n lt few = λ same.
    let small : m < 2 ^ 64 = omega arith in
    let is : Some m ≡ Some n = sym (number_value-decimal m small) ∙ ap number_value same ∙ number_value-decimal n few in
    let e : m ≡ n = cc in
    omega arith

-- ---- one line

label_right : (knows : Number → Bool) (before : List Told) (line : Line) (n name : List ℕ)
    → list_any (λ t. gives n t.1) before ≡ false → list_any (λ t. names_label name t.1) before ≡ false → is_past n ≡ false
    → nat_le 8192 (count_by (λ t. is_label t.1) before) ≡ false → wrong_entry knows before line (label n name) ≡ None
label_right knows before line n name a b c d = rw (a, b, c, d) refl

object_right : (knows : Number → Bool) (before : List Told) (line : Line) (word n : List ℕ) → knows n ≡ true
    → list_any (λ t. labels_object word t.1) before ≡ false → nat_lt 127 (length word) ≡ false
    → nat_le 262144 (count_by (λ t. is_object t.1) before) ≡ false → wrong_entry knows before line (object word n) ≡ None
object_right knows before line word n a b c d = rw (a, b, c, d) refl

and_false : (a b : Bool) → b ≡ false → (a && b) ≡ false
and_false true b h = h
and_false false b h = refl

edge_right : (knows : Number → Bool) (before : List Told) (line : Line) (l : List ℕ) (a : Authority) (m : List ℕ) → knows l ≡ true
    → knows m ≡ true → nat_le 262144 (new_edges [] before) ≡ false
    → wrong_entry knows before line (edge l a m) ≡ None
edge_right knows before line l a m p q r = search (rules, and_false, nat_le)

right_more : (knows : Number → Bool) (before : List Told) (line : Line) (e : Entry) (more : List Told)
    → wrong_entry knows before line e ≡ None → first_wrong knows (before ++ (line, e) ∷ []) more ≡ None
    → first_wrong knows before ((line, e) ∷ more) ≡ None
right_more knows before line e more here rest = search (rules)

not_past : (n : ℕ) → n < 8192 → is_past (decimal n) ≡ false
not_past n h = search (rules, nat_le, nat_tests, number_value-decimal)

-- ---- labels

-- no line in front has the label's number or name
pub record IsFresh (before : List Told) (l : ℕ × List ℕ) : Type 0 where
  pub number : list_any (λ t. gives (decimal l.0) t.1) before ≡ false
  pub name : list_any (λ t. names_label l.1 t.1) before ≡ false

fresh_more : (before : List Told) (line : Line) (l m : ℕ × List ℕ) → l.0 < m.0 → m.0 < 8192 → l.1 ≢ m.1 → IsFresh before m
    → IsFresh (before ++ (line, label (decimal l.0) l.1) ∷ []) m
fresh_more before line l m lt few differ fresh = search (rules, any_more, neither, bytes_apart, decimal_apart)

pub labels_right : (knows : Number → Bool) (before : List Told) (at : ℕ) (ls : Pairs) → AllPairs (λ l m. l.0 < m.0) ls
    → All (λ l. l.0 < 8192) ls → AllPairs (λ l m. l.1 ≢ m.1) ls → All (IsFresh before) ls
    → count_by (λ t. is_label t.1) before + length ls ≤ 8192 → first_wrong knows before (told_at at (map label_item ls)) ≡ None
labels_right knows before at [] rising few differ fresh room = refl
labels_right knows before at (l ∷ ls) rising few differ fresh room =
    let line = line_at at (label_item l).0 in
    let here = All-head (IsFresh before) l ls fresh in
    let small = All-head (λ m. m.0 < 8192) l ls few in
    let full : nat_le 8192 (count_by (λ t. is_label t.1) before) ≡ false = grind (arith, nat_tests) in
    let more : count_by (λ t. is_label t.1) (before ++ (line, label (decimal l.0) l.1) ∷ []) ≡ count_by (λ t. is_label t.1)
    before + 1 = count_more (λ t. is_label t.1) before (line, label (decimal l.0) l.1) in
    right_more knows before line (label (decimal l.0) l.1) (told_at (at + (length (label_item l).0 + 1)) (map label_item ls))
    (label_right knows before line (decimal l.0) l.1 here.number here.name (not_past l.0 small) full)
    (labels_right knows (before ++ (line, label (decimal l.0) l.1) ∷ []) (at + (length (label_item l).0 + 1)) ls
    (λ i j d lt within. rising (suc i) (suc j) d (omega arith) (omega arith))
    (All-tail (λ m. m.0 < 8192) l ls few)
    (λ i j d lt within. differ (suc i) (suc j) d (omega arith) (omega arith))
    (λ k d lt. fresh_more before line l (get_or ls k d) (rising 0 (suc k) d (omega arith) (omega arith))
    (few (suc k) d (omega arith)) (differ 0 (suc k) d (omega arith) (omega arith)) (fresh (suc k) d (omega arith)))
    (omega arith))

-- ---- objects

word_more : (before : List Told) (line : Line) (o p : List ℕ × ℕ) → o.0 ≢ p.0
    → list_any (λ t. labels_object p.0 t.1) before ≡ false
    → list_any (λ t. labels_object p.0 t.1) (before ++ (line, object o.0 (decimal o.1)) ∷ []) ≡ false
word_more before line o p differ fresh = any_more (λ t. labels_object p.0 t.1) before (line, object o.0 (decimal o.1))
    ∙ neither (bytes_apart o.0 p.0 differ) fresh

short_name : (name : List ℕ) → is_name name ≡ true → nat_lt 127 (length name) ≡ false
short_name [] h = absurd (true≢false (sym h))
short_name (b ∷ bs) h = grind (arith, nat_tests)

pub objects_right : (knows : Number → Bool) (before : List Told) (at : ℕ) (os : List (List ℕ × ℕ))
    → All (λ o. knows (decimal o.1) ≡ true) os → All (λ o. is_name o.0 ≡ true) os → AllPairs (λ o p. o.0 ≢ p.0) os
    → All (λ o. list_any (λ t. labels_object o.0 t.1) before ≡ false) os
    → count_by (λ t. is_object t.1) before + length os ≤ 262144
    → first_wrong knows before (told_at at (map object_item os)) ≡ None
objects_right knows before at [] known names differ fresh room = refl
objects_right knows before at (o ∷ os) known names differ fresh room =
    let line = line_at at (object_item o).0 in
    let full : nat_le 262144 (count_by (λ t. is_object t.1) before) ≡ false = grind (arith, nat_tests) in
    let more : count_by (λ t. is_object t.1) (before ++ (line, object o.0 (decimal o.1)) ∷ []) ≡ count_by (λ t. is_object t.1)
    before + 1 = count_more (λ t. is_object t.1) before (line, object o.0 (decimal o.1)) in
    right_more knows before line (object o.0 (decimal o.1)) (told_at (at + (length (object_item o).0 + 1)) (map object_item os))
    (object_right knows before line o.0 (decimal o.1) (All-head (λ p. knows (decimal p.1) ≡ true) o os known)
    (All-head (λ p. list_any (λ t. labels_object p.0 t.1) before ≡ false) o os fresh)
    (short_name o.0 (All-head (λ p. is_name p.0 ≡ true) o os names)) full)
    (objects_right knows (before ++ (line, object o.0 (decimal o.1)) ∷ []) (at + (length (object_item o).0 + 1)) os
    (All-tail (λ p. knows (decimal p.1) ≡ true) o os known)
    (All-tail (λ p. is_name p.0 ≡ true) o os names)
    (λ i j d lt within. differ (suc i) (suc j) d (omega arith) (omega arith))
    (λ k d lt. word_more before line o (get_or os k d) (differ 0 (suc k) d (omega arith) (omega arith))
    (fresh (suc k) d (omega arith)))
    (omega arith))

-- ---- edges

pub edges_right : (knows : Number → Bool) (before : List Told) (at : ℕ) (es : List Edge)
    → All (λ e. (knows (decimal e.from) ≡ true) × (knows (decimal e.to) ≡ true)) es
    → count_by (λ t. is_edge t.1) before + length es ≤ 262144 → first_wrong knows before (told_at at (map edge_item es)) ≡ None
edges_right knows before at [] known room = refl
edges_right knows before at (e ∷ es) known room =
    let line = line_at at (edge_item e).0 in
    let here = All-head (λ d. (knows (decimal d.from) ≡ true) × (knows (decimal d.to) ≡ true)) e es known in
    let few = new_edges_most [] before in
    let full : nat_le 262144 (new_edges [] before) ≡ false = grind (arith, nat_tests) in
    let more : count_by (λ t. is_edge t.1) (before ++ (line, (edge_item e).1) ∷ []) ≡ count_by (λ t. is_edge t.1) before + 1 =
    count_more (λ t. is_edge t.1) before (line, (edge_item e).1) in
    right_more knows before line (edge_item e).1 (told_at (at + (length (edge_item e).0 + 1)) (map edge_item es))
    (edge_right knows before line (decimal e.from) e.authority (decimal e.to) here.0 here.1 full)
    (edges_right knows (before ++ (line, (edge_item e).1) ∷ []) (at + (length (edge_item e).0 + 1)) es
    (All-tail (λ d. (knows (decimal d.from) ≡ true) × (knows (decimal d.to) ≡ true)) e es known)
    (omega arith))

-- ---- what lines of one kind leave unsaid

pub any_apart : {X : Type 0} (p : Entry → Bool) (f : X → Item) → ((x : X) → p (f x).1 ≡ false) → (at : ℕ) (xs : List X)
    → list_any (λ t. p t.1) (told_at at (map f xs)) ≡ false
any_apart p f apart at [] = refl
any_apart p f apart at (x ∷ xs) = neither (apart x) (any_apart p f apart (at + (length (f x).0 + 1)) xs)

pub count_apart : {X : Type 0} (p : Entry → Bool) (f : X → Item) → ((x : X) → p (f x).1 ≡ false) → (at : ℕ) (xs : List X)
    → count_by (λ t. p t.1) (told_at at (map f xs)) ≡ 0
count_apart p f apart at [] = refl
count_apart p f apart at (x ∷ xs) =
    let here : ◌≡◌ {A = ℕ} (cond (p (f x).1) 1 0) 0 = ap (λ (b : Bool). cond b 1 0) (apart x) in
    let rest = count_apart p f apart (at + (length (f x).0 + 1)) xs in
    let more = sum_by-cons (λ (t : Told). cond (p t.1) 1 0) (line_at at (f x).0, (f x).1)
    (told_at (at + (length (f x).0 + 1)) (map f xs)) in
    omega (arith, here, rest, more)

-- ---- numbers that labels have

pub has_label-told : (at : ℕ) (ls : Pairs) (n : ℕ) → is_some (label_name ls n) ≡ true
    → has_label (told_at at (map label_item ls)) (decimal n) ≡ true
has_label-told at [] n h = absurd (true≢false (sym h))
has_label-told at (l ∷ ls) n h = go (l.0 == n) refl (λ k. has_label-told (at + (length (label_item l).0 + 1)) ls n k)
  where
    rest : List Told
    rest = told_at (at + (length (label_item l).0 + 1)) (map label_item ls)

    go : (b : Bool) → l.0 == n ≡ b → (is_some (label_name ls n) ≡ true → has_label rest (decimal n) ≡ true)
        → (bytes_eq (decimal l.0) (decimal n) || has_label rest (decimal n)) ≡ true
    go true e more = or_left (has_label rest (decimal n)) ((bytes_eq-Decides (decimal l.0) (decimal n)).1
        (ap decimal (eqb-true l.0 n e)))
    go false e more = or_right (bytes_eq (decimal l.0) (decimal n)) (more (rw e at h))
