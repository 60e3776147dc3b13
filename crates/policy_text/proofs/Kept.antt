-- What lines without faults mean together: numbers fit, no name and no object stands twice, and each number that is used has a
-- label.
use Rattle.policy_text.proofs.Common.{All, All-cons, All-nil, AllPairs, AllPairs-cons, Authority, Bool, Decides-eqb, Edge, Entry, IsBuilt, IsPolicy, IsPolicyOf, Kind, Line, List, None, Number, NumbersDiffer, Option, Parts, Policy}
use Rattle.policy_text.proofs.Common.{Receive, Some, TextFault, Told, Wrong, [], ap, arith, at_line, authority_of, built_edge, built_label, built_object, by_number, bytes_eq, bytes_eq-Decides, bytes_eq-refl, codes, edge, edge_entry, edge_of}
use Rattle.policy_text.proofs.Common.{entry_of, false, fault_at, fields, filter_map, first_wrong, gives, has, has_at, has_label, insert_entry, is_decimal, is_label_name, is_letter, is_name, is_past, is_word, is_word_byte, label, label_entry}
use Rattle.policy_text.proofs.Common.{label_name, label_of, label_value, labels_object, leb, length, list_all, list_any, long_entry, names_label, narrow, nat_cmp, nat_le, nat_lt, nat_tests, object, object_entry, object_of, option_map, option_map_or}
use Rattle.policy_text.proofs.Common.{option_or, or_parts, refl, rules, said, same_edge, same_edge_true, short_entry, subst, sym, told, true, true≢false, unwrap_or, value, within, wrong, wrong_entry, ℕ, ◌&&◌, ◌++◌, ◌==◌, ◌||◌, ◌∙◌, ◌∷◌, ◌≡◌, ◌≢◌}
use Rattle.std.specs.Option.{is_some}
use Rattle.policy_text.specs.declared.kind.Kind.TheVariants as kinds
use Rattle.policy_text.proofs.Before.{any_more}
use Rattle.policy_text.proofs.Inserting.{Pairs, or_left, or_right, named, Differ, named_insert, differ_insert, none_pair, names_differ, Valid, valid_insert, all_valid, Rising, rising_insert, numbers_differ, inserted, keyed_in, has_name}
use Rattle.std.proofs.lemmas.Option.{slice_get-get_or}
use Rattle.policy_text.specs.PolicyTexts.{Says}

-- ---- what the form of a line gives

abbrev pub Formed : Entry → Type 0
Formed (label n name) = is_label_name name ≡ true
Formed (object word n) = is_word word ≡ true
Formed (edge l a m) = Unit {0}

label_formed : (n name : List ℕ) (e : Entry) → label_entry n name ≡ Some e → Formed e
label_formed n name e h = search (rules)

object_formed : (word n : List ℕ) (e : Entry) → object_entry word n ≡ Some e → Formed e
object_formed word n e h = search (rules)

edge_formed : (l a m : List ℕ) (e : Entry) → edge_entry l a m ≡ Some e → Formed e
edge_formed l a m e h = go (is_decimal l && is_decimal m) (authority_of a) refl refl
  where
    go : (b : Bool) (o : Option Authority) → (is_decimal l && is_decimal m) ≡ b → authority_of a ≡ o → Formed e
    go false o d k = let is = rw d at h in absurd cc
    go true None d k = let is = rw (d, k) at h in absurd cc
    go true (Some x) d k = let is : Some (edge l x m) ≡ Some e = rw (d, k) at h in let same : edge l x m ≡ e = cc in
        subst Formed same tt

short_formed : (kind : Kind) (word a b : List ℕ) (e : Entry) → short_entry kind word a b ≡ Some e → Formed e
short_formed kinds.Certificate word a b e h = absurd cc
short_formed kinds.Policy word a b e h = go (bytes_eq word (codes "label")) (bytes_eq word (codes "object")) refl refl
  where
    go : (x y : Bool) → bytes_eq word (codes "label") ≡ x → bytes_eq word (codes "object") ≡ y → Formed e
    go true y d k = label_formed a b e (rw d at h)
    go false true d k = object_formed a b e (rw (d, k) at h)
    go false false d k = let is = rw (d, k) at h in absurd cc

long_formed : (word l a m : List ℕ) (e : Entry) → long_entry word l a m ≡ Some e → Formed e
long_formed word l a m e h = go (bytes_eq word (codes "edge")) refl
  where
    go : (x : Bool) → bytes_eq word (codes "edge") ≡ x → Formed e
    go true d = edge_formed l a m e (rw d at h)
    go false d = let is = rw d at h in absurd cc

entry_formed : (kind : Kind) (fs : List (List ℕ)) (e : Entry) → entry_of kind fs ≡ Some e → Formed e
entry_formed kind (a ∷ b ∷ c ∷ []) e h = short_formed kind a b c e h
entry_formed kind (a ∷ b ∷ c ∷ d ∷ []) e h = long_formed a b c d e h
entry_formed kind _ e h = absurd cc

abbrev pub FormedAll : List Told → Type 0
FormedAll [] = Unit {0}
FormedAll (t ∷ ts) = Formed t.1 × FormedAll ts

pub formed_all : (kind : Kind) (lines : List Line) → FormedAll (told kind lines)
formed_all kind [] = tt
formed_all kind (line ∷ more) = go (said kind line) refl (formed_all kind more)
  where
    go : (o : Option Entry) → said kind line ≡ o → FormedAll (told kind more) → FormedAll (told kind (line ∷ more))
    go None e rest = rw e rest
    go (Some x) e rest = rw e (entry_formed kind (fields line.text) x e, rest)

-- ---- lines with which nothing is wrong

abbrev pub Clean : (Number → Bool) → List Told → List Told → Type 0
Clean knows before [] = Unit {0}
Clean knows before (t ∷ ts) = (wrong knows before t ≡ None) × Formed t.1 × Clean knows (before ++ t ∷ []) ts

or_none : (a b : Option TextFault) → option_or a b ≡ None → (a ≡ None) × (b ≡ None)
or_none None b h = (refl, h)
or_none (Some x) b h = absurd cc

no_fault : (line : Line) (w : Option Wrong) → option_map (at_line line) w ≡ None → w ≡ None
no_fault line None h = refl
no_fault line (Some x) h = absurd cc

pub clean : (knows : Number → Bool) (before ts : List Told) → first_wrong knows before ts ≡ None → FormedAll ts
    → Clean knows before ts
clean knows before [] h f = tt
clean knows before (t ∷ ts) h f =
    let parts = or_none (fault_at knows before t) (first_wrong knows (before ++ t ∷ []) ts) h in
    (no_fault t.0 (wrong knows before t) parts.0, f.0, clean knows (before ++ t ∷ []) ts parts.1 f.1)

-- a label
right_label : (knows : Number → Bool) (before : List Told) (line : Line) (n name : List ℕ)
    → wrong_entry knows before line (label n name) ≡ None
    → (list_any (λ t. names_label name t.1) before ≡ false) × (is_past n ≡ false)
right_label knows before line n name h = go (list_any (λ t. gives n t.1) before) (list_any (λ t. names_label name t.1) before)
    (is_past n) refl refl refl
  where
    go : (a b c : Bool) → list_any (λ t. gives n t.1) before ≡ a → list_any (λ t. names_label name t.1) before ≡ b → is_past n ≡ c
        → (list_any (λ t. names_label name t.1) before ≡ false) × (is_past n ≡ false)
    go true b c p q r = let is = rw p at h in absurd cc
    go false true c p q r = let is = rw (p, q) at h in absurd cc
    go false false true p q r = let is = rw (p, q, r) at h in absurd cc
    go false false false p q r = (q, r)

-- an object
pub right_object : (knows : Number → Bool) (before : List Told) (line : Line) (word n : List ℕ)
    → wrong_entry knows before line (object word n) ≡ None
    → (knows n ≡ true) × (list_any (λ t. labels_object word t.1) before ≡ false) × (nat_lt 127 (length word) ≡ false)
right_object knows before line word n h = search (rules, nat_lt)

-- an edge
right_edge : (knows : Number → Bool) (before : List Told) (line : Line) (l : List ℕ) (a : Authority) (m : List ℕ)
    → wrong_entry knows before line (edge l a m) ≡ None
    → (knows l ≡ true) × (knows m ≡ true)
right_edge knows before line l a m h = search (rules)

-- ---- numbers fit 32 bits

small_value : (o : Option ℕ) → option_map_or (λ v. nat_le 8192 v) o true ≡ false → within o ≡ unwrap_or o 0
small_value None h = absurd (true≢false h)
small_value (Some v) h = let lt : nat_lt v 4294967296 ≡ true = grind (arith, nat_tests) in rw lt refl

pub small_label : (n : Number) → is_past n ≡ false → narrow n ≡ label_value n
small_label n h = small_value (value n) h

-- a number that a label line gives
pub gives_small : (knows : Number → Bool) (before ts : List Told) (n : Number) → Clean knows before ts
    → list_any (λ t. gives n t.1) ts ≡ true → is_past n ≡ false
gives_small knows before [] n c h = absurd (true≢false (sym h))
gives_small knows before ((line, label m name) ∷ ts) n c h =
    go (bytes_eq m n) refl (λ k. gives_small knows (before ++ (line, label m name) ∷ []) ts n c.2 k)
  where
    go : (b : Bool) → bytes_eq m n ≡ b → (list_any (λ t. gives n t.1) ts ≡ true → is_past n ≡ false) → is_past n ≡ false
    go true e rest = subst (λ (k : List ℕ). is_past k ≡ false) ((bytes_eq-Decides m n).0 e)
        (right_label knows before line m name c.0).1
    go false e rest = rest (ap (λ b. b || list_any (λ t. gives n t.1) ts) (sym e) ∙ h)
gives_small knows before ((line, object word m) ∷ ts) n c h = gives_small knows (before ++ (line, object word m) ∷ []) ts n c.2 h
gives_small knows before ((line, edge l a m) ∷ ts) n c h = gives_small knows (before ++ (line, edge l a m) ∷ []) ts n c.2 h

pub known_small : (ts : List Told) → Clean (has_label ts) [] ts → (n : Number) → has_label ts n ≡ true → narrow n ≡ label_value n
known_small ts c n h = small_label n (gives_small (has_label ts) [] ts n c h)

pub built_labels : (knows : Number → Bool) (before ts : List Told) → Clean knows before ts
    → filter_map built_label ts ≡ filter_map label_of ts
built_labels knows before [] c = refl
built_labels knows before ((line, label n name) ∷ ts) c =
    let here = small_label n (right_label knows before line n name c.0).1 in
    let rest = built_labels knows (before ++ (line, label n name) ∷ []) ts c.2 in
    ap (λ (v : ℕ). (v, name) ∷ filter_map built_label ts) here ∙ ap (λ (ps : Pairs). (label_value n, name) ∷ ps) rest
built_labels knows before ((line, object word n) ∷ ts) c = built_labels knows (before ++ (line, object word n) ∷ []) ts c.2
built_labels knows before ((line, edge l a m) ∷ ts) c = built_labels knows (before ++ (line, edge l a m) ∷ []) ts c.2

name_of_word : (word : List ℕ) → is_word word ≡ true → nat_lt 127 (length word) ≡ false → is_name word ≡ true
name_of_word [] h few = absurd (true≢false (sym h))
name_of_word (b ∷ bs) h few = let short : leb (length bs) 126 ≡ true = grind (arith, nat_tests) in
    ap (λ (t : Bool). t && (is_letter b && list_all is_word_byte bs)) short ∙ h

pub built_objects : (knows : Number → Bool) (before ts : List Told) → ((n : Number) → knows n ≡ true → narrow n ≡ label_value n)
    → Clean knows before ts
    → filter_map built_object ts ≡ filter_map object_of ts
built_objects knows before [] small c = refl
built_objects knows before ((line, label n name) ∷ ts) small c =
    built_objects knows (before ++ (line, label n name) ∷ []) ts small c.2
built_objects knows before ((line, object word n) ∷ ts) small c =
    let right = right_object knows before line word n c.0 in
    let name = name_of_word word c.1 right.2 in
    let rest = built_objects knows (before ++ (line, object word n) ∷ []) ts small c.2 in
    rw name (ap (λ (v : ℕ). (word, v) ∷ filter_map built_object ts) (small n right.0)
    ∙ ap (λ (os : List (List ℕ × ℕ)). (word, label_value n) ∷ os) rest)
built_objects knows before ((line, edge l a m) ∷ ts) small c =
    built_objects knows (before ++ (line, edge l a m) ∷ []) ts small c.2

edge_at : (l l' m m' : ℕ) (a : Authority) → l ≡ l' → m ≡ m' → ◌≡◌ {A = Edge} (record { from = l; authority = a; to = m })
    (record { from = l'; authority = a; to = m' })
edge_at l l' m m' a p q = rw (p, q) refl

pub built_edges : (knows : Number → Bool) (before ts : List Told) → ((n : Number) → knows n ≡ true → narrow n ≡ label_value n)
    → Clean knows before ts
    → filter_map built_edge ts ≡ filter_map edge_of ts
built_edges knows before [] small c = refl
built_edges knows before ((line, label n name) ∷ ts) small c =
    built_edges knows (before ++ (line, label n name) ∷ []) ts small c.2
built_edges knows before ((line, object word n) ∷ ts) small c =
    built_edges knows (before ++ (line, object word n) ∷ []) ts small c.2
built_edges knows before ((line, edge l a m) ∷ ts) small c =
    let right = right_edge knows before line l a m c.0 in
    let rest = built_edges knows (before ++ (line, edge l a m) ∷ []) ts small c.2 in
    search (rules, edge_at)

-- ---- labels

pub record LabelsSo (before : List Told) (es : Pairs) : Type 0 where
  fresh : (x : List ℕ) → list_any (λ t. names_label x t.1) before ≡ false → named x es ≡ false
  differ : Differ es
  valid : Valid es
  rising : Rising es

fresh_more : (before : List Told) (t : Told) (x : List ℕ) → list_any (λ u. names_label x u.1) (before ++ t ∷ []) ≡ false
    → (names_label x t.1 || list_any (λ u. names_label x u.1) before) ≡ false
fresh_more before t x h = sym (any_more (λ u. names_label x u.1) before t) ∙ h

labels_so : (knows : Number → Bool) (before : List Told) (line : Line) (n name : List ℕ) (es : Pairs) → LabelsSo before es
    → wrong_entry knows before line (label n name) ≡ None → is_label_name name ≡ true
    → LabelsSo (before ++ (line, label n name) ∷ []) (insert_entry nat_cmp es (label_value n) name)
labels_so knows before line n name es so none valid =
    let absent : named name es ≡ false = so.fresh name (right_label knows before line n name none).0 in
    record {
      fresh = λ x h.
          let parts = or_parts (bytes_eq name x) (list_any (λ u. names_label x u.1) before)
          (fresh_more before (line, label n name) x h) in
          named_insert x (label_value n) name es parts.0 (so.fresh x parts.1);
      differ = differ_insert (label_value n) name es absent so.differ;
      valid = valid_insert (label_value n) name es valid so.valid;
      rising = rising_insert (label_value n) name es so.rising;
    }

others_so : (before : List Told) (t : Told) (es : Pairs) → LabelsSo before es → ((x : List ℕ) → names_label x t.1 ≡ false)
    → LabelsSo (before ++ t ∷ []) es
others_so before t es so apart = record {
  fresh = λ x h. so.fresh x (ap (λ b. b || list_any (λ u. names_label x u.1) before) (sym (apart x)) ∙ fresh_more before t x h);
  differ = so.differ;
  valid = so.valid;
  rising = so.rising;
}

pub labels_kept : (knows : Number → Bool) (before ts : List Told) (es : Pairs) → LabelsSo before es → Clean knows before ts
    → Differ (inserted es (filter_map label_of ts)) × Valid (inserted es (filter_map label_of ts))
    × Rising (inserted es (filter_map label_of ts))
labels_kept knows before [] es so c = (so.differ, so.valid, so.rising)
labels_kept knows before ((line, label n name) ∷ ts) es so c =
    labels_kept knows (before ++ (line, label n name) ∷ []) ts (insert_entry nat_cmp es (label_value n) name)
    (labels_so knows before line n name es so c.0 c.1) c.2
labels_kept knows before ((line, object word n) ∷ ts) es so c =
    labels_kept knows (before ++ (line, object word n) ∷ []) ts es (others_so before (line, object word n) es so (λ x. refl)) c.2
labels_kept knows before ((line, edge l a m) ∷ ts) es so c =
    labels_kept knows (before ++ (line, edge l a m) ∷ []) ts es (others_so before (line, edge l a m) es so (λ x. refl)) c.2

labels_none : LabelsSo [] []
labels_none = record { fresh = λ x h. refl; differ = tt; valid = tt; rising = tt }

gives_key : (ts : List Told) (n : Number) → has_label ts n ≡ true
    → list_any (λ p. p.0 == label_value n) (filter_map label_of ts) ≡ true
gives_key [] n h = absurd (true≢false (sym h))
gives_key ((line, label m name) ∷ ts) n h = go (bytes_eq m n) refl (λ k. gives_key ts n k)
  where
    go : (b : Bool) → bytes_eq m n ≡ b
        → (has_label ts n ≡ true → list_any (λ p. p.0 == label_value n) (filter_map label_of ts) ≡ true)
        → (label_value m == label_value n || list_any (λ p. p.0 == label_value n) (filter_map label_of ts)) ≡ true
    go true e rest = or_left (list_any (λ p. p.0 == label_value n) (filter_map label_of ts))
        ((Decides-eqb (label_value m) (label_value n)).1 (ap label_value ((bytes_eq-Decides m n).0 e)))
    go false e rest = or_right (label_value m == label_value n) (rest (ap (λ b. b || has_label ts n) (sym e) ∙ h))
gives_key ((line, _) ∷ ts) n h = gives_key ts n h

pub known_named : (ts : List Told) (n : Number) → has_label ts n ≡ true
    → is_some (label_name (by_number (filter_map label_of ts)) (label_value n)) ≡ true
known_named ts n h = has_name (label_value n) (by_number (filter_map label_of ts))
    (keyed_in (label_value n) [] (filter_map label_of ts) (gives_key ts n h))

-- ---- objects

object_apart : (knows : Number → Bool) (before ts : List Told) (word : List ℕ)
    → list_any (λ t. labels_object word t.1) before ≡ true → Clean knows before ts
    → All (λ o. word ≢ o.0) (filter_map object_of ts)
object_apart knows before [] word h c = All-nil (λ o. word ≢ o.0)
object_apart knows before ((line, object other n) ∷ ts) word h c =
    let right = right_object knows before line other n c.0 in
    All-cons (λ o. word ≢ o.0) (other, label_value n) (filter_map object_of ts)
    (λ same. true≢false (sym h ∙ ap (λ (w : List ℕ). list_any (λ t. labels_object w t.1) before) same ∙ right.1))
    (object_apart knows (before ++ (line, object other n) ∷ []) ts word (any_more (λ t. labels_object word t.1) before
    (line, object other n) ∙ or_right (bytes_eq other word) h) c.2)
object_apart knows before ((line, label n name) ∷ ts) word h c =
    object_apart knows (before ++ (line, label n name) ∷ []) ts word (any_more (λ t. labels_object word t.1) before
    (line, label n name) ∙ h) c.2
object_apart knows before ((line, edge l a m) ∷ ts) word h c =
    object_apart knows (before ++ (line, edge l a m) ∷ []) ts word (any_more (λ t. labels_object word t.1) before
    (line, edge l a m) ∙ h) c.2

pub objects_differ : (knows : Number → Bool) (before ts : List Told) → Clean knows before ts
    → AllPairs (λ o p. o.0 ≢ p.0) (filter_map object_of ts)
objects_differ knows before [] c = none_pair (λ o p. o.0 ≢ p.0)
objects_differ knows before ((line, object word n) ∷ ts) c =
    AllPairs-cons (λ o p. o.0 ≢ p.0) (word, label_value n) (filter_map object_of ts)
    (object_apart knows (before ++ (line, object word n) ∷ []) ts word (any_more (λ t. labels_object word t.1) before
    (line, object word n) ∙ or_left (list_any (λ t. labels_object word t.1) before) (bytes_eq-refl word)) c.2)
    (objects_differ knows (before ++ (line, object word n) ∷ []) ts c.2)
objects_differ knows before ((line, label n name) ∷ ts) c = objects_differ knows (before ++ (line, label n name) ∷ []) ts c.2
objects_differ knows before ((line, edge l a m) ∷ ts) c = objects_differ knows (before ++ (line, edge l a m) ∷ []) ts c.2

pub objects_labelled : (knows : Number → Bool) (before ts : List Told) (labels : Pairs)
    → ((n : Number) → knows n ≡ true → is_some (label_name labels (label_value n)) ≡ true) → Clean knows before ts
    → All (λ o. is_some (label_name labels o.1) ≡ true) (filter_map object_of ts)
objects_labelled knows before [] labels named c = All-nil (λ o. is_some (label_name labels o.1) ≡ true)
objects_labelled knows before ((line, object word n) ∷ ts) labels named c =
    All-cons (λ o. is_some (label_name labels o.1) ≡ true) (word, label_value n) (filter_map object_of ts)
    (named n (right_object knows before line word n c.0).0)
    (objects_labelled knows (before ++ (line, object word n) ∷ []) ts labels named c.2)
objects_labelled knows before ((line, label n name) ∷ ts) labels named c =
    objects_labelled knows (before ++ (line, label n name) ∷ []) ts labels named c.2
objects_labelled knows before ((line, edge l a m) ∷ ts) labels named c =
    objects_labelled knows (before ++ (line, edge l a m) ∷ []) ts labels named c.2

-- ---- edges

abbrev pub IsLabelled : Pairs → Edge → Type 0
IsLabelled labels e = (is_some (label_name labels e.from) ≡ true) × (is_some (label_name labels e.to) ≡ true)

pub edges_labelled : (knows : Number → Bool) (before ts : List Told) (labels : Pairs)
    → ((n : Number) → knows n ≡ true → is_some (label_name labels (label_value n)) ≡ true) → Clean knows before ts
    → (e : Edge) → has (filter_map edge_of ts) e ≡ true → IsLabelled labels e
edges_labelled knows before [] labels named c e h = absurd (true≢false (sym h))
edges_labelled knows before ((line, label n name) ∷ ts) labels named c e h =
    edges_labelled knows (before ++ (line, label n name) ∷ []) ts labels named c.2 e h
edges_labelled knows before ((line, object word n) ∷ ts) labels named c e h =
    edges_labelled knows (before ++ (line, object word n) ∷ []) ts labels named c.2 e h
edges_labelled knows before ((line, edge l a m) ∷ ts) labels named c e h =
    go (same_edge here e) refl (λ k. edges_labelled knows (before ++ (line, edge l a m) ∷ []) ts labels named c.2 e k)
  where
    here : Edge
    here = record { from = label_value l; authority = a; to = label_value m }

    go : (b : Bool) → same_edge here e ≡ b → (has (filter_map edge_of ts) e ≡ true → IsLabelled labels e) → IsLabelled labels e
    go true s rest = let right = right_edge knows before line l a m c.0 in
        subst (IsLabelled labels) (same_edge_true here e s) (named l right.0, named m right.1)
    go false s rest = rest (ap (λ b. b || has (filter_map edge_of ts) e) (sym s) ∙ h)

no_edge : Edge
no_edge = record { from = 0; authority = Receive; to = 0 }

-- what holds of each edge that a table has holds of all
pub all_edges : (P : Edge → Type 0) (edges : List Edge) → ((e : Edge) → has edges e ≡ true → P e) → All P edges
all_edges P edges each = search (rules, no_edge, has_at, slice_get-get_or)

-- ---- the policy

pub policy_says : (ts : List Told) (parts : Parts) (policy : Policy) → Clean (has_label ts) [] ts → IsBuilt parts ts
    → IsPolicyOf parts policy → Says ts policy
policy_says ts parts policy c built is = search (rules, built_labels, built_objects, known_small, built_edges)

pub policy_kept : (ts : List Told) (policy : Policy) → Clean (has_label ts) [] ts → Says ts policy → IsPolicy policy
policy_kept ts policy c says =
    let kept = labels_kept (has_label ts) [] ts [] labels_none c in
    let labelled = λ (n : Number) (h : has_label ts n ≡ true).
    subst (λ (ls : Pairs). is_some (label_name ls (label_value n)) ≡ true) (sym says.labels) (known_named ts n h) in
    let each = λ (e : Edge) (h : has policy.edges e ≡ true). edges_labelled (has_label ts) [] ts policy.labels labelled c e
    (sym (says.edges.same e) ∙ h) in
    record {
      numbers = subst NumbersDiffer (sym says.labels) (numbers_differ (by_number (filter_map label_of ts)) kept.2);
      names = subst (λ (ls : Pairs). AllPairs (λ l m. l.1 ≢ m.1) ls) (sym says.labels)
          (names_differ (by_number (filter_map label_of ts)) kept.0);
      named = subst (λ (ls : Pairs). All (λ l. is_label_name l.1 ≡ true) ls) (sym says.labels)
          (all_valid (by_number (filter_map label_of ts)) kept.1);
      objects = subst (λ (os : List (List ℕ × ℕ)). AllPairs (λ o p. o.0 ≢ p.0) os) (sym says.objects)
          (objects_differ (has_label ts) [] ts c);
      labelled = subst (λ (os : List (List ℕ × ℕ)). All (λ o. is_some (label_name policy.labels o.1) ≡ true) os)
          (sym says.objects) (objects_labelled (has_label ts) [] ts policy.labels labelled c);
      from = all_edges (λ e. is_some (label_name policy.labels e.from) ≡ true) policy.edges (λ e h. (each e h).0);
      to = all_edges (λ e. is_some (label_name policy.labels e.to) ≡ true) policy.edges (λ e h. (each e h).1);
    }
