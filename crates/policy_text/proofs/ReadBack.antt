-- What is written of a policy or a certificate is a text of it.
use Rattle.policy_text.proofs.Common.{All, All-head, All-tail, Bool, Edge, IsCertText, IsPolicy, IsPolicyText, Kind, List, None, Number, Option, Policy, Some, TextFault, Told, [], ap, append-nil, append_assoc, arith}
use Rattle.policy_text.proofs.Common.{body, by_number, bytes_limit, codes, cond, count_by, decimal, drop, edge_line, edge_of, entry_of, eqb-true, false, fields, filter_map, filter_map-append, first_wrong, flat_map, form_fault, get_or}
use Rattle.policy_text.proofs.Common.{has_label, head_fault, header, is_edge, is_headed, is_label_name, is_labelled, is_name, is_object, is_some, label_line, label_name, label_of, labels_object, length, lines, map, nat_lt, nat_tests}
use Rattle.policy_text.proofs.Common.{number_value-decimal, object_line, object_of, option_map_or, placed, policy_lines, refl, rules, subst, sum_by-append, sym, told, true, true≢false, ℕ, ◌++◌, ◌+◌, ◌<◌, ◌==◌, ◌^◌, ◌∙◌, ◌∷◌, ◌≡◌, ◌≤◌}
use Rattle.cam_base.specs.Texts.{◌⊹◌}
use Rattle.policy_text.specs.declared.kind.Kind.TheVariants as kinds
use Rattle.policy_text.specs.PolicyLines.{policy_text, cert_text}
use Rattle.policy_text.specs.Writable.{IsWritable, IsWritableCert}
use Rattle.policy_text.proofs.Before.{first_wrong-append, has_label-append}
use Rattle.policy_text.proofs.Inserting.{Pairs, or_left}
use Rattle.policy_text.proofs.Judging.{none_then}
use Rattle.policy_text.proofs.Reading.{fault_none}
use Rattle.policy_text.proofs.Rendering.{two_unfed, label_item, object_item, edge_item, label_line-ended, object_line-ended, edge_line-ended, label_row, object_row, edge_row, label_says, object_says, edge_says}
use Rattle.policy_text.proofs.Rows.{ended, IsRow, AreRows, lines-ended, Item, rows_of, told_at, Spells, told-rows, form-rows, after, told_at-append, spells-append, rows-append}
use Rattle.policy_text.proofs.WrittenMeans.{nothing_meant, labels_meant, objects_meant, edges_meant, by_number-rising}
use Rattle.policy_text.proofs.WrittenRight.{labels_right, objects_right, edges_right, any_apart, count_apart, has_label-told}
use Rattle.policy_text.specs.PolicyTexts.{Says}

-- ---- one text out of rows

flat-ended : {X : Type 0} (line : X → List ℕ) (f : X → Item) → ((x : X) → line x ≡ (f x).0 ++ 10 ∷ []) → (xs : List X)
    → flat_map line xs ≡ ended (rows_of (map f xs))
flat-ended line f each [] = refl
flat-ended line f each (x ∷ xs) = ap (λ (t : List ℕ). t ++ flat_map line xs) (each x)
    ∙ ap (λ (t : List ℕ). ((f x).0 ++ 10 ∷ []) ++ t) (flat-ended line f each xs)

ended-append : (xs ys : List Item) → ended (rows_of (xs ++ ys)) ≡ ended (rows_of xs) ++ ended (rows_of ys)
ended-append [] ys = refl
ended-append (x ∷ xs) ys = ap (λ (t : List ℕ). (x.0 ++ 10 ∷ []) ++ t) (ended-append xs ys)
    ∙ sym (append_assoc (x.0 ++ 10 ∷ []) (ended (rows_of xs)) (ended (rows_of ys)))

-- each item's row is one, and says what stands beside it
all_rows : {X : Type 0} (f : X → Item) (xs : List X) → All (λ x. IsRow (f x).0) xs → AreRows (rows_of (map f xs))
all_rows f [] h = tt
all_rows f (x ∷ xs) h = (All-head (λ y. IsRow (f y).0) x xs h, all_rows f xs (All-tail (λ y. IsRow (f y).0) x xs h))

all_say : {X : Type 0} (kind : Kind) (f : X → Item) (xs : List X) → All (λ x. entry_of kind (fields (f x).0) ≡ Some (f x).1) xs
    → Spells kind (map f xs)
all_say kind f [] h = tt
all_say kind f (x ∷ xs) h = (
  All-head (λ y. entry_of kind (fields (f y).0) ≡ Some (f y).1) x xs h,
  all_say kind f xs (All-tail (λ y. entry_of kind (fields (f y).0) ≡ Some (f y).1) x xs h),
)

-- ---- the text of items behind a header

header_row : (kind : Kind) → IsRow (header kind)
header_row kinds.Policy = record { whole = two_unfed (codes "policy") (codes "1") refl refl; tells = refl }
header_row kinds.Certificate = record { whole = two_unfed (codes "certificate") (codes "1") refl refl; tells = refl }

headed : (kind : Kind) (rows : List (List ℕ)) → is_headed kind (placed 0 (header kind ∷ rows)) ≡ true
headed kinds.Policy rows = refl
headed kinds.Certificate rows = refl

head_none : (a b : Bool) (x y : Option TextFault) → a ≡ false → b ≡ true → cond a x (cond b None y) ≡ None
head_none a b x y p q = rw (p, q) refl

abbrev pub start : Kind → ℕ
start kind = 0 + (length (header kind) + 1)

abbrev pub text : Kind → List Item → List ℕ
text kind items = ended (header kind ∷ rows_of items)

the_lines : (kind : Kind) (items : List Item) → AreRows (rows_of items)
    → lines (text kind items) ≡ placed 0 (header kind ∷ rows_of items)
the_lines kind items rows = lines-ended (header kind ∷ rows_of items) (header_row kind, rows)

the_body : (kind : Kind) (items : List Item) → AreRows (rows_of items)
    → body (text kind items) ≡ placed (start kind) (rows_of items)
the_body kind items rows = ap (drop 1) (the_lines kind items rows)

the_told : (kind : Kind) (items : List Item) → AreRows (rows_of items) → Spells kind items
    → told kind (body (text kind items)) ≡ told_at (start kind) items
the_told kind items rows says = ap (told kind) (the_body kind items rows) ∙ told-rows kind (start kind) items says

the_form : (kind : Kind) (items : List Item) → AreRows (rows_of items) → Spells kind items
    → form_fault kind (body (text kind items)) ≡ None
the_form kind items rows says = ap (form_fault kind) (the_body kind items rows) ∙ form-rows kind (start kind) items says

the_head : (kind : Kind) (items : List Item) → AreRows (rows_of items) → length (text kind items) ≤ bytes_limit
    → head_fault kind (text kind items) ≡ None
the_head kind items rows few = search (rules, nat_lt, nat_tests, head_none, the_lines, headed, rows_of)

-- ---- certificates

edges_known : (policy : Policy) (n : ℕ) → n < 2 ^ 64 → is_some (label_name policy.labels n) ≡ true
    → is_labelled policy (decimal n) ≡ true
edges_known policy n few h = ap (λ (o : Option ℕ). option_map_or (λ v. is_some (label_name policy.labels v)) o false)
    (number_value-decimal n few) ∙ h

cert_is : (cert : List Edge) → cert_text cert ≡ text kinds.Certificate (map edge_item cert)
unfolding cert_text ◌⊹◌
cert_is cert = ap (λ (t : List ℕ). codes "certificate 1\n" ++ t) (flat-ended edge_line edge_item edge_line-ended cert)

abbrev Small : List Edge → Type 0
Small es = All (λ e. (e.from < 2 ^ 64) × (e.to < 2 ^ 64)) es

edge_rows : (es : List Edge) → Small es → AreRows (rows_of (map edge_item es))
edge_rows es small = all_rows edge_item es (λ k d lt. let few = small k d lt in edge_row _ few.0 few.1)

edges_say : (kind : Kind) (es : List Edge) → Small es → Spells kind (map edge_item es)
edges_say kind es small = all_say kind edge_item es (λ k d lt. let few = small k d lt in edge_says kind _ few.0 few.1)

pub cert_back : (policy : Policy) (cert : List Edge) → IsWritableCert policy cert → IsCertText policy (cert_text cert) cert
cert_back policy cert w =
    let small : Small cert = λ k d lt. let few = w.small k d lt in (omega arith, omega arith) in
    let items = map edge_item cert in
    let rows = edge_rows cert small in
    let says = edges_say kinds.Certificate cert small in
    let is = the_told kinds.Certificate items rows says in
    let known : All (λ e. (is_labelled policy (decimal e.from) ≡ true) × (is_labelled policy (decimal e.to) ≡ true)) cert =
    search (rules, edges_known) in
    let right = ap (first_wrong (is_labelled policy) []) is ∙ edges_right (is_labelled policy) [] (start kinds.Certificate) cert
    known (omega (arith, w.edges)) in
    let few : length (text kinds.Certificate items) ≤ bytes_limit = search (rules, cert_is) in
    let back : IsCertText policy (text kinds.Certificate items) cert =
    search (rules, fault_none, the_head, the_form, edges_meant) in
    subst (λ (t : List ℕ). IsCertText policy t cert) (sym (cert_is cert)) back

-- ---- policies

abbrev policy_items : Policy → List Item
policy_items p = map label_item p.labels ++ (map object_item p.objects ++ map edge_item p.edges)

three-ended : (p : Policy) → flat_map label_line p.labels ++ (flat_map object_line p.objects ++ flat_map edge_line p.edges)
    ≡ ended (rows_of (policy_items p))
three-ended p =
    ap (λ (t : List ℕ). t ++ (flat_map object_line p.objects ++ flat_map edge_line p.edges))
    (flat-ended label_line label_item label_line-ended p.labels)
    ∙ ap (λ (t : List ℕ). ended (rows_of (map label_item p.labels)) ++ (t ++ flat_map edge_line p.edges))
    (flat-ended object_line object_item object_line-ended p.objects)
    ∙ ap (λ (t : List ℕ). ended (rows_of (map label_item p.labels)) ++ (ended (rows_of (map object_item p.objects)) ++ t))
    (flat-ended edge_line edge_item edge_line-ended p.edges)
    ∙ ap (λ (t : List ℕ). ended (rows_of (map label_item p.labels)) ++ t)
    (sym (ended-append (map object_item p.objects) (map edge_item p.edges)))
    ∙ sym (ended-append (map label_item p.labels) (map object_item p.objects ++ map edge_item p.edges))

policy_is : (p : Policy) → policy_text p ≡ text kinds.Policy (policy_items p)
unfolding policy_text ◌⊹◌
policy_is p = search (rules, append_assoc, three-ended)

-- numbers that labels have are small
named_small : (ls : Pairs) (n : ℕ) → All (λ l. l.0 < 8192) ls → is_some (label_name ls n) ≡ true → n < 8192
named_small [] n few h = absurd (true≢false (sym h))
named_small (l ∷ ls) n few h = go (l.0 == n) refl (λ k. named_small ls n (All-tail (λ m. m.0 < 8192) l ls few) k)
  where
    go : (b : Bool) → (l.0 == n) ≡ b → (is_some (label_name ls n) ≡ true → n < 8192) → n < 8192
    go true e rest = let here = All-head (λ m. m.0 < 8192) l ls few in let same : l.0 ≡ n = eqb-true l.0 n e in omega arith
    go false e rest = rest (rw e at h)

three_right : (knows : Number → Bool) (xs ys zs : List Told) → first_wrong knows [] xs ≡ None → first_wrong knows xs ys ≡ None
    → first_wrong knows (xs ++ ys) zs ≡ None → first_wrong knows [] (xs ++ (ys ++ zs)) ≡ None
three_right knows xs ys zs a b c = search (rules, first_wrong-append, none_then)

three_meant : {Y : Type 0} (h : Told → Option Y) (xs ys zs : List Told) → filter_map h (xs ++ (ys ++ zs)) ≡ filter_map h xs
    ++ (filter_map h ys ++ filter_map h zs)
three_meant h xs ys zs = filter_map-append h xs (ys ++ zs) ∙ ap (λ t. filter_map h xs ++ t) (filter_map-append h ys zs)

-- one of three lists is all
first_of : {Y : Type 0} (xs : List Y) → xs ++ ([] ++ []) ≡ xs
first_of xs = append-nil xs

second_of : {Y : Type 0} (xs : List Y) → [] ++ (xs ++ []) ≡ xs
second_of xs = append-nil xs

-- the entries of a written policy
record Laid (p : Policy) : Type 0 where
  few : All (λ l. l.0 < 8192) p.labels
  labels : All (λ l. is_label_name l.1 ≡ true) p.labels
  names : All (λ o. is_name o.0 ≡ true) p.objects
  objects : All (λ o. is_some (label_name p.labels o.1) ≡ true) p.objects
  from : All (λ e. is_some (label_name p.labels e.from) ≡ true) p.edges
  to : All (λ e. is_some (label_name p.labels e.to) ≡ true) p.edges

laid : (p : Policy) → IsPolicy p → IsWritable p → Laid p
laid p kept w = search (rules)

small_of : (p : Policy) (n : ℕ) → Laid p → is_some (label_name p.labels n) ≡ true → n < 2 ^ 64
small_of p n h named = let few = named_small p.labels n h.few named in omega arith

small_edges : (p : Policy) → Laid p → Small p.edges
small_edges p h = λ k d lt. (
  small_of p (get_or p.edges k d).from h (h.from k d lt),
  small_of p (get_or p.edges k d).to h
      (h.to k d lt),
)

small_objects : (p : Policy) → Laid p → All (λ o. o.1 < 2 ^ 64) p.objects
small_objects p h = λ k d lt. small_of p (get_or p.objects k d).1 h (h.objects k d lt)

small_labels : (p : Policy) → Laid p → All (λ l. l.0 < 2 ^ 64) p.labels
small_labels p h = λ k d lt. let few : (get_or p.labels k d).0 < 8192 = h.few k d lt in omega arith

policy_rows : (p : Policy) → Laid p → AreRows (rows_of (policy_items p))
policy_rows p h =
    rows-append (map label_item p.labels) (map object_item p.objects ++ map edge_item p.edges)
    (all_rows label_item p.labels (λ k d lt. label_row (get_or p.labels k d) (small_labels p h k d lt) (h.labels k d lt)))
    (rows-append (map object_item p.objects) (map edge_item p.edges)
    (all_rows object_item p.objects (λ k d lt. object_row (get_or p.objects k d) (small_objects p h k d lt) (h.names k d lt)))
    (edge_rows p.edges (small_edges p h)))

policy_spells : (p : Policy) → Laid p → Spells kinds.Policy (policy_items p)
policy_spells p h =
    spells-append kinds.Policy (map label_item p.labels) (map object_item p.objects ++ map edge_item p.edges)
    (all_say kinds.Policy label_item p.labels (λ k d lt. label_says (get_or p.labels k d) (small_labels p h k d lt)
    (h.labels k d lt)))
    (spells-append kinds.Policy (map object_item p.objects) (map edge_item p.edges)
    (all_say kinds.Policy object_item p.objects (λ k d lt. object_says (get_or p.objects k d) (small_objects p h k d lt)
    (h.names k d lt))) (edges_say kinds.Policy p.edges (small_edges p h)))

-- the lines of labels, of objects, and of edges
module _ (p : Policy) where
  at_labels : ℕ
  at_labels = start kinds.Policy

  at_objects : ℕ
  at_objects = after (start kinds.Policy) (map label_item p.labels)

  at_edges : ℕ
  at_edges = after at_objects (map object_item p.objects)

  abbrev label_lines : List Told
  label_lines = told_at (start kinds.Policy) (map label_item p.labels)

  abbrev object_lines : List Told
  object_lines = told_at at_objects (map object_item p.objects)

  abbrev edge_lines : List Told
  edge_lines = told_at at_edges (map edge_item p.edges)

  abbrev all_lines : List Told
  all_lines = label_lines ++ (object_lines ++ edge_lines)

  told_in_parts : told_at (start kinds.Policy) (policy_items p) ≡ all_lines
  unfolding at_objects at_edges
  told_in_parts = search (rules, told_at-append, label_item, object_item, edge_item, at_objects)

  known : (n : ℕ) → is_some (label_name p.labels n) ≡ true → has_label all_lines (decimal n) ≡ true
  known n h = has_label-append label_lines (object_lines ++ edge_lines) (decimal n)
      ∙ or_left (has_label (object_lines ++ edge_lines) (decimal n)) (has_label-told (start kinds.Policy) p.labels n h)

  all_right : IsPolicy p → IsWritable p → first_wrong (has_label all_lines) [] all_lines ≡ None
  all_right kept w =
      let h = laid p kept w in
      let no_objects = count_apart is_object label_item (λ l. refl) (start kinds.Policy) p.labels in
      let no_edges = count_apart is_edge label_item (λ l. refl) (start kinds.Policy) p.labels in
      let no_edges' = count_apart is_edge object_item (λ o. refl) at_objects p.objects in
      let both : count_by (λ (t : Told). is_edge t.1) (label_lines ++ object_lines) ≡ count_by (λ (t : Told). is_edge t.1)
      label_lines + count_by (λ (t : Told). is_edge t.1) object_lines =
      sum_by-append (λ (t : Told). cond (is_edge t.1) 1 0) label_lines object_lines in
      three_right (has_label all_lines) label_lines object_lines edge_lines
      (labels_right (has_label all_lines) [] (start kinds.Policy) p.labels w.rising w.numbers kept.names
      (λ k d lt. record { number = refl; name = refl }) (omega (arith, w.labels)))
      (objects_right (has_label all_lines) label_lines at_objects p.objects
      (λ k d lt. known (get_or p.objects k d).1 (h.objects k d lt)) w.names kept.objects
      (λ k d lt. any_apart (labels_object (get_or p.objects k d).0) label_item (λ l. refl) (start kinds.Policy) p.labels)
      (omega (arith, no_objects, w.objects)))
      (edges_right (has_label all_lines) (label_lines ++ object_lines) at_edges p.edges
      (λ k d lt. (known (get_or p.edges k d).from (h.from k d lt), known (get_or p.edges k d).to (h.to k d lt)))
      (omega (arith, no_edges, no_edges', both, w.edges)))

  labels_back : Laid p → filter_map label_of all_lines ≡ p.labels
  labels_back h =
      three_meant label_of label_lines object_lines edge_lines
      ∙ ap (λ (ls : Pairs). ls ++ (filter_map label_of object_lines ++ filter_map label_of edge_lines))
      (labels_meant (start kinds.Policy) p.labels (small_labels p h))
      ∙ ap (λ (ls : Pairs). p.labels ++ (ls ++ filter_map label_of edge_lines)) (nothing_meant label_of object_item
      (λ line o. refl) at_objects p.objects)
      ∙ ap (λ (ls : Pairs). p.labels ++ ([] ++ ls)) (nothing_meant label_of edge_item (λ line e. refl) at_edges p.edges)
      ∙ first_of p.labels

  objects_back : Laid p → filter_map object_of all_lines ≡ p.objects
  objects_back h =
      three_meant object_of label_lines object_lines edge_lines
      ∙ ap (λ (os : List (List ℕ × ℕ)). os ++ (filter_map object_of object_lines ++ filter_map object_of edge_lines))
      (nothing_meant object_of label_item (λ line l. refl) (start kinds.Policy) p.labels)
      ∙ ap (λ (os : List (List ℕ × ℕ)). [] ++ (os ++ filter_map object_of edge_lines))
      (objects_meant at_objects p.objects (small_objects p h))
      ∙ ap (λ (os : List (List ℕ × ℕ)). [] ++ (p.objects ++ os)) (nothing_meant object_of edge_item (λ line e. refl)
      at_edges p.edges)
      ∙ second_of p.objects

  edges_back : Laid p → filter_map edge_of all_lines ≡ p.edges
  edges_back h =
      search (rules, three_meant, nothing_meant, label_item, object_item, at_objects, edges_meant, at_edges, small_edges)

  says_back : IsPolicy p → IsWritable p → Says all_lines p
  says_back kept w = search (rules, laid, labels_back, by_number-rising, objects_back, edges_back)

pub policy_back : (p : Policy) → IsPolicy p → IsWritable p → IsPolicyText (policy_text p) p
policy_back p kept w =
    let h = laid p kept w in
    let items = policy_items p in
    let rows = policy_rows p h in
    let says = policy_spells p h in
    let is = the_told kinds.Policy items rows says ∙ told_in_parts p in
    let few : length (text kinds.Policy items) ≤ bytes_limit = search (rules, policy_is) in
    let right = subst (λ (ts : List Told). first_wrong (has_label ts) [] ts ≡ None) (sym is) (all_right p kept w) in
    let back : IsPolicyText (text kinds.Policy items) p = (
      fault_none kinds.Policy (has_label (policy_lines (text kinds.Policy items))) (text kinds.Policy items)
          (the_head kinds.Policy items rows few) (the_form kinds.Policy items rows says) right,
      subst (λ (ts : List Told). Says ts p) (sym is) (says_back p kept w),
    ) in
    subst (λ (t : List ℕ). IsPolicyText t p) (sym (policy_is p)) back
