-- What lines say together, after one line more.
use Rattle.policy_text.proofs.Common.{Authority, Builds, Err, IsBuilt, Line, List, NoMemory, None, Ok, OnOk, Option, Parts, Result, Some, Told, [], ap, append-nil, built_edge, built_label, built_object, by_number, edge, false, filter_map}
use Rattle.policy_text.proofs.Common.{filter_map-append, fold-append, insert_entry, is_name, label, narrow, nat_cmp, object, refl, rules, sym, true, ℕ, ◌++◌, ◌∙◌, ◌∷◌, ◌≡◌}

one_more : {Y : Type 0} (h : Told → Option Y) (before : List Told) (t : Told) (y : Y) → h t ≡ Some y
    → filter_map h (before ++ t ∷ []) ≡ filter_map h before ++ y ∷ []
one_more h before t y is = filter_map-append h before (t ∷ []) ∙ rw is refl

none_more : {Y : Type 0} (h : Told → Option Y) (before : List Told) (t : Told) → h t ≡ None
    → filter_map h (before ++ t ∷ []) ≡ filter_map h before
none_more h before t is = filter_map-append h before (t ∷ []) ∙ rw is (append-nil (filter_map h before))

pub by_number_more : (pairs : List (ℕ × List ℕ)) (n : ℕ) (name : List ℕ)
    → by_number (pairs ++ (n, name) ∷ []) ≡ insert_entry nat_cmp (by_number pairs) n name
by_number_more pairs n name = fold-append _ [] pairs ((n, name) ∷ [])

pub built_label_more : (old new : Parts) (before : List Told) (line : Line) (n name : List ℕ) → IsBuilt old before
    → new.labels.entries ≡ insert_entry nat_cmp old.labels.entries (narrow n) name
    → new.objects ≡ old.objects → new.edges.items ≡ old.edges.items → IsBuilt new (before ++ (line, label n name) ∷ [])
built_label_more old new before line n name built inserted objects edges = record {
  labels = inserted ∙ ap (λ m. insert_entry nat_cmp m (narrow n) name) built.labels
      ∙ sym (by_number_more (filter_map built_label before) (narrow n) name)
      ∙ ap by_number (sym (one_more built_label before (line, label n name) (narrow n, name) refl));
  objects = objects ∙ built.objects ∙ sym (none_more built_object before (line, label n name) refl);
  edges = edges ∙ built.edges ∙ sym (none_more built_edge before (line, label n name) refl);
}

pub built_object_more : (old new : Parts) (before : List Told) (line : Line) (word n : List ℕ) → IsBuilt old before
    → is_name word ≡ true → new.labels.entries ≡ old.labels.entries
    → new.objects ≡ old.objects ++ (word, narrow n) ∷ [] → new.edges.items ≡ old.edges.items
    → IsBuilt new (before ++ (line, object word n) ∷ [])
built_object_more old new before line word n built name labels objects edges = search (rules, none_more, one_more)

pub built_object_none : (old : Parts) (before : List Told) (line : Line) (word n : List ℕ) → IsBuilt old before
    → is_name word ≡ false → IsBuilt old (before ++ (line, object word n) ∷ [])
built_object_none old before line word n built name = search (rules, none_more)

pub built_edge_more : (old new : Parts) (before : List Told) (line : Line) (l : List ℕ) (a : Authority) (m : List ℕ)
    → IsBuilt old before → new.labels.entries ≡ old.labels.entries
    → new.objects ≡ old.objects → new.edges.items ≡ old.edges.items ++ record { from = narrow l; authority = a; to = narrow m }
    ∷ [] → IsBuilt new (before ++ (line, edge l a m) ∷ [])
built_edge_more old new before line l a m built labels objects edges = search (rules, none_more, one_more)

pub builds_object : (old : Parts) (objects : List (List ℕ × ℕ)) (word n : List ℕ) (r : Result (Unit {0}) NoMemory)
    → is_name word ≡ true → OnOk r (objects ≡ old.objects ++ (word, narrow n) ∷ [])
    → OnOk r (Builds (object word n) old (record { labels = old.labels; objects = objects; edges = old.edges }))
builds_object old objects word n (Ok x) name pushed = λ before line built. built_object_more old _ before line word n built name
    refl pushed refl
builds_object old objects word n (Err e) name pushed = tt
