-- What is kept of the lines so far, after one line more.
use Rattle.policy_text.proofs.Common.{Authority, Bool, Entry, Err, HasEdges, HasFewEdges, HasRoom, IfSome, IsAdded, IsSeen, Line, List, NoMemory, None, Number, Ok, OnOk, Option, Result, Seen, Some, Takes, Told, Words, [], ap, arith, bytes_eq, cond, rules}
use Rattle.policy_text.proofs.Common.{count_by, edge, edges_limit, false, gives, is_edge, is_label, is_new_edge, is_object, label, labels_object, list_any, names_label, nat_le, new_edges, not, object, refl, says_edge, subst, sum_by-append, sym, true}
use Rattle.policy_text.proofs.Common.{wrong_entry, ℕ, ◌&&◌, ◌++◌, ◌+◌, ◌||◌, ◌∙◌, ◌∷◌, ◌≡◌, ◌≤◌}
use Rattle.policy_text.proofs.Before.{any_more, count_more, edges_more, one_if}
use Rattle.policy_text.specs.WordSets.{has}

-- a label that isn't wrong has a number that no line in front of it has
fresh_label : (knows : Number → Bool) (before : List Told) (line : Line) (n name : List ℕ)
    → wrong_entry knows before line (label n name) ≡ None → list_any (λ t. gives n t.1) before ≡ false
fresh_label knows before line n name none = search (rules)

fresh_object : (knows : Number → Bool) (before : List Told) (line : Line) (word n : List ℕ)
    → wrong_entry knows before line (object word n) ≡ None → list_any (λ t. labels_object word t.1) before ≡ false
fresh_object knows before line word n none = search (rules)

-- a set and the list that it stands for grow together
grown : (p : List ℕ → Told → Bool) (before : List Told) (t : Told) (word : List ℕ) (old new : Words)
    → ((other : List ℕ) → p other t ≡ bytes_eq word other)
    → IsAdded word old new → ((other : List ℕ) → has old other ≡ list_any (p other) before) → (other : List ℕ)
    → has new other ≡ list_any (p other) (before ++ t ∷ [])
grown p before t word old new same added so_far other = search (rules, any_more)

-- a set to which the line says nothing
kept : (p : List ℕ → Told → Bool) (before : List Told) (t : Told) (set : Words) → ((other : List ℕ) → p other t ≡ false)
    → ((other : List ℕ) → has set other ≡ list_any (p other) before) → (other : List ℕ)
    → has set other ≡ list_any (p other) (before ++ t ∷ [])
kept p before t set apart so_far other = so_far other ∙ ap (λ b. b || list_any (p other) before) (sym (apart other))
    ∙ sym (any_more (p other) before t)

counted : (p : Told → Bool) (before : List Told) (t : Told) (word : List ℕ) (old new : Words) → p t ≡ true → has old word ≡ false
    → IsAdded word old new
    → old.len ≡ count_by p before → new.len ≡ count_by p (before ++ t ∷ [])
counted p before t word old new is fresh added so_far = search (rules, count_more)

uncounted : (p : Told → Bool) (before : List Told) (t : Told) (set : Words) → p t ≡ false → set.len ≡ count_by p before
    → set.len ≡ count_by p (before ++ t ∷ [])
uncounted p before t set is so_far = let more : ◌≡◌ {A = ℕ} (cond (p t) 1 0) 0 = ap (λ (b : Bool). cond b 1 0) is in
    omega (arith, more, so_far, count_more p before t)

-- a line that says no edge
edges_kept : (before : List Told) (t : Told) (o : Option Words) → ((other : List ℕ) → says_edge other t ≡ false)
    → new_edges [] (before ++ t ∷ []) ≡ new_edges [] before + 0
    → IfSome o (HasEdges before) → IfSome o (HasEdges (before ++ t ∷ []))
edges_kept before t None apart more h = tt
edges_kept before t (Some set) apart more h = record {
  each = kept says_edge before t set apart h.each;
  len = (let l = h.len in omega arith);
}

-- the edge is added where edges are kept
abbrev pub AddsEdge : List ℕ → Option Words → Option Words → Type 0
AddsEdge text None new = new ≡ None
AddsEdge text (Some old) None = ⊥
AddsEdge text (Some old) (Some new) = IsAdded text old new

pub seen_label : (old : Seen) (numbers names : Words) (before : List Told) (knows : Number → Bool) (line : Line) (n name : List ℕ)
    → IsSeen old before
    → IsAdded n old.numbers numbers → IsAdded name old.names names → wrong_entry knows before line (label n name) ≡ None
    → IsSeen (record { numbers = numbers; names = names; objects = old.objects; edges = old.edges })
    (before ++ (line, label n name) ∷ [])
seen_label old numbers names before knows line n name seen number_added name_added none = record {
  numbers = grown (λ other t. gives other t.1) before (line, label n name) n old.numbers numbers (λ other. refl) number_added
      seen.numbers;
  names = grown (λ other t. names_label other t.1) before (line, label n name) name old.names names (λ other. refl)
      name_added seen.names;
  objects = kept (λ other t. labels_object other t.1) before (line, label n name) old.objects (λ other. refl) seen.objects;
  edges = edges_kept before (line, label n name) old.edges (λ other. refl) (edges_more [] before (line, label n name)) seen.edges;
  labels_len = counted (λ t. is_label t.1) before (line, label n name) n old.numbers numbers refl (seen.numbers n
      ∙ fresh_label knows before line n name none) number_added seen.labels_len;
  objects_len = uncounted (λ t. is_object t.1) before (line, label n name) old.objects refl seen.objects_len;
}

pub seen_object : (old : Seen) (objects : Words) (before : List Told) (knows : Number → Bool) (line : Line) (word n : List ℕ)
    → IsSeen old before
    → IsAdded word old.objects objects → wrong_entry knows before line (object word n) ≡ None
    → IsSeen (record { numbers = old.numbers; names = old.names; objects = objects; edges = old.edges })
    (before ++ (line, object word n) ∷ [])
seen_object old objects before knows line word n seen added none = record {
  numbers = kept (λ other t. gives other t.1) before (line, object word n) old.numbers (λ other. refl) seen.numbers;
  names = kept (λ other t. names_label other t.1) before (line, object word n) old.names (λ other. refl) seen.names;
  objects = grown (λ other t. labels_object other t.1) before (line, object word n) word old.objects objects (λ other. refl) added
      seen.objects;
  edges = edges_kept before (line, object word n) old.edges (λ other. refl)
      (edges_more [] before (line, object word n)) seen.edges;
  labels_len = uncounted (λ t. is_label t.1) before (line, object word n) old.numbers refl seen.labels_len;
  objects_len = counted (λ t. is_object t.1) before (line, object word n) word old.objects objects refl (seen.objects word
      ∙ fresh_object knows before line word n none) added seen.objects_len;
}

-- an edge more, unless it is there
edge_counted : (b : Bool) → ◌≡◌ {A = ℕ} (cond b 0 1) (cond (not b) 1 0)
edge_counted true = refl
edge_counted false = refl

edges_grown : (before : List Told) (line : Line) (l : List ℕ) (a : Authority) (m : List ℕ) (o n : Option Words)
    → AddsEdge line.text o n → IfSome o (HasEdges before)
    → IfSome n (HasEdges (before ++ (line, edge l a m) ∷ []))
edges_grown before line l a m None None adds h = tt
edges_grown before line l a m (Some old) (Some new) added h = record {
  each = grown says_edge before (line, edge l a m) line.text old new (λ other. refl) added h.each;
  len = search (rules, edge_counted, edges_more);
}
edges_grown before line l a m _ _ adds h = absurd (search rules)

pub seen_edge : (old : Seen) (edges : Option Words) (before : List Told) (line : Line) (l : List ℕ) (a : Authority) (m : List ℕ)
    → IsSeen old before
    → AddsEdge line.text old.edges edges → IsSeen (record {
      numbers = old.numbers;
      names = old.names;
      objects = old.objects;
      edges = edges;
    }) (before ++ (line, edge l a m) ∷ [])
seen_edge old edges before line l a m seen adds = record {
  numbers = kept (λ other t. gives other t.1) before (line, edge l a m) old.numbers (λ other. refl) seen.numbers;
  names = kept (λ other t. names_label other t.1) before (line, edge l a m) old.names (λ other. refl) seen.names;
  objects = kept (λ other t. labels_object other t.1) before (line, edge l a m) old.objects (λ other. refl) seen.objects;
  edges = edges_grown before line l a m old.edges edges adds seen.edges;
  labels_len = uncounted (λ t. is_label t.1) before (line, edge l a m) old.numbers refl seen.labels_len;
  objects_len = uncounted (λ t. is_object t.1) before (line, edge l a m) old.objects refl seen.objects_len;
}

-- ---- one line is taken in

takes_same : (entry other : Entry) (text : List ℕ) (old new : Seen) → entry ≡ other → Takes other text old new
    → Takes entry text old new
takes_same entry other text old new is h = subst (λ (e : Entry). Takes e text old new) (sym is) h

pub takes_label : (old : Seen) (numbers names : Words) (text : List ℕ) (entry : Entry) (n name : List ℕ)
    (r : Result (Unit {0}) NoMemory) → entry ≡ label n name → IsAdded n old.numbers numbers
    → OnOk r (IsAdded name old.names names)
    → OnOk r (Takes entry text old (record { numbers = numbers; names = names; objects = old.objects; edges = old.edges }))
takes_label old numbers names text entry n name (Ok x) is number_added added = search (rules, takes_same, seen_label)
takes_label old numbers names text entry n name (Err e) is number_added added = tt

pub takes_object : (old : Seen) (objects : Words) (text : List ℕ) (entry : Entry) (word n : List ℕ)
    (r : Result (Unit {0}) NoMemory) → entry ≡ object word n
    → OnOk r (IsAdded word old.objects objects)
    → OnOk r (Takes entry text old (record {
      numbers = old.numbers;
      names = old.names;
      objects = objects;
      edges = old.edges;
    }))
takes_object old objects text entry word n (Ok x) is added = takes_same entry (object word n) text old _ is
    (λ before knows line same seen none. seen_object old objects before knows line word n seen added none)
takes_object old objects text entry word n (Err e) is added = tt

pub takes_edge : (old : Seen) (edges : Option Words) (text : List ℕ) (entry : Entry) (l : List ℕ) (a : Authority) (m : List ℕ)
    (r : Result (Unit {0}) NoMemory) → entry ≡ edge l a m
    → OnOk r (AddsEdge text old.edges edges)
    → OnOk r (Takes entry text old (record {
      numbers = old.numbers;
      names = old.names;
      objects = old.objects;
      edges = edges;
    }))
takes_edge old edges text entry l a m (Ok x) is added =
    takes_same entry (edge l a m) text old _ is
    (λ before knows line same seen none. seen_edge old edges before line l a m seen
    (subst (λ (t : List ℕ). AddsEdge t old.edges edges) (sym same) added))
takes_edge old edges text entry l a m (Err e) is added = tt

-- ---- how many edges there are

few_new : (b c : Bool) → one_if (b && c) ≤ one_if b
few_new true false = omega arith
few_new _ _ = omega arith

pub new_edges_most : (before ts : List Told) → new_edges before ts ≤ count_by (λ t. is_edge t.1) ts
new_edges_most before [] = omega arith
new_edges_most before (t ∷ ts) =
    let rest : new_edges (before ++ t ∷ []) ts ≤ count_by (λ t. is_edge t.1) ts = new_edges_most (before ++ t ∷ []) ts in
    let one : one_if (is_new_edge before t) ≤ one_if (is_edge t.1) = search (rules, few_new) in
    let step : count_by (λ t. is_edge t.1) (t ∷ ts) ≡ (0 + one_if (is_edge t.1)) + count_by (λ t. is_edge t.1) ts =
    sum_by-append (λ t. cond (is_edge t.1) 1 0) (t ∷ []) ts in
    omega (arith, rest, one, step)

never : (b : Bool) (n : ℕ) → n + 1 ≤ edges_limit → (not b && nat_le edges_limit n) ≡ false
never true n less = refl
never false n less = grind arith

-- with few edge lines in front of it none is past the limit
pub none_past : (before : List Told) (text : List ℕ) → HasRoom before
    → (not (list_any (says_edge text) before) && nat_le edges_limit (new_edges [] before)) ≡ false
none_past before text room = never (list_any (says_edge text) before) (new_edges [] before)
    (let most = new_edges_most [] before in let r = room in omega arith)

pub room_for : (before : List Told) (line : Line) (l : List ℕ) (a : Authority) (m : List ℕ)
    → HasFewEdges (before ++ (line, edge l a m) ∷ []) → HasRoom before
room_for before line l a m few = let more = count_more (λ t. is_edge t.1) before (line, edge l a m) in let f = few in omega arith

pub adds_some : (text : List ℕ) (o : Option Words) (old new : Words) (r : Result (Unit {0}) NoMemory) → o ≡ Some old
    → OnOk r (IsAdded text old new) → OnOk r (AddsEdge text o (Some new))
adds_some text o old new r is added = subst (λ (p : Option Words). OnOk r (AddsEdge text p (Some new))) (sym is) added
