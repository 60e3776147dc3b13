-- What the lines mean that are written of a policy or a certificate.
use Rattle.policy_text.proofs.Common.{All, All-head, All-nil, All-push, All-tail, All-weaker, AllPairs, Edge, Line, List, None, Option, Told, [], ap, append-nil, append_assoc, arith, by_number, decimal, edge_of, filter_map, fold, insert_entry}
use Rattle.policy_text.proofs.Common.{label_of, label_value, length, map, nat_cmp, number_value-decimal, object_of, refl, rules, suc, sym, unwrap_or, ℕ, ◌++◌, ◌+◌, ◌<◌, ◌^◌, ◌∙◌, ◌∷◌, ◌≡◌}
use Rattle.policy_text.proofs.Inserting.{Pairs, insert_by}
use Rattle.policy_text.proofs.Rendering.{label_item, object_item, edge_item}
use Rattle.policy_text.proofs.Rows.{Item, line_at, told_at}

label_value-decimal : (n : ℕ) → n < 2 ^ 64 → label_value (decimal n) ≡ n
label_value-decimal n h = ap (λ (o : Option ℕ). unwrap_or o 0) (number_value-decimal n h)

-- lines of another kind mean nothing
pub nothing_meant : {X Y : Type 0} (h : Told → Option Y) (f : X → Item) → ((line : Line) (x : X) → h (line, (f x).1) ≡ None)
    → (at : ℕ) (xs : List X) → filter_map h (told_at at (map f xs)) ≡ []
nothing_meant h f none at [] = refl
nothing_meant h f none at (x ∷ xs) = rw (none (line_at at (f x).0) x) (nothing_meant h f none (at + (length (f x).0 + 1)) xs)

pub labels_meant : (at : ℕ) (ls : Pairs) → All (λ l. l.0 < 2 ^ 64) ls → filter_map label_of (told_at at (map label_item ls)) ≡ ls
labels_meant at [] small = refl
labels_meant at (l ∷ ls) small =
    ap (λ (v : ℕ). (v, l.1) ∷ filter_map label_of (told_at (at + (length (label_item l).0 + 1)) (map label_item ls)))
    (label_value-decimal l.0 (All-head (λ m. m.0 < 2 ^ 64) l ls small))
    ∙ ap (λ (rest : Pairs). l ∷ rest) (labels_meant (at + (length (label_item l).0 + 1)) ls
    (All-tail (λ m. m.0 < 2 ^ 64) l ls small))

pub objects_meant : (at : ℕ) (os : List (List ℕ × ℕ)) → All (λ o. o.1 < 2 ^ 64) os
    → filter_map object_of (told_at at (map object_item os)) ≡ os
objects_meant at [] small = refl
objects_meant at (o ∷ os) small =
    ap (λ (v : ℕ). (o.0, v) ∷ filter_map object_of (told_at (at + (length (object_item o).0 + 1)) (map object_item os)))
    (label_value-decimal o.1 (All-head (λ p. p.1 < 2 ^ 64) o os small))
    ∙ ap (λ (rest : List (List ℕ × ℕ)). o ∷ rest) (objects_meant (at + (length (object_item o).0 + 1)) os
    (All-tail (λ p. p.1 < 2 ^ 64) o os small))

edge_at : (l m : ℕ) (e : Edge) → l ≡ e.from → m ≡ e.to → ◌≡◌ {A = Edge} (record { from = l; authority = e.authority; to = m }) e
edge_at l m e p q = search (rules)

pub edges_meant : (at : ℕ) (es : List Edge) → All (λ e. (e.from < 2 ^ 64) × (e.to < 2 ^ 64)) es
    → filter_map edge_of (told_at at (map edge_item es)) ≡ es
edges_meant at [] small = refl
edges_meant at (e ∷ es) small =
    let here = All-head (λ d. (d.from < 2 ^ 64) × (d.to < 2 ^ 64)) e es small in
    ap (λ (d : Edge). d ∷ filter_map edge_of (told_at (at + (length (edge_item e).0 + 1)) (map edge_item es)))
    (edge_at (label_value (decimal e.from)) (label_value (decimal e.to)) e (label_value-decimal e.from here.0)
    (label_value-decimal e.to here.1))
    ∙ ap (λ (rest : List Edge). e ∷ rest) (edges_meant (at + (length (edge_item e).0 + 1)) es
    (All-tail (λ d. (d.from < 2 ^ 64) × (d.to < 2 ^ 64)) e es small))

-- ---- labels that rise stand by number

insert_last : (es : Pairs) (k : ℕ) (v : List ℕ) → All (λ e. e.0 < k) es → insert_entry nat_cmp es k v ≡ es ++ (k, v) ∷ []
insert_last [] k v below = refl
insert_last (e ∷ es) k v below =
    let lt = All-head (λ d. d.0 < k) e es below in
    insert_by k v e es (λ l. l ≡ e ∷ (es ++ (k, v) ∷ [])) (λ less. absurd (omega arith)) (λ same. absurd (omega arith))
    (λ more. ap (λ (rest : Pairs). e ∷ rest) (insert_last es k v (All-tail (λ d. d.0 < k) e es below)))

inserts_last : (es ls : Pairs) → AllPairs (λ l m. l.0 < m.0) ls → All (λ e. All (λ m. e.0 < m.0) ls) es
    → fold (λ sorted l. insert_entry nat_cmp sorted l.0 l.1) es ls ≡ es ++ ls
inserts_last es [] rising below = sym (append-nil es)
inserts_last es (l ∷ ls) rising below =
    ap (λ (m : Pairs). fold (λ sorted l. insert_entry nat_cmp sorted l.0 l.1) m ls)
    (insert_last es l.0 l.1 (All-weaker (λ e. All (λ m. e.0 < m.0) (l ∷ ls)) (λ e. e.0 < l.0)
    (λ e h. All-head (λ m. e.0 < m.0) l ls h) es below))
    ∙ inserts_last (es ++ l ∷ []) ls (λ i j d lt within. rising (suc i) (suc j) d (omega arith) (omega arith))
    (All-push (λ e. All (λ m. e.0 < m.0) ls) es l (All-weaker (λ e. All (λ m. e.0 < m.0) (l ∷ ls)) (λ e. All (λ m. e.0 < m.0) ls)
    (λ e h. All-tail (λ m. e.0 < m.0) l ls h) es below)
    (λ k d lt. rising 0 (suc k) d (omega arith) (omega arith)))
    ∙ append_assoc es (l ∷ []) ls

pub by_number-rising : (ls : Pairs) → AllPairs (λ l m. l.0 < m.0) ls → by_number ls ≡ ls
by_number-rising ls rising = inserts_last [] ls rising (All-nil (λ e. All (λ m. e.0 < m.0) ls))
