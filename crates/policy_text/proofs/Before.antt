-- One line more behind others, and lines in two parts.
use Rattle.policy_text.proofs.Common.{Bool, Entry, Kind, Line, List, None, Number, Some, Told, [], ap, append-nil, append_assoc, arith, cond, count_by, false, fault_at, filter_map-append, first_wrong, form_fault, has_label, is_new_edge}
use Rattle.policy_text.proofs.Common.{list_any, list_any-append, new_edges, option_or, option_or-assoc, or-false, or_comm, refl, rules, said, sum_by-append, sym, told, told_of, true, ℕ, ◌++◌, ◌+◌, ◌||◌, ◌∙◌, ◌∷◌, ◌≡◌}

-- ---- one more

pub any_more : {X : Type 0} (p : X → Bool) (xs : List X) (x : X) → list_any p (xs ++ x ∷ []) ≡ (p x || list_any p xs)
any_more p xs x = list_any-append p xs (x ∷ []) ∙ ap (λ b. list_any p xs || b) (or-false (p x)) ∙ or_comm (list_any p xs) (p x)

pub count_more : {X : Type 0} (p : X → Bool) (xs : List X) (x : X) → count_by p (xs ++ x ∷ []) ≡ count_by p xs + cond (p x) 1 0
count_more p xs x = omega (arith, sum_by-append (λ y. cond (p y) 1 0) xs (x ∷ []))

-- how many a test adds
abbrev pub one_if : Bool → ℕ
one_if b = cond b 1 0

pub edges_more : (before ts : List Told) (t : Told) → new_edges before (ts ++ t ∷ []) ≡ new_edges before ts + one_if
    (is_new_edge (before ++ ts) t)
edges_more before [] t = search (rules, append-nil)
edges_more before (s ∷ ts) t =
    let more : new_edges (before ++ s ∷ []) (ts ++ t ∷ []) ≡ new_edges (before ++ s ∷ []) ts + one_if
    (is_new_edge ((before ++ s ∷ []) ++ ts) t) = edges_more (before ++ s ∷ []) ts t in
    let same : one_if (is_new_edge ((before ++ s ∷ []) ++ ts) t) ≡ one_if (is_new_edge (before ++ s ∷ ts) t) =
    ap (λ (all : List Told). one_if (is_new_edge all t)) (append_assoc before (s ∷ []) ts) in
    omega (arith, more, same)

-- ---- two parts

pub first_wrong-append : (knows : Number → Bool) (before xs ys : List Told)
    → first_wrong knows before (xs ++ ys) ≡ option_or (first_wrong knows before xs) (first_wrong knows (before ++ xs) ys)
first_wrong-append knows before [] ys = ap (λ all. first_wrong knows all ys) (sym (append-nil before))
first_wrong-append knows before (x ∷ xs) ys =
    ap (option_or (fault_at knows before x)) (first_wrong-append knows (before ++ x ∷ []) xs ys
    ∙ ap (λ all. option_or (first_wrong knows (before ++ x ∷ []) xs) (first_wrong knows all ys))
    (append_assoc before (x ∷ []) xs))
    ∙ sym (option_or-assoc (fault_at knows before x) (first_wrong knows (before ++ x ∷ []) xs)
    (first_wrong knows (before ++ x ∷ xs) ys))

pub told-cons : (kind : Kind) (line : Line) (more : List Line) → told kind (line ∷ more) ≡ told kind (line ∷ []) ++ told kind more
told-cons kind line more = filter_map-append (told_of kind) (line ∷ []) more

pub form-cons : (kind : Kind) (line : Line) (more : List Line)
    → form_fault kind (line ∷ more) ≡ option_or (form_fault kind (line ∷ [])) (form_fault kind more)
form-cons kind line more = search (rules)

pub has_label-append : (xs ys : List Told) (n : Number) → has_label (xs ++ ys) n ≡ (has_label xs n || has_label ys n)
has_label-append xs ys n = list_any-append _ xs ys

-- ---- one line

pub told_one : (kind : Kind) (line : Line) (e : Entry) → said kind line ≡ Some e → told kind (line ∷ []) ≡ (line, e) ∷ []
told_one kind line e is = rw is refl
