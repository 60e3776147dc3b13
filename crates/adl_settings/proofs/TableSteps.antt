-- Tables that have a value for each body, and the steps of filling one.
use Rattle.adl_settings.proofs.SettleCommon.{Body, Fault, Hierarchy, Id, List, Met, Name, None, Option, Part, Path, Setting, Some, [], ap, arith, body, bytes_eq, cases_lt, cond, drop, drop_first, find, get_or, get_or_append_left, get_or_default, get_or_past, get_or_push, inl, inner_names, inr, is_group, is_some, is_some-option_or, last_name, length, length-append, noted, noted-append, option_map_or, option_or, part_named, path_of, refl, repeated_after, same_path, sets, setting_of, setting_twice, settings_of, subst, sym, where_true, ℕ, ◌&&◌, ◌++◌, ◌+◌, ◌<◌, ◌||◌, ◌∙◌, ◌∷◌, ◌≡◌, ◌≤◌}
use borrow.Author.Count.{below_more}

-- where P is true of each place and its value, it is after one more
pub each_more : {T : Type 0} (P : ℕ → T → Type 0) (xs new : List T) (y : T) (n : ℕ) → length xs ≡ n → new ≡ xs ++ y ∷ []
    → ((k : ℕ) → k < n → (d : T) → P k (get_or xs k d)) → P n y
    → (k : ℕ) → k < n + 1 → (d : T) → P k (get_or new k d)
each_more {T} P xs new y n so_many pushed each here =
    below_more (λ k. (d : T) → P k (get_or new k d)) n
    (λ k l d. subst (P k) (sym (ap (λ zs. get_or zs k d) pushed ∙ get_or_append_left xs (y ∷ []) d k (omega (arith, l, so_many))))
    (each k l d))
    (λ d. subst (P n) (sym (ap (λ zs. get_or zs n d) pushed ∙ get_or_push xs y d n so_many)) here)

-- behind the last the value of the assembly counts
pub each_or : {T : Type 0} (P : ℕ → T → Type 0) (xs : List T) (top : T)
    → ((k : ℕ) → k < length xs → (d : T) → P k (get_or xs k d)) → ((k : ℕ) → length xs ≤ k → P k top) → (k : ℕ)
    → P k (get_or xs k top)
each_or P xs top each behind k = elim (cases_lt k (length xs)) [
  | inl a ↦ each k a top
  | inr a ↦
      subst (P k) (sym (get_or_past xs k top a)) (behind k a)
]

-- the body of a number behind the last component's is the assembly
pub body-behind : (h : Hierarchy) (k : ℕ) → length h.bodies ≤ k → body h k ≡ h.top
body-behind h k l = get_or_past h.bodies k h.top l

-- ---- numbers of one body

pub path_of-same : (h : Hierarchy) (k l : ℕ) → body h k ≡ body h l → (ws : List Id) → path_of h k ws ≡ path_of h l ws
path_of-same h k l e [] = refl
path_of-same h k l e (w ∷ []) = refl
path_of-same h k l e (w ∷ v ∷ more) =
    let rest = path_of-same h k l e (v ∷ more) in
    λ i. option_map_or (λ (x : Part). w.name ∷ path_of h x.kind (v ∷ more)) (part_named (e i).parts w.name)
    (cond (is_group (e i) w.name) (rest i) (w.name ∷ inner_names (v ∷ more)))

pub setting_of-same : (h : Hierarchy) (k l : ℕ) → body h k ≡ body h l → (p : Path) (x : Name)
    → setting_of h k p x ≡ setting_of h l p x
setting_of-same h k l e p x = λ i. find (λ (s : Setting). same_path p (path_of-same h k l e s.words i)
    && bytes_eq x (last_name s.words)) (settings_of (e i))

-- ---- the bodies in order, the assembly last

abbrev pub all_bodies : Hierarchy → List Body
all_bodies h = h.bodies ++ h.top ∷ []

pub bodies_next : (h : Hierarchy) (k : ℕ) → k < length h.bodies → drop k (all_bodies h) ≡ body h k ∷ drop (k + 1) (all_bodies h)
bodies_next h k l =
    let b = body h k in
    drop_first (all_bodies h) k b (omega (arith, l, length-append h.bodies (h.top ∷ []))) (get_or_default h.bodies k h.top b l
    ∙ sym (get_or_append_left h.bodies (h.top ∷ []) b k l))

-- the same, with the assembly
pub next_body : (h : Hierarchy) (k : ℕ) → k < length h.bodies + 1 → drop k (all_bodies h) ≡ body h k ∷ drop (k + 1) (all_bodies h)
next_body h k l = elim (cases_lt k (length h.bodies)) [ inl a ↦ bodies_next h k a | inr a ↦ last (omega (arith, l, a)) a ]
  where
    last : length h.bodies ≡ k → length h.bodies ≤ k → drop k (all_bodies h) ≡ body h k ∷ drop (k + 1) (all_bodies h)
    last e a = drop_first (all_bodies h) k (body h k) (omega (arith, l, length-append h.bodies (h.top ∷ []))) (body-behind h k a
        ∙ sym (get_or_push h.bodies h.top (body h k) k e))

-- ---- the settings of one body

-- the faults of the settings that are left, after one more
pub twice_more : (h : Hierarchy) (k : ℕ) (old new : Path → Name → Option Setting) (first first' : Option Fault)
    (xs : List Setting) (i : ℕ) (x : Setting) → i < length xs → x ≡ get_or xs i x
    → ((p : Path) (n : Name) → new p n ≡ option_or (old p n) (cond (sets h k p n x) (Some x) None))
    → first' ≡ noted first (where_true (is_some (old (path_of h k x.words) (last_name x.words))) (setting_twice x))
    → noted first' (repeated_after h k (λ p n. is_some (new p n)) (drop (i + 1) xs)) ≡ noted first
    (repeated_after h k (λ p n. is_some (old p n)) (drop i xs))
twice_more h k old new first first' xs i x l e f n =
    let path = path_of h k x.words in
    let last = last_name x.words in
    let met : Met = λ p n. is_some (old p n) in
    let more : Met = λ p n. met p n || (same_path p path && bytes_eq n last) in
    let again = where_true (met path last) (setting_twice x) in
    let rest = drop (i + 1) xs in
    let same : (λ (p : Path) (n : Name). is_some (new p n)) ≡ more =
    λ j p n. (ap is_some (f p n) ∙ is_some-option_or (old p n) (sets h k p n x) x) j in
    ap (λ (m : Met). noted first' (repeated_after h k m rest)) same ∙ ap (λ o. noted o (repeated_after h k more rest)) n
    ∙ sym (noted-append first again (repeated_after h k more rest)) ∙ ap (λ ys. noted first (repeated_after h k met ys))
    (sym (drop_first xs i x l e))
