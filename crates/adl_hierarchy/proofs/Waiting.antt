-- Components that wait for inner ones.
use Rattle.adl_hierarchy.proofs.Common.{InRange, IsAcyclic, IsAtEnd, IsInnerFirst, IsLaid, IsPlacing, List, Numbers, Placing, Settles, Waits, [], ap, arith, both_ways, cases_Bool, cases_eq, cases_lt, false, false_from_ne_true, get_or}
use Rattle.adl_hierarchy.proofs.Common.{get_or-append_seam, get_or-set_other, get_or-set_same, get_or_append_left, has, inl, inner_of, inr, length, length-append, length-set, refl, set, subst, suc, sym, take, take-append-le, take-length, take_all}
use Rattle.adl_hierarchy.proofs.Common.{rules, true, with_number, zero, ℕ, ◌++◌, ◌+◌, ◌<◌, ◌||◌, ◌∙◌, ◌∷◌, ◌≡◌, ◌≤◌, ◌⊎◌}
use Rattle.adl_hierarchy.proofs.Marks.{has_at, has_old, has_new, has_pushed, has_take, has-with_number, take-with_number, length-with_number}
use Rattle.adl_hierarchy.proofs.Walks.{ring_from_stuck, has_more}

-- ---- lists of lists

-- an empty list more
pub inner_of-empty : (ws : List (List ℕ)) (c : ℕ) → inner_of (ws ++ [] ∷ []) c ≡ inner_of ws c
inner_of-empty [] zero = refl
inner_of-empty [] (suc c) = refl
inner_of-empty (w ∷ ws) zero = refl
inner_of-empty (w ∷ ws) (suc c) = inner_of-empty ws c

-- what a list among lists has, where one of them is replaced
pub in_set : (ws : List (List ℕ)) (d : ℕ) (v : List ℕ) (c x : ℕ) → d < length ws → has (inner_of (set ws d v) c) x ≡ true
    → ((c ≡ d) × (has v x ≡ true)) ⊎ (has (inner_of ws c) x ≡ true)
in_set ws d v c x h e = search (rules, cases_eq, set, get_or-set_same, get_or-set_other)

-- one list among lists has one number more
abbrev pub with_waiting : List (List ℕ) → ℕ → ℕ → List (List ℕ)
with_waiting ws d a = set ws d (inner_of ws d ++ a ∷ [])

waits_still : (ws : List (List ℕ)) (d a c x : ℕ) → d < length ws → has (inner_of ws c) x ≡ true
    → has (inner_of (with_waiting ws d a) c) x ≡ true
waits_still ws d a c x h e = search (rules, cases_eq, get_or-set_same, has_old, get_or-set_other)

waits_now : (ws : List (List ℕ)) (d a : ℕ) → d < length ws → has (inner_of (with_waiting ws d a) d) a ≡ true
waits_now ws d a h =
    subst (λ xs. has xs a ≡ true) (sym (get_or-set_same ws d (inner_of ws d ++ a ∷ []) [] h)) (has_new (inner_of ws d) a)

-- ---- orders

pub laid_push : (g : List (List ℕ)) (list : List ℕ) (a : ℕ) → IsLaid g list
    → ((c : ℕ) → has (inner_of g a) c ≡ true → has list c ≡ true) → IsLaid g (list ++ a ∷ [])
laid_push g list a laid inner i c h e = elim (cases_lt i (length list)) [
  | inl l ↦ let k : i ≤ length list = omega arith in
      rw take-append-le (laid i c l (subst (λ x. has (inner_of g x) c ≡ true) (get_or_append_left list (a ∷ []) 0 i l) e))
  | inr l ↦ let s : i ≡ length list = omega (arith, length-append list (a ∷ [])) in
      let k : i ≤ length list = omega arith in
      let here : get_or (list ++ a ∷ []) i 0 ≡ a = ap (λ j. get_or (list ++ a ∷ []) j 0) s ∙ get_or-append_seam list a [] 0 in
      rw take-append-le (let Q : ℕ → Type 0 = λ j. has (take j list) c ≡ true in
      subst Q (sym s) (rw take-length (inner c (subst (λ x. has (inner_of g x) c ≡ true) here e))))
]

laid_with : (g : List (List ℕ)) (list : List ℕ) (a : ℕ) → IsLaid g list
    → ((c : ℕ) → has (inner_of g a) c ≡ true → has list c ≡ true) → IsLaid g (with_number list a)
laid_with g list a laid inner = search (rules, cases_Bool, laid_push)

has_still : (list : List ℕ) (a x : ℕ) → has list x ≡ true → has (with_number list a) x ≡ true
has_still list a x e = has-with_number list a x ∙ ap (λ b. b || has (a ∷ []) x) e

has_now : (list : List ℕ) (a : ℕ) → has (with_number list a) a ≡ true
has_now list a = elim (cases_Bool (has list a)) [ inl e ↦ rw e e | inr e ↦ rw e (has_new list a) ]

-- ---- one component is placed, or waits

-- what the component is past, written down
past_set : (g : List (List ℕ)) (past list : List ℕ) (a next : ℕ) → a < length past
    → ((x c : ℕ) → x < length g → has (take (get_or past x 0) (inner_of g x)) c ≡ true → has list c ≡ true)
    → ((c : ℕ) → has (take next (inner_of g a)) c ≡ true → has list c ≡ true)
    → (x c : ℕ) → x < length g → has (take (get_or (set past a next) x 0) (inner_of g x)) c ≡ true → has list c ≡ true
past_set g past list a next h old here x c l e = search (rules, cases_eq, set, get_or-set_same, get_or-set_other)

-- the component waits for d
pub placing_waits : (g : List (List ℕ)) (old new : Placing) (a next d : ℕ) → IsPlacing g old → a < length g → d < length g
    → ((c : ℕ) → has (take next (inner_of g a)) c ≡ true → has old.placed.list c ≡ true) → new.placed ≡ old.placed
    → new.past.items ≡ set old.past.items a next → new.waiting.items ≡ with_waiting old.waiting.items d a → IsPlacing g new
placing_waits g old new a next d i la ld past placed pasts waiting = search (rules, set, length-set, past_set, in_set, has_pushed)

pub settles_waits : (g : List (List ℕ)) (old new : Placing) (a d : ℕ) → d < length old.waiting.items → has (inner_of g a) d ≡ true
    → has old.placed.list d ≡ false
    → new.placed ≡ old.placed → new.waiting.items ≡ with_waiting old.waiting.items d a → Settles g old new (λ x. x ≡ a)
settles_waits g old new a d h inner fresh placed waiting =
    search (rules, waits_still, waits_now, false_from_ne_true, both_ways, has_take)

-- the component is placed
pub placing_placed : (g : List (List ℕ)) (old new : Placing) (a next : ℕ) → IsPlacing g old → a < length g
    → length (inner_of g a) ≤ next → ((c : ℕ) → has (take next (inner_of g a)) c ≡ true → has old.placed.list c ≡ true)
    → new.placed.size ≡ old.placed.size → new.placed.list ≡ with_number old.placed.list a
    → new.past.items ≡ set old.past.items a next → new.waiting.items ≡ old.waiting.items → IsPlacing g new
placing_placed g old new a next i la end past size placed pasts waiting =
    search (rules, take_all, length-set, laid_with, has_still, past_set)

pub settles_placed : (g : List (List ℕ)) (old new : Placing) (a : ℕ)
    → new.placed.list ≡ with_number old.placed.list a → new.waiting.items ≡ old.waiting.items → Settles g old new (λ x. x ≡ a)
settles_placed g old new a placed waiting = search (rules, length-with_number, has_still, take-with_number, has_now)

-- ---- several components

pub settles_none : (g : List (List ℕ)) (p : Placing) (P : ℕ → Type 0) → ((x : ℕ) → P x → ⊥) → Settles g p p P
settles_none g p P none = record { longer = omega arith; kept = λ n x l w. w; each = λ n x l h. absurd (none x h) }

settles_both : (g : List (List ℕ)) (old mid new : Placing) (P Q R : ℕ → Type 0) → Settles g old mid P → Settles g mid new Q
    → ((x : ℕ) → R x → P x ⊎ Q x) → Settles g old new R
settles_both g old mid new P Q R s t split =
    let sl = s.longer in
    let tl = t.longer in
    record {
      longer = omega arith;
      kept = λ n x l w. t.kept n x (omega arith) (s.kept n x l w);
      each = λ n x l r. elim (split x r) [
        | inl p ↦ t.kept n x (omega arith) (s.each n x l p)
        | inr q ↦
            t.each n x (omega arith) q
      ];
    }

pub settles_next : (g : List (List ℕ)) (old mid new : Placing) (a : ℕ) → Settles g old mid (λ x. x < a)
    → Settles g mid new (λ x. x ≡ a) → Settles g old new (λ x. x < a + 1)
settles_next g old mid new a s t = settles_both g old mid new (λ x. x < a) (λ x. x ≡ a) (λ x. x < a + 1) s t
    (λ x l. elim (cases_lt x a) [ inl h ↦ inl h | inr h ↦ inr (omega arith) ])

pub settles_more : (g : List (List ℕ)) (old mid new : Placing) (xs : List ℕ) (i : ℕ) → i < length xs
    → Settles g old mid (λ x. has (take i xs) x ≡ true) → Settles g mid new (λ x. x ≡ get_or xs i 0)
    → Settles g old new (λ x. has (take (i + 1) xs) x ≡ true)
settles_more g old mid new xs i h s t = search (rules, settles_both, has_more)

-- ---- letting go on

-- what is placed is in range
pub placed_at : (g : List (List ℕ)) (p : Placing) (i : ℕ) (xs : List ℕ) → IsPlacing g p
    → ((x : ℕ) → has p.placed.list x ≡ true → x < p.placed.size) → i < length p.placed.list → xs ≡ p.placed.list
    → get_or xs i 0 < length g
placed_at g p i xs q below l e =
    subst (λ ys. get_or ys i 0 < length g) (sym e) (rw (← q.size) (below (get_or p.placed.list i 0) (has_at p.placed.list i l)))

-- those that wait for c are taken out
pub placing_taken : (g : List (List ℕ)) (old new : Placing) (c : ℕ) → IsPlacing g old → c < length g
    → new.placed ≡ old.placed → new.past.items ≡ old.past.items → new.waiting.items ≡ set old.waiting.items c [] → IsPlacing g new
placing_taken g old new c i l placed pasts waiting = search (rules, length-set, in_set, both_ways)

-- each component waits for one that isn't among the first n + 1, or waited for the one behind the first n
waits_or_taken : (g : List (List ℕ)) (old new : Placing) (n : ℕ) (x : ℕ) → n < length old.placed.list → new.placed ≡ old.placed
    → new.waiting.items ≡ set old.waiting.items (get_or old.placed.list n 0) []
    → Waits g n old x → (Waits g (n + 1) new x) ⊎ (has (inner_of old.waiting.items (get_or old.placed.list n 0)) x ≡ true)
waits_or_taken g old new n x l placed waiting w =
    search (rules, cases_eq, get_or-set_other, false_from_ne_true, has_more, both_ways)

pub waits_released : (g : List (List ℕ)) (old mid new : Placing) (n : ℕ) → n < length old.placed.list → mid.placed ≡ old.placed
    → mid.waiting.items ≡ set old.waiting.items (get_or old.placed.list n 0) [] → ((x : ℕ) → x < length g → Waits g n old x)
    → Settles g mid new (λ x. has (inner_of old.waiting.items (get_or old.placed.list n 0)) x ≡ true)
    → (x : ℕ) → x < length g → Waits g (n + 1) new x
waits_released g old mid new n l placed waiting all s x h =
    let len : length mid.placed.list ≡ length old.placed.list = ap (λ (z : Numbers). length z.list) placed in
    elim (waits_or_taken g old mid n x l placed waiting (all x h)) [
      | inl w ↦ s.kept (n + 1) x (omega arith) w
      | inr e ↦ s.each (n + 1) x (omega arith) e
    ]

-- ---- the end

pub end_from_waits : (g : List (List ℕ)) (p : Placing) (n : ℕ) → length p.placed.list ≤ n
    → ((x : ℕ) → x < length g → Waits g n p x) → IsAtEnd g p.placed.list
end_from_waits g p n l all x h = search (rules, take_all)

pub ring_at_end : (g : List (List ℕ)) (order : List ℕ) → InRange g → IsAtEnd g order → (a : ℕ) → a < length g
    → has order a ≡ false → IsAcyclic g → ⊥
ring_at_end g order r end a h e = ring_from_stuck g order r
    (λ x l f. elim (end x l) [ inl t ↦ absurd (both_ways _ f t) | inr k ↦ k ]) a h e

pub order_at_end : (g : List (List ℕ)) (p : Placing) → IsPlacing g p → ((x : ℕ) → has p.placed.list x ≡ true → x < p.placed.size)
    → ((x : ℕ) → x < p.placed.size → has p.placed.list x ≡ true) → IsInnerFirst g p.placed.list
order_at_end g p i below whole = search (rules)
