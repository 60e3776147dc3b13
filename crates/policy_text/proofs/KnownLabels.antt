-- The numbers of labels, after one label more.
use Rattle.policy_text.proofs.Common.{BTreeSet, Bool, IsSmall, List, Updates, [], ap, arith, cases_lt, cond, contains, eqb-true, false, get_or, inr, is_at, is_some, label_name, length, list_any, list_any_more, nat_cmp, nat_tests, or_comm, refl}
use Rattle.policy_text.proofs.Common.{rules, sym, take, true, ℕ, ◌+◌, ◌<◌, ◌==◌, ◌^◌, ◌||◌, ◌∙◌, ◌∷◌, ◌≡◌}
use Rattle.cam_base.proofs.Orders.{is_eq-nat_cmp}

is_named : (labels : List (ℕ × List ℕ)) (n : ℕ) → is_some (label_name labels n) ≡ list_any (λ l. l.0 == n) labels
is_named [] n = refl
is_named (l ∷ ls) n = go (l.0 == n) refl (is_named ls n)
  where
    go : (b : Bool) → (l.0 == n) ≡ b → is_some (label_name ls n) ≡ list_any (λ l. l.0 == n) ls
        → is_some (label_name (l ∷ ls) n) ≡ list_any (λ l. l.0 == n) (l ∷ ls)
    go true e rest = rw e refl
    go false e rest = rw e rest

pub named_more : (labels : List (ℕ × List ℕ)) (i : ℕ) (l : ℕ × List ℕ) (n : ℕ) → i < length labels → l ≡ get_or labels i l
    → is_some (label_name (take (i + 1) labels) n) ≡ (l.0 == n || is_some (label_name (take i labels) n))
named_more labels i l n lt is =
    is_named (take (i + 1) labels) n ∙ list_any_more (λ m. m.0 == n) labels i l lt
    ∙ or_comm (list_any (λ m. m.0 == n) (take i labels)) ((get_or labels i l).0 == n)
    ∙ ap (λ (m : ℕ × List ℕ). m.0 == n || list_any (λ m. m.0 == n) (take i labels)) (sym is)
    ∙ ap (λ (b : Bool). l.0 == n || b) (sym (is_named (take i labels) n))

cond_or : (a b : Bool) → cond a true b ≡ (a || b)
cond_or true b = refl
cond_or false b = refl

pub has_more : (old new : BTreeSet ℕ) (k n : ℕ) → Updates nat_cmp old new k true
    → contains nat_cmp new n ≡ (k == n || contains nat_cmp old n)
has_more old new k n updates = updates.0 n ∙ cond_or (is_at (nat_cmp k) n) (contains nat_cmp old n)
    ∙ ap (λ (b : Bool). b || contains nat_cmp old n) (is_eq-nat_cmp k n)

pub small_more : (old new : BTreeSet ℕ) (k : ℕ) → k < 2 ^ 32 → IsSmall old → Updates nat_cmp old new k true → IsSmall new
small_more old new k few small updates n h = search (rules, eqb-true, has_more)

-- one number more that has a label
eqb-self : (a b : ℕ) → a ≡ b → (a == b) ≡ true
eqb-self a b same = grind (arith, nat_tests)

pub near_more : (old new : List (ℕ × List ℕ)) (near : ℕ)
    → ((n : ℕ) → is_some (label_name new n) ≡ (near == n || is_some (label_name old n)))
    → ((n : ℕ) → n < near → is_some (label_name old n) ≡ true) → (n : ℕ) → n < near + 1 → is_some (label_name new n) ≡ true
near_more old new near more below n less = search (rules, cases_lt, or_comm, is_some, eqb-self)

pub near_kept : (old new : List (ℕ × List ℕ)) (near k : ℕ)
    → ((n : ℕ) → is_some (label_name new n) ≡ (k == n || is_some (label_name old n)))
    → ((n : ℕ) → n < near → is_some (label_name old n) ≡ true) → (n : ℕ) → n < near → is_some (label_name new n) ≡ true
near_kept old new near k more below n less = more n ∙ ap (λ b. k == n || b) (below n less) ∙ or_comm (k == n) true
