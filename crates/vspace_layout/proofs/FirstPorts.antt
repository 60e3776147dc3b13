-- What tables of first connections find.
use Rattle.vspace_layout.proofs.Common.{Bool, FlatConnection, FlatEnd, List, None, Option, PortKey, Some, [], add-one, ap, at_drop_more, cond, drop, eq-eqb, false, first_number, get_or, key_of, leads_by, leads_to, length, map}
use Rattle.vspace_layout.proofs.Common.{option_and_then, option_map_or, option_or, position, position_from, position_from-zero, refl, registers, rules, same_Some, same_key, slice_get, suc, sym, take, true, zero, ℕ, ◌&&◌, ◌++◌, ◌+◌, ◌<◌, ◌==◌, ◌∙◌, ◌∷◌, ◌≡◌}
use Rattle.std.specs.Map.{lookup}
use Rattle.cam_base.proofs.Options.{option_or-none, option_or-cond}

-- ---- keys

pub same_key-refl : (k : PortKey) → same_key k k ≡ true
same_key-refl k = ap (λ b. b && (k.member == k.member)) (eq-eqb k.leaf k.leaf refl) ∙ eq-eqb k.member k.member refl

-- ---- one key

pub put_here : (old new : List (PortKey × ℕ)) (key : PortKey) (n : ℕ)
    → ((k : PortKey) → lookup (same_key k) new ≡ cond (same_key key k) (Some n) (lookup (same_key k) old))
    → lookup (same_key key) new ≡ Some n
put_here old new key n put = put key ∙ ap (λ b. cond b (Some n) (lookup (same_key key) old)) (same_key-refl key)

-- ---- one connection

noted_none : (c : FlatConnection) (n : ℕ) (f : PortKey → Option ℕ) → registers c ≡ None → (k : PortKey)
    → f k ≡ option_or (f k) (cond (leads_by k c) (Some n) None)
noted_none c n f e k = option_or-none (f k)
    ∙ ap (λ o. option_or (f k) (cond (option_map_or (λ y. same_key (key_of y) k) o false) (Some n) None)) (sym e)

-- one connection more: f is what the table found before it, and g what it finds after
pub ports_more : (cs : List FlatConnection) (i : ℕ) (c : FlatConnection) (f g : PortKey → Option ℕ) → i < length cs
    → c ≡ get_or cs i c
    → ((k : PortKey) → option_or (f k) (position_from (leads_by k) i (drop i cs)) ≡ position_from (leads_by k) 0 cs)
    → ((k : PortKey) → g k ≡ option_or (f k) (cond (leads_by k c) (Some i) None))
    → (k : PortKey) → option_or (g k) (position_from (leads_by k) (i + 1) (drop (i + 1) cs)) ≡ position_from (leads_by k) 0 cs
ports_more cs i c f g lt is before put k =
    ap (λ o. option_or o (position_from (leads_by k) (i + 1) (drop (i + 1) cs))) (put k)
    ∙ option_or-cond (f k) (leads_by k c) i (position_from (leads_by k) (i + 1) (drop (i + 1) cs))
    ∙ ap (λ (x : FlatConnection). option_or (f k) (position_from (leads_by k) i (x ∷ drop (i + 1) cs))) is
    ∙ ap (option_or (f k)) (sym (at_drop_more (position_from (leads_by k) i) cs i c lt))
    ∙ before k

told : (f g rest all : Option ℕ) (n : ℕ) → g ≡ option_or f (Some n) → option_or g rest ≡ all → g ≡ all
told None g rest all n e after = e ∙ sym (sym after ∙ ap (λ z. option_or z rest) e)
told (Some m) g rest all n e after = e ∙ sym (sym after ∙ ap (λ z. option_or z rest) e)

-- what the table finds for the connection is the first of all
pub first_is : (cs : List FlatConnection) (c : FlatConnection) (i : ℕ) (f g rest : PortKey → Option ℕ)
    → ((k : PortKey) → g k ≡ option_or (f k) (cond (leads_by k c) (Some i) None))
    → ((k : PortKey) → option_or (g k) (rest k) ≡ position_from (leads_by k) 0 cs)
    → option_and_then (λ e. g (key_of e)) (registers c) ≡ first_number cs c
first_is cs c i f g rest put after = by_end (registers c) refl
  where
    by_end : (o : Option FlatEnd) → registers c ≡ o → option_and_then (λ e. g (key_of e)) o ≡ option_and_then
        (λ e. position (leads_to e) cs) o
    by_end None e = refl
    by_end (Some x) e = search (rules, same_key-refl, told, position_from-zero)

pub firsts_more : {X Y : Type 0} (f : X → Y) (xs : List X) (i : ℕ) (x : X) (old new : List Y) → slice_get xs i ≡ Some x
    → old ≡ map f (take i xs) → new ≡ old ++ f x ∷ [] → new ≡ map f (take (i + 1) xs)
firsts_more {X} {Y} f xs i x old new at before push = push ∙ ap (λ z. z ++ f x ∷ []) before ∙ sym (more xs i at)
    ∙ sym (ap (λ k. map f (take k xs)) (add-one i))
  where
    more : (xs : List X) (i : ℕ) → slice_get xs i ≡ Some x → map f (take (suc i) xs) ≡ map f (take i xs) ++ f x ∷ []
    more [] i e = cc
    more (z ∷ xs) zero e = ap (λ w. f w ∷ []) (same_Some z x e)
    more (z ∷ xs) (suc i) e = ap (λ w. f z ∷ w) (more xs i e)
