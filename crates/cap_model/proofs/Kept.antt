-- What the parts of a kept spec give.
use Rattle.cap_model.proofs.Common.{CNode, Cap, Endpoint, Entry, Frame, Irq, IsKept, Kind, Notification, Object, Pages, Spec, Thread, and_parts, ap, arith, entry_object, eqb-true, fits, fits_kind, is_at, is_kind, is_root_object, is_some}
use Rattle.cap_model.proofs.Common.{is_space_root, keeps, keeps_slots, kind_at, kind_number, kind_of_object, list_all, ltb-true, object_at, option_map, rise, rules, same_kind, subst, sym, ◌∙◌}
use Rattle.std.specs.Prelude.{◌≡◌, ◌<◌, ◌==◌, ◌&&◌, ℕ, zero, suc, Bool, true, List, [], ◌∷◌, length, Option, Some, None, slice_get, nat_lt, refl, if◌then◌else◌}
use Rattle.cap_model.specs.declared.level.Arch.{Arch}
use Rattle.cap_model.specs.declared.level.Level.TheVariants.{Global, Upper, Directory, Table}

-- what all pass, the one at a place passes
pub all_at : {A : Type 0} (test : A → Bool) (xs : List A) (i : ℕ) (x : A) → list_all test xs ≡ true → slice_get xs i ≡ Some x
    → test x ≡ true
all_at test [] i x all there = absurd cc
all_at test (y ∷ ys) zero x all there = search (rules, and_parts)
all_at test (y ∷ ys) (suc i) x all there = all_at test ys i x (and_parts (test y) (list_all test ys) all).1 there

-- the object at a place is kept
entry_kept : (spec : Spec) (entries : List Entry) (place : ℕ) (object : Object)
    → list_all (λ (e : Entry). keeps spec e.object) entries ≡ true → entry_object (slice_get entries place) ≡ Some object
    → keeps spec object ≡ true
entry_kept spec [] place object all there = absurd cc
entry_kept spec (e ∷ es) zero object all there = search (rules, and_parts)
entry_kept spec (e ∷ es) (suc place) object all there =
    entry_kept spec es place object (and_parts (keeps spec e.object) (list_all (λ (x : Entry). keeps spec x.object) es) all).1
    there

pub object_kept : (spec : Spec) (place : ℕ) (object : Object) → IsKept spec → object_at spec place ≡ Some object
    → keeps spec object ≡ true
object_kept spec place object kept there = entry_kept spec spec.entries place object kept.objects there

-- where there is an object, the place is in the spec
entry_below : (entries : List Entry) (place : ℕ) (object : Object) → entry_object (slice_get entries place) ≡ Some object
    → place < length entries
entry_below [] place object there = absurd cc
entry_below (e ∷ es) zero object there = omega arith
entry_below (e ∷ es) (suc place) object there = let below : place < length es = entry_below es place object there in omega arith

pub object_below : (spec : Spec) (place : ℕ) (object : Object) → object_at spec place ≡ Some object → place < length spec.entries
object_below spec place object there = entry_below spec.entries place object there

-- the kind that a number is the number of
abbrev numbered : ℕ → Kind
numbered n =
    if n == 0 then Endpoint
    else if n == 1 then Notification
    else if n == 2 then CNode
    else if n == 3 then Thread
    else if n == 4 then Frame
    else if n == 5 then Irq
    else if n == 6 then Pages Global
    else if n == 7 then Pages Upper
    else if n == 8 then Pages Directory
    else Pages Table

numbered_back : (kind : Kind) → numbered (kind_number kind) ≡ kind
numbered_back Endpoint = refl
numbered_back Notification = refl
numbered_back CNode = refl
numbered_back Thread = refl
numbered_back Frame = refl
numbered_back Irq = refl
numbered_back (Pages Global) = refl
numbered_back (Pages Upper) = refl
numbered_back (Pages Directory) = refl
numbered_back (Pages Table) = refl

pub one_kind : (a b : Kind) → same_kind a b ≡ true → a ≡ b
one_kind a b same = search (rules, eqb-true, numbered_back)

-- a test of the kind at a place tells the kind
is_that : (here : Option Kind) (kind : Kind) → is_kind here kind ≡ true → here ≡ Some kind
is_that None kind h = absurd cc
is_that (Some here) kind h = ap Some (one_kind here kind h)

pub kind_is : (spec : Spec) (kind : Kind) (place : ℕ) → is_at spec kind place ≡ true → kind_at spec place ≡ Some kind
kind_is spec kind place h = is_that (kind_at spec place) kind h

some_below : (spec : Spec) (place : ℕ) (here : Option Object) → here ≡ object_at spec place → is_some here ≡ true
    → place < length spec.entries
some_below spec place None same h = absurd cc
some_below spec place (Some object) same h = object_below spec place object (sym same)

none_has_kind : (here : Option Object) (kind : Kind) → is_kind (option_map kind_of_object here) kind ≡ true → is_some here ≡ true
none_has_kind None kind h = absurd cc
none_has_kind (Some object) kind h = refl

none_fits : (here : Option Object) (cap : Cap) → fits_kind (option_map kind_of_object here) cap ≡ true → is_some here ≡ true
none_fits None cap h = absurd cc
none_fits (Some object) cap h = refl

pub none_is_root : (arch : Arch) (here : Option Object) → is_root_object arch here ≡ true → is_some here ≡ true
none_is_root arch None h = absurd cc
none_is_root arch (Some object) h = refl

-- what passes a test of its kind is an object of the spec
pub is_at_below : (spec : Spec) (kind : Kind) (place : ℕ) → is_at spec kind place ≡ true → place < length spec.entries
is_at_below spec kind place h = some_below spec place (object_at spec place) refl (none_has_kind (object_at spec place) kind h)

pub root_below : (spec : Spec) (place : ℕ) → is_space_root spec place ≡ true → place < length spec.entries
root_below spec place h = some_below spec place (object_at spec place) refl (none_is_root spec.arch (object_at spec place) h)

pub fits_below : (spec : Spec) (cap : Cap) → fits spec cap ≡ true → cap.object < length spec.entries
fits_below spec cap h = some_below spec cap.object (object_at spec cap.object) refl (none_fits (object_at spec cap.object) cap h)

-- a slot's number is below the size, and its capability fits
pub slot_kept : (fit : Cap → Bool) (size : ℕ) (slots : List (ℕ × Cap)) (i : ℕ) (slot : ℕ × Cap)
    → keeps_slots fit size slots ≡ true → slice_get slots i ≡ Some slot
    → (slot.0 < size) × (fit slot.1 ≡ true)
slot_kept fit size slots i slot kept there = grind (arith, and_parts, all_at, ltb-true)

-- numbers that rise: those behind the first rise too, and each is below those behind it
pub rise_tail : {A : Type 0} (x : ℕ × A) (xs : List (ℕ × A)) → rise (x ∷ xs) ≡ true → rise xs ≡ true
rise_tail x [] h = refl
rise_tail x (y ∷ ys) h = (and_parts (nat_lt x.0 y.0) (rise (y ∷ ys)) h).1

rise_over : {A : Type 0} (x : ℕ × A) (xs : List (ℕ × A)) (j : ℕ) (z : ℕ × A) → rise (x ∷ xs) ≡ true
    → slice_get xs j ≡ Some z → x.0 < z.0
rise_over x [] j z h there = absurd cc
rise_over {A = A} x (y ∷ ys) zero z h there =
    let below : x.0 < y.0 = ltb-true x.0 y.0 (and_parts (nat_lt x.0 y.0) (rise (y ∷ ys)) h).0 in
    let same : y ≡ z = cc in
    subst (λ (w : ℕ × A). x.0 < w.0) same below
rise_over x (y ∷ ys) (suc j) z h there =
    let below : x.0 < y.0 = ltb-true x.0 y.0 (and_parts (nat_lt x.0 y.0) (rise (y ∷ ys)) h).0 in
    let more : y.0 < z.0 = rise_over y ys j z (rise_tail x (y ∷ ys) h) there in
    omega arith

pub rises : {A : Type 0} (xs : List (ℕ × A)) (i j : ℕ) (x y : ℕ × A) → rise xs ≡ true → i < j → slice_get xs i ≡ Some x
    → slice_get xs j ≡ Some y → x.0 < y.0
rises [] i j x y h less here there = absurd cc
rises (z ∷ zs) i zero x y h less here there = absurd (omega arith)
rises {A = A} (z ∷ zs) zero (suc j) x y h less here there =
    let same : z ≡ x = cc in
    subst (λ (w : ℕ × A). w.0 < y.0) same (rise_over z zs j y h there)
rises (z ∷ zs) (suc i) (suc j) x y h less here there = rises zs i j x y (rise_tail z zs h) (omega arith) here there
