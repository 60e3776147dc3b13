-- What the slots of a writable spec hold can be named.
use Rattle.capdl_write.proofs.Common.{Bool, CNode, Cap, Entry, Frame, Irq, IsWritable, Kind, Level, List, None, Notification, Object, Option, Pages, Some, Spec, Tcb, Thread, [], and_from, and_parts, are_slots, entry_name}
use Rattle.capdl_write.proofs.Common.{entry_object, fits, fits_as, fits_kind, if_any, is_at, is_kind, is_laid, is_number, is_plain, is_some, is_space_root, is_tcb, is_word, keeps, keeps_slots, keeps_table, keeps_tcb, kind_at, kind_of_object, leb}
use Rattle.capdl_write.proofs.Common.{list_all, name_at, none_is_root, object_at, option_map, refl, rules, size, slice_get, suc, true, zero, ℕ, ◌&&◌, ◌^◌, ◌∷◌, ◌≡◌}
use Rattle.cap_model.specs.declared.kind.Kind.TheVariants as kinds

-- ---- tests of lists

pub all_from : {A : Type 0} (p q r : A → Bool) (xs : List A) → ((x : A) → p x ≡ true → q x ≡ true → r x ≡ true)
    → list_all p xs ≡ true → list_all q xs ≡ true → list_all r xs ≡ true
all_from p q r [] step a b = refl
all_from p q r (x ∷ xs) step a b =
    let k = and_parts (p x) (list_all p xs) a in let l = and_parts (q x) (list_all q xs) b in
    rw (step x k.0 l.0, all_from p q r xs step k.1 l.1) refl

-- ---- what is there

fits_some : (k : Option Kind) (cap : Cap) → fits_kind k cap ≡ true → is_some k ≡ true
fits_some None cap h = absurd cc
fits_some (Some k) cap h = refl

at_some : (k : Option Kind) (kind : Kind) → is_kind k kind ≡ true → is_some k ≡ true
at_some None kind h = absurd cc
at_some (Some k) kind h = refl

object_some : (o : Option Object) → is_some (option_map kind_of_object o) ≡ true → is_some o ≡ true
object_some None h = absurd cc
object_some (Some o) h = refl

pub there_fits : (spec : Spec) (cap : Cap) → fits spec cap ≡ true → is_some (object_at spec cap.object) ≡ true
there_fits spec cap h = object_some (object_at spec cap.object) (fits_some (kind_at spec cap.object) cap h)

pub there_is : (spec : Spec) (kind : Kind) (place : ℕ) → is_at spec kind place ≡ true → is_some (object_at spec place) ≡ true
there_is spec kind place h = object_some (object_at spec place) (at_some (kind_at spec place) kind h)

pub there_root : (spec : Spec) (place : ℕ) → is_space_root spec place ≡ true → is_some (object_at spec place) ≡ true
there_root spec place h = none_is_root spec.arch (object_at spec place) h

-- ---- it has a name

abbrev pub are_words : List Entry → Bool
are_words es = list_all (λ e. is_word e.name) es

word_in : (es : List Entry) (place : ℕ) → are_words es ≡ true → is_some (entry_object (slice_get es place)) ≡ true
    → is_word (entry_name (slice_get es place)) ≡ true
word_in [] zero h s = absurd cc
word_in [] (suc j) h s = absurd cc
word_in (e ∷ es) zero h s = (and_parts (is_word e.name) (are_words es) h).0
word_in (e ∷ es) (suc j) h s = word_in es j (and_parts (is_word e.name) (are_words es) h).1 s

-- the object at the place has a name that can be written
abbrev pub is_named : Spec → ℕ → Bool
is_named spec place = is_word (name_at spec place)

pub named_there : (spec : Spec) (place : ℕ) → are_words spec.entries ≡ true → is_some (object_at spec place) ≡ true
    → is_named spec place ≡ true
named_there spec place h s = word_in spec.entries place h s

-- a capability that can be written
abbrev pub is_target : Spec → Cap → Bool
is_target spec cap = is_named spec cap.object && is_number cap.badge

abbrev pub is_slot : Spec → ℕ × Cap → Bool
is_slot spec s = is_number s.0 && is_target spec s.1

-- what the slots of an object hold can be written
abbrev pub has_named : Spec → Object → Bool
has_named spec (CNode bits slots) = list_all (is_slot spec) slots
has_named spec (Thread tcb) = if_any (is_named spec) tcb.cspace
    && (if_any (is_named spec) tcb.vspace && if_any (is_target spec) tcb.buffer)
has_named spec (Pages level slots) = list_all (is_slot spec) slots
has_named spec (Irq notification) = if_any (is_named spec) notification
has_named spec _ = true

named_slots : (spec : Spec) → are_words spec.entries ≡ true → (fit : Cap → Bool)
    → ((c : Cap) → fit c ≡ true → is_some (object_at spec c.object) ≡ true) → (size : ℕ) (slots : List (ℕ × Cap))
    → keeps_slots fit size slots ≡ true → are_slots slots ≡ true → list_all (is_slot spec) slots ≡ true
named_slots spec w fit there size slots k a = search (rules, all_from, and_parts, and_from, named_there)

named_any : {A : Type 0} (p q : A → Bool) (o : Option A) → ((x : A) → p x ≡ true → q x ≡ true) → if_any p o ≡ true
    → if_any q o ≡ true
named_any p q None step h = refl
named_any p q (Some x) step h = step x h

named_table : (spec : Spec) → are_words spec.entries ≡ true → (level : Level) (n : Option ℕ) (slots : List (ℕ × Cap))
    → keeps_table spec level n slots ≡ true → are_slots slots ≡ true → list_all (is_slot spec) slots ≡ true
named_table spec w level None slots k a = absurd cc
named_table spec w level (Some n) slots k a = search (rules, named_slots, there_fits, and_parts)

named_tcb : (spec : Spec) → are_words spec.entries ≡ true → (tcb : Tcb) → keeps_tcb spec tcb ≡ true → is_tcb tcb ≡ true
    → has_named spec (Thread tcb) ≡ true
named_tcb spec w tcb k l = search (rules, and_parts, and_from, named_any, named_there, there_is, there_root, there_fits)

named_object : (spec : Spec) → are_words spec.entries ≡ true → (o : Object) → keeps spec o ≡ true → is_laid o ≡ true
    → has_named spec o ≡ true
named_object spec w (CNode bits slots) k l = named_slots spec w (fits spec) (λ c h. there_fits spec c h) (2 ^ bits) slots
    (and_parts _ _ k).1 l
named_object spec w (Thread tcb) k l = named_tcb spec w tcb k l
named_object spec w (Pages level slots) k l = named_table spec w level (size spec.arch level) slots k l
named_object spec w (Irq o) k l = named_any (is_at spec kinds.Notification) (is_named spec) o
    (λ p h. named_there spec p w (there_is spec kinds.Notification p h)) k
named_object spec w _ k l = refl

pub all_named : (spec : Spec) → IsWritable spec → list_all (λ e. has_named spec e.object) spec.entries ≡ true
all_named spec w = all_from (λ e. keeps spec e.object) (λ e. is_laid e.object) (λ e. has_named spec e.object) spec.entries
    (λ e k l. named_object spec w.names e.object k l) w.kept.objects w.objects

-- an interrupt line that can be written
abbrev pub is_line : Spec → ℕ × ℕ → Bool
is_line spec l = is_number l.0 && is_named spec l.1

pub lines_named : (spec : Spec) → IsWritable spec → list_all (is_line spec) spec.irqs ≡ true
lines_named spec w = search (rules, and_parts, all_from, and_from, named_there, there_is)
