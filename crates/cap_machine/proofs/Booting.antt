-- The boot state of a kept spec: it can be made, and fits the spec.
use Rattle.cap_machine.proofs.Common.{All, Bool, Bootable, CNode, Cap, Capability, Contains, Content, ContentFits, Entry, FitsSpec, Irq, IrqFits, IsKept, List, NextsFit, Node, NodeFits, None, Object, Option, Some, Spec, Thread, ThreadFits}
use Rattle.cap_machine.proofs.Common.{ThreadState, [], and_parts, ap, arith, at_entry, boot, boot_irq, boot_node, boot_slot, boot_thread, fits, get_or, get_or_from_slice_get, if_any, inl, inr, is_at, keeps, keeps_cnode}
use Rattle.cap_machine.proofs.Common.{keeps_slots, kind_at, kind_of_object, leb, length-map, list_all, map, nat_lt, no_node, no_thread, pow_mono, refl, rise, rules, same_kind, slice_get, slice_get_within, subst, sym, true, ℕ, ◌&&◌, ◌^◌, ◌∷◌, ◌≡◌, ◌≤◌}
use Rattle.std.proofs.lemmas.List.Sums.{AllPass-from_list_all}
use Rattle.cap_model.specs.declared.kind.Kind.{Kind}
use Rattle.cap_model.specs.declared.kind.Kind.TheVariants as kinds
use Rattle.cap_model.proofs.Kept.{all_at, fits_below}
use Rattle.cap_machine.proofs.Fitting.{first_or_behind}

first_of_both : {A : Type 0} (p q : A → Bool) (xs : List A) → list_all (λ x. p x && q x) xs ≡ true → list_all p xs ≡ true
first_of_both p q [] h = refl
first_of_both p q (x ∷ xs) h =
    let both = and_parts (p x && q x) (list_all (λ y. p y && q y) xs) h in
    let here : p x ≡ true = (and_parts (p x) (q x) both.0).0 in
    rw (here, first_of_both p q xs both.1) refl

second_of_both : {A : Type 0} (p q : A → Bool) (xs : List A) → list_all (λ x. p x && q x) xs ≡ true → list_all q xs ≡ true
second_of_both p q [] h = refl
second_of_both p q (x ∷ xs) h =
    let both = and_parts (p x && q x) (list_all (λ y. p y && q y) xs) h in
    let here : q x ≡ true = (and_parts (p x) (q x) both.0).1 in
    rw (here, second_of_both p q xs both.1) refl

-- what a kept CNode keeps, by parts
pub record CNodeKept (spec : Spec) (bits : ℕ) (slots : List (ℕ × Cap)) : Type 0 where
  pub few : bits ≤ 16
  pub rising : rise slots ≡ true
  pub below : list_all (λ (slot : ℕ × Cap). nat_lt slot.0 (2 ^ bits)) slots ≡ true
  pub fit : list_all (λ (slot : ℕ × Cap). fits spec slot.1) slots ≡ true

cnode_kept : (spec : Spec) (bits : ℕ) (slots : List (ℕ × Cap)) → keeps_cnode spec bits slots ≡ true → CNodeKept spec bits slots
cnode_kept spec bits slots h =
    let all = and_parts (nat_lt 0 bits && leb bits 16) (keeps_slots (fits spec) (2 ^ bits) slots) h in
    let size : leb bits 16 ≡ true = (and_parts (nat_lt 0 bits) (leb bits 16) all.0).1 in
    let of_slots = and_parts (rise slots) (list_all (λ (slot : ℕ × Cap). nat_lt slot.0 (2 ^ bits) && fits spec slot.1)
    slots) all.1 in
    record {
      few = grind arith;
      rising = of_slots.0;
      below = first_of_both (λ (slot : ℕ × Cap). nat_lt slot.0 (2 ^ bits)) (λ (slot : ℕ × Cap). fits spec slot.1)
          slots of_slots.1;
      fit = second_of_both (λ (slot : ℕ × Cap). nat_lt slot.0 (2 ^ bits)) (λ (slot : ℕ × Cap). fits spec slot.1) slots of_slots.1;
    }

bootable : (spec : Spec) (object : Object) → keeps spec object ≡ true → Bootable object
bootable spec (CNode bits slots) h = let k = cnode_kept spec bits slots h in (k.few, k.rising, k.below)
bootable spec _ h = tt

pub all_bootable : (spec : Spec) → IsKept spec → All (λ (e : Entry). Bootable e.object) spec.entries
all_bootable spec kept k d l = bootable spec (get_or spec.entries k d).object
    (AllPass-from_list_all (λ (e : Entry). keeps spec e.object) spec.entries kept.objects k d l)

next_small : (object : Object) → Bootable object → (boot_node object).next ≤ 65536
next_small (CNode bits slots) b = let few : 2 ^ bits ≤ 2 ^ 16 = pow_mono b.0 in omega arith
next_small _ b = omega arith

pub boot_nexts_fit : (entries : List Entry) → All (λ (e : Entry). Bootable e.object) entries
    → NextsFit (map (λ (e : Entry). boot_node e.object) entries) 0
boot_nexts_fit entries all = record {
  fits = λ c. elim (at_entry boot_node entries c no_node) [
    | inl found ↦
        let small : (boot_node found.0.object).next ≤ 65536 =
        next_small found.0.object (subst (λ (e : Entry). Bootable e.object) (get_or_from_slice_get entries c found.0 found.0
        found.1) (all c found.0 (slice_get_within entries c found.0 found.1))) in
        let same : (get_or (map (λ (e : Entry). boot_node e.object) entries) c no_node).next ≡ (boot_node found.0.object).next =
        ap (λ (n : Node). n.next) found.2 in
        omega arith
    | inr none ↦ let same : (get_or (map (λ (e : Entry). boot_node e.object) entries) c no_node).next ≡ no_node.next =
        ap (λ (n : Node). n.next) none in omega arith
  ];
}

-- the boot state fits

slots_in_spec : (spec : Spec) (threads : List ThreadState) (slots : List (ℕ × Cap))
    → list_all (λ (slot : ℕ × Cap). fits spec slot.1) slots ≡ true → (i : ℕ) (content : Content)
    → Contains (map boot_slot slots) (i, content) → ContentFits spec threads content
slots_in_spec spec threads [] fit i content there = absurd (let w = there.1 in omega arith)
slots_in_spec spec threads (x ∷ xs) fit i content there =
    let both = and_parts (fits spec x.1) (list_all (λ (slot : ℕ × Cap). fits spec slot.1) xs) fit in
    elim (first_or_behind (boot_slot x) (map boot_slot xs) (i, content) there) [
      | inl same ↦ let is : Capability x.1 ≡ content = ap (λ (p : ℕ × Content). p.1) same in
          subst (λ (z : Content). ContentFits spec threads z) is (fits_below spec x.1 both.0)
      | inr more ↦ slots_in_spec spec threads xs both.1 i content more
    ]

there_is : (spec : Spec) (o : ℕ) (entry : Entry) → slice_get spec.entries o ≡ Some entry
    → kind_at spec o ≡ Some (kind_of_object entry.object)
there_is spec o entry h = rw h refl

kind_is : (spec : Spec) (o : ℕ) (kind : Kind) → same_kind kind kind ≡ true → kind_at spec o ≡ Some kind → is_at spec kind o ≡ true
kind_is spec o kind self h = rw (h, self) refl

pub at_object : (spec : Spec) (o : ℕ) (entry : Entry) (object : Object) → slice_get spec.entries o ≡ Some entry
    → entry.object ≡ object → kind_at spec o ≡ Some (kind_of_object object)
at_object spec o entry object h is = rw (h, is) refl

node_fits : (spec : Spec) (threads : List ThreadState) (c : ℕ) (object : Object) → keeps spec object ≡ true
    → kind_at spec c ≡ Some (kind_of_object object) → NodeFits spec threads c (boot_node object)
node_fits spec threads c (CNode bits slots) kept is =
    record {
      kind = inr (kind_is spec c kinds.CNode refl is);
      slots = slots_in_spec spec threads slots (cnode_kept spec bits slots kept).fit;
    }
node_fits spec threads c _ kept is = search (rules)

from_option : (test : ℕ → Bool) (o : Option ℕ) (n : ℕ) → if_any test o ≡ true → o ≡ Some n → test n ≡ true
from_option test None n h is = absurd cc
from_option test (Some x) n h is = let same : x ≡ n = cc in subst (λ (z : ℕ). test z ≡ true) same h

thread_fits : (spec : Spec) (threads : List ThreadState) (t : ℕ) (object : Object) → keeps spec object ≡ true
    → kind_at spec t ≡ Some (kind_of_object object) → ThreadFits spec threads t (boot_thread object)
thread_fits spec threads t (Thread tcb) kept is = search (rules, and_parts, leb, kind_is, from_option)
thread_fits spec threads t _ kept is = search (rules)

irq_fits : (spec : Spec) (d : ℕ) (object : Object) → keeps spec object ≡ true → kind_at spec d ≡ Some (kind_of_object object)
    → IrqFits spec d (boot_irq object)
irq_fits spec d (Irq notification) kept is = search (rules, kind_is, from_option)
irq_fits spec d _ kept is = record { kind = inl refl; notification = λ n h. absurd cc }

pub boot_fits : (spec : Spec) → IsKept spec → FitsSpec spec (boot spec)
boot_fits spec kept = record {
  as_many_nodes = length-map spec.entries (λ (e : Entry). boot_node e.object);
  as_many_threads = length-map spec.entries (λ (e : Entry). boot_thread e.object);
  as_many_irqs = length-map spec.entries (λ (e : Entry). boot_irq e.object);
  nodes = λ c. elim (at_entry boot_node spec.entries c no_node) [
    | inl found ↦ subst (λ (n : Node). NodeFits spec (boot spec).threads c n) (sym found.2)
        (node_fits spec (boot spec).threads c found.0.object (all_at (λ (e : Entry). keeps spec e.object) spec.entries c found.0
        kept.objects found.1) (there_is spec c found.0 found.1))
    | inr none ↦ search (rules)
  ];
  threads = λ t. elim (at_entry boot_thread spec.entries t no_thread) [
    | inl found ↦ search (rules, thread_fits, all_at, there_is)
    | inr none ↦ search (rules)
  ];
  irqs = λ d. elim (at_entry boot_irq spec.entries d None) [
    | inl found ↦ search (rules, irq_fits, all_at, there_is)
    | inr none ↦ subst (λ (x : Option ℕ). IrqFits spec d x) (sym none)
        (record { kind = inl refl; notification = λ n h. absurd cc })
  ];
  mapped = λ added there. absurd (let w = there.1 in omega arith);
}
