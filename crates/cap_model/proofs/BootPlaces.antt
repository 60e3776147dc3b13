-- What the boot state has at a place: what it has for the object there, or nothing. What stands in a CNode is found at its
-- number, and nothing is pending or saved.
use Rattle.cap_model.proofs.Common.{Cap, Contains, Entry, IsKept, List, None, Object, Option, Some, Spec, [], and_parts, ap, arith, false, fits, get_or, get_or_from_slice_get, inl, inr, keeps, keeps_slots, leb, map, nat_lt, refl, rise}
use Rattle.cap_model.proofs.Common.{rules, slice_get, slice_get-get_or, slice_get-map, slice_get_within, subst, suc, sym, true, zero, ℕ, ◌&&◌, ◌==◌, ◌^◌, ◌∙◌, ◌∷◌, ◌≡◌, ◌⊎◌}
use Rattle.std.specs.Map.{lookup}
use Rattle.cap_model.specs.State.{Node, boot, boot_node, boot_slot, boot_thread, content_at, content_in, no_node, no_thread, node_at, thread_at}
use Rattle.cap_model.specs.declared.object.Object.TheVariants.{CNode, Thread}
use Rattle.cap_model.specs.declared.state.Content.{Content}
use Rattle.cap_model.specs.declared.state.Content.TheVariants.{Capability, SavedReply}
use Rattle.cap_model.specs.declared.state.Pending.{Pending}
use Rattle.cap_model.specs.declared.state.ThreadState.{ThreadState}
use Rattle.cap_model.proofs.Kept.{all_at, rise_tail, rises}

pub at_entry : {A : Type 0} (f : Object → A) (entries : List Entry) (o : ℕ) (d : A)
    → ((entry : Entry) × (slice_get entries o ≡ Some entry)
    × (get_or (map (λ (e : Entry). f e.object) entries) o d ≡ f entry.object))
    ⊎ (get_or (map (λ (e : Entry). f e.object) entries) o d ≡ d)
at_entry f [] o d = inr refl
at_entry f (x ∷ entries) zero d = inl (x, refl, refl)
at_entry f (x ∷ entries) (suc o) d = at_entry f entries o d

pub entry_at : {A : Type 0} (f : Object → A) (entries : List Entry) (o : ℕ) (d : A) (entry : Entry)
    → slice_get entries o ≡ Some entry
    → get_or (map (λ (e : Entry). f e.object) entries) o d ≡ f entry.object
entry_at f [] o d entry h = absurd cc
entry_at f (x ∷ entries) zero d entry h = let s : x ≡ entry = cc in rw s refl
entry_at f (x ∷ entries) (suc o) d entry h = entry_at f entries o d entry h

pub contains_at : {A : Type 0} (xs : List A) (x : A) → Contains xs x → (k : ℕ) × (slice_get xs k ≡ Some x)
contains_at xs x c = (c.0, let s = slice_get-get_or xs c.0 x c.1 in cc c.2)

pub at_contains : {A : Type 0} (xs : List A) (x : A) (k : ℕ) → slice_get xs k ≡ Some x → Contains xs x
at_contains xs x k h = (k, slice_get_within xs k x h, get_or_from_slice_get xs k x x h)

-- a slot of the spec is one of the boot state
pub boot_contains : (slots : List (ℕ × Cap)) (k : ℕ) (slot : ℕ × Cap) → slice_get slots k ≡ Some slot
    → Contains (map boot_slot slots) (slot.0, Capability slot.1)
boot_contains slots k slot h = at_contains (map boot_slot slots) (boot_slot slot) k (let e = slice_get-map boot_slot slots k in
    rw (e, h) refl)

-- and a slot of the boot state is one of the spec
pub slot_of : (slots : List (ℕ × Cap)) (k i : ℕ) (content : Content) → slice_get (map boot_slot slots) k ≡ Some (i, content)
    → (slot : ℕ × Cap) × (slice_get slots k ≡ Some slot) × (Capability slot.1 ≡ content) × (slot.0 ≡ i)
slot_of slots k i content h = search (rules, slice_get, slice_get-map)

-- the numbers rise, so that the slot of a number is the only one
found_at : (slots : List (ℕ × Cap)) (k : ℕ) (slot : ℕ × Cap) → rise slots ≡ true → slice_get slots k ≡ Some slot
    → lookup (λ n. n == slot.0) (map boot_slot slots) ≡ Some (Capability slot.1)
found_at [] k slot up there = absurd cc
found_at (x ∷ slots) zero slot up there = search (rules)
found_at (x ∷ slots) (suc k) slot up there =
    let less = rises (x ∷ slots) 0 (suc k) x slot up (omega arith) refl there in
    let other : (x.0 == slot.0) ≡ false = grind arith in
    rw other (found_at slots k slot (rise_tail x slots up) there)

in_node : (spec : Spec) (object : Object) (i : ℕ) (content : Content) → keeps spec object ≡ true
    → Contains (boot_node object).slots (i, content)
    → content_at (boot_node object) i ≡ Some content
in_node spec (CNode bits slots) i content kept there =
    let k = contains_at (map boot_slot slots) (i, content) there in
    let s = slot_of slots k.0 i content k.1 in
    let of_slots = (and_parts (nat_lt 0 bits && leb bits 16) (keeps_slots (fits spec) (2 ^ bits) slots) kept).1 in
    let up : rise slots ≡ true = (and_parts (rise slots) _ of_slots).0 in
    subst (λ (n : ℕ). lookup (λ m. m == n) (map boot_slot slots) ≡ Some content) s.3 (found_at slots k.0 s.0 up s.1
    ∙ ap (λ c. Some c) s.2)
in_node spec _ i content kept there = absurd (let w = there.1 in omega arith)

-- a CNode without slots has nothing
none_without : (c i : ℕ) (content : Content) → Contains no_node.slots (i, content) → ⊥
none_without c i content there = let w = there.1 in absurd (omega arith)

-- a slot that stands is found at its number
pub number_found : (spec : Spec) (c i : ℕ) (content : Content) → IsKept spec → Contains (node_at (boot spec) c).slots (i, content)
    → content_in (boot spec) c i ≡ Some content
number_found spec c i content kept there = elim (at_entry boot_node spec.entries c no_node) [
  | inl found ↦
      let here : Contains (boot_node found.0.object).slots (i, content) = search (rules) in
      let fine : keeps spec found.0.object ≡ true = search (rules, all_at) in
      ap (λ (n : Node). content_at n i) found.2 ∙ in_node spec found.0.object i content fine here
  | inr none ↦ absurd (none_without c i content (subst (λ (n : Node). Contains n.slots (i, content)) none there))
]

none_pending_here : (object : Object) → (boot_thread object).pending ≡ None
none_pending_here (Thread tcb) = refl
none_pending_here _ = refl

-- nothing is pending at boot
pub nothing_pending : (spec : Spec) (t : ℕ) → (thread_at (boot spec) t).pending ≡ None
nothing_pending spec t = elim (at_entry boot_thread spec.entries t no_thread) [
  | inl found ↦ subst (λ (x : ThreadState). x.pending ≡ None) (sym found.2) (none_pending_here found.0.object)
  | inr none ↦ subst (λ (x : ThreadState). x.pending ≡ None) (sym none) refl
]

none_saved_here : (object : Object) (i : ℕ) (reply : Pending) → Contains (boot_node object).slots (i, SavedReply reply) → ⊥
none_saved_here (CNode bits slots) i reply there =
    let k = contains_at (map boot_slot slots) (i, SavedReply reply) there in
    let s = slot_of slots k.0 i (SavedReply reply) k.1 in
    let here : Capability s.0.1 ≡ SavedReply reply = s.2 in
    cc
none_saved_here _ i reply there = let w = there.1 in absurd (omega arith)

-- nothing is saved at boot
pub none_saved : (spec : Spec) (c i : ℕ) (reply : Pending) → Contains (node_at (boot spec) c).slots (i, SavedReply reply) → ⊥
none_saved spec c i reply there = elim (at_entry boot_node spec.entries c no_node) [
  | inl found ↦ none_saved_here found.0.object i reply (subst (λ (n : Node). Contains n.slots (i, SavedReply reply))
      found.2 there)
  | inr none ↦ none_without c i (SavedReply reply) (subst (λ (n : Node). Contains n.slots (i, SavedReply reply)) none there)
]
