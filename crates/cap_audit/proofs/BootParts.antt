-- The roots and slots of the boot state are those of the spec.
use Rattle.cap_audit.proofs.Common.{Cap, Capability, Contains, Content, Entry, HasRoot, List, Node, None, Object, Option, Some, Spec, ThreadState, [], ap, at_contains, at_entry, boot, boot_node, boot_slot, boot_thread, contains_at, entry_at, false}
use Rattle.cap_audit.proofs.Common.{get_or, inl, inr, map, no_node, no_thread, node_at, object_at, refl, root_of, slice_get, slot_of, slots_at, slots_of, subst, suc, sym, thread_at, zero, ℕ, ◌∙◌, ◌∷◌, ◌≡◌}
use Rattle.cap_model.specs.declared.object.Object.TheVariants.{CNode, Thread}

past_entries : {A : Type 0} (f : Object → A) (entries : List Entry) (o : ℕ) (d : A) → slice_get entries o ≡ None
    → get_or (map (λ (e : Entry). f e.object) entries) o d ≡ d
past_entries f [] o d h = refl
past_entries f (x ∷ entries) zero d h = absurd cc
past_entries f (x ∷ entries) (suc o) d h = past_entries f entries o d h

root_same : (object : Object) → (boot_thread object).root ≡ root_of (Some object)
root_same (Thread tcb) = refl
root_same _ = refl

pub boot_root : (spec : Spec) (t : ℕ) → (thread_at (boot spec) t).root ≡ root_of (object_at spec t)
boot_root spec t = go (slice_get spec.entries t) refl where
  go : (e : Option Entry) → slice_get spec.entries t ≡ e → (thread_at (boot spec) t).root ≡ root_of (object_at spec t)
  go None h = rw (past_entries boot_thread spec.entries t no_thread h, h) refl
  go (Some entry) h = rw (entry_at boot_thread spec.entries t no_thread entry h, h) (root_same entry.object)

-- what the boot state has for an object
abbrev pub node_of : Option Object → Node
node_of None = no_node
node_of (Some object) = boot_node object

pub boot_node_at : (spec : Spec) (c : ℕ) → node_at (boot spec) c ≡ node_of (object_at spec c)
boot_node_at spec c = go (slice_get spec.entries c) refl where
  go : (e : Option Entry) → slice_get spec.entries c ≡ e → node_at (boot spec) c ≡ node_of (object_at spec c)
  go None h = rw (past_entries boot_node spec.entries c no_node h, h) refl
  go (Some entry) h = rw (entry_at boot_node spec.entries c no_node entry h, h) refl

slots_same : (object : Object) → (boot_node object).slots ≡ map boot_slot (slots_of (Some object))
slots_same (CNode bits slots) = refl
slots_same _ = refl

pub boot_slots : (spec : Spec) (c : ℕ) → (node_at (boot spec) c).slots ≡ map boot_slot (slots_at spec c)
boot_slots spec c = go (slice_get spec.entries c) refl where
  go : (e : Option Entry) → slice_get spec.entries c ≡ e → (node_at (boot spec) c).slots ≡ map boot_slot (slots_at spec c)
  go None h = rw (past_entries boot_node spec.entries c no_node h, h) refl
  go (Some entry) h = rw (entry_at boot_node spec.entries c no_node entry h, h) (slots_same entry.object)

-- what the boot state has in a CNode is a capability of a slot
pub boot_content : (spec : Spec) (c i : ℕ) (content : Content) → Contains (node_at (boot spec) c).slots (i, content)
    → (cap : Cap) × Contains (slots_at spec c) (i, cap) × (Capability cap ≡ content)
boot_content spec c i content there =
    let k = contains_at (map boot_slot (slots_at spec c)) (i, content)
    (subst (λ (xs : List (ℕ × Content)). Contains xs (i, content)) (boot_slots spec c) there) in
    let s = slot_of (slots_at spec c) k.0 i content k.1 in
    (s.0.1, at_contains (slots_at spec c) (i, s.0.1) k.0 (s.1 ∙ ap (λ (n : ℕ). Some (n, s.0.1)) s.3), s.2)

pub root_boot : (spec : Spec) (t c : ℕ) → HasRoot spec t c → (thread_at (boot spec) t).root ≡ Some c
root_boot spec t c h = boot_root spec t ∙ h

none_waits : (object : Object) → (boot_thread object).waits ≡ false
none_waits (Thread tcb) = refl
none_waits _ = refl

pub nobody_waits : (spec : Spec) (t : ℕ) → (thread_at (boot spec) t).waits ≡ false
nobody_waits spec t = elim (at_entry boot_thread spec.entries t no_thread) [
  | inl found ↦ subst (λ (x : ThreadState). x.waits ≡ false) (sym found.2) (none_waits found.0.object)
  | inr none ↦ subst (λ (x : ThreadState). x.waits ≡ false) (sym none) refl
]
