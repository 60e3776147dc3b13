-- What an audit refuses: a CNode that holds a capability to a thread, by the first CNode and its least slot.
use Rattle.std.specs.Prelude.{◌≡◌, ◌<◌, ◌≤◌, ◌⊎◌, ℕ, true, List, slice_get, Some}
use Rattle.cap_audit.specs.Below.{Cap, Contains, Spec, is_at}
use Rattle.cap_audit.specs.Spread.{slots_at}
use Rattle.cap_model.specs.declared.kind.Kind.TheVariants as kinds

-- a CNode holds a capability to a thread here, and none before
pub record IsFirstThread (spec : Spec) (cnode : ℕ) (slot : ℕ) : Type 0 where
  pub cap : Cap
  pub there : Contains (slots_at spec cnode) (slot, cap)
  pub thread : is_at spec kinds.Thread cap.object ≡ true
  pub first : (c i : ℕ) (other : Cap) → Contains (slots_at spec c) (i, other) → is_at spec kinds.Thread other.object ≡ true
      → (cnode < c) ⊎ ((cnode ≡ c) × (slot ≤ i))

-- the first slot of a list with a capability to a thread
pub record IsThreadSlot (spec : Spec) (slots : List (ℕ × Cap)) (i : ℕ) : Type 0 where
  pub place : ℕ
  pub slot : ℕ × Cap
  pub there : slice_get slots place ≡ Some slot
  pub number : slot.0 ≡ i
  pub thread : is_at spec kinds.Thread slot.1.object ≡ true
  pub before : (k : ℕ) (other : ℕ × Cap) → k < place → slice_get slots k ≡ Some other
      → is_at spec kinds.Thread other.1.object ≡ true → ⊥

abbrev pub HasNoThread : Spec → List (ℕ × Cap) → Type 0
HasNoThread spec slots = (k : ℕ) (slot : ℕ × Cap) → slice_get slots k ≡ Some slot
    → is_at spec kinds.Thread slot.1.object ≡ true → ⊥
