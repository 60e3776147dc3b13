-- A spec that gives less than another one: objects are of the same kinds, and what stands in them at boot stands there in the
-- other spec too, with at least those rights. Capabilities may be gone, or stand at another number with another badge; roots,
-- spaces, buffers and bindings may be gone.
use Rattle.std.specs.Prelude.{◌≡◌, ℕ, Some}
use Rattle.flow_model.specs.Below.{Cap, Capability, Contains, Rights, Spec, boot, buffer_of, irq_at, kind_at, node_at, object_at, table_of, thread_at}
use Rattle.cap_model.specs.Lessened.{both_rights}

-- a capability to the same object, with some of the rights
pub record IsPart (cap : Cap) (whole : Cap) : Type 0 where
  pub object : cap.object ≡ whole.object
  pub among : Rights
  pub rights : cap.rights ≡ both_rights whole.rights among

pub record IsLess (less : Spec) (spec : Spec) : Type 0 where
  pub kinds : (o : ℕ) → kind_at less o ≡ kind_at spec o
  pub caps : (c i : ℕ) (cap : Cap) → Contains (node_at (boot less) c).slots (i, Capability cap)
      → (j : ℕ) × (whole : Cap) × Contains (node_at (boot spec) c).slots (j, Capability whole) × IsPart cap whole
  pub tables : (p i : ℕ) (cap : Cap) → Contains (table_of (object_at less p)) (i, cap)
      → (j : ℕ) × (whole : Cap) × Contains (table_of (object_at spec p)) (j, whole) × IsPart cap whole
  pub buffers : (t : ℕ) (cap : Cap) → buffer_of (object_at less t) ≡ Some cap
      → (whole : Cap) × (buffer_of (object_at spec t) ≡ Some whole) × IsPart cap whole
  pub roots : (t d : ℕ) → (thread_at (boot less) t).root ≡ Some d → (thread_at (boot spec) t).root ≡ Some d
  pub spaces : (t d : ℕ) → (thread_at (boot less) t).space ≡ Some d → (thread_at (boot spec) t).space ≡ Some d
  pub irqs : (d n : ℕ) → irq_at (boot less) d ≡ Some n → irq_at (boot spec) d ≡ Some n
