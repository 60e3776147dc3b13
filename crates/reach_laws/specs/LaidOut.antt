-- What a spec and its labels keep that were laid out for a system: enough for its certificate to be valid, and for its
-- policy to be what threads can reach. All of it speaks of the boot state. At boot labels may do to others what they are
-- assigned directly; of what CNodes hold, what stays within a label is what the domain may do with its locks; and no
-- interrupt has the label of a CNode that holds a capability.
use Rattle.std.specs.Prelude.{◌≡◌, ◌≢◌, ◌↔◌, ℕ, List, Some}
use Rattle.reach_laws.specs.Below.{Auth, Authority, Cap, DirectReason, Held, Spec, Tables, boot, edge, irq_at, label_of}
use Rattle.arch_policy.specs.Policies.{IsLockEdge}
use Rattle.reach_laws.specs.Arranged.{Holds, IsArranged}

pub record IsLaidOut (t : Tables) (spec : Spec) (labels : List ℕ) : Type 0 where
  pub arranged : IsArranged spec labels
  pub direct : (l : ℕ) (a : Authority) (m : ℕ) → l ≢ m → Auth spec labels (boot spec) l a m ↔ DirectReason t (edge l a m)
  pub own : (l : ℕ) (a : Authority) → Held spec labels (boot spec) l a l ↔ IsLockEdge t (edge l a l)
  pub signals : (c i d n : ℕ) (cap : Cap) → Holds spec c i cap → irq_at (boot spec) d ≡ Some n
      → label_of labels c ≢ label_of labels d
