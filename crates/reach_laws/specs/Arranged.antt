-- What is asked of a spec and its labels so that what a label may do at boot can be done by one thread of it. The spec keeps
-- what each spec keeps. A CNode that holds a capability is the root of a thread of its own label, and no other CNode has that
-- label. An endpoint shares its label with no other endpoint and with no notification.
use Rattle.std.specs.Prelude.{◌≡◌, ◌⊎◌, ℕ, true, List, Some}
use Rattle.reach_laws.specs.Below.{Cap, Contains, Endpoint, Notification, Spec, boot, is_at, label_of, node_at, object_at}
use Rattle.cap_model.specs.Kept.{IsKept}
use Rattle.cap_model.specs.declared.object.Object.TheVariants.{Thread}
use Rattle.cap_model.specs.declared.object.Tcb.{Tcb}
use Rattle.cap_model.specs.declared.state.Content.TheVariants.{Capability}

-- the CNode c holds this capability at i
abbrev pub Holds : Spec → ℕ → ℕ → Cap → Type 0
Holds spec c i cap = Contains (node_at (boot spec) c).slots (i, Capability cap)

-- a thread of the label of c, whose root is c
pub record RootOf (spec : Spec) (labels : List ℕ) (c : ℕ) : Type 0 where
  pub thread : ℕ
  pub tcb : Tcb
  pub stands : object_at spec thread ≡ Some (Thread tcb)
  pub root : tcb.cspace ≡ Some c
  pub label : label_of labels thread ≡ label_of labels c

pub record IsArranged (spec : Spec) (labels : List ℕ) : Type 0 where
  pub kept : IsKept spec
  pub rooted : (c i : ℕ) (cap : Cap) → Holds spec c i cap → RootOf spec labels c
  pub one_node : (c d i j : ℕ) (a b : Cap) → Holds spec c i a → Holds spec d j b → label_of labels c ≡ label_of labels d → c ≡ d
  pub one_endpoint : (o p : ℕ) → is_at spec Endpoint o ≡ true → (is_at spec Endpoint p ≡ true)
      ⊎ (is_at spec Notification p ≡ true) → label_of labels o ≡ label_of labels p → o ≡ p
