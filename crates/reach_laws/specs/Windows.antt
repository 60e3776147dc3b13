-- What page tables of a layout with frames hold that leads to other labels: pages of windows. Each end at memory has a window
-- in the space of its leaf's domain, with the rights that its access leaves.
use Rattle.std.specs.Prelude.{◌≡◌, ◌≢◌, ℕ, true, false, List, Option, Some}
use Rattle.reach_laws.specs.Below.{Cap, Contains, EndAt, Frame, LeadsTo, Read, Rights, Spec, Tables, Write, kind_at, label_of, leaf_label, object_at, table_of}
use Rattle.adl_meaning.specs.declared.settled.EndSetting.{EndSetting}
use Rattle.conn_rules.specs.declared.rule.ObjectKind.{ObjectKind}
use Rattle.cspace_layout.specs.Lookups.{setting_of}
use Rattle.arch_policy.specs.Gives.{gives, leaves}

abbrev pub window_rights : Option EndSetting → Rights
window_rights o = record { read = leaves o Read; write = leaves o Write; grant = false; reply = false }

-- the capability, in the page table p, is to a page of the end's window over an object of this kind
pub record IsWindow (t : Tables) (spec : Spec) (labels : List ℕ) (x : EndAt t.flat) (object : ObjectKind) (p : ℕ)
    (cap : Cap) : Type 0 where
  pub memory : gives x.connection.connector x.end.role object Read ≡ true
  pub frame : kind_at spec cap.object ≡ Some Frame
  pub rights : cap.rights ≡ window_rights (setting_of t.settled x.place x.number)
  pub from : label_of labels p ≡ leaf_label t x.end.leaf
  pub to : LeadsTo t x object (label_of labels cap.object)

abbrev pub InTable : Spec → ℕ → ℕ → Cap → Type 0
InTable spec p i cap = Contains (table_of (object_at spec p)) (i, cap)

-- a page of the window stands in a table, and its frame has the label
pub record HasPage (t : Tables) (spec : Spec) (labels : List ℕ) (x : EndAt t.flat) (object : ObjectKind)
    (label : ℕ) : Type 0 where
  pub table : ℕ
  pub slot : ℕ
  pub cap : Cap
  pub there : InTable spec table slot cap
  pub page : IsWindow t spec labels x object table cap
  pub is : label_of labels cap.object ≡ label

pub record HasWindows (t : Tables) (spec : Spec) (labels : List ℕ) : Type 0 where
  pub only : (p i : ℕ) (cap : Cap) → InTable spec p i cap → label_of labels p ≢ label_of labels cap.object
      → (x : EndAt t.flat) × (object : ObjectKind) × IsWindow t spec labels x object p cap
  pub every : (x : EndAt t.flat) (object : ObjectKind) (label : ℕ) → gives x.connection.connector x.end.role object Read ≡ true
      → LeadsTo t x object label
      → HasPage t spec labels x object label
