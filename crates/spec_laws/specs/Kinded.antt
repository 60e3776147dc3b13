-- The kinds of a system's objects: each is of the kind that its name says.
use Rattle.std.specs.Prelude.{◌≡◌, ℕ, Some}
use Rattle.spec_laws.specs.Below.{Object, Series, Spec, object_at}
use Rattle.cap_model.specs.declared.kind.Kind.{Kind}
use Rattle.cap_model.specs.declared.kind.Kind.TheVariants as kinds
use Rattle.cap_model.specs.declared.level.Level.TheVariants.{Global, Upper, Directory, Table}
use Rattle.cap_model.specs.Kinds.{kind_of_object}
use Rattle.system_spec.specs.declared.series.Series.TheVariants as series
use Rattle.spec_laws.specs.Slotted.{IsNamed}

-- the kind of what a series names
abbrev pub kind_of : Series → Kind
kind_of series.CNode = kinds.CNode
kind_of series.Tcb = kinds.Thread
kind_of series.Ep = kinds.Endpoint
kind_of series.Ntfn = kinds.Notification
kind_of series.Lock = kinds.Notification
kind_of series.Irq = kinds.Irq
kind_of series.Pgd = kinds.Pages Global
kind_of series.Pud = kinds.Pages Upper
kind_of series.Pd = kinds.Pages Directory
kind_of series.Pt = kinds.Pages Table
kind_of series.Frame = kinds.Frame

-- `cnode_N` is a CNode, `tcb_N` a thread, `ep_K` an endpoint, `ntfn_K` and `lock_N` are notifications, and so on
abbrev pub SayKinds : Spec → Type 0
SayKinds spec =
    (place n : ℕ) (s : Series) (o : Object) → IsNamed spec place s n → object_at spec place ≡ Some o
    → kind_of_object o ≡ kind_of s
