-- The kinds of objects: which object has which, and the rights and badges of capabilities to it.
use Rattle.std.specs.Prelude.{ℕ, Bool, true, false, ◌==◌, Option, Some, None}
use Rattle.std.specs.Option.{option_map}
use Rattle.cap_model.specs.declared.object.Object.{Object}
use Rattle.cap_model.specs.declared.object.Object.TheVariants as objects
use Rattle.cap_model.specs.declared.kind.Kind.{Kind}
use Rattle.cap_model.specs.declared.kind.Kind.TheVariants.{Endpoint, Notification, CNode, Thread, Frame, Pages, Irq}
use Rattle.cap_model.specs.declared.level.Arch.{Arch}
use Rattle.cap_model.specs.declared.level.Level.TheVariants.{Global, Upper, Directory, Table}
use Rattle.cap_model.specs.declared.rights.Rights.{Rights}
use Rattle.cap_model.specs.declared.spec.Spec.{Spec}
use Rattle.cap_model.specs.Levels.{is_root_level}
use Rattle.cap_model.specs.Lookup.{object_at}

abbrev pub kind_of_object : Object → Kind
kind_of_object objects.Endpoint = Endpoint
kind_of_object objects.Notification = Notification
kind_of_object (objects.CNode bits slots) = CNode
kind_of_object (objects.Thread tcb) = Thread
kind_of_object (objects.Frame paddr fill) = Frame
kind_of_object (objects.Pages level slots) = Pages level
kind_of_object (objects.Irq notification) = Irq

-- the kind of the object at a place, none past the end
abbrev pub kind_at : Spec → ℕ → Option Kind
kind_at spec place = option_map kind_of_object (object_at spec place)

-- a number for each kind, by which kinds are compared
abbrev pub kind_number : Kind → ℕ
kind_number Endpoint = 0
kind_number Notification = 1
kind_number CNode = 2
kind_number Thread = 3
kind_number Frame = 4
kind_number Irq = 5
kind_number (Pages Global) = 6
kind_number (Pages Upper) = 7
kind_number (Pages Directory) = 8
kind_number (Pages Table) = 9

abbrev pub same_kind : Kind → Kind → Bool
same_kind a b = kind_number a == kind_number b

abbrev pub is_kind : Option Kind → Kind → Bool
is_kind None kind = false
is_kind (Some here) kind = same_kind here kind

-- whether there is an object of this kind at the place
abbrev pub is_at : Spec → Kind → ℕ → Bool
is_at spec kind place = is_kind (kind_at spec place) kind

abbrev pub is_root_object : Arch → Option Object → Bool
is_root_object arch (Some (objects.Pages level slots)) = is_root_level arch level
is_root_object arch _ = false

-- whether the object at the place is a space root
abbrev pub is_space_root : Spec → ℕ → Bool
is_space_root spec place = is_root_object spec.arch (object_at spec place)

-- the rights that capabilities to objects of this kind may have
abbrev pub kind_rights : Kind → Rights
kind_rights Endpoint = record { read = true; write = true; grant = true; reply = true }
kind_rights Notification = record { read = true; write = true; grant = false; reply = false }
kind_rights Frame = record { read = true; write = true; grant = false; reply = false }
kind_rights _ = record { read = false; write = false; grant = false; reply = false }

-- whether capabilities to objects of this kind may have a badge
abbrev pub has_badge : Kind → Bool
has_badge Endpoint = true
has_badge Notification = true
has_badge _ = false
