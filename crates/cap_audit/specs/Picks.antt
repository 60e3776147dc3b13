-- Words for the contracts of private functions alone: the capabilities of a CNode that a kind of step takes.
use Rattle.std.specs.Prelude.{◌≡◌, ◌&&◌, ◌||◌, ◌==◌, ◌∷◌, [], ℕ, Bool, true, Option, Some, None, if◌then◌else◌, length, slice_get, slice_index_or, List}
use Rattle.cap_audit.specs.Below.{AsyncSend, Cap, Contains, Edge, OfCap, Spec, Step, edge, is_at, is_space_root, label_of}
use Rattle.cap_machine.specs.declared.step.Step.TheVariants as steps
use Rattle.cap_model.specs.declared.kind.Kind.TheVariants as kinds
use Rattle.cap_audit.specs.Search.{Found, HoldsAt, held_by, whole}
use Rattle.cap_audit.specs.Spread.{HasRoot}
use Rattle.cap_audit.specs.declared.found.Held.{Held}
use Rattle.cap_audit.specs.Gains.{Below}
use Rattle.cap_audit.specs.declared.gates.Place.{Place}
use Rattle.cap_audit.specs.declared.making.Deed.{Deed}
use Rattle.cap_audit.specs.declared.making.Deed.TheVariants as deeds
use Rattle.cap_audit.specs.declared.picks.Pick.{Pick}
use Rattle.cap_audit.specs.declared.picks.Wanted.{Wanted}
use Rattle.cap_audit.specs.declared.picks.Wanted.TheVariants as wants

-- frames, space roots, interrupts, notifications that may be bound, endpoints that may be called, and that may be read
abbrev pub is_wanted : Spec → Wanted → Cap → Bool
is_wanted spec wants.Frame cap = is_at spec kinds.Frame cap.object
is_wanted spec wants.Space cap = is_space_root spec cap.object
is_wanted spec wants.Irq cap = is_at spec kinds.Irq cap.object
is_wanted spec wants.Bound cap = is_at spec kinds.Notification cap.object && cap.rights.write
is_wanted spec wants.Caller cap = is_at spec kinds.Endpoint cap.object
    && (cap.rights.write && (cap.rights.grant || cap.rights.reply))
is_wanted spec wants.Listener cap = is_at spec kinds.Endpoint cap.object && cap.rights.read

abbrev pub pick_in : Spec → Wanted → Held → Option Cap → Option Pick
pick_in spec wanted held None = None
pick_in spec wanted held (Some cap) =
    if is_wanted spec wanted cap then Some (record { number = held.number; cap = cap }) else None

abbrev pub pick_of : Spec → Found → Wanted → Held → Option Pick
pick_of spec f wanted held = pick_in spec wanted held (slice_get f.values held.value)

-- the first place of a node that has the value
abbrev pub place_in : ℕ → ℕ → List Held → Option Place
place_in node value [] = None
place_in node value (held ∷ helds) = if held.value == value then Some (record { node = node; number = held.number }) else place_in
    node value helds

abbrev pub place_of : Found → ℕ → ℕ → Option Place
place_of f value node = place_in node value (held_by f node)

-- what a step of a thread takes: a space root and a frame, or an interrupt and a notification
abbrev pub wanted_from : Deed → Wanted
wanted_from deeds.Map = wants.Space
wanted_from deeds.Bind = wants.Irq

abbrev pub wanted_to : Deed → Wanted
wanted_to deeds.Map = wants.Frame
wanted_to deeds.Bind = wants.Bound

-- what it makes
abbrev pub OfDeed : Spec → List ℕ → Deed → Cap → Cap → Edge → Type 0
OfDeed spec labels deeds.Map from to e = OfCap spec labels (label_of labels from.object) to e
OfDeed spec labels deeds.Bind from to e = e ≡ edge (label_of labels from.object) AsyncSend (label_of labels to.object)

-- the thread's root has both
pub record OwnsBoth (spec : Spec) (f : Found) (t : ℕ) (deed : Deed) (from : Pick) (to : Pick) : Type 0 where
  pub node : ℕ
  pub root : HasRoot spec t node
  pub own_from : HoldsAt f node from.number from.cap
  pub own_to : HoldsAt f node to.number to.cap
  pub is_from : is_wanted spec (wanted_from deed) from.cap ≡ true
  pub is_to : is_wanted spec (wanted_to deed) to.cap ≡ true

-- c holds it
pub record IsHeld (f : Found) (c : ℕ) (cap : Cap) : Type 0 where
  pub held : Held
  pub there : Contains (held_by f c) held
  pub is : slice_get f.values held.value ≡ Some cap

-- the thread's root has the one and all of the others
pub record OwnsFrom (spec : Spec) (f : Found) (t : ℕ) (deed : Deed) (from : Pick) (tos : List Pick) : Type 0 where
  pub node : ℕ
  pub root : HasRoot spec t node
  pub own_from : HoldsAt f node from.number from.cap
  pub is_from : is_wanted spec (wanted_from deed) from.cap ≡ true
  pub own_to : (to : Pick) → Contains tos to → HoldsAt f node to.number to.cap
  pub is_to : (to : Pick) → Contains tos to → is_wanted spec (wanted_to deed) to.cap ≡ true

pub record OwnsAll (spec : Spec) (f : Found) (t : ℕ) (deed : Deed) (froms : List Pick) (tos : List Pick) : Type 0 where
  pub node : ℕ
  pub root : HasRoot spec t node
  pub own_from : (from : Pick) → Contains froms from → HoldsAt f node from.number from.cap
  pub is_from : (from : Pick) → Contains froms from → is_wanted spec (wanted_from deed) from.cap ≡ true
  pub own_to : (to : Pick) → Contains tos to → HoldsAt f node to.number to.cap
  pub is_to : (to : Pick) → Contains tos to → is_wanted spec (wanted_to deed) to.cap ≡ true

-- what such steps of a thread with the root c make
pub record OfDeeds (spec : Spec) (labels : List ℕ) (f : Found) (deed : Deed) (c : ℕ) (e : Edge) : Type 0 where
  pub from : Cap
  pub to : Cap
  pub has_from : IsHeld f c from
  pub has_to : IsHeld f c to
  pub is_from : is_wanted spec (wanted_from deed) from ≡ true
  pub is_to : is_wanted spec (wanted_to deed) to ≡ true
  pub by : OfDeed spec labels deed from to e

-- the step of the thread t
abbrev pub deed_step : Deed → ℕ → Pick → Pick → Step
deed_step deeds.Map t from to = steps.Map t to.number from.number whole
deed_step deeds.Bind t from to = steps.Bind t from.number to.number

-- the same, where a thread is told whose root it is
abbrev pub OfRoot : Spec → List ℕ → Found → Deed → Option ℕ → ℕ → Edge → Type 0
OfRoot spec labels f deed None c e = ⊥
OfRoot spec labels f deed (Some t) c e = OfDeeds spec labels f deed c e

-- the same of each object, by the list of roots
abbrev pub OfRoots : Spec → List ℕ → Found → Deed → List (Option ℕ) → Edge → Type 0
OfRoots spec labels f deed roots e = Below (λ (c : ℕ). OfRoot spec labels f deed (slice_index_or roots c None) c)
    (length spec.entries) e
