-- What stands at a place of the spec, and whose label it has.
use Rattle.spec_laws.proofs.Common.{CNodeOf, EndpointOf, Entry, FrameInfo, FrameOf, IrqOf, IsIn, IsThere, Layer, List, LockOf, None, NotificationOf, Object, OfConnection, OfDomain, OfLeaf, Option, Owner, Part, Some, Spec, TableOf, Tables, ThreadOf}
use Rattle.spec_laws.proofs.Common.{What, [], ap, arch, arith, entry, entry_at, frame_object, frame_owner, from_get_map, from_map, get_or, has_part, in_append, in_place, inl, inr, irq_owner, label_of, labels_of, layers}
use Rattle.spec_laws.proofs.Common.{map, number_of, object, object_at, option_map_or, page_mapping, pages_at, parts, place, place_is, refl, shapes, sizes, slice_get, slice_index, spec_of, stands, suc, sym}
use Rattle.spec_laws.proofs.Common.{rules, table_of, tcb, there, zero, ℕ, ◌+◌, ◌∙◌, ◌∷◌, ◌≡◌, ◌⊎◌}
use Rattle.cap_model.specs.declared.object.Object.TheVariants as objects
use Rattle.page_tables.specs.Levels.{numbered as tables_numbered}
use Rattle.spec_laws.proofs.EachPart.{of_every}
use Rattle.spec_laws.proofs.TablesKept.{moved, object_is, standing}

-- ---- whose a part is

abbrev pub device_at : Tables → ℕ → Owner
device_at t k = option_map_or (irq_owner k) (slice_get t.flat.connections k) (OfConnection k)

abbrev pub frame_owner_at : Tables → ℕ → Owner
frame_owner_at t f = option_map_or (λ (x : FrameInfo). frame_owner x.owner) (slice_get t.spaces.frames f) (OfLeaf 0)

abbrev pub owner_of : Tables → What → Owner
owner_of t (CNodeOf d) = OfDomain d
owner_of t (ThreadOf d i) = OfDomain d
owner_of t (EndpointOf k) = OfConnection k
owner_of t (NotificationOf k) = OfConnection k
owner_of t (LockOf d n) = OfDomain d
owner_of t (IrqOf k) = device_at t k
owner_of t (TableOf d j) = OfDomain d
owner_of t (FrameOf f) = frame_owner_at t f

abbrev Whose : Tables → Part → Type 0
Whose t p = p.owner ≡ owner_of t p.what

pub whose : (t : Tables) (p : Part) → IsIn p (parts t) → Whose t p
whose t = of_every t (Whose t) (search (rules))

-- ---- labels

abbrev pub labels : Tables → List ℕ
labels t = (labels_of t).by_object

label_found : {X : Type 0} (f : X → ℕ) (xs : List X) (o : ℕ) (x : X) → slice_get xs o ≡ Some x → slice_index (map f xs) o ≡ f x
label_found f [] o x e = cc
label_found f (y ∷ xs) zero x e = let same : y ≡ x = cc in ap f same
label_found f (y ∷ xs) (suc o) x e = label_found f xs o x e

-- the label of a part that there is
pub label_there : (t : Tables) (w : What) → IsThere t w → label_of (labels t) (place t w) ≡ number_of t.numbers (owner_of t w)
label_there t w h = search (rules, has_part, whose, label_found, stands)

-- ---- objects

-- the kind of an object, whatever the level of a page table
abbrev pub class_of : Object → ℕ
class_of objects.Endpoint = 0
class_of objects.Notification = 1
class_of (objects.CNode bits slots) = 2
class_of (objects.Thread tcb) = 3
class_of (objects.Frame paddr fill) = 4
class_of (objects.Pages level slots) = 5
class_of (objects.Irq n) = 6

abbrev pub class : What → ℕ
class (EndpointOf k) = 0
class (NotificationOf k) = 1
class (LockOf d n) = 1
class (CNodeOf d) = 2
class (ThreadOf d i) = 3
class (FrameOf f) = 4
class (TableOf d j) = 5
class (IrqOf k) = 6

are_pages : (first link : ℕ) (ys : List Layer) (o : Object) → IsIn o (tables_numbered first link ys) → class_of o ≡ 5
are_pages first link [] o i = absurd i
are_pages first link (y ∷ ys) o i =
    elim (in_append o (tables_numbered first (first + sizes ys) ys) (map (table_of y.shape link) y.tables) i) [
      | inl j ↦ are_pages first (first + sizes ys) ys o j
      | inr j ↦ let m = from_map (table_of y.shape link) o y.tables j in ap class_of (sym m.2)
    ]

pub classed : (t : Tables) (w : What) → IsThere t w → class_of (object t w) ≡ class w
classed t (ThreadOf d i) h = ap (λ z. class_of (option_map_or (λ x. objects.Thread (tcb t d x)) z objects.Endpoint)) h.1.1
classed t (TableOf d j) h =
    let m = moved t 0 0 (place t (TableOf d 0)) (place t (FrameOf 0)) d j h.1.0 h.1.1 in
    ap class_of (object_is t d j m.0 m.1) ∙ are_pages (place t (TableOf d 0)) 0
    (layers (shapes (arch t)) (map (page_mapping (place t (FrameOf 0))) (pages_at t d))) m.0 (in_place m.0 (standing t d) j m.1)
classed t (FrameOf f) h = ap (λ z. class_of (option_map_or frame_object z objects.Endpoint)) h.1
classed t _ h = refl

-- what stands at a place of the spec
pub record IsAt (t : Tables) (o : ℕ) (x : Object) : Type 0 where
  pub what : What
  pub there : IsThere t what
  pub stands : place t what ≡ o
  pub is : object t what ≡ x
  pub sort : class what ≡ class_of x

pub entry_is : (t : Tables) (o : ℕ) (e : Entry) → slice_get (spec_of t).entries o ≡ Some e → IsAt t o e.object
entry_is t o e h =
    let p = from_get_map (entry t) (parts t) o e h in let i = in_place p.0 (parts t) o p.1 in
    let is : object t p.0.what ≡ e.object = ap (λ (z : Entry). z.object) p.2 in
    search (rules, there, stands, place_is, classed)

pub object_stands : (t : Tables) (o : ℕ) (x : Object) → object_at (spec_of t) o ≡ Some x → IsAt t o x
object_stands t o x h = search (rules, there, entry_is)

-- what boot has for an object that stands
pub boots : {A : Type 0} (spec : Spec) (f : Object → A) (o : ℕ) (x : Object) (d : A) → object_at spec o ≡ Some x
    → get_or (map (λ (e : Entry). f e.object) spec.entries) o d ≡ f x
boots {A} spec f o x d h = search (rules, there, entry_at)

-- ---- which part it is, by the class of its object

pub of_node : (w : What) → class w ≡ 2 → (d : ℕ) × (w ≡ CNodeOf d)
of_node (CNodeOf d) e = (d, refl)
of_node _ e = absurd (omega (arith, e))

pub of_tcb : (w : What) → class w ≡ 3 → (d i : ℕ) × (w ≡ ThreadOf d i)
of_tcb (ThreadOf d i) e = (d, i, refl)
of_tcb _ e = absurd (omega (arith, e))

pub of_frame : (w : What) → class w ≡ 4 → (f : ℕ) × (w ≡ FrameOf f)
of_frame (FrameOf f) e = (f, refl)
of_frame _ e = absurd (omega (arith, e))

pub of_pages : (w : What) → class w ≡ 5 → (d j : ℕ) × (w ≡ TableOf d j)
of_pages (TableOf d j) e = (d, j, refl)
of_pages _ e = absurd (omega (arith, e))

pub of_interrupt : (w : What) → class w ≡ 6 → (k : ℕ) × (w ≡ IrqOf k)
of_interrupt (IrqOf k) e = (k, refl)
of_interrupt _ e = absurd (omega (arith, e))

pub of_calls : (w : What) → class w ≡ 0 → (k : ℕ) × (w ≡ EndpointOf k)
of_calls (EndpointOf k) e = (k, refl)
of_calls _ e = absurd (omega (arith, e))

pub of_notices : (w : What) → class w ≡ 1 → ((k : ℕ) × (w ≡ NotificationOf k)) ⊎ ((d n : ℕ) × (w ≡ LockOf d n))
of_notices (NotificationOf k) e = inl (k, refl)
of_notices (LockOf d n) e = inr (d, n, refl)
of_notices _ e = absurd (omega (arith, e))
