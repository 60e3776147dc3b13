-- CompositeBody stands at `control`, `hardware` and `has` in a component with a composition, at a configuration in one
-- without, and at `control` and `has` beside `hardware`. Its place is the keyword of the member, for `has` the lock's name.
use Rattle.std.specs.Prelude.{Bool, true, false, ◌||◌, List, []}
use Rattle.adl_meaning.specs.Below.{Component, Fault, Item, Member, Place, Source, flat_map, list_any}
use Rattle.cam_base.specs.declared.code.Code.TheVariants as code
use Rattle.adl_ast.specs.declared.component.Member.TheVariants as members
use Rattle.adl_ast.specs.declared.file.Item.TheVariants as items
use Rattle.adl_meaning.specs.Faults.{at_keyword, where_true, where_false}
use Rattle.adl_meaning.specs.Items.{items_of}

abbrev pub is_composition : Member → Bool
is_composition (members.Composition k) = true
is_composition (members.Control p) = false
is_composition (members.Hardware p) = false
is_composition (members.Include i) = false
is_composition (members.Interface i) = false
is_composition (members.Attribute a) = false
is_composition (members.Lock l) = false
is_composition (members.Configuration f) = false

abbrev pub is_hardware : Member → Bool
is_hardware (members.Hardware p) = true
is_hardware (members.Control p) = false
is_hardware (members.Include i) = false
is_hardware (members.Interface i) = false
is_hardware (members.Attribute a) = false
is_hardware (members.Lock l) = false
is_hardware (members.Composition k) = false
is_hardware (members.Configuration f) = false

-- a component with a composition
abbrev pub is_composite : Component → Bool
is_composite c = list_any is_composition c.members

-- a component that says `hardware`
abbrev pub is_device : Component → Bool
is_device c = list_any is_hardware c.members

abbrev pub body_fault : Place → Fault
body_fault p = at_keyword code.CompositeBody p

-- a member of a component, by whether the component is a composite and whether it is a device
abbrev pub misplaced_member : Bool → Bool → Member → List Fault
misplaced_member composite device (members.Control p) = where_true (composite || device) (body_fault p)
misplaced_member composite device (members.Hardware p) = where_true composite (body_fault p)
misplaced_member composite device (members.Lock l) = where_true (composite || device) (body_fault l.id.place)
misplaced_member composite device (members.Configuration f) = where_false composite (body_fault f.place)
misplaced_member composite device (members.Include i) = []
misplaced_member composite device (members.Interface i) = []
misplaced_member composite device (members.Attribute a) = []
misplaced_member composite device (members.Composition k) = []

abbrev pub misplaced_in_component : Component → List Fault
misplaced_in_component c = flat_map (misplaced_member (is_composite c) (is_device c)) c.members

abbrev pub misplaced_in_item : Item → List Fault
misplaced_in_item (items.Import i) = []
misplaced_in_item (items.Procedure p) = []
misplaced_in_item (items.Component c) = misplaced_in_component c
misplaced_in_item (items.Assembly a) = []

abbrev pub composite_bodies : Source → List Fault
composite_bodies s = flat_map (λ x. misplaced_in_item x.1) (items_of s)
