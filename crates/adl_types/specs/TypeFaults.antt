-- Faults of types, over the hierarchy. In each body, the assembly's included:
--
--   Kind stands at an end whose leaf interface isn't of the kind that the connector table has for the connector and the
--     role, or whose component isn't hardware or software as the table has it; its name is the last word of the end;
--   TypeMismatch stands at an end whose leaf interface has another type word or size than that of the first end of the
--     connection, where `Buf` is `Buf(4096)`, at each connector but that of interrupts; its name is the last word of the end;
--   EndCount stands at the name of a connection whose numbers of `from` and `to` ends aren't both as the table allows;
--   TypeMismatch stands at the name of an interface whose size stands there and is 0 or above 268,435,456.
--
-- An end that leads to no interface has no fault here.
use Rattle.adl_meaning.specs.Prelude.{Code, End, Fault, From, Hierarchy, Member, Role, Source, To, Wire, at_word, body, bytes_eq, count_by, default_size, flat_map, hierarchy_of, last_name, least, option_and_then, option_map_or, same_kind, slice_get, top_number, where_true, wires_of}
use Rattle.std.specs.Prelude.{Bool, List, None, Option, Some, [], false, if◌then◌else◌, nat_le, not, suc, true, unwrap_or, zero, ℕ, ◌&&◌, ◌++◌, ◌+◌, ◌==◌, ◌∷◌}
use Rattle.adl_meaning.specs.declared.connector.Connector.{Connector}
use Rattle.adl_meaning.specs.declared.connector.Connector.TheVariants.{Interrupt}
use Rattle.conn_rules.specs.Ends.{allows, end_rule}
use Rattle.conn_rules.specs.Row.{same_role}
use Rattle.conn_rules.specs.declared.end.EndRule.{EndRule}
use Rattle.adl_program.specs.LeafInterfaces.{LeafInterface, leaf_of}
use Rattle.adl_program.specs.LedEnds.{LedEnd, LedWire, led_leaf}
use Rattle.cam_base.specs.declared.code.Code.TheVariants as code
use Rattle.adl_ast.specs.declared.component.Member.TheVariants as members

-- ---- ends

abbrev pub is_kind_of : EndRule → LeafInterface → Bool
is_kind_of rule l = same_kind l.interface.kind rule.interface && (if rule.hardware then l.hardware else not l.hardware)

-- whether all ends of the connector have one type
abbrev pub has_one_type : Connector → Bool
has_one_type Interrupt = false
has_one_type _ = true

-- one type word and one size
abbrev pub same_type : LeafInterface → LeafInterface → Bool
same_type l m = bytes_eq l.interface.word.name m.interface.word.name && unwrap_or l.interface.size default_size == unwrap_or
    m.interface.size default_size

-- whether two ends agree; an end that joins no interface agrees with all
abbrev pub agree : Option LeafInterface → Option LeafInterface → Bool
agree (Some l) (Some m) = same_type l m
agree _ _ = true

abbrev pub at_end : Code → End → Fault
at_end c e = record { code = c; place = e.place; name = last_name e.words }

-- those of an end that joins this interface, if any
abbrev pub faults_at : Connector → Option LeafInterface → Option LeafInterface → End → List Fault
faults_at c first leaf e =
    where_true (not (option_map_or (is_kind_of (end_rule c e.role)) leaf true)) (at_end code.Kind e)
    ++ where_true (has_one_type c && not (agree first leaf)) (at_end code.TypeMismatch e)

abbrev pub end_faults : Hierarchy → ℕ → Connector → Option LeafInterface → End → List Fault
end_faults h k c first e = faults_at c first (leaf_of h k e.words) e

-- ---- connections

abbrev pub first_leaf : Hierarchy → ℕ → List End → Option LeafInterface
first_leaf h k [] = None
first_leaf h k (e ∷ es) = leaf_of h k e.words

abbrev pub count_of : Role → List End → ℕ
count_of role ends = count_by (λ e. same_role e.role role) ends

abbrev pub may_have : Connector → List End → Bool
may_have c ends = allows (end_rule c From) (count_of From ends) && allows (end_rule c To) (count_of To ends)

abbrev pub wire_faults : Hierarchy → ℕ → Wire → List Fault
wire_faults h k w = flat_map (end_faults h k w.0 (first_leaf h k w.1.ends)) w.1.ends ++ where_true (not (may_have w.0 w.1.ends))
    (at_word code.EndCount w.1.id)

-- the same of connections whose ends tell where they lead
abbrev pub led_faults : Hierarchy → Connector → Option LeafInterface → LedEnd → List Fault
led_faults h c first x = faults_at c first (led_leaf h x) x.end

abbrev pub first_led : Hierarchy → List LedEnd → Option LeafInterface
first_led h xs = option_and_then (led_leaf h) (slice_get xs 0)

abbrev pub led_wire_faults : Hierarchy → LedWire → List Fault
led_wire_faults h x = flat_map (led_faults h x.wire.0 (first_led h x.ends)) x.ends ++ where_true
    (not (may_have x.wire.0 x.wire.1.ends)) (at_word code.EndCount x.wire.1.id)

-- ---- sizes

abbrev pub is_size : ℕ → Bool
is_size n = nat_le 1 n && nat_le n 268435456

abbrev pub size_faults : Member → List Fault
size_faults (members.Interface i) = where_true (not (option_map_or is_size i.size true)) (at_word code.TypeMismatch i.id)
size_faults _ = []

-- ---- bodies

abbrev pub body_faults : Hierarchy → ℕ → List Fault
body_faults h k = flat_map (wire_faults h k) (wires_of (body h k)) ++ option_map_or (λ c. flat_map size_faults c.members)
    (body h k).component []

-- those of the first n bodies
abbrev pub faults_below : Hierarchy → ℕ → List Fault
faults_below h zero = []
faults_below h (suc n) = faults_below h n ++ body_faults h n

-- ---- all

abbrev pub type_faults_in : Hierarchy → List Fault
type_faults_in h = faults_below h (top_number h + 1)

abbrev pub type_faults : Source → List Fault
type_faults s = type_faults_in (hierarchy_of s)

abbrev pub first_type_fault : Source → Option Fault
first_type_fault s = least (type_faults s)
