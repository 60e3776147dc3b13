-- Where no name is a duplicate, the names of a body's instances stand once.
use Rattle.adl_hierarchy.proofs.Common.{AreNamesSound, Composition, Connection, Connector, Held, Id, Instance, IsIn, IsOnce, Line, List, Name, None, Option, Part, Some, Source, Wire, [], ap, as_connection, as_held, body, compositions, connections_in}
use Rattle.adl_hierarchy.proofs.Common.{connector_of, cons_option, duplicates_in_composition, duplicates_in_item, filter_map, flat_map, held_by, held_in, hierarchy_of, inl, inr, items_of, kind_named, map, map_some, name_of, none_in, none_right}
use Rattle.adl_hierarchy.proofs.Common.{option_map_or, part_of, parts_by, parts_in, refl, rules, subst, sym, wire_of, wires_of, ℕ, ◌++◌, ◌∷◌, ◌≡◌}
use Rattle.adl_ast.specs.declared.composition.Line.TheVariants as lines
use Rattle.adl_hierarchy.proofs.Bodies.{parts_of}
use Rattle.adl_hierarchy.proofs.Lists.{in_get}
use Rattle.adl_hierarchy.proofs.Repeats.{filtered_in, once_filtered, once_flat_map, unrepeated_once}
use Rattle.adl_hierarchy.proofs.Sources.{composed, none_in_component, none_in_assembly}

abbrev pub held_name : Id × Held → Name
held_name h = h.0.name

part_name : (numbers : Name → Option ℕ) (g : Option Name) (i : Instance) (x : Part) → part_of numbers g i ≡ Some x
    → name_of x ≡ i.id.name
part_name numbers g i x e = search (rules, map_some)

names_held : (is : List Instance) → map held_name (map as_held is) ≡ map (λ i. i.id.name) is
names_held [] = refl
names_held (i ∷ is) = ap (λ ns. i.id.name ∷ ns) (names_held is)

group_in : (numbers : Name → Option ℕ) (g : Option Name) (is : List Instance) (n : Name)
    → IsIn n (map name_of (filter_map (part_of numbers g) is)) → IsIn n (map held_name (map as_held is))
group_in numbers g is n i = search (rules, names_held, filtered_in, part_name)

group_once : (numbers : Name → Option ℕ) (g : Option Name) (is : List Instance) → IsOnce (map held_name (map as_held is))
    → IsOnce (map name_of (filter_map (part_of numbers g) is))
group_once numbers g is a =
    let P : List Name → Type 0 = λ ns. IsOnce ns in
    once_filtered (part_of numbers g) name_of (λ i. i.id.name) (part_name numbers g) is (subst P (names_held is) a)

line_in : (numbers : Name → Option ℕ) (l : Line) (n : Name) → IsIn n (map name_of (parts_by numbers l))
    → IsIn n (map held_name (held_by l))
line_in numbers (lines.Instance i) n m = group_in numbers None (i ∷ []) n m
line_in numbers (lines.Group g) n m = inr (group_in numbers (Some g.id.name) g.instances n m)
line_in numbers _ n m = absurd m

line_once : (numbers : Name → Option ℕ) (l : Line) → IsOnce (map held_name (held_by l))
    → IsOnce (map name_of (parts_by numbers l))
line_once numbers (lines.Instance i) a = group_once numbers None (i ∷ []) a
line_once numbers (lines.Group g) a = group_once numbers (Some g.id.name) g.instances a.1
line_once numbers _ a = tt

-- what a composition holds stands once by name
pub held_once : (k : Composition) → duplicates_in_composition k ≡ [] → IsOnce (map held_name (held_in k))
held_once k e = unrepeated_once (λ (h : Id × Held). h.0) (held_in k) e

parts_once : (numbers : Name → Option ℕ) (k : Composition) → duplicates_in_composition k ≡ []
    → IsOnce (map name_of (parts_in numbers (Some k)))
parts_once numbers k e = (once_flat_map (parts_by numbers) held_by name_of held_name (line_in numbers) (line_once numbers) k.lines
    (held_once k e)).0

-- no composition of a body has duplicates
pub no_duplicates : (s : Source) → AreNamesSound s → (k : ℕ) (composition : Composition)
    → (body (hierarchy_of s) k).composition ≡ Some composition → duplicates_in_composition composition ≡ []
no_duplicates s sound k composition e =
    let all = none_right _ (flat_map (λ x. duplicates_in_item x.1) (items_of s)) sound.no_duplicates in
    elim (composed s k composition e) [
      | inl c ↦
          let own = none_in_component s duplicates_in_item c.0 all c.1 in
          let them = none_right _ (flat_map duplicates_in_composition (compositions c.0.1)) own in
          none_in duplicates_in_composition (compositions c.0.1) composition them (in_get (compositions c.0.1) 0 composition c.2)
      | inr a ↦ let P : Composition → Type 0 = λ z. duplicates_in_composition z ≡ [] in
          subst P a.2 (none_in_assembly s duplicates_in_item a.0 all a.1)
    ]

-- no two instances of a body have one name
pub names_once : (s : Source) → AreNamesSound s → (k : ℕ) → IsOnce (map name_of (body (hierarchy_of s) k).parts)
names_once s sound k =
    let P : List Part → Type 0 = λ xs. IsOnce (map name_of xs) in
    subst P (sym (parts_of s k)) (by_case (body (hierarchy_of s) k).composition (no_duplicates s sound k))
  where
    by_case : (o : Option Composition) → ((composition : Composition) → o ≡ Some composition
        → duplicates_in_composition composition ≡ []) → IsOnce (map name_of (parts_in (kind_named s) o))
    by_case None h = tt
    by_case (Some composition) h = parts_once (kind_named s) composition (h composition refl)

-- ---- connections

as_one : {X Y : Type 0} (f : X → Option Y) → X → List Y
as_one f x = cons_option (f x) []

each_one : {X Y : Type 0} (f : X → Option Y) (xs : List X) → filter_map f xs ≡ flat_map (as_one f) xs
unfolding as_one
each_one f [] = refl
each_one {X} {Y} f (x ∷ xs) = by_case (f x) (each_one f xs)
  where
    by_case : (o : Option Y) → filter_map f xs ≡ flat_map (as_one f) xs → cons_option o (filter_map f xs) ≡ cons_option o []
        ++ flat_map (as_one f) xs
    by_case None e = e
    by_case (Some y) e = ap (λ ys. y ∷ ys) e

connection_name : Connection → Name
connection_name k = k.id.name

connection_in : (l : Line) (n : Name) → IsIn n (map connection_name (as_one as_connection l)) → IsIn n (map held_name (held_by l))
unfolding as_one connection_name
connection_in (lines.Connection k) n m = m
connection_in _ n m = absurd m

connection_once : (l : Line) → IsOnce (map held_name (held_by l)) → IsOnce (map connection_name (as_one as_connection l))
unfolding as_one
connection_once (lines.Connection k) a = (λ i. i, tt)
connection_once _ a = tt

connections_once : (k : Composition) → duplicates_in_composition k ≡ [] → IsOnce (map connection_name (connections_in k))
connections_once k e =
    let P : List Connection → Type 0 = λ ks. IsOnce (map connection_name ks) in
    subst P (sym (each_one as_connection k.lines)) (once_flat_map (as_one as_connection) held_by connection_name held_name
    connection_in connection_once k.lines (held_once k e)).0

wire_name : (k : Connection) (w : Wire) → wire_of k ≡ Some w → w.1.id.name ≡ connection_name k
unfolding connection_name
wire_name k w e = let m = map_some (λ (c : Connector). (c, k)) (connector_of k.connector.name) w e in
    ap (λ (v : Wire). v.1.id.name) (sym m.2)

-- no two connections of a body have one name
pub wires_once : (s : Source) → AreNamesSound s → (k : ℕ) → IsOnce (map (λ w. w.1.id.name) (wires_of (body (hierarchy_of s) k)))
wires_once s sound k = by_case (body (hierarchy_of s) k).composition (no_duplicates s sound k)
  where
    by_case : (o : Option Composition) → ((composition : Composition) → o ≡ Some composition
        → duplicates_in_composition composition ≡ [])
        → IsOnce (map (λ (w : Wire). w.1.id.name) (filter_map wire_of (option_map_or connections_in o [])))
    by_case None h = tt
    by_case (Some composition) h = once_filtered wire_of (λ (w : Wire). w.1.id.name) connection_name wire_name
        (connections_in composition) (connections_once composition (h composition refl))
