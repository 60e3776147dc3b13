-- Where no name is unknown, nothing is left out of a body: each instance of its composition is there, and each connection.
use Rattle.adl_hierarchy.proofs.Common.{AreNamesSound, Composition, Connector, Instance, IsIn, Known, Line, List, Name, None, Option, Part, Some, Source, Wire, [], ap, body, connections_in, connector_of, cons_option, filter_map, flat_map}
use Rattle.adl_hierarchy.proofs.Common.{hierarchy_of, in_flat_map, inl, inr, instances_by, instances_in, kind_named, known_in, map, map-append, map_some, option_map, option_map_or, part_of, parts_by, parts_in, refl, sym, unknown_in_composition}
use Rattle.adl_hierarchy.proofs.Common.{wire_of, wires_of, ℕ, ◌++◌, ◌∙◌, ◌∷◌, ◌≡◌}
use Rattle.adl_ast.specs.declared.composition.Line.TheVariants as lines
use Rattle.adl_hierarchy.proofs.Bodies.{parts_of}
use Rattle.adl_hierarchy.proofs.KnownNames.{typed, no_unknown, instance_typed, connector_known}

-- where f gives something at each, and back leads from it, nothing is left out
whole : {X Y : Type 0} (f : X → Option Y) (back : Y → X) → ((x : X) (y : Y) → f x ≡ Some y → back y ≡ x) → (xs : List X)
    → ((x : X) → IsIn x xs → (y : Y) × (f x ≡ Some y)) → map back (filter_map f xs) ≡ xs
whole f back leads [] e = refl
whole f back leads (x ∷ xs) e =
    let y = e x (inl refl) in
    ap (λ o. map back (cons_option o (filter_map f xs))) y.1 ∙ ap (λ z. z ∷ map back (filter_map f xs)) (leads x y.0 y.1)
    ∙ ap (λ zs. x ∷ zs) (whole f back leads xs (λ z i. e z (inr i)))

each_whole : {X Y Z : Type 0} (f : X → List Y) (back : Y → Z) (g : X → List Z) (xs : List X)
    → ((x : X) → IsIn x xs → map back (f x) ≡ g x) → map back (flat_map f xs) ≡ flat_map g xs
each_whole f back g [] e = refl
each_whole f back g (x ∷ xs) e =
    map-append back (f x) (flat_map f xs) ∙ ap (λ zs. zs ++ map back (flat_map f xs)) (e x (inl refl))
    ∙ ap (λ zs. g x ++ zs) (each_whole f back g xs (λ z i. e z (inr i)))

-- ---- instances

group_whole : (numbers : Name → Option ℕ) (g : Option Name) (is : List Instance)
    → ((i : Instance) → IsIn i is → (t : ℕ) × (numbers i.component.name ≡ Some t))
    → map (λ x. x.instance) (filter_map (part_of numbers g) is) ≡ is
group_whole numbers g is e =
    let F : Instance → ℕ → Part = λ i k. record { instance = i; group = g; kind = k } in
    whole (part_of numbers g) (λ (x : Part). x.instance) (λ i x t. let m = map_some (F i) (numbers i.component.name) x t in
    ap (λ (y : Part). y.instance) (sym m.2)) is (λ i m. let t = e i m in (F i t.0, ap (λ o. option_map (F i) o) t.1))

line_whole : (numbers : Name → Option ℕ) (l : Line) → ((i : Instance) → IsIn i (instances_by l)
    → (t : ℕ) × (numbers i.component.name ≡ Some t)) → map (λ x. x.instance) (parts_by numbers l) ≡ instances_by l
line_whole numbers (lines.Instance i) e = group_whole numbers None (i ∷ []) e
line_whole numbers (lines.Group g) e = group_whole numbers (Some g.id.name) g.instances e
line_whole numbers _ e = refl

-- the instances of a body are those of its composition, in their order
pub parts_whole : (s : Source) → AreNamesSound s → (k : ℕ) → map (λ x. x.instance) (body (hierarchy_of s) k).parts ≡ option_map_or
    instances_in (body (hierarchy_of s) k).composition []
parts_whole s sound k = ap (λ xs. map (λ (x : Part). x.instance) xs) (parts_of s k)
    ∙ by_case (body (hierarchy_of s) k).composition (no_unknown s sound k)
  where
    by_case : (o : Option Composition)
        → ((c : Composition) → o ≡ Some c → (owner : Option Known) × (unknown_in_composition (known_in s) owner c ≡ []))
        → map (λ (x : Part). x.instance) (parts_in (kind_named s) o) ≡ option_map_or instances_in o []
    by_case None h = refl
    by_case (Some c) h =
        let n = h c refl in
        each_whole (parts_by (kind_named s)) (λ (x : Part). x.instance) instances_by c.lines
        (λ l i. line_whole (kind_named s) l (λ j m.
        let known = instance_typed (known_in s) n.0 c j n.1 (in_flat_map instances_by l j c.lines i m) in
        let t = typed s j.component.name known.0 known.1 in
        (t.number, t.numbered)))

-- ---- connections

-- so are its connections
pub wires_whole : (s : Source) → AreNamesSound s → (k : ℕ) → map (λ w. w.1) (wires_of (body (hierarchy_of s) k)) ≡ option_map_or
    connections_in (body (hierarchy_of s) k).composition []
wires_whole s sound k = by_case (body (hierarchy_of s) k).composition (no_unknown s sound k)
  where
    by_case : (o : Option Composition)
        → ((c : Composition) → o ≡ Some c → (owner : Option Known) × (unknown_in_composition (known_in s) owner c ≡ []))
        → map (λ (w : Wire). w.1) (filter_map wire_of (option_map_or connections_in o [])) ≡ option_map_or connections_in o []
    by_case None h = refl
    by_case (Some c) h =
        let n = h c refl in
        whole wire_of (λ (w : Wire). w.1) (λ x w t. let m = map_some (λ (z : Connector). (z, x)) (connector_of x.connector.name) w
        t in ap (λ (v : Wire). v.1) (sym m.2)) (connections_in c) (λ x i.
        let t = connector_known (known_in s) n.0 c x n.1 i in
        ((t.0, x), ap (λ o. option_map (λ (z : Connector). (z, x)) o) t.1))
