-- Words of a source that are unknown, and where they stand.
use Rattle.front_laws.proofs.Common.{Assembly, Bool, Component, Composition, Configuration, Connection, End, Export, Fault, HasComposition, HasItem, Held, Holding, Id, Instance, IsIn, Item, ItemAt, Known, List, Member, Name, NamesInstance, None}
use Rattle.front_laws.proofs.Common.{Option, Setting, Some, Source, Types, [], a_connection, a_group, alone, an_instance, ap, arith, as_composition, as_connection, as_export, compositions, configurations, connections_in, connector_of, exports_in}
use Rattle.front_laws.proofs.Common.{false, flat_map, from_filter_map, from_flat_map, held_as, in_a_group, in_append, in_filter_map, in_flat_map, in_left, in_right, inl, inr, instances_by, instances_in, is_none, is_procedure, is_some, items_of}
use Rattle.front_laws.proofs.Common.{known_in, known_of, length, names_procedure, not, of_assembly, of_component, option_and_then, procedure_named, refl, scope_of_held, subst, sym, true, unknown, unknown_attribute, unknown_connector}
use Rattle.front_laws.proofs.Common.{unknown_if_configured, unknown_in_composition, unknown_in_configuration, unknown_in_dotted, unknown_in_group, unknown_in_item, unknown_in_line, unknown_in_member, unknown_in_one_setting, unknown_in_three}
use Rattle.front_laws.proofs.Common.{rules, unknown_in_two, unknown_interface, unknown_names, unknown_target, unknown_type, within, ◌++◌, ◌||◌, ◌∙◌, ◌∷◌, ◌≡◌, ◌≤◌}
use Rattle.adl_ast.specs.declared.component.Member.TheVariants as members
use Rattle.adl_ast.specs.declared.composition.Line.TheVariants as lines
use Rattle.adl_ast.specs.declared.configuration.Setter.{Setter}
use Rattle.adl_ast.specs.declared.configuration.Setter.TheVariants as setters
use Rattle.adl_ast.specs.declared.file.Item.TheVariants as items
use Rattle.adl_meaning.specs.Members.{as_configuration}
use Rattle.adl_meaning.specs.Prelude.{Line, unknown_in_setting}
use Rattle.front_laws.specs.UnknownNames.{HasSetting, IsUnknown, IsUnknownPart, LacksAttribute, LacksInterface, a_connector, a_procedure, a_target, a_type, an_attribute_referred, connection_named, group_named, in_a_setting, in_an_end, in_an_export, instance_in_front, no_interface, no_such_member, not_held, of_a_body, of_the_top}
use Rattle.front_laws.proofs.Tested.{from_false, in_false}
use Rattle.front_laws.proofs.UnknownWords.{from_setting, in_setting}

-- ---- dotted names of two or three words

from_interface : (types : Types) (held : Holding) (ws : List Id) (j : Id) (o : Option Known) (f : Fault)
    → ((c : Known) → o ≡ Some c → NamesInstance types held ws c)
    → IsIn f (unknown_interface o j) → (w : Id) × IsUnknownPart types held (ws ++ j ∷ []) w × (f ≡ unknown w)
from_interface types held ws j None f n i = absurd i
from_interface types held ws j (Some c) f n i =
    let k = from_false (is_some (c.interface j.name)) (unknown j) f i in
    (j, no_interface ws j c refl (n c refl) (is_none (c.interface j.name) k.0), sym k.1)

from_two : (types : Types) (held : Holding) (a j : Id) (f : Fault) (o : Option Held) → held a.name ≡ o
    → IsIn f (unknown_in_two types o a j) → (w : Id) × IsUnknownPart types held (a ∷ j ∷ []) w × (f ≡ unknown w)
from_two types held a j f None e (inl s) = (a, not_held a j [] refl (omega arith) e, sym s)
from_two types held a j f (Some (an_instance i)) e x = from_interface types held (a ∷ []) j (types i.component.name) f
    (λ c t. alone a i c e t) x
from_two types held a j f (Some (a_group members)) e (inl s) = (a, group_named a j members refl e, sym s)
from_two types held a j f (Some (a_group members)) e (inr i) =
    let k = from_false (is_some (members j.name)) (unknown j) f i in
    (j, no_such_member a j [] members refl (omega arith) e (is_none (members j.name) k.0), sym k.1)
from_two types held a j f (Some a_connection) e (inl s) = (a, connection_named a j [] refl (omega arith) e, sym s)
from_two types held a j f _ e (inr i) = absurd i

from_three : (types : Types) (held : Holding) (a b j : Id) (f : Fault) (o : Option Held) → held a.name ≡ o
    → IsIn f (unknown_in_three types o a b j) → (w : Id) × IsUnknownPart types held (a ∷ b ∷ j ∷ []) w × (f ≡ unknown w)
from_three types held a b j f None e (inl s) = (a, not_held a b (j ∷ []) refl (omega arith) e, sym s)
from_three types held a b j f (Some (an_instance i)) e (inl s) = (a, instance_in_front a b j i refl e, sym s)
from_three types held a b j f (Some (an_instance i)) e (inr x) = absurd x
from_three types held a b j f (Some (a_group members)) e x = by_member (members b.name) refl x
  where
    by_member : (o : Option Instance) → members b.name ≡ o → IsIn f (unknown_in_group types o b j)
        → (w : Id) × IsUnknownPart types held (a ∷ b ∷ j ∷ []) w × (f ≡ unknown w)
    by_member None m (inl s) = (b, no_such_member a b (j ∷ []) members refl (omega arith) e m, sym s)
    by_member None m (inr i) = absurd i
    by_member (Some i) m x = from_interface types held (a ∷ b ∷ []) j (types i.component.name) f
        (λ c t. in_a_group a b members i c e m t) x
from_three types held a b j f (Some a_connection) e (inl s) = (a, connection_named a b (j ∷ []) refl (omega arith) e, sym s)
from_three types held a b j f _ e (inr i) = absurd i

from_dotted : (types : Types) (held : Holding) (words : List Id) (f : Fault) → IsIn f (unknown_in_dotted types held words)
    → (w : Id) × IsUnknownPart types held words w × (f ≡ unknown w)
from_dotted types held (a ∷ j ∷ []) f i = from_two types held a j f (held a.name) refl i
from_dotted types held (a ∷ b ∷ j ∷ []) f i = from_three types held a b j f (held a.name) refl i
from_dotted types held _ f i = absurd i

-- the fault at the first word, where the composition holds it so
at_first : (types : Types) (held : Holding) (a b : Id) (more : List Id) (o : Option Held) (w : Id) → length (a ∷ b ∷ more) ≤ 3
    → held a.name ≡ o → ((c : List Id) → IsIn (unknown w) (unknown_in_two types o a b))
    → ((j : Id) → IsIn (unknown w) (unknown_in_three types o a b j))
    → IsIn (unknown w) (unknown_in_dotted types held (a ∷ b ∷ more))
at_first types held a b [] o w l e two three = let P : Option Held → Type 0 =
    λ z. IsIn (unknown w) (unknown_in_two types z a b) in subst P (sym e) (two [])
at_first types held a b (j ∷ []) o w l e two three = let P : Option Held → Type 0 =
    λ z. IsIn (unknown w) (unknown_in_three types z a b j) in subst P (sym e) (three j)
at_first types held a b (j ∷ x ∷ more) o w l e two three = absurd (omega (arith, l))

interface_there : (c : Known) (j : Id) (o : Option Known) → o ≡ Some c → c.interface j.name ≡ None
    → IsIn (unknown j) (unknown_interface o j)
interface_there c j o e none = search (rules)

in_dotted : (types : Types) (held : Holding) (words : List Id) (w : Id) → IsUnknownPart types held words w
    → IsIn (unknown w) (unknown_in_dotted types held words)
in_dotted types held words w (not_held a b more e l h) = search (rules)
in_dotted types held words w (connection_named a b more e l h) = search (rules)
in_dotted types held words w (instance_in_front a b j i e h) = search (rules)
in_dotted types held words w (group_named a j members e h) = search (rules)
in_dotted types held words w (no_such_member a b more members e l h m) = search (rules)
in_dotted types held words w (no_interface ws j c e n none) =
    subst (λ z. IsIn (unknown w) (unknown_in_dotted types held z)) (sym e) (by_words ws n)
  where
    by_words : (ws : List Id) → NamesInstance types held ws c → IsIn (unknown w) (unknown_in_dotted types held (ws ++ w ∷ []))
    by_words ws (alone a i c' h t) =
        subst (λ z. IsIn (unknown w) (unknown_in_two types z a w)) (sym h) (interface_there c w (types i.component.name) t none)
    by_words ws (in_a_group g a members i c' h m t) =
        let R : Option Held → Type 0 = λ z. IsIn (unknown w) (unknown_in_three types z g a w) in
        let S : Option Instance → Type 0 = λ z. IsIn (unknown w) (unknown_in_group types z a w) in
        subst R (sym h) (subst S (sym m) (interface_there c w (types i.component.name) t none))

-- ---- lines

-- what stands in a line of a kind stands in the composition
from_line : (s : Source) (owner : Option Known) (k : Composition) (l : Line) (f : Fault) → HasComposition s owner k
    → IsIn l k.lines → IsIn f (unknown_in_line (known_in s) owner (held_as k) l) → IsUnknown s f
from_line s owner k (lines.Instance i) f h j x =
    a_type_at i (in_flat_map instances_by (lines.Instance i) i k.lines j (inl refl)) x
  where
    a_type_at : (i : Instance) → IsIn i (instances_in k) → IsIn f (unknown_type (known_in s) i) → IsUnknown s f
    a_type_at i n x = let t = from_false (is_some (known_in s i.component.name)) (unknown i.component) f x in
        a_type owner k i h n (is_none (known_in s i.component.name) t.0) (sym t.1)
from_line s owner k (lines.Group g) f h j x =
    let i = from_flat_map (unknown_type (known_in s)) f g.instances x in
    let t = from_false (is_some (known_in s i.0.component.name)) (unknown i.0.component) f i.2 in
    a_type owner k i.0 h (in_flat_map instances_by (lines.Group g) i.0 k.lines j i.1)
    (is_none (known_in s i.0.component.name) t.0) (sym t.1)
from_line s owner k (lines.Connection w) f h j x =
    let there = in_filter_map as_connection (lines.Connection w) w k.lines j refl in
    elim (in_append f (unknown_connector w) (flat_map (λ (e : End). unknown_in_dotted (known_in s) (held_as k) e.words) w.ends)
    x) [
      | inl y ↦ let t = from_false (is_some (connector_of w.connector.name)) (unknown w.connector) f y in
          a_connector owner k w h there (is_none (connector_of w.connector.name) t.0) (sym t.1)
      | inr y ↦ let e = from_flat_map (λ (e : End). unknown_in_dotted (known_in s) (held_as k) e.words) f w.ends y in
          let d = from_dotted (known_in s) (held_as k) e.0.words f e.2 in
          in_an_end owner k w e.0 d.0 h there e.1 d.1 d.2
    ]
from_line s owner k (lines.Export e) f h j x =
    let there = in_filter_map as_export (lines.Export e) e k.lines j refl in
    elim (in_append f (unknown_in_dotted (known_in s) (held_as k) e.words) (unknown_target owner e.target) x) [
      | inl y ↦ let d = from_dotted (known_in s) (held_as k) e.words f y in in_an_export owner k e d.0 h there d.1 d.2
      | inr y ↦ let t = from_false (is_some (option_and_then (λ c. c.interface e.target.name) owner)) (unknown e.target) f y in
          a_target owner k e h there (lacks owner t.0) (sym t.1)
    ]
  where
    lacks : (o : Option Known) → is_some (option_and_then (λ c. c.interface e.target.name) o) ≡ false
        → LacksInterface o e.target.name
    lacks None t = tt
    lacks (Some c) t = is_none (c.interface e.target.name) t

from_composition : (s : Source) (owner : Option Known) (k : Composition) (f : Fault) → HasComposition s owner k
    → IsIn f (unknown_in_composition (known_in s) owner k) → IsUnknown s f
from_composition s owner k f h i =
    let l = from_flat_map (unknown_in_line (known_in s) owner (held_as k)) f k.lines i in from_line s owner k l.0 f h l.1 l.2

-- ---- settings

lacks_attribute : (o : Option Known) (n : Name) → is_some (option_and_then (λ c. c.attribute n) o) ≡ false → LacksAttribute o n
lacks_attribute None n t = tt
lacks_attribute (Some c) n t = is_none (c.attribute n) t

from_setter : (s : Source) (owner : Option Known) (holds : Option Holding) (x : Setting) (r : Setter) (f : Fault)
    → HasSetting s owner holds x → x.setter ≡ r → IsIn f (unknown_attribute owner r) → IsUnknown s f
from_setter s owner holds x (setters.Literal v) f h e i = absurd i
from_setter s owner holds x (setters.Reference y) f h e i =
    let t = from_false (is_some (option_and_then (λ c. c.attribute y.name) owner)) (unknown y) f i in
    an_attribute_referred owner holds x y h e (lacks_attribute owner y.name t.0) (sym t.1)

from_one_setting : (s : Source) (owner : Option Known) (holds : Option Holding) (x : Setting) (f : Fault)
    → HasSetting s owner holds x → IsIn f (unknown_in_one_setting (known_in s) owner (scope_of_held holds) x) → IsUnknown s f
from_one_setting s owner holds x f h i =
    elim (in_append f (unknown_in_setting (known_in s) (scope_of_held holds) x.words) (unknown_attribute owner x.setter) i) [
      | inl j ↦ let w = from_setting (known_in s) holds x.words f j in in_a_setting owner holds x w.0 h w.1 w.2
      | inr j ↦ from_setter s owner holds x x.setter f h refl j
    ]

from_configuration : (s : Source) (owner : Option Known) (holds : Option Holding) (g : Configuration) (f : Fault)
    → ((x : Setting) → IsIn x g.settings → HasSetting s owner holds x)
    → IsIn f (unknown_in_configuration (known_in s) owner (scope_of_held holds) g) → IsUnknown s f
from_configuration s owner holds g f h i =
    let x = from_flat_map (unknown_in_one_setting (known_in s) owner (scope_of_held holds)) f g.settings i in
    from_one_setting s owner holds x.0 f (h x.0 x.1) x.2

-- ---- members and items

from_member : (s : Source) (c : Component) (m : Member) (f : Fault) → HasItem s (items.Component c) → IsIn m c.members
    → IsIn f (unknown_in_member (known_in s) (is_procedure s) (known_of c) m) → IsUnknown s f
from_member s c (members.Interface i) f h j x =
    let t = from_false (not (names_procedure i.kind) || is_procedure s i.word.name) (unknown i.word) f x in
    let both = neither (names_procedure i.kind) (is_procedure s i.word.name) t.0 in
    a_procedure c i h j both.0 (is_none (procedure_named s i.word.name) both.1) (sym t.1)
  where
    neither : (a b : Bool) → (not a || b) ≡ false → (a ≡ true) × (b ≡ false)
    neither true b e = (refl, e)
    neither false b e = cc
from_member s c (members.Composition k) f h j x =
    from_composition s (Some (known_of c)) k f
    (of_component c k h (in_filter_map as_composition (members.Composition k) k c.members j refl)) x
from_member s c (members.Configuration g) f h j x =
    from_configuration s (Some (known_of c)) (known_of c).holds g f
    (λ y i. of_a_body c g y h (in_filter_map as_configuration (members.Configuration g) g c.members j refl) i) x
from_member s c _ f h j x = absurd x

from_top : (s : Source) (a : Assembly) (o : Option Configuration) (f : Fault) → HasItem s (items.Assembly a) → a.configuration ≡ o
    → IsIn f (unknown_if_configured (known_in s) (within (held_as a.composition)) o) → IsUnknown s f
from_top s a None f h e i = absurd i
from_top s a (Some g) f h e i = from_configuration s None (Some (held_as a.composition)) g f (λ y j. of_the_top a g y h e j) i

from_item : (s : Source) (x : Item) (f : Fault) → HasItem s x → IsIn f (unknown_in_item (known_in s) (is_procedure s) x)
    → IsUnknown s f
from_item s (items.Component c) f h j =
    let m = from_flat_map (unknown_in_member (known_in s) (is_procedure s) (known_of c)) f c.members j in
    from_member s c m.0 f h m.1 m.2
from_item s (items.Assembly a) f h j =
    elim (in_append f (unknown_in_composition (known_in s) None a.composition)
    (unknown_if_configured (known_in s) (within (held_as a.composition)) a.configuration) j) [
      | inl x ↦ from_composition s None a.composition f (of_assembly a h) x
      | inr x ↦ from_top s a a.configuration f h refl x
    ]
from_item s _ f h j = absurd j

pub from_unknown : (s : Source) (f : Fault) → IsIn f (unknown_names s) → IsUnknown s f
from_unknown s f i =
    let x = from_flat_map (λ (y : ItemAt × Item). unknown_in_item (known_in s) (is_procedure s) y.1) f (items_of s) i in
    from_item s x.0.1 f (record { at = x.0.0; stands = x.1 }) x.2

-- ---- and back

in_items : (s : Source) (x : Item) (f : Fault) → HasItem s x → IsIn f (unknown_in_item (known_in s) (is_procedure s) x)
    → IsIn f (unknown_names s)
in_items s x f h i = in_flat_map (λ (y : ItemAt × Item). unknown_in_item (known_in s) (is_procedure s) y.1) (h.at, x) f
    (items_of s) h.stands i

in_members : (s : Source) (c : Component) (m : Member) (f : Fault) → HasItem s (items.Component c) → IsIn m c.members
    → IsIn f (unknown_in_member (known_in s) (is_procedure s) (known_of c) m) → IsIn f (unknown_names s)
in_members s c m f h j i = search (rules, in_flat_map)

-- a member from what it is read as
composition_there : (c : Component) (k : Composition) → IsIn k (compositions c) → IsIn (members.Composition k) c.members
composition_there c k i = search (rules, from_filter_map)

configuration_there : (c : Component) (k : Configuration) → IsIn k (configurations c) → IsIn (members.Configuration k) c.members
configuration_there c k i = search (rules, from_filter_map)

in_owned : (s : Source) (owner : Option Known) (k : Composition) (f : Fault) → HasComposition s owner k
    → IsIn f (unknown_in_composition (known_in s) owner k) → IsIn f (unknown_names s)
in_owned s owner k f (of_component c k' h j) i = in_members s c (members.Composition k') f h (composition_there c k' j) i
in_owned s owner k f (of_assembly a h) i = search (rules, in_items, in_left)

in_lines : (s : Source) (owner : Option Known) (k : Composition) (l : Line) (f : Fault) → HasComposition s owner k
    → IsIn l k.lines → IsIn f (unknown_in_line (known_in s) owner (held_as k) l) → IsIn f (unknown_names s)
in_lines s owner k l f h j i = in_owned s owner k f h (in_flat_map (unknown_in_line (known_in s) owner (held_as k)) l
    f k.lines j i)

connection_there : (k : Composition) (w : Connection) → IsIn w (connections_in k) → IsIn (lines.Connection w) k.lines
connection_there k w i = search (rules, from_filter_map)

export_there : (k : Composition) (w : Export) → IsIn w (exports_in k) → IsIn (lines.Export w) k.lines
export_there k w i = search (rules, from_filter_map)

-- an instance of a composition stands in a line
in_instances : (s : Source) (owner : Option Known) (k : Composition) (i : Instance) → HasComposition s owner k
    → IsIn i (instances_in k) → known_in s i.component.name ≡ None → IsIn (unknown i.component) (unknown_names s)
in_instances s owner k i h j none =
    let l = from_flat_map instances_by i k.lines j in in_lines s owner k l.0 (unknown i.component) h l.1 (by_line l.0 l.2)
  where
    here : IsIn (unknown i.component) (unknown_type (known_in s) i)
    here = in_false (is_some (known_in s i.component.name)) (unknown i.component) (ap is_some none)

    by_line : (l : Line) → IsIn i (instances_by l) → IsIn (unknown i.component) (unknown_in_line (known_in s) owner (held_as k) l)
    by_line (lines.Instance x) (inl e) = let P : Instance → Type 0 =
        λ z. IsIn (unknown i.component) (unknown_type (known_in s) z) in subst P (sym e) here
    by_line (lines.Instance x) (inr y) = absurd y
    by_line (lines.Group g) y = in_flat_map (unknown_type (known_in s)) i (unknown i.component) g.instances y here
    by_line _ y = absurd y

in_one_setting : (s : Source) (owner : Option Known) (holds : Option Holding) (x : Setting) (f : Fault)
    → HasSetting s owner holds x
    → IsIn f (unknown_in_one_setting (known_in s) owner (scope_of_held holds) x) → IsIn f (unknown_names s)
in_one_setting s owner holds x f (of_a_body c g y h j i) u = search (rules, in_members, configuration_there, in_flat_map)
in_one_setting s owner holds x f (of_the_top a g y h e i) u =
    let P : Option Configuration → Type 0 = λ z. IsIn f (unknown_if_configured (known_in s) (within (held_as a.composition)) z) in
    in_items s (items.Assembly a) f h (in_right f (unknown_in_composition (known_in s) None a.composition)
    (unknown_if_configured (known_in s) (within (held_as a.composition)) a.configuration)
    (subst P (sym e) (in_flat_map (unknown_in_one_setting (known_in s) None (within (held_as a.composition))) y f
    g.settings i u)))

lacked : (o : Option Known) (n : Name) → LacksAttribute o n → is_some (option_and_then (λ c. c.attribute n) o) ≡ false
lacked None n l = refl
lacked (Some c) n l = ap is_some l

lacked_interface : (o : Option Known) (n : Name) → LacksInterface o n → is_some (option_and_then (λ c. c.interface n) o) ≡ false
lacked_interface None n l = refl
lacked_interface (Some c) n l = ap is_some l

there : (s : Source) (f g : Fault) → f ≡ g → IsIn g (unknown_names s) → IsIn f (unknown_names s)
there s f g e i = let P : Fault → Type 0 = λ z. IsIn z (unknown_names s) in subst P (sym e) i

pub in_unknown : (s : Source) (f : Fault) → IsUnknown s f → IsIn f (unknown_names s)
in_unknown s f (in_a_setting owner holds x w h u e) = search (rules, there, in_one_setting, in_left, in_setting)
in_unknown s f (an_attribute_referred owner holds x y h r l e) =
    let P : Setter → Type 0 = λ z. IsIn (unknown y) (unknown_attribute owner z) in
    there s f (unknown y) e (in_one_setting s owner holds x (unknown y) h
    (in_right (unknown y) (unknown_in_setting (known_in s) (scope_of_held holds) x.words) (unknown_attribute owner x.setter)
    (subst P (sym r) (in_false (is_some (option_and_then (λ c. c.attribute y.name) owner)) (unknown y) (lacked owner y.name l)))))
in_unknown s f (a_procedure c i h j n none e) =
    there s f (unknown i.word) e (in_members s c (members.Interface i) (unknown i.word) h j
    (in_false (not (names_procedure i.kind) || is_procedure s i.word.name) (unknown i.word)
    (ap (λ z. not z || is_procedure s i.word.name) n ∙ ap is_some none)))
in_unknown s f (a_type owner k i h j none e) = there s f (unknown i.component) e (in_instances s owner k i h j none)
in_unknown s f (a_connector owner k x h j none e) =
    there s f (unknown x.connector) e (in_lines s owner k (lines.Connection x) (unknown x.connector) h (connection_there k x j)
    (in_left (unknown x.connector) (unknown_connector x)
    (flat_map (λ (e : End). unknown_in_dotted (known_in s) (held_as k) e.words) x.ends)
    (in_false (is_some (connector_of x.connector.name)) (unknown x.connector) (ap is_some none))))
in_unknown s f (in_an_end owner k x d w h j i u e) =
    search (rules, there, in_lines, connection_there, in_right, in_flat_map, in_dotted)
in_unknown s f (in_an_export owner k x w h j u e) = search (rules, there, in_lines, export_there, in_left, in_dotted)
in_unknown s f (a_target owner k x h j l e) =
    search (rules, there, in_lines, export_there, in_right, in_false, is_some, lacked_interface)
