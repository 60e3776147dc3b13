-- Unknown, as a condition on a source. It stands at
--
--   a word of a setting (UnknownWords), and the attribute that a setting refers to, where the component that has the setting
--   declares none of that name; in the assembly always;
--   the procedure of `uses` or `provides`, where the source has no procedure of that name;
--   the type of an instance, where the source has no component of that name;
--   a connector that isn't one of the six;
--   a word of the dotted name of an end or of an export (IsUnknownPart);
--   the target of an export, where the component declares no interface of that name.
use Rattle.std.specs.Prelude.{◌≡◌, ◌≤◌, List, [], ◌∷◌, ◌++◌, length, Option, None, Some, true}
use Rattle.adl_ast.specs.declared.component.Interface.{Interface}
use Rattle.adl_ast.specs.declared.component.Member.TheVariants as members
use Rattle.adl_ast.specs.declared.configuration.Configuration.{Configuration}
use Rattle.adl_ast.specs.declared.configuration.Setter.TheVariants as setters
use Rattle.adl_ast.specs.declared.file.Item.TheVariants as items
use Rattle.adl_meaning.specs.Unknown.{names_procedure, unknown}
use Rattle.adl_meaning.specs.Prelude.{Assembly, Component, Composition, Connection, End, Export, Fault, Id, Instance, IsIn, Known, Name, Setting, Source, a_connection, a_group, an_instance, configurations, connections_in, connector_of, exports_in, held_as, instances_in, known_in, known_of, procedure_named}
use Rattle.front_laws.specs.Standing.{HasComposition, HasItem}
use Rattle.front_laws.specs.UnknownWords.{Holding, IsUnknownIn, NamesInstance, Types}

-- a setting of a component, which is known as this, where its composition, if it has one, holds this; or of the assembly
pub data HasSetting (s : Source) : Option Known → Option Holding → Setting → Type 0 where
  of_a_body : (c : Component) (g : Configuration) (x : Setting) → HasItem s (items.Component c) → IsIn g (configurations c)
      → IsIn x g.settings → HasSetting s (Some (known_of c)) (known_of c).holds x
  of_the_top : (a : Assembly) (g : Configuration) (x : Setting) → HasItem s (items.Assembly a) → a.configuration ≡ Some g
      → IsIn x g.settings → HasSetting s None (Some (held_as a.composition)) x

-- the component declares no attribute of this name, or no interface; the assembly declares none
abbrev pub LacksAttribute : Option Known → Name → Type 0
LacksAttribute None n = Unit {0}
LacksAttribute (Some c) n = c.attribute n ≡ None

abbrev pub LacksInterface : Option Known → Name → Type 0
LacksInterface None n = Unit {0}
LacksInterface (Some c) n = c.interface n ≡ None

-- Of two or three words of a dotted name, in a composition that holds this, this one is unknown.
pub data IsUnknownPart (types : Types) (held : Holding) (words : List Id) : Id → Type 0 where
  not_held : (a b : Id) (more : List Id) → words ≡ a ∷ b ∷ more → length words ≤ 3 → held a.name ≡ None
      → IsUnknownPart types held words a
  connection_named : (a b : Id) (more : List Id) → words ≡ a ∷ b ∷ more → length words ≤ 3 → held a.name ≡ Some a_connection
      → IsUnknownPart types held words a
  instance_in_front : (a b j : Id) (i : Instance) → words ≡ a ∷ b ∷ j ∷ [] → held a.name ≡ Some (an_instance i)
      → IsUnknownPart types held words a
  group_named : (a j : Id) (members : Name → Option Instance) → words ≡ a ∷ j ∷ [] → held a.name ≡ Some (a_group members)
      → IsUnknownPart types held words a
  no_such_member : (a b : Id) (more : List Id) (members : Name → Option Instance) → words ≡ a ∷ b ∷ more → length words ≤ 3
      → held a.name ≡ Some (a_group members) → members b.name ≡ None → IsUnknownPart types held words b
  no_interface : (ws : List Id) (j : Id) (c : Known) → words ≡ ws ++ j ∷ [] → NamesInstance types held ws c
      → c.interface j.name ≡ None
      → IsUnknownPart types held words j

pub data IsUnknown (s : Source) (f : Fault) : Type 0 where
  in_a_setting : (owner : Option Known) (holds : Option Holding) (x : Setting) (w : Id) → HasSetting s owner holds x
      → IsUnknownIn (known_in s) holds x.words w → f ≡ unknown w → IsUnknown s f
  an_attribute_referred : (owner : Option Known) (holds : Option Holding) (x : Setting) (y : Id) → HasSetting s owner holds x
      → x.setter ≡ setters.Reference y → LacksAttribute owner y.name → f ≡ unknown y → IsUnknown s f
  a_procedure : (c : Component) (i : Interface) → HasItem s (items.Component c) → IsIn (members.Interface i) c.members
      → names_procedure i.kind ≡ true → procedure_named s i.word.name ≡ None → f ≡ unknown i.word → IsUnknown s f
  a_type : (owner : Option Known) (k : Composition) (i : Instance) → HasComposition s owner k → IsIn i (instances_in k)
      → known_in s i.component.name ≡ None → f ≡ unknown i.component → IsUnknown s f
  a_connector : (owner : Option Known) (k : Composition) (x : Connection) → HasComposition s owner k → IsIn x (connections_in k)
      → connector_of x.connector.name ≡ None → f ≡ unknown x.connector → IsUnknown s f
  in_an_end : (owner : Option Known) (k : Composition) (x : Connection) (e : End) (w : Id) → HasComposition s owner k
      → IsIn x (connections_in k) → IsIn e x.ends → IsUnknownPart (known_in s) (held_as k) e.words w → f ≡ unknown w
      → IsUnknown s f
  in_an_export : (owner : Option Known) (k : Composition) (x : Export) (w : Id) → HasComposition s owner k → IsIn x (exports_in k)
      → IsUnknownPart (known_in s) (held_as k) x.words w → f ≡ unknown w → IsUnknown s f
  a_target : (owner : Option Known) (k : Composition) (x : Export) → HasComposition s owner k → IsIn x (exports_in k)
      → LacksInterface owner x.target.name → f ≡ unknown x.target → IsUnknown s f
