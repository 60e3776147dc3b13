-- The value of x at a path p: among the bodies above, from the outermost inwards, the first whose configuration has a
-- setting of the rest of p and x decides, the names of groups aside. A literal is the value. A reference to y is the value
-- of y at the path of that body; where there is none, the setting counts as absent, and the next body inwards is asked.
-- Where no body decides, the value is the default in the declaration of x by the component at p, if there is one.
--
-- In one configuration the first setting of a path and a name counts. What a value was taken from is told with it: the
-- last word of the setting in which the literal stands, or the name of the attribute in whose declaration it stands.
use Rattle.std.specs.Prelude.{ℕ, zero, suc, ◌-◌, Bool, false, ◌&&◌, if◌then◌else◌, List, [], ◌∷◌, map, length, take, drop, Option, Some, None, option_map}
use Rattle.adl_meaning.specs.Below.{Attribute, Id, Setter, Setting, bytes_eq, find, list_any, option_and_then, option_map_or, option_or}
use Rattle.adl_ast.specs.declared.configuration.Setter.TheVariants as setters
use Rattle.adl_ast.specs.declared.value.Value.{Value}
use Rattle.adl_meaning.specs.Export.{last_name}
use Rattle.adl_meaning.specs.Hierarchy.{Hierarchy, Body, body, top_number, part_named}
use Rattle.adl_meaning.specs.Items.{Name}
use Rattle.adl_meaning.specs.Members.{attribute_of}
use Rattle.adl_meaning.specs.Paths.{Path, at, same_path}

-- ---- settings by path

-- whether a group of the body has the name
abbrev pub is_group : Body → Name → Bool
is_group b n = list_any (λ x. option_map_or (bytes_eq n) x.group false) b.parts

-- the names of all words but the last
abbrev pub inner_names : List Id → List Name
inner_names words = map (λ w. w.name) (take (length words - 1) words)

-- The path that words of a setting name in body k, the last word aside: an instance gives its name and leads into its
-- component, a group gives none and leads to its instances, and behind a leaf or a connection each word gives its name.
abbrev pub path_of : Hierarchy → ℕ → List Id → Path
path_of h k [] = []
path_of h k (w ∷ []) = []
path_of h k (w ∷ v ∷ more) =
    option_map_or (λ x. w.name ∷ path_of h x.kind (v ∷ more)) (part_named (body h k).parts w.name)
    (if is_group (body h k) w.name then path_of h k (v ∷ more) else w.name ∷ inner_names (v ∷ more))

abbrev pub settings_of : Body → List Setting
settings_of b = option_map_or (λ f. f.settings) b.configuration []

-- whether the setting, of body k, is one of this path and name
abbrev pub sets : Hierarchy → ℕ → Path → Name → Setting → Bool
sets h k p x setting = same_path p (path_of h k setting.words) && bytes_eq x (last_name setting.words)

-- the first setting of the path and the name in the configuration of body k
abbrev pub setting_of : Hierarchy → ℕ → Path → Name → Option Setting
setting_of h k p x = find (sets h k p x) (settings_of (body h k))

-- ---- values

-- a value, and the name of what gives it
pub record Given : Type 0 where
  pub value : Value
  pub name : Name

abbrev pub given_by : Attribute → Option Given
given_by a = option_map (λ v. record { value = v; name = a.id.name }) a.value

-- the default of the attribute x of the body, where it declares one
abbrev pub default_in : Body → Name → Option Given
default_in b x = option_and_then given_by (option_and_then (λ c. attribute_of c x) b.component)

-- the default of x at a path
abbrev pub default_at : Hierarchy → Path → Name → Option Given
default_at h p x = option_and_then (λ k. default_in (body h k) x) (at h (top_number h) p)

-- what a setting of x gives, where refer gives the values of attributes
abbrev pub given : (Name → Option Given) → Name → Option Setter → Option Given
given refer x None = None
given refer x (Some (setters.Literal v)) = Some (record { value = v; name = x })
given refer x (Some (setters.Reference y)) = refer y.name

-- the setter of x at the first `end` names of p, in the configuration of the body at the first k names of p
abbrev pub setter_at : Hierarchy → Path → ℕ → ℕ → Name → Option Setter
setter_at h p k end x =
    option_and_then (λ b. option_map (λ s. s.setter) (setting_of h b (drop k (take end p)) x)) (at h (top_number h) (take k p))

-- the value of x at the first `end` names of p, as the bodies at most k names inwards set it
abbrev pub set_within : Hierarchy → Path → ℕ → ℕ → Name → Option Given
set_within h p zero end x = given (λ y. None) x (setter_at h p 0 end x)
set_within h p (suc k) end x =
    option_or (set_within h p k end x)
    (given (λ y. option_or (set_within h p k (suc k) y) (default_at h (take (suc k) p) y)) x (setter_at h p (suc k) end x))

-- the value of x at the path
abbrev pub value_at : Hierarchy → Path → Name → Option Given
value_at h p x = option_or (set_within h p (length p - 1) (length p) x) (default_at h p x)
