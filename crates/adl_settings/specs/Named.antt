-- The names that have a value anywhere: a setting ends in the name, or an attribute has it.
use Rattle.adl_meaning.specs.Prelude.{Body, Bor, Hierarchy, Member, Name, Setting, bytes_eq, last_name, list_any, option_map_or, settings_of}
use Rattle.std.specs.Prelude.{Bool, List, None, Option, Some, [], false, true, ◌++◌, ◌||◌, ◌∷◌, ◌≡◌}
use Rattle.adl_ast.specs.declared.component.Member.TheVariants as members

-- whether the name is among these
abbrev pub is_named : List (Bor Name) → Name → Bool
is_named names n = list_any (λ k. bytes_eq n k.now) names

-- whether the setting ends in the name
abbrev pub sets_name : Name → Setting → Bool
sets_name n s = bytes_eq n (last_name s.words)

abbrev pub is_attribute : Name → Member → Bool
is_attribute n (members.Attribute a) = bytes_eq n a.id.name
is_attribute n _ = false

abbrev pub members_of : Body → List Member
members_of b = option_map_or (λ c. c.members) b.component []

-- whether a setting of the body ends in the name, or an attribute of its component has it
abbrev pub gives : Name → Body → Bool
gives n b = list_any (sets_name n) (settings_of b) || list_any (is_attribute n) (members_of b)

-- whether a body gives the name a value
abbrev pub is_valued : Hierarchy → Name → Bool
is_valued h n = list_any (gives n) (h.bodies ++ h.top ∷ [])

-- whether the name can have a value, where these are the names that have one, or none were looked for
abbrev pub may_be_valued : Option (List (Bor Name)) → Name → Bool
may_be_valued None n = true
may_be_valued (Some names) n = is_named names n

abbrev pub AreNames : Hierarchy → Option (List (Bor Name)) → Type 0
AreNames h o = (n : Name) → may_be_valued o n ≡ false → is_valued h n ≡ false
