-- The tables of settings, what the search for values looks at, and what it remembers.
use Rattle.adl_meaning.specs.Prelude.{Bor, Given, Hierarchy, Id, Name, Path, Setting, at, body, bytes_eq, given, inner_names, is_group, last_name, lookup, option_and_then, option_copied, option_map_or, path_of, same_path, setting_of, value_at}
use Rattle.std.specs.Prelude.{Bool, List, None, Option, Some, [], false, slice_index_or, ℕ, ◌&&◌, ◌++◌, ◌∷◌, ◌≡◌}
use Rattle.adl_items.specs.Pointed.{pointed}
use Rattle.adl_settings.specs.Named.{AreNames}
use Rattle.adl_settings.specs.declared.tables.SettingTable.{SettingTable}
use Rattle.adl_settings.specs.declared.tables.SettingTables.{SettingTables}

-- the body behind a name
abbrev pub within : Hierarchy → Option ℕ → Name → Option ℕ
within h o n = option_and_then (λ k. at h k (n ∷ [])) o

-- whether a group of the body has the name
abbrev pub groups : Hierarchy → Option ℕ → Name → Bool
groups h o n = option_map_or (λ k. is_group (body h k) n) o false

-- ---- tables

-- the path that words name in a body, and behind a leaf or a connection
abbrev pub path_from : Hierarchy → Option ℕ → List Id → Path
path_from h (Some k) words = path_of h k words
path_from h None words = inner_names words

-- the path that words name in body k, with the last word behind it
abbrev pub key_of : Hierarchy → ℕ → List Id → Path
key_of h k words = path_of h k words ++ last_name words ∷ []

-- the setting of a path with a name behind it
unfoldable pub setting_found : SettingTable → Path → Option Setting
setting_found t q = option_copied (lookup (λ k. same_path q (pointed k.items)) t.entries.entries)

abbrev pub IsTable : Hierarchy → ℕ → SettingTable → Type 0
IsTable h k t = (p : Path) (x : Name) → setting_found t (p ++ x ∷ []) ≡ setting_of h k p x

abbrev pub AreTables : Hierarchy → SettingTables → Type 0
AreTables h ts = (k : ℕ) → IsTable h k (slice_index_or ts.bodies.items k ts.top)

-- ---- values

-- the value of an attribute of the body at a path; the assembly has none
abbrev pub attribute_at : Hierarchy → Path → Name → Option Given
attribute_at h [] y = None
attribute_at h (n ∷ q) y = value_at h (n ∷ q) y

-- what a setting gives, where refer gives the values of attributes
abbrev pub given_from : (Name → Option Given) → Option Setting → Option Given
given_from refer None = None
given_from refer (Some s) = given refer (last_name s.words) (Some s.setter)

-- what is remembered, by the path and the name
abbrev pub remembered : List ((Bor Path × Bor Name) × Option Given) → Path → Name → Option (Option Given)
remembered found p x = lookup (λ k. same_path p k.0.now && bytes_eq x k.1.now) found

abbrev pub AreValues : Hierarchy → (Path → Name → Option (Option Given)) → Type 0
AreValues h found = (p : Path) (x : Name) (g : Option Given) → found p x ≡ Some g → g ≡ value_at h p x

-- the tables of settings, the names that have a value in some body, if they were looked for, and what is remembered
pub record IsLookup (h : Hierarchy) (ts : SettingTables) (names : Option (List (Bor Name)))
    (found : List ((Bor Path × Bor Name) × Option Given)) : Type 0 where
  pub tables : AreTables h ts
  pub valued : AreNames h names
  pub values : AreValues h (remembered found)
