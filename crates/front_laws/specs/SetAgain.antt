-- SettingTwice, as a condition on a hierarchy: of the settings of one body it stands at each that has the path and the last
-- word of one in front of it, where the names of groups don't count. The bodies are those of all components, held by the
-- assembly or not, and that of the assembly.
use Rattle.std.specs.Prelude.{◌≡◌, ◌≤◌, ℕ, List, ◌∷◌, ◌++◌}
use Rattle.adl_meaning.specs.Prelude.{Fault, Hierarchy, IsIn, Setting, body, last_name, path_of, settings_of, top_number}
use Rattle.adl_settings.specs.SettingTwice.{setting_twice}

-- a setting of body k, with one in front of it that sets the same name at the same path
pub record IsSetAgain (h : Hierarchy) (k : ℕ) (x : Setting) : Type 0 where
  pub before : List Setting
  pub after : List Setting
  pub split : settings_of (body h k) ≡ before ++ x ∷ after
  pub earlier : Setting
  pub stands : IsIn earlier before
  pub path : path_of h k earlier.words ≡ path_of h k x.words
  pub name : last_name earlier.words ≡ last_name x.words

pub record IsSettingTwice (h : Hierarchy) (f : Fault) : Type 0 where
  pub inside : ℕ
  pub there : inside ≤ top_number h
  pub setting : Setting
  pub again : IsSetAgain h inside setting
  pub fault : f ≡ setting_twice setting
