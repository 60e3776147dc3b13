-- SettingTwice stands at a setting of the same path and last word as an earlier one of its configuration, the names of groups
-- aside, in each configuration of a component or the assembly, used or not. Its place is the dotted name, and its name the
-- last word.
use Rattle.adl_meaning.specs.Prelude.{Body, Fault, Hierarchy, Name, Path, Setting, bytes_eq, enumerate_from, flat_map, last_name, path_of, same_path, settings_of, where_true}
use Rattle.std.specs.Prelude.{Bool, List, [], false, ℕ, ◌&&◌, ◌++◌, ◌||◌, ◌∷◌}
use Rattle.cam_base.specs.declared.code.Code.TheVariants as code

-- whether a setting is one of this path and name
abbrev pub Met : Type 0
Met = Path → Name → Bool

abbrev pub setting_twice : Setting → Fault
setting_twice x = record { code = code.SettingTwice; place = x.place; name = last_name x.words }

-- the settings whose path and name an earlier one has, in body k, where met says which stand before the first
abbrev pub repeated_after : Hierarchy → ℕ → Met → List Setting → List Fault
repeated_after h k met [] = []
repeated_after h k met (x ∷ xs) =
    where_true (met (path_of h k x.words) (last_name x.words)) (setting_twice x)
    ++ repeated_after h k (λ p n. met p n || (same_path p (path_of h k x.words) && bytes_eq n (last_name x.words))) xs

-- those of one configuration
abbrev pub repeated_in : Hierarchy → ℕ × Body → List Fault
repeated_in h b = repeated_after h b.0 (λ p n. false) (settings_of b.1)

-- those of the bodies of the components and of the assembly, by number
abbrev pub settings_twice : Hierarchy → List Fault
settings_twice h = flat_map (repeated_in h) (enumerate_from 0 (h.bodies ++ h.top ∷ []))
