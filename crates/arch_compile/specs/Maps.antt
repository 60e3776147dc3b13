-- The text of the map of what is compiled.
use Rattle.std.specs.Prelude.{ℕ, List}
use Rattle.arch_compile.specs.declared.building.Build.{Build}
use Rattle.system_spec.specs.MapText.{map_text}

-- by the names of its source
abbrev pub build_map : Build → List ℕ
build_map b = map_text (record { source = b.meaning.source; flat = b.meaning.flat; spec = b.spec }) b.map
