-- The first fault of a source before anything is laid out: that of its first phase that has one.
use Rattle.std.specs.Prelude.{ℕ, List, [], Option, slice_get}
use Rattle.adl_meaning.specs.Prelude.{Fault, Source, first_flat_fault, first_name_fault, flat_of, option_map_or, option_or}
use Rattle.adl_settings.specs.SettingFaults.{first_setting_fault}
use Rattle.adl_settings.specs.Settled.{settled_of}
use Rattle.adl_types.specs.TypeFaults.{first_type_fault}
use Rattle.arch_policy.specs.Policies.{first_edge_fault}
use Rattle.arch_policy.specs.Tables.{Tables, tables_of}

-- of names; where there is none, of types; where there is none, of the hierarchy; where there is none, of settings
abbrev pub first_front_fault : Source → Option Fault
first_front_fault s =
    option_or (first_name_fault s) (option_or (first_type_fault s) (option_or (first_flat_fault s) (first_setting_fault s)))

-- what the policy of a source is made from
abbrev pub source_tables : Source → Tables
source_tables s = tables_of s (flat_of s) (settled_of s)

-- of the phases up to the settings; where there is none, of the limit on edges
abbrev pub first_list_fault : Source → Option Fault
first_list_fault s = option_or (first_front_fault s) (first_edge_fault (source_tables s))

-- the name of the file of this number
abbrev pub name_of_file : Source → ℕ → List ℕ
name_of_file source number = option_map_or (λ f. f.name) (slice_get source.files number) []
