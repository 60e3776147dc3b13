-- What a component declares by name, as definitions speak of it.
use Rattle.std.specs.Prelude.{List, Option, option_map}
use Rattle.adl_meaning.specs.Prelude.{Name}
use Rattle.adl_meaning.specs.Members as members
use Rattle.name_tables.specs.ByName.{found}
use Rattle.adl_items.specs.declared.component.Declared.{Declared}
use Rattle.adl_items.specs.declared.component.Declared.TheVariants as declared

abbrev pub declared_told : Declared → members.Declared
declared_told (declared.Interface r) = members.an_interface r.now
declared_told (declared.Attribute r) = members.an_attribute r.now
declared_told (declared.Lock r) = members.a_lock r.now

-- what a component declares by name
abbrev pub declaring_told : List (Name × Declared) → Name → Option members.Declared
declaring_told table n = option_map declared_told (found table n)
