-- Scopes of settings, as definitions speak of them.
use Rattle.adl_meaning.specs.Prelude.{held_as}
use Rattle.adl_names.specs.Tables.{members_told}
use Rattle.adl_names.specs.declared.unknown.Scope.{Scope}
use Rattle.adl_meaning.specs.Unknown as unknown
use Rattle.adl_names.specs.declared.unknown.Scope.TheVariants as scope

abbrev pub scope_told : Scope → unknown.Scope
scope_told (scope.Within r) = unknown.within (held_as r.now)
scope_told (scope.Inside r) = unknown.inside (members_told r.now)
scope_told scope.Behind = unknown.behind
scope_told scope.Untold = unknown.untold
