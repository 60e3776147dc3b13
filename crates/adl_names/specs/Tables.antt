-- What tables of trees tell, as definitions speak of it.
use Rattle.adl_ast.specs.declared.procedure.Param.{Param}
use Rattle.adl_ast.specs.declared.procedure.ProcMember.{ProcMember}
use Rattle.adl_meaning.specs.Duplicate.{as_method, repeated_params}
use Rattle.adl_meaning.specs.Prelude.{Bor, Component, Composition, Fault, Id, Instance, Member, Name, a_connection, a_group, an_instance, bytes_eq, compositions, cons_option, declared_as, declared_by, flat_map, held_as, list_any, is_exported, noted, option_map_or, option_or, repeats_after}
use Rattle.adl_names.specs.Words.{Declared, declaring_told, first_named, found, is_among}
use Rattle.std.specs.Prelude.{Bool, IfSome, List, Option, Some, [], is_some, map, option_map, ◌++◌, ◌∷◌, ◌≡◌}
use Rattle.adl_names.specs.declared.tables.Held.{Held}
use Rattle.adl_meaning.specs.Holding as holding
use Rattle.adl_names.specs.declared.tables.Held.TheVariants as held

-- the instances of a group by name
abbrev pub members_told : List (Name × Bor Instance) → Name → Option Instance
members_told table n = option_map (λ r. r.now) (found table n)

abbrev pub held_told : Held → holding.Held
held_told (held.Instance r) = an_instance r.now
held_told (held.Group t) = a_group (members_told t)
held_told held.Connection = a_connection

-- whether a table has the name
abbrev pub has_name : {V : Type 0} → List (Name × V) → Name → Bool
has_name table n = is_some (found table n)

-- what is noted once a table with these entries has taken these words
abbrev pub noting : {V X : Type 0} → List (Name × V) → Option Fault → List (Id × X) → Option Fault
noting table first xs = noted first (repeats_after (has_name table) (map (λ x. x.0) xs))

-- what a name stands for once a table that tells this has taken these words
abbrev pub naming : {X : Type 0} → (Name → Option X) → List (Id × X) → Name → Option X
naming told xs n = option_or (told n) (first_named xs n)

-- the words are put into the table: it and what is noted lead to the same, whatever follows
abbrev pub AreNoted : {V X : Type 0} → List (Name × V) → Option Fault → List (Id × X) → List (Name × V) → Option Fault → Type 0
AreNoted {X = X} old before xs new after = (more : List (Id × X)) → noting new after more ≡ noting old before (xs ++ more)

abbrev pub AreNamed : {X : Type 0} → (Name → Option X) → List (Id × X) → (Name → Option X) → Type 0
AreNamed {X} old xs new = (n : Name) (more : List (Id × X)) → naming new more n ≡ naming old (xs ++ more) n

-- what a composition holds by name
abbrev pub holding_told : List (Name × Held) → Name → Option holding.Held
holding_told table n = option_map held_told (found table n)

pub record IsHolding (table : List (Name × Held)) (targets : List Name) (k : Composition) : Type 0 where
  pub holds : (n : Name) → holding_told table n ≡ held_as k n
  pub exports : (n : Name) → is_among targets n ≡ is_exported (Some k) n

-- the words under which members declare something
abbrev pub words_by : Member → List Id
words_by m = map (λ d. d.0) (declared_by m)

abbrev pub words_of : List Member → List Id
words_of ms = map (λ d. d.0) (flat_map declared_by ms)

-- the word under which a part of a procedure declares a method
abbrev pub method_words : ProcMember → List Id
method_words p = cons_option (option_map (λ m. m.id) (as_method p)) []

abbrev pub param_words : Param → List Id
param_words a = a.id ∷ []

-- the later ones of a method's parameters
abbrev pub repeated_in : ProcMember → List Fault
repeated_in p = option_map_or repeated_params (as_method p) []

-- whether the item stands under a word of this name
abbrev pub has_word : {T : Type 0} → (T → List Id) → Name → T → Bool
has_word words n x = list_any (λ w. bytes_eq n w.name) (words x)

-- whether one of the items does
abbrev pub is_met : {T : Type 0} → (T → List Id) → List T → Name → Bool
is_met words xs n = list_any (has_word words n) xs

-- the table tells what the names of a component stand for
abbrev pub Declares : Component → List (Name × Declared) → Type 0
Declares c table = (n : Name) → declaring_told table n ≡ declared_as c n

-- the tables tell what the names of a component stand for; few members have none
pub record AreTold (declared : Option (List (Name × Declared))) (holdings : List Composition) (c : Component) : Type 0 where
  pub declares : IfSome declared (Declares c)
  pub holds : holdings ≡ compositions c
