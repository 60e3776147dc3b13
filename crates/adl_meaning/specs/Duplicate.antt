-- Duplicate stands at a later one of equal names: of procedures; of components; of the methods of a procedure; of the
-- parameters of a method; of the interfaces, attributes and locks of a component together; of the instances, groups and
-- connections of a composition together. It stands too at the keyword of each composition and configuration of a component
-- that isn't the first.
use Rattle.std.specs.Prelude.{Bool, false, ◌||◌, List, [], ◌∷◌, ◌++◌, map, drop, Option, Some, None}
use Rattle.adl_meaning.specs.Below.{Component, Composition, Fault, Id, Item, Place, Procedure, Source, bytes_eq, filter_map, flat_map}
use Rattle.cam_base.specs.declared.code.Code.TheVariants as code
use Rattle.adl_ast.specs.declared.file.Item.TheVariants as items
use Rattle.adl_ast.specs.declared.procedure.Method.{Method}
use Rattle.adl_ast.specs.declared.procedure.ProcMember.{ProcMember}
use Rattle.adl_ast.specs.declared.procedure.ProcMember.TheVariants as parts
use Rattle.adl_meaning.specs.Faults.{at_word, at_keyword, where_true}
use Rattle.adl_meaning.specs.Holding.{held_in}
use Rattle.adl_meaning.specs.Items.{Name, items_of, procedures, components}
use Rattle.adl_meaning.specs.Members.{declared_in, compositions, configurations}

-- ---- equal names

-- the words whose name an earlier one has, where met says which names stand before the first
abbrev pub repeats_after : (Name → Bool) → List Id → List Fault
repeats_after met [] = []
repeats_after met (w ∷ ws) = where_true (met w.name) (at_word code.Duplicate w)
    ++ repeats_after (λ n. met n || bytes_eq n w.name) ws

-- the words whose name an earlier one of the list has
abbrev pub repeats : List Id → List Fault
repeats ws = repeats_after (λ n. false) ws

-- a second composition or configuration, by the places of the keywords
abbrev pub again : List Place → List Fault
again places = map (λ p. at_keyword code.Duplicate p) (drop 1 places)

-- ---- where names must differ

abbrev pub as_method : ProcMember → Option Method
as_method (parts.Include i) = None
as_method (parts.Method m) = Some m

abbrev pub methods : Procedure → List Method
methods p = filter_map as_method p.members

abbrev pub repeated_params : Method → List Fault
repeated_params m = repeats (map (λ a. a.id) m.params)

abbrev pub duplicates_in_procedure : Procedure → List Fault
duplicates_in_procedure p = repeats (map (λ m. m.id) (methods p)) ++ flat_map repeated_params (methods p)

abbrev pub duplicates_in_composition : Composition → List Fault
duplicates_in_composition k = repeats (map (λ h. h.0) (held_in k))

abbrev pub duplicates_in_component : Component → List Fault
duplicates_in_component c =
    repeats (map (λ d. d.0) (declared_in c))
    ++ again (map (λ k. k.place) (compositions c))
    ++ again (map (λ f. f.place) (configurations c))
    ++ flat_map duplicates_in_composition (compositions c)

abbrev pub duplicates_in_item : Item → List Fault
duplicates_in_item (items.Import i) = []
duplicates_in_item (items.Procedure p) = duplicates_in_procedure p
duplicates_in_item (items.Component c) = duplicates_in_component c
duplicates_in_item (items.Assembly a) = duplicates_in_composition a.composition

-- ---- all of them

abbrev pub duplicates : Source → List Fault
duplicates s =
    repeats (map (λ p. p.1.id) (procedures s))
    ++ repeats (map (λ c. c.1.id) (components s))
    ++ flat_map (λ x. duplicates_in_item x.1) (items_of s)
