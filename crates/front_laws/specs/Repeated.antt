-- Duplicate, as a condition on a source. There are lists of words whose names must differ: the procedures of the source; its
-- components; the methods of a procedure; the parameters of a method; the interfaces, attributes and locks of a component,
-- together; the instances, groups and connections of a composition, together. The fault stands at each word of such a list
-- whose name a word in front of it has, and at the keyword of each composition and configuration of a component but the first.
use Rattle.std.specs.Prelude.{◌≡◌, List, ◌∷◌, ◌++◌, map, Option}
use Rattle.adl_ast.specs.declared.configuration.Configuration.{Configuration}
use Rattle.adl_ast.specs.declared.file.Item.TheVariants as items
use Rattle.adl_ast.specs.declared.procedure.Method.{Method}
use Rattle.adl_ast.specs.declared.procedure.Procedure.{Procedure}
use Rattle.cam_base.specs.declared.code.Code.TheVariants as code
use Rattle.adl_meaning.specs.Duplicate.{methods}
use Rattle.adl_meaning.specs.Prelude.{Component, Composition, Fault, Id, IsIn, Known, Source, at_keyword, at_word, components, compositions, configurations, declared_in, held_in, procedures}
use Rattle.front_laws.specs.Standing.{HasComposition, HasItem, IsLater}

-- the names of these words must differ
pub data MustDiffer (s : Source) : List Id → Type 0 where
  of_procedures : MustDiffer s (map (λ p. p.1.id) (procedures s))
  of_components : MustDiffer s (map (λ c. c.1.id) (components s))
  of_methods : (p : Procedure) → HasItem s (items.Procedure p) → MustDiffer s (map (λ m. m.id) (methods p))
  of_params : (p : Procedure) (m : Method) → HasItem s (items.Procedure p) → IsIn m (methods p)
      → MustDiffer s (map (λ a. a.id) m.params)
  of_members : (c : Component) → HasItem s (items.Component c) → MustDiffer s (map (λ d. d.0) (declared_in c))
  of_composition : (owner : Option Known) (k : Composition) → HasComposition s owner k → MustDiffer s (map (λ h. h.0) (held_in k))

-- a word of the list, whose name a word in front of it has
pub record IsAgain (ws : List Id) (w : Id) : Type 0 where
  pub before : List Id
  pub after : List Id
  pub split : ws ≡ before ++ w ∷ after
  pub earlier : Id
  pub stands : IsIn earlier before
  pub alike : earlier.name ≡ w.name

pub data IsDuplicate (s : Source) (f : Fault) : Type 0 where
  a_name : (ws : List Id) (w : Id) → MustDiffer s ws → IsAgain ws w → f ≡ at_word code.Duplicate w → IsDuplicate s f
  a_composition : (c : Component) (k : Composition) → HasItem s (items.Component c) → IsLater (compositions c) k
      → f ≡ at_keyword code.Duplicate k.place → IsDuplicate s f
  a_configuration : (c : Component) (g : Configuration) → HasItem s (items.Component c) → IsLater (configurations c) g
      → f ≡ at_keyword code.Duplicate g.place → IsDuplicate s f
