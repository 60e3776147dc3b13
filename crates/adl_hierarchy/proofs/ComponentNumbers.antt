-- Components by number, and the graph of the types of their instances.
use Rattle.adl_hierarchy.proofs.Common.{Bool, InRange, IsAcyclic, IsIn, ItemAt, List, None, Option, Some, [], ap, arith, at_place, cond, false, found, from_enumerate, from_filter_map, get_map, get_or_from_slice_get, graph_of, has, in_enumerate}
use Rattle.adl_hierarchy.proofs.Common.{in_filter_map, in_flat_map, inner_of, instances_of, is_held, length, length-map, map, map_some, none_from, none_in, number_from, number_named, option_map, recursive_among, recursive_in, recursive_instance}
use Rattle.adl_hierarchy.proofs.Common.{recursive_type, refl, slice_get_within, suc, sym, true, types_of, ℕ, ◌+◌, ◌<◌, ◌∙◌, ◌∷◌, ◌≡◌}
use Rattle.std.specs.List.{find, enumerate_from, slice_get}
use Rattle.std.specs.Str.{bytes_eq}
use Rattle.adl_ast.specs.declared.component.Component.{Component}
use Rattle.adl_ast.specs.declared.composition.Composition.{Composition}
use Rattle.adl_ast.specs.declared.composition.Instance.{Instance}
use Rattle.adl_meaning.specs.Holding.{instances_in}
use Rattle.adl_meaning.specs.Items.{Name}
use Rattle.adl_meaning.specs.Members.{compositions, composition_of}
use Rattle.adl_hierarchy.specs.Numbers.{AreBelow}
use Rattle.adl_hierarchy.proofs.Lists.{in_has, has_in, in_get}
use Rattle.adl_hierarchy.proofs.Through.{through_complete, unheld}

-- ---- numbers

-- a name that has a number is that of the component with the number
pub numbered : (cs : List Component) (n : Name) (k : ℕ) → number_named cs n ≡ Some k → (c : Component) × (slice_get cs k ≡ Some c)
    × (bytes_eq n c.id.name ≡ true)
numbered cs n k e =
    let m = map_some (λ (x : ℕ × Component). x.0) (find (λ x. bytes_eq n x.1.id.name) (enumerate_from 0 cs)) k e in
    let f = found (λ (x : ℕ × Component). bytes_eq n x.1.id.name) (enumerate_from 0 cs) m.0 m.1 in
    let p = from_enumerate 0 cs m.0 f.0 in
    let s : p.0 ≡ k = let a = p.1 in let b = m.2 in omega arith in
    (m.0.1, ap (slice_get cs) (sym s) ∙ p.2, f.1)

pub numbers_below : (cs : List Component) → AreBelow (number_named cs) (length cs)
numbers_below cs n k e = let c = numbered cs n k e in slice_get_within cs k c.0 c.1

-- the first component of a name, among components with their places, has the name's number
pub number_found : (xs : List (ItemAt × Component)) (a : ℕ) (n : Name) (c : ItemAt × Component)
    → find (λ c. bytes_eq n c.1.id.name) xs ≡ Some c
    → (j : ℕ) × (number_from a (map (λ c. c.1) xs) n ≡ Some (a + j)) × (slice_get xs j ≡ Some c)
number_found [] a n c e = cc
number_found (x ∷ xs) a n c e = by_test (bytes_eq n x.1.id.name) refl (number_found xs (a + 1) n c) e
  where
    by_test : (b : Bool) → bytes_eq n x.1.id.name ≡ b → (find (λ (c : ItemAt × Component). bytes_eq n c.1.id.name) xs ≡ Some c
        → (j : ℕ) × (number_from (a + 1) (map (λ (c : ItemAt × Component). c.1) xs) n ≡ Some ((a + 1) + j))
        × (slice_get xs j ≡ Some c)) → cond b (Some x) (find (λ (c : ItemAt × Component). bytes_eq n c.1.id.name) xs) ≡ Some c
        → (j : ℕ) × (option_map (λ (y : ℕ × Component). y.0)
        (cond b (Some (a, x.1)) (find (λ (y : ℕ × Component). bytes_eq n y.1.id.name)
        (enumerate_from (a + 1) (map (λ (c : ItemAt × Component). c.1) xs)))) ≡ Some (a + j)) × (slice_get (x ∷ xs) j ≡ Some c)
    by_test true t ih e = (0, ap Some (omega arith), e)
    by_test false t ih e = let k = ih e in (suc k.0, k.1 ∙ ap Some (omega arith), k.2)

-- ---- the graph

-- an instance of the composition of a component is one of the component
pub composed_instance : (c : Component) (k : Composition) (i : Instance) → composition_of c ≡ Some k → IsIn i (instances_in k)
    → IsIn i (instances_of c)
composed_instance c k i e m = in_flat_map instances_in k i (compositions c) (in_get (compositions c) 0 k e) m

pub inner_at : (numbers : Name → Option ℕ) (cs : List Component) (a : ℕ) (c : Component) → slice_get cs a ≡ Some c
    → inner_of (graph_of numbers cs) a ≡ types_of numbers c
inner_at numbers cs a c e = get_or_from_slice_get (graph_of numbers cs) a (types_of numbers c) []
    (get_map (types_of numbers) cs a c e)

-- the type of an instance is listed
pub listed : (numbers : Name → Option ℕ) (cs : List Component) (a : ℕ) (c : Component) (i : Instance) (t : ℕ)
    → slice_get cs a ≡ Some c → IsIn i (instances_of c) → numbers i.component.name ≡ Some t
    → has (inner_of (graph_of numbers cs) a) t ≡ true
listed numbers cs a c i t e m n =
    ap (λ ts. has ts t) (inner_at numbers cs a c e) ∙ has_in t (types_of numbers c)
    (in_filter_map (λ (i : Instance). numbers i.component.name) i t (instances_of c) m n)

-- what is listed for a component is the type of an instance of it
record IsTypeIn (numbers : Name → Option ℕ) (cs : List Component) (a t : ℕ) : Type 0 where
  component : Component
  number : slice_get cs a ≡ Some component
  instance : Instance
  stands : IsIn instance (instances_of component)
  typed : numbers instance.component.name ≡ Some t

type_in : (numbers : Name → Option ℕ) (cs : List Component) (a t : ℕ) → a < length (graph_of numbers cs)
    → has (inner_of (graph_of numbers cs) a) t ≡ true → IsTypeIn numbers cs a t
type_in numbers cs a t l e =
    let c = at_place cs a (omega (arith, length-map cs (types_of numbers), l)) in
    let i = from_filter_map (λ (i : Instance). numbers i.component.name) t (instances_of c.0)
    (in_has t (types_of numbers c.0) (ap (λ ts. has ts t) (sym (inner_at numbers cs a c.0 c.1)) ∙ e)) in
    record { component = c.0; number = c.1; instance = i.0; stands = i.1; typed = i.2 }

pub graph_in_range : (numbers : Name → Option ℕ) (cs : List Component) → AreBelow numbers (length cs)
    → InRange (graph_of numbers cs)
graph_in_range numbers cs below a t l e =
    let x = type_in numbers cs a t l e in
    omega (arith, length-map cs (types_of numbers), below x.instance.component.name t x.typed)

-- ---- instances that are recursive

type_unheld : (g : List (List ℕ)) (a : ℕ) (i : Instance) (o : Option ℕ) → ((t : ℕ) → o ≡ Some t → is_held g t a ≡ false)
    → recursive_type g a i o ≡ []
type_unheld g a i None h = refl
type_unheld g a i (Some t) h = rw (h t refl) refl

-- where no component holds itself, no instance is recursive
pub none_recursive : (numbers : Name → Option ℕ) (cs : List Component) → IsAcyclic (graph_of numbers cs)
    → recursive_among numbers cs ≡ []
none_recursive numbers cs acyclic =
    let g = graph_of numbers cs in
    none_from (λ (x : ℕ × Component). recursive_in numbers g x.0 x.1) (enumerate_from 0 cs)
    (λ x m. let k = from_enumerate 0 cs x m in let s : k.0 ≡ x.0 = let b = k.1 in omega arith in
    let e : slice_get cs x.0 ≡ Some x.1 = ap (slice_get cs) (sym s) ∙ k.2 in
    let l : x.0 < length g = omega (arith, length-map cs (types_of numbers), slice_get_within cs x.0 x.1 e) in
    none_from (recursive_instance numbers g x.0) (instances_of x.1) (λ i n. type_unheld g x.0 i (numbers i.component.name)
    (λ t o. unheld g acyclic x.0 t l (listed numbers cs x.0 x.1 i t e n o))))

-- where nothing is recursive, an instance isn't
not_recursive : (numbers : Name → Option ℕ) (cs : List Component) (a : ℕ) (c : Component) (i : Instance)
    → recursive_among numbers cs ≡ [] → slice_get cs a ≡ Some c → IsIn i (instances_of c)
    → recursive_instance numbers (graph_of numbers cs) a i ≡ []
not_recursive numbers cs a c i none e m = grind (arith, none_in, in_enumerate)

not_held : (g : List (List ℕ)) (a : ℕ) (i : Instance) (o : Option ℕ) (t : ℕ) → o ≡ Some t → recursive_type g a i o ≡ []
    → is_held g t a ≡ true → ⊥
not_held g a i o t s e h = cc

-- and no component holds itself
pub acyclic_from_none : (numbers : Name → Option ℕ) (cs : List Component) → AreBelow numbers (length cs)
    → recursive_among numbers cs ≡ [] → IsAcyclic (graph_of numbers cs)
acyclic_from_none numbers cs below none a c n l e w =
    let g = graph_of numbers cs in
    let range = graph_in_range numbers cs below in
    let x = type_in numbers cs a c l e in
    not_held g a x.instance (numbers x.instance.component.name) c x.typed (not_recursive numbers cs a x.component x.instance none
    x.number x.stands) (through_complete g range n c a (range a c l e) w)
