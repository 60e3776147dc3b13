-- The interface that an end joins is the one that stands at its place among the members of the leaf's component.
use Rattle.flat_laws.proofs.Common.{Bool, Component, Id, Interface, List, Member, Name, Option, Some, [], ap, bytes_eq, cond, declared_by, false, find, flat_map, interface_of, is_interface, option_and_then, option_map, place_by, refl, slice_get, suc}
use Rattle.flat_laws.proofs.Common.{sym, true, zero, ◌∙◌, ◌∷◌, ◌≡◌}
use Rattle.adl_ast.specs.declared.component.Member.TheVariants as members
use Rattle.adl_meaning.specs.Members.{Declared, an_interface, an_attribute, a_lock, as_interface}

-- what stands at the place of the first that passes the test passes it
pub place_by-passes : {X : Type 0} (p : X → Bool) (xs : List X) (x : X) → slice_get xs (place_by p xs) ≡ Some x → p x ≡ true
place_by-passes p [] x e = absurd cc
place_by-passes {X} p (y ∷ ys) x e = go (p y) refl (place_by-passes p ys x) e where
  go : (b : Bool) → p y ≡ b → (slice_get ys (place_by p ys) ≡ Some x → p x ≡ true)
      → slice_get (y ∷ ys) (cond b zero (suc (place_by p ys))) ≡ Some x → p x ≡ true
  go true h rest e = let same : y ≡ x = cc in ap p (sym same) ∙ h
  go false h rest e = rest e

-- what the first of the name is as an interface
abbrev first_declared : List (Id × Declared) → Name → Option Interface
first_declared ds n = option_and_then as_interface (option_map (λ d. d.1) (find (λ d. bytes_eq n d.0.name) ds))

placed_in : (ms : List Member) (n : Name) (i : Interface) → first_declared (flat_map declared_by ms) n ≡ Some i
    → slice_get ms (place_by (is_interface n) ms) ≡ Some (members.Interface i)
placed_in [] n i e = cc
placed_in (members.Control p ∷ ms) n i e = placed_in ms n i e
placed_in (members.Hardware p ∷ ms) n i e = placed_in ms n i e
placed_in (members.Include x ∷ ms) n i e = placed_in ms n i e
placed_in (members.Composition k ∷ ms) n i e = placed_in ms n i e
placed_in (members.Configuration f ∷ ms) n i e = placed_in ms n i e
placed_in (members.Interface x ∷ ms) n i e = by_test (placed_in ms n i) (bytes_eq n x.id.name) e
  where
    by_test : (first_declared (flat_map declared_by ms) n ≡ Some i
        → slice_get ms (place_by (is_interface n) ms) ≡ Some (members.Interface i)) → (b : Bool)
        → option_and_then as_interface (option_map (λ (d : Id × Declared). d.1)
        (cond b (Some (x.id, an_interface x)) (find (λ (d : Id × Declared). bytes_eq n d.0.name)
        (flat_map declared_by ms)))) ≡ Some i
        → slice_get (members.Interface x ∷ ms) (cond b zero (suc (place_by (is_interface n) ms))) ≡ Some (members.Interface i)
    by_test more true e = let same : x ≡ i = cc in ap (λ z. Some (members.Interface z)) same
    by_test more false e = more e
placed_in (members.Attribute a ∷ ms) n i e = by_test (placed_in ms n i) (bytes_eq n a.id.name) e
  where
    by_test : (first_declared (flat_map declared_by ms) n ≡ Some i
        → slice_get ms (place_by (is_interface n) ms) ≡ Some (members.Interface i)) → (b : Bool)
        → option_and_then as_interface (option_map (λ (d : Id × Declared). d.1)
        (cond b (Some (a.id, an_attribute a)) (find (λ (d : Id × Declared). bytes_eq n d.0.name)
        (flat_map declared_by ms)))) ≡ Some i → slice_get ms (place_by (is_interface n) ms) ≡ Some (members.Interface i)
    by_test more true e = cc
    by_test more false e = more e
placed_in (members.Lock l ∷ ms) n i e = by_test (placed_in ms n i) (bytes_eq n l.id.name) e
  where
    by_test : (first_declared (flat_map declared_by ms) n ≡ Some i
        → slice_get ms (place_by (is_interface n) ms) ≡ Some (members.Interface i)) → (b : Bool)
        → option_and_then as_interface (option_map (λ (d : Id × Declared). d.1)
        (cond b (Some (l.id, a_lock l)) (find (λ (d : Id × Declared). bytes_eq n d.0.name) (flat_map declared_by ms))))
        ≡ Some i → slice_get ms (place_by (is_interface n) ms) ≡ Some (members.Interface i)
    by_test more true e = cc
    by_test more false e = more e

-- an interface that a component declares has a place among its members
pub interface_placed : (c : Component) (n : Name) (i : Interface) → interface_of c n ≡ Some i
    → slice_get c.members (place_by (is_interface n) c.members) ≡ Some (members.Interface i)
interface_placed c n i e = placed_in c.members n i e
