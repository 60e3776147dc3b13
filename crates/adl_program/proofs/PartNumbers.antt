-- The instance of a name, by its number and that of its component.
use Rattle.adl_program.proofs.Common.{Bool, Hierarchy, IsIn, List, Name, None, Part, PartAt, Some, [], ap, arith, body, bytes_eq, common_steps, enumerate_from, find, from_enumerate, in_place, map_some, option_map, part_from, part_named, refl, slice_get, sym, ℕ, ◌+◌, ◌∙◌, ◌∷◌, ◌≡◌}
use Rattle.cam_base.proofs.NumberedLists.{found}

-- a search that tells numbers too finds the same
finds_same : {X : Type 0} (p : X → Bool) (a : ℕ) (xs : List X)
    → option_map (λ (x : ℕ × X). x.1) (find (λ (x : ℕ × X). p x.1) (enumerate_from a xs)) ≡ find p xs
finds_same p a [] = refl
finds_same p a (x ∷ xs) = grind (arith, common_steps, finds_same p (a + 1) xs)

-- an instance found by name
pub record IsNamed (h : Hierarchy) (k : ℕ) (n : Name) (a : PartAt) : Type 0 where
  pub part : Part
  pub named : part_named (body h k).parts n ≡ Some part
  pub numbered : slice_get (body h k).parts a.number ≡ Some part
  pub stands : IsIn part (body h k).parts
  pub kind : part.kind ≡ a.kind

pub is_named : (h : Hierarchy) (k : ℕ) (n : Name) (a : PartAt) → part_from 0 (body h k).parts n ≡ Some a → IsNamed h k n a
is_named h k n a e =
    let parts = (body h k).parts in
    let p : Part → Bool = λ x. bytes_eq n x.instance.id.name in
    let m = map_some (λ (x : ℕ × Part). let b : PartAt = record { number = x.0; kind = x.1.kind } in
    b) (find (λ (x : ℕ × Part). p x.1) (enumerate_from 0 parts)) a e in
    let f = from_enumerate 0 parts m.0 (found (λ (x : ℕ × Part). p x.1) (enumerate_from 0 parts) m.0 m.1).0 in
    let j : a.number ≡ f.0 = ap (λ (b : PartAt). b.number) (sym m.2) ∙ f.1 ∙ omega arith in
    let at : slice_get parts a.number ≡ Some m.0.1 = ap (slice_get parts) j ∙ f.2 in
    record {
      part = m.0.1;
      named = sym (finds_same p 0 parts) ∙ ap (option_map (λ (x : ℕ × Part). x.1)) m.1;
      numbered = at;
      stands = in_place m.0.1 parts a.number at;
      kind = ap (λ (b : PartAt). b.kind) m.2;
    }

pub is_unnamed : (h : Hierarchy) (k : ℕ) (n : Name) → part_from 0 (body h k).parts n ≡ None → part_named (body h k).parts n ≡ None
is_unnamed h k n e = grind (arith, common_steps, finds_same (λ (x : Part). bytes_eq n x.instance.id.name) 0 (body h k).parts)
