-- The leaf interface of what an end joins.
use Rattle.adl_program.proofs.Common.{Component, End, Hierarchy, Interface, Name, None, Option, Reached, Some, ap, body, is_hardware, is_interface, joined_by, leaf_at, leaf_by, option_and_then, place_by, port_in, reached, slice_get, ℕ, ◌∙◌, ◌≡◌}
use Rattle.adl_program.specs.LeafInterfaces.{leaf_of}
use Rattle.adl_ast.specs.declared.component.Member.TheVariants as members

-- an end leads to what it joins, where the leaf's component has an interface of the name
pub joined_leaf : (h : Hierarchy) (k : ℕ) (e : End) (r : Reached) (c : Component) (i : Interface) → joined_by h k e ≡ Some r
    → (body h r.part.kind).component ≡ Some c
    → slice_get c.members (place_by (is_interface r.interface) c.members) ≡ Some (members.Interface i)
    → leaf_of h k e.words ≡ Some (record { interface = i; hardware = is_hardware h r.part })
joined_leaf h k e r c i j own there = by (port_in e.words) j ∙ rw (own, there)
  where
    by : (o : Option (Name × Name)) → option_and_then (reached h k) o ≡ Some r
        → option_and_then (leaf_by h k) o ≡ leaf_at (body h r.part.kind) r.interface
    by None t = cc
    by (Some p) t = ap (option_and_then (λ r. leaf_at (body h r.part.kind) r.interface)) t
