-- What capabilities to roots of address spaces confer.
use Rattle.cap_model.proofs.Common.{Cap, Control, None, Option, Some, Spec, confers, is_space_root, refl, rules, true, ◌≡◌}
use Rattle.cap_model.specs.declared.object.Object.TheVariants as objects

-- a capability to a space root confers Control
pub root_controls : (spec : Spec) (cap : Cap) → is_space_root spec cap.object ≡ true → confers spec cap Control ≡ true
root_controls spec cap is = search (rules)
