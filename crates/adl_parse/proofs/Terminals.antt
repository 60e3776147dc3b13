-- Codes of kinds.
use Rattle.adl_parse.proofs.Common.{List, false, inl, inr, kind_code, without_value, ℕ, ◌==◌, ◌≡◌}
use Rattle.cam_base.specs.declared.token.Kind.{Kind}
use Rattle.std.proofs.lemmas.Bool.Decides.{eqb_tells}
use Rattle.adl_ast.proofs.OneKind.{same_code}

-- codes of kinds that aren't one are different
pub other_code : (a b : Kind) (s t : List ℕ) → (without_value a ≡ without_value b → ⊥) → (kind_code a s == kind_code b t) ≡ false
other_code a b s t n = elim (eqb_tells (kind_code a s) (kind_code b t)) [
  | inl e ↦ absurd (n (same_code a b s t e.1))
  | inr e ↦ e.0
]
