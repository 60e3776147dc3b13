-- Fields too few or too many for a line's form.
use Rattle.sect_table.proofs.Common.{List, None, [], arith, header_of, length, refl, spelled, ℕ, ◌<◌, ◌∷◌, ◌≡◌}
use Rattle.std.specs.Borrow.{Bor}
use Rattle.cam_base.specs.LineTexts.{texts}

pub no_header : (fields : List (Bor (List ℕ))) → length fields < 2 → header_of (texts fields) ≡ None
no_header [] few = refl
no_header (a ∷ []) few = refl
no_header (a ∷ b ∷ fields) few = absurd (omega arith)

pub no_section : (fields : List (Bor (List ℕ))) → (length fields ≡ 5 → ⊥) → spelled (texts fields) ≡ None
no_section [] other = refl
no_section (a ∷ []) other = refl
no_section (a ∷ b ∷ []) other = refl
no_section (a ∷ b ∷ c ∷ []) other = refl
no_section (a ∷ b ∷ c ∷ d ∷ []) other = refl
no_section (a ∷ b ∷ c ∷ d ∷ e ∷ []) other = absurd (other refl)
no_section (a ∷ b ∷ c ∷ d ∷ e ∷ f ∷ fields) other = refl
