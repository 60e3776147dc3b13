-- The lines from a place on, one after another.
use Rattle.cam_base.proofs.Common.{List, [], ap, before_first, drop, false, length, parts_from, refl, sym, true, ℕ, ◌+◌, ◌<◌, ◌==◌, ◌∙◌, ◌∷◌, ◌≡◌, ◌≤◌}
use Rattle.cam_base.specs.Lines.{Line, placed, telling, is_silent}
use Rattle.cam_base.proofs.Cutting.{parts_more}

-- the lines from a place on that say something
abbrev pub told : ℕ → List ℕ → List Line
told at bytes = telling (placed at (parts_from 10 at bytes))

placed_more : (at : ℕ) (bytes text : List ℕ) → at ≤ length bytes → text ≡ before_first (λ b. b == 10) (drop at bytes)
    → placed at (parts_from 10 at bytes) ≡ record { first = at; text = text } ∷ placed (at + (length text + 1))
    (parts_from 10 (at + (length text + 1)) bytes)
placed_more at bytes text le is =
    ap (placed at) (parts_more 10 at bytes le ∙ ap (λ t. t ∷ parts_from 10 (at + (length t + 1)) bytes) (sym is))

-- a line that is passed over
pub told_silent : (at : ℕ) (bytes text : List ℕ) → at ≤ length bytes → text ≡ before_first (λ b. b == 10) (drop at bytes)
    → is_silent text ≡ true
    → told (at + (length text + 1)) bytes ≡ told at bytes
told_silent at bytes text le is silent = sym (ap telling (placed_more at bytes text le is) ∙ rw silent refl)

-- a line that says something
pub told_line : (at : ℕ) (bytes text : List ℕ) → at ≤ length bytes → text ≡ before_first (λ b. b == 10) (drop at bytes)
    → is_silent text ≡ false
    → told at bytes ≡ record { first = at; text = text } ∷ told (at + (length text + 1)) bytes
told_line at bytes text le is silent = ap telling (placed_more at bytes text le is) ∙ rw silent refl
