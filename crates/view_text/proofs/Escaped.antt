-- Escaped texts are plain.
use Rattle.view_text.proofs.Common.{Bool, IsPlain, List, [], codes, escaped, escaped_byte, false, if◌then◌else◌, is_markup, list_all, list_all-append, not, refl, subst, true, ℕ, ◌&&◌, ◌==◌, ◌||◌, ◌∙◌, ◌∷◌, ◌≡◌}
use Rattle.std.proofs.lemmas.Bool.{and_from}

-- by which of the five bytes it is
plain_by :
    (and less more double single : Bool) (b : ℕ) → (less || (more || (double || single))) ≡ is_markup b
    → IsPlain (if and then codes "&amp;" else if less then codes "&lt;" else if more then codes "&gt;" else if double then codes
    "&quot;" else if single then codes "&#39;" else b ∷ [])
plain_by true less more double single b h = refl
plain_by false true more double single b h = refl
plain_by false false true double single b h = refl
plain_by false false false true single b h = refl
plain_by false false false false true b h = refl
plain_by false false false false false b h = subst (λ (v : Bool). (not v && true) ≡ true) h refl

pub escaped_plain : (text : List ℕ) → IsPlain (escaped text)
escaped_plain [] = refl
escaped_plain (b ∷ bs) =
    let plain = λ (x : ℕ). not (is_markup x) in
    list_all-append plain (escaped_byte b) (escaped bs)
    ∙ and_from (list_all plain (escaped_byte b)) (list_all plain (escaped bs))
    (plain_by (b == 38) (b == 60) (b == 62) (b == 34) (b == 39) b refl) (escaped_plain bs)
