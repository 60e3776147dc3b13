-- What stands between tokens: blanks and whole comments.
use Rattle.std.specs.Prelude.{◌≡◌, ℕ, List, [], ◌∷◌, Option, Some, None, ◌==◌, if◌then◌else◌}
use Rattle.cam_base.specs.Comments.{after_close}
use Rattle.cam_base.specs.Form.{among}
use Rattle.adl_lexer.specs.Classes.{class_of, blanks, slash}

-- the rest behind the next line feed, or the end
abbrev pub after_line : List ℕ → List ℕ
after_line [] = []
after_line (b ∷ bs) = if b == 10 then bs else after_line bs

-- the rest behind a comment whose first slash stands before; none where none begins or it has no end
abbrev pub after_comment : List ℕ → Option (List ℕ)
after_comment [] = None
after_comment (b ∷ bs) = if b == 47 then Some (after_line bs) else if b == 42 then after_close bs else None

-- the rest behind one blank, or behind one whole comment
unfoldable pub one_gap : List ℕ → Option (List ℕ)
one_gap [] = None
one_gap (b ∷ bs) =
    if among blanks (class_of b) then Some bs
    else if class_of b == slash then after_comment bs
    else None

-- From here to the rest stand blanks and whole comments, any number of them.
pub data IsGap : List ℕ → List ℕ → Type 0 where
  none : {bs : List ℕ} → IsGap bs bs
  more : {bs cs rest : List ℕ} → one_gap bs ≡ Some cs → IsGap cs rest → IsGap bs rest
