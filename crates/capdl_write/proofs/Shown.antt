-- The tokens of a laid-out text, with their bytes.
use Rattle.std.proofs.Common.{rules}
use Rattle.capdl_write.proofs.Common.{List, Piece, Seen, Span, [], ap, append_assoc, laid, length, refl, subst, sym, tokens, ℕ, ◌++◌, ◌-◌, ◌∙◌, ◌∷◌, ◌≡◌}
use Rattle.capdl_text.proofs.Lexemes.{text_there}
use Rattle.capdl_text.specs.TokensSeen.{see, text_at}

-- the pieces as tokens, each at a place that depends on what stands from there on
abbrev pub shown : (List Piece → Span) → List Piece → List Seen
shown pl [] = []
shown pl (p ∷ ps) = record { kind = p.kind; text = p.text; place = pl (p ∷ ps) } ∷ shown pl ps

-- the place of the first piece, where so many bytes stand in all
abbrev pub placed : ℕ → List Piece → Span
placed total [] = record { first = total; end = total }
placed total (p ∷ ps) = record { first = total - length (laid (p ∷ ps)); end = total - length (p.blanks ++ laid ps) }

-- what a lexer gives for a laid-out text is its pieces
seen_from : (whole front : List ℕ) (ps : List Piece) → whole ≡ front ++ laid ps
    → see whole (tokens (length whole) ps) ≡ shown (placed (length whole)) ps
seen_from whole front [] e = refl
seen_from whole front (p ∷ ps) e =
    let rest = p.blanks ++ laid ps in
    let at : Span = record { first = length whole - length (p.text ++ rest); end = length whole - length rest } in
    let t : text_at whole at ≡ p.text = search (rules, text_there) in
    rw (
      t,
      seen_from whole ((front ++ p.text) ++ p.blanks) ps (e ∙ sym (append_assoc front p.text rest)
          ∙ sym (append_assoc (front ++ p.text) p.blanks (laid ps))),
    ) refl

pub seen_tokens : (ps : List Piece) → see (laid ps) (tokens (length (laid ps)) ps) ≡ shown (placed (length (laid ps))) ps
seen_tokens ps = seen_from (laid ps) [] ps refl
