-- The places of tokens rise.
use Rattle.adl_lexer.proofs.Common.{LexesFrom, List, Place, Token, [], ap, arith, length, ℕ, ◌-◌, ◌<◌, ◌∷◌, ◌≡◌, ◌≤◌}
use Rattle.adl_lexer.specs.Places.{PlacesRise}
use Rattle.adl_lexer.proofs.Gaps.{gap_le}
use Rattle.adl_lexer.proofs.Steps.{token_eats}

pub rise_from : (file total at : ℕ) (bs : List ℕ) (ts : List Token) → length bs ≤ total → at ≤ total - length bs
    → LexesFrom file total bs ts → PlacesRise file total at ts
rise_from file total at bs [] within le l = omega (arith, within, le)
rise_from file total at bs (t ∷ ts) within le l =
    let here = l.0 in
    let rest = l.1 in
    let gap = gap_le bs here l.2 in
    let eats = token_eats here t.kind rest l.3 in
    let file_is : t.place.file ≡ file = ap (λ (p : Place). p.file) l.4 in
    let first_is : t.place.first ≡ total - length here = ap (λ (p : Place). p.first) l.4 in
    let end_is : t.place.end ≡ total - length rest = ap (λ (p : Place). p.end) l.4 in
    let least : at ≤ t.place.first = omega (arith, gap, eats, within, le, first_is) in
    let some : t.place.first < t.place.end = omega (arith, gap, eats, within, first_is, end_is) in
    let later : length rest ≤ total = omega (arith, gap, eats, within) in
    let up : t.place.end ≤ total - length rest = omega (arith, end_is) in
    (file_is, least, some, rise_from file total t.place.end rest ts later up l.5)
