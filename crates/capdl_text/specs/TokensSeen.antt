-- What a grammar sees of a text: each token with its bytes.
use Rattle.std.specs.Prelude.{ℕ, ◌-◌, List, take, drop, map}
use Rattle.capdl_text.specs.declared.seen.Seen.{Seen}
use Rattle.capdl_text.specs.declared.token.Span.{Span}
use Rattle.capdl_text.specs.declared.token.Token.{Token}

-- the bytes at a place
abbrev pub text_at : List ℕ → Span → List ℕ
text_at bytes p = take (p.end - p.first) (drop p.first bytes)

abbrev pub seen_at : List ℕ → Token → Seen
seen_at bytes t = record { kind = t.kind; text = text_at bytes t.place; place = t.place }

-- the tokens of a text with these bytes
abbrev pub see : List ℕ → List Token → List Seen
see bytes ts = map (seen_at bytes) ts
