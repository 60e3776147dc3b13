-- What the grammar sees of a source: each token with its bytes, and what these mean.
use Rattle.std.specs.Prelude.{ℕ, List, take, drop, ◌-◌, map}
use Rattle.cam_base.specs.Names.{named}
use Rattle.cam_base.specs.declared.place.Place.{Place}
use Rattle.cam_base.specs.declared.token.Kind.{Kind}
use Rattle.cam_base.specs.declared.token.Kind.TheVariants as kinds
use Rattle.cam_base.specs.declared.token.Token.{Token}
use Rattle.adl_ast.specs.declared.seen.Seen.{Seen}
use Rattle.adl_ast.specs.declared.id.Id.{Id}

-- the bytes at a place
abbrev pub text_at : List ℕ → Place → List ℕ
text_at bytes p = take (p.end - p.first) (drop p.first bytes)

abbrev pub seen_at : List ℕ → Token → Seen
seen_at bytes t = record { kind = t.kind; text = text_at bytes t.place; place = t.place }

-- the tokens of a file with these bytes
abbrev pub see : List ℕ → List Token → List Seen
see bytes ts = map (seen_at bytes) ts

abbrev pub id_of : Seen → Id
id_of t = record { name = named t.text; place = t.place }

-- the value of a number, 0 for other tokens
abbrev pub number_of : Kind → ℕ
number_of (kinds.Number n) = n
number_of kinds.Word = 0
number_of (kinds.Key key) = 0
number_of kinds.Text = 0
number_of kinds.Angle = 0
number_of (kinds.Mark mark) = 0

-- from the beginning of the one place to the end of the other
abbrev pub span : Place → Place → Place
span a b = record { file = a.file; first = a.first; end = b.end }
