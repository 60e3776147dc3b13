-- What readers of lines return, against what the readers of their forms give.
use Rattle.std.specs.Prelude.{◌≡◌, ℕ, List, [], ◌∷◌, Result, Ok, Err, unwrap_or}
use Rattle.cam_base.specs.Gives.{Fails}
use Rattle.cam_base.specs.Reading.{Reader, both, either, list_of, many, mapped, one}
use Rattle.cam_base.specs.declared.grammar_error.ReadError.{ReadError}
use Rattle.cam_base.specs.declared.grammar_error.Stop.{Stop}
use Rattle.cam_base.specs.Numbers.{number_value}
use Rattle.capdl_read.specs.declared.token.TokenAt.{TokenAt}
use Rattle.capdl_text.specs.Codes.{mark_code, token_code}
use Rattle.capdl_text.specs.Lexemes.{kind_with}
use Rattle.capdl_text.specs.declared.field.Field.{Field}
use Rattle.capdl_text.specs.declared.field.Field.TheVariants as fields
use Rattle.capdl_text.specs.declared.seen.Seen.{Seen}
use Rattle.capdl_text.specs.declared.token.Mark.{Mark}
use Rattle.capdl_text.specs.declared.token.Mark.TheVariants as marks
use Rattle.capdl_text.specs.declared.tree.Number.{Number}
use Rattle.capdl_text.specs.declared.tree.ThreadValue.{ThreadValue}
use Rattle.capdl_text.specs.declared.tree.ThreadValue.TheVariants as values

-- The result, seen by view, and what is left behind it, are exactly what the reader gives, unless memory ran out.
abbrev pub ReadsAs : {X Y T : Type 0} → (X → Y) → Result X ReadError → List T → Result (Y × List T) Stop → Type 0
ReadsAs view (Ok x) left given = given ≡ Ok (view x, left)
ReadsAs view (Err e) left given = Fails e given

abbrev pub Reads : {X T : Type 0} → Result X ReadError → List T → Result (X × List T) Stop → Type 0
Reads result left given = ReadsAs (λ x. x) result left given

-- what the grammar sees of a token
abbrev pub seen : TokenAt → Seen
seen t = record { kind = kind_with t.sort (unwrap_or (number_value t.text.now) 0); text = t.text.now; place = t.place }

-- what r reads, between these marks
abbrev pub between : {A : Type 0} → Mark → Mark → Reader Seen A → Reader Seen A
between first last r = mapped token_code (λ x. x.1.0)
    (both token_code (one token_code (mark_code first ∷ [])) (both token_code r (one token_code (mark_code last ∷ []))))

-- any number of what r reads, which begins with one of these codes, in braces
abbrev pub block_of : {A : Type 0} → List ℕ → Reader Seen A → Reader Seen (List A)
block_of cs r = between marks.BraceL marks.BraceR (many token_code cs r)

-- one or more of what r reads in parentheses, with commas between, or nothing
abbrev pub maybe_some : {A : Type 0} → Reader Seen A → Reader Seen (List A)
maybe_some r = either token_code (mark_code marks.ParenL ∷ [])
    (between marks.ParenL marks.ParenR (list_of token_code (mark_code marks.Comma) r)) (λ ts. Ok ([], ts))

-- what a number says in this field of a thread
abbrev pub numbered : Field → Number → ThreadValue
numbered fields.Addr = values.Addr
numbered fields.Ip = values.Ip
numbered fields.Sp = values.Sp
numbered fields.Prio = values.Prio
numbered fields.Elf = values.Prio
numbered fields.Paddr = values.Prio
numbered fields.Fill = values.Prio
