-- What there is to say of a triple, by its words: whether it is assigned, and its first reason.
use Rattle.std.specs.Prelude.{◌≡◌, ℕ, Bool, true, false, List, [], ◌∷◌, codes, Some, Ok, Err}
use Rattle.adl_ast.specs.declared.source.Source.{Source}
use Rattle.adl_meaning.specs.declared.flat.Flat.{Flat}
use Rattle.arch_policy.specs.Tables.{Tables}
use Rattle.authorities.specs.Authorities.{authority_of}
use Rattle.authorities.specs.declared.authority.Authority.{Authority}
use Rattle.cam_base.specs.Texts.{together}
use Rattle.explain.specs.Explained.{Explains}
use Rattle.explain.specs.declared.reason.ExplainError.TheVariants as error
use Rattle.explain.specs.declared.reason.Reason.{Reason}
use Rattle.explain.specs.Lines.{reason_text}
use Rattle.explain.specs.declared.answer.Answer.{Answer}
use Rattle.explain.specs.declared.answer.Answer.TheVariants.{Assigned, NotAssigned}

-- the words of the triple, and below them the lines of the reason
abbrev pub explanation : Source → Flat → List ℕ → List ℕ → List ℕ → Reason → List ℕ
explanation source flat from authority to r =
    together (from ∷ codes " " ∷ authority ∷ codes " " ∷ to ∷ codes "\n" ∷ reason_text source flat r ∷ [])

-- Assigned is what the words of an authority and of two labels say, with the first reason. Not assigned is every other triple,
-- as where a word is no label's or no authority's.
abbrev pub IsAnswer : Tables → List ℕ → List ℕ → List ℕ → Answer → Type 0
IsAnswer t from authority to (Assigned text) =
    (a : Authority) × (r : Reason) × (authority_of authority ≡ Some a) × Explains t from a to (Ok r)
    × (text ≡ explanation t.source t.flat from authority to r)
IsAnswer t from authority to NotAssigned =
    (a : Authority) → authority_of authority ≡ Some a → Explains t from a to (Err error.NotAssigned)

abbrev pub is_assigned : Answer → Bool
is_assigned (Assigned text) = true
is_assigned NotAssigned = false

abbrev pub answer_text : Answer → List ℕ
answer_text (Assigned text) = text
answer_text NotAssigned = codes "not assigned\n"
