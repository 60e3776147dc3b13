-- A word is at most one authority's.
use Rattle.explain.proofs.Common.{Authority, Err, Explains, List, Option, Some, Tables, subst, ℕ, ◌≡◌}
use Rattle.authorities.specs.Authorities.{authority_of}
use Rattle.explain.specs.declared.reason.ExplainError.{ExplainError}
use Rattle.explain.specs.declared.reason.ExplainError.TheVariants as error

same_inside : {X : Type 0} (o : Option X) (a b : X) → Some a ≡ o → o ≡ Some b → a ≡ b
same_inside o a b e f = cc

pub asked_is : (t : Tables) (from word to : List ℕ) (a : Authority) (e : ExplainError) → Some a ≡ authority_of word
    → e ≡ error.NotAssigned → Explains t from a to (Err e)
    → (b : Authority) → authority_of word ≡ Some b → Explains t from b to (Err error.NotAssigned)
asked_is t from word to a e word_is none h b f =
    let here : Explains t from a to (Err error.NotAssigned) = subst (λ (z : ExplainError). Explains t from a to (Err z)) none h in
    subst (λ (z : Authority). Explains t from z to (Err error.NotAssigned)) (same_inside (authority_of word) a b word_is f) here
