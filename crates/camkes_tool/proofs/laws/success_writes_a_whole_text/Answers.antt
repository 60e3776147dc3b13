use Rattle.camkes_tool.proofs.Common.{Answer, Build, Compiled, Explained, Generated, List, Listed, Sink, Some, TextNames, Told, after, answer_text, appended, generated_text, inl, inr, listing_text, refl}
use Rattle.camkes_tool.proofs.Common.{said_as, script, status_of, text_of, texts_script, ℕ, ◌≡◌, ◌⊎◌}
use Rattle.camkes_tool.proofs.laws.success_writes_a_whole_text.Goals as goal
use Rattle.camkes_tool.proofs.Written.{zero_not_five}

abbrev IsWhole : Answer → Sink → Sink → Type 0
IsWhole a old new =
    ((names : TextNames) × (b : Build) × (a ≡ Compiled names b) × (new ≡ after old (texts_script names b)))
    ⊎ ((text : List ℕ) × (said_as a ≡ Some text) × (new ≡ appended old 0 text))

whole : (a : Answer) (old new : Sink) → 0 ≡ status_of a → new ≡ after old (script a) → IsWhole a old new
whole (Compiled names b) old new e told = inl (names, b, refl, told)
whole (Listed o) old new e told = inr (listing_text o, refl, told)
whole (Explained o) old new e told = inr (answer_text o, refl, told)
whole (Told outcome) old new e told = inr (text_of outcome, refl, told)
whole (Generated summary) old new e told = inr (generated_text summary, refl, told)
whole _ old new e told = absurd cc

pub returns : goal.returns
returns c answer old new before now tells = elim tells.told [
  | inl t ↦ whole answer old new t.0 t.1
  | inr t ↦
      absurd (zero_not_five 0 refl t.0)
]
