-- What `list` and `explain` leave is what the source assigns over its hierarchy.
use Rattle.camkes_tool.proofs.Common.{Answer, Command, Contents, Explain, Explained, Faulted, Fits, FitsExplained, FitsListed, InAll, IsAnswerWritten, IsExplained, IsListWritten, IsListed, List, Listed, NoMemory, Option}
use Rattle.camkes_tool.proofs.Common.{ReadFault, Sink, Some, Tells, inl, inr, refl, status_of, subst, sym, ℕ, ◌∙◌, ◌≡◌, ◌≢◌, ◌⊎◌, rules}
use Rattle.command_words.specs.declared.command.Command.TheVariants.{List as ListOf}
use Rattle.source_commands.proofs.OverTree.{answers_whether, lists_assigned}
use Rattle.camkes_tool.proofs.Written.{whole_status, zero_not_five}

module _ (told : Contents → Type 0) (some : (c : Contents) × told c) (before now : List ℕ → ℕ) (status : ℕ) (old new : Sink)
    (m n : ℕ) where
  module _ (root : List ℕ) (zero : status ≡ 0) where
    list_written : (answer : Answer) → InAll told (λ c. FitsListed (IsListed root c before now) answer)
        → Tells answer status old new m n → IsListWritten told root old new
    list_written (Listed listing) fits tells = search (rules, lists_assigned, zero_not_five)
    list_written answer fits tells =
        let e = whole_status answer status old new m n tells zero in let f = fits some.0 some.1 in absurd (search rules)

    pub listed_written : (asked : Option Command) (answer : Answer) → asked ≡ Some (ListOf root)
        → InAll told (λ c. Fits asked c before now answer) → Tells answer status old new m n
        → IsListWritten told root old new
    listed_written asked answer is fits tells =
        list_written answer (λ c t. subst (λ z. Fits z c before now answer) is (fits c t)) tells

  module _ (root from authority to : List ℕ) (ends : (status ≡ 0) ⊎ (status ≡ 3)) where
    not_five : status ≡ 5 → ⊥
    not_five five = elim ends [ inl e ↦ zero_not_five status e five | inr e ↦ let no : ◌≡◌ {A = ℕ} 3 5 = sym e ∙ five in cc ]

    -- no answer with another status is told
    no_other : (answer : Answer) (k : ℕ) → status_of answer ≡ k → k ≢ 0 → k ≢ 3 → Tells answer status old new m n → ⊥
    no_other answer k is a b tells = search (rules, not_five)

    answer_written : (answer : Answer) → InAll told (λ c. FitsExplained (IsExplained from authority to root c before now) answer)
        → Tells answer status old new m n → IsAnswerWritten told root from authority to status old new
    answer_written (Explained answer) fits tells = elim tells.told [
      | inl t ↦ search (rules, answers_whether)
      | inr t ↦ absurd (not_five t.0)
    ]
    answer_written (Faulted file fault) fits tells = absurd (no_other (Faulted file fault) 1 refl (λ e. cc) (λ e. cc) tells)
    answer_written (ReadFault file) fits tells = absurd (no_other (ReadFault file) 4 refl (λ e. cc) (λ e. cc) tells)
    answer_written NoMemory fits tells = absurd (no_other NoMemory 6 refl (λ e. cc) (λ e. cc) tells)
    answer_written _ fits tells = absurd (fits some.0 some.1)

    pub explained_written : (asked : Option Command) (answer : Answer) → asked ≡ Some (Explain root from authority to)
        → InAll told (λ c. Fits asked c before now answer) → Tells answer status old new m n
        → IsAnswerWritten told root from authority to status old new
    explained_written asked answer is fits tells =
        answer_written answer (λ c t. subst (λ z. Fits z c before now answer) is (fits c t)) tells
