-- What is learned for a command, where it and its words are known by equations.
use Rattle.camkes_tool.proofs.Common.{AlikeAsRead, AlikeInCommand, AlikeInInputs, Audit, Certify, Check, Command, Compile, Contents, Explain, LearnsOnly, List, Plan, Replay, Sections, Some, [], ap, subst, sym, ℕ, ◌∙◌, ◌∷◌, ◌≡◌}
use Rattle.adl_import.specs.Loaded.{AlikeInSource}
use Rattle.arch_compile.specs.Compiled.{AlikeInBuild}
use Rattle.command_words.specs.declared.command.Command.TheVariants.{List as ListOf}

pub two_same : (a b x y : List ℕ) → a ≡ x → b ≡ y → ◌≡◌ {A = List (List ℕ)} (a ∷ b ∷ []) (x ∷ y ∷ [])
two_same a b x y p q = ap (λ z. z ∷ b ∷ []) p ∙ ap (λ z. x ∷ z ∷ []) q

pub three_same : (a b c x y z : List ℕ) → a ≡ x → b ≡ y → c ≡ z → ◌≡◌ {A = List (List ℕ)} (a ∷ b ∷ c ∷ []) (x ∷ y ∷ z ∷ [])
three_same a b c x y z p q r = ap (λ w. w ∷ b ∷ c ∷ []) p ∙ ap (λ w. x ∷ w) (two_same b c y z q r)

module _ {F : Type 0} (told : F → Contents → Type 0) (before now : F) where
  -- words that are known are learned as much of
  pub same_learned : {X : Type 0} (Alike : X → Contents → Contents → Type 0) (x y : X) → x ≡ y
      → LearnsOnly told (Alike x) before now → LearnsOnly told (Alike y) before now
  same_learned Alike x y same = subst (λ z. LearnsOnly told (Alike z) before now) same

  module _ (command : Command) where
    pub as_known : (known : Command) → command ≡ known → LearnsOnly told (AlikeInCommand (Some known)) before now
        → LearnsOnly told (AlikeInCommand (Some command)) before now
    as_known known is = same_learned (λ z. AlikeInCommand (Some z)) known command (sym is)

    pub compile_learns : (root base a : List ℕ) → command ≡ Compile root base → a ≡ root
        → LearnsOnly told (AlikeInBuild a) before now → LearnsOnly told (AlikeInCommand (Some command)) before now
    compile_learns root base a is same h = as_known (Compile root base) is (same_learned AlikeInBuild a root same h)

    pub list_learns : (root a : List ℕ) → command ≡ ListOf root → a ≡ root → LearnsOnly told (AlikeInSource a) before now
        → LearnsOnly told (AlikeInCommand (Some command)) before now
    list_learns root a is same h = as_known (ListOf root) is (same_learned AlikeInSource a root same h)

    pub explain_learns : (root from authority to a : List ℕ) → command ≡ Explain root from authority to → a ≡ root
        → LearnsOnly told (AlikeInSource a) before now
        → LearnsOnly told (AlikeInCommand (Some command)) before now
    explain_learns root from authority to a is same h = as_known (Explain root from authority to) is
        (same_learned AlikeInSource a root same h)

    pub table_learns : (elf a : List ℕ) → command ≡ Sections elf → a ≡ elf → LearnsOnly told (AlikeAsRead a) before now
        → LearnsOnly told (AlikeInCommand (Some command)) before now
    table_learns elf a is same h = as_known (Sections elf) is (same_learned AlikeAsRead a elf same h)

    module _ (cdl other a b : List ℕ) (first : a ≡ cdl) (second : b ≡ other) (h : LearnsOnly told (AlikeInInputs (a ∷ b ∷ []))
        before now) where
      two_learned : LearnsOnly told (AlikeInInputs (cdl ∷ other ∷ [])) before now
      two_learned = same_learned AlikeInInputs (a ∷ b ∷ []) (cdl ∷ other ∷ []) (two_same a b cdl other first second) h

      pub audit_learns : command ≡ Audit cdl other → LearnsOnly told (AlikeInCommand (Some command)) before now
      audit_learns is = as_known (Audit cdl other) is two_learned

      pub certify_learns : command ≡ Certify cdl other → LearnsOnly told (AlikeInCommand (Some command)) before now
      certify_learns is = as_known (Certify cdl other) is two_learned

      pub plan_learns : command ≡ Plan cdl other → LearnsOnly told (AlikeInCommand (Some command)) before now
      plan_learns is = as_known (Plan cdl other) is two_learned

    module _ (cdl policy other a b c : List ℕ) (first : a ≡ cdl) (second : b ≡ policy) (third : c ≡ other)
        (h : LearnsOnly told (AlikeInInputs (a ∷ b ∷ c ∷ [])) before now) where
      three_learned : LearnsOnly told (AlikeInInputs (cdl ∷ policy ∷ other ∷ [])) before now
      three_learned = same_learned AlikeInInputs (a ∷ b ∷ c ∷ []) (cdl ∷ policy ∷ other ∷ [])
          (three_same a b c cdl policy other first second third) h

      pub check_learns : command ≡ Check cdl policy other → LearnsOnly told (AlikeInCommand (Some command)) before now
      check_learns is = as_known (Check cdl policy other) is three_learned

      pub replay_learns : command ≡ Replay cdl policy other → LearnsOnly told (AlikeInCommand (Some command)) before now
      replay_learns is = as_known (Replay cdl policy other) is three_learned
