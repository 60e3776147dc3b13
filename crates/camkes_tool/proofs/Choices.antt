-- Only `audit` and `plan` leave a choice.
use Rattle.std.proofs.Common.{rules}
use Rattle.camkes_tool.proofs.Common.{Answer, Audit, Certify, Check, Command, Compile, Contents, Explain, Fits, FitsCompiled, FitsExplained, FitsGenerated, FitsListed, FitsTexts, Generate}
use Rattle.camkes_tool.proofs.Common.{IsCertified, IsChecked, IsExplained, IsGenerated, IsListed, IsRun, IsTabled, IsUsage, List, MayChoose, None, Ok, Option, Outcome, Plan, Replay, Sections, Some, Told}
use Rattle.camkes_tool.proofs.Common.{ap, false, is_chosen, leaves_choice, refl, subst, true, ℕ, ◌≡◌}
use Rattle.command_words.specs.declared.command.Command.TheVariants.{List as ListOf}
use Rattle.text_commands.proofs.Turning.{then_ok}

unchosen : (a : Answer) → ((o : Outcome) → a ≡ Told o → leaves_choice o ≡ false) → is_chosen a ≡ false
unchosen (Told o) none = none o refl
unchosen _ none = refl

module _ (m : Contents) (old new : List ℕ → ℕ) where
  checked_none : (cdl policy cert : List ℕ) (o : Outcome) → IsChecked m old new cdl policy cert (Ok o) → leaves_choice o ≡ false
  checked_none cdl policy cert o h = search (rules, then_ok)

  ran_none : (cdl policy steps : List ℕ) (o : Outcome) → IsRun m old new cdl policy steps (Ok o) → leaves_choice o ≡ false
  ran_none cdl policy steps o h = search (rules, then_ok)

  certified_none : (cdl policy : List ℕ) (o : Outcome) → IsCertified m old new cdl policy (Ok o) → leaves_choice o ≡ false
  certified_none cdl policy o h = search (rules, then_ok)

  tabled_none : (elf : List ℕ) (o : Outcome) → IsTabled m old new elf (Ok o) → leaves_choice o ≡ false
  tabled_none elf o h = let (image, turn, is) = then_ok o h in ap leaves_choice is

  module _ (a : Answer) where
    untold : (X : Answer → Type 0) → ((o : Outcome) → X (Told o) → leaves_choice o ≡ false) → X a → is_chosen a ≡ false
    untold X none x = unchosen a (λ o e. none o (subst X e x))

    both : {X : Type 0} → is_chosen a ≡ false → is_chosen a ≡ true → X
    both unmade made = absurd cc

    pub chosen_by : (asked : Option Command) → Fits asked m old new a → is_chosen a ≡ true → MayChoose asked
    chosen_by None x is = both (untold IsUsage (λ o y. absurd y) x) is
    chosen_by (Some (Compile root base)) x is = both (untold (FitsCompiled root base m old new) (λ o y. absurd y) x) is
    chosen_by (Some (Check cdl policy cert)) x is =
        both (untold (FitsTexts (IsChecked m old new cdl policy cert)) (checked_none cdl policy cert) x) is
    chosen_by (Some (ListOf root)) x is = both (untold (FitsListed (IsListed root m old new)) (λ o y. absurd y) x) is
    chosen_by (Some (Explain root from authority to)) x is =
        both (untold (FitsExplained (IsExplained from authority to root m old new)) (λ o y. absurd y) x) is
    chosen_by (Some (Replay cdl policy steps)) x is =
        both (untold (FitsTexts (IsRun m old new cdl policy steps)) (ran_none cdl policy steps) x) is
    chosen_by (Some (Generate count)) x is = both (untold (FitsGenerated (IsGenerated count)) (λ o y. absurd y) x) is
    chosen_by (Some (Audit cdl policy)) x is = tt
    chosen_by (Some (Certify cdl policy)) x is =
        both (untold (FitsTexts (IsCertified m old new cdl policy)) (certified_none cdl policy) x) is
    chosen_by (Some (Sections elf)) x is = both (untold (FitsTexts (IsTabled m old new elf)) (tabled_none elf) x) is
    chosen_by (Some (Plan cdl untypeds)) x is = tt
