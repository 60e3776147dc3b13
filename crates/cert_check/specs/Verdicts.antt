-- What `check` answers: Yes where the rules hold, else the least violation, and then they don't hold.
use Rattle.std.specs.Prelude.{◌≡◌, ℕ, List}
use Rattle.cert_check.specs.Below.{Edge, Spec}
use Rattle.cert_check.specs.declared.rule.Rule.{Rule}
use Rattle.cert_check.specs.declared.verdict.Verdict.{Verdict}
use Rattle.cert_check.specs.declared.verdict.Verdict.TheVariants.{Yes, No}
use Rattle.cert_check.specs.Least.{Least}
use Rattle.cert_check.specs.Rules.{rule_number}
use Rattle.cert_check.specs.Valid.{Valid}

abbrev pub Judged : Spec → List ℕ → List Edge → List Edge → Verdict → Type 0
Judged spec labels policy cert Yes = Valid spec labels policy cert
Judged spec labels policy cert (No number have lack) =
    (rule : Rule) × (number ≡ rule_number rule) × Least spec labels policy cert rule have lack
    × (Valid spec labels policy cert → ⊥)
