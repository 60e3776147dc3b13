-- The number that each rule is printed with, and by which rules are ordered.
use Rattle.std.specs.Prelude.{ℕ}
use Rattle.cert_check.specs.declared.rule.Rule.{Rule}
use Rattle.cert_check.specs.declared.rule.Rule.TheVariants.{BootEdges, Control, Grant, Call, GrantBack, Bind, Policy}

abbrev pub rule_number : Rule → ℕ
rule_number BootEdges = 1
rule_number Control = 2
rule_number Grant = 3
rule_number Call = 4
rule_number GrantBack = 5
rule_number Bind = 6
rule_number Policy = 7
