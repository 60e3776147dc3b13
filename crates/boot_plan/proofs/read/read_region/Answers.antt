use Rattle.boot_plan.proofs.Common.{arith, sym}
use Rattle.boot_plan.proofs.Reading.{no_region}
use Rattle.boot_plan.proofs.read.read_region.Goals as goal

pub returns-in_default : goal.returns-in_default
returns-in_default c = sym (no_region c.args.fields.now (λ three. omega (arith, three, c.in_default.len_below)))

pub returns-in_default-2 : goal.returns-in_default-2
returns-in_default-2 c = sym (no_region c.args.fields.now (λ three. omega (arith, three, c.in_default.len_at_least)))
