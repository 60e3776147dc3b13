-- What it means that an end is of the kind that the connector table has.
use Rattle.flat_laws.proofs.Common.{Bool, Fault, [], and_parts, cond, false, is_kind_of, not, refl, same_kind, true, where_false, ◌≡◌}
use Rattle.adl_program.specs.LeafInterfaces.{LeafInterface}
use Rattle.conn_rules.specs.declared.end.EndRule.{EndRule}

pub so : (b : Bool) (f : Fault) → where_false b f ≡ [] → b ≡ true
so true f e = refl
so false f e = cc

hardware_of : (rule hardware : Bool) → cond rule hardware (not hardware) ≡ true → hardware ≡ rule
hardware_of true true e = refl
hardware_of true false e = cc
hardware_of false true e = cc
hardware_of false false e = refl

-- a leaf of the rule's kind is hardware just where the rule has it
pub hardware_fits : (rule : EndRule) (l : LeafInterface) → is_kind_of rule l ≡ true → l.hardware ≡ rule.hardware
hardware_fits rule l fits = hardware_of rule.hardware l.hardware (and_parts (same_kind l.interface.kind rule.interface)
    (cond rule.hardware l.hardware (not l.hardware)) fits).1
