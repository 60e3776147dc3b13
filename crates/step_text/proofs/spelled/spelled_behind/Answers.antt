use Rattle.step_text.proofs.Common.{arith, place_among, sym}
use Rattle.step_text.proofs.FewFields.{five_fields, six_fields, seven_fields}
use Rattle.step_text.proofs.spelled.spelled_behind.Goals as goal

pub returns-in_default-2 : goal.returns-in_default-2
returns-in_default-2 c = sym (five_fields (place_among c.args.threads) c.args.verb c.args.fields.now (omega arith))

pub returns-in_default-3 : goal.returns-in_default-3
returns-in_default-3 c = sym (seven_fields (place_among c.args.threads) c.args.verb c.args.fields.now (omega arith))

pub returns-in_default-verb : goal.returns-in_default-verb
returns-in_default-verb c = sym (six_fields (place_among c.args.threads) c.args.verb c.args.fields.now c.in_default-verb.not-Grant
    (omega arith))
