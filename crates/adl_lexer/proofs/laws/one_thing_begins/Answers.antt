use Rattle.adl_lexer.proofs.Gaps.{fault_no_gap}
use Rattle.adl_lexer.proofs.Progress.{progress}
use Rattle.adl_lexer.proofs.Steps.{token_no_gap}
use Rattle.adl_lexer.proofs.laws.one_thing_begins.Goals as goal

pub returns-clause-token : goal.returns-clause-token
returns-clause-token c = λ b bs gap clean. progress b bs gap clean

pub returns-clause-no_gap : goal.returns-clause-no_gap
returns-clause-no_gap c = λ bs rest after k t e. token_no_gap bs k rest after t e

pub returns-clause-no_fault : goal.returns-clause-no_fault
returns-clause-no_fault c = λ bs rest f h e. fault_no_gap bs rest f h e
