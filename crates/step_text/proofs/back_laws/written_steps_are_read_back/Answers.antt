use Rattle.step_text.proofs.Written.{no_fault, read_back}
use Rattle.step_text.proofs.back_laws.written_steps_are_read_back.Goals as goal

pub returns-clause-fine : goal.returns-clause-fine
returns-clause-fine c = λ spec steps h few_steps few_bytes. no_fault spec steps h few_steps few_bytes

pub returns-clause-same : goal.returns-clause-same
returns-clause-same c = λ spec steps h. read_back spec steps h
