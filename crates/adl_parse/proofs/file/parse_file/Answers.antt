use Rattle.adl_parse.proofs.Whole.{file_ok, file_refused}
use Rattle.adl_parse.proofs.file.parse_file.Goals as goal

pub returns-in-Ok : goal.returns-in-Ok
returns-in-Ok c = file_ok c.args.bytes.now c.args.tokens.now.list c.in-Ok.file (rw c.new.ensures at c.in-Ok.ensures)

pub returns-in-Err : goal.returns-in-Err
returns-in-Err c = file_refused c.args.bytes.now c.args.tokens.now.list c.in-Err.error c.refusal_of.result
    (rw c.new.ensures at c.in-Err.ensures) c.refusal_of.ensures
