use Rattle.text_commands.proofs.Common.{IsTooLong}
use Rattle.text_commands.proofs.Turning.{too_long}
use Rattle.text_commands.proofs.input.see_input.Goals as goal

pub returns-in-Err-TooLong-clause-input : goal.returns-in-Err-TooLong-clause-input
returns-in-Err-TooLong-clause-input g c m told =
    let faults = g.F.Files.faults in
    let whole = c.in-Err-TooLong.ensures.whole m told in
    let long : IsTooLong m c.args.name.now = rw c.in-Err-TooLong.field-0-is at whole in
    too_long m (faults c.args.files.now) (faults c.see_whole.new.files) c.args.name.now c.of_file-in-Err-TooLong.result
    c.of_file-in-Err-TooLong.ensures long
