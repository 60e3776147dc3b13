use Rattle.arch_compile.proofs.Compiling.{completed, laid_refused}
use Rattle.arch_compile.proofs.building.with_layout.Goals as goal

pub returns-in-Ok : goal.returns-in-Ok
returns-in-Ok c = completed c.args.meaning c.args.images.now c.requires.sound.meant c.with_front.result c.in-Ok.ensures.fault
    c.with_front.ensures

pub returns-in-Err : goal.returns-in-Err
returns-in-Err c = laid_refused c.args.meaning c.args.images.now c.requires.sound.meant c.in-Err.refused c.in_file.result
    c.in-Err.ensures.fault c.in_file.ensures
