use Rattle.text_commands.proofs.Common.{err_is, inr, refl}
use Rattle.text_commands.proofs.commands.table_of_elf.Goals as goal

pub returns-in_err-image-clause-tabled : goal.returns-in_err-image-clause-tabled
returns-in_err-image-clause-tabled g c m told =
    rw (err_is c.from_residual.result c.in_err-image.field-0.0 c.from_residual.ensures.1)
    (inr (c.in_err-image.field-0.0, (c.in_err-image.ensures.image m told), refl))
