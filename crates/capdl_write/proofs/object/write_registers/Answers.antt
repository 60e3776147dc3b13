use Rattle.capdl_write.proofs.object.write_registers.Goals as goal

pub returns : goal.returns
returns g c = rw (c.hexadecimal.ensures.text, c.hexadecimal-2.ensures.text, c.hexadecimal-3.ensures.text) at c.texts.ensures
