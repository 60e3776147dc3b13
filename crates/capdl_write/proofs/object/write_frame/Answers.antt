use Rattle.capdl_write.proofs.object.write_frame.Goals as goal

pub returns-in-None : goal.returns-in-None
returns-in-None g c = rw c.in-None.is c.write_zeros.ensures
