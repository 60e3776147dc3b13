use Rattle.capdl_write.proofs.CapEnds.{bare_frame, device_frame}
use Rattle.capdl_write.proofs.object.write_zeros.Goals as goal

pub returns-in-None : goal.returns-in-None
returns-in-None g c =
    let h = rw bare_frame at c.texts.ensures in
    rw c.in-None.is h

pub returns-in-Some : goal.returns-in-Some
returns-in-Some g c =
    let h = rw (c.hexadecimal.ensures.text, device_frame) at c.texts-in-Some.ensures in
    rw c.in-Some.is h
