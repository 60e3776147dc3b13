use Rattle.capdl_write.proofs.object.write_object.Goals as goal

pub returns-in-CNode : goal.returns-in-CNode
returns-in-CNode g c =
    let h = rw (c.as_bytes-name.ensures.bytes, c.as_bytes.ensures.value, c.format.ensures.text) at
    c.texts-in-CNode.ensures in
    rw c.in-CNode.is h

pub returns-in-Notification : goal.returns-in-Notification
returns-in-Notification g c =
    let h = rw (c.as_bytes-name.ensures.bytes) at c.texts-in-Notification.ensures in
    rw c.in-Notification.is h
