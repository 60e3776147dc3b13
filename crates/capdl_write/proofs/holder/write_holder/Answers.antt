use Rattle.capdl_write.proofs.Common.{says_nothing}
use Rattle.capdl_write.proofs.holder.write_holder.Goals as goal

pub returns-in-Endpoint : goal.returns-in-Endpoint
returns-in-Endpoint g c = rw c.in-Endpoint.is says_nothing

pub returns-in-Notification : goal.returns-in-Notification
returns-in-Notification g c = rw c.in-Notification.is says_nothing

pub returns-in-Frame : goal.returns-in-Frame
returns-in-Frame g c = rw c.in-Frame.is says_nothing
