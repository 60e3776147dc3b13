use Rattle.flow_model.proofs.Possible.{sent, sent_done, unsent, pending, emptied, told, untold, loaded, stored, bound, controlled, taken, untaken}
use Rattle.flow_model.proofs.laws.each_way_passes.Goals as goal

pub returns-clause-sync_send : goal.returns-clause-sync_send
returns-clause-sync_send c = sent

pub returns-clause-receive : goal.returns-clause-receive
returns-clause-receive c = (sent_done, unsent)

pub returns-clause-async_send : goal.returns-clause-async_send
returns-clause-async_send c = pending

pub returns-clause-empties : goal.returns-clause-empties
returns-clause-empties c = emptied

pub returns-clause-awaits : goal.returns-clause-awaits
returns-clause-awaits c = (told, untold)

pub returns-clause-writes : goal.returns-clause-writes
returns-clause-writes c = stored

pub returns-clause-reads : goal.returns-clause-reads
returns-clause-reads c = loaded

pub returns-clause-handles : goal.returns-clause-handles
returns-clause-handles c = bound

pub returns-clause-controls : goal.returns-clause-controls
returns-clause-controls c = controlled

pub returns-clause-controlled : goal.returns-clause-controlled
returns-clause-controlled c = (taken, untaken)
