use Rattle.view_tool.proofs.PageCommon.{connection_rows, gather, named, settings_in, take, ◌≡◌}
use Rattle.view_tool.proofs.devices.device_rows.Given as goal

abbrev pub invariant-loop-place : goal.invariant-loop-place
invariant-loop-place l = l.rows ≡ gather (λ k c. connection_rows (named l.names) (settings_in l.settled k) c)
    (take l.place l.connections)
