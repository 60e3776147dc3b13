use Rattle.view_tool.proofs.PageCommon.{end_rows, gather, named, slice_get, take, ◌++◌, ◌≡◌}
use Rattle.view_tool.proofs.devices.push_connection.Given as goal

abbrev pub invariant-loop-place : goal.invariant-loop-place
invariant-loop-place l = l.rows ≡ l.fn.rows ++ gather (λ e x. end_rows (named l.names) l.connection (slice_get l.settings e) x)
    (take l.place l.ends)
