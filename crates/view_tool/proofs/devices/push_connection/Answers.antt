use Rattle.view_tool.proofs.PageCommon.{end_rows, gather_turn, get_or_default, named, refl, slice_get}
use Rattle.adl_meaning.specs.declared.flat.FlatEnd.{FlatEnd}
use Rattle.view_tool.proofs.devices.push_connection.Goals as goal

pub loop-place-preserved : goal.loop-place-preserved
loop-place-preserved c =
    gather_turn (λ e (x : FlatEnd). end_rows (named c.args.names.now) c.args.connection.now (slice_get c.args.settings.now e) x)
    c.as_slice-ends.result.now _ c.loop-place.place _ c.args.rows.now _ _ refl
    c.loop-place-test.true (get_or_default _ _ _ _ c.loop-place-test.true) c.loop-place.invariant
    (rw (c.setting_in-setting.ensures) at c.in_ok-push_end.ensures)
