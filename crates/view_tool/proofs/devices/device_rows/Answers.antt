use Rattle.view_tool.proofs.PageCommon.{List, [], ap, connection_rows, gather_turn, named, refl, settings_in, ◌++◌, ◌∙◌}
use Rattle.adl_meaning.specs.declared.flat.FlatConnection.{FlatConnection}
use Rattle.adl_meaning.specs.declared.settled.EndSetting.{EndSetting}
use Rattle.view_tool.proofs.devices.device_rows.Goals as goal

pub loop-place-preserved : goal.loop-place-preserved
loop-place-preserved c =
    gather_turn (λ k (x : FlatConnection). connection_rows (named c.args.names.now) (settings_in c.args.settled.now k) x)
    c.as_slice-connections.result.now _ c.loop-place.place _ [] _ _ refl
    c.loop-place-test.true c.index-connections-place.is c.loop-place.invariant
    (c.in_ok-push_connection.ensures
    ∙ ap (λ (s : List EndSetting). c.loop-place.rows ++ connection_rows (named c.args.names.now) s
    c.index-connections-place.result) c.settings_in-settings.ensures)
