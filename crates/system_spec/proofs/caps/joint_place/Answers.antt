use Rattle.system_spec.proofs.Common.{EndpointOf, NotificationOf, ap, joint_by, place, slice_index, sym, told, ◌∙◌}
use Rattle.system_spec.proofs.Placing.{joint_read, not_called, place_found}
use Rattle.system_spec.proofs.caps.joint_place.Goals as goal

pub returns-in-Rpc : goal.returns-in-Rpc
returns-in-Rpc c =
    let t = told c.args.tables.now in
    let k = c.args.connection in
    c.number_at.ensures ∙ ap (λ z. slice_index z k) c.as_slice-in-Rpc.ensures
    ∙ place_found (λ j. place t (EndpointOf j)) t.flat.connections c.args.places.now.endpoints k c.requires.places.endpoints
    c.requires.named
    ∙ sym (ap (place t) (joint_read t _ k _ c.as_slice.ensures c.requires.named ∙ ap (joint_by k) c.in-Rpc.is))

pub returns-in_default : goal.returns-in_default
returns-in_default c =
    let t = told c.args.tables.now in
    let k = c.args.connection in
    c.number_at-in_default.ensures ∙ ap (λ z. slice_index z k) c.as_slice-in_default.ensures
    ∙ place_found (λ j. place t (NotificationOf j)) t.flat.connections c.args.places.now.notifications k
    c.requires.places.notifications c.requires.named
    ∙ sym (ap (place t) (joint_read t _ k _ c.as_slice.ensures c.requires.named ∙ not_called k _ c.in_default.not-Rpc))
