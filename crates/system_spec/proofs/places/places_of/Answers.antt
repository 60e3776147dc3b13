use Rattle.system_spec.proofs.Common.{FlatConnection, List, ap, arith, gather, length, mark, places_from, told, ◌∙◌}
use Rattle.system_spec.specs.declared.places.Standing.TheVariants as standings
use Rattle.system_spec.proofs.Bounds.{ends}
use Rattle.system_spec.proofs.Placing.{endpoints_marked, endpoints_placed, irqs_marked, irqs_placed, notifications_marked, notifications_placed}
use Rattle.system_spec.proofs.places.places_of.Goals as goal

pub places_from-requires : goal.places_from-requires
places_from-requires c =
    let t = told c.args.tables.now in
    let same = ap (λ (z : List FlatConnection). length (gather (mark standings.Endpoint) z)) c.as_slice-connections.ensures in
    omega (arith, same, c.requires.endpoint, endpoints_marked t.flat.connections, (ends t c.requires.few).endpoints)

pub places_from-requires-2 : goal.places_from-requires-2
places_from-requires-2 c =
    let t = told c.args.tables.now in
    let same = ap (λ (z : List FlatConnection). length (gather (mark standings.Notification) z)) c.as_slice-connections.ensures in
    omega (arith, same, c.requires.notification, notifications_marked t.flat.connections, (ends t c.requires.few).notifications)

pub places_from-requires-3 : goal.places_from-requires-3
places_from-requires-3 c =
    let t = told c.args.tables.now in
    let same = ap (λ (z : List FlatConnection). length (gather (mark standings.Interrupt) z)) c.as_slice-connections.ensures in
    omega (arith, same, c.requires.irq, irqs_marked t.flat.connections, (ends t c.requires.few).irqs)

pub returns : goal.returns
returns c =
    let t = told c.args.tables.now in
    let read = c.as_slice-connections.ensures in
    record {
      endpoints = endpoints_placed t c.args.endpoint _ c.requires.endpoint (c.in_ok-places_from.ensures
          ∙ ap (places_from standings.Endpoint c.args.endpoint) read);
      notifications = notifications_placed t c.args.notification _ c.requires.notification (c.in_ok-places_from-2.ensures
          ∙ ap (places_from standings.Notification c.args.notification) read);
      irqs = irqs_placed t c.args.irq _ c.requires.irq (c.in_ok-places_from-3.ensures
          ∙ ap (places_from standings.Interrupt c.args.irq) read);
    }
