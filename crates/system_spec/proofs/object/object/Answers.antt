use Rattle.system_spec.proofs.Common.{CNodeOf, FrameOf, IfOk-weaker, Irq, IsThere, NotificationOf, Some, ThreadOf, ap, object, place, slice_index, subst, sym, told, ◌∙◌, ◌≡◌}
use Rattle.system_spec.proofs.Placing.{place_found}
use Rattle.system_spec.proofs.object.object.Goals as goal

pub cnode-requires-clause-there : goal.cnode-requires-clause-there
cnode-requires-clause-there c = subst (IsThere (told c.args.tables.now)) c.in-CNodeOf.is c.requires.there

pub returns-in-CNodeOf : goal.returns-in-CNodeOf
returns-in-CNodeOf c =
    let t = told c.args.tables.now in
    IfOk-weaker c.cnode.result (λ o. o ≡ object t (CNodeOf c.in-CNodeOf.domain)) (λ o. o ≡ object t c.args.what)
    (λ o e. e ∙ ap (object t) (sym c.in-CNodeOf.is)) c.cnode.ensures

pub thread_object-requires-clause-there : goal.thread_object-requires-clause-there
thread_object-requires-clause-there c = subst (IsThere (told c.args.tables.now)) c.in-ThreadOf.is c.requires.there

pub returns-in-ThreadOf : goal.returns-in-ThreadOf
returns-in-ThreadOf c =
    let t = told c.args.tables.now in
    IfOk-weaker c.thread_object.result (λ o. o ≡ object t (ThreadOf c.in-ThreadOf.domain c.in-ThreadOf.number))
    (λ o. o ≡ object t c.args.what) (λ o e. e ∙ ap (object t) (sym c.in-ThreadOf.is)) c.thread_object.ensures

pub returns-in-IrqOf : goal.returns-in-IrqOf
returns-in-IrqOf c =
    let t = told c.args.tables.now in
    let k = c.in-IrqOf.connection in
    let here = subst (IsThere t) c.in-IrqOf.is c.requires.there in
    ap (λ z. Irq (Some z)) (c.number_at.ensures ∙ ap (λ z. slice_index z k) c.as_slice.ensures
    ∙ place_found (λ j. place t (NotificationOf j)) t.flat.connections c.args.marks.now.connections.notifications k
    c.requires.marks.connections.notifications here)
    ∙ ap (object t) (sym c.in-IrqOf.is)

pub returns-in-FrameOf : goal.returns-in-FrameOf
returns-in-FrameOf c =
    let t = told c.args.tables.now in
    IfOk-weaker c.frame_at.result (λ o. o ≡ object t (FrameOf c.in-FrameOf.number)) (λ o. o ≡ object t c.args.what)
    (λ o e. e ∙ ap (object t) (sym c.in-FrameOf.is)) c.frame_at.ensures
