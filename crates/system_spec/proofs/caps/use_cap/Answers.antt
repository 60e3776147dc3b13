use Rattle.system_spec.proofs.Common.{SlotUse, ap, cap, joint, place, rights_at, sym, told, use_cap_at, ◌∙◌}
use Rattle.system_spec.proofs.caps.use_cap.Goals as goal

pub returns-in-OfEnd : goal.returns-in-OfEnd
returns-in-OfEnd c =
    let t = told c.args.tables.now in
    let k = c.in-OfEnd.connection in
    let n = c.in-OfEnd.number in
    ap (λ z. cap z c.rights_at.result c.badge_at.result) (c.use_object-object.ensures
    ∙ ap (λ (u : SlotUse). (use_cap_at t c.args.lock u).object) c.in-OfEnd.is)
    ∙ ap (λ z. cap (place t (joint t k)) z c.badge_at.result) c.rights_at.ensures
    ∙ ap (λ z. cap (place t (joint t k)) (rights_at t k n) z) c.badge_at.ensures
    ∙ ap (use_cap_at t c.args.lock) (sym c.in-OfEnd.is)
