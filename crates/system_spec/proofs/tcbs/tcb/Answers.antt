use Rattle.system_spec.proofs.Common.{IsIn, List, Page, RW, Rises, TableOf, ap, arith, cap, frame_at, map, option_map, pages_at, place, slice_index, subst, sym, told, ◌+◌, ◌∙◌}
use Rattle.system_spec.proofs.Bounds.{ends}
use Rattle.system_spec.proofs.Placing.{place_found}
use Rattle.system_spec.proofs.Threads.{frames_same, tcb_is}
use Rattle.system_spec.proofs.tcbs.tcb.Goals as goal

pub buffer_cap-requires-clause-rise : goal.buffer_cap-requires-clause-rise
buffer_cap-requires-clause-rise c = subst (λ (z : List Page). Rises (map (λ p. p.vaddr) z)) (sym c.pages_at.ensures)
    (c.requires.buildable.rise c.args.domain)

pub buffer_cap-requires-clause-shown : goal.buffer_cap-requires-clause-shown
buffer_cap-requires-clause-shown c = λ p i.
    let t = told c.args.tables.now in
    let one = c.requires.buildable.shown c.args.domain p (subst (λ (z : List Page). IsIn p z) c.pages_at.ensures i) in
    let all = (ends t c.requires.buildable.few).frames in
    omega (arith, c.requires.marks.frames, one, all)

pub returns : goal.returns
returns c =
    let t = told c.args.tables.now in
    let d = c.args.domain in
    let x = c.args.thread.now in
    let m = c.args.marks.now in
    let root = c.number_at.ensures ∙ ap (λ z. slice_index z d) c.as_slice.ensures
    ∙ place_found (λ n. place t (TableOf n 0)) t.flat.domains m.roots d c.requires.marks.roots c.requires.there in
    let buffer = c.buffer_cap.ensures ∙ ap (λ z. option_map (λ f. cap (m.first_frame + f) RW 0) (frame_at z x.buffer))
    c.pages_at.ensures ∙ frames_same t m.first_frame c.requires.marks.frames (frame_at (pages_at t d) x.buffer) in
    tcb_is t d x c.leaf_entry.result c.priority.result c.number_at.result _ _ c.leaf_entry.ensures c.priority.ensures
    (c.in_ok-new.ensures ∙ c.leaf_name.ensures) root buffer
