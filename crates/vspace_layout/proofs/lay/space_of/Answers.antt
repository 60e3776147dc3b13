use Rattle.vspace_layout.proofs.Common.{AreFew, EndAt, List, StacksFit, ThreadOf, ap, arith, length, regions_in, starts_in, subst, sym, ℕ, ◌∙◌}
use Rattle.vspace_layout.proofs.Starting.{many_starts, stacks_fit}
use Rattle.vspace_layout.proofs.lay.space_of.Goals as goal

pub thread_places-requires-clause-each : goal.thread_places-requires-clause-each
thread_places-requires-clause-each c =
    let o = c.args.outline.now in
    let starts = ap (λ (z : List ℕ). length z) (c.as_slice-starts.ensures ∙ c.in_ok-starts.ensures ∙ ap (starts_in c.args.base)
    (c.as_slice.ensures ∙ c.requires.regions)) in
    let threads = ap (λ (z : List ThreadOf). length z) c.as_slice-threads.ensures in
    let many = many_starts c.args.wiring.now.flat c.args.wiring.now.settled c.args.base o.threads o.windows in
    omega (arith, starts, threads, many)

pub thread_places-requires-clause-fit : goal.thread_places-requires-clause-fit
thread_places-requires-clause-fit c =
    let o = c.args.outline.now in
    let settled = c.args.wiring.now.settled in
    let starts = c.as_slice-starts.ensures ∙ c.in_ok-starts.ensures ∙ ap (starts_in c.args.base) (c.as_slice.ensures
    ∙ c.requires.regions) in
    subst (λ z. StacksFit settled z c.as_slice-threads.result.now) (sym starts)
    (subst (λ z. StacksFit settled (starts_in c.args.base (regions_in c.args.wiring.now.flat settled o.threads o.windows)) z)
    (sym c.as_slice-threads.ensures)
    (stacks_fit c.args.wiring.now.flat settled c.args.base o.threads o.windows c.requires.base
    (subst AreFew c.requires.regions c.requires.few)))

pub window_places-requires : goal.window_places-requires
window_places-requires c =
    let o = c.args.outline.now in
    let starts = ap (λ (z : List ℕ). length z) (c.as_slice-starts.ensures ∙ c.in_ok-starts.ensures ∙ ap (starts_in c.args.base)
    (c.as_slice.ensures ∙ c.requires.regions)) in
    let threads = ap (λ (z : List ThreadOf). length z) c.as_slice-threads.ensures in
    let windows = ap (λ (z : List EndAt). length z) c.as_slice-windows.ensures in
    let many = many_starts c.args.wiring.now.flat c.args.wiring.now.settled c.args.base o.threads o.windows in
    omega (arith, starts, threads, windows, many)
