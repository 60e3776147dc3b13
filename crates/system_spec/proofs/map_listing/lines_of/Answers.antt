use Rattle.system_spec.proofs.Common.{ap, append_assoc, domain_lines, slot_lines, thread_lines, told, window_lines, ◌++◌, ◌∙◌}
use Rattle.system_spec.proofs.map_listing.lines_of.Goals as goal

pub returns : goal.returns
returns c =
    let t = told c.args.tables.now in
    let d = domain_lines t in
    let h = thread_lines t in
    let s = slot_lines t in
    let w = window_lines t in
    c.in_ok-push_windows.ensures ∙ ap (λ z. z ++ w) (c.in_ok-push_slots.ensures ∙ ap (λ z. z ++ s) (c.in_ok-push_threads.ensures
    ∙ ap (λ z. z ++ h) (c.in_ok-push_domains.ensures ∙ ap (λ z. z ++ d) c.new-lines.ensures)))
    ∙ append_assoc (d ++ h) s w ∙ append_assoc d h (s ++ w)
