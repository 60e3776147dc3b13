use Rattle.adl_flatten.proofs.TemplateCommon.{Name, as_export, drop, export_named, filter_map, found, option_map, option_or, target_of, ◌≡◌}
use Rattle.adl_flatten.proofs.template.targets_of.Given as goal

abbrev pub invariant-loop-line : goal.invariant-loop-line
invariant-loop-line l =
    (n : Name)
    → option_or (found l.targets n) (option_map (λ x. target_of l.program l.number x.words)
    (export_named (filter_map as_export (drop l.line-index l.line-items)) n))
    ≡ option_map (λ x. target_of l.program l.number x.words) (export_named (filter_map as_export l.line-items) n)
