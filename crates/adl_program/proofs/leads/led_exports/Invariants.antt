use Rattle.adl_program.proofs.Common.{Name, as_export, drop, export_named, filter_map, found, lead_of, option_map, option_or, ◌≡◌}
use Rattle.adl_program.proofs.leads.led_exports.Given as goal

abbrev pub invariant-loop-line : goal.invariant-loop-line
invariant-loop-line l =
    (n : Name)
    → option_or (found l.exports n) (option_map (λ x. lead_of l.bodies l.number x.words)
    (export_named (filter_map as_export (drop l.line-index l.line-items)) n))
    ≡ option_map (λ x. lead_of l.bodies l.number x.words) (export_named (filter_map as_export l.line-items) n)
