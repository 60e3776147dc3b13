use Rattle.adl_names.proofs.Common.{again, as_composition, as_configuration, at_keyword, compositions, cond, configurations, drop, filter_map, map, noted, ◌++◌, ◌≡◌}
use Rattle.cam_base.specs.declared.code.Code.TheVariants as code
use Rattle.adl_names.proofs.repeats.note_again.Given as goal

abbrev pub invariant-loop-member : goal.invariant-loop-member
invariant-loop-member l =
    noted l.first
    (map (λ p. at_keyword code.Duplicate p)
    (cond l.is_later (map (λ k. k.place) (filter_map as_composition (drop l.member-index l.member-items)))
    (drop 1 (map (λ k. k.place) (filter_map as_composition (drop l.member-index l.member-items))))))
    ≡ noted l.fn.first (again (map (λ k. k.place) (compositions l.component)))

abbrev pub invariant-loop-part : goal.invariant-loop-part
invariant-loop-part l =
    noted l.first
    (map (λ p. at_keyword code.Duplicate p)
    (cond l.is_later (map (λ f. f.place) (filter_map as_configuration (drop l.part-index l.part-items)))
    (drop 1 (map (λ f. f.place) (filter_map as_configuration (drop l.part-index l.part-items))))))
    ≡ noted l.fn.first (again (map (λ k. k.place) (compositions l.component))
    ++ again (map (λ f. f.place) (configurations l.component)))
