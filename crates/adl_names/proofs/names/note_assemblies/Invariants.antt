use Rattle.adl_names.proofs.Common.{[], at_keyword, cond, drop, located, map, none_of, noted, second_of, ◌++◌, ◌≡◌}
use Rattle.cam_base.specs.declared.code.Code.TheVariants as code
use Rattle.adl_names.proofs.names.note_assemblies.Given as goal

abbrev pub invariant-loop-x : goal.invariant-loop-x
invariant-loop-x l =
    noted l.first (map (λ a. at_keyword code.SecondAssembly a.1.place)
    (cond l.is_later (map located (drop l.x-index l.assemblies)) (drop 1 (map located (drop l.x-index l.assemblies))))
    ++ cond l.is_later [] (none_of (map located (drop l.x-index l.assemblies))))
    ≡ noted l.fn.first (second_of (map located l.assemblies) ++ none_of (map located l.assemblies))
