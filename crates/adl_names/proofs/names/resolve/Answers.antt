use Rattle.adl_names.proofs.Common.{Assembly, ItemAt, List, Located, None, Source, [], ap, arith, assemblies, drop, drop_all, drop_first, first_name_fault, get_or, items_of, length, located, map, names_sound, one_assembly, option_or-none, sym, ◌+◌, ◌<◌, ◌∙◌, ◌∷◌, ◌≡◌}
use Rattle.adl_names.proofs.Rising.{places, rises_source}
use Rattle.adl_names.proofs.names.resolve.Goals as goal

-- where no fault of names is first there is one assembly, the first
the_assembly : (xs : List (Located Assembly)) (s : Source) → map located xs ≡ assemblies s → first_name_fault s ≡ None
    → (0 < length xs) × ((d : Located Assembly) → map (λ a. a.0) (assemblies s) ≡ (get_or xs 0 d).at ∷ [])
the_assembly [] s seen none = let o = one_assembly s (names_sound s none) in cc
the_assembly (x ∷ []) s seen none = (omega arith, λ d. ap (map (λ (a : ItemAt × Assembly). a.0)) (sym seen))
the_assembly (x ∷ y ∷ more) s seen none = let o = one_assembly s (names_sound s none) in cc

pub bounds-assemblies-0 : goal.bounds-assemblies-0
bounds-assemblies-0 c =
    (the_assembly c.assemblies.result.now c.in_ok-items.items c.assemblies.ensures (sym c.in_ok-first_fault.ensures
    ∙ c.in_ok-refuse.ensures)).0

pub loop-x-init : goal.loop-x-init
loop-x-init c =
    let all : map located c.items-x-items.result.now ≡ items_of c.args.source.now = c.items-x-items.ensures
    ∙ ap items_of c.in_ok-items.ensures in
    record {
      procedures = λ n. rw (c.new-procedures.ensures.empty, all);
      components = λ n. rw (c.new-components.ensures.empty, all);
      procedures_rise = rw (c.new-procedures.ensures.empty, all) (rises_source c.args.source.now);
      components_rise = rw (c.new-components.ensures.empty, all) (rises_source c.args.source.now);
    }

pub loop-x-preserved : goal.loop-x-preserved
loop-x-preserved c =
    let xs = c.items-x-items.result.now in
    let rest = map located (drop (c.loop-x.x-index + 1) xs) in
    let h = rw (drop_first xs c.loop-x.x-index c.x-item.result c.loop-x-test.true c.x-item.is) at c.loop-x.invariant in
    let put = c.in_ok-add_item.ensures in
    record {
      procedures = λ n. put.procedures n rest ∙ h.procedures n;
      components = λ n. put.components n rest ∙ h.components n;
      procedures_rise = put.procedures_rise (places rest) h.procedures_rise;
      components_rise = put.components_rise (places rest) h.components_rise;
    }

pub returns-clause-procedures : goal.returns-clause-procedures
returns-clause-procedures c = λ n. option_or-none _
    ∙ (rw (drop_all c.loop-x.x-index c.items-x-items.result.now c.loop-x-test.false) at (c.loop-x.invariant.procedures n))

pub returns-clause-components : goal.returns-clause-components
returns-clause-components c = λ n. option_or-none _
    ∙ (rw (drop_all c.loop-x.x-index c.items-x-items.result.now c.loop-x-test.false) at (c.loop-x.invariant.components n))

pub returns-clause-assembly : goal.returns-clause-assembly
returns-clause-assembly c =
    ap (λ (z : Source). map (λ (a : ItemAt × Assembly). a.0) (assemblies z)) (sym c.in_ok-items.ensures)
    ∙ (the_assembly c.assemblies.result.now c.in_ok-items.items c.assemblies.ensures (sym c.in_ok-first_fault.ensures
    ∙ c.in_ok-refuse.ensures)).1 _
