use Rattle.adl_settings.proofs.SettleCommon.{drop, flat_map, leaf_found, leaves_found, map, noted, ◌++◌, ◌≡◌}
use Rattle.adl_settings.specs.BadValue.{bad_in_leaf}
use Rattle.adl_settings.specs.Settled.{leaf_setting}
use Rattle.adl_settings.proofs.search.Lookup.settle_leaves.Given as goal

abbrev pub invariant-loop-leaf : goal.invariant-loop-leaf
invariant-loop-leaf l = record {
  settings : l.settings.items ++ map leaf_setting (map (leaf_found l.fn.self) (drop l.leaf-index l.flat.leaves))
      ≡ map leaf_setting (leaves_found l.fn.self l.flat);
  noted : noted l.first (flat_map bad_in_leaf (map (leaf_found l.fn.self) (drop l.leaf-index l.flat.leaves)))
      ≡ noted l.fn.first (flat_map bad_in_leaf (leaves_found l.fn.self l.flat));
  same : l.self ≡ l.fn.self;
}
