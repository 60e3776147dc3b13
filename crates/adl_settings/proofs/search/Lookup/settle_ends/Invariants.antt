use Rattle.adl_settings.proofs.SettleCommon.{drop, flat_map, found_on, founds_in, map, noted, ◌++◌, ◌≡◌}
use Rattle.adl_settings.specs.DeviceOverlap.{regions}
use Rattle.adl_settings.specs.IrqTwice.{irqs}
use Rattle.adl_settings.specs.SettingFaults.{faults_on}
use Rattle.adl_settings.specs.Settled.{end_settings}
use Rattle.adl_settings.proofs.search.Lookup.settle_ends.Given as goal

abbrev pub invariant-loop-connection : goal.invariant-loop-connection
invariant-loop-connection l =
    let left = map (found_on l.fn.self l.source l.flat) (drop l.connection-index l.flat.connections) in
    let all = founds_in l.fn.self l.source l.flat in
    record {
      settings : l.settings.items ++ map end_settings left ≡ map end_settings all;
      first : noted l.judged.first (flat_map faults_on left) ≡ noted l.fn.judged.first (flat_map faults_on all);
      regions : l.judged.regions.items ++ regions left ≡ l.fn.judged.regions.items ++ regions all;
      irqs : l.judged.irqs.items ++ irqs left ≡ l.fn.judged.irqs.items ++ irqs all;
      same : l.self ≡ l.fn.self;
    }
