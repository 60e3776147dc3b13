use Rattle.adl_settings.proofs.SettleCommon.{drop, filter, filter_map, found_of, found_on, map, positioned_after, ◌++◌, ◌≡◌, ◌≤◌}
use Rattle.adl_settings.specs.EndMeaning.{end_setting}
use Rattle.adl_settings.specs.Judged.{is_judged}
use Rattle.adl_settings.proofs.search.Lookup.settings_on.Given as goal

abbrev pub invariant-loop-end : goal.invariant-loop-end
invariant-loop-end l =
    let all = found_on l.fn.self l.source l.flat l.connection in
    let left = filter_map (found_of l.fn.self l.source l.flat l.connection)
    (positioned_after l.before (drop l.end-index l.connection.ends)) in
    record {
      small : l.before ≤ l.end-index;
      settings : l.settings ++ map end_setting left ≡ map end_setting all;
      judged : l.judged.items ++ filter is_judged left ≡ filter is_judged all;
      same : l.self ≡ l.fn.self;
    }
