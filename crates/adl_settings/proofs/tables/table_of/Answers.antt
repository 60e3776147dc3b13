use Rattle.adl_settings.proofs.SettleCommon.{None, Path, [], ap, arith, drop_first, find, is_some, noted, option_or, option_or-cond, repeated_after, sets, setting_found, settings_of, ◌++◌, ◌∙◌, ◌∷◌, ◌≡◌}
use Rattle.adl_settings.proofs.SettingKeys.{found_none}
use Rattle.adl_settings.proofs.TableSteps.{twice_more}
use Rattle.adl_settings.proofs.tables.table_of.Goals as goal

pub loop-setting-init : goal.loop-setting-init
loop-setting-init c =
    let h = c.args.bodies.now in
    let k = c.args.number in
    let e = c.settings_of-setting-items.ensures ∙ ap settings_of c.body.ensures in
    let none : (q : Path) → setting_found (record { entries = c.new.result }) q ≡ None =
    λ q. found_none (record { entries = c.new.result }) q c.new.ensures.len in
    record {
      found = λ p x i. option_or (none (p ++ x ∷ []) i) (find (sets h k p x) (e i));
      twice = λ i. noted c.args.first.now (repeated_after h k (λ p n. is_some (none (p ++ n ∷ []) i)) (e i));
    }

pub loop-setting-preserved : goal.loop-setting-preserved
loop-setting-preserved c =
    let h = c.args.bodies.now in
    let k = c.args.number in
    let i = c.loop-setting.setting-index in
    let s = c.setting-item.result in
    record {
      found = λ p x. let next = drop_first c.settings_of-setting-items.result.now i s c.loop-setting-test.true
          c.setting-item.is in
          grind (arith, option_or-cond, c.in_ok-add_setting.ensures.found p x, c.loop-setting.invariant.found p x);
      twice =
          twice_more h k (λ p n. setting_found c.loop-setting.settings (p ++ n ∷ []))
          (λ p n. setting_found c.add_setting.new.settings (p ++ n ∷ [])) c.loop-setting.first c.add_setting.new.first
          c.settings_of-setting-items.result.now i s
          c.loop-setting-test.true c.setting-item.is c.in_ok-add_setting.ensures.found c.in_ok-add_setting.ensures.noted
          ∙ c.loop-setting.invariant.twice;
    }
