use Rattle.adl_settings.proofs.SettleCommon.{Name, drop, list_any, settings_of, ◌||◌, ◌≡◌}
use Rattle.adl_settings.specs.Named.{gives, is_attribute, is_named, members_of, sets_name}
use Rattle.adl_settings.proofs.names.add_body.Given as goal

abbrev pub invariant-loop-setting : goal.invariant-loop-setting
invariant-loop-setting l =
    (n : Name) → (is_named l.names.keys n || list_any (sets_name n) (drop l.setting-index (settings_of l.body)))
    ≡ (is_named l.fn.names.keys n || list_any (sets_name n) (settings_of l.body))

abbrev pub invariant-loop-member : goal.invariant-loop-member
invariant-loop-member l =
    (n : Name) → (is_named l.names.keys n || list_any (is_attribute n) (drop l.member-index (members_of l.body)))
    ≡ (is_named l.fn.names.keys n || gives n l.body)
