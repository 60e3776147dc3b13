use Rattle.adl_settings.proofs.SettleCommon.{ap, is_some, sym, ◌∙◌}
use Rattle.cam_base.proofs.Options.{is_none}
use Rattle.indexmap.proofs.CallerLemmas.{insert_entry-new}
use Rattle.adl_settings.proofs.SettingKeys.{found_put, found_there, keyed}
use Rattle.adl_settings.proofs.tables.SettingTable.add.Goals as goal

pub returns-clause-found : goal.returns-clause-found
returns-clause-found c =
    let absent = is_none (keyed c.args.key.items c.args.self.now.entries.entries)
    (sym (c.contains_key.ensures ∙ ap (λ z. is_some (keyed z c.args.self.now.entries.entries)) c.as_slice.ensures.value)
    ∙ c.if-contains_key.false) in
    found_put c.args.self.now (record { entries = c.insert.new.self }) c.args.key c.args.setting (c.in_ok-insert.ensures.entries
    ∙ insert_entry-new _ c.args.self.now.entries c.args.key c.args.setting absent)

pub returns-clause-met : goal.returns-clause-met
returns-clause-met c =
    sym c.if-contains_key.false ∙ c.contains_key.ensures ∙ ap (λ z. is_some (keyed z c.args.self.now.entries.entries))
    c.as_slice.ensures.value ∙ sym (found_there c.args.self.now c.args.key.items)
