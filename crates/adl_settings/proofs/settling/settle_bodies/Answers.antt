use Rattle.adl_settings.proofs.SettleCommon.{Fault, Hierarchy, None, Option, Refuses, Source, ap, flat_of, founds_in, hierarchy_of, least, leaves_found, noted, noted-append, noted-none, settings_twice, subst, sym, ◌∙◌, ◌≡◌}
use Rattle.adl_meaning.specs.declared.flat.Flat.{Flat}
use Rattle.adl_settings.specs.SettingFaults.{first_setting_fault, setting_faults_in, value_faults}
use Rattle.adl_settings.proofs.settling.settle_bodies.Goals as goal

-- the first fault of all that is noted
first_noted : (s : Source) (h : Hierarchy) (flat : Flat) → h ≡ hierarchy_of s → flat ≡ flat_of s
    → noted (noted None (settings_twice h)) (value_faults (leaves_found h flat) (founds_in h s flat)) ≡ first_setting_fault s
first_noted s h flat e f =
    sym (noted-append None (settings_twice h) (value_faults (leaves_found h flat) (founds_in h s flat)))
    ∙ noted-none (setting_faults_in h s flat) ∙ (λ i. least (setting_faults_in (e i) s (f i)))

pub returns-clause-fault : goal.returns-clause-fault
returns-clause-fault c =
    let h = c.args.bodies.now in
    let start = c.in_ok-settings.ensures.noted ∙ ap (λ o. noted o (settings_twice h)) c.none-first.ensures in
    subst (λ (o : Option Fault). Refuses c.settle_flat.result o)
    (ap (λ o. noted o (value_faults (leaves_found h c.args.flat.now) (founds_in h c.args.source.now c.args.flat.now))) start
    ∙ first_noted c.args.source.now h c.args.flat.now c.requires.bodies c.requires.flat)
    c.settle_flat.ensures.fault
