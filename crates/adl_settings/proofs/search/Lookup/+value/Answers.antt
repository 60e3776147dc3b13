use Rattle.adl_settings.proofs.SettleCommon.{None, ap, at, length, option_copied, remembered, set_within, subst, sym, take, top_number, value_at, ℕ, ◌∙◌, ◌+◌, ◌<◌, ◌≡◌}
use Rattle.adl_settings.proofs.ValueSteps.{at-next, remembered_more, step-found, step-none}
use Rattle.adl_settings.proofs.search.Lookup.+value.Goals as goal

pub referred-returns-in-Some-clause-value : goal.referred-returns-in-Some-clause-value
referred-returns-in-Some-clause-value t c =
    c.again.ensures ∙ c.self.invariant.values c.args.path.now c.args.name.now c.in-Some.found.now (sym c.get.ensures.value
    ∙ ap option_copied c.in-Some.is) ∙ ap (λ h. value_at h c.args.path.now c.args.name.now) c.self.view_is

pub referred-invariant_of-self-2 : goal.referred-invariant_of-self-2
referred-invariant_of-self-2 t c =
    let h = c.self-2.inside.bodies.now in
    record {
      tables = c.self-2.invariant.tables;
      valued = c.self-2.invariant.valued;
      values =
          remembered_more h (remembered c.self-2.inside.referred.entries) (remembered c.insert.new.self.entries)
          c.args.path.now c.args.name.now c.again-2.result c.self-2.invariant.values
          (c.again-2.ensures ∙ c.in_ok-found.ensures.value
          ∙ ap (λ g. value_at g c.args.path.now c.args.name.now) (sym c.search.ensures.same ∙ sym c.self-2.view_is))
          (λ p x. c.in_ok-insert.ensures.updates.0 (
            record { ref_ptr = (0, 0); now = p },
            record { ref_ptr = (0, 0); now = x },
          ));
    }

pub search-returns-in-Some-clause-value : goal.search-returns-in-Some-clause-value
search-returns-in-Some-clause-value t c =
    step-found c.loop-at.self c.args.path.now c.loop-at.at c.max-at-end.result c.args.name.now c.loop-at.number
    (option_copied c.setting-setting.result) c.in_ok-given.field-0
    c.deref.result.now c.in_ok-key.key.items c.loop-at-test.true c.max-at-end.ensures c.loop-at.invariant.there
    c.setting-setting.ensures c.deref.ensures.value c.in_ok-key.ensures c.in_ok-given.ensures.value
    c.loop-at.invariant.none c.in-Some.given c.in-Some.is
    ∙ ap (λ h. value_at h c.args.path.now c.args.name.now) c.loop-at.invariant.same

pub search-loop-at-preserved : goal.search-loop-at-preserved
search-loop-at-preserved t c =
    let same = c.given_by.ensures.same in
    record {
      there =
          c.behind-number.ensures
          ∙ at-next c.given_by.new.self (top_number c.given_by.new.self) c.args.path.now c.loop-at.at c.loop-at.number
          (c.loop-at.invariant.there ∙ ap (λ h. at h (top_number h) (take c.loop-at.at c.args.path.now)) (sym same));
      none =
          subst (λ h. (k : ℕ) → k < c.loop-at.at + 1
          → set_within h c.args.path.now k (length c.args.path.now) c.args.name.now ≡ None) (sym same)
          (step-none c.loop-at.self c.args.path.now c.loop-at.at c.max-at-end.result c.args.name.now c.loop-at.number
          (option_copied c.setting-setting.result) c.in_ok-given.field-0
          c.deref.result.now c.in_ok-key.key.items c.loop-at-test.true c.max-at-end.ensures c.loop-at.invariant.there
          c.setting-setting.ensures c.deref.ensures.value c.in_ok-key.ensures c.in_ok-given.ensures.value
          c.loop-at.invariant.none c.in-None.is);
      same = same ∙ c.loop-at.invariant.same;
    }
