use Rattle.adl_settings.proofs.SettleCommon.{codes, size_of, value_of, where_set, ◌∙◌}
use Rattle.adl_settings.proofs.search.Lookup.found_at.Goals as goal

pub returns-clause-value : goal.returns-clause-value
returns-clause-value c =
    let j = c.args.joint in
    let a = c.in_ok-access.ensures.same in
    let b = c.in_ok-badge.ensures.same ∙ a in
    let s = c.in_ok-size.ensures.same ∙ b in
    let p = c.in_ok-paddr.ensures.same ∙ s in
    λ i. record {
      joint = j;
      access = (c.in_ok-access.ensures.value ∙
          (λ k. where_set (c.has_access.ensures k) (value_of c.args.self.now j (codes "_access")))) i;
      badge = (c.in_ok-badge.ensures.value ∙
          (λ k. where_set (c.has_badge.ensures k) (value_of (a k) j (codes "_attributes")))) i;
      size = (c.in_ok-size.ensures.value ∙ (λ k. size_of (b k) j)) i;
      paddr = (c.in_ok-paddr.ensures.value ∙
          (λ k. where_set (c.is_device_memory.ensures k) (value_of (s k) j (codes "_paddr")))) i;
      irq = (c.in_ok-irq.ensures.value ∙
          (λ k. where_set (c.is_device_event.ensures k) (value_of (p k) j (codes "_irq_number")))) i;
    }
