-- The labels of interrupts
use Rattle.spec_laws.proofs.Common.{CanMap, Connector, FlatConnection, IrqOf, IsIn, IsIrqOf, IsOf, NotificationOf, OfConnection, Some, Tables, ap, arith, below, in_place, inl, irq_owner, labels_of, name_at, notification_by, object, objects_stand}
use Rattle.spec_laws.proofs.Common.{option_map_or, part, parts, parts_are_there, place, place_is, refl, rules, slice_get, spec_of, subst, sym, ℕ, ◌∙◌, ◌≡◌, there, IsThere}
use Rattle.cap_model.specs.declared.object.Object.TheVariants as objects
use Rattle.system_spec.specs.declared.series.Series.TheVariants as series
use Rattle.spec_laws.proofs.Names.{same_number}
use Rattle.spec_laws.proofs.Labels.{label_is}
use Rattle.spec_laws.proofs.Locks.{part_there}
use Rattle.spec_laws.proofs.Whose.{class_of, classed, device_at, of_interrupt, owner_of, whose}

module _ (t : Tables) where
  pub irqs_are : CanMap t → (k at : ℕ) (c : FlatConnection) → slice_get t.flat.connections k ≡ Some c → IsIrqOf t (spec_of t) k at
      → IsOf t (labels_of t) at (irq_owner k c)
  irqs_are can k at c h w =
      let p = part_there t at (objects.Irq (Some w.notification)) w.is in
      let i = in_place p.0 (parts t) at p.1 in let here = there t p.0 i in
      let q = of_interrupt p.0.what (sym (classed t p.0.what here) ∙ ap class_of p.2) in let j = q.0 in
      let u : IsThere t (IrqOf j) = subst (λ z. IsThere t z) q.1 here in
      let is : object t (IrqOf j) ≡ objects.Irq (Some w.notification) = search (rules) in
      let holds : w.notification ≡ place t (NotificationOf j) = cc in
      let P : Connector → Type 0 = λ m. IsIn (part series.Ntfn j (OfConnection j) (NotificationOf j)) (notification_by j m) in
      let n = part series.Ntfn j (OfConnection j) (NotificationOf j) in
      let stands = (parts_are_there t).notification j u.0 u.1 n (subst P (sym u.2) (inl refl)) in
      let few = can.lay.connections in let low = below t.flat.connections j u.0 u.1 in
      let number : j ≡ k = same_number series.Ntfn series.Ntfn j k (omega (arith, few, low))
      (omega (arith, few, below t.flat.connections k c h))
      (sym ((objects_stand t).name n stands) ∙ ap (λ z. name_at (spec_of t) z) (sym holds) ∙ w.holds) in
      let R : ℕ → Type 0 = λ z. IsOf t (labels_of t) z p.0.owner in
      subst (IsOf t (labels_of t) at) (whose t p.0 i ∙ ap (owner_of t) q.1 ∙ ap (device_at t) number
      ∙ ap (λ o. option_map_or (irq_owner k) o (OfConnection k)) h) (subst R (place_is t at p.0 p.1) (label_is t p.0 i))
