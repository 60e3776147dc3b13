-- The uses of slots name connections that there are.
use Rattle.spec_laws.proofs.Common.{AreNamed, Connector, Flat, Interrupt, IsIn, List, NamesOneOf, Notification, Role, Rpc, SlotPlan, SlotUse, Some, Source, To, below, domain_uses, end_uses, from_get_map, in_place, inl, inr, length, slice_get}
use Rattle.spec_laws.proofs.Common.{rules, slots_of, subst, ℕ, ◌<◌, ◌≡◌}
use Rattle.spec_laws.proofs.Used.{from_domain}

of_end : (connector : Connector) (role : Role) (k n count : ℕ) (u : SlotUse) → k < count → IsIn u (end_uses connector role k n)
    → NamesOneOf count u
of_end Rpc role k n count u l (inl e) = subst (NamesOneOf count) e l
of_end Rpc role k n count u l (inr i) = absurd i
of_end Notification role k n count u l (inl e) = subst (NamesOneOf count) e l
of_end Notification role k n count u l (inr i) = absurd i
of_end Interrupt To k n count u l (inl e) = subst (NamesOneOf count) e l
of_end Interrupt To k n count u l (inr (inl e)) = subst (NamesOneOf count) e l
of_end Interrupt To k n count u l (inr (inr i)) = absurd i
of_end _ _ k n count u l i = absurd i

of_domain : (s : Source) (flat : Flat) (leaves : List ℕ) (u : SlotUse) → IsIn u (domain_uses s flat leaves)
    → NamesOneOf (length flat.connections) u
of_domain s flat leaves u i = search (rules, from_domain, of_end, below)

pub uses_named : (s : Source) (flat : Flat) (d : ℕ) (plan : SlotPlan) → slice_get (slots_of s flat).domains d ≡ Some plan
    → AreNamed (length flat.connections) plan.uses
uses_named s flat d plan e n u at = search (rules, from_get_map, of_domain, in_place)
