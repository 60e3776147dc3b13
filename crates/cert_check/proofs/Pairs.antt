-- The least violation with one edge of a partner.
use Rattle.cert_check.proofs.Common.{Authority, Breaks, Edge, Finds, FindsLeast, List, Meeting, Missing, None, Some, Violation, With, ap, edge, edges_same, false, first_authority, has, inl, inr, partner_authority, partner_of, refl, subst, sym, true}
use Rattle.cert_check.proofs.Common.{ℕ, rules, ◌∙◌, ◌≡◌, ◌≢◌, ◌⊎◌}
use Rattle.authorities.specs.declared.authority.Authority.TheVariants as authorities
use Rattle.cert_check.specs.declared.meetings.Meeting.TheVariants.{Grant, Call, GrantBack}
use Rattle.cert_check.proofs.Violations.{at_first}

-- an edge by its parts
pub parts : (e : Edge) (l : ℕ) (a : Authority) (m : ℕ) → e.from ≡ l → e.authority ≡ a → e.to ≡ m → e ≡ edge l a m
parts e l a m f g h = edges_same e (edge l a m) f g h

module _ (cert : List Edge) where
  pub partner_has : (rule : Meeting) (v : Violation) → Breaks rule cert v → has cert (partner_of rule v) ≡ true
  partner_has Grant v b = b.receive
  partner_has Call v b = b.there_too
  partner_has GrantBack v b = b.grants_back

  pub partner_is : (rule : Meeting) (v : Violation) → Breaks rule cert v → (partner_of rule v).authority ≡ partner_authority rule
  partner_is Grant v b = refl
  partner_is Call v b = b.receive
  partner_is GrantBack v b = refl

  pub partner_to : (rule : Meeting) (v : Violation) → Breaks rule cert v → (partner_of rule v).to ≡ v.first.to
  partner_to Grant v b = refl
  partner_to Call v b = b.same
  partner_to GrantBack v b = refl

  pub first_has : (rule : Meeting) (v : Violation) → Breaks rule cert v → has cert v.first ≡ true
  first_has Grant v b = b.there
  first_has Call v b = b.there
  first_has GrantBack v b = b.there

  pub first_is : (rule : Meeting) (v : Violation) → Breaks rule cert v → v.first.authority ≡ first_authority rule
  first_is Grant v b = b.grant
  first_is Call v b = b.call
  first_is GrantBack v b = b.call

  -- a missing edge of other labels that are the same
  missing_at : (s t r q : ℕ) (lack : Edge) → s ≡ t → r ≡ q → Missing cert s r lack → Missing cert t q lack
  missing_at s t r q lack f g m = subst (λ (x : ℕ). Missing cert x q lack) f (subst (λ (y : ℕ). Missing cert s y lack) g m)

  -- what is found with one partner's edge

  pub granted : (e other lack : Edge) → e.authority ≡ authorities.Grant → other.authority ≡ authorities.Receive → other.to ≡ e.to
      → has cert e ≡ true → has cert other ≡ true
      → Finds (Missing cert e.from other.from) (Some lack)
      → FindsLeast (With Grant cert e.from other)
      (Some (record { first = e; lack = lack; second = edge e.from lack.authority lack.to }))
  granted e other lack is receives meet there there_too f = search (rules, parts, missing_at, at_first, edges_same)

  pub none_granted : (e other : Edge) → Finds (Missing cert e.from other.from) None
      → FindsLeast (With Grant cert e.from other) None
  none_granted e other f w h = search (rules, missing_at)

  pub granted_back : (e other lack : Edge) → e.authority ≡ authorities.Call → other.authority ≡ authorities.GrantBack
      → other.to ≡ e.to → has cert e ≡ true → has cert other ≡ true
      → Finds (Missing cert other.from e.from) (Some lack)
      → FindsLeast (With GrantBack cert e.from other)
      (Some (record { first = e; lack = lack; second = edge other.from lack.authority lack.to }))
  granted_back e other lack is back meet there there_too f = search (rules, parts, at_first, edges_same, missing_at)

  pub none_granted_back : (e other : Edge) → Finds (Missing cert other.from e.from) None
      → FindsLeast (With GrantBack cert e.from other) None
  none_granted_back e other f w h = search (rules, missing_at)

  pub replied : (e other : Edge) → e.authority ≡ authorities.Call → other.authority ≡ authorities.Receive → other.to ≡ e.to
      → has cert e ≡ true → has cert other ≡ true → e.from ≢ other.from
      → has cert (edge other.from authorities.Reply e.from) ≡ false
      → FindsLeast (With Call cert e.from other) (Some (record {
        first = e;
        lack = edge other.from authorities.Reply e.from;
        second = other;
      }))
  replied e other is receives meet there there_too differ lacks = search (rules, at_first, edges_same)

  pub none_replied : (e other : Edge) → (e.from ≡ other.from) ⊎ (has cert (edge other.from authorities.Reply e.from) ≡ true)
      → FindsLeast (With Call cert e.from other) None
  none_replied e other (inl same) w h = h.breaks.differ (h.from ∙ (same ∙ ap (λ (x : Edge). x.from) (sym h.partner)))
  none_replied e other (inr there_it_is) w h = search (rules, edges_same)
