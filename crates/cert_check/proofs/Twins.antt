-- A violation of a rule over two labels that meet has a twin at any labels that may stand for the two, and where they meet too.
use Rattle.cert_check.proofs.Common.{Alike, AtMost, Authority, Breaks, Edge, List, Meeting, Missing, NotAfter, OutAlike, Violation, arith, edge, edges_same, false, first_authority, has, partner_authority, partner_of, refl, subst, sym, true, ℕ, ◌∙◌}
use Rattle.cert_check.proofs.Common.{rules, ◌≡◌, ◌≢◌, ◌≤◌}
use Rattle.authorities.specs.declared.authority.Authority.TheVariants as authorities
use Rattle.cert_check.specs.declared.meetings.Meeting.TheVariants.{Grant, Call, GrantBack}
use Rattle.cert_check.proofs.Violations.{at_first}

-- the same violation where s has the rule's first edge to e, and r the partner's
abbrev pub twin : Meeting → Violation → ℕ → ℕ → ℕ → Violation
twin Grant v s r e = record {
  first = edge s authorities.Grant e;
  lack = edge r v.lack.authority v.lack.to;
  second = edge s v.lack.authority v.lack.to;
}
twin Call v s r e = record {
  first = edge s authorities.Call e;
  lack = edge r authorities.Reply s;
  second = edge r authorities.Receive e;
}
twin GrantBack v s r e = record {
  first = edge s authorities.Call e;
  lack = edge s v.lack.authority v.lack.to;
  second = edge r v.lack.authority v.lack.to;
}

pub twin_first : (rule : Meeting) (v : Violation) (s r e : ℕ) → (twin rule v s r e).first ≡ edge s (first_authority rule) e
twin_first Grant v s r e = refl
twin_first Call v s r e = refl
twin_first GrantBack v s r e = refl

pub twin_partner : (rule : Meeting) (v : Violation) (s r e : ℕ)
    → partner_of rule (twin rule v s r e) ≡ edge r (partner_authority rule) e
twin_partner Grant v s r e = refl
twin_partner Call v s r e = refl
twin_partner GrantBack v s r e = refl

pub first_no_reply : (rule : Meeting) → first_authority rule ≢ authorities.Reply
first_no_reply Grant same = absurd cc
first_no_reply Call same = absurd cc
first_no_reply GrantBack same = absurd cc

pub partner_no_reply : (rule : Meeting) → partner_authority rule ≢ authorities.Reply
partner_no_reply Grant same = absurd cc
partner_no_reply Call same = absurd cc
partner_no_reply GrantBack same = absurd cc

module _ (cert : List Edge) where
  pub alike_self : (rule : Meeting) (l : ℕ) → Alike rule cert l l
  alike_self Grant l = λ a x other. refl
  alike_self Call l = refl
  alike_self GrantBack l = λ a x other. refl

  pub alike_has : (rule : Meeting) (l m : ℕ) (a : Authority) (x : ℕ) → Alike rule cert l m → a ≢ authorities.Reply
      → has cert (edge l a x) ≡ true → has cert (edge m a x) ≡ true
  alike_has Grant l m a x alike other h = sym (alike a x other) ∙ h
  alike_has Call l m a x alike other h = subst (λ (y : ℕ). has cert (edge y a x) ≡ true) alike h
  alike_has GrantBack l m a x alike other h = sym (alike a x other) ∙ h

  alike_missing : (s t r q : ℕ) (d : Edge) → OutAlike cert s t → OutAlike cert r q → Missing cert s r d
      → Missing cert t q (edge q d.authority d.to)
  alike_missing s t r q d st rq m = search (rules, edges_same)

  pub twin_breaks : (rule : Meeting) (v : Violation) (s r e : ℕ) → Breaks rule cert v → Alike rule cert v.first.from s
      → Alike rule cert (partner_of rule v).from r
      → has cert (edge s (first_authority rule) e) ≡ true → has cert (edge r (partner_authority rule) e) ≡ true
      → Breaks rule cert (twin rule v s r e)
  twin_breaks Grant v s r e b fs pr first partner = search (rules, alike_missing)
  twin_breaks Call v s r e b fs pr first partner = search (rules, edges_same)
  twin_breaks GrantBack v s r e b fs pr first partner = search (rules, alike_missing)

  at_most_from : (r q : ℕ) (a : Authority) (x : ℕ) → r ≤ q → AtMost (edge r a x) (edge q a x)
  at_most_from r q a x le = record { by_from = le; by_authority = λ f. omega arith; by_to = λ f n. omega arith }

  -- a lesser partner is found no later
  pub twin_not_after : (rule : Meeting) (v : Violation) (r : ℕ) → Breaks rule cert v → r ≤ (partner_of rule v).from
      → NotAfter (twin rule v v.first.from r v.first.to) v
  twin_not_after Grant v r b le = search (rules, at_first, edges_same, at_most_from)
  twin_not_after Call v r b le = search (rules, at_first, edges_same, at_most_from)
  twin_not_after GrantBack v r b le = search (rules, at_first, edges_same, at_most_from)

  pub alike_chain : (rule : Meeting) (l m n : ℕ) → Alike rule cert l m → Alike rule cert m n → Alike rule cert l n
  alike_chain Grant l m n p q = λ a x other. p a x other ∙ q a x other
  alike_chain Call l m n p q = p ∙ q
  alike_chain GrantBack l m n p q = λ a x other. p a x other ∙ q a x other
