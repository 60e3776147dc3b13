-- A certificate has one verdict.
use Rattle.std.proofs.Common.{rules}
use Rattle.text_commands.proofs.Common.{Edge, Judged, List, No, Option, Some, Spec, Verdict, Yes, [], ap, arith, at_most_both, cases_lt, inl, inr, refl, subst, suc, sym, zero, ℕ, ◌<◌, ◌∙◌, ◌∷◌, ◌≡◌, ◌≤◌, ◌⊎◌}
use Rattle.cert_check.specs.Least.{Holds, Least, LeastAlone, LeastOf, LeastPair}
use Rattle.cert_check.specs.Rules.{rule_number}
use Rattle.cert_check.specs.Violations.{BreaksBoot, BreaksControl, BreaksGrant, BreaksCall, BreaksGrantBack, BreaksBind, BreaksPolicy}
use Rattle.cert_check.specs.declared.rule.Rule.{Rule}
use Rattle.cert_check.specs.declared.rule.Rule.TheVariants as rules
use Rattle.cert_check.specs.declared.violation.Violation.{Violation}

rule_of : ℕ → Rule
rule_of (suc zero) = rules.BootEdges
rule_of (suc (suc zero)) = rules.Control
rule_of (suc (suc (suc zero))) = rules.Grant
rule_of (suc (suc (suc (suc zero)))) = rules.Call
rule_of (suc (suc (suc (suc (suc zero))))) = rules.GrantBack
rule_of (suc (suc (suc (suc (suc (suc zero)))))) = rules.Bind
rule_of _ = rules.Policy

same_rule : (r : Rule) → rule_of (rule_number r) ≡ r
unfolding rule_of
same_rule rules.BootEdges = refl
same_rule _ = refl

alone_one : (P : Edge → Type 0) (have had : List (Option Edge)) (lack lacked : Edge) → LeastAlone P have lack
    → LeastAlone P had lacked → (have ≡ had) × (lack ≡ lacked)
alone_one P have had lack lacked a b = (a.1 ∙ sym b.1, at_most_both lack lacked (a.0.1 lacked b.0.0) (b.0.1 lack a.0.0))

pair_one : (P : Violation → Type 0) (have had : List (Option Edge)) (lack lacked : Edge) → LeastPair P have lack
    → LeastPair P had lacked → (have ≡ had) × (lack ≡ lacked)
pair_one P have had lack lacked (v, p, is, e) (w, q, be, f) =
    let there = p.1 w q.0 in
    let back = q.1 v p.0 in
    let first : v.first ≡ w.first = at_most_both v.first w.first there.by_first back.by_first in
    let lacks : v.lack ≡ w.lack = at_most_both v.lack w.lack (there.by_lack first) (back.by_lack (sym first)) in
    let second : v.second ≡ w.second = search (rules, at_most_both) in
    (is ∙ ap (λ z. Some z ∷ Some v.second ∷ []) first ∙ ap (λ z. Some w.first ∷ Some z ∷ []) second ∙ sym be, e ∙ lacks ∙ sym f)

module _ (spec : Spec) (labels : List ℕ) (policy cert : List Edge) where
  least_one : (rule : Rule) (have had : List (Option Edge)) (lack lacked : Edge) → LeastOf spec labels policy cert rule have lack
      → LeastOf spec labels policy cert rule had lacked → (have ≡ had) × (lack ≡ lacked)
  least_one rules.BootEdges have had lack lacked a b = alone_one (BreaksBoot spec labels cert) have had lack lacked a b
  least_one rules.Control have had lack lacked a b = pair_one (BreaksControl cert) have had lack lacked a b
  least_one rules.Grant have had lack lacked a b = pair_one (BreaksGrant cert) have had lack lacked a b
  least_one rules.Call have had lack lacked a b = pair_one (BreaksCall cert) have had lack lacked a b
  least_one rules.GrantBack have had lack lacked a b = pair_one (BreaksGrantBack cert) have had lack lacked a b
  least_one rules.Bind have had lack lacked a b = pair_one (BreaksBind cert) have had lack lacked a b
  least_one rules.Policy have had lack lacked a b = alone_one (BreaksPolicy policy cert) have had lack lacked a b

  -- a rule that holds has no violation
  none_least : (rule : Rule) (have : List (Option Edge)) (lack : Edge) → Holds spec labels policy cert rule
      → LeastOf spec labels policy cert rule have lack → ⊥
  none_least rules.BootEdges have lack h l = h lack l.0.0
  none_least rules.Policy have lack h l = h lack l.0.0
  none_least _ have lack h l = h l.0 l.1.0

  rules_one : (r q : Rule) (have had : List (Option Edge)) (lack lacked : Edge) → Least spec labels policy cert r have lack
      → Least spec labels policy cert q had lacked → r ≡ q
  rules_one r q have had lack lacked a b = search (rules, cases_lt, none_least, same_rule, rule_of)

  pub verdict_one : (a b : Verdict) → Judged spec labels policy cert a → Judged spec labels policy cert b → a ≡ b
  verdict_one Yes Yes h k = refl
  verdict_one Yes (No number have lack) h k = absurd (k.3 h)
  verdict_one (No number have lack) Yes h k = absurd (h.3 k)
  verdict_one (No number have lack) (No other had lacked) h k = search (rules, rules_one, least_one)
