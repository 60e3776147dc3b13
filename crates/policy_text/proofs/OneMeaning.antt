-- Lines mean at most one policy, and one table of edges; bytes have one answer.
use Rattle.policy_text.proofs.Common.{Edge, Err, IsAnswer, IsCertRead, IsFault, IsPolicyRead, List, None, Ok, Option, Policy, Refused, Result, SaysEdges, TextFault, Told, ap, cert_lines, first_cert_fault, first_policy_fault, one_table, policy_lines, rules}
use Rattle.policy_text.proofs.Common.{refl, sym, ℕ, ◌∙◌, ◌≡◌}
use Rattle.cam_base.specs.declared.error.Refused.TheVariants as refused
use Rattle.policy_text.specs.PolicyTexts.{Says}

policies_same : (p q : Policy) → p.labels ≡ q.labels → p.objects ≡ q.objects → p.edges ≡ q.edges → p ≡ q
policies_same p q l o e = search (rules)

one_cert : (lines : List Told) (p q : List Edge) → SaysEdges lines p → SaysEdges lines q → p ≡ q
one_cert lines p q a b = one_table p q a.order b.order (λ e. a.same e ∙ sym (b.same e))

one_policy : (lines : List Told) (p q : Policy) → Says lines p → Says lines q → p ≡ q
one_policy lines p q a b = policies_same p q (a.labels ∙ sym b.labels) (a.objects ∙ sym b.objects)
    (one_cert lines p.edges q.edges a.edges b.edges)

abbrev Answers : {T : Type 0} → Option TextFault → (T → Type 0) → Result T (Refused TextFault) → Type 0
Answers fault Means (Ok x) = (fault ≡ None) × Means x
Answers fault Means (Err r) = IsFault fault r

-- answers of a text with this first fault, where it has one meaning without a fault
one_answer : {T : Type 0} (fault : Option TextFault) (Means : T → Type 0) → ((p q : T) → Means p → Means q → p ≡ q)
    → (a b : Result T (Refused TextFault)) → IsAnswer a → IsAnswer b
    → Answers fault Means a → Answers fault Means b → a ≡ b
one_answer fault Means one (Ok p) (Ok q) s t h k = ap (λ x. Ok x) (one p q h.1 k.1)
one_answer fault Means one (Ok p) (Err (refused.Fault f)) s t h k = let n = h.0 in absurd cc
one_answer fault Means one (Err (refused.Fault f)) (Ok q) s t h k = let n = k.0 in absurd cc
one_answer fault Means one (Err (refused.Fault f)) (Err (refused.Fault g)) s t h k = cc
one_answer fault Means one _ _ s t h k = absurd (search rules)

policy_answers : (bytes : List ℕ) (a : Result Policy (Refused TextFault)) → IsPolicyRead bytes a
    → Answers (first_policy_fault bytes) (Says (policy_lines bytes)) a
policy_answers bytes (Ok p) h = h
policy_answers bytes (Err r) h = h

pub policies_one : (bytes : List ℕ) (a b : Result Policy (Refused TextFault)) → IsAnswer a → IsAnswer b → IsPolicyRead bytes a
    → IsPolicyRead bytes b → a ≡ b
policies_one bytes a b s t h k = search (rules, one_answer, one_policy, policy_answers)

cert_answers : (policy : Policy) (bytes : List ℕ) (a : Result (List Edge) (Refused TextFault)) → IsCertRead policy bytes a
    → Answers (first_cert_fault policy bytes) (SaysEdges (cert_lines bytes)) a
cert_answers policy bytes (Ok p) h = h
cert_answers policy bytes (Err r) h = h

pub certs_one : (policy : Policy) (bytes : List ℕ) (a b : Result (List Edge) (Refused TextFault)) → IsAnswer a → IsAnswer b
    → IsCertRead policy bytes a → IsCertRead policy bytes b → a ≡ b
certs_one policy bytes a b s t h k =
    one_answer (first_cert_fault policy bytes) (SaysEdges (cert_lines bytes)) (one_cert (cert_lines bytes)) a b s t
    (cert_answers policy bytes a h) (cert_answers policy bytes b k)
