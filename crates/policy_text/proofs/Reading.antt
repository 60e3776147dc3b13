-- What the readers cite as they refuse a text and as they answer.
use Rattle.policy_text.proofs.Common.{AreLabelled, BTreeSet, Bool, Edge, IsBuilt, IsCertRead, IsCertText, IsErrAnd, IsFault, IsPolicy, IsPolicyOf, IsPolicyRead, IsPolicyText, IsSmall, IsSorted, Kind, List, None, Number, Option, Parts, Policy}
use Rattle.policy_text.proofs.Common.{Refused, Result, SaysEdges, Some, TextFault, Told, Words, [], ap, arith, body, cert_lines, contains, false, first_fault, first_wrong, form_fault, has, has_label, head_fault, is_labelled, label_name, nat_cmp}
use Rattle.policy_text.proofs.Common.{nat_lt, nat_tests, option_map_or, passed_on, policy_lines, refl, rules, sym, told, true, true≢false, unwrap_or, value, within, ℕ, ◌<◌, ◌^◌, ◌∙◌, ◌≡◌}
use mathlib.Core.Path.{fun_ext}
use Rattle.std.specs.Option.{is_some}
use Rattle.policy_text.specs.declared.kind.Kind.TheVariants as kinds
use Rattle.policy_text.specs.WordSets as words
use Rattle.policy_text.proofs.Judging.{fault_first, fault_then, none_then}
use Rattle.policy_text.proofs.Kept.{Clean, clean, formed_all, built_edges, edges_labelled, all_edges, policy_says, policy_kept}

module _ (kind : Kind) (knows : Number → Bool) (bytes : List ℕ) where
  pub fault_head : (r : Refused TextFault) → IsFault (head_fault kind bytes) r → IsFault (first_fault kind knows bytes) r
  fault_head r h = search (rules, fault_first)

  pub fault_form : (r : Refused TextFault) → head_fault kind bytes ≡ None → IsFault (form_fault kind (body bytes)) r
      → IsFault (first_fault kind knows bytes) r
  fault_form r head h = search (rules, fault_then, fault_first)

  pub fault_wrong : (r : Refused TextFault) → head_fault kind bytes ≡ None → form_fault kind (body bytes) ≡ None
      → IsFault (first_wrong knows [] (told kind (body bytes))) r
      → IsFault (first_fault kind knows bytes) r
  fault_wrong r head form h = search (rules, fault_then)

  pub fault_none : head_fault kind bytes ≡ None → form_fault kind (body bytes) ≡ None
      → first_wrong knows [] (told kind (body bytes)) ≡ None → first_fault kind knows bytes ≡ None
  fault_none head form wrong = search (rules, none_then)

  pub clean_lines : first_wrong knows [] (told kind (body bytes)) ≡ None → Clean knows [] (told kind (body bytes))
  clean_lines h = clean knows [] (told kind (body bytes)) h (formed_all kind (body bytes))

-- the numbers of label lines
pub lines_known : (numbers : Words) (ts : List Told) → ((n : List ℕ) → words.has numbers n ≡ has_label ts n)
    → words.has numbers ≡ has_label ts
lines_known numbers ts each = fun_ext each

-- the numbers of a policy's labels
same_or : (f g : ℕ → Bool) (o : Option ℕ) → ((v : ℕ) → f v ≡ g v) → option_map_or f o false ≡ option_map_or g o false
same_or f g None each = refl
same_or f g (Some v) each = each v

pub labels_known : (numbers : BTreeSet ℕ) (policy : Policy)
    → ((n : ℕ) → contains nat_cmp numbers n ≡ is_some (label_name policy.labels n))
    → (λ (n : Number). option_map_or (λ v. contains nat_cmp numbers v) (value n) false) ≡ is_labelled policy
labels_known numbers policy each =
    fun_ext (λ n. same_or (λ v. contains nat_cmp numbers v) (λ v. is_some (label_name policy.labels v)) (value n) each)

small_of : (numbers : BTreeSet ℕ) (policy : Policy) (o : Option ℕ)
    → ((n : ℕ) → contains nat_cmp numbers n ≡ is_some (label_name policy.labels n)) → IsSmall numbers
    → option_map_or (λ v. is_some (label_name policy.labels v)) o false ≡ true → within o ≡ unwrap_or o 0
small_of numbers policy None each small h = absurd (true≢false (sym h))
small_of numbers policy (Some v) each small h = search (rules, nat_lt, nat_tests)

pub cert_says : (numbers : BTreeSet ℕ) (policy : Policy) (bytes : List ℕ) (parts : Parts) (cert : List Edge)
    → ((n : ℕ) → contains nat_cmp numbers n ≡ is_some (label_name policy.labels n)) → IsSmall numbers
    → first_wrong (is_labelled policy) [] (cert_lines bytes) ≡ None → IsBuilt parts (cert_lines bytes) → IsSorted cert
    → ((e : Edge) → has cert e ≡ has parts.edges.items e) → SaysEdges (cert_lines bytes) cert
cert_says numbers policy bytes parts cert each small right built sorted table =
    let known = λ (n : Number) (h : is_labelled policy n ≡ true). small_of numbers policy (value n) each small h in
    let edges = built_edges (is_labelled policy) [] (cert_lines bytes) known (clean_lines kinds.Certificate (is_labelled policy)
    bytes right) in
    record { order = sorted; same = λ e. table e ∙ ap (λ es. has es e) (built.edges ∙ edges) }

-- each number that a certificate uses is a label of the policy
labelled_value : (policy : Policy) (o : Option ℕ) → option_map_or (λ v. is_some (label_name policy.labels v)) o false ≡ true
    → is_some (label_name policy.labels (unwrap_or o 0)) ≡ true
labelled_value policy None h = absurd (true≢false (sym h))
labelled_value policy (Some v) h = h

pub cert_labelled : (policy : Policy) (bytes : List ℕ) (cert : List Edge)
    → first_wrong (is_labelled policy) [] (cert_lines bytes) ≡ None → SaysEdges (cert_lines bytes) cert → AreLabelled policy cert
cert_labelled policy bytes cert right says =
    let named = λ (n : Number) (h : is_labelled policy n ≡ true). labelled_value policy (value n) h in
    let clean = clean_lines kinds.Certificate (is_labelled policy) bytes right in
    let each = λ (e : Edge) (h : has cert e ≡ true). edges_labelled (is_labelled policy) [] (cert_lines bytes) policy.labels named
    clean e (sym (says.same e) ∙ h) in
    record {
      from = all_edges (λ e. is_some (label_name policy.labels e.from) ≡ true) cert (λ e h. (each e h).0);
      to = all_edges (λ e. is_some (label_name policy.labels e.to) ≡ true) cert (λ e h. (each e h).1);
    }

-- ---- the readers' answers

pub policy_wrong : (numbers : Words) (bytes : List ℕ) (answer : Result Policy (Refused TextFault)) (r : Refused TextFault)
    → head_fault kinds.Policy bytes ≡ None → form_fault kinds.Policy (body bytes) ≡ None
    → ((n : List ℕ) → words.has numbers n ≡ has_label (policy_lines bytes) n)
    → IsFault (first_wrong (words.has numbers) [] (policy_lines bytes)) r → IsErrAnd answer (λ other. other ≡ r)
    → IsPolicyRead bytes answer
policy_wrong numbers bytes answer r head form each h is = search (rules, passed_on, fault_wrong, lines_known)

pub policy_read : (numbers : Words) (bytes : List ℕ) (parts : Parts) (policy : Policy) → head_fault kinds.Policy bytes ≡ None
    → form_fault kinds.Policy (body bytes) ≡ None
    → ((n : List ℕ) → words.has numbers n ≡ has_label (policy_lines bytes) n)
    → first_wrong (words.has numbers) [] (policy_lines bytes) ≡ None → IsBuilt parts (policy_lines bytes)
    → IsPolicyOf parts policy
    → IsPolicyText bytes policy × IsPolicy policy
policy_read numbers bytes parts policy head form each h built is =
    let right = ap (λ (k : Number → Bool). first_wrong k [] (policy_lines bytes))
    (sym (lines_known numbers (policy_lines bytes) each)) ∙ h in
    let clean = clean_lines kinds.Policy (has_label (policy_lines bytes)) bytes right in
    let says = policy_says (policy_lines bytes) parts policy clean built is in (
      (fault_none kinds.Policy (has_label (policy_lines bytes)) bytes head form right, says),
      policy_kept (policy_lines bytes)
          policy clean says,
    )

pub cert_wrong : (numbers : BTreeSet ℕ) (policy : Policy) (bytes : List ℕ) (answer : Result (List Edge) (Refused TextFault))
    (r : Refused TextFault) → head_fault kinds.Certificate bytes ≡ None
    → form_fault kinds.Certificate (body bytes) ≡ None
    → ((n : ℕ) → contains nat_cmp numbers n ≡ is_some (label_name policy.labels n))
    → IsFault (first_wrong (λ n. option_map_or (λ v. contains nat_cmp numbers v) (value n) false) [] (cert_lines bytes)) r
    → IsErrAnd answer (λ other. other ≡ r) → IsCertRead policy bytes answer
cert_wrong numbers policy bytes answer r head form each h is = search (rules, passed_on, fault_wrong, labels_known)

pub cert_read : (numbers : BTreeSet ℕ) (policy : Policy) (bytes : List ℕ) (parts : Parts) (cert : List Edge)
    → head_fault kinds.Certificate bytes ≡ None → form_fault kinds.Certificate (body bytes) ≡ None
    → ((n : ℕ) → contains nat_cmp numbers n ≡ is_some (label_name policy.labels n)) → IsSmall numbers
    → first_wrong (λ n. option_map_or (λ v. contains nat_cmp numbers v) (value n) false) [] (cert_lines bytes) ≡ None
    → IsBuilt parts (cert_lines bytes) → IsSorted cert
    → ((e : Edge) → has cert e ≡ has parts.edges.items e) → IsCertText policy bytes cert × AreLabelled policy cert
cert_read numbers policy bytes parts cert head form each small h built sorted table =
    let right = ap (λ (k : Number → Bool). first_wrong k [] (cert_lines bytes)) (sym (labels_known numbers policy each)) ∙ h in
    let says = cert_says numbers policy bytes parts cert each small right built sorted table in
    ((fault_none kinds.Certificate (is_labelled policy) bytes head form right, says), cert_labelled policy bytes cert right says)
