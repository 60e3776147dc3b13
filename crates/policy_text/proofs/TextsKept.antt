-- What each text of a policy keeps: what policies keep, and labels of objects below the limit.
use Rattle.policy_text.proofs.Common.{All, All-cons, All-nil, Bool, IsPolicy, IsPolicyText, List, None, Number, Option, Policy, Some, Told, [], arith, body, edge, false, filter_map, first_policy_fault, first_wrong, has_label}
use Rattle.policy_text.proofs.Common.{label, label_value, nat_le, nat_tests, neither, object, object_of, option_map_or, policy_lines, rules, subst, sym, true, unwrap_or, value, ℕ, ◌++◌, ◌<◌, ◌∷◌, ◌≡◌}
use Rattle.policy_text.specs.declared.kind.Kind.TheVariants as kinds
use Rattle.policy_text.proofs.Kept.{Clean, clean, formed_all, gives_small, policy_kept, right_object}

none_wrong : (bytes : List ℕ) → first_policy_fault bytes ≡ None
    → first_wrong (has_label (policy_lines bytes)) [] (policy_lines bytes) ≡ None
none_wrong bytes none = search (rules, neither)

all_clean : (bytes : List ℕ) → first_policy_fault bytes ≡ None → Clean (has_label (policy_lines bytes)) [] (policy_lines bytes)
all_clean bytes none = clean (has_label (policy_lines bytes)) [] (policy_lines bytes) (none_wrong bytes none)
    (formed_all kinds.Policy (body bytes))

pub text_kept : (bytes : List ℕ) (policy : Policy) → IsPolicyText bytes policy → IsPolicy policy
text_kept bytes policy text = policy_kept (policy_lines bytes) policy (all_clean bytes text.0) text.1

below_value : (o : Option ℕ) → option_map_or (λ v. nat_le 8192 v) o true ≡ false → unwrap_or o 0 < 8192
below_value None h = absurd cc
below_value (Some v) h = grind (arith, nat_tests)

objects_below : (knows : Number → Bool) (before ts : List Told) → ((n : Number) → knows n ≡ true → label_value n < 8192)
    → Clean knows before ts
    → All (λ o. o.1 < 8192) (filter_map object_of ts)
objects_below knows before [] below c = All-nil (λ o. o.1 < 8192)
objects_below knows before ((line, object word n) ∷ ts) below c =
    All-cons (λ o. o.1 < 8192) (word, label_value n) (filter_map object_of ts)
    (below n (right_object knows before line word n c.0).0)
    (objects_below knows (before ++ (line, object word n) ∷ []) ts below c.2)
objects_below knows before ((line, label n name) ∷ ts) below c =
    objects_below knows (before ++ (line, label n name) ∷ []) ts below c.2
objects_below knows before ((line, edge l a m) ∷ ts) below c =
    objects_below knows (before ++ (line, edge l a m) ∷ []) ts below c.2

pub labels_below : (bytes : List ℕ) (policy : Policy) → IsPolicyText bytes policy → All (λ o. o.1 < 8192) policy.objects
labels_below bytes policy text =
    let ts = policy_lines bytes in
    let c = all_clean bytes text.0 in
    subst (λ (os : List (List ℕ × ℕ)). All (λ o. o.1 < 8192) os) (sym text.1.objects)
    (objects_below (has_label ts) [] ts (λ n h. below_value (value n) (gives_small (has_label ts) [] ts n c h)) c)
