-- A table of the labels of objects that is filled line by line, and the labels of a spec's objects.
use Rattle.policy_text.proofs.Common.{Bool, IsErrAnd, IsFault, IsLabelling, List, None, Option, Policy, Refused, Result, Some, TextFault, ap, at_drop_more, bytes_eq, cond, drop, false, first_unlabelled, get_or, length, object_label, option_or}
use Rattle.policy_text.proofs.Common.{option_or-cond, passed_on, refl, rules, subst, sym, true, ℕ, ◌+◌, ◌<◌, ◌∙◌, ◌∷◌, ◌≡◌}
use mathlib.Core.Path.{fun_ext}
use Rattle.cap_model.specs.declared.object_labels.Labels.{Labels}
use Rattle.cap_model.specs.declared.spec.Spec.{Spec}

first_label : (o : List ℕ × ℕ) (more : List (List ℕ × ℕ)) (name : List ℕ)
    → object_label (o ∷ more) name ≡ cond (bytes_eq o.0 name) (Some o.1) (object_label more name)
first_label o more name = search (rules)

-- one object line more
pub label_more : (name : List ℕ) (objects : List (List ℕ × ℕ)) (i : ℕ) (o : List ℕ × ℕ) (f g all : Option ℕ) → i < length objects
    → o ≡ get_or objects i o
    → option_or f (object_label (drop i objects) name) ≡ all → g ≡ option_or f (cond (bytes_eq o.0 name) (Some o.1) None)
    → option_or g (object_label (drop (i + 1) objects) name) ≡ all
label_more name objects i o f g all lt is before after =
    ap (λ k. option_or k (object_label (drop (i + 1) objects) name)) after
    ∙ option_or-cond f (bytes_eq o.0 name) o.1 (object_label (drop (i + 1) objects) name)
    ∙ ap (option_or f) (sym (first_label o (drop (i + 1) objects) name))
    ∙ ap (λ (p : List ℕ × ℕ). option_or f (object_label (p ∷ drop (i + 1) objects) name)) is
    ∙ ap (option_or f) (sym (at_drop_more (λ os. object_label os name) objects i o lt))
    ∙ before

-- the refusal of the first object without a label
pub labelling_fails : (spec : Spec) (policy : Policy) (label : List ℕ → Option ℕ) (answer : Result Labels (Refused TextFault))
    (r : Refused TextFault)
    → ((name : List ℕ) → label name ≡ object_label policy.objects name) → IsErrAnd answer (λ other. other ≡ r)
    → IsFault (first_unlabelled label spec.entries) r → IsLabelling spec policy answer
labelling_fails spec policy label answer r same is h =
    passed_on (IsLabelling spec policy) answer r is (subst (λ (o : Option TextFault). IsFault o r)
    (ap (λ (f : List ℕ → Option ℕ). first_unlabelled f spec.entries) (fun_ext same)) h)
