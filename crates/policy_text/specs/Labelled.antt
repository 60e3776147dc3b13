-- The labels of a spec's objects: each has the one that the policy's object line of its name gives.
use Rattle.std.specs.Prelude.{◌≡◌, ℕ, List, find, map, Option, Some, None, Result, Ok, Err}
use Rattle.policy_text.specs.Below.{Policy, Refused, TextFault, Unlabelled, bytes_eq, is_none, option_map}
use Rattle.cap_model.specs.declared.object_labels.Labels.{Labels}
use Rattle.cap_model.specs.declared.spec.Entry.{Entry}
use Rattle.cap_model.specs.declared.spec.Spec.{Spec}
use Rattle.policy_text.specs.PolicyTexts.{IsFault}

-- the label of the first object line of that name
abbrev pub object_label : List (List ℕ × ℕ) → List ℕ → Option ℕ
object_label objects name = option_map (λ o. o.1) (find (λ o. bytes_eq o.0 name) objects)

-- the fault of an object without a label
abbrev pub unlabelled : Entry → TextFault
unlabelled entry = record { code = Unlabelled; first = 0; end = 0; name = entry.name }

-- the fault of the first object without a label
abbrev pub first_unlabelled : (List ℕ → Option ℕ) → List Entry → Option TextFault
first_unlabelled label entries = option_map unlabelled (find (λ entry. is_none (label entry.name)) entries)

-- the label of one object, or its fault
abbrev pub IsLabelOf : Option ℕ → Entry → Result ℕ (Refused TextFault) → Type 0
IsLabelOf label entry (Ok n) = label ≡ Some n
IsLabelOf label entry (Err refusal) = (label ≡ None) × IsFault (Some (unlabelled entry)) refusal

-- What labelling answers: one label for each object, where each has one; or the fault of the first that has none, which stands
-- in front of all lines; or that memory ran out.
abbrev pub IsLabelling : Spec → Policy → Result Labels (Refused TextFault) → Type 0
IsLabelling spec policy (Ok labels) =
    map (λ n. Some n) labels.by_object ≡ map (λ entry. object_label policy.objects entry.name) spec.entries
IsLabelling spec policy (Err refusal) = IsFault (first_unlabelled (object_label policy.objects) spec.entries) refusal
