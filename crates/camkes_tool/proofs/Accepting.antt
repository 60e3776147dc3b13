-- Where each object is given a label, no object is without one.
use Rattle.std.proofs.Common.{rules}
use Rattle.camkes_tool.proofs.Common.{Build, Err, IsLabelling, IsTrioValid, List, None, Option, Some, [], first_unlabelled, map, refl, ℕ, ◌∷◌, ◌≡◌}
use Rattle.cam_base.specs.declared.text_fault.TextFault.{TextFault}
use Rattle.cam_base.specs.declared.error.Refused.TheVariants as refused
use Rattle.cap_model.specs.declared.spec.Entry.{Entry}

none_unlabelled : (label : List ℕ → Option ℕ) (entries : List Entry) (labels : List ℕ)
    → map (λ n. Some n) labels ≡ map (λ (e : Entry). label e.name) entries → first_unlabelled label entries ≡ None
none_unlabelled label [] labels e = refl
none_unlabelled label (x ∷ xs) [] e = absurd cc
none_unlabelled label (x ∷ xs) (n ∷ ns) e =
    let here : label x.name ≡ Some n = cc in
    let rest : map (λ n. Some n) ns ≡ map (λ (e : Entry). label e.name) xs = cc in
    rw here (none_unlabelled label xs ns rest)

pub none_some : (o : Option TextFault) (fault : TextFault) → o ≡ None → o ≡ Some fault → ⊥
none_some o fault none some = cc

pub labels_stand : (b : Build) (fault : TextFault) → IsTrioValid b → IsLabelling b.spec b.policy (Err (refused.Fault fault)) → ⊥
labels_stand b fault trio h = search (rules, none_some, none_unlabelled)
