-- A text is read as its spec, and bytes with a fault are refused by the first.
use Rattle.capdl_text.proofs.Common.{Err, IsFirstFault, IsRead, List, Ok, Result, Spec, Text, TextFault, ap, inl, inr, refl, ℕ, ◌≡◌, ◌⊎◌}
use Rattle.cam_base.specs.declared.error.Refused.{Refused}
use Rattle.cam_base.specs.declared.error.Refused.TheVariants as refused
use Rattle.capdl_text.proofs.Unique.{one_spec, one_first_fault, no_fault_of_text}

pub read_text : (bytes : List ℕ) (s : Spec) (r : Result Spec (Refused TextFault)) → IsRead bytes r → Text bytes s
    → (r ≡ Ok s) ⊎ (r ≡ Err refused.NoMemory)
read_text bytes s (Ok t) h a = inl (ap (λ (x : Spec). Ok x) (one_spec bytes t s h a))
read_text bytes s (Err (refused.Fault f)) h a = absurd (no_fault_of_text bytes s f a h)
read_text bytes s (Err refused.NoMemory) h a = inr refl

pub read_fault : (bytes : List ℕ) (f : TextFault) (r : Result Spec (Refused TextFault)) → IsRead bytes r → IsFirstFault bytes f
    → (r ≡ Err (refused.Fault f)) ⊎ (r ≡ Err refused.NoMemory)
read_fault bytes f (Ok t) h a = absurd (no_fault_of_text bytes t f h a)
read_fault bytes f (Err (refused.Fault g)) h a =
    inl (ap (λ (x : TextFault). Err (refused.Fault x)) (one_first_fault bytes g f h a))
read_fault bytes f (Err refused.NoMemory) h a = inr refl
