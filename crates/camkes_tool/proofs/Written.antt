-- What `compile` leaves with status 0 is a sound build, written whole, whose texts are read back.
use Rattle.std.proofs.Common.{rules}
use Rattle.camkes_tool.proofs.Common.{Answer, Check, Command, Compile, Compiled, Contents, Faulted, Fits, FitsCompiled, InAll, IsSafe, IsWritten, List, NoMemory, Option, ReadFault, Sink, Some, Tells}
use Rattle.camkes_tool.proofs.Common.{arith, build_sound, inl, inr, status_of, subst, ℕ, ◌∙◌, ◌≡◌}
use Rattle.arch_compile.proofs.OfSources.{build_of_source}
use Rattle.camkes_tool.proofs.Safe.{answered_safe}
use Rattle.camkes_tool.proofs.SpecBack.{spec_back}
use Rattle.camkes_tool.proofs.PolicyBack.{policy_read}
use Rattle.camkes_tool.proofs.CertBack.{cert_read}
use Rattle.camkes_tool.proofs.HeldAsRead.{as_read}

pub zero_not_five : (n : ℕ) → n ≡ 0 → n ≡ 5 → ⊥
zero_not_five n e h = omega arith

-- with status 0 the answer was told whole
pub whole_status : (answer : Answer) (status : ℕ) (old new : Sink) (m n : ℕ) → Tells answer status old new m n → status ≡ 0
    → 0 ≡ status_of answer
whole_status answer status old new m n tells zero = search (rules, zero_not_five)

module _ (told : Contents → Type 0) (some : (c : Contents) × told c) (before now : List ℕ → ℕ) (root base : List ℕ) (status : ℕ)
    (old new : Sink) (m n : ℕ) (zero : status ≡ 0) where
  root_written : (answer : Answer) → InAll told (λ c. FitsCompiled root base c before now answer)
      → Tells answer status old new m n → IsWritten told root base old new
  root_written (Compiled names b) fits tells = elim tells.told [
    | inl t ↦ record {
      build = b;
      names = names;
      made = λ c is. (fits c is).1;
      named = (fits some.0 some.1).0;
      whole = t.1;
      read_back = search (rules, spec_back, policy_read, cert_read);
      as_read = as_read root some.0 b (fits some.0 some.1).1;
      of_source = λ c is. build_of_source root c b (fits c is).1;
      sound = build_sound root some.0 b (fits some.0 some.1).1;
    }
    | inr t ↦ absurd (zero_not_five status zero t.0)
  ]
  root_written (Faulted file fault) fits tells = let e = whole_status (Faulted file fault) status old new m n tells zero in
      absurd cc
  root_written (ReadFault file) fits tells = let e = whole_status (ReadFault file) status old new m n tells zero in absurd cc
  root_written NoMemory fits tells = let e = whole_status NoMemory status old new m n tells zero in absurd cc
  root_written _ fits tells = absurd (fits some.0 some.1)

  pub compiled_written : (asked : Option Command) (answer : Answer) → asked ≡ Some (Compile root base)
      → InAll told (λ c. Fits asked c before now answer) → Tells answer status old new m n
      → IsWritten told root base old new
  compiled_written asked answer is fits tells =
      root_written answer (λ c t. subst (λ z. Fits z c before now answer) is (fits c t)) tells

pub checked_safe : (contents : Contents) (before now : List ℕ → ℕ) (cdl policy cert : List ℕ) (status : ℕ) (old new : Sink)
    (m n : ℕ) → status ≡ 0 → (asked : Option Command) (answer : Answer)
    → asked ≡ Some (Check cdl policy cert) → Fits asked contents before now answer → Tells answer status old new m n
    → IsSafe contents cdl policy
checked_safe contents before now cdl policy cert status old new m n zero asked answer is fits tells =
    answered_safe contents before now cdl policy cert answer (subst (λ z. Fits z contents before now answer) is fits)
    (whole_status answer status old new m n tells zero)
