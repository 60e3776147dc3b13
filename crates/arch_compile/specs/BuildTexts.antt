-- What is written of a build: its four texts, each on a channel of its own, and then the summary on standard output.
use Rattle.std.specs.Prelude.{◌≡◌, ◌≤◌, ℕ, Bool, false, List, [], ◌∷◌, ◌++◌, codes, string_bytes}
use Rattle.arch_compile.specs.Below.{Edge, Policy, Spec}
use Rattle.arch_compile.specs.Maps.{build_map}
use Rattle.arch_compile.specs.declared.building.Build.{Build}
use Rattle.arch_compile.specs.Summary.{summary_line, summary_of}
use Rattle.cam_io.specs.Scripts.{Act, Begin, Write}
use Rattle.cam_io.specs.Sinks.{Sink}
use Rattle.cap_model.specs.Canonical.{canonical}
use Rattle.policy_text.specs.PolicyLines.{cert_text, policy_text}
use Rattle.arch_compile.specs.declared.names.TextNames.{TextNames}

-- the names of the files that are written for a base
pub record AreNamedBy (base : List ℕ) (names : TextNames) : Type 0 where
  pub capdl : string_bytes names.capdl ≡ base ++ codes ".cdl"
  pub policy : string_bytes names.policy ≡ base ++ codes ".policy"
  pub certificate : string_bytes names.certificate ≡ base ++ codes ".cert"
  pub map : string_bytes names.map ≡ base ++ codes ".map"

-- ---- texts

abbrev pub build_summary : Build → List ℕ
build_summary b = summary_line (summary_of b.meaning.flat b.spec b.policy.edges)

-- ---- acts

abbrev pub capdl_acts : List ℕ → Spec → List Act
capdl_acts name spec = Begin 2 name ∷ Write 2 (canonical spec) ∷ []

abbrev pub policy_acts : List ℕ → Policy → List Act
policy_acts name policy = Begin 3 name ∷ Write 3 (policy_text policy) ∷ []

abbrev pub cert_acts : List ℕ → List Edge → List Act
cert_acts name cert = Begin 4 name ∷ Write 4 (cert_text cert) ∷ []

abbrev pub map_acts : List ℕ → Build → List Act
map_acts name b = Begin 5 name ∷ Write 5 (build_map b) ∷ []

-- all that is done for a build
abbrev pub texts_script : TextNames → Build → List Act
texts_script names b =
    Begin 2 (string_bytes names.capdl) ∷ Write 2 (canonical b.spec)
    ∷ Begin 3 (string_bytes names.policy) ∷ Write 3 (policy_text b.policy)
    ∷ Begin 4 (string_bytes names.certificate) ∷ Write 4 (cert_text b.cert)
    ∷ Begin 5 (string_bytes names.map) ∷ Write 5 (build_map b)
    ∷ Write 0 (build_summary b) ∷ []

-- none of the channels of texts is begun
abbrev pub AreUnbegun : Sink → Type 0
AreUnbegun s = (k : ℕ) → 2 ≤ k → k ≤ 5 → s.begun k ≡ false
