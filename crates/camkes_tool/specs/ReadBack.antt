-- What is read back of the texts that are written of a build: each passes no limit of its reader, and is a text of what was
-- written and of nothing else.
use Rattle.std.specs.Prelude.{◌≡◌, List}
use Rattle.camkes_tool.specs.Below.{Build, Edge, IsCertText, IsPolicyText, Policy, Spec, Text, canonical, cert_text, policy_text}
use Rattle.cap_model.specs.Policies.{IsPolicy}
use Rattle.capdl_write.specs.Writable.{IsWritable}
use Rattle.policy_text.specs.Writable.{IsWritable as IsWritablePolicy, IsWritableCert}

-- its spec can be written, and what is written of it is a text of it and of no other
pub record IsSpecReadBack (b : Build) : Type 0 where
  pub writable : IsWritable b.spec
  pub text : Text (canonical b.spec) b.spec
  pub only : (other : Spec) → Text (canonical b.spec) other → other ≡ b.spec

-- its policy keeps what every policy keeps and passes no limit, and what is written of it is a text of it and of no other
pub record IsPolicyReadBack (b : Build) : Type 0 where
  pub kept : IsPolicy b.policy
  pub writable : IsWritablePolicy b.policy
  pub text : IsPolicyText (policy_text b.policy) b.policy
  pub only : (other : Policy) → IsPolicyText (policy_text b.policy) other → other ≡ b.policy

-- its certificate passes no limit, and what is written of it is, under the policy, a text of it and of no other
pub record IsCertReadBack (b : Build) : Type 0 where
  pub writable : IsWritableCert b.policy b.cert
  pub text : IsCertText b.policy (cert_text b.cert) b.cert
  pub only : (other : List Edge) → IsCertText b.policy (cert_text b.cert) other → other ≡ b.cert

-- the three texts that `check` reads
pub record AreReadBack (b : Build) : Type 0 where
  pub spec : IsSpecReadBack b
  pub policy : IsPolicyReadBack b
  pub cert : IsCertReadBack b
