-- Whatever is read of the texts of a build is the build's own, and so what holds of the build holds of it.
use Rattle.std.proofs.Common.{rules}
use Rattle.camkes_tool.proofs.Common.{HoldsAsRead, IsCertText, IsReadAs, ReachesText, somes_one}
use Rattle.camkes_tool.proofs.BackCommon.{Authority, Build, Contents, Edge, IsBuildOf, IsCertReadBack, IsLabelling, IsPolicyReadBack, IsSound, IsSpecReadBack, IsTrioValid, Judged, Labels, List, Ok, Policy, Spec, Verdict, Yes, build_sound, cert_text}
use Rattle.camkes_tool.proofs.BackCommon.{object_labels, subst, sym, ℕ, ◌↔◌, ◌∙◌, ◌≡◌, ◌≢◌}
use Rattle.assigned_laws.specs.Texts.{IsAssignedText}
use Rattle.camkes_tool.proofs.CertBack.{cert_read}
use Rattle.camkes_tool.proofs.PolicyBack.{policy_read}
use Rattle.camkes_tool.proofs.SpecBack.{spec_back}
use Rattle.camkes_tool.proofs.TrioValid.{trio_valid}

module _ (b : Build) (sound : IsSound b) (spec_is : IsSpecReadBack b) (policy_is : IsPolicyReadBack b)
    (cert_is : IsCertReadBack b) (trio : IsTrioValid b) where
  own_labels : (spec : Spec) (policy : Policy) (given : Labels) → IsReadAs b spec policy given
      → IsLabelling b.spec b.policy (Ok given)
  own_labels spec policy given r =
      subst (λ z. IsLabelling z b.policy (Ok given)) (spec_is.only spec r.capdl)
      (subst (λ z. IsLabelling spec z (Ok given)) (policy_is.only policy r.policy_is) r.labelled)

  pub same_labels : (spec : Spec) (policy : Policy) (given : Labels) → IsReadAs b spec policy given
      → (object_labels b).by_object ≡ given.by_object
  same_labels spec policy given r = somes_one (object_labels b).by_object given.by_object (trio.labelled
      ∙ sym (own_labels spec policy given r))

  read_reaches : (spec : Spec) (policy : Policy) (given : Labels) → IsReadAs b spec policy given
      → (from : List ℕ) (a : Authority) (to : List ℕ) → from ≢ to
      → ReachesText spec policy given from a to ↔ IsAssignedText b.meaning.source from a to
  read_reaches spec policy given r from a to differ =
      let s = b.meaning.source in
      subst (λ z. ReachesText z policy given from a to ↔ IsAssignedText s from a to) (sym (spec_is.only spec r.capdl))
      (subst (λ z. ReachesText b.spec z given from a to ↔ IsAssignedText s from a to) (sym (policy_is.only policy r.policy_is))
      (subst (λ z. ReachesText b.spec b.policy (record { by_object = z }) from a to ↔ IsAssignedText s from a to)
      (same_labels spec policy given r) (sound.reaches from a to differ)))

  read_yes : (spec : Spec) (policy : Policy) (given : Labels) (cert : List Edge) (verdict : Verdict)
      → IsReadAs b spec policy given → IsCertText policy (cert_text b.cert) cert
      → Judged spec given.by_object policy.edges cert verdict → verdict ≡ Yes
  read_yes spec policy given cert verdict r text judged =
      let same = policy_is.only policy r.policy_is in
      let cert_same = cert_is.only cert (subst (λ z. IsCertText z (cert_text b.cert) cert) same text) in
      trio.yes given verdict (own_labels spec policy given r)
      (subst (λ z. Judged z given.by_object b.policy.edges b.cert verdict) (spec_is.only spec r.capdl)
      (subst (λ (z : Policy). Judged spec given.by_object z.edges b.cert verdict) same
      (subst (λ z. Judged spec given.by_object policy.edges z verdict) cert_same judged)))

  own_read : IsReadAs b b.spec b.policy (object_labels b)
  own_read = record { capdl = spec_is.text; policy_is = policy_is.text; labelled = trio.labelled }

  held : HoldsAsRead b
  held = record { read = own_read; reaches = read_reaches; yes = read_yes }

pub as_read : (root : List ℕ) (contents : Contents) (b : Build) → IsBuildOf root contents b → HoldsAsRead b
as_read root contents b is = search (rules, held, build_sound, spec_back, policy_read, cert_read, trio_valid)

-- objects have the labels of the build, by whatever is read
pub read_labels : (root : List ℕ) (contents : Contents) (b : Build) → IsBuildOf root contents b
    → (spec : Spec) (policy : Policy) (given : Labels)
    → IsReadAs b spec policy given → (object_labels b).by_object ≡ given.by_object
read_labels root contents b is = search (rules, same_labels, build_sound, spec_back, policy_read, cert_read, trio_valid)
