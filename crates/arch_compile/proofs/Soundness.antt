-- Builds are sound: each part by the law of its own layer.
use Rattle.arch_compile.proofs.Common.{AreApart, BootsText, Build, Contents, Edge, Has, HasText, Images, IsBuildOf, IsIn, IsKept, IsLockEdge, IsMade, IsSound, List, ReachesText, Source, Spec, Tables, ap, entry, flat_of, images_beside, inl, inr}
use Rattle.arch_compile.proofs.Common.{label_lines, labelled, labels_of, length, length-map, lines_apart, map, object_labels, part_label, parts, source_tables, spec_of, subst, sym, system_tables, ℕ, ◌↔◌, ◌∙◌, ◌≡◌, ◌≢◌, ◌⊎◌}
use Rattle.arch_compile.proofs.Facts.{AreFacts, build_facts}
use Rattle.arch_compile.proofs.MadeTables.{made_connected, made_kept}
use Rattle.arch_policy.specs.Reasons.{DirectReason, IsReasoned}
use Rattle.assigned_laws.proofs.LabelsStand.{label_lines_stand}
use Rattle.assigned_laws.proofs.PolicyTriples.{all_assigned}
use Rattle.assigned_laws.proofs.TextReasons.{assigned_texts, direct_texts, labels_apart, lock_texts}
use Rattle.assigned_laws.specs.Texts.{IsAssignedText, IsDirectText, IsLabelText, IsLockText, OfTexts}
use Rattle.assigned_laws.specs.Triples.{AreAll, Triple, triple}
use Rattle.cap_model.specs.Edges.{edge}
use Rattle.authorities.specs.declared.authority.Authority.{Authority}
use Rattle.cap_machine.specs.Runs.{Reaches}
use Rattle.cap_model.specs.Auth.{Auth}
use Rattle.cap_model.specs.State.{boot}
use Rattle.cert_check.specs.Valid.{Valid}
use Rattle.reach_laws.proofs.LeastCertificates.{least}
use Rattle.reach_laws.proofs.Reached.{exactly_reached}
use Rattle.reach_laws.proofs.ValidCertificates.{valid}
use Rattle.reach_laws.specs.LaidOut.{IsLaidOut}
use Rattle.spec_laws.proofs.Connections.{laid_out}
use Rattle.arch_compile.proofs.ObjectLabels.{labels_beside}

-- what is the same as a third
both : {A B C : Type 0} → (A ↔ C) → (B ↔ C) → A ↔ B
both f g = (λ a. g.1 (f.0 a), λ b. f.1 (g.0 b))

module _ {contents : Contents} (s : Source) (images : Images) (facts : AreFacts contents s images) where
  abbrev t : Tables
  t = system_tables s images

  abbrev laid_labels : List ℕ
  laid_labels = (labels_of (system_tables s images)).by_object

  apart : AreApart (source_tables s)
  apart = labels_apart s facts.faultless.names facts.spelled

  laid : IsLaidOut (source_tables s) (spec_of t) laid_labels
  laid = laid_out t (made_connected s images facts) apart (made_kept s images facts)

  reached : (l : ℕ) (a : Authority) (m : ℕ) → l ≢ m → Reaches (spec_of t) laid_labels l a m
      ↔ IsReasoned (source_tables s) (edge l a m)
  reached = exactly_reached (source_tables s) (spec_of t) laid_labels (made_connected s images facts).flat apart laid

  -- ---- of a build

  module _ (b : Build) (made : IsMade s images b.spec b.policy b.cert b.map) where
    -- its policy gives its objects just these labels
    pub labels_are : (object_labels b).by_object ≡ laid_labels
    labels_are =
        ap (λ (z : List (List ℕ × ℕ)). map (λ o. o.1) z) made.objects
        ∙ labels_beside (spec_of t).entries laid_labels (length-map (parts t) (entry t)
        ∙ sym (length-map (parts t) (part_label t)))

    of_build : (P : Spec → List ℕ → Type 0) → P (spec_of t) laid_labels → P b.spec (object_labels b).by_object
    of_build P p = subst (λ z. P z (object_labels b).by_object) (sym made.spec_is) (subst (P (spec_of t)) (sym labels_are) p)

    -- what is the same between numbers of labels is so between texts
    by_lines : (R S : ℕ → ℕ → Type 0) (from to : List ℕ) → ((l m : ℕ) → IsIn (l, from) (label_lines (flat_of s))
        → IsIn (m, to) (label_lines (flat_of s)) → R l m ↔ S l m)
        → OfTexts b.policy.labels R from to ↔ OfTexts (label_lines (flat_of s)) S from to
    by_lines R S from to same = (
      λ r.
          let i = subst (λ z. IsIn (r.0, from) z) made.labels r.2 in
          let j = subst (λ z. IsIn (r.1, to) z) made.labels r.3 in
          (r.0, r.1, i, j, (same r.0 r.1 i j).0 r.4),
      λ r. (
        r.0,
        r.1,
        subst (λ z. IsIn (r.0, from) z) (sym made.labels) r.2,
        subst (λ z. IsIn (r.1, to) z) (sym made.labels) r.3,
        (same r.0 r.1 r.2 r.3).1 r.4,
      ),
    )

    -- the same where texts differ
    apart_lines : (R S : ℕ → ℕ → Type 0) → ((l m : ℕ) → l ≢ m → R l m ↔ S l m) → (from to : List ℕ) → from ≢ to
        → OfTexts b.policy.labels R from to ↔ OfTexts (label_lines (flat_of s)) S from to
    apart_lines R S same from to differ =
        by_lines R S from to (λ l m i j. same l m (λ e. differ ((lines_apart (flat_of s) l m from to i j).0 e)))

    -- ---- the policy and the certificate

    policy_assigned : (from : List ℕ) (a : Authority) (to : List ℕ) → HasText b b.policy.edges from a to
        ↔ IsAssignedText s from a to
    policy_assigned from a to =
        both (by_lines (λ l m. Has b.policy.edges l a m) (λ l m. IsReasoned (source_tables s) (edge l a m)) from to
        (λ l m i j. made.edges (edge l a m)))
        (assigned_texts s facts.faultless.names facts.spelled facts.faultless.types from a to)

    abbrev Certified : ℕ → Authority → ℕ → Type 0
    Certified l a m = IsReasoned (source_tables s) (edge l a m) ⊎ IsLockEdge (source_tables s) (edge l a m)

    certified_texts : (from : List ℕ) (a : Authority) (to : List ℕ)
        → (IsAssignedText s from a to ⊎ IsLockText s from a to)
        ↔ OfTexts (label_lines (flat_of s)) (λ l m. Certified l a m) from to
    certified_texts from a to =
        let f = assigned_texts s facts.faultless.names facts.spelled facts.faultless.types from a to in
        let g = lock_texts s facts.faultless.names facts.spelled from a to in (
          λ h. elim h [
            | inl x ↦ let r = f.0 x in (r.0, r.1, r.2, r.3, inl r.4)
            | inr x ↦ let r = g.0 x in (r.0, r.1, r.2, r.3, inr r.4)
          ],
          λ r. elim r.4 [ inl x ↦ inl (f.1 (r.0, r.1, r.2, r.3, x)) | inr x ↦ inr (g.1 (r.0, r.1, r.2, r.3, x)) ],
        )

    cert_assigned : (from : List ℕ) (a : Authority) (to : List ℕ) → HasText b b.cert from a to
        ↔ (IsAssignedText s from a to ⊎ IsLockText s from a to)
    cert_assigned from a to =
        both (by_lines (λ l m. Has b.cert l a m) (λ l m. Certified l a m) from to (λ l m i j. made.certified (edge l a m)))
        (certified_texts from a to)

    policy_counted : (all : List Triple) × AreAll (IsAssignedText s) all × (length all ≡ length b.policy.edges)
    policy_counted = (
      map (triple (flat_of s)) b.policy.edges,
      all_assigned s facts.faultless.names facts.spelled facts.faultless.types b.policy.edges made.edges made.sorted,
      length-map b.policy.edges (triple (flat_of s)),
    )

    own_valid : Valid b.spec (object_labels b).by_object b.policy.edges b.cert
    own_valid =
        of_build (λ spec labels. Valid spec labels b.policy.edges b.cert)
        (valid (source_tables s) (spec_of t) laid_labels b.policy.edges b.cert (made_connected s images facts).flat apart laid
        made.edges made.certified)

    own_least : (policy other : List Edge) → Valid b.spec (object_labels b).by_object policy other
        → (l : ℕ) (a : Authority) (m : ℕ) → Has b.cert l a m → Has other l a m
    own_least policy other =
        of_build (λ spec labels. Valid spec labels policy other → (l : ℕ) (a : Authority) (m : ℕ) → Has b.cert l a m
        → Has other l a m)
        (least (source_tables s) (spec_of t) laid_labels b.cert (made_connected s images facts).flat apart laid made.certified
        policy other)

    -- ---- threads

    own_direct : (from : List ℕ) (a : Authority) (to : List ℕ) → from ≢ to → BootsText b from a to ↔ IsDirectText s from a to
    own_direct from a to differ =
        both (apart_lines (λ l m. Auth b.spec (object_labels b).by_object (boot b.spec) l a m)
        (λ l m. DirectReason (source_tables s) (edge l a m))
        (of_build (λ spec labels. (l m : ℕ) → l ≢ m → Auth spec labels (boot spec) l a m
        ↔ DirectReason (source_tables s) (edge l a m)) (λ l m. laid.direct l a m)) from to differ)
        (direct_texts s facts.faultless.names facts.spelled facts.faultless.types from a to)

    pub own_reached : (a : Authority) (l m : ℕ) → l ≢ m → Reaches b.spec (object_labels b).by_object l a m
        ↔ IsReasoned (source_tables s) (edge l a m)
    own_reached a = of_build (λ spec labels. (l m : ℕ) → l ≢ m → Reaches spec labels l a m
        ↔ IsReasoned (source_tables s) (edge l a m)) (λ l m. reached l a m)

    own_reaches : (from : List ℕ) (a : Authority) (to : List ℕ) → from ≢ to → ReachesText b from a to ↔ IsAssignedText s from a to
    own_reaches from a to differ =
        both (apart_lines (λ l m. Reaches b.spec (object_labels b).by_object l a m)
        (λ l m. IsReasoned (source_tables s) (edge l a m)) (own_reached a) from to differ)
        (assigned_texts s facts.faultless.names facts.spelled facts.faultless.types from a to)

    own_objects : b.policy.objects ≡ labelled b.spec.entries (object_labels b).by_object
    own_objects = of_build (λ spec labels. b.policy.objects ≡ labelled spec.entries labels) made.objects

    own_lines : (text : List ℕ) → ((l : ℕ) × IsIn (l, text) b.policy.labels) ↔ IsLabelText s text
    own_lines text = subst (λ z. ((l : ℕ) × IsIn (l, text) z) ↔ IsLabelText s text) (sym made.labels)
        (label_lines_stand s facts.faultless.names text)

    own_kept : IsKept b.spec
    own_kept = subst IsKept (sym made.spec_is) (made_kept s images facts)

made_sound : {contents : Contents} (b : Build) (images : Images) (facts : AreFacts contents b.meaning.source images)
    → IsMade b.meaning.source images b.spec b.policy b.cert b.map → IsSound b
made_sound b images facts made =
    let s = b.meaning.source in
    record {
      objects = own_objects s images facts b made;
      kept = own_kept s images facts b made;
      labels = own_lines s images facts b made;
      assigned = policy_assigned s images facts b made;
      counted = policy_counted s images facts b made;
      certified = cert_assigned s images facts b made;
      valid = own_valid s images facts b made;
      least = own_least s images facts b made;
      direct = own_direct s images facts b made;
      reaches = own_reaches s images facts b made;
    }

pub build_sound : (root : List ℕ) (contents : Contents) (b : Build) → IsBuildOf root contents b → IsSound b
build_sound root contents b is =
    made_sound b (images_beside contents b.meaning.source) (build_facts root contents b is) is.made
