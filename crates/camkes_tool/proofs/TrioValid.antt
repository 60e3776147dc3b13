-- The spec, policy and certificate of a build keep the rules of the checker, by the labels that the policy gives to objects.
use Rattle.camkes_tool.proofs.Common.{Tables, Valid, somes_one}
use Rattle.camkes_tool.proofs.BackCommon.{AreFacts, Build, Contents, Edge, Entry, Images, IsBuildOf, IsLabelling, IsMade, IsSound, IsTrioValid, Judged, Labels, List, No, Ok, Some, Source, Spec, Verdict, Yes, ap, build_facts, build_sound, entry}
use Rattle.camkes_tool.proofs.BackCommon.{images_beside, labelled, labels_are, labels_of, made_fit, map, names_tell, object_label, part_label, parts, refl, spec_of, subst, sym, system_tables, ℕ, ◌∙◌, ◌≡◌}
use Rattle.reach_laws.proofs.ValidCertificates.{valid}
use Rattle.spec_laws.specs.Fit.{IsFit}
use Rattle.camkes_tool.proofs.LabelsBack.{labels_back}

judged_yes : {spec : Spec} {labels : List ℕ} {policy cert : List Edge} (verdict : Verdict) → Valid spec labels policy cert
    → Judged spec labels policy cert verdict → verdict ≡ Yes
judged_yes Yes v j = refl
judged_yes (No number have lack) v j = absurd (j.3 v)

module _ {contents : Contents} (b : Build) (facts : AreFacts contents b.meaning.source (images_beside contents b.meaning.source))
    (made : IsMade b.meaning.source (images_beside contents b.meaning.source) b.spec b.policy b.cert b.map)
    (sound : IsSound b) where
  abbrev s : Source
  s = b.meaning.source

  abbrev images : Images
  images = images_beside contents b.meaning.source

  abbrev t : Tables
  t = system_tables b.meaning.source (images_beside contents b.meaning.source)

  abbrev labels : List ℕ
  labels = (labels_of (system_tables b.meaning.source (images_beside contents b.meaning.source))).by_object

  fit : IsFit t
  fit = made_fit s images facts

  gives_made : map (λ n. Some n) labels ≡ map (λ (e : Entry). object_label (labelled (spec_of t).entries labels) e.name)
      (spec_of t).entries
  gives_made = labels_back (entry t) (part_label t) (parts t) (λ m n p q e f same. names_tell t fit.connections fit.objects m n
      p q e f same)

  gives : IsLabelling b.spec b.policy (Ok (record { by_object = labels }))
  gives =
      gives_made
      ∙ ap (λ z. map (λ (e : Entry). object_label z e.name) (spec_of t).entries) (sym made.objects)
      ∙ ap (λ (z : Spec). map (λ (e : Entry). object_label b.policy.objects e.name) z.entries) (sym made.spec_is)

  by_labels : (given : Labels) → IsLabelling b.spec b.policy (Ok given) → Valid b.spec given.by_object b.policy.edges b.cert
  by_labels given l =
      subst (λ z. Valid b.spec z b.policy.edges b.cert) (labels_are s images facts b made ∙ somes_one labels given.by_object
      (gives ∙ sym l)) sound.valid

  pub made_trio : IsTrioValid b
  made_trio = record {
    labelled = subst (λ z. IsLabelling b.spec b.policy (Ok (record { by_object = z })))
        (sym (labels_are s images facts b made)) gives;
    valid = by_labels;
    yes = λ given verdict l j. judged_yes verdict (by_labels given l) j;
  }

pub trio_valid : (root : List ℕ) (contents : Contents) (b : Build) → IsBuildOf root contents b → IsTrioValid b
trio_valid root contents b is = made_trio b (build_facts root contents b is) is.made (build_sound root contents b is)
