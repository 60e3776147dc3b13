-- What is of an owner has in the policy the label with the owner's path.
use Rattle.arch_compile.proofs.Common.{Build, Entry, HasLabel, Images, IsIn, IsMade, List, Some, Source, Spec, ap, called_line, flat_of, from_get_map, from_ones, label_of, labelled, labels_of, map, number_of, object_labels, refl, slice_get}
use Rattle.arch_compile.proofs.Common.{source_tables, spec_of, subst, sym, system_tables, ℕ, ◌∙◌, ◌≡◌}
use Rattle.adl_meaning.specs.Paths.{Path}
use Rattle.arch_policy.specs.declared.owner.Owner.{Owner}
use Rattle.assigned_laws.specs.Named.{HasPath}
use Rattle.cam_base.specs.Paths.{joined}
use Rattle.cap_model.specs.Lookup.{entry_name, name_at}
use Rattle.spec_laws.specs.Labelled.{IsOf}

module _ (s : Source) (images : Images) (b : Build) (made : IsMade s images b.spec b.policy b.cert b.map) where
  -- a label of an object stands beside its name
  given : (at label : ℕ) → slice_get (object_labels b).by_object at ≡ Some label
      → slice_get b.policy.objects at ≡ Some (name_at b.spec at, label)
  given at label e =
      let t = system_tables s images in let laid = (labels_of t).by_object in
      let o = from_get_map (λ (o : List ℕ × ℕ). o.1) b.policy.objects at label e in
      let F : ℕ → Entry → List ℕ × ℕ = λ n e. (e.name, label_of laid n) in
      let w = from_ones F (spec_of t).entries at o.0 (ap (λ z. slice_get z at) (sym made.objects) ∙ o.1) in
      let name : w.0.name ≡ name_at b.spec at = sym (ap entry_name w.1) ∙ ap (λ (z : Spec). name_at z at) (sym made.spec_is) in
      let mine : label_of laid at ≡ label = ap (λ (z : List ℕ × ℕ). z.1) w.2 ∙ o.2 in
      let pair : List ℕ → ℕ → List ℕ × ℕ = λ n l. (n, l) in
      let is : o.0 ≡ pair (name_at b.spec at) label = sym w.2 ∙ ap (λ z. pair z (label_of laid at)) name
      ∙ ap (λ z. pair (name_at b.spec at) z) mine in
      o.1 ∙ ap (λ z. Some z) is

  pub has_label : (at : ℕ) (owner : Owner) (path : Path) → HasPath (flat_of s) owner path
      → IsOf (system_tables s images) (object_labels b) at owner → HasLabel b at (joined path)
  has_label at owner path has is_of =
      let t = source_tables s in let label = number_of t.numbers owner in
      let line = called_line t refl label (joined path) (path, record { labelled = owner; there = has; is = refl }, refl) in
      record {
        label = label;
        given = given at label is_of;
        line = subst (λ z. IsIn {X = ℕ × List ℕ} (label, joined path) z)
            (sym made.labels) line;
      }
