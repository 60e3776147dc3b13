-- What is made of a source without faults, and of its images.
use Rattle.std.specs.Prelude.{◌≡◌, ℕ, List, [], ◌∷◌, None}
use Rattle.arch_compile.specs.Below.{Contents, Edge, Entry, Images, IsCertificateOf, IsPolicyOf, IsSorted, Policy, Source, Spec, Tables, flat_of, gather, labels_of, map_lines, settled_of, source_tables, spec_of, tables_from}
use Rattle.arch_compile.specs.LayoutFaults.{first_fault, found_beside, images_beside}
use Rattle.arch_compile.specs.declared.building.Build.{Build}
use Rattle.arch_policy.specs.Labels.{label_lines}
use Rattle.cap_model.specs.ObjectLabels.{label_of}
use Rattle.front_end.specs.Fronts.{IsMeaningOf}
use Rattle.system_spec.specs.declared.map_line.MapLine.{MapLine}

-- what objects are made from
abbrev pub system_tables : Source → Images → Tables
system_tables s images = tables_from s (flat_of s) (settled_of s) images

-- the name of each object with its label
abbrev pub labelled : List Entry → List ℕ → List (List ℕ × ℕ)
labelled entries labels = gather (λ n e. (e.name, label_of labels n) ∷ []) entries

-- The spec and the map are those of the tables. The policy has the source's labels, the label of each object, and just the
-- edges that are assigned; the certificate has what may be done by locks besides. Edges stand in order, each once.
pub record IsMade (source : Source) (images : Images) (spec : Spec) (policy : Policy) (cert : List Edge) (map : List MapLine)
    : Type 0 where
  pub spec_is : spec ≡ spec_of (system_tables source images)
  pub labels : policy.labels ≡ label_lines (flat_of source)
  pub objects : policy.objects
      ≡ labelled (spec_of (system_tables source images)).entries (labels_of (system_tables source images)).by_object
  pub edges : IsPolicyOf (source_tables source) policy.edges
  pub sorted : IsSorted policy.edges
  pub certified : IsCertificateOf (source_tables source) cert
  pub cert_sorted : IsSorted cert
  pub map_is : map ≡ map_lines (system_tables source images)

-- The root's source is loaded, with what it means and what it assigns. In it and in what the contents have under the names of its
-- section tables no fault stands, and all is made from both.
pub record IsBuildOf (root : List ℕ) (contents : Contents) (b : Build) : Type 0 where
  pub meant : IsMeaningOf root contents b.meaning
  pub clean : first_fault b.meaning.source (found_beside contents b.meaning.source) ≡ None
  pub made : IsMade b.meaning.source (images_beside contents b.meaning.source) b.spec b.policy b.cert b.map
