-- The labels that edges lead between, and those of objects, are lines of the policy; and labels are few.
use Rattle.std.proofs.Common.{rules}
use Rattle.camkes_tool.proofs.BackCommon.{AreNamesSound, Edge, Flat, IsIn, IsLockEdge, IsNamed, IsSmall, IsThere, List, Owner, Path, Source, Tables, ap, arith, called_line, flat_of, inl, inr, is_some, joined, label_lines, label_name, label_numbers}
use Rattle.camkes_tool.proofs.BackCommon.{label_texts, length, line_name, line_place, number_of, path_there, refl, slice_get_within, source_tables, true, ℕ, ◌<◌, ◌≡◌, ◌≤◌, ◌⊎◌}
use Rattle.adl_hierarchy.proofs.Spelled.{spelled_dotted}
use Rattle.adl_hierarchy.specs.Spelled.{AreSpelled}
use Rattle.arch_policy.proofs.Labelled.{texts_are_few}
use Rattle.arch_policy.specs.Reasons.{IsReasoned}
use Rattle.assigned_laws.proofs.Naming.{has_there}
use Rattle.assigned_laws.proofs.ReasonLabels.{lock_paths, reason_paths}

-- ---- who has a label

-- the number is that of something that has a label
pub record IsLabel (t : Tables) (label : ℕ) : Type 0 where
  pub owner : Owner
  pub there : IsThere t.flat owner
  pub is : label ≡ number_of t.numbers owner

-- ---- labels of edges

named_label : (t : Tables) (l : ℕ) (p : Path) → IsNamed t l p → IsLabel t l
named_label t l p w = record { owner = w.labelled; there = has_there t.flat w.labelled p w.there; is = w.is }

both_labels : (t : Tables) (l m : ℕ) → ((p : Path) × IsNamed t l p) × ((p : Path) × IsNamed t m p) → IsLabel t l × IsLabel t m
both_labels t l m w = (named_label t l w.0.0 w.0.1, named_label t m w.1.0 w.1.1)

pub edge_labels : (s : Source) → AreNamesSound s → AreSpelled s → (e : Edge) → IsReasoned (source_tables s) e
    ⊎ IsLockEdge (source_tables s) e
    → IsLabel (source_tables s) e.from × IsLabel (source_tables s) e.to
edge_labels s sound spelled e (inl r) = both_labels (source_tables s) e.from e.to (reason_paths s sound (spelled_dotted s spelled)
    (label_numbers (flat_of s)) e r.reason)
edge_labels s sound spelled e (inr k) = both_labels (source_tables s) e.from e.to (lock_paths s sound (spelled_dotted s spelled)
    (label_numbers (flat_of s)) e k)

-- ---- lines of labels

-- a label has a line
line_at : (t : Tables) → t.numbers ≡ label_numbers t.flat → (l : ℕ) → IsLabel t l
    → (text : List ℕ) × IsIn {X = ℕ × List ℕ} (l, text) (label_lines t.flat)
line_at t is l w =
    let p = path_there t.flat w.owner w.there in
    (joined p.0, called_line t is l (joined p.0) (p.0, record { labelled = w.owner; there = p.1; is = w.is }, refl))

-- so that it is named
pub named_at : (t : Tables) → t.numbers ≡ label_numbers t.flat → (l : ℕ) → IsLabel t l
    → is_some (label_name (label_lines t.flat) l) ≡ true
named_at t is l w = let x = line_at t is l w in ap is_some (line_name t.flat l x.0 x.1)

-- ---- how many there are

pub few_labels : (flat : Flat) → IsSmall flat → length (label_texts flat) ≤ 6144
few_labels flat small = search (rules, texts_are_few)

pub label_small : (t : Tables) → t.numbers ≡ label_numbers t.flat → IsSmall t.flat → (l : ℕ) → IsLabel t l → l < 8192
label_small t is small l w =
    let x = line_at t is l w in
    let a = slice_get_within (label_texts t.flat) l x.0 (line_place t.flat l x.0 x.1) in
    let b = few_labels t.flat small in
    omega (arith, a, b)
