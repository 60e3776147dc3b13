-- What a source assigns, by the texts of labels.
use Rattle.assigned_laws.proofs.Common.{AreApart, AreNamesSound, AreSpelled, Authority, Direct, DirectReason, IsAssigned, IsAssignedText, IsDirectText, IsLockEdge, IsLockText, IsNamed, IsReasoned, List, None, OfTexts, Path, Source, Tables, WithLock}
use Rattle.assigned_laws.proofs.Common.{edge, first_type_fault, flat_of, hierarchy_of, joined, label_lines, label_numbers, refl, settled_of, spelled_dotted, tables_of, ℕ, ◌↔◌, ◌≡◌, ◌≢◌}
use Rattle.assigned_laws.proofs.AssignedReasons.{assigned_reasoned, direct_reasoned}
use Rattle.assigned_laws.proofs.LabelPaths.{paths_apart}
use Rattle.assigned_laws.proofs.LabelTexts.{texts_apart}
use Rattle.assigned_laws.proofs.Locks.{lock_held}
use Rattle.assigned_laws.proofs.Ranked.{called_line, line_called, lines_apart, numbers_apart}
use Rattle.assigned_laws.proofs.Undotted.{undotted}

module _ (s : Source) (sound : AreNamesSound s) (spelled : AreSpelled s) where
  abbrev t : Tables
  t = tables_of s (flat_of s) (settled_of s)

  pub labels_apart : AreApart t
  labels_apart = numbers_apart t refl (texts_apart s sound (undotted s spelled sound))

  -- what joins paths and numbers joins their texts and lines
  by_texts : (P : Path → Path → Type 0) (R : ℕ → ℕ → Type 0)
      → ((p q : Path) → P p q ↔ ((l m : ℕ) × IsNamed t l p × IsNamed t m q × R l m))
      → (from to : List ℕ) → ((p q : Path) × (joined p ≡ from) × (joined q ≡ to) × P p q)
      ↔ OfTexts (label_lines (flat_of s)) R from to
  by_texts P R join from to = (
    λ h.
        let r = (join h.0 h.1).0 h.4 in
        (r.0, r.1, called_line t refl r.0 from (h.0, r.2, h.2), called_line t refl r.1 to (h.1, r.3, h.3), r.4),
    λ r.
        let p = line_called t refl r.0 from r.2 in let q = line_called t refl r.1 to r.3 in
        (p.0, q.0, p.2, q.2, (join p.0 q.0).1 (r.0, r.1, p.1, q.1, r.4)),
  )

  pub assigned_texts : first_type_fault s ≡ None → (from : List ℕ) (a : Authority) (to : List ℕ)
      → IsAssignedText s from a to ↔ OfTexts (label_lines (flat_of s)) (λ l m. IsReasoned t (edge l a m)) from to
  assigned_texts types from a to =
      by_texts (λ p q. IsAssigned s p a q) (λ l m. IsReasoned t (edge l a m))
      (λ p q. assigned_reasoned s sound (spelled_dotted s spelled) types (label_numbers (flat_of s)) labels_apart
      (paths_apart s sound) p a q) from to

  pub direct_texts : first_type_fault s ≡ None → (from : List ℕ) (a : Authority) (to : List ℕ)
      → IsDirectText s from a to ↔ OfTexts (label_lines (flat_of s)) (λ l m. DirectReason t (edge l a m)) from to
  direct_texts types from a to =
      by_texts (λ p q. Direct (hierarchy_of s) p a q) (λ l m. DirectReason t (edge l a m))
      (λ p q. direct_reasoned s sound (spelled_dotted s spelled) types (label_numbers (flat_of s)) labels_apart p a q) from to

  pub lock_texts : (from : List ℕ) (a : Authority) (to : List ℕ)
      → IsLockText s from a to ↔ OfTexts (label_lines (flat_of s)) (λ l m. IsLockEdge t (edge l a m)) from to
  lock_texts from a to =
      by_texts (λ p q. WithLock (hierarchy_of s) p a q) (λ l m. IsLockEdge t (edge l a m))
      (λ p q. lock_held s sound (label_numbers (flat_of s)) labels_apart p a q) from to

  pub assigned_differ : first_type_fault s ≡ None → (from : List ℕ) (a : Authority) (to : List ℕ)
      → IsAssignedText s from a to → from ≢ to
  assigned_differ types from a to h e =
      let r = (assigned_texts types from a to).0 h in
      r.4.differ ((lines_apart (flat_of s) r.0 r.1 from to r.2 r.3).1 e)
