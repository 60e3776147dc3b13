-- The edges of a policy are the triples that its source assigns.
use Rattle.assigned_laws.proofs.Common.{AllPairs, AreNamesSound, AreSpelled, Authority, Before, Edge, IsAssignedText, IsIn, IsNamed, IsPolicyOf, List, None, Path, Source, Tables, [], arith, edge, first_type_fault, flat_of, from_get_map, from_map}
use Rattle.assigned_laws.proofs.Common.{get_or, get_or_from_slice_get, has_in, in_has, in_map, in_place, joined, label_lines, label_numbers, label_texts, map, refl, settled_of, slice_get-get_or, spelled_dotted, subst, sym, tables_of, ℕ, ◌≡◌}
use Rattle.std.specs.Prelude.{◌↔◌}
use Rattle.assigned_laws.proofs.Ranked.{called_line, line_place, lines_apart, lines_fall, lines_rise}
use Rattle.assigned_laws.proofs.ReasonLabels.{reason_paths}
use Rattle.assigned_laws.proofs.TextReasons.{assigned_texts}
use Rattle.assigned_laws.specs.Triples.{AreAll, Precedes, Triple, name_at, triple}
use Rattle.cap_model.specs.Tables.{IsSorted}

module _ (s : Source) (names : AreNamesSound s) (spelled : AreSpelled s) (types : first_type_fault s ≡ None)
    (edges : List Edge) (policy : IsPolicyOf (tables_of s (flat_of s) (settled_of s)) edges) (sorted : IsSorted edges) where
  abbrev t : Tables
  t = tables_of s (flat_of s) (settled_of s)

  abbrev line_of : ℕ → List ℕ → Type 0
  line_of l text = IsIn {X = ℕ × List ℕ} (l, text) (label_lines (flat_of s))

  -- ---- labels and their texts

  text_of : (l : ℕ) (from : List ℕ) → line_of l from → name_at (flat_of s) l ≡ from
  text_of l from i = get_or_from_slice_get (label_texts (flat_of s)) l from [] (line_place (flat_of s) l from i)

  path_line : (l : ℕ) → (p : Path) × IsNamed t l p → line_of l (name_at (flat_of s) l)
  path_line l w =
      let i = called_line t refl l (joined w.0) (w.0, w.1, refl) in
      subst (line_of l) (sym (text_of l (joined w.0) i)) i

  pub lines_of : (e : Edge) → IsIn e edges → line_of e.from (name_at (flat_of s) e.from) × line_of e.to (name_at (flat_of s) e.to)
  lines_of e i =
      let w = reason_paths s names (spelled_dotted s spelled) (label_numbers (flat_of s)) e
      ((policy e).0 (in_has e edges i)).reason in
      (path_line e.from w.0, path_line e.to w.1)

  -- ---- triples and edges

  each_assigned : (e : Edge) → IsIn e edges → IsAssignedText s (name_at (flat_of s) e.from) e.authority (name_at (flat_of s) e.to)
  each_assigned e i =
      let w = lines_of e i in
      (assigned_texts s names spelled types (name_at (flat_of s) e.from) e.authority (name_at (flat_of s) e.to)).1
      (e.from, e.to, w.0, w.1, (policy e).0 (in_has e edges i))

  each : (from : List ℕ) (a : Authority) (to : List ℕ) → IsIn {X = Triple} (from, a, to) (map (triple (flat_of s)) edges)
      ↔ IsAssignedText s from a to
  each from a to = (
    λ i.
        let g = from_map (triple (flat_of s)) (from, a, to) edges i in
        subst (λ (x : Triple). IsAssignedText s x.0 x.1 x.2) g.2 (each_assigned g.0 g.1),
    λ h.
        let r = (assigned_texts s names spelled types from a to).0 h in
        let e : Edge = edge r.0 a r.1 in
        let f = text_of r.0 from r.2 in let g = text_of r.1 to r.3 in
        let same : triple (flat_of s) e ≡ (from, a, to) = rw (f, g) refl in
        subst (λ x. IsIn x (map (triple (flat_of s)) edges)) same
        (in_map (triple (flat_of s)) e edges (has_in e edges ((policy e).1 r.4))),
  )

  -- edges in order are triples in order
  precedes : (d e : Edge) → IsIn d edges → IsIn e edges → Before d e → Precedes (triple (flat_of s) d) (triple (flat_of s) e)
  precedes d e i j before =
      let flat = flat_of s in let v = lines_of d i in
      let w = lines_of e j in
      let from = lines_apart flat d.from e.from (name_at flat d.from) (name_at flat e.from) v.0 w.0 in
      record {
        by_from = lines_fall flat d.from e.from (name_at flat d.from) (name_at flat e.from) v.0 w.0 before.by_from;
        by_authority = λ same. before.by_authority (from.1 same);
        by_to = λ same authority. lines_rise flat d.to e.to (name_at flat d.to) (name_at flat e.to) v.1 w.1
            (before.by_to (from.1 same) authority);
      }

  rising : AllPairs Precedes (map (triple (flat_of s)) edges)
  rising i j d l m =
      let tell = triple (flat_of s) in let all = map tell edges in
      let x = from_get_map tell edges i (get_or all i d) (slice_get-get_or all i d (omega (arith, l, m))) in
      let y = from_get_map tell edges j (get_or all j d) (slice_get-get_or all j d m) in
      subst (λ z. Precedes z (get_or all j d)) x.2
      (subst (Precedes (tell x.0)) y.2 (precedes x.0 y.0 (in_place x.0 edges i x.1) (in_place y.0 edges j y.1)
      (sorted.by_place i j x.0 y.0 l x.1 y.1)))

  pub all_assigned : AreAll (IsAssignedText s) (map (triple (flat_of s)) edges)
  all_assigned = record { each = each; rising = rising }
