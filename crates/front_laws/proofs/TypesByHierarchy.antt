-- Faults of types by the relations of a hierarchy.
use Rattle.front_laws.proofs.Common.{AreNamesSound, Component, End, Fault, HasWire, Hierarchy, Id, Interface, IsIn, IsTypeFault, List, Means, Member, None, Option, Part, Reached, Some, Source, Wire, [], agree, and_parts, another_count}
use Rattle.front_laws.proofs.Common.{another_kind, another_type, ap, arith, at_end, at_word, body, body_faults, cases_lt, end_faults, faults_below, first_leaf, flat_map, from_flat_map, has_one_type, hierarchy_of, in_append, in_flat_map, in_left}
use Rattle.front_laws.proofs.Common.{in_right, inl, inr, is_kind_of, is_size, length, may_have, no_size, not, not-true, option_and_then, option_and_then_some, option_map_or, part_at, port_in, reached, refl, same_type, size_faults, subst, suc, sym}
use Rattle.front_laws.proofs.Common.{rules, top_number, true, type_faults, where_true, wire_faults, wires_of, zero, ℕ, ◌&&◌, ◌+◌, ◌<◌, ◌∙◌, ◌∷◌, ◌≡◌, ◌≤◌}
use Rattle.adl_ast.specs.declared.component.Member.TheVariants as members
use Rattle.cam_base.specs.declared.code.Code.TheVariants as code
use Rattle.adl_hierarchy.proofs.Climbing.{climbs_reached, found_climbs}
use Rattle.adl_hierarchy.proofs.PartsAt.{at_part}
use Rattle.adl_program.specs.LeafInterfaces.{LeafInterface, leaf_at, leaf_by, leaf_in, leaf_of}
use Rattle.conn_rules.specs.Ends.{end_rule}
use Rattle.front_laws.proofs.Tested.{from_true, in_true}

-- ---- what a dotted name means

meant : (h : Hierarchy) (k : ℕ) (words : List Id) (l : LeafInterface) → leaf_of h k words ≡ Some l → Means h k words l
meant h k words l e =
    option_and_then_some (leaf_by h k) (port_in words) l e (λ port named e1.
    option_and_then_some (λ (r : Reached). leaf_at (body h r.part.kind) r.interface) (reached h k port) l e1 (λ r at e2.
    option_and_then_some (leaf_in r.interface) (body h r.part.kind).component l e2 (λ c own declared.
    let f = found_climbs h (length h.bodies) k port r at in
    let stands = subst (λ p. part_at h k p ≡ Some r.part) f.path f.stands.0 in
    record {
      instance = port.0;
      outer = port.1;
      named = named;
      rest = f.rest;
      leaf = (r.part.kind, at_part h k (port.0 ∷ f.rest) r.part stands, f.stands.1);
      interface = r.interface;
      climbs = f.climbs;
      part = r.part;
      stands = stands;
      component = c;
      of_leaf = own;
      declared = declared;
    })))

means : (s : Source) → AreNamesSound s → (k : ℕ) (words : List Id) (l : LeafInterface) → k ≤ top_number (hierarchy_of s)
    → Means (hierarchy_of s) k words l → leaf_of (hierarchy_of s) k words ≡ Some l
means s sound k words l low m =
    let h = hierarchy_of s in
    let r = climbs_reached s sound k m.instance m.rest m.interface m.outer low m.leaf m.climbs in
    let f = found_climbs h (length h.bodies) k (m.instance, m.outer) r.0 r.1 in
    let stands : part_at h k (m.instance ∷ m.rest) ≡ Some r.0.part = ap (part_at h k) (sym r.2) ∙ f.stands.0 in
    let there = m.stands in
    let same : r.0.part ≡ m.part = cc in
    let by_reach : option_and_then (λ (r : Reached). leaf_at (body h r.part.kind) r.interface) (reached h k (m.instance, m.outer))
    ≡ leaf_at (body h r.0.part.kind) r.0.interface =
    ap (option_and_then (λ (r : Reached). leaf_at (body h r.part.kind) r.interface)) r.1 in
    ap (option_and_then (leaf_by h k)) m.named ∙ by_reach ∙ ap (λ (x : Part). leaf_at (body h x.kind) r.0.interface) same
    ∙ ap (leaf_at (body h m.part.kind)) r.3 ∙ ap (option_and_then (leaf_in m.interface)) m.of_leaf ∙ m.declared

-- ---- one end

from_kind : (h : Hierarchy) (k : ℕ) (w : Wire) (e : End) (f : Fault) → HasWire h k w → IsIn e w.1.ends
    → (o : Option LeafInterface) → leaf_of h k e.words ≡ o
    → not (option_map_or (is_kind_of (end_rule w.0 e.role)) o true) ≡ true → f ≡ at_end code.Kind e → IsTypeFault h f
from_kind h k w e f has i None at t same = cc
from_kind h k w e f has i (Some l) at t same = another_kind k w e l has i (meant h k e.words l at)
    (not-true (is_kind_of (end_rule w.0 e.role) l) t) same

from_type : (h : Hierarchy) (k : ℕ) (w : Wire) (e : End) (f : Fault) → HasWire h k w → IsIn e w.1.ends → (ends : List End)
    → w.1.ends ≡ ends → (o : Option LeafInterface) → leaf_of h k e.words ≡ o
    → (has_one_type w.0 && not (agree (first_leaf h k ends) o)) ≡ true → f ≡ at_end code.TypeMismatch e → IsTypeFault h f
from_type h k w e f has i [] s o at t same = let P : List End → Type 0 = λ z. IsIn e z in absurd (subst P s i)
from_type h k w e f has i (first ∷ more) s o at t same = by_first (leaf_of h k first.words) refl o at t
  where
    by_first : (a : Option LeafInterface) → leaf_of h k first.words ≡ a → (o : Option LeafInterface) → leaf_of h k e.words ≡ o
        → (has_one_type w.0 && not (agree a o)) ≡ true → IsTypeFault h f
    by_first None u o at t = let parts = and_parts (has_one_type w.0) (not (agree None o)) t in
        let n = not-true (agree None o) parts.1 in cc
    by_first (Some m) u None at t = let parts = and_parts (has_one_type w.0) (not (agree (Some m) None)) t in
        let n = not-true (agree (Some m) None) parts.1 in cc
    by_first (Some m) u (Some l) at t =
        let parts = and_parts (has_one_type w.0) (not (same_type m l)) t in
        another_type k w first e more m l has s i (meant h k first.words m u) (meant h k e.words l at) parts.0
        (not-true (same_type m l) parts.1) same

from_end : (h : Hierarchy) (k : ℕ) (w : Wire) (e : End) (f : Fault) → HasWire h k w → IsIn e w.1.ends
    → IsIn f (end_faults h k w.0 (first_leaf h k w.1.ends) e) → IsTypeFault h f
from_end h k w e f has i j =
    let kind = not (option_map_or (is_kind_of (end_rule w.0 e.role)) (leaf_of h k e.words) true) in
    let type = has_one_type w.0 && not (agree (first_leaf h k w.1.ends) (leaf_of h k e.words)) in
    elim (in_append f (where_true kind (at_end code.Kind e)) (where_true type (at_end code.TypeMismatch e)) j) [
      | inl x ↦ let t = from_true kind (at_end code.Kind e) f x in
          from_kind h k w e f has i (leaf_of h k e.words) refl t.0 (sym t.1)
      | inr x ↦ let t = from_true type (at_end code.TypeMismatch e) f x in
          from_type h k w e f has i w.1.ends refl (leaf_of h k e.words) refl t.0 (sym t.1)
    ]

-- ---- bodies

from_wire : (h : Hierarchy) (k : ℕ) (w : Wire) (f : Fault) → HasWire h k w → IsIn f (wire_faults h k w) → IsTypeFault h f
from_wire h k w f has i =
    let ends = flat_map (end_faults h k w.0 (first_leaf h k w.1.ends)) w.1.ends in
    elim (in_append f ends (where_true (not (may_have w.0 w.1.ends)) (at_word code.EndCount w.1.id)) i) [
      | inl j ↦ let e = from_flat_map (end_faults h k w.0 (first_leaf h k w.1.ends)) f w.1.ends j in
          from_end h k w e.0 f has e.1 e.2
      | inr j ↦ let t = from_true (not (may_have w.0 w.1.ends)) (at_word code.EndCount w.1.id) f j in
          another_count k w has (not-true (may_have w.0 w.1.ends) t.0) (sym t.1)
    ]

from_sizes : (h : Hierarchy) (k : ℕ) (f : Fault) → k ≤ top_number h → (o : Option Component) → (body h k).component ≡ o
    → IsIn f (option_map_or (λ c. flat_map size_faults c.members) o []) → IsTypeFault h f
from_sizes h k f low None own i = absurd i
from_sizes h k f low (Some c) own i = let m = from_flat_map size_faults f c.members i in by_member m.0 m.1 m.2
  where
    by_size : (i : Interface) → IsIn (members.Interface i) c.members → (o : Option ℕ) → i.size ≡ o
        → not (option_map_or is_size o true) ≡ true → f ≡ at_word code.TypeMismatch i.id → IsTypeFault h f
    by_size i j None e t same = cc
    by_size i j (Some n) e t same = no_size k c i n low own j e (not-true (is_size n) t) same

    by_member : (m : Member) → IsIn m c.members → IsIn f (size_faults m) → IsTypeFault h f
    by_member (members.Interface i) j x = let t = from_true (not (option_map_or is_size i.size true))
        (at_word code.TypeMismatch i.id) f x in by_size i j i.size refl t.0 (sym t.1)
    by_member _ j x = absurd x

from_body : (h : Hierarchy) (k : ℕ) (f : Fault) → k ≤ top_number h → IsIn f (body_faults h k) → IsTypeFault h f
from_body h k f low i =
    elim (in_append f (flat_map (wire_faults h k) (wires_of (body h k))) (option_map_or (λ c. flat_map size_faults c.members)
    (body h k).component []) i) [
      | inl j ↦ let w = from_flat_map (wire_faults h k) f (wires_of (body h k)) j in
          from_wire h k w.0 f (record { there = low; stands = w.1 }) w.2
      | inr j ↦ from_sizes h k f low (body h k).component refl j
    ]

from_below : (h : Hierarchy) (n : ℕ) (f : Fault) → IsIn f (faults_below h n) → (k : ℕ) × (k < n) × IsIn f (body_faults h k)
from_below h zero f i = absurd i
from_below h (suc n) f i = elim (in_append f (faults_below h n) (body_faults h n) i) [
  | inl j ↦ let r = from_below h n f j in let l = r.1 in (r.0, omega (arith, l), r.2)
  | inr j ↦ (n, omega arith, j)
]

in_below : (h : Hierarchy) (n k : ℕ) (f : Fault) → k < n → IsIn f (body_faults h k) → IsIn f (faults_below h n)
in_below h zero k f l i = absurd (omega (arith, l))
in_below h (suc n) k f l i = elim (cases_lt k n) [
  | inl m ↦ in_left f (faults_below h n) (body_faults h n) (in_below h n k f m i)
  | inr m ↦ let same : k ≡ n = omega (arith, l, m) in let P : ℕ → Type 0 = λ z. IsIn f (body_faults h z) in
      in_right f (faults_below h n) (body_faults h n) (subst P same i)
]

pub from_type_faults : (s : Source) (f : Fault) → IsIn f (type_faults s) → IsTypeFault (hierarchy_of s) f
from_type_faults s f i =
    let h = hierarchy_of s in let r = from_below h (top_number h + 1) f i in
    from_body h r.0 f (omega (arith, r.1)) r.2

-- ---- and back

in_one_body : (s : Source) (k : ℕ) (f : Fault) → k ≤ top_number (hierarchy_of s) → IsIn f (body_faults (hierarchy_of s) k)
    → IsIn f (type_faults s)
in_one_body s k f low i = let h = hierarchy_of s in in_below h (top_number h + 1) k f (omega (arith, low)) i

in_one_wire : (s : Source) (k : ℕ) (w : Wire) (f : Fault) → HasWire (hierarchy_of s) k w
    → IsIn f (wire_faults (hierarchy_of s) k w) → IsIn f (type_faults s)
in_one_wire s k w f has i = search (rules, in_one_body, in_left, in_flat_map)

in_one_end : (s : Source) (k : ℕ) (w : Wire) (e : End) (f : Fault) → HasWire (hierarchy_of s) k w → IsIn e w.1.ends
    → IsIn f (end_faults (hierarchy_of s) k w.0 (first_leaf (hierarchy_of s) k w.1.ends) e) → IsIn f (type_faults s)
in_one_end s k w e f has i j = search (rules, in_one_wire, in_left, in_flat_map)

there : (s : Source) (f g : Fault) → f ≡ g → IsIn g (type_faults s) → IsIn f (type_faults s)
there s f g e i = let P : Fault → Type 0 = λ z. IsIn z (type_faults s) in subst P (sym e) i

pub in_type_faults : (s : Source) → AreNamesSound s → (f : Fault) → IsTypeFault (hierarchy_of s) f → IsIn f (type_faults s)
in_type_faults s sound f (another_kind k w e l has i m t same) =
    let h = hierarchy_of s in
    let kind = not (option_map_or (is_kind_of (end_rule w.0 e.role)) (leaf_of h k e.words) true) in
    let type = has_one_type w.0 && not (agree (first_leaf h k w.1.ends) (leaf_of h k e.words)) in
    let is : kind ≡ true = ap (λ o. not (option_map_or (is_kind_of (end_rule w.0 e.role)) o true))
    (means s sound k e.words l has.there m) ∙ ap not t in
    search (rules, there, in_one_end, in_left, in_true)
in_type_faults s sound f (another_type k w first e more m l has ends i a b one t same) =
    let h = hierarchy_of s in
    let kind = not (option_map_or (is_kind_of (end_rule w.0 e.role)) (leaf_of h k e.words) true) in
    let type = has_one_type w.0 && not (agree (first_leaf h k w.1.ends) (leaf_of h k e.words)) in
    let is : type ≡ true = ap (λ z. has_one_type w.0 && not (agree (first_leaf h k z) (leaf_of h k e.words))) ends
    ∙ ap (λ o. has_one_type w.0 && not (agree o (leaf_of h k e.words))) (means s sound k first.words m has.there a)
    ∙ ap (λ o. has_one_type w.0 && not (agree (Some m) o)) (means s sound k e.words l has.there b)
    ∙ ap (λ z. z && not (same_type m l)) one ∙ ap not t in
    search (rules, there, in_one_end, in_right, in_true)
in_type_faults s sound f (another_count k w has t same) =
    let h = hierarchy_of s in
    there s f (at_word code.EndCount w.1.id) same (in_one_wire s k w (at_word code.EndCount w.1.id) has
    (in_right (at_word code.EndCount w.1.id) (flat_map (end_faults h k w.0 (first_leaf h k w.1.ends)) w.1.ends)
    (where_true (not (may_have w.0 w.1.ends)) (at_word code.EndCount w.1.id))
    (in_true (not (may_have w.0 w.1.ends)) (at_word code.EndCount w.1.id) (ap not t))))
in_type_faults s sound f (no_size k c i n low own j size t same) =
    let h = hierarchy_of s in
    let P : Option Component → Type 0 =
    λ o. IsIn (at_word code.TypeMismatch i.id) (option_map_or (λ c. flat_map size_faults c.members) o []) in
    let bad = not (option_map_or is_size i.size true) in
    there s f (at_word code.TypeMismatch i.id) same (in_one_body s k (at_word code.TypeMismatch i.id) low
    (in_right (at_word code.TypeMismatch i.id) (flat_map (wire_faults h k) (wires_of (body h k)))
    (option_map_or (λ c. flat_map size_faults c.members) (body h k).component [])
    (subst P (sym own) (in_flat_map size_faults (members.Interface i) (at_word code.TypeMismatch i.id) c.members j
    (in_true bad (at_word code.TypeMismatch i.id) (ap (λ o. not (option_map_or is_size o true)) size ∙ ap not t))))))
