-- The walk to the connections meets each connection once, and nothing else.
use Rattle.adl_hierarchy.proofs.Common.{AreNamesSound, Hierarchy, IsIn, IsOnce, List, Name, Part, Path, Some, Source, Strung, Wire, [], ap, arith, at, body, connections, connections_within, flat_map, from_flat_map, from_map, further, hierarchy_of}
use Rattle.adl_hierarchy.proofs.Common.{in_append, in_flat_map, in_left, in_map, in_right, inl, inr, length, map, map-append, name_of, refl, rules, strung, strung_by, subst, suc, sym, top_number, wires_of, zero, ℕ, ◌++◌, ◌↔◌, ◌∷◌, ◌≡◌, ◌≤◌}
use Rattle.adl_hierarchy.proofs.Finite.{sound_is_finite}
use Rattle.adl_hierarchy.proofs.PartNames.{names_once, wires_once}
use Rattle.adl_hierarchy.proofs.PartsAt.{named_in, at_behind, first_on, path_short}
use Rattle.adl_hierarchy.proofs.Repeats.{once_append, once_map, head_of, tail_of, once_by_head, find_once}

-- x is a connection of the composition at its path inside body k
abbrev pub IsStrung : Hierarchy → ℕ → Strung → Type 0
IsStrung h k x = (at h k x.path ≡ Some x.inside) × IsIn x.wire (wires_of (body h x.inside))

-- ---- what is met stands

own_stands : (h : Hierarchy) (k : ℕ) (x : Strung) → IsIn x (map (strung k) (wires_of (body h k))) → IsStrung h k x
own_stands h k x i = let w = from_map (strung k) x (wires_of (body h k)) i in subst (λ z. IsStrung h k z) w.2 (refl, w.1)

pub stands : (h : Hierarchy) → ((k : ℕ) → IsOnce (map name_of (body h k).parts)) → (n k : ℕ) (x : Strung)
    → IsIn x (connections_within h n k) → IsStrung h k x
stands h a zero k x i = own_stands h k x i
stands h a (suc n) k x i =
    elim (in_append x (map (strung k) (wires_of (body h k))) (flat_map (strung_by (connections_within h n)) (body h k).parts) i) [
      | inl j ↦ own_stands h k x j
      | inr j ↦
          let y = from_flat_map (strung_by (connections_within h n)) x (body h k).parts j in
          let z = from_map (further (name_of y.0)) x (connections_within h n y.0.kind) y.2 in
          let s = stands h a n y.0.kind z.0 z.1 in
          subst (λ u. IsStrung h k u) z.2 (
            at_behind h k (name_of y.0) z.0.path y.0 z.0.inside (find_once name_of (body h k).parts y.0 (a k) y.1) s.0,
            s.1,
          )
    ]

-- ---- what stands is met

own_met : (h : Hierarchy) (n k : ℕ) (x : Strung) → IsIn x (map (strung k) (wires_of (body h k)))
    → IsIn x (connections_within h n k)
own_met h zero k x i = i
own_met h (suc n) k x i = in_left x (map (strung k) (wires_of (body h k))) (flat_map (strung_by (connections_within h n))
    (body h k).parts) i

pub met : (h : Hierarchy) (n k m : ℕ) (q : Path) (w : Wire) → length q ≤ n → at h k q ≡ Some m → IsIn w (wires_of (body h m))
    → IsIn (record { path = q; inside = m; wire = w }) (connections_within h n k)
met h n k m [] w l e i =
    let s : k ≡ m = cc in
    let P : ℕ → Type 0 = λ z. IsIn (strung z w) (connections_within h n k) in
    let Q : ℕ → Type 0 = λ z. IsIn w (wires_of (body h z)) in
    subst P s (own_met h n k (strung k w) (in_map (strung k) w (wires_of (body h k)) (subst Q (sym s) i)))
met h zero k m (c ∷ q) w l e i = absurd (omega arith)
met h (suc n) k m (c ∷ q) w l e i =
    let y = first_on h k c q m e in
    let name = named_in (body h k).parts c y.0 y.1 in
    let x : Strung = record { path = q; inside = m; wire = w } in
    let P : Name → Type 0 = λ z. IsIn (record { path = z ∷ q; inside = m; wire = w }) (connections_within h (suc n) k) in
    subst P name.1 (in_right (further (name_of y.0) x) (map (strung k) (wires_of (body h k)))
    (flat_map (strung_by (connections_within h n)) (body h k).parts)
    (in_flat_map (strung_by (connections_within h n)) y.0 (further (name_of y.0) x) (body h k).parts name.0
    (in_map (further (name_of y.0)) x (connections_within h n y.0.kind) (met h n y.0.kind m q w (omega arith) y.2 i))))

pub connections_stand : (s : Source) → AreNamesSound s → (x : Strung) → IsIn x (connections (hierarchy_of s))
    ↔ IsStrung (hierarchy_of s) (top_number (hierarchy_of s)) x
connections_stand s sound x =
    let h = hierarchy_of s in
    let top = top_number h in (
      stands h (names_once s sound) (length h.bodies) top x,
      λ e. met h (length h.bodies) top x.inside x.path x.wire (path_short h (sound_is_finite s sound) top x.inside x.path
          (omega arith) e.0) e.0 e.1,
    )

-- ---- once

-- the path with the connection's name
whole_path : Strung → Path
whole_path x = x.path ++ x.wire.1.id.name ∷ []

wholes_further : (n : Name) (xs : List Strung) → map whole_path (map (further n) xs) ≡ map (λ p. n ∷ p) (map whole_path xs)
unfolding whole_path
wholes_further n [] = refl
wholes_further n (x ∷ xs) = ap (λ ps. (n ∷ (x.path ++ x.wire.1.id.name ∷ [])) ∷ ps) (wholes_further n xs)

wholes_own : (k : ℕ) (ws : List Wire) → map whole_path (map (strung k) ws) ≡ map (λ n. n ∷ []) (map (λ w. w.1.id.name) ws)
unfolding whole_path
wholes_own k [] = refl
wholes_own k (w ∷ ws) = ap (λ ps. (w.1.id.name ∷ []) ∷ ps) (wholes_own k ws)

own_once : (k : ℕ) (ws : List Wire) → IsOnce (map (λ w. w.1.id.name) ws) → IsOnce (map whole_path (map (strung k) ws))
own_once k ws a =
    let P : List Path → Type 0 = λ ps. IsOnce ps in
    subst P (sym (wholes_own k ws)) (once_map (λ n. n ∷ []) head_of (map (λ (w : Wire). w.1.id.name) ws) (λ n. refl) a)

further_once : (x : Part) (ys : List Strung) → IsOnce (map whole_path ys) → IsOnce (map whole_path (map (further (name_of x)) ys))
further_once x ys a =
    let P : List Path → Type 0 = λ ps. IsOnce ps in
    subst P (sym (wholes_further (name_of x) ys)) (once_map (λ p. name_of x ∷ p) tail_of (map whole_path ys) (λ p. refl) a)

not_empty : (p : Path) (n : Name) → p ++ n ∷ [] ≡ [] → ⊥
not_empty [] n e = cc
not_empty (m ∷ p) n e = cc

-- a connection of the body itself is none of an instance
apart : (k : ℕ) (ws : List Wire) (f : ℕ → List Strung) (xs : List Part) (p : Path) → IsIn p (map whole_path (map (strung k) ws))
    → IsIn p (map whole_path (flat_map (strung_by f) xs)) → ⊥
unfolding whole_path
apart k ws f xs p i j = search (rules, from_map, whole_path, from_flat_map, not_empty, tail_of, wholes_own)

begins : (x : Part) (ys : List Strung) (y : Strung) → IsIn y (map (further (name_of x)) ys) → head_of (whole_path y) ≡ name_of x
unfolding whole_path
begins x ys y i = let z = from_map (further (name_of x)) y ys i in ap (λ (u : Strung). head_of (whole_path u)) (sym z.2)

wholes_once : (h : Hierarchy) → ((k : ℕ) → IsOnce (map name_of (body h k).parts))
    → ((k : ℕ) → IsOnce (map (λ w. w.1.id.name) (wires_of (body h k)))) → (n k : ℕ)
    → IsOnce (map whole_path (connections_within h n k))
wholes_once h a b zero k = own_once k (wires_of (body h k)) (b k)
wholes_once h a b (suc n) k =
    let own = map (strung k) (wires_of (body h k)) in
    let f = connections_within h n in
    let inner = flat_map (strung_by f) (body h k).parts in
    subst (λ ps. IsOnce ps) (sym (map-append whole_path own inner)) (once_append (map whole_path own) (map whole_path inner)
    (own_once k (wires_of (body h k)) (b k)) (once_by_head name_of (strung_by f) whole_path
    (λ x. further_once x (f x.kind) (wholes_once h a b n x.kind)) (λ x y i. begins x (f x.kind) y i) (body h k).parts (a k))
    (apart k (wires_of (body h k)) f (body h k).parts))

-- no two connections have one name in compositions at one path
pub connections_once : (s : Source) → AreNamesSound s
    → IsOnce (map (λ x. x.path ++ x.wire.1.id.name ∷ []) (connections (hierarchy_of s)))
unfolding whole_path
connections_once s sound = wholes_once (hierarchy_of s) (names_once s sound) (wires_once s sound) (length (hierarchy_of s).bodies)
    (top_number (hierarchy_of s))
