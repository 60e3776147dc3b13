-- What an end joins is what the relation of joining says.
use Rattle.adl_hierarchy.proofs.Common.{AreDotted, AreNamesSound, Climbs, End, IsIn, Joins, List, Name, Option, Path, Placed, Reached, Role, Some, Source, Strung, [], ap, arith, at, connections, cons_option, filter_map, flat_end, flat_ends}
use Rattle.adl_hierarchy.proofs.Common.{hierarchy_of, inl, inr, joined_by, leaves, length, option_and_then, option_and_then_some, option_map, port_in, reached, refl, slice_get, subst, suc, sym, top_number, zero, ℕ, ◌++◌, ◌∙◌, ◌∷◌, ◌≡◌, ◌≤◌}
use Rattle.adl_meaning.specs.declared.flat.FlatEnd.{FlatEnd}
use Rattle.adl_hierarchy.proofs.Climbing.{found_climbs, climbs_reached}
use Rattle.adl_hierarchy.proofs.Connections.{connections_stand}
use Rattle.adl_hierarchy.proofs.Finite.{sound_is_finite}
use Rattle.adl_hierarchy.proofs.Leading.{ends_reach}
use Rattle.adl_hierarchy.proofs.Leaves.{leaves_stand}
use Rattle.adl_hierarchy.proofs.PartsAt.{at_part, at_append, part_append, body_in}

-- what is joined is an interface of a leaf, and joins
pub joined : (s : Source) → AreNamesSound s → (x : Strung) (n : ℕ) (e : End) (r : Reached) → IsIn x (connections (hierarchy_of s))
    → slice_get x.wire.1.ends n ≡ Some e → joined_by (hierarchy_of s) x.inside e ≡ Some r
    → Joins (hierarchy_of s) x.path x.wire n e.role (x.path ++ r.path) r.interface
    × IsIn (record { path = x.path ++ r.path; part = r.part }) (leaves (hierarchy_of s))
joined s sound x n e r i g j =
    let h = hierarchy_of s in
    let top = top_number h in
    let there = (connections_stand s sound x).0 i in
    option_and_then_some (reached h x.inside) (port_in e.words) r j (λ port e1 e2.
    let f = found_climbs h (length h.bodies) x.inside port r e2 in
    let y : Placed = record { path = x.path ++ r.path; part = r.part } in
    let leaf = (leaves_stand s sound y).1 (part_append h top x.inside x.path r.path r.part there.0 f.stands.0, f.stands.1) in (
      record {
        inside = x.inside;
        there = there.0;
        stands = there.1;
        end = e;
        numbered = g;
        role_is = refl;
        part = port.0;
        interface = port.1;
        words = e1;
        rest = f.rest;
        path = ap (λ p. x.path ++ p) f.path;
        leaf = (
          r.part.kind,
          at_append h top x.inside x.path r.path there.0 ∙ at_part h x.inside r.path r.part
              f.stands.0,
          f.stands.1,
        );
        climbs = f.climbs;
      },
      leaf,
    ))

-- what joins is joined
pub joins_joined : (s : Source) → AreNamesSound s → (x : Strung) (n : ℕ) (role : Role) (p : Path) (i : Name)
    → IsIn x (connections (hierarchy_of s)) → Joins (hierarchy_of s) x.path x.wire n role p i
    → (e : End) × (slice_get x.wire.1.ends n ≡ Some e) × (e.role ≡ role) × (r : Reached)
    × (joined_by (hierarchy_of s) x.inside e ≡ Some r) × (x.path ++ r.path ≡ p) × (r.interface ≡ i)
joins_joined s sound x n role p i m j =
    let h = hierarchy_of s in
    let top = top_number h in
    let there = (connections_stand s sound x).0 m in
    let same : j.inside ≡ x.inside = let a = j.there in let b = there.0 in cc in
    let below : x.inside ≤ length h.bodies = body_in h (sound_is_finite s sound) top x.inside x.path (omega arith) there.0 in
    let at_leaf : at h x.inside (j.part ∷ j.rest) ≡ Some j.leaf.0 =
    sym (at_append h top x.inside x.path (j.part ∷ j.rest) there.0) ∙ ap (at h top) (sym j.path) ∙ j.leaf.1 in
    let C : ℕ → Type 0 = λ k. Climbs h k j.part j.rest i j.interface in
    let r = climbs_reached s sound x.inside j.part j.rest i j.interface below (j.leaf.0, at_leaf, j.leaf.2)
    (subst C same j.climbs) in (
      j.end,
      j.numbered,
      j.role_is,
      r.0,
      ap (λ o. option_and_then (reached h x.inside) o) j.words ∙ r.1,
      ap (λ q. x.path ++ q) r.2
          ∙ sym j.path,
      r.3,
    )

-- each end joins
pub all_joined : (s : Source) → AreNamesSound s → AreDotted (hierarchy_of s) → (x : Strung) (e : End)
    → IsIn x (connections (hierarchy_of s)) → IsIn e x.wire.1.ends
    → (r : Reached) × (joined_by (hierarchy_of s) x.inside e ≡ Some r)
all_joined s sound dotted x e i m =
    let h = hierarchy_of s in
    let there = (connections_stand s sound x).0 i in
    ends_reach s sound dotted x.inside x.wire e (body_in h (sound_is_finite s sound) (top_number h) x.inside x.path (omega arith)
    there.0) there.1 m

pub kept : {X Y : Type 0} (f : X → Option Y) (xs : List X) → ((x : X) → IsIn x xs → (y : Y) × (f x ≡ Some y))
    → length (filter_map f xs) ≡ length xs
kept f [] e = refl
kept f (x ∷ xs) e = let y = e x (inl refl) in ap (λ o. length (cons_option o (filter_map f xs))) y.1
    ∙ ap suc (kept f xs (λ z i. e z (inr i)))

kept_at : {X Y : Type 0} (f : X → Option Y) (xs : List X) (n : ℕ) (x : X) (y : Y)
    → ((x : X) → IsIn x xs → (y : Y) × (f x ≡ Some y)) → slice_get xs n ≡ Some x → f x ≡ Some y
    → slice_get (filter_map f xs) n ≡ Some y
kept_at f [] n x y e g h = cc
kept_at {X} {Y} f (z ∷ xs) zero x y e g h =
    let s : z ≡ x = cc in
    ap (λ o. slice_get (cons_option o (filter_map f xs)) 0) (ap f s ∙ h)
kept_at {X} {Y} f (z ∷ xs) (suc n) x y e g h =
    let u = e z (inl refl) in
    ap (λ o. slice_get (cons_option o (filter_map f xs)) (suc n)) u.1 ∙ kept_at f xs n x y (λ v i. e v (inr i)) g h

joins_some : (s : Source) → AreNamesSound s → AreDotted (hierarchy_of s) → (x : Strung) → IsIn x (connections (hierarchy_of s))
    → (e : End) → IsIn e x.wire.1.ends
    → (f : FlatEnd) × (option_map (flat_end (hierarchy_of s) x.path e) (joined_by (hierarchy_of s) x.inside e) ≡ Some f)
joins_some s sound dotted x i e m =
    let h = hierarchy_of s in
    let r = all_joined s sound dotted x e i m in
    (flat_end h x.path e r.0, ap (λ o. option_map (flat_end h x.path e) o) r.1)

-- so that there are as many flat ends as ends
pub ends_kept : (s : Source) → AreNamesSound s → AreDotted (hierarchy_of s) → (x : Strung) → IsIn x (connections (hierarchy_of s))
    → length (flat_ends (hierarchy_of s) x) ≡ length x.wire.1.ends
ends_kept s sound dotted x i =
    let h = hierarchy_of s in
    kept (λ (e : End). option_map (flat_end h x.path e) (joined_by h x.inside e)) x.wire.1.ends (joins_some s sound dotted x i)

-- and each has the number of its end
pub end_numbers_kept : (s : Source) → AreNamesSound s → AreDotted (hierarchy_of s) → (x : Strung) (n : ℕ) (e : End) (r : Reached)
    → IsIn x (connections (hierarchy_of s)) → slice_get x.wire.1.ends n ≡ Some e
    → joined_by (hierarchy_of s) x.inside e ≡ Some r
    → slice_get (flat_ends (hierarchy_of s) x) n ≡ Some (flat_end (hierarchy_of s) x.path e r)
end_numbers_kept s sound dotted x n e r i g j =
    let h = hierarchy_of s in
    kept_at (λ (e : End). option_map (flat_end h x.path e) (joined_by h x.inside e)) x.wire.1.ends n e (flat_end h x.path e r)
    (joins_some s sound dotted x i) g (ap (λ o. option_map (flat_end h x.path e) o) j)
