-- The group above a path is the outermost.
use Rattle.adl_hierarchy.proofs.Common.{Hierarchy, Name, None, Option, Part, Path, Some, [], ap, body, group_above, group_or, map_some, option_and_then, option_and_then_some, option_map, part_at, part_named, refl, sym, ℕ, ◌++◌, ◌↔◌, ◌∙◌, ◌∷◌}
use Rattle.adl_hierarchy.proofs.Common.{rules, ◌≡◌}
use Rattle.adl_hierarchy.specs.OutermostGroup.{IsOutermostGroup}
use Rattle.adl_hierarchy.proofs.PartsAt.{part_behind}
use Rattle.adl_hierarchy.proofs.Repeats.{head_of, tail_of}

-- the first instance on the way to another
first_part : (h : Hierarchy) (k : ℕ) (n : Name) (q : Path) (m : Name) (y : Part) → part_at h k (n ∷ q ++ m ∷ []) ≡ Some y
    → (x : Part) × (part_named (body h k).parts n ≡ Some x) × (part_at h x.kind (q ++ m ∷ []) ≡ Some y)
first_part h k n [] m y e = option_and_then_some (λ (z : Part). part_at h z.kind (m ∷ [])) (part_named (body h k).parts n) y e
    (λ x a b. (x, a, b))
first_part h k n (c ∷ q) m y e = option_and_then_some (λ (z : Part). part_at h z.kind (c ∷ q ++ m ∷ []))
    (part_named (body h k).parts n) y e (λ x a b. (x, a, b))

inner_part : (h : Hierarchy) (k : ℕ) (n : Name) (q : Path) (m : Name) (x y : Part) → part_named (body h k).parts n ≡ Some x
    → part_at h k (n ∷ q ++ m ∷ []) ≡ Some y → part_at h x.kind (q ++ m ∷ []) ≡ Some y
inner_part h k n q m x y e f = search (rules, first_part)

not_nothing : (q : Path) (n : Name) (r : Path) → [] ≡ q ++ n ∷ r → ⊥
not_nothing [] n r e = cc
not_nothing (c ∷ q) n r e = cc

-- where the first instance on the way stands in no group, and none behind it does, none does
none_before : (h : Hierarchy) (k : ℕ) (n : Name) (x : Part) (above : Path) → part_named (body h k).parts n ≡ Some x
    → x.group ≡ None → ((q : Path) (m : Name) (r : Path) (y : Part) → above ≡ q ++ m ∷ r → part_at h x.kind (q ++ m ∷ []) ≡ Some y
    → y.group ≡ None)
    → (q : Path) (m : Name) (r : Path) (y : Part) → n ∷ above ≡ q ++ m ∷ r → part_at h k (q ++ m ∷ []) ≡ Some y → y.group ≡ None
none_before h k n x above a t inner [] m r y f s = cc
none_before h k n x above a t inner (c ∷ q) m r y f s = search (rules, head_of, tail_of, inner_part)

pub above_outermost : (h : Hierarchy) (k : ℕ) (p d : Path) → group_above h k p ≡ Some d → IsOutermostGroup h k p d
above_outermost h k [] d e = cc
above_outermost h k (n ∷ p) d e =
    option_and_then_some (λ (x : Part). group_or x.group (option_map (λ q. n ∷ q) (group_above h x.kind p)))
    (part_named (body h k).parts n) d e (λ x a b. by_group x a x.group refl b (above_outermost h x.kind p))
  where
    by_group : (x : Part) → part_named (body h k).parts n ≡ Some x → (o : Option Name) → x.group ≡ o
        → group_or o (option_map (λ q. n ∷ q) (group_above h x.kind p)) ≡ Some d
        → ((d : Path) → group_above h x.kind p ≡ Some d → IsOutermostGroup h x.kind p d) → IsOutermostGroup h k (n ∷ p) d
    by_group x a (Some g) t b ih = record {
      above = [];
      name = n;
      below = p;
      split = refl;
      part = x;
      stands = a;
      group = g;
      grouped = t;
      path = let s : g ∷ [] ≡ d = cc in sym s;
      first = λ q m r y f s. absurd (not_nothing q m r f);
    }
    by_group x a None t b ih =
        let inner = map_some (λ q. n ∷ q) (group_above h x.kind p) d b in
        let w = ih inner.0 inner.1 in
        record {
          above = n ∷ w.above;
          name = w.name;
          below = w.below;
          split = ap (λ q. n ∷ q) w.split;
          part = w.part;
          stands = part_behind h k n (w.above ++ w.name ∷ []) x w.part a w.stands;
          group = w.group;
          grouped = w.grouped;
          path = sym inner.2 ∙ ap (λ q. n ∷ q) w.path;
          first = none_before h k n x w.above a t w.first;
        }

pub outermost_above : (h : Hierarchy) (k : ℕ) (above : Path) (name : Name) (below : Path) (part : Part) (group : Name)
    → part_at h k (above ++ name ∷ []) ≡ Some part → part.group ≡ Some group
    → ((q : Path) (n : Name) (r : Path) (x : Part) → above ≡ q ++ n ∷ r → part_at h k (q ++ n ∷ []) ≡ Some x → x.group ≡ None)
    → group_above h k (above ++ name ∷ below) ≡ Some (above ++ group ∷ [])
outermost_above h k [] name below part group e g first = cc
outermost_above h k (n ∷ q) name below part group e g first =
    let x = first_part h k n q name part e in
    let none : x.0.group ≡ None = first [] n q x.0 refl x.1 in
    let inner = outermost_above h x.0.kind q name below part group x.2 g (λ u m r y f s. first (n ∷ u) m r y (ap (λ z. n ∷ z) f)
    (part_behind h k n (u ++ m ∷ []) x.0 y x.1 s)) in
    let F : Option Path → Option Path = λ o. option_map (λ z. n ∷ z) o in
    ap (λ o. option_and_then (λ (x : Part). group_or x.group (option_map (λ z. n ∷ z) (group_above h x.kind (q ++ name ∷ below))))
    o) x.1 ∙ ap (λ o. group_or o (F (group_above h x.0.kind (q ++ name ∷ below)))) none ∙ ap F inner

pub group_is_outermost : (h : Hierarchy) (k : ℕ) (p d : Path) → (group_above h k p ≡ Some d) ↔ IsOutermostGroup h k p d
group_is_outermost h k p d = search (rules, above_outermost, outermost_above)
