-- The files of a source are those that imports reach, in the order in which they are met.
use Rattle.front_laws.proofs.Common.{Bool, Import, InOrder, IsOnce, IsSource, List, Meeting, None, Option, Some, SourceFile, [], ap, append_assoc, arith, bytes_eq, bytes_eq-Decides, cond, false, filter, firsts, from_any, from_filter, from_flat_map}
use Rattle.front_laws.proofs.Common.{from_map, imports_of, in_filter, in_flat_map, in_map, in_right, inl, inr, is_built_in, length, length-append, map, meeting_at, meeting_of, meetings_of, met, name_given, not, once_filter, refl, root_place}
use Rattle.front_laws.proofs.Common.{rules, split_in, subst, suc, sym, true, true≢false, zero, ℕ, ◌++◌, ◌+◌, ◌∙◌, ◌∷◌, ◌≡◌, ◌≤◌, ◌⊎◌}
use Rattle.std.specs.List.{flat_map}
use Rattle.cam_base.specs.Gather.{IsIn}
use Rattle.front_laws.specs.Importing.{AreReached, ImportsName, IsMetBefore, IsReached, by_import, names_met, the_root}
use Rattle.front_laws.proofs.Ordered.{order_map, order_weaken}

-- ---- the first of each name

abbrev other : List ℕ → Meeting → Bool
other name n = not (bytes_eq name n.0)

from_other : (name : List ℕ) (n : Meeting) → other name n ≡ true → name ≡ n.0 → ⊥
from_other name n t e = let k : bytes_eq name n.0 ≡ true = (bytes_eq-Decides name n.0).1 e in true≢false (sym t ∙ ap not k)

-- whether a name is another's is told
either : (name : List ℕ) (n : Meeting) → (name ≡ n.0) ⊎ (other name n ≡ true)
either name n = search (rules, bytes_eq-Decides)

abbrev key : Meeting → List ℕ
key m = m.0

-- what stands among the firsts stands among all
pub from_firsts : (ms : List Meeting) (m : Meeting) → IsIn m (firsts ms) → IsIn m ms
from_firsts [] m i = i
from_firsts (x ∷ xs) m (inl e) = inl e
from_firsts (x ∷ xs) m (inr i) = inr (from_firsts xs m (from_filter (other x.0) (firsts xs) m i).0)

-- each name has a first
pub in_firsts : (ms : List Meeting) (name : List ℕ) → IsIn name (map key ms) → IsIn name (map key (firsts ms))
in_firsts [] name i = i
in_firsts (x ∷ xs) name (inl e) = inl e
in_firsts (x ∷ xs) name (inr i) =
    let k = from_map key name (firsts xs) (in_firsts xs name i) in
    search (rules, either, filter, in_map, in_filter)

firsts_once : (ms : List Meeting) → IsOnce (map key (firsts ms))
firsts_once [] = tt
firsts_once (x ∷ xs) = (
  λ i. let k = from_map key x.0 (filter (other x.0) (firsts xs)) i in
      from_other x.0 k.0 (from_filter (other x.0) (firsts xs) k.0 k.1).1 (sym k.2),
  once_filter key (other x.0) (firsts xs) (firsts_once xs),
)

order_filter : {X : Type 0} (R : X → X → Type 0) (p : X → Bool) (xs : List X) → InOrder R xs → InOrder R (filter p xs)
order_filter R p [] a = tt
order_filter {X} R p (x ∷ xs) a = by_test (p x) (order_filter R p xs a.1)
  where
    by_test : (b : Bool) → InOrder R (filter p xs) → InOrder R (cond b (x ∷ filter p xs) (filter p xs))
    by_test true more = (λ y i. a.0 y (from_filter p xs y i).0, more)
    by_test false more = more

-- with one more in front, of a name that neither has
met_later : (x : Meeting) (ms : List Meeting) (a b : Meeting) → other x.0 b ≡ true → IsMetBefore (map key ms) a.0 b.0
    → IsMetBefore (map key (x ∷ ms)) a.0 b.0
met_later x ms a b t r = record {
  front = x.0 ∷ r.front;
  rest = r.rest;
  split = ap (λ z. x.0 ∷ z) r.split;
  unmet = λ i. elim i [ inl e ↦ from_other x.0 b t e | inr j ↦ r.unmet j ];
}

firsts_ordered : (ms : List Meeting) → InOrder (λ a b. IsMetBefore (map key ms) a.0 b.0) (firsts ms)
firsts_ordered [] = tt
firsts_ordered (x ∷ xs) = (
  λ y i. record { front = []; rest = map key xs; split = refl; unmet = λ j. j },
  order_weaken (λ a b. IsMetBefore (map key xs) a.0 b.0) (λ a b. IsMetBefore (map key (x ∷ xs)) a.0 b.0)
      (filter (other x.0) (firsts xs))
      (λ a b i j r. met_later x xs a b (from_filter (other x.0) (firsts xs) b j).1 r)
      (order_filter (λ a b. IsMetBefore (map key xs) a.0 b.0) (other x.0) (firsts xs) (firsts_ordered xs)),
)

-- ---- meetings and imports

from_meeting : (root : List ℕ) (file : SourceFile) (m : Meeting) → IsIn m (meetings_of root file) → ImportsName root file m.0
from_meeting root file m i =
    let x = from_flat_map (meeting_of root file.name) m (imports_of file.tree) i in
    by_test x.0 x.1 (is_built_in x.0) refl x.2
  where
    by_test : (x : Import) → IsIn x (imports_of file.tree) → (b : Bool) → is_built_in x ≡ b
        → IsIn m (cond b [] (meeting_at x.place (name_given root file.name x))) → ImportsName root file m.0
    by_test x j true t i = absurd i
    by_test x j false t i = by_name (name_given root file.name x) refl i
      where
        by_name : (o : Option (List ℕ)) → name_given root file.name x ≡ o → IsIn m (meeting_at x.place o)
            → ImportsName root file m.0
        by_name None e i = absurd i
        by_name (Some n) e (inl s) = record { import = x; stands = j; own = t; gives = e ∙ ap (λ (z : Meeting). Some z.0) s }
        by_name (Some n) e (inr i) = absurd i

in_meeting : (root : List ℕ) (file : SourceFile) (name : List ℕ) → ImportsName root file name
    → IsIn name (map key (meetings_of root file))
in_meeting root file name x =
    let m : Meeting = (name, x.import.place) in
    let P : Bool → Type 0 = λ b. IsIn m (cond b [] (meeting_at x.import.place (name_given root file.name x.import))) in
    in_map key m (meetings_of root file) (in_flat_map (meeting_of root file.name) x.import m (imports_of file.tree) x.stands
    (subst P (sym x.own) (subst (λ o. IsIn m (meeting_at x.import.place o)) (sym x.gives) (inl refl))))

-- ---- what is reached

-- the first file is the root
first_name : (root : List ℕ) (files : List SourceFile) → IsSource root files → (file : SourceFile) (after : List SourceFile)
    → files ≡ file ∷ after → file.name ≡ root
first_name root files s file after e = let f = ap (map (λ (z : SourceFile). z.name)) (sym e) ∙ s.equation in cc

reached_at : (root : List ℕ) (files : List SourceFile) → IsSource root files
    → (n : ℕ) (before after : List SourceFile) (file : SourceFile) → length before ≤ n
    → files ≡ before ++ file ∷ after → IsReached root files file.name
reached_at root files s n [] after file l e =
    let P : List ℕ → Type 0 = λ z. IsReached root files z in subst P (sym (first_name root files s file after e)) the_root
reached_at root files s zero (b ∷ before) after file l e = absurd (omega (arith, l))
reached_at root files s (suc n) (b ∷ before) after file l e =
    let t = s.reached (b ∷ before) after file e (omega arith) in
    let m = from_any (λ (m : Meeting). bytes_eq file.name m.0) (flat_map (meetings_of root) (b ∷ before)) t in
    let g = from_flat_map (meetings_of root) m.0 (b ∷ before) m.1 in
    let p = split_in (b ∷ before) g.0 g.1 in
    let whole : files ≡ p.0 ++ g.0 ∷ (p.1 ++ file ∷ after) = e ∙ ap (λ z. z ++ file ∷ after) p.2 ∙ append_assoc p.0 (g.0 ∷ p.1)
    (file ∷ after) in
    let many : suc (length before) ≡ length p.0 + suc (length p.1) = ap length p.2 ∙ length-append p.0 (g.0 ∷ p.1) in
    let inner = reached_at root files s n p.0 (p.1 ++ file ∷ after) g.0 (omega (arith, l, many)) whole in
    subst (λ z. IsReached root files z) (sym ((bytes_eq-Decides file.name m.0.0).0 m.2))
    (by_import g.0 m.0.0 inner (subst (λ z. IsIn g.0 z) (sym whole) (in_right g.0 p.0 (g.0 ∷ (p.1 ++ file ∷ after)) (inl refl)))
    (from_meeting root g.0 m.0 g.2))

names_are : (root : List ℕ) (files : List SourceFile) → IsSource root files → map (λ f. f.name) files ≡ map key (met root files)
names_are root files s = s.equation

-- a name that is reached is met
among : (root : List ℕ) (files : List SourceFile) (name : List ℕ) → IsReached root files name
    → IsIn name (map key ((root, root_place) ∷ flat_map (meetings_of root) files))
among root files name the_root = inl refl
among root files name (by_import file n r i x) =
    let m = from_map key name (meetings_of root file) (in_meeting root file name x) in
    let P : List ℕ → Type 0 = λ z. IsIn z (map key (flat_map (meetings_of root) files)) in
    inr (subst P m.2 (in_map key m.0 (flat_map (meetings_of root) files) (in_flat_map (meetings_of root) file m.0 files i m.1)))

-- and so is a file's
given_there : (root : List ℕ) (files : List SourceFile) → IsSource root files → (name : List ℕ) → IsReached root files name
    → IsIn name (map (λ f. f.name) files)
given_there root files s name r =
    subst (λ z. IsIn name z) (sym (names_are root files s)) (in_firsts ((root, root_place) ∷ flat_map (meetings_of root) files)
    name (among root files name r))

pub files_reached : (root : List ℕ) (files : List SourceFile) → IsSource root files → AreReached root files
files_reached root files s =
    let same = names_are root files s in
    let ms : List Meeting = (root, root_place) ∷ flat_map (meetings_of root) files in
    let P : List (List ℕ) → Type 0 = λ z. IsOnce z in
    let Q : List (List ℕ) → Type 0 = λ z. InOrder (IsMetBefore (names_met root files)) z in
    record {
      reached = λ name. (
        λ i.
            let f = from_map (λ (z : SourceFile). z.name) name files i in
            let p = split_in files f.0 f.1 in
            subst (λ z. IsReached root files z) f.2 (reached_at root files s (length p.0) p.0 p.1 f.0 (omega arith) p.2),
        given_there root files s name,
      );
      once = subst P (sym same) (firsts_once ms);
      order = subst Q (sym same) (order_map (IsMetBefore (names_met root files)) key (firsts ms) (firsts_ordered ms));
    }
