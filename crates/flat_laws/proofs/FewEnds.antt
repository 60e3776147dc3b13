-- The ends of one connection are no more than those of all.
use Rattle.flat_laws.proofs.Common.{AreInLimits, AreNamesSound, End, IsIn, List, None, Option, Some, Source, Strung, [], arith, connections, first_flat_fault, first_join_fault, first_size_fault, flat_end, flat_ends, flat_map, hierarchy_of, in_limits}
use Rattle.flat_laws.proofs.Common.{inl, inr, joined_by, length, length-append, option_map, option_or, refl, subst, ◌++◌, ◌∷◌, ◌≡◌, ◌≤◌}
use Rattle.cam_base.proofs.Lists.{length-filter_map}

pub no_first : {X : Type 0} (a b : Option X) → option_or a b ≡ None → a ≡ None
no_first None b e = refl
no_first (Some x) b e = e

pub flat_in_limits : (s : Source) → AreNamesSound s → first_flat_fault s ≡ None → AreInLimits s
flat_in_limits s sound e = in_limits s sound (no_first (first_size_fault s) (first_join_fault s) e)

part_shorter : {X Y : Type 0} (f : X → List Y) (xs : List X) (x : X) → IsIn x xs → length (f x) ≤ length (flat_map f xs)
part_shorter f [] x i = absurd i
part_shorter {X} {Y} f (y ∷ xs) x (inl e) =
    subst (λ z. length (f z) ≤ length (f y ++ flat_map f xs)) e (omega (arith, length-append (f y) (flat_map f xs)))
part_shorter f (y ∷ xs) x (inr i) = let l = part_shorter f xs x i in omega (arith, length-append (f y) (flat_map f xs))

pub few_ends : (s : Source) → AreInLimits s → (x : Strung) → IsIn x (connections (hierarchy_of s))
    → length (flat_ends (hierarchy_of s) x) ≤ 16384
few_ends s limits x i =
    let h = hierarchy_of s in
    let a = length-filter_map (λ (e : End). option_map (flat_end h x.path e) (joined_by h x.inside e)) x.wire.1.ends in
    let b = part_shorter (λ (x : Strung). x.wire.1.ends) (connections h) x i in
    let c = limits.ends_are in
    omega arith
