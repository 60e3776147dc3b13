-- Limits, by totals, and what holds where none is passed.
use Rattle.adl_flatten.proofs.Common.{AreNamesSound, Assembly, Fault, Hierarchy, ItemAt, List, None, Option, Some, Source, Totals, [], all_ends, ap, append-nil, arith, assemblies, codes, connections, depth, false, first_flat_fault, first_join_fault, first_size_fault, flat_map, hierarchy_of, join_faults_in, least, leaves, length, limits_in, limits_passed, nat_lt, nat_tests, one_assembly, option_map_or, option_or, pass, refl, saturated, slice_get, sym, top_number, totals_in, where_true, ℕ, ◌++◌, ◌-◌, ◌<◌, ◌^◌, ◌||◌, ◌∙◌, ◌≡◌}
use Rattle.adl_hierarchy.proofs.Limits.{in_limits}
use Rattle.std.proofs.lemmas.Bool.{or_parts}
use Rattle.cam_base.specs.declared.code.Code.TheVariants as code

-- numbers of 32 bits count the leaves
pub leaves_few : (s : Source) (h : Hierarchy) → AreNamesSound s → first_size_fault s ≡ None → h ≡ hierarchy_of s
    → length (leaves h) < 2 ^ 32
leaves_few s h sound none e = rw e (let n = (in_limits s sound none).leaves_are in omega (arith, n))

-- a number is past a limit where it is so when it stands still
past : (g n : ℕ) → g < 2 ^ 64 - 1 → nat_lt g (saturated n) ≡ nat_lt g n
past g n l = grind (arith, nat_tests)

limits_same : (h : Hierarchy) (a : ItemAt × Assembly) → limits_in a (totals_in h (top_number h)) ≡ limits_passed h a
limits_same h a =
    let fault : List ℕ → Fault = λ name. record { code = code.Limit; place = a.1.place; name = name } in
    λ i. where_true (past 16 (depth h) (omega arith) i) (fault (codes "depth"))
    ++ where_true (past 1024 (length (leaves h)) (omega arith) i) (fault (codes "leaves"))
    ++ where_true (past 4096 (length (connections h)) (omega arith) i) (fault (codes "connections"))
    ++ where_true (past 16384 (length (all_ends h)) (omega arith) i) (fault (codes "ends"))

-- the first limit that the totals of the one assembly pass
pub limits_told : (s : Source) (h : Hierarchy) (o : Option (ItemAt × Assembly)) → h ≡ hierarchy_of s → AreNamesSound s
    → o ≡ slice_get (assemblies s) 0
    → least (option_map_or (λ a. limits_in a (totals_in h (top_number h))) o []) ≡ first_size_fault s
limits_told s h o p sound e =
    let one = one_assembly s sound in
    ap (λ o. least (option_map_or (λ a. limits_in a (totals_in h (top_number h))) o [])) (e ∙ ap (λ xs. slice_get xs 0) one.1)
    ∙ ap least (limits_same h one.0)
    ∙ (λ i. least (limits_passed (p i) one.0)) ∙ ap least (sym (append-nil (limits_passed (hierarchy_of s) one.0))
    ∙ ap (flat_map (limits_passed (hierarchy_of s))) (sym one.1))

-- the first fault where no limit is passed
pub fault_is : (s : Source) (h : Hierarchy) → h ≡ hierarchy_of s → first_size_fault s ≡ None
    → first_flat_fault s ≡ least (join_faults_in h)
fault_is s h e none = ap (λ o. option_or o (first_join_fault s)) none ∙ ap (λ h. least (join_faults_in h)) (sym e)

-- totals that pass no limit are at no fault
pub none_told : (t : Totals) → pass t ≡ false → (o : Option (ItemAt × Assembly)) → option_map_or (λ a. limits_in a t) o [] ≡ []
none_told t none None = refl
none_told t none (Some a) =
    let ends = or_parts ((nat_lt 16 t.depth || nat_lt 1024 t.leaves) || nat_lt 4096 t.connections) (nat_lt 16384 t.ends) none in
    let connections = or_parts (nat_lt 16 t.depth || nat_lt 1024 t.leaves) (nat_lt 4096 t.connections) ends.0 in
    let leaves = or_parts (nat_lt 16 t.depth) (nat_lt 1024 t.leaves) connections.0 in
    let fault : List ℕ → Fault = λ name. record { code = code.Limit; place = a.1.place; name = name } in
    λ i. where_true (leaves.0 i) (fault (codes "depth")) ++ where_true (leaves.1 i) (fault (codes "leaves"))
    ++ where_true (connections.1 i) (fault (codes "connections")) ++ where_true (ends.1 i) (fault (codes "ends"))
