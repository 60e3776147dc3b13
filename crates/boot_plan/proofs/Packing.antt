-- A need more that is packed.
use Rattle.boot_plan.proofs.Common.{AllFit, AreStarts, Err, HasRoom, IfOk, IsPermutation, List, Need, Ok, Option, Placed, Result, Untyped, [], and_parts, append_assoc, are_regions, are_usual, arith, drop, drop_more, get_or, had, is_region}
use Rattle.boot_plan.proofs.Common.{length, packed, place_of, room_bytes, rules, starts_behind, subst, sum_by-IsPermutation, sum_by-cons, sym, true, ℕ, ◌*◌, ◌++◌, ◌+◌, ◌<◌, ◌^◌, ◌∙◌, ◌∷◌, ◌≡◌, ◌≤◌}
use Rattle.boot_plan.proofs.Offsets.{all_fit, fits_rest}
use Rattle.boot_plan.proofs.Usual.{room_small, usual_got}

pub record PackStep (rooms : List Untyped) (starts : List ℕ) (ns : List Need) (places all : List (Option ℕ)) : Type 0 where
  pub fit : AllFit rooms starts ns
  pub so_far : places ++ packed rooms starts ns ≡ all

pub pack_step : (rooms : List Untyped) (starts behind : List ℕ) (ns : List Need) (i : ℕ) (d : Need)
    (places more all : List (Option ℕ)) (p : Option ℕ) → i < length ns → are_usual ns ≡ true → AllFit rooms starts (drop i ns)
    → p ≡ place_of rooms starts (get_or ns i d) → behind ≡ starts_behind starts (get_or ns i d) → more ≡ places ++ p ∷ []
    → places ++ packed rooms starts (drop i ns) ≡ all → PackStep rooms behind (drop (i + 1) ns) more all
pack_step rooms starts behind ns i d places more all p l usual fit is moved pushed so_far =
    let n = get_or ns i d in
    let rest = drop (i + 1) ns in
    let next : drop i ns ≡ n ∷ rest = drop_more ns i d l in
    record {
      fit = subst (λ s. AllFit rooms s rest) (sym moved) (fits_rest rooms starts n rest (usual_got ns i d usual l)
          (subst (AllFit rooms starts) next fit));
      so_far = search (rules, append_assoc);
    }

had_small : (rs : List Untyped) → are_regions rs ≡ true → had 0 rs ≤ length rs * 140737488355328
had_small [] h = omega arith
had_small (r ∷ rs) h =
    let p = and_parts (is_region r.paddr r.bits) (are_regions rs) h in
    let ih = had_small rs p.1 in
    let this = room_small 0 r p.0 in
    omega (arith, ih, this, sum_by-cons (room_bytes 0) r rs)

-- all regions have less than 64 bits can count
pub few_bytes : (rs rooms : List Untyped) → are_regions rs ≡ true → length rs ≤ 4096 → IsPermutation rs rooms
    → had 0 rooms < 2 ^ 64
few_bytes rs rooms sound few perm = omega (arith, had_small rs sound, few, sum_by-IsPermutation (room_bytes 0) rs rooms perm)

pub fit_all : (ns : List Need) (rs rooms : List Untyped) (starts : List ℕ) → HasRoom ns rs → IsPermutation rs rooms
    → AreStarts ns starts → AllFit rooms starts ns
fit_all ns rs rooms starts room perm s =
    all_fit ns rooms starts s (omega (arith, room 0, sum_by-IsPermutation (room_bytes 0) rs rooms perm))

-- what a writer of packed places answers
pub told : {E : Type 0} (ns : List Need) (rs rooms : List Untyped) (starts : List ℕ) (result : Result (List (Option ℕ)) E)
    → Placed ns rs (packed rooms starts ns) → IfOk result (λ places. places ≡ packed rooms starts ns) → IfOk result (Placed ns rs)
told ns rs rooms starts (Ok places) p e = subst (Placed ns rs) (sym e) p
told ns rs rooms starts (Err x) p e = tt
