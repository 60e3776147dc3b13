-- Which refusals the pages of devices make, and which the want of room.
use Rattle.boot_plan.proofs.Common.{AreFree, Block, Bool, DevicePage, IsRoomTold, List, Need, NoDevice, NoMemory, NoRoom, None, Nothing, Option, Overlap, PlanRefusal, Refuses, SharedFrame, Some, Untyped, [], device_refusal, false, first_overlap}
use Rattle.boot_plan.proofs.Common.{has_page, is_needed, list_any, refl, refused_overlap, subst, true, ℕ, ◌++◌, ◌+◌, ◌∷◌, ◌≡◌}
use Rattle.boot_plan.proofs.Necessity.{none_where_lacking}

IsOfPage : PlanRefusal → Type 0
IsOfPage (NoDevice frame) = Unit {0}
IsOfPage (SharedFrame frame) = Unit {0}
IsOfPage _ = ⊥

of_page : (rs : List Untyped) (before : List ℕ) (k : ℕ) (ns : List Need) (r : PlanRefusal)
    → device_refusal rs before k ns ≡ Some r → IsOfPage r
unfolding IsOfPage
of_page rs before k [] r e = absurd cc
of_page rs before k (Nothing ∷ ns) r e = of_page rs before (k + 1) ns r e
of_page rs before k (Block bits ∷ ns) r e = of_page rs before (k + 1) ns r e
of_page rs before k (DevicePage paddr ∷ ns) r e = there (list_any (has_page paddr) rs) refl
    (λ h. of_page rs (before ++ paddr ∷ []) (k + 1) ns r h)
  where
    same : (q : PlanRefusal) → IsOfPage q → Some q ≡ Some r → IsOfPage r
    same q h f = let g : q ≡ r = cc in subst IsOfPage g h

    new : (b : Bool) → list_any (has_page paddr) rs ≡ true → is_needed paddr before ≡ b
        → (device_refusal rs (before ++ paddr ∷ []) (k + 1) ns ≡ Some r → IsOfPage r) → IsOfPage r
    new true t n ih = same (SharedFrame k) tt (rw (t, n) at e)
    new false t n ih = ih (rw (t, n) at e)

    there : (b : Bool) → list_any (has_page paddr) rs ≡ b → (device_refusal rs (before ++ paddr ∷ []) (k + 1) ns ≡ Some r
        → IsOfPage r) → IsOfPage r
    there true t ih = new (is_needed paddr before) t refl ih
    there false t ih = same (NoDevice k) tt (rw t at e)

pub none_overlap : (o : Option (ℕ × ℕ)) → refused_overlap o ≡ None → o ≡ None
none_overlap None e = refl
none_overlap (Some (first, second)) e = absurd cc

pub refuses_page : (ns : List Need) (rs : List Untyped) (r : PlanRefusal) → refused_overlap (first_overlap rs) ≡ None
    → device_refusal rs [] 0 ns ≡ Some r → Refuses ns rs r
unfolding IsOfPage
refuses_page ns rs (Overlap first second) o e = absurd (of_page rs [] 0 ns (Overlap first second) e)
refuses_page ns rs (NoDevice frame) o e = (none_overlap (first_overlap rs) o, e)
refuses_page ns rs (SharedFrame frame) o e = (none_overlap (first_overlap rs) o, e)
refuses_page ns rs (NoRoom bits need have) o e = absurd (of_page rs [] 0 ns (NoRoom bits need have) e)
refuses_page ns rs NoMemory o e = tt

pub refuses_room : (ns : List Need) (rs : List Untyped) (r : PlanRefusal) → AreFree ns rs → IsRoomTold ns rs (Some r)
    → Refuses ns rs r
refuses_room ns rs (Overlap first second) free l = absurd l
refuses_room ns rs (NoDevice frame) free l = absurd l
refuses_room ns rs (SharedFrame frame) free l = absurd l
refuses_room ns rs (NoRoom bits need have) free l =
    (free, l, λ places placed. none_where_lacking ns rs places bits need have l placed)
refuses_room ns rs NoMemory free l = absurd l
