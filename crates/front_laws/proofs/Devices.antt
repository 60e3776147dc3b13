-- The first object that needs a page of no device, or one that is taken; and where placed objects lie.
use Rattle.front_laws.proofs.Common.{AreServed, Block, Bool, DevicePage, HasDevice, IsDeviceRefusal, IsTaken, List, Need, NeedsPage, None, Nothing, Option, Some, Untyped, [], and_parts, ap, append-nil, append_assoc, arith, below, cases_Bool, cond}
use Rattle.front_laws.proofs.Common.{eq-eqb, eqb-true, false, filter_map, from_any, from_filter_map, get_behind, get_front, in_filter_map, in_place, inr, le-leb, leb, leb-true, length, length-append, list_any, no_device, not, option_or}
use Rattle.front_laws.proofs.Common.{place_of, refl, rules, shared_frame, slice_get, subst, suc, sym, true, true≢false, ℕ, ◌&&◌, ◌++◌, ◌+◌, ◌==◌, ◌∙◌, ◌∷◌, ◌≡◌}
use Rattle.std.proofs.lemmas.List.Elements.{filter_map-append}
use Rattle.boot_plan.specs.Devices.{device_refusal, has_page, is_needed}
use Rattle.boot_plan.specs.declared.plan_refusal.PlanRefusal.{PlanRefusal}
use Rattle.boot_plan.specs.declared.plan_refusal.PlanRefusal.TheVariants.{NoDevice, SharedFrame}
use Rattle.front_laws.proofs.First.{IsClean, first_of, from_first, from_none, in_first, in_none}
use Rattle.front_laws.proofs.Places.{at_split, front_get}
use Rattle.cam_base.proofs.NumberedLists.{in_any}

-- ---- tests

device_there : (rs : List Untyped) (paddr : ℕ) → list_any (has_page paddr) rs ≡ true → HasDevice rs paddr
device_there rs paddr t = search (rules, from_any, and_parts, leb, leb-true)

there_device : (rs : List Untyped) (paddr : ℕ) → HasDevice rs paddr → list_any (has_page paddr) rs ≡ true
there_device rs paddr h = search (rules, in_any, leb, le-leb)

-- ---- the walk

-- the page that a need is for
abbrev as_page : Need → Option ℕ
as_page (DevicePage paddr) = Some paddr
as_page _ = None

abbrev pages : List Need → List ℕ
pages ns = filter_map as_page ns

-- what is said of one object, behind these
abbrev said : List Untyped → List Need → Need → Option PlanRefusal
said rs before (DevicePage paddr) =
    cond (not (list_any (has_page paddr) rs)) (Some (NoDevice (length before)))
    (cond (is_needed paddr (pages before)) (Some (SharedFrame (length before))) None)
said rs before _ = None

pages_more : (before : List Need) (n : Need) → pages (before ++ n ∷ []) ≡ pages before ++ pages (n ∷ [])
pages_more before n = filter_map-append as_page before (n ∷ [])

as_first : (rs : List Untyped) (before ns : List Need) (k : ℕ) → k ≡ length before
    → device_refusal rs (pages before) k ns ≡ first_of (said rs) before ns
as_first rs before [] k e = refl
as_first rs before (Nothing ∷ ns) k e =
    ap (λ ps. device_refusal rs ps (k + 1) ns) (sym (append-nil (pages before)) ∙ sym (pages_more before Nothing))
    ∙ as_first rs (before ++ Nothing ∷ []) ns (k + 1) (omega (arith, e, length-append {A = Need}))
as_first rs before (Block bits ∷ ns) k e =
    ap (λ ps. device_refusal rs ps (k + 1) ns) (sym (append-nil (pages before)) ∙ sym (pages_more before (Block bits)))
    ∙ as_first rs (before ++ Block bits ∷ []) ns (k + 1) (omega (arith, e, length-append {A = Need}))
as_first rs before (DevicePage paddr ∷ ns) k e =
    by_tests (list_any (has_page paddr) rs) (is_needed paddr (pages before))
    (ap (λ ps. device_refusal rs ps (k + 1) ns) (sym (pages_more before (DevicePage paddr)))
    ∙ as_first rs (before ++ DevicePage paddr ∷ []) ns (k + 1) (omega (arith, e, length-append {A = Need})))
  where
    by_tests : (a b : Bool) → device_refusal rs (pages before ++ paddr ∷ []) (k + 1) ns ≡ first_of (said rs)
        (before ++ DevicePage paddr ∷ []) ns → cond (not a) (Some (NoDevice k))
        (cond b (Some (SharedFrame k)) (device_refusal rs (pages before ++ paddr ∷ []) (k + 1) ns))
        ≡ option_or (cond (not a) (Some (NoDevice (length before))) (cond b (Some (SharedFrame (length before))) None))
        (first_of (said rs) (before ++ DevicePage paddr ∷ []) ns)
    by_tests false b more = ap (λ n. Some (NoDevice n)) e
    by_tests true true more = ap (λ n. Some (SharedFrame n)) e
    by_tests true false more = more

-- ---- pages that are taken

taken_there : (ns before rest : List Need) (paddr : ℕ) (item : Need) → ns ≡ before ++ item ∷ rest
    → is_needed paddr (pages before) ≡ true → IsTaken ns (length before) paddr
taken_there ns before rest paddr item e t = search (rules, from_any, from_filter_map, place_of, eqb-true, below, get_front)

there_taken : (ns before rest : List Need) (paddr : ℕ) (item : Need) → ns ≡ before ++ item ∷ rest
    → IsTaken ns (length before) paddr → is_needed paddr (pages before) ≡ true
there_taken ns before rest paddr item e t =
    let P : List Need → Type 0 = λ z. slice_get z t.earlier ≡ Some (DevicePage paddr) in
    let here = front_get before (item ∷ rest) t.earlier (DevicePage paddr) (subst P e t.needs) t.before in
    in_any (λ p. p == paddr) (pages before) paddr (in_filter_map as_page (DevicePage paddr) paddr before
    (in_place (DevicePage paddr) before t.earlier here) refl) (eq-eqb paddr paddr refl)

-- ---- what is said, in words

-- nothing is said of the objects of a front exactly where they are served
served : (rs : List Untyped) (ns front rest : List Need) → ns ≡ front ++ rest → IsClean (said rs) [] front
    → AreServed rs ns (length front)
served rs ns front rest e clean i paddr l n =
    let P : List Need → Type 0 = λ z. slice_get z i ≡ Some (DevicePage paddr) in
    let s = at_split front i (DevicePage paddr) (front_get front rest i (DevicePage paddr) (subst P e n) l) in
    by_tests s.0 (s.1 ++ rest) (e ∙ ap (λ z. z ++ rest) s.2 ∙ append_assoc s.0 (DevicePage paddr ∷ s.1) rest) s.3
    (list_any (has_page paddr) rs) (is_needed paddr (pages s.0)) refl refl (clean s.0 s.1 (DevicePage paddr) s.2)
  where
    by_tests : (p q : List Need) → ns ≡ p ++ DevicePage paddr ∷ q → length p ≡ i → (a b : Bool) → list_any (has_page paddr) rs ≡ a
        → is_needed paddr (pages p) ≡ b
        → cond (not a) (Some (NoDevice (length p))) (cond b (Some (SharedFrame (length p))) None) ≡ None
        → HasDevice rs paddr × (IsTaken ns i paddr → ⊥)
    by_tests p q w m true false s t none =
        let P : ℕ → Type 0 = λ z. IsTaken ns z paddr in
        (device_there rs paddr s, λ k. true≢false (sym (there_taken ns p q paddr (DevicePage paddr) w (subst P (sym m) k)) ∙ t))
    by_tests p q w m _ _ s t none = cc

clean_served : (rs : List Untyped) (ns front rest : List Need) → ns ≡ front ++ rest → AreServed rs ns (length front)
    → IsClean (said rs) [] front
clean_served rs ns front rest e a p q (DevicePage paddr) s =
    let whole : ns ≡ p ++ DevicePage paddr ∷ (q ++ rest) = e ∙ ap (λ z. z ++ rest) s
    ∙ append_assoc p (DevicePage paddr ∷ q) rest in
    let many : length front ≡ length p + suc (length q) = ap length s ∙ length-append p (DevicePage paddr ∷ q) in
    let k = a (length p) paddr (omega (arith, many)) (subst (λ z. slice_get z (length p) ≡ Some (DevicePage paddr)) (sym whole)
    (get_behind p (DevicePage paddr ∷ (q ++ rest)) 0 (length p) (omega arith))) in
    by_test whole (is_needed paddr (pages p)) refl k
  where
    by_test : ns ≡ p ++ DevicePage paddr ∷ (q ++ rest) → (b : Bool) → is_needed paddr (pages p) ≡ b
        → HasDevice rs paddr × (IsTaken ns (length p) paddr → ⊥)
        → cond (not (list_any (has_page paddr) rs)) (Some (NoDevice (length p)))
        (cond (is_needed paddr (pages p)) (Some (SharedFrame (length p))) None) ≡ None
    by_test w true t k = absurd (k.1 (taken_there ns p (q ++ rest) paddr (DevicePage paddr) w t))
    by_test w false t k = search (rules, there_device)
clean_served rs ns front rest e a p q _ s = refl

from_said : (rs : List Untyped) (ns front rest : List Need) (item : Need) (x : PlanRefusal) → ns ≡ front ++ item ∷ rest
    → said rs front item ≡ Some x → IsClean (said rs) [] front → IsDeviceRefusal rs ns x
from_said rs ns front rest (DevicePage paddr) x e s clean =
    by_tests (list_any (has_page paddr) rs) (is_needed paddr (pages front)) refl refl s
  where
    here : NeedsPage ns (length front) paddr
    here = let P : List Need → Type 0 = λ z. slice_get z (length front) ≡ Some (DevicePage paddr) in
        subst P (sym e) (get_behind front (DevicePage paddr ∷ rest) 0 (length front) (omega arith))

    by_tests : (a b : Bool) → list_any (has_page paddr) rs ≡ a → is_needed paddr (pages front) ≡ b
        → cond (not a) (Some (NoDevice (length front))) (cond b (Some (SharedFrame (length front))) None) ≡ Some x
        → IsDeviceRefusal rs ns x
    by_tests false b t u says =
        let same : NoDevice (length front) ≡ x = cc in
        subst (λ z. IsDeviceRefusal rs ns z) same (no_device (length front) paddr here
        (λ h. true≢false (sym (there_device rs paddr h) ∙ t)) (served rs ns front (DevicePage paddr ∷ rest) e clean))
    by_tests true true t u says =
        let same : SharedFrame (length front) ≡ x = cc in
        subst (λ z. IsDeviceRefusal rs ns z) same (shared_frame (length front) paddr here (device_there rs paddr t)
        (taken_there ns front rest paddr (DevicePage paddr) e u) (served rs ns front (DevicePage paddr ∷ rest) e clean))
    by_tests true false t u says = cc
from_said rs ns front rest _ x e s clean = cc

pub from_refusal : (rs : List Untyped) (ns : List Need) (x : PlanRefusal) → device_refusal rs [] 0 ns ≡ Some x
    → IsDeviceRefusal rs ns x
from_refusal rs ns x e =
    let f = from_first (said rs) [] ns x (sym (as_first rs [] ns 0 refl) ∙ e) in
    from_said rs ns f.front f.rest f.item x f.split f.says f.clean

-- object k of the objects, with all in front of it
says_at : (rs : List Untyped) (ns : List Need) (k paddr : ℕ) (x : PlanRefusal) → NeedsPage ns k paddr → AreServed rs ns k
    → ((front rest : List Need) → ns ≡ front ++ DevicePage paddr ∷ rest → length front ≡ k
    → said rs front (DevicePage paddr) ≡ Some x) → device_refusal rs [] 0 ns ≡ Some x
says_at rs ns k paddr x n a says =
    let s = at_split ns k (DevicePage paddr) n in
    let P : ℕ → Type 0 = λ z. AreServed rs ns z in
    let Q : List Need → Type 0 = λ z. first_of (said rs) [] z ≡ Some x in
    as_first rs [] ns 0 refl ∙ subst Q (sym s.2) (in_first (said rs) [] s.0 (DevicePage paddr) s.1 x (says s.0 s.1 s.2 s.3)
    (clean_served rs ns s.0 (DevicePage paddr ∷ s.1) s.2 (subst P (sym s.3) a)))

pub in_refusal : (rs : List Untyped) (ns : List Need) (x : PlanRefusal) → IsDeviceRefusal rs ns x
    → device_refusal rs [] 0 ns ≡ Some x
in_refusal rs ns x (no_device k paddr n none a) = says_at rs ns k paddr (NoDevice k) n a (λ front rest e l.
    let t : list_any (has_page paddr) rs ≡ false = search (rules, cases_Bool, device_there) in
    ap (λ z. cond (not z) (Some (NoDevice (length front)))
    (cond (is_needed paddr (pages front)) (Some (SharedFrame (length front))) None)) t ∙ ap (λ z. Some (NoDevice z)) l)
in_refusal rs ns x (shared_frame k paddr n has taken a) = says_at rs ns k paddr (SharedFrame k) n a (λ front rest e l.
    let P : ℕ → Type 0 = λ z. IsTaken ns z paddr in
    ap (λ z. cond (not z) (Some (NoDevice (length front)))
    (cond (is_needed paddr (pages front)) (Some (SharedFrame (length front))) None)) (there_device rs paddr has)
    ∙ ap (λ z. cond z (Some (SharedFrame (length front))) None) (there_taken ns front rest paddr (DevicePage paddr) e
    (subst P (sym l) taken)) ∙ ap (λ z. Some (SharedFrame z)) l)

pub from_no_refusal : (rs : List Untyped) (ns : List Need) → device_refusal rs [] 0 ns ≡ None → AreServed rs ns (length ns)
from_no_refusal rs ns e =
    served rs ns ns [] (sym (append-nil ns)) (from_none (said rs) [] ns (sym (as_first rs [] ns 0 refl) ∙ e))

pub in_no_refusal : (rs : List Untyped) (ns : List Need) → AreServed rs ns (length ns) → device_refusal rs [] 0 ns ≡ None
in_no_refusal rs ns a = as_first rs [] ns 0 refl ∙ in_none (said rs) [] ns (clean_served rs ns ns [] (sym (append-nil ns)) a)
