-- Pages of devices: which regions have them, and which are needed already.
use Rattle.boot_plan.proofs.Common.{Block, Bool, DevicePage, Err, IfOk, IsIndexOf, IsPermutation, IsSetOf, List, Need, NoDevice, None, Nothing, Ok, Option, PlanRefusal, Result, SharedFrame, Some, Untyped, [], and_parts, ap, are_usual, arith}
use Rattle.boot_plan.proofs.Common.{at_drop_all, at_drop_more, cases_lt, cond, device_refusal, drop, eqb-true, false, get_or, has_page, has_pages, is_needed, is_region, is_usual, le-leb, le-ltb, leb, leb-true, length, list_any}
use Rattle.boot_plan.proofs.Common.{list_any-IsPermutation, list_any-append, list_any_more, lt-ltb, nat_lt, nat_tests, not, page, pages_of, refl, region_end, subst, sym, take, take_all, take_more, true, ℕ, ⊎_elim, ◌%◌, ◌&&◌, ◌++◌, ◌+◌, ◌<◌, ◌==◌}
use Rattle.boot_plan.proofs.Common.{rules, ◌^◌, ◌||◌, ◌∙◌, ◌∷◌, ◌≡◌, ◌≤◌}
use Rattle.std.proofs.lemmas.List.{append-nil}
use Rattle.std.specs.BTreeSet.{BTreeSet, contains}
use Rattle.std.specs.Ordering.{is_eq, nat_cmp}
use Rattle.std.proofs.Math.Bool.{or-false}
use Rattle.cam_base.proofs.Orders.{is_eq-nat_cmp}
use Rattle.boot_plan.proofs.Multiples.{Multiple, multiple_add, multiple_coarse, multiple_from, multiple_gap, multiple_one}
use Rattle.boot_plan.proofs.Powers.{pow_le}
use Rattle.boot_plan.proofs.Usual.{region_parts, usual_got}
use Rattle.name_tables.specs.Sharing.{shares}
use Rattle.name_tables.specs.declared.region.Region.{Region}

no_le : (n m : ℕ) → m < n → leb n m ≡ false
no_le n m h = grind (arith, nat_tests)

-- a great region of a device shares something with a page where it has the page
pub great_region : (paddr : ℕ) (r : Untyped) → is_region r.paddr r.bits ≡ true → 12 ≤ r.bits → r.device ≡ true → paddr % 4096 ≡ 0
    → shares (page paddr) (pages_of r) ≡ has_page paddr r
great_region paddr r sound great device at = ⊎_elim
    (λ a. ⊎_elim (λ b. within a b) (λ b. behind a b) (cases_lt r.paddr (paddr + 4096)))
    (λ a. ⊎_elim (λ b. in_front a b) (λ b. absurd (omega (arith, a, b))) (cases_lt r.paddr (paddr + 4096)))
    (cases_lt paddr (region_end r))
  where
    size : 2 ^ 12 ≡ 4096
    size = refl

    begin : Multiple 12 r.paddr
    begin = multiple_coarse 12 r.bits r.paddr great (multiple_from r.bits r.paddr (region_parts r.paddr r.bits sound).2)

    end : Multiple 12 (region_end r)
    end = multiple_add 12 r.paddr (2 ^ r.bits) begin (multiple_coarse 12 r.bits (2 ^ r.bits) great (multiple_one r.bits))

    here : Multiple 12 paddr
    here = multiple_from 12 paddr at

    begins : r.paddr < paddr + 4096 → r.paddr ≤ paddr
    begins b = ⊎_elim (λ lt. let g = multiple_gap 12 paddr r.paddr here begin lt in absurd (omega (arith, g, b, size))) (λ ge. ge)
        (cases_lt paddr r.paddr)

    within : paddr < region_end r → r.paddr < paddr + 4096 → shares (page paddr) (pages_of r) ≡ has_page paddr r
    within a b = search (rules, multiple_gap, here, end, nat_lt, lt-ltb, leb, le-leb, begins, size)

    behind : paddr < region_end r → paddr + 4096 ≤ r.paddr → shares (page paddr) (pages_of r) ≡ has_page paddr r
    behind a b = search (rules, nat_lt, lt-ltb, le-ltb, leb, no_le)

    in_front : region_end r ≤ paddr → r.paddr < paddr + 4096 → shares (page paddr) (pages_of r) ≡ has_page paddr r
    in_front a b = search (rules, nat_lt, le-ltb, leb, le-leb, begins, no_le)

-- a small region has no page
pub small_region : (paddr : ℕ) (r : Untyped) → r.bits < 12 → has_page paddr r ≡ false
small_region paddr r small = search (rules, leb, pow_le, leb-true)

device_only : (paddr : ℕ) (r : Untyped) → r.device ≡ false → has_page paddr r ≡ false
device_only paddr r d = rw d refl

-- ---- the index

-- what is found of the first so many regions
pub AreFound : List Untyped → ℕ → List Region → Type 0
AreFound rs i found = (paddr : ℕ) → paddr % 4096 ≡ 0
    → list_any (shares (page paddr)) found ≡ list_any (has_page paddr) (take i rs)

pub found_none : (rs : List Untyped) → AreFound rs 0 []
unfolding AreFound
found_none rs = λ paddr h. refl

pub found_more : (rs : List Untyped) (i : ℕ) (d : Untyped) (found new : List Region) → i < length rs
    → is_region (get_or rs i d).paddr (get_or rs i d).bits ≡ true → 12 ≤ (get_or rs i d).bits → (get_or rs i d).device ≡ true
    → AreFound rs i found → new ≡ found ++ pages_of (get_or rs i d) ∷ [] → AreFound rs (i + 1) new
unfolding AreFound
found_more rs i d found new l sound great device so_far pushed = λ paddr at.
    ap (list_any (shares (page paddr))) pushed
    ∙ list_any-append (shares (page paddr)) found (pages_of (get_or rs i d) ∷ [])
    ∙ ap (λ t. list_any (shares (page paddr)) found || t) (or-false (shares (page paddr) (pages_of (get_or rs i d))))
    ∙ ap (λ t. t || shares (page paddr) (pages_of (get_or rs i d))) (so_far paddr at)
    ∙ ap (λ t. list_any (has_page paddr) (take i rs) || t) (great_region paddr (get_or rs i d) sound great device at)
    ∙ sym (list_any_more (has_page paddr) rs i d l)

pub found_still : (rs : List Untyped) (i : ℕ) (d : Untyped) (found : List Region) → i < length rs
    → ((paddr : ℕ) → has_page paddr (get_or rs i d) ≡ false) → AreFound rs i found → AreFound rs (i + 1) found
unfolding AreFound
found_still rs i d found l none so_far = λ paddr at.
    so_far paddr at
    ∙ sym (or-false (list_any (has_page paddr) (take i rs)))
    ∙ ap (λ t. list_any (has_page paddr) (take i rs) || t) (sym (none paddr))
    ∙ sym (list_any_more (has_page paddr) rs i d l)

-- a region that has pages, and one that has none
pub found_pages : (rs : List Untyped) (i : ℕ) (d : Untyped) (found new : List Region) → i < length rs
    → is_region (get_or rs i d).paddr (get_or rs i d).bits ≡ true → has_pages (get_or rs i d) ≡ true
    → AreFound rs i found → new ≡ found ++ pages_of (get_or rs i d) ∷ [] → AreFound rs (i + 1) new
found_pages rs i d found new l sound has so_far pushed = search (rules, and_parts, leb, found_more, leb-true)

no_pages : (r : Untyped) → has_pages r ≡ false → (paddr : ℕ) → has_page paddr r ≡ false
no_pages r h paddr = search (rules, leb, nat_tests, device_only, small_region)

pub found_no_pages : (rs : List Untyped) (i : ℕ) (d : Untyped) (found : List Region) → i < length rs
    → has_pages (get_or rs i d) ≡ false → AreFound rs i found → AreFound rs (i + 1) found
found_no_pages rs i d found l none so_far = found_still rs i d found l (λ paddr. no_pages (get_or rs i d) none paddr) so_far

-- what the index tells of the page of an object
pub page_told : (rs : List Untyped) (index : List Region) (ns : List Need) (i : ℕ) (d : Need) (paddr : ℕ) (b : Bool)
    → IsIndexOf rs index → i < length ns → are_usual ns ≡ true → get_or ns i d ≡ DevicePage paddr
    → b ≡ list_any (shares (page paddr)) index → list_any (has_page paddr) rs ≡ b
page_told rs index ns i d paddr b told l usual is e =
    let u : is_usual (DevicePage paddr) ≡ true = subst (λ n. is_usual n ≡ true) is (usual_got ns i d usual l) in
    sym (told paddr (eqb-true (paddr % 4096) 0 u)) ∙ sym e

indexed : (rs : List Untyped) (i : ℕ) (found index : List Region) → length rs ≤ i → AreFound rs i found
    → IsPermutation found index → IsIndexOf rs index
unfolding AreFound
indexed rs i found index l so_far perm = λ paddr at. sym (list_any-IsPermutation (shares (page paddr)) found index perm)
    ∙ so_far paddr at ∙ ap (list_any (has_page paddr)) (take_all i rs l)

pub index_told : {E : Type 0} (rs : List Untyped) (i : ℕ) (found all : List Region) (result : Result (List Region) E)
    → length rs ≤ i → AreFound rs i found → all ≡ found → IfOk result (λ index. IsPermutation all index)
    → IfOk result (IsIndexOf rs)
index_told rs i found all (Ok index) l so_far e perm =
    indexed rs i found index l so_far (subst (λ regions. IsPermutation regions index) e perm)
index_told rs i found all (Err x) l so_far e perm = tt

-- ---- the pages that are needed already

-- the pages of devices that needs name
pub pages : List Need → List ℕ
pages [] = []
pages (Nothing ∷ ns) = pages ns
pages (DevicePage paddr ∷ ns) = paddr ∷ pages ns
pages (Block bits ∷ ns) = pages ns

pages_append : (ns ms : List Need) → pages (ns ++ ms) ≡ pages ns ++ pages ms
unfolding pages
pages_append [] ms = refl
pages_append (Nothing ∷ ns) ms = pages_append ns ms
pages_append (DevicePage paddr ∷ ns) ms = ap (λ k. paddr ∷ k) (pages_append ns ms)
pages_append (Block bits ∷ ns) ms = pages_append ns ms

-- the refusal from a place on
pub refusal_from : List Untyped → List Need → ℕ → Option PlanRefusal
refusal_from rs ns i = device_refusal rs (pages (take i ns)) i (drop i ns)

pages_next : (ns : List Need) (i : ℕ) (d : Need) → i < length ns → pages (take (i + 1) ns) ≡ pages (take i ns)
    ++ pages (get_or ns i d ∷ [])
pages_next ns i d l = ap pages (take_more ns i d l) ∙ pages_append (take i ns) (get_or ns i d ∷ [])

at_next : (rs : List Untyped) (ns : List Need) (i : ℕ) (d : Need) → i < length ns
    → refusal_from rs ns i ≡ device_refusal rs (pages (take i ns)) i (get_or ns i d ∷ drop (i + 1) ns)
unfolding refusal_from
at_next rs ns i d l = at_drop_more (device_refusal rs (pages (take i ns)) i) ns i d l

pub record Skips (rs : List Untyped) (ns : List Need) (i : ℕ) : Type 0 where
  pub refusal : refusal_from rs ns i ≡ refusal_from rs ns (i + 1)
  pub before : pages (take (i + 1) ns) ≡ pages (take i ns)

-- an object that needs no page of a device
pub skip : (rs : List Untyped) (ns : List Need) (i : ℕ) (d : Need) → i < length ns
    → ((paddr : ℕ) → get_or ns i d ≡ DevicePage paddr → ⊥) → Skips rs ns i
unfolding refusal_from pages
skip rs ns i d l none = go (get_or ns i d) refl
  where
    here : (n : Need) → get_or ns i d ≡ n → pages (n ∷ []) ≡ [] → pages (take (i + 1) ns) ≡ pages (take i ns)
    here n e f = pages_next ns i d l ∙ ap (λ k. pages (take i ns) ++ k) (ap (λ m. pages (m ∷ [])) e ∙ f)
        ∙ append-nil (pages (take i ns))

    made : (n : Need) → get_or ns i d ≡ n → pages (n ∷ []) ≡ []
        → ((before : List ℕ) (ms : List Need) → device_refusal rs before i (n ∷ ms) ≡ device_refusal rs before (i + 1) ms)
        → Skips rs ns i
    made n e f g = search (rules, here, at_next, pages)

    go : (n : Need) → get_or ns i d ≡ n → Skips rs ns i
    go Nothing e = made Nothing e refl (λ before ms. refl)
    go (DevicePage paddr) e = absurd (none paddr e)
    go (Block bits) e = made (Block bits) e refl (λ before ms. refl)

page_here : (rs : List Untyped) (ns : List Need) (i : ℕ) (d : Need) (paddr : ℕ) → i < length ns → get_or ns i d ≡ DevicePage paddr
    → refusal_from rs ns i ≡ cond (not (list_any (has_page paddr) rs)) (Some (NoDevice i))
    (cond (is_needed paddr (pages (take i ns))) (Some (SharedFrame i)) (device_refusal rs (pages (take i ns) ++ paddr ∷ [])
    (i + 1) (drop (i + 1) ns)))
page_here rs ns i d paddr l e = at_next rs ns i d l ∙ ap (λ m. device_refusal rs (pages (take i ns)) i (m ∷ drop (i + 1) ns)) e

pub no_page : (rs : List Untyped) (ns : List Need) (i : ℕ) (d : Need) (paddr : ℕ) → i < length ns
    → get_or ns i d ≡ DevicePage paddr → list_any (has_page paddr) rs ≡ false → refusal_from rs ns i ≡ Some (NoDevice i)
no_page rs ns i d paddr l e f = page_here rs ns i d paddr l e ∙ rw f refl

pub shared_page : (rs : List Untyped) (ns : List Need) (i : ℕ) (d : Need) (paddr : ℕ) → i < length ns
    → get_or ns i d ≡ DevicePage paddr → list_any (has_page paddr) rs ≡ true → is_needed paddr (pages (take i ns)) ≡ true
    → refusal_from rs ns i ≡ Some (SharedFrame i)
shared_page rs ns i d paddr l e f g = page_here rs ns i d paddr l e ∙ rw (f, g) refl

pub record Goes (rs : List Untyped) (ns : List Need) (i paddr : ℕ) : Type 0 where
  pub refusal : refusal_from rs ns i ≡ refusal_from rs ns (i + 1)
  pub before : pages (take (i + 1) ns) ≡ pages (take i ns) ++ paddr ∷ []

pub new_page : (rs : List Untyped) (ns : List Need) (i : ℕ) (d : Need) (paddr : ℕ) → i < length ns
    → get_or ns i d ≡ DevicePage paddr → list_any (has_page paddr) rs ≡ true → is_needed paddr (pages (take i ns)) ≡ false
    → Goes rs ns i paddr
unfolding refusal_from pages
new_page rs ns i d paddr l e f g =
    let before : pages (take (i + 1) ns) ≡ pages (take i ns) ++ paddr ∷ [] = pages_next ns i d l
    ∙ ap (λ m. pages (take i ns) ++ pages (m ∷ [])) e in
    record {
      refusal = page_here rs ns i d paddr l e ∙ rw (f, g) (ap (λ b. device_refusal rs b (i + 1) (drop (i + 1) ns)) (sym before));
      before = before;
    }

pub refusal_begin : (rs : List Untyped) (ns : List Need) → refusal_from rs ns 0 ≡ device_refusal rs [] 0 ns
unfolding refusal_from pages
refusal_begin rs ns = refl

pub refusal_end : (rs : List Untyped) (ns : List Need) (i : ℕ) → length ns ≤ i → refusal_from rs ns i ≡ None
unfolding refusal_from
refusal_end rs ns i h = at_drop_all (device_refusal rs (pages (take i ns)) i) ns i h

-- ---- the set of these pages

pub set_begin : (ns : List Need) (set : BTreeSet ℕ) → set.keys ≡ [] → IsSetOf (pages (take 0 ns)) set
unfolding pages
set_begin ns set e = λ paddr. rw e refl

or_cond : (a b : Bool) → cond a true b ≡ (b || (a || false))
or_cond true true = refl
or_cond true false = refl
or_cond false true = refl
or_cond false false = refl

pub set_more : (before after : List ℕ) (old new : BTreeSet ℕ) (paddr : ℕ) → IsSetOf before old
    → ((q : ℕ) → contains nat_cmp new q ≡ cond (is_eq (nat_cmp paddr q)) true (contains nat_cmp old q))
    → after ≡ before ++ paddr ∷ [] → IsSetOf after new
set_more before after old new paddr so_far step is = search (rules, is_eq-nat_cmp, or_cond, list_any-append)

-- a page is new in the set, or not
pub set_told : (before : List ℕ) (set : BTreeSet ℕ) (paddr : ℕ) (new b : Bool) → IsSetOf before set
    → new ≡ not (contains nat_cmp set paddr) → new ≡ not b → is_needed paddr before ≡ b
set_told before set paddr new b so_far is e = search (rules)

pub set_still : (before after : List ℕ) (set : BTreeSet ℕ) → IsSetOf before set → after ≡ before → IsSetOf after set
set_still before after set h e = λ q. h q ∙ ap (is_needed q) (sym e)
