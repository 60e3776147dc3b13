-- The first line of a text of regions that is refused.
use Rattle.front_laws.proofs.Common.{Bool, Err, Line, List, None, Ok, Option, Result, Some, Untyped, [], ap, arith, bytes_eq, bytes_eq-Decides, cases_Bool, codes, cond, false, fields, in_right, inl, inr, length, length-append, lines, lt-ltb}
use Rattle.front_laws.proofs.Common.{ltb-true, nat_lt, nat_tests, option_or, refl, rules, split_in, suc, sym, true, true≢false, ℕ, ◌++◌, ◌+◌, ◌<◌, ◌∙◌, ◌∷◌, ◌≡◌, ◌≤◌, ◌⊎◌}
use Rattle.boot_plan.specs.UntypedTexts.{fault, fault_at, fault_in, first_bad, first_fault, judged, line_given, region_of, regions_limit, unless_bad}
use Rattle.boot_plan.specs.declared.untyped.UntypedCode.TheVariants as untyped
use Rattle.boot_plan.specs.declared.untyped.UntypedFault.{UntypedFault}
use Rattle.cam_base.specs.Gather.{IsIn}
use Rattle.front_laws.specs.ReadTexts.{AreRegionsRead, HasHead, IsRegionFault, IsRegionLine, SpellsRegion, no_head, no_region, one_region_more}
use Rattle.front_laws.proofs.First.{First, IsClean, first_of, from_first, from_none, in_first, in_none}

-- what is said of a line, behind these
abbrev bad_of : Result Untyped UntypedFault → Option UntypedFault
bad_of (Ok r) = None
bad_of (Err f) = Some f

abbrev said : List Line → Line → Option UntypedFault
said before line = bad_of (line_given (length before) line)

given_or : (r : Result Untyped UntypedFault) (o : Option UntypedFault) → unless_bad r o ≡ option_or (bad_of r) o
given_or (Ok r) o = refl
given_or (Err f) o = refl

as_first : (before ls : List Line) (n : ℕ) → n ≡ length before → first_bad n ls ≡ first_of said before ls
as_first before [] n e = refl
as_first before (l ∷ ls) n e =
    given_or (line_given n l) (first_bad (n + 1) ls) ∙ ap (λ z. option_or (bad_of (line_given z l)) (first_bad (n + 1) ls)) e
    ∙ ap (option_or (said before l)) (as_first (before ++ l ∷ []) ls (n + 1) (omega (arith, e, length-append before (l ∷ []))))

-- ---- one line

read_clean : (before : List Line) (l : Line) → said before l ≡ None → SpellsRegion l × (length before < regions_limit)
read_clean before l e = by_region (region_of (fields l.text)) refl e
  where
    by_region : (o : Option Untyped) → region_of (fields l.text) ≡ o → bad_of (judged (length before) l o) ≡ None
        → SpellsRegion l × (length before < regions_limit)
    by_region None s e = cc
    by_region (Some r) s e = grind (arith, nat_lt, ltb-true)

clean_read : (before : List Line) (l : Line) → SpellsRegion l → length before < regions_limit → said before l ≡ None
clean_read before l r m = search (rules, lt-ltb)

-- ---- the lines in front

all_read : (front : List Line) → IsClean said [] front → (l : Line) → IsIn l front → SpellsRegion l
all_read front clean l i = let s = split_in front l i in (read_clean s.0 l (clean s.0 s.1 l s.2)).0

-- a list that isn't empty has a last element
pub last_of : {X : Type 0} (x : X) (xs : List X) → (front : List X) × (last : X) × (x ∷ xs ≡ front ++ last ∷ [])
last_of x [] = ([], x, refl)
last_of x (y ∷ xs) = let r = last_of y xs in (x ∷ r.0, r.1, ap (λ z. x ∷ z) r.2)

few : (front : List Line) → IsClean said [] front → length front ≤ regions_limit
few [] clean = omega arith
few (x ∷ xs) clean =
    let r = last_of x xs in
    let many : suc (length xs) ≡ length r.0 + 1 = ap length r.2 ∙ length-append r.0 (r.1 ∷ []) in
    omega (arith, (read_clean r.0 r.1 (clean r.0 [] r.1 r.2)).1, many)

all_clean : (front : List Line) → ((l : Line) → IsIn l front → SpellsRegion l) → length front ≤ regions_limit
    → IsClean said [] front
all_clean front read low p q y e = search (rules, length-append, clean_read, in_right)

-- ---- a text

-- what the first line says
head_case : (ls : List Line) → ((l : Line) × (more : List Line) × (ls ≡ l ∷ more) × (bytes_eq l.text (codes "untypeds 1") ≡ true))
    ⊎ (((l : Line) (more : List Line) → ls ≡ l ∷ more → l.text ≡ codes "untypeds 1" → ⊥)
    × (fault_in ls ≡ Some (fault untyped.Syntax 0 0)))
head_case [] = inr (λ l more e s. cc, refl)
head_case (l ∷ more) = search (rules, cases_Bool, bytes_eq-Decides)

with_head : (bytes : List ℕ) (more : List Line) → HasHead bytes more → first_fault bytes ≡ first_bad 0 more
with_head bytes more h = search (rules, bytes_eq-Decides)

-- a text without its first line
headless : (bytes : List ℕ) → ((more : List Line) → HasHead bytes more → ⊥) → first_fault bytes ≡ Some (fault untyped.Syntax 0 0)
headless bytes none = elim (head_case (lines bytes)) [
  | inl x ↦ absurd (none x.1 (record { head = x.0; all = x.2; says = (bytes_eq-Decides x.0.text (codes "untypeds 1")).0 x.3 }))
  | inr e ↦ e.1
]

-- the fault at a line, by what the line spells
at_line : (bytes : List ℕ) (f : UntypedFault) (more : List Line) → HasHead bytes more → First said [] more f
    → IsRegionFault bytes f
at_line bytes f more h r = by_region (region_of (fields r.item.text)) refl r.says
  where
    here : IsRegionLine more r.front r.item
    here = record { after = r.rest; split = r.split; read = all_read r.front r.clean; room = few r.front r.clean }

    by_region : (o : Option Untyped) → region_of (fields r.item.text) ≡ o → bad_of (judged (length r.front) r.item o) ≡ Some f
        → IsRegionFault bytes f
    by_region None s e = let same : fault_at untyped.Syntax r.item ≡ f = cc in no_region more r.front r.item h here s (sym same)
    by_region (Some x) s e = by_room (nat_lt (length r.front) regions_limit) refl e
      where
        by_room : (b : Bool) → nat_lt (length r.front) regions_limit ≡ b
            → bad_of (cond b (Ok x) (Err (fault_at untyped.Limit r.item))) ≡ Some f → IsRegionFault bytes f
        by_room true t e = cc
        by_room false t e =
            let same : fault_at untyped.Limit r.item ≡ f = cc in
            let most : regions_limit ≤ length r.front = grind (arith, nat_tests) in
            one_region_more more r.front r.item h here (x, s) (omega (arith, few r.front r.clean, most)) (sym same)

pub from_region_fault : (bytes : List ℕ) (f : UntypedFault) → first_fault bytes ≡ Some f → IsRegionFault bytes f
from_region_fault bytes f e = elim (head_case (lines bytes)) [
  | inl x ↦
      let h : HasHead bytes x.1 = search (rules, bytes_eq-Decides) in
      at_line bytes f x.1 h (from_first said [] x.1 f (sym (as_first [] x.1 0 refl) ∙ sym (with_head bytes x.1 h) ∙ e))
  | inr t ↦ search (rules)
]

pub in_region_fault : (bytes : List ℕ) (f : UntypedFault) → IsRegionFault bytes f → first_fault bytes ≡ Some f
in_region_fault bytes f (no_head none e) = headless bytes none ∙ ap Some (sym e)
in_region_fault bytes f (no_region more before line h r none e) =
    with_head bytes more h ∙ as_first [] more 0 refl ∙ ap (first_of said []) r.split ∙ in_first said [] before line r.after f
    (ap (λ o. bad_of (judged (length before) line o)) none ∙ ap Some (sym e)) (all_clean before r.read r.room)
in_region_fault bytes f (one_region_more more before line h r s full e) =
    let past : nat_lt (length before) regions_limit ≡ false = grind (arith, nat_tests) in
    with_head bytes more h ∙ as_first [] more 0 refl ∙ ap (first_of said []) r.split ∙ in_first said [] before line r.after f
    (ap (λ o. bad_of (judged (length before) line o)) s.1 ∙ ap (λ b. bad_of (cond b (Ok s.0) (Err (fault_at untyped.Limit line))))
    past ∙ ap Some (sym e)) (all_clean before r.read r.room)

pub from_no_fault : (bytes : List ℕ) → first_fault bytes ≡ None → AreRegionsRead bytes
from_no_fault bytes e = elim (head_case (lines bytes)) [
  | inl x ↦
      let h : HasHead bytes x.1 = search (rules, bytes_eq-Decides) in
      let clean = from_none said [] x.1 (sym (as_first [] x.1 0 refl) ∙ sym (with_head bytes x.1 h) ∙ e) in
      record { more = x.1; head = h; read = all_read x.1 clean; few = few x.1 clean }
  | inr t ↦ absurd (let says = t.1 in cc)
]

pub in_no_fault : (bytes : List ℕ) → AreRegionsRead bytes → first_fault bytes ≡ None
in_no_fault bytes a = with_head bytes a.more a.head ∙ as_first [] a.more 0 refl
    ∙ in_none said [] a.more (all_clean a.more a.read a.few)
