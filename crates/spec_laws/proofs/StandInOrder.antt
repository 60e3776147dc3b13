-- Kind stands behind kind, and each kind by its numbers
use Rattle.spec_laws.proofs.Common.{CanSlot, Directory, FrameOf, HasNumber, IsIn, Level, List, OfDomain, Part, Some, StandInOrder, Tables, [], ap, arith, endpoint, entry, entry_name, get_map, get_or, in_place, inl, inr, irq, length, length-map}
use Rattle.spec_laws.proofs.Common.{level_series, lock, notification, part, parts, place_of, rank, refl, sections, slice_get, slice_get-get_or, slice_get_within, spec_of, split_get, subst, suc, ℕ, ◌++◌, ◌+◌, ◌<◌, ◌∷◌, ◌≡◌, ◌≤◌, below, sym}
use Rattle.spec_laws.proofs.Common.{rules, table_part, all_tables, page_table}
use Rattle.system_spec.specs.declared.series.Series.TheVariants as series
use Rattle.spec_laws.proofs.Numbering.{irqs_before, lock_numbered}
use Rattle.spec_laws.proofs.Sections.{in_section, told}
use Rattle.spec_laws.proofs.Uses.{uses_are}
use Rattle.system_spec.specs.Parts.{together}
use Rattle.spec_laws.proofs.EachPart.{of_every}
use Rattle.page_tables.specs.Levels.{level_of}

-- ---- order

-- the first of two parts may stand before the second
record ComesBefore (p q : Part) : Type 0 where
  kinds : rank p.series ≤ rank q.series
  numbers : p.series ≡ q.series → p.number < q.number

-- of any two, the one that stands before the other may
abbrev Rise : List Part → Type 0
Rise ps = (i j : ℕ) (p q : Part) → slice_get ps i ≡ Some p → slice_get ps j ≡ Some q → i < j → ComesBefore p q

rise_together : (ps qs : List Part) → Rise ps → Rise qs → ((p q : Part) → IsIn p ps → IsIn q qs → ComesBefore p q)
    → Rise (ps ++ qs)
rise_together ps qs a b cross i j p q e f less = elim (split_get ps qs i p e) [
  | inl first ↦ elim (split_get ps qs j q f) [
    | inl second ↦ a i j p q first second less
    | inr second ↦ cross p q (in_place p ps i first) (in_place q qs second.0 second.2)
  ]
  | inr first ↦ elim (split_get ps qs j q f) [
    | inl second ↦
        absurd (omega (arith, slice_get_within ps j q second, first.1, less))
    | inr second ↦
        b first.0 second.0 p q first.2 second.2 (omega (arith, first.1, second.1, less))
  ]
]

-- a section of one rank, whose numbers rise
record IsSection (n : ℕ) (ps : List Part) : Type 0 where
  ranked : (p : Part) → IsIn p ps → rank p.series ≡ n
  rises : Rise ps

sections_rise : (n : ℕ) (ss : List (List Part))
    → ((k : ℕ) (ps : List Part) → slice_get ss k ≡ Some ps → IsSection (n + k) ps) → Rise (together ss)
sections_rise n [] each = λ i j p q e f less. cc
sections_rise n (ps ∷ ss) each =
    let here : IsSection n ps = subst (λ m. IsSection m ps) {x = n + 0} (omega arith) (each 0 ps refl) in
    let behind : (k : ℕ) (qs : List Part) → slice_get ss k ≡ Some qs → IsSection (suc n + k) qs =
    λ k qs e. subst (λ m. IsSection m qs) {x = n + suc k} (omega arith) (each (suc k) qs e) in
    rise_together ps (together ss) here.rises (sections_rise (suc n) ss behind) (λ p q a b.
    let at = place_of q (together ss) b in let s = in_section ss at.0 q at.1 in
    let low = here.ranked p a in
    let high = (behind s.section s.list s.is).ranked q (in_place q s.list s.place s.stands) in
    record {
      kinds = omega (arith, low, high);
      numbers = λ same. let ranks : rank p.series ≡ rank q.series = ap rank same in absurd (omega (arith, low, high, ranks));
    })

parts_rise : (t : Tables) → Rise (parts t)
parts_rise t = sections_rise 0 (sections t) (λ k ps e.
    let tells = told t (length t.flat.connections + length (parts t)) (omega arith) (omega arith) k ps e in
    let ranked : (p : Part) → IsIn p ps → rank p.series ≡ k = λ p i. let at = place_of p ps i in tells.series at.0 p at.1 in
    record {
      ranked = λ p i. let r = ranked p i in omega (arith, r);
      rises = search (rules, in_place);
    })

-- ---- numbers

module _ (t : Tables) (can : CanSlot t) where
  abbrev Numbered : Part → Type 0
  Numbered p = HasNumber t p.series p.number

  of_level : (l : Level) (n : ℕ) → HasNumber t (level_series l) n
  of_level Directory n = tt
  of_level _ n = tt

  parts_numbered : (p : Part) → IsIn p (parts t) → Numbered p
  parts_numbered = of_every t Numbered (record {
    cnode = λ d x e. below t.flat.domains d x e;
    thread = λ n d i x e. tt;
    endpoint = λ k c h e. (c, h, e);
    notification = λ k c h e. (c, h, e);
    lock = λ n d i leaf m x h s is.
        subst (HasNumber t series.Lock) (sym is) (leaf, m, lock_numbered t (uses_are t can.slots) d i leaf m x h s);
    irq = λ n k c h e is. (k, c, h, e, omega (arith, is, irqs_before t k));
    table = λ n d j o e. of_level (level_of o) (table_part (all_tables t) n (page_table d j (level_of o))).number;
    frame = λ f x e. tt;
  })

  -- ---- all

  abbrev part_of : ℕ → Part
  part_of place = get_or (parts t) place (part series.Frame 0 (OfDomain 0) (FrameOf 0))

  part_at : (place : ℕ) → place < length (spec_of t).entries → slice_get (parts t) place ≡ Some (part_of place)
  part_at place l = search (rules, length-map, slice_get-get_or)

  pub stand_in_order : StandInOrder t (spec_of t)
  stand_in_order = record {
    kind = λ place. (part_of place).series;
    number = λ place. (part_of place).number;
    named = λ place l. ap entry_name (get_map (entry t) (parts t) place (part_of place) (part_at place l));
    only = λ place l. parts_numbered (part_of place) (in_place (part_of place) (parts t) place (part_at place l));
    kinds_rise = λ p q less l. (rise p q less l).kinds;
    numbers_rise = λ p q less l same. (rise p q less l).numbers same;
  } where
    rise : (p q : ℕ) → p < q → q < length (spec_of t).entries → ComesBefore (part_of p) (part_of q)
    rise p q less l = parts_rise t p q (part_of p) (part_of q) (part_at p (omega (arith, less, l))) (part_at q l) less
