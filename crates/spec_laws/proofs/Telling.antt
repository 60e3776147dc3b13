-- No two parts have one name.
use Rattle.spec_laws.proofs.Common.{Bool, Entry, IsIn, List, Part, Some, Tables, [], and_from, ap, arith, bytes_eq, bytes_eq-Decides, differ, entry, false, false_from_ne_true, flat_map, from_get_map, length, list_any, map, names_differ, not}
use Rattle.spec_laws.proofs.Common.{not_from_false, or_from, part_name, parts, place_of, rank, refl, rules, same_Some, sections, slice_get, spec_of, suc, sym, take, true, ℕ, ◌+◌, ◌<◌, ◌^◌, ◌∙◌, ◌∷◌, ◌≡◌}
use Rattle.spec_laws.proofs.Names.{same_number, same_series}
use Rattle.spec_laws.proofs.Sections.{Told, in_section, told, told_place}

-- ---- a list with no two equal

none_behind : {X : Type 0} (test : X → Bool) (xs : List X) → ((n : ℕ) (x : X) → slice_get xs n ≡ Some x → test x ≡ false)
    → list_any test xs ≡ false
none_behind test [] h = refl
none_behind test (x ∷ xs) h = or_from (test x) (list_any test xs) (h 0 x refl) (none_behind test xs (λ n y e. h (suc n) y e))

-- where equality tells places
apart : {X : Type 0} (same : X → X → Bool) (xs : List X) → ((m n : ℕ) (x y : X) → slice_get xs m ≡ Some x
    → slice_get xs n ≡ Some y → same y x ≡ true → m ≡ n) → differ same xs ≡ true
apart same [] h = refl
apart {X} same (x ∷ xs) h =
    let none : list_any (λ y. same y x) xs ≡ false =
    none_behind (λ y. same y x) xs (λ n y e. false_from_ne_true (same y x) (λ s. let m : 0 ≡ suc n = h 0 (suc n) x y refl e
    s in absurd (omega (arith, m)))) in
    and_from (not (list_any (λ y. same y x) xs)) (differ same xs) (not_from_false (list_any (λ y. same y x) xs) none)
    (apart same xs (λ m n y z e f s. let k : suc m ≡ suc n = h (suc m) (suc n) y z e f s in omega (arith, k)))

-- ---- names

module _ (t : Tables) (few : length t.flat.connections < 2 ^ 32) (all : length (parts t) < 2 ^ 32) where
  section_told : (n : ℕ) (s : List Part) → slice_get (sections t) n ≡ Some s → Told s rank n (2 ^ 32)
  section_told = told t (2 ^ 32) (omega (arith, few)) (omega (arith, all))

  -- parts' names tell their places
  pub names_tell : (m n : ℕ) (p q : Part) → slice_get (parts t) m ≡ Some p → slice_get (parts t) n ≡ Some q
      → part_name p ≡ part_name q → m ≡ n
  names_tell m n p q e f same =
      let a = in_section (sections t) m p e in let b = in_section (sections t) n q f in
      let ta = section_told a.section a.list a.is in let tb = section_told b.section b.list b.is in
      let s = same_series p.series q.series p.number q.number same in
      let la = ta.number a.place p a.stands in let lb = tb.number b.place q b.stands in
      let k = same_number p.series q.series p.number q.number (omega (arith, la)) (omega (arith, lb)) same in
      let section : b.section ≡ a.section = sym (tb.series b.place q b.stands) ∙ ap rank (sym s) ∙ ta.series a.place p a.stands in
      let list : b.list ≡ a.list = same_Some _ _ (sym b.is ∙ ap (λ z. slice_get (sections t) z) section ∙ a.is) in
      let place : a.place ≡ b.place = search (rules, told_place) in
      a.sum ∙ ap (λ z. length (flat_map (λ z. z) (take z (sections t))) + a.place) (sym section)
      ∙ ap (λ z. length (flat_map (λ z. z) (take b.section (sections t))) + z) place ∙ sym b.sum

  -- parts have numbers of 32 bits
  pub number_few : (p : Part) → IsIn p (parts t) → p.number < 2 ^ 32
  number_few p i =
      let m = place_of p (parts t) i in let a = in_section (sections t) m.0 p m.1 in
      (section_told a.section a.list a.is).number a.place p a.stands

  names_apart : differ bytes_eq (map part_name (parts t)) ≡ true
  names_apart = search (rules, apart, from_get_map, names_tell, bytes_eq-Decides)

  names_of : (ps : List Part) → map (λ (e : Entry). e.name) (map (entry t) ps) ≡ map part_name ps
  names_of [] = refl
  names_of (p ∷ ps) = ap (λ z. part_name p ∷ z) (names_of ps)

  pub names_kept : names_differ (spec_of t).entries ≡ true
  names_kept = ap (differ bytes_eq) (names_of (parts t)) ∙ names_apart
