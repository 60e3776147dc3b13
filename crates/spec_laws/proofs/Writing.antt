-- The spec of laid-out tables can be written and read back.
use Rattle.spec_laws.proofs.Common.{Entry, FlatConnection, FrameInfo, FrameOf, IsFit, IsIn, IsSized, IsWritable, IsWritten, List, None, Object, Option, Part, Some, TableOf}
use Rattle.spec_laws.proofs.Common.{Tables, ThreadPlace, What, [], ap, arch, arith, by_number, canonical, cap_count, caps_of, entry, entry_line, entry_name, entry_text, flat_map, frame_object, gather, in_place, irq_line, irq_number}
use Rattle.spec_laws.proofs.Common.{is_number, is_word, layers, le-ltb, length, length-map, line_by, lines, list_all-map, map, name_at, object, option_map_or, page_mapping, pages_at, part_name, parts, place, put_line, refl, shapes}
use Rattle.spec_laws.proofs.Common.{rules, slice_get, slice_get-map, spec_of, subst, sym, table_of, tables_at, tcb, there, thread_count, ℕ, ◌*◌, ◌+◌, ◌<◌, ◌^◌, ◌∙◌, ◌∷◌, ◌≡◌, ◌≤◌}
use Rattle.std.specs.Option.{option_map}
use Rattle.cap_model.specs.declared.object.Object.TheVariants as objects
use Rattle.capdl_text.specs.Texts.{most_bytes}
use Rattle.spec_laws.proofs.CapsFit.{all_pass}
use Rattle.spec_laws.proofs.Capping.{looked_up}
use Rattle.spec_laws.proofs.Counting.{Most, parts_most}
use Rattle.spec_laws.proofs.Few.{caps_within, objects_within}
use Rattle.spec_laws.proofs.Keeping.{kept, spec_kept}
use Rattle.spec_laws.proofs.Laid.{fine_there, number_is, part_short, part_word}
use Rattle.spec_laws.proofs.Lengths.{canonical_short, extra, holder_short, irq_short, line_short}
use Rattle.spec_laws.proofs.Lines.{lined, one_each}
use Rattle.spec_laws.proofs.TablesKept.{as_long, from_tables, standing}
use Rattle.spec_laws.proofs.Telling.{number_few}
use Rattle.spec_laws.proofs.Totals.{length_flat_map, length_gather, sum_map, total, total_add, total_const, total_each, total_map, total_most, total_times, totals, totals_const, totals_each}

-- ---- how many lines

put_length : (x : ℕ × ℕ) (ls : List (ℕ × ℕ)) → length (put_line x ls) ≡ 1 + length ls
put_length x [] = refl
put_length x (y ∷ ys) = grind (arith, put_length x ys)

sorted_length : (ls : List (ℕ × ℕ)) → length (by_number ls) ≡ length ls
sorted_length [] = refl
sorted_length (x ∷ xs) = let a = put_length x (by_number xs) in let ih = sorted_length xs in omega (arith, a, ih)

lines_few : (t : Tables) → length (lines t) ≤ length t.flat.connections
lines_few t =
    let f : ℕ → FlatConnection → List (ℕ × ℕ) = λ k (c : FlatConnection). line_by t k c c.connector in
    let c = totals_each (λ k (c : FlatConnection). length (f k c)) 1 t.flat.connections (λ k c e. one_each t k c c.connector) in
    omega (arith, sorted_length (gather f t.flat.connections), length_gather f t.flat.connections, c)

module _ (t : Tables) where
  -- ---- how much longer the lines of threads and frames are

  abbrev longer : What → ℕ
  longer w = extra (object t w)

  thread_longer : (d : ℕ) (o : Option ThreadPlace)
      → extra (option_map_or (λ (z : ThreadPlace). objects.Thread (tcb t d z)) o objects.Endpoint) ≤ 209
  thread_longer d None = omega arith
  thread_longer d (Some y) = omega arith

  frame_longer : (o : Option FrameInfo) → extra (option_map_or frame_object o objects.Endpoint) ≤ 229
  frame_longer None = omega arith
  frame_longer (Some x) = omega arith

  table_longer : (d : ℕ) → totals (λ j (o : Object). longer (TableOf d j)) (tables_at t 0 0 d) ≤ 0
  table_longer d =
      let first = place t (TableOf d 0) in let frames = place t (FrameOf 0) in
      let all : totals (λ j (o : Object). longer (TableOf d j)) (tables_at t 0 0 d) ≡ total extra (standing t d) =
      looked_up extra objects.Endpoint (tables_at t 0 0 d) (standing t d) (as_long t 0 0 first frames d) in
      let none = total_each extra 0 (standing t d) (λ o i.
      let r = from_tables first 0 (layers (shapes (arch t)) (map (page_mapping frames) (pages_at t d))) o i in
      let e : extra (table_of r.layer.shape r.link r.run) ≡ extra o = ap extra r.is in
      omega (arith, e)) in omega (arith, all, none)

  longer_most : Most t longer (λ d. 0) 209 0 0 0 (λ d. 0) 229
  longer_most = search (rules, thread_longer, table_longer, frame_longer)

  longer_few : total (λ (p : Part). longer p.what) (parts t) ≤ 209 * thread_count t + 229 * length t.spaces.frames
  longer_few = omega (arith, parts_most t longer (λ d. 0) 209 0 0 0 (λ d. 0) 229 longer_most, totals_const 0 t.flat.domains)

  -- ---- the text

  module _ (fit : IsFit t) (sized : IsSized t) (written : IsWritten t) where
    number_of : (p : Part) → IsIn p (parts t) → p.number < 2 ^ 32
    number_of p i = number_few t fit.connections fit.objects p i

    short_at : (o : ℕ) → length (name_at (spec_of t) o) ≤ 16
    short_at o = subst (λ (z : Option Entry). length (entry_name z) ≤ 16) (sym (slice_get-map (entry t) (parts t) o))
        (by_part (slice_get (parts t) o) (λ p e. in_place p (parts t) o e)) where
          by_part : (x : Option Part) → ((p : Part) → x ≡ Some p → IsIn p (parts t))
              → length (entry_name (option_map (entry t) x)) ≤ 16
          by_part None h = omega arith
          by_part (Some p) h = part_short p (number_of p (h p refl))

    line_of : (p : Part) → IsIn p (parts t) → length (entry_line (entry t p)) ≤ 53 + longer p.what
    line_of p i =
        let w = there t p i in
        line_short (spec_of t) (part_name p) (object t p.what) (part_short p (number_of p i)) (kept t fit p.what w)
        (fine_there t fit written p.what w).1

    text_of : (p : Part) → IsIn p (parts t) → length (entry_text (spec_of t) (entry t p)) ≤ 21 + 73 * caps_of (object t p.what)
    text_of p i = holder_short (spec_of t) short_at (part_name p) (object t p.what) (part_short p (number_of p i))
        (fine_there t fit written p.what (there t p i)).0

    many : length (parts t) ≤ 238592
    many = let l = objects_within t sized in let m = length-map (parts t) (entry t) in omega (arith, l, m)

    lines_long : length (flat_map entry_line (spec_of t).entries) ≤ 34501632
    lines_long =
        let a = length_flat_map entry_line (spec_of t).entries in
        let b = total_map (λ (e : Entry). length (entry_line e)) (entry t) (parts t) in
        let c = total_most (λ (p : Part). length (entry_line (entry t p))) (λ p. 53 + longer p.what) (parts t) line_of in
        let d = total_add (λ (p : Part). 53) (λ p. longer p.what) (parts t) in
        omega (arith, a, b, c, d, total_const 53 (parts t), longer_few, many, sized.threads, sized.frames)

    texts_long : length (flat_map (entry_text (spec_of t)) (spec_of t).entries) ≤ 26838016
    texts_long =
        let text : Entry → ℕ = λ e. length (entry_text (spec_of t) e) in
        let caps : Part → ℕ = λ p. caps_of (object t p.what) in
        let a = length_flat_map (entry_text (spec_of t)) (spec_of t).entries in
        let c = total_most (λ p. text (entry t p)) (λ p. 21 + 73 * caps p) (parts t) text_of in
        let d = total_add (λ (p : Part). 21) (λ p. 73 * caps p) (parts t) in
        let e = total_const 21 (parts t) in
        let g : cap_count (spec_of t) ≡ total caps (parts t) = search (rules, sum_map, total_map) in
        omega (arith, a, total_map text (entry t) (parts t), c, d, e, total_times 73 caps (parts t), g, caps_within t sized, many)

    number_in : (l : ℕ × ℕ) → IsIn l (lines t) → l.0 < 2 ^ 64
    number_in l i =
        let a = lined t fit l i in
        let e : irq_number t.settled a.number a.there.0 ≡ l.0 = ap (λ (z : ℕ × ℕ). z.0) a.is in
        omega (arith, written.numbers a.number a.there.0 a.there.1, e)

    irqs_long : length (flat_map (irq_line (spec_of t)) (spec_of t).irqs) ≤ 159744
    irqs_long =
        omega (
          arith,
          length_flat_map (irq_line (spec_of t)) (lines t),
          total_each (λ l. length (irq_line (spec_of t) l)) 39
              (lines t) (λ l i. irq_short (spec_of t) short_at l (number_in l i)),
          lines_few t,
          sized.connections,
        )

    -- ---- names and objects

    pub spec_writable : IsWritable (spec_of t)
    spec_writable = record {
      kept = spec_kept t fit;
      names = list_all-map (λ (e : Entry). is_word e.name) (entry t) (parts t) ∙ all_pass (λ (p : Part). is_word (part_name p))
          (parts t) (λ p i. part_word p (number_of p i));
      objects = search (rules, list_all-map, all_pass, fine_there, there);
      lines = all_pass (λ (l : ℕ × ℕ). is_number l.0) (lines t) (λ l i. number_is l.0 (number_in l i));
      short = let s = canonical_short (spec_of t) short_at 34501632 26838016 159744 lines_long texts_long irqs_long in
          le-ltb most_bytes (length (canonical (spec_of t))) (omega (arith, s));
      few_objects = (let l = objects_within t sized in omega (arith, l));
      few_caps = (let l = caps_within t sized in omega (arith, l));
    }
