-- Sections are no longer than the whole
use Rattle.std.proofs.Common.{rules}
use Rattle.system_spec.proofs.Common.{AreFew, FrameInfo, FrameOf, List, Owned, PageTable, Part, Series, Some, Tables, [], all_tables, ap, arith, cnodes, endpoints, first_of, flat_map, frame_owner, frame_parts, gather_ones, irqs, length}
use Rattle.system_spec.proofs.Common.{length_append, locks, notifications, numbered, owned, part, refl, sections, slice_get, suc, table_part, table_parts, take, tcbs, zero, ℕ, ◌++◌, ◌+◌, ◌<◌, ◌^◌, ◌∷◌, ◌≡◌, ◌≤◌}
use Rattle.system_spec.specs.declared.series.Series.TheVariants as series

section_end : {X : Type 0} (ss : List (List X)) (n : ℕ) (s : List X) → slice_get ss n ≡ Some s
    → length (flat_map (λ x. x) (take n ss)) + length s ≤ length (flat_map (λ x. x) ss)
section_end [] n s e = cc
section_end {X} (r ∷ ss) zero s e = search (rules, length_append)
section_end (r ∷ ss) (suc n) s e =
    omega (arith, section_end ss n s e, length_append r (flat_map (λ x. x) ss), length_append r (flat_map (λ x. x) (take n ss)))

pub section_few : (t : Tables) → AreFew t → (n : ℕ) (s : List Part) → slice_get (sections t) n ≡ Some s
    → first_of t n + length s < 2 ^ 32
section_few t few n s e = let all = few.objects in omega (arith, all, section_end (sections t) n s e)

pub length-eight : {X : Type 0} (a b c d e f g h : List X) → length (a ++ (b ++ (c ++ (d ++ (e ++ (f ++ (g ++ (h ++ []))))))))
    ≡ length a + (length b + (length c + (length d + (length e + (length f + (length g + (length h + 0)))))))
length-eight a b c d e f g h = search (rules, length_append)

pub length-numbered : (s : Series) (xs : List Owned) → length (numbered s xs) ≡ length xs
length-numbered s xs = gather_ones (λ n (x : Owned). part s n x.owner x.what) xs

pub record Bounds (t : Tables) : Type 0 where
  pub cnodes : length (cnodes t.flat.domains) < 2 ^ 32
  pub tcbs : length (tcbs t) < 2 ^ 32
  pub locks : length (locks t) < 2 ^ 32
  pub irqs : length (irqs t) < 2 ^ 32
  pub tables : length (all_tables t) < 2 ^ 32
  pub frames : length (frame_parts t.spaces.frames) < 2 ^ 32

length-tables : (t : Tables) → length (table_parts (all_tables t)) ≡ length (all_tables t)
length-tables t = gather_ones (λ m (x : PageTable). table_part (all_tables t) m x) (all_tables t)

pub bounds : (t : Tables) → AreFew t → Bounds t
bounds t few = record {
  cnodes = omega (arith, section_few t few 0 _ refl, length-numbered series.CNode (cnodes t.flat.domains));
  tcbs = omega (arith, section_few t few 1 _ refl, length-numbered series.Tcb (tcbs t));
  locks = omega (arith, section_few t few 4 _ refl, length-numbered series.Lock (locks t));
  irqs = omega (arith, section_few t few 5 _ refl, length-numbered series.Irq (irqs t));
  tables = omega (arith, section_few t few 6 _ refl, length-tables t);
  frames = omega (arith, section_few t few 7 _ refl, length-numbered series.Frame (frame_parts t.spaces.frames));
}

-- the places of each section of connections and of locks
pub record Ends (t : Tables) : Type 0 where
  pub endpoints : first_of t 2 + length (endpoints t) < 2 ^ 32
  pub notifications : first_of t 3 + length (notifications t) < 2 ^ 32
  pub locks : first_of t 4 + length (locks t) < 2 ^ 32
  pub irqs : first_of t 5 + length (irqs t) < 2 ^ 32
  pub tables : first_of t 6 + length (all_tables t) < 2 ^ 32
  pub frames : first_of t 7 + length t.spaces.frames < 2 ^ 32

pub ends : (t : Tables) → AreFew t → Ends t
ends t few =
    let frames = gather_ones (λ n (x : FrameInfo). owned (frame_owner x.owner) (FrameOf n)) t.spaces.frames in
    record {
      endpoints = section_few t few 2 (endpoints t) refl;
      notifications = section_few t few 3 (notifications t) refl;
      locks = omega (arith, section_few t few 4 _ refl, length-numbered series.Lock (locks t));
      irqs = omega (arith, section_few t few 5 _ refl, length-numbered series.Irq (irqs t));
      tables = omega (arith, section_few t few 6 _ refl, length-tables t);
      frames = omega (arith, section_few t few 7 _ refl, length-numbered series.Frame (frame_parts t.spaces.frames), frames);
    }
