-- Spaces and frames, put together
use Rattle.vspace_layout.proofs.Common.{AreFew, AreOutlined, CanLay, Domain, Flat, FrameInfo, Given, IsIn, List, MappedPage, Outline, Settled, Some, Space, [], all_numbered, all_own, ap, arith, at_place, before, below, capped, from_map, gather}
use Rattle.vspace_layout.proofs.Common.{gather_ones, gather_same, get_ones, get_or, get_or_from_slice_get, length, length-map, memory_firsts, outline, outlines, own_added, page_counts, pages_numbered, place_of, refl, regions_at, regions_in}
use Rattle.vspace_layout.proofs.Common.{rules, slice_get, space_at, spaces_with, subst, sum, sym, wired_of, ℕ, ◌+◌, ◌<◌, ◌^◌, ◌∙◌, ◌∷◌, ◌≡◌, ◌≤◌}
use Rattle.vspace_layout.specs.declared.spaces.Spaces.{Spaces}
use Rattle.vspace_layout.proofs.Few.{few_at}

abbrev pub both : List Space → List FrameInfo → Spaces
both spaces frames = record { spaces = spaces; frames = frames }

pub all_numbered_length : (firsts : List ℕ) (at : ℕ) (mapped : List (List MappedPage))
    → length (all_numbered firsts at mapped) ≡ length mapped
all_numbered_length firsts at mapped =
    gather_ones (λ d (pages : List MappedPage). pages_numbered d firsts (at + before own_added mapped d) pages) mapped

numbered_here : (firsts : List ℕ) (mapped : List (List MappedPage)) (d : ℕ) → d < length mapped
    → get_or (all_numbered firsts 0 mapped) d [] ≡ pages_numbered d firsts (before own_added mapped d) (get_or mapped d [])
numbered_here firsts mapped d l =
    let p : (ps : List MappedPage) × (slice_get mapped d ≡ Some ps) = at_place mapped d l in
    let none : 0 + before own_added mapped d ≡ before own_added mapped d = omega arith in
    get_or_from_slice_get (all_numbered firsts 0 mapped) d (pages_numbered d firsts (0 + before own_added mapped d) p.0) []
    (get_ones (λ n (ps : List MappedPage). pages_numbered n firsts (0 + before own_added mapped n) ps) mapped d p.0 p.1)
    ∙ ap (λ n. pages_numbered d firsts n p.0) none
    ∙ ap (λ (z : List MappedPage). pages_numbered d firsts (before own_added mapped d) z)
    (sym (get_or_from_slice_get mapped d p.0 [] p.1))

pub spaces_same : (flat : Flat) (settled : Settled) (base : ℕ) (os : List Outline) (mapped : List (List MappedPage))
    → length mapped ≡ length os
    → spaces_with flat settled base os (all_numbered (memory_firsts (all_own mapped) flat settled) 0 mapped) ≡ gather
    (λ d (o : Outline). space_at flat settled base mapped d o ∷ []) os
spaces_same flat settled base os mapped many = grind (arith, gather_same, below, numbered_here)

pub capped_own : (n m : ℕ) → n + m < 2 ^ 64 → capped n ≡ n
capped_own n m l = omega arith

-- regions are few in each domain
pub few_in : (t : Given) → CanLay t → sum (page_counts t) ≤ 65536 → (x : Domain) → IsIn x t.flat.domains
    → AreFew (regions_at (wired_of t) x.leaves)
few_in t can few x i = search (rules, place_of, few_at)

-- the outlines of a system whose pages are few
pub outlined : (t : Given) → CanLay t → sum (page_counts t) ≤ 65536
    → AreOutlined t.flat t.settled (outlines (wired_of t))
outlined t can few =
    let of : Domain → Outline = λ x. outline (wired_of t) x.leaves in
    record {
      each = length-map t.flat.domains of;
      few = λ o i. let m = from_map of o t.flat.domains i in
          subst (λ (z : Outline). AreFew z.regions) m.2 (few_in t can few m.0 m.1);
      regions = λ o i. let m = from_map of o t.flat.domains i in
          subst (λ (z : Outline). z.regions ≡ regions_in t.flat t.settled z.threads z.windows) m.2 refl;
    }
