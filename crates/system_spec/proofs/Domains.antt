-- What stands where in each domain, counted domain by domain
use Rattle.std.proofs.Common.{rules}
use Rattle.system_spec.proofs.Common.{AreFew, Bool, Domain, FrameOf, List, LockOf, Object, Page, SlotUse, Some, TableOf, Tables, [], add-one, ap, arch, arith, as_many, at_place, counts_of_addresses, domain_locks, domain_tables, false, first_of}
use Rattle.system_spec.proofs.Common.{flat_map, gather, gather_more, gather_ones, get_or, holds_lock, layers, length, length-gather, length_append, level_of, lock, map, map-append, one, page_mapping, page_table, pages_at, place, refl, shapes}
use Rattle.system_spec.proofs.Common.{slice_get, space_tables, sym, table_count, tables_at, take, take_all, taken_le, true, uses_at, ℕ, ◌++◌, ◌+◌, ◌<◌, ◌^◌, ◌∙◌, ◌∷◌, ◌≡◌, ◌≤◌}
use Rattle.page_tables.specs.Counts.{table_count as count_of}
use Rattle.system_spec.proofs.Bounds.{ends}
use Rattle.system_spec.proofs.Placing.{as_long, grown_length, length-lock}

-- lists one behind another are what each gives
together_gather : {X : Type 0} (xs : List (List X)) → flat_map (λ x. x) xs ≡ gather (λ k (x : List X). x) xs
together_gather [] = refl
together_gather (x ∷ xs) = ap (λ z. x ++ z) (together_gather xs)

pub taken_none : {X Y : Type 0} (F : ℕ → X → List Y) (xs : List X) → length (gather F (take 0 xs)) ≡ 0
taken_none F [] = refl
taken_none F (x ∷ xs) = refl

-- one more element gives so many more
pub grown : {X Y : Type 0} (F : ℕ → X → List Y) (xs : List X) (i n : ℕ) → i < length xs → ((x : X) → length (F i x) ≡ n)
    → length (gather F (take (i + 1) xs)) ≡ length (gather F (take i xs)) + n
grown {X} {Y} F xs i n l h =
    let at : (x : X) × (slice_get xs i ≡ Some x) = at_place xs i l in
    let more = ap (λ (z : List Y). length z) (ap (λ k. gather F (take k xs)) (add-one i) ∙ gather_more F xs i at.0 at.1) in
    omega (arith, more, length_append (gather F (take i xs)) (F i at.0), h at.0)

-- ---- locks

one_at_most : (b : Bool) → one b ≤ 1
one_at_most true = omega arith
one_at_most false = omega arith

pub few_locks : (uses : List SlotUse) (i : ℕ) → length (gather (lock 0) (take i uses)) ≤ length uses
few_locks uses i = search (rules, taken_le, length-gather, length-lock, one_at_most)

pub count_turn : (uses : List SlotUse) (i n more : ℕ) (u : SlotUse) → i < length uses → u ≡ get_or uses i u
    → more ≡ one (holds_lock u) → n ≡ length (gather (lock 0) (take i uses))
    → n + more ≡ length (gather (lock 0) (take (i + 1) uses))
count_turn uses i n more u l is m e = omega (arith, m, e, grown_length (lock 0) uses i u l is, length-lock 0 i u)

same_locks : (d : ℕ) (uses : List SlotUse) → length (gather (lock d) uses) ≡ length (gather (lock 0) uses)
same_locks d uses = as_long (lock d) (lock 0) uses (λ k u. length-lock d k u ∙ sym (length-lock 0 k u))

pub lock_place : (t : Tables) (d next : ℕ) → next ≡ first_of t 4 + length (gather (domain_locks t) (take d t.flat.domains))
    → next ≡ place t (LockOf d 0)
lock_place t d next e = omega (arith, e, taken_none (lock d) (uses_at t d))

-- behind the locks of a domain, with as many as were counted
pub locks_turn : (t : Tables) (d next n : ℕ) (uses : List SlotUse) → d < length t.flat.domains → uses ≡ uses_at t d
    → n ≡ length (gather (lock 0) uses)
    → next ≡ first_of t 4 + length (gather (domain_locks t) (take d t.flat.domains))
    → next + n ≡ first_of t 4 + length (gather (domain_locks t) (take (d + 1) t.flat.domains))
locks_turn t d next n uses l same e h =
    let here = ap (λ z. length (gather (lock d) z)) same in
    omega (
      arith,
      e,
      h,
      same_locks d uses,
      grown (domain_locks t) t.flat.domains d (length (gather (lock d) uses)) l
          (λ x. sym here),
    )

pub locks_within : (t : Tables) (d : ℕ) → AreFew t
    → first_of t 4 + length (gather (domain_locks t) (take d t.flat.domains)) < 2 ^ 32
locks_within t d few = let e = (ends t few).locks in omega (arith, e, taken_le (domain_locks t) t.flat.domains d)

-- the locks of a domain stand below 2^32
pub locks_few : (t : Tables) (d first : ℕ) (uses : List SlotUse) → AreFew t → d < length t.flat.domains → uses ≡ uses_at t d
    → first ≡ place t (LockOf d 0) → first + length (gather (lock d) uses) < 2 ^ 32
locks_few t d first uses few l same f =
    let here = ap (λ z. length (gather (lock d) z)) same in
    omega (
      arith,
      f,
      taken_none (lock d) (uses_at t d),
      locks_within t (d + 1) few,
      grown (domain_locks t) t.flat.domains d
          (length (gather (lock d) uses)) l (λ x. sym here),
    )

-- ---- page tables

pub addresses_same : (frames : ℕ) (pages : List Page) → map (λ x. x.at) (map (page_mapping frames) pages) ≡ map
    (λ p. p.vaddr) pages
addresses_same frames [] = refl
addresses_same frames (p ∷ ps) = ap (λ z. p.vaddr ∷ z) (addresses_same frames ps)

-- how many there are doesn't depend on where frames stand
counted : (t : Tables) (frames d : ℕ) → table_count t frames d ≡ count_of (shapes (arch t)) (map (λ p. p.vaddr) (pages_at t d))
counted t frames d = counts_of_addresses (arch t) (map (page_mapping frames) (pages_at t d)) ∙ ap (count_of (shapes (arch t)))
    (addresses_same frames (pages_at t d))

length-tables_at : (t : Tables) (first frames d : ℕ) → length (tables_at t first frames d) ≡ table_count t frames d
length-tables_at t first frames d = as_many first 0 (layers (shapes (arch t)) (map (page_mapping frames) (pages_at t d)))

-- how many tables a domain has is a matter of addresses
pub tables_counted : (t : Tables) (first frames d : ℕ) → length (tables_at t first frames d) ≡ count_of (shapes (arch t))
    (map (λ p. p.vaddr) (pages_at t d))
tables_counted t first frames d = length-tables_at t first frames d ∙ counted t frames d

length-domain_tables : (t : Tables) (frames d : ℕ) (x : Domain) → length (domain_tables t d x) ≡ table_count t frames d
length-domain_tables t frames d x =
    let ones : length (domain_tables t d x) ≡ length (tables_at t 0 0 d) = search (rules, gather_ones) in
    ones ∙ length-tables_at t 0 0 d ∙ counted t 0 d ∙ sym (counted t frames d)

pub table_place : (t : Tables) (d next : ℕ) → next ≡ first_of t 6 + length (gather (domain_tables t) (take d t.flat.domains))
    → next ≡ place t (TableOf d 0)
table_place t d next e = omega (arith, e)

pub tables_within : (t : Tables) (d : ℕ) → AreFew t
    → first_of t 6 + length (gather (domain_tables t) (take d t.flat.domains)) < 2 ^ 32
tables_within t d few = let e = (ends t few).tables in omega (arith, e, taken_le (domain_tables t) t.flat.domains d)

-- behind the page tables of a domain
tables_grown : (t : Tables) (frames d next : ℕ) → d < length t.flat.domains
    → next ≡ first_of t 6 + length (gather (domain_tables t) (take d t.flat.domains))
    → next + table_count t frames d ≡ first_of t 6 + length (gather (domain_tables t) (take (d + 1) t.flat.domains))
tables_grown t frames d next l h =
    omega (arith, h, grown (domain_tables t) t.flat.domains d (table_count t frames d) l (length-domain_tables t frames d))

pub tables_few : (t : Tables) (frames d next : ℕ) → AreFew t → d < length t.flat.domains
    → next ≡ first_of t 6 + length (gather (domain_tables t) (take d t.flat.domains)) → next + table_count t frames d < 2 ^ 32
tables_few t frames d next few l h = omega (arith, tables_within t (d + 1) few, tables_grown t frames d next l h)

pub tables_turn : (t : Tables) (first frames d next : ℕ) (objects : List Object) → d < length t.flat.domains
    → objects ≡ tables_at t first frames d
    → next ≡ first_of t 6 + length (gather (domain_tables t) (take d t.flat.domains))
    → next + length objects ≡ first_of t 6 + length (gather (domain_tables t) (take (d + 1) t.flat.domains))
tables_turn t first frames d next objects l e h =
    omega (arith, tables_grown t frames d next l h, ap (λ (z : List Object). length z) e, length-tables_at t first frames d)

pub space_is : (t : Tables) (d next frames : ℕ) (objects : List Object) → next ≡ place t (TableOf d 0)
    → frames ≡ place t (FrameOf 0) → objects ≡ tables_at t next frames d → objects ≡ space_tables t d
space_is t d next frames objects n f e =
    e ∙ ap (λ z. tables_at t z frames d) n ∙ ap (λ z. tables_at t (place t (TableOf d 0)) z d) f

-- ---- sections

section_turn : {X : Type 0} (xs : List (List X)) (i n more : ℕ) (x : List X) → i < length xs → x ≡ get_or xs i x → more ≡ length x
    → n ≡ length (gather (λ k (z : List X). z) (take i xs)) → n + more ≡ length (gather (λ k (z : List X). z) (take (i + 1) xs))
section_turn {X} xs i n more x l is m e = omega (arith, m, e, grown_length (λ k (z : List X). z) xs i x l is)

first_within : {X : Type 0} (xs : List (List X)) (i number : ℕ)
    → length (gather (λ k (z : List X). z) (take i (take number xs))) ≤ length (flat_map (λ z. z) xs)
first_within {X} xs i number = search (rules, taken_le, together_gather)

-- one more section, which ends within the whole
pub record Turned {X : Type 0} (xs : List (List X)) (i n more number : ℕ) : Type 0 where
  pub next : n + more ≡ length (gather (λ k (z : List X). z) (take (i + 1) (take number xs)))
  pub within : n + more ≤ length (flat_map (λ z. z) xs)

pub turned : {X : Type 0} (xs : List (List X)) (i n more number : ℕ) (x : List X) → i < length (take number xs)
    → x ≡ get_or (take number xs) i x → more ≡ length x → n ≡ length (gather (λ k (z : List X). z) (take i (take number xs)))
    → Turned xs i n more number
turned {X} xs i n more number x l is m e =
    let next = section_turn (take number xs) i n more x l is m e in
    record { next = next; within = omega (arith, next, first_within xs (i + 1) number) }

pub first_whole : {X : Type 0} (xs : List (List X)) (i n number : ℕ) → length (take number xs) ≤ i
    → n ≡ length (gather (λ k (z : List X). z) (take i (take number xs))) → n ≡ length (flat_map (λ z. z) (take number xs))
first_whole {X} xs i n number l e = search (rules, take_all, together_gather)

mapped_gather : {X Y : Type 0} (f : X → Y) (xs : List (List X))
    → map f (flat_map (λ x. x) xs) ≡ gather (λ k (x : List X). map f x) xs
mapped_gather f [] = refl
mapped_gather f (x ∷ xs) = map-append f x (flat_map (λ z. z) xs) ∙ ap (λ z. map f x ++ z) (mapped_gather f xs)

-- what was made of section after section is made of them all
pub mapped_whole : {X Y : Type 0} (f : X → Y) (xs : List (List X)) (i : ℕ) (made : List Y) → length xs ≤ i
    → made ≡ gather (λ k (z : List X). map f z) (take i xs) → made ≡ map f (flat_map (λ z. z) xs)
mapped_whole {X} f xs i made l e = e ∙ ap (gather (λ k (y : List X). map f y)) (take_all i xs l) ∙ sym (mapped_gather f xs)
