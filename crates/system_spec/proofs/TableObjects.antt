-- The page tables of all domains are the objects of their parts
use Rattle.std.proofs.Common.{rules}
use Rattle.system_spec.proofs.Common.{Domain, Endpoint, List, None, Object, Option, PageTable, Part, Some, TableOf, Tables, YieldsList-from_vec, [], all_spaces, all_tables, ap, domain_tables, gather, gather_map, gather_same, get_map, get_or}
use Rattle.system_spec.proofs.Common.{into_iter_items, into_iter_len, into_iter_steps, length, level_of, map, map-append, object, page_table, refl, slice_get, space_tables, suc, sym, table_part, table_parts, tables_at, ℕ, ◌++◌, ◌∙◌, ◌∷◌, ◌≡◌}
use Rattle.system_spec.proofs.Domains.{tables_counted}
use Rattle.system_spec.proofs.Standing.{same}
use Rattle.system_spec.proofs.Turning.{mapped_ones}
use Rattle.std.proofs.lemmas.Iterator.Consumers.{YieldsList-end}
use Rattle.std.specs.Iterator.{Yields}

mapped : {X Y Z : Type 0} (h : Y → Z) (f : ℕ → X → List Y) (xs : List X)
    → map h (gather f xs) ≡ gather (λ n x. map h (f n x)) xs
mapped h f [] = refl
mapped h f (x ∷ xs) = map-append h (f 0 x) (gather (λ n y. f (suc n) y) xs)
    ∙ ap (λ z. map h (f 0 x) ++ z) (mapped h (λ n y. f (suc n) y) xs)

-- what is read of a list at each place is the list
read_whole : {X Y : Type 0} (e : X) (os : List X) (ys : List Y) → length ys ≡ length os
    → gather (λ j y. get_or os j e ∷ []) ys ≡ os
read_whole e [] [] same = refl
read_whole e [] (y ∷ ys) same = cc
read_whole e (o ∷ os) [] same = cc
read_whole e (o ∷ os) (y ∷ ys) same = ap (λ z. o ∷ z) (read_whole e os ys cc)

abbrev object_of : Tables → PageTable → Object
object_of t x = object t (TableOf x.domain x.place)

space_mapped : (t : Tables) (d : ℕ) (x : Domain) → map (object_of t) (domain_tables t d x) ≡ space_tables t d
space_mapped t d x =
    mapped_ones (object_of t) (λ j (o : Object). page_table d j (level_of o)) (tables_at t 0 0 d)
    ∙ read_whole Endpoint (space_tables t d) (tables_at t 0 0 d)
    (tables_counted t 0 0 d ∙ sym (tables_counted t _ _ d))

pub tables_whole : (t : Tables) → all_spaces t ≡ map (λ (p : Part). object t p.what) (table_parts (all_tables t))
tables_whole t = sym (
    mapped_ones (λ (p : Part). object t p.what) (λ m x. table_part (all_tables t) m x) (all_tables t)
    ∙ gather_map (object_of t) (all_tables t)
    ∙ mapped (object_of t) (domain_tables t) t.flat.domains
    ∙ gather_same (λ d x. map (object_of t) (domain_tables t d x)) (λ d x. space_tables t d) t.flat.domains
    (λ d x e. space_mapped t d x)
    )

-- the page table at a place is that of the part there
pub object_is : (t : Tables) (os : List Object) (ps : List Part) (n d : ℕ) (o : Object) (x : Part)
    → os ≡ map (λ (p : Part). object t p.what) ps → d ≡ n → slice_get os n ≡ Some o → slice_get ps d ≡ Some x
    → o ≡ object t x.what
object_is t os ps n d o x e s h at = search (rules, same, get_map)

-- where nothing more is taken, all was
pub taken_all : {A Z : Type 0} (s t u : _) (all : List A) → into_iter_items s ≡ all → into_iter_len s ≡ length all → (xs : List A)
    → Yields (into_iter_steps {X = A} {Z = Z}) s xs t → (r : Option A) → r ≡ None → into_iter_steps {X = A} {Z = Z} t r u
    → length all ≡ length xs
taken_all {A} {Z} s t u all e n xs y r is step =
    sym (YieldsList-end (YieldsList-from_vec {A = A} {Z = Z} {s = s} all e n) xs t y r u is step).1
