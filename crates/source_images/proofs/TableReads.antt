-- Tables, read one after another.
use Rattle.source_images.proofs.Common.{AlikeAsRead, AlikeInTables, AreFound, AreTablesRead, Bor, Contents, Err, Found, InAll, IsFound, IsIn, IsTableRead, LearnsOnly, List, Name, Ok, Option, Reading, Result, Some, SourceError, Table, [], add-one, ap}
use Rattle.source_images.proofs.Common.{arith, cond, false, files_told, found_bytes, found_in, get_map, get_or, in_place, length, length-append, length-map, map, names_told, nat_lt, nat_tests, reading_of, readings_of, refl, slice_get}
use Rattle.source_images.proofs.Common.{rules, slice_get-get_or, string_bytes, subst, suc, sym, table, table_at, table_told, tables_told, take, too_long, zero, ℕ, ◌++◌, ◌+◌, ◌<◌, ◌∙◌, ◌∷◌, ◌≡◌, ◌≤◌}
use Rattle.std.proofs.Math.Seq.{take-length}
use Rattle.std.specs.FinMap.{get}
use Rattle.cam_base.specs.declared.error.Unread.TheVariants as error

pub found_count : (contents : Contents) (names : List (List ℕ)) (all : List Found) → AreFound contents names all
    → length all ≡ length names
found_count contents names all told = ap length told ∙ length-map names (λ name. found_bytes (get contents name))

-- the readings of the first tables
pub record AreRead (contents : Contents) (file : ℕ) (tables : List (Name × List ℕ)) (n : ℕ) (list : List Reading) : Type 0 where
  pub found : List Found
  pub count : length found ≡ n
  pub told : found ≡ found_in contents (take n (map (λ t. t.1) tables))
  pub readings : list ≡ readings_of file tables found

nothing_read : (file : ℕ) (tables : List (Name × List ℕ)) → readings_of file tables [] ≡ []
nothing_read file [] = refl
nothing_read file (t ∷ tables) = refl

pub none_read : (contents : Contents) (file : ℕ) (tables : List (Name × List ℕ)) → AreRead contents file tables 0 []
none_read contents file tables = record { found = []; count = refl; told = refl; readings = sym (nothing_read file tables) }

read_push : (file : ℕ) (tables : List (Name × List ℕ)) (all : List Found) (t : Name × List ℕ) (x : Found)
    → slice_get tables (length all) ≡ Some t
    → readings_of file tables (all ++ x ∷ []) ≡ readings_of file tables all ++ reading_of (file + length all) t x ∷ []
read_push file [] all t x e = absurd (cc)
read_push file (u ∷ ts) [] t x e = grind (arith, nothing_read)
read_push file (u ∷ ts) (y ∷ all) t x e =
    ap (λ z. reading_of file u y ∷ z) (read_push (file + 1) ts all t x e)
    ∙ ap (λ n. reading_of file u y ∷ (readings_of (file + 1) ts all ++ reading_of n t x ∷ [])) (omega arith)

more_of : {X Y : Type 0} (f : X → Y) (xs : List X) (i : ℕ) (x : X) → slice_get xs i ≡ Some x
    → map f (take (suc i) xs) ≡ map f (take i xs) ++ f x ∷ []
more_of f [] i x e = absurd (cc)
more_of f (z ∷ xs) zero x e = let same : z ≡ x = cc in ap (λ w. f w ∷ []) same
more_of f (z ∷ xs) (suc i) x e = ap (λ w. f z ∷ w) (more_of f xs i x e)

told_more : (contents : Contents) (names : List (List ℕ)) (n : ℕ) (name : List ℕ) (all : List Found) (x : Found)
    → slice_get names n ≡ Some name
    → all ≡ found_in contents (take n names) → IsFound contents name x → all ++ x ∷ [] ≡ found_in contents (take (suc n) names)
told_more contents names n name all x at before is =
    ap (λ z. z ++ x ∷ []) before ∙ ap (λ z. found_in contents (take n names) ++ z ∷ []) is ∙ sym (more_of _ names n name at)

-- one more is read
pub read_more : (contents : Contents) (file : ℕ) (tables : List (Name × List ℕ)) (n : ℕ) (old new : List Reading)
    (t : Name × List ℕ) (r : Reading)
    → AreRead contents file tables n old → slice_get tables n ≡ Some t → IsTableRead contents (file + n) t (Ok r)
    → new ≡ old ++ r ∷ [] → AreRead contents file tables (n + 1) new
read_more contents file tables n old new t r before at read push =
    let x : Found = read.0 in
    let told : before.found ++ x ∷ [] ≡ found_in contents (take (suc n) (map (λ t. t.1) tables)) =
    told_more contents (map (λ t. t.1) tables) n t.1 before.found x (get_map (λ t. t.1) tables n t at) before.told read.1 in
    record {
      found = before.found ++ x ∷ [];
      count = length-append before.found (x ∷ []) ∙ ap (λ k. k + 1) before.count;
      told = subst (λ k. before.found ++ x ∷ [] ≡ found_in contents (take k (map (λ t. t.1) tables))) (sym (add-one n)) told;
      readings = push ∙ ap (λ z. z ++ r ∷ []) before.readings ∙ ap (λ z. readings_of file tables before.found ++ z ∷ [])
          (read.2 ∙ ap (λ k. reading_of (file + k) t x) (sym before.count))
          ∙ sym (read_push file tables before.found t x (ap (slice_get tables) before.count ∙ at));
    }

-- all are read
pub all_read : (contents : Contents) (file : ℕ) (tables : List (Name × List ℕ)) (readings : List Reading)
    → AreRead contents file tables (length tables) readings
    → (all : List Found) × AreFound contents (map (λ t. t.1) tables) all × (readings ≡ readings_of file tables all)
all_read contents file tables readings a = search (rules, length-map, take-length)

-- ---- files

-- a read that failed is of one of the tables
pub failed_in : (tables : List (Name × List ℕ)) (n : ℕ) (t : Name × List ℕ) (name : List ℕ) → slice_get tables n ≡ Some t
    → name ≡ t.1 → IsIn name (map (λ t. t.1) tables)
failed_in tables n t name at e = subst (λ z. IsIn z (map (λ t. t.1) tables)) (sym e)
    (in_place t.1 (map (λ t. t.1) tables) n (get_map (λ t. t.1) tables n t at))

le_nat_lt : (n m : ℕ) → n ≤ m → nat_lt m n ≡ false
le_nat_lt n m h = grind (arith, nat_tests)

found_as : (o : Option (List ℕ)) (bytes : List ℕ) → o ≡ Some bytes → length bytes ≤ 1048576 → table bytes ≡ found_bytes o
found_as o bytes e h = sym (ap found_bytes e ∙ ap (λ b. cond b too_long (table bytes)) (le_nat_lt (length bytes) 1048576 h))

-- a table that is read whole
pub found_table : (contents : Contents) (name : List ℕ) (bytes : List ℕ) → get contents name ≡ Some bytes → length bytes ≤ 1048576
    → IsFound contents name (table bytes)
found_table contents name bytes told h = found_as (get contents name) bytes told h

table_here : (tables : List Table) (n : ℕ) (t : Table) → n < length tables → t ≡ get_or tables n t
    → slice_get (tables_told tables) n ≡ Some (table_told t)
table_here tables n t lt is = get_map table_told tables n t (slice_get-get_or tables n t lt ∙ ap (λ z. Some z) (sym is))

pub tables_more : (contents : Contents) (file : ℕ) (tables : List Table) (n : ℕ) (old new : List Reading) (t : Table)
    (r : Reading) → AreRead contents file (tables_told tables) n old
    → n < length tables → t ≡ get_or tables n t → IsTableRead contents (file + n) (table_told t) (Ok r) → new ≡ old ++ r ∷ []
    → AreRead contents file (tables_told tables) (n + 1) new
tables_more contents file tables n old new t r before lt is read push =
    read_more contents file (tables_told tables) n old new (table_told t) r before (table_here tables n t lt is) read push

-- the reading of one more learns of it alone
pub learns_more : {F : Type 0} (told : F → Contents → Type 0) (tables : List Table) (n : ℕ) (t : Table) (a b c : F)
    → n < length tables → t ≡ get_or tables n t
    → LearnsOnly told (AlikeInTables (files_told tables)) a b → InAll (told c) (told b)
    → LearnsOnly told (AlikeAsRead (string_bytes t.file)) b c
    → LearnsOnly told (AlikeInTables (files_told tables)) a c
learns_more told tables n t a b c lt is before still one m o now old alike =
    one m o now (before m o (still m now) old alike)
    (alike (string_bytes t.file) (failed_in (tables_told tables) n (table_told t) (string_bytes t.file)
    (table_here tables n t lt is) refl))

err_told : (contents : Contents) (file : ℕ) (tables : List Table) (n : ℕ) (t : Table) (e : SourceError) → n < length tables
    → t ≡ get_or tables n t → IsTableRead contents (file + n) (table_told t) (Err e)
    → AreTablesRead contents file (tables_told tables) (Err e)
err_told contents file tables n t (error.Fault fault f) lt is h = h
err_told contents file tables n t (error.ReadFault f) lt is h = failed_in (tables_told tables) n (table_told t) f
    (table_here tables n t lt is) h
err_told contents file tables n t error.NoMemory lt is h = tt

pub tables_failed : (contents : Contents) (file : ℕ) (tables : List Table) (n : ℕ) (t : Table) (e : SourceError)
    (r : Result (List Reading) SourceError) → n < length tables → t ≡ get_or tables n t
    → IsTableRead contents (file + n) (table_told t) (Err e) → r ≡ Err e → AreTablesRead contents file (tables_told tables) r
tables_failed contents file tables n t e r lt is h same = subst (AreTablesRead contents file (tables_told tables)) (sym same)
    (err_told contents file tables n t e lt is h)

pub same_length : (tables : List Table) (names : List (Bor Name)) (folder : List ℕ)
    → tables_told tables ≡ map (table_at folder) (names_told names) → length tables ≡ length names
same_length tables names folder e = search (rules, length-map)
