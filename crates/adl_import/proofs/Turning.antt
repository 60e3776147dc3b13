-- Turns, one after another.
use Rattle.std.proofs.Common.{rules}
use Rattle.adl_import.proofs.Common.{AlikeInNext, AlikeInTurns, AreUtf8, Bool, Contents, Err, Fault, Import, InAll, IsClean, IsFileIn, IsFileSpelled, IsFirstFault, IsLoadedFrom, IsParsed, IsRead, IsReadFault, IsTakenIn, IsTurn, IsTurnFault}
use Rattle.adl_import.proofs.Common.{IsUtf8, LearnsOnly, Lexes, Limit, List, Meeting, NoFile, None, Ok, Option, Place, Result, Some, SourceError, SourceFile, Token, Turns, [], absent, and_then, ap, arith, codes, cond, false, fault_at, file_limit}
use Rattle.adl_import.proofs.Common.{files_limit, first, get, importing, imports_of, inl, inr, is_built_in, is_known, length, length-append, lexing, ltb-true, meet_given, met_in, name_given, next, parsing, reading, refl, root_place, see}
use Rattle.adl_import.proofs.Common.{slice_get, slice_get_within, subst, suc, sym, take_import, take_imports, too_long, true, zero, ℕ, ◌++◌, ◌+◌, ◌-◌, ◌<◌, ◌∙◌, ◌∷◌, ◌≡◌, ◌≤◌, ◌⊎◌}
use Rattle.cam_base.specs.declared.error.Refused.TheVariants as refused
use Rattle.cam_base.specs.declared.error.Unread.TheVariants as error
use Rattle.adl_import.proofs.Firsts.{turns_within, turns_make}
use Rattle.adl_import.proofs.Utf8Names.{name_given_utf8}

fault_in : (m : Contents) (files : List SourceFile) (name in_file : List ℕ) (place : Place) (bytes : List ℕ) (f : Fault)
    → in_file ≡ name → length bytes ≤ file_limit
    → (IsFirstFault (length files) bytes f ⊎ ((tokens : List Token) × Lexes (length files) bytes tokens
    × IsFileIn bytes tokens (Err (refused.Fault f))))
    → get m name ≡ Some bytes → IsReadFault m files name place f in_file
fault_in m files name in_file place bytes f e l (inl s) h = subst (IsReadFault m files name place f) (sym e) (lexing h l s)
fault_in m files name in_file place bytes f e l (inr s) h = subst (IsReadFault m files name place f) (sym e)
    (parsing s.0 h l s.1 s.2)

-- a file that is read and not too long
pub read_ok : (m : Contents) (files : List SourceFile) (name : List ℕ) (place : Place) (bytes : List ℕ)
    (r : Result SourceFile SourceError)
    → get m name ≡ Some bytes → length bytes ≤ file_limit → IsParsed (length files) name bytes r → IsRead m files name place r
read_ok m files name place bytes (Ok file) h l p = search (rules)
read_ok m files name place bytes (Err (error.Fault f in_file)) h l p = fault_in m files name in_file place bytes f p.0 l p.1 h
read_ok m files name place bytes (Err (error.ReadFault in_file)) h l p = absurd p
read_ok m files name place bytes (Err error.NoMemory) h l p = tt

pub read_absent : (m : Contents) (files : List SourceFile) (name : List ℕ) (place : Place) (e : SourceError)
    → e ≡ error.Fault (fault_at NoFile place name) (met_in files name place) → get m name ≡ None
    → IsRead m files name place (Err e)
read_absent m files name place e is h = subst (λ (x : SourceError). IsRead m files name place (Err x)) (sym is) (absent h)

pub read_too_long : (m : Contents) (files : List SourceFile) (name : List ℕ) (place : Place) (e : SourceError)
    → e ≡ error.Fault (fault_at Limit place (codes "file size")) (met_in files name place)
    → (bytes : List ℕ) × (get m name ≡ Some bytes) × (file_limit < length bytes) → IsRead m files name place (Err e)
read_too_long m files name place e is h =
    subst (λ (x : SourceError). IsRead m files name place (Err x)) (sym is) (too_long h.1 h.2)

-- a turn that stops at its reading
pub turn_unread : (m : Contents) (root : List ℕ) (files : List SourceFile) (known : List Meeting) (name : List ℕ) (place : Place)
    (e : SourceError)
    → slice_get known (length files) ≡ Some (name, place) → IsRead m files name place (Err e)
    → IsTurn m root files known known (Err e)
turn_unread m root files known name place (error.Fault f in_file) n h = (name, place, n, reading h)
turn_unread m root files known name place (error.ReadFault in_file) n h =
    (place, n ∙ ap (λ (l : List ℕ). Some (l, place)) (sym h))
turn_unread m root files known name place error.NoMemory n h = tt

named_next : (known : List Meeting) (i : ℕ) (name own : List ℕ) (place : Place) → slice_get known i ≡ Some (name, place)
    → own ≡ name → slice_get known i ≡ Some (own, place)
named_next known i name own place n e = n ∙ ap (λ (l : List ℕ). Some (l, place)) (sym e)

-- a turn that stops at an import
pub turn_stopped : (m : Contents) (root : List ℕ) (files : List SourceFile) (known after : List Meeting) (file : SourceFile)
    (name : List ℕ) (place : Place) (e : SourceError)
    → slice_get known (length files) ≡ Some (name, place) → IsRead m files name place (Ok file)
    → IsTakenIn (take_imports root file.name known (imports_of file.tree)) file.name after (Err e)
    → IsTurn m root files known after (Err e)
turn_stopped m root files known after file name place (error.Fault f in_file) n h t = (
  file.name,
  place,
  named_next known (length files) name file.name place n h.0,
  subst (IsTurnFault m root files known file.name place f) (sym t.1) (importing {file = file} refl h.1 t.0),
)
turn_stopped m root files known after file name place (error.ReadFault in_file) n h t = absurd t
turn_stopped m root files known after file name place error.NoMemory n h t = tt

-- a turn without a fault
pub turn_done : (m : Contents) (root : List ℕ) (files : List SourceFile) (known after : List Meeting) (file : SourceFile)
    (name : List ℕ) (place : Place)
    → slice_get known (length files) ≡ Some (name, place) → IsRead m files name place (Ok file)
    → take_imports root file.name known (imports_of file.tree) ≡ Ok after → IsTurn m root files known after (Ok (Some file))
turn_done m root files known after file name place n h t =
    (place, named_next known (length files) name file.name place n h.0, h.1, t)

each_more : (known : List Meeting) (m : Meeting) → AreUtf8 known → IsUtf8 m.0 → AreUtf8 (known ++ m ∷ [])
each_more [] m a u = (u, tt)
each_more (k ∷ ks) m a u = (a.0, each_more ks m a.1 u)

-- each of these names is UTF-8
pub each_at : (known : List Meeting) (i : ℕ) (m : Meeting) → slice_get known i ≡ Some m → AreUtf8 known → IsUtf8 m.0
each_at [] i m e a = absurd (cc)
each_at (k ∷ ks) zero m e a = let same : k ≡ m = cc in subst (λ (x : Meeting). IsUtf8 x.0) same a.0
each_at (k ∷ ks) (suc i) m e a = each_at ks i m e a.1

-- what a step of the imports keeps: there are no more names than the limit, and they are UTF-8
record Keeps (root own : List ℕ) (known after : List Meeting) : Type 0 where
  few : length known ≤ files_limit → length after ≤ files_limit
  utf8 : IsUtf8 root → IsUtf8 own → AreUtf8 known → AreUtf8 after

same_kept : (root own : List ℕ) (known after : List Meeting) → known ≡ after → Keeps root own known after
same_kept root own known after e = subst (Keeps root own known) e (record { few = λ h. h; utf8 = λ r o h. h })

meet_kept : (root own : List ℕ) (is room : Bool) (known after : List Meeting) (place : Place) (name : List ℕ) (f : Fault)
    → (IsUtf8 root → IsUtf8 own → IsUtf8 name)
    → (room ≡ true → length known < files_limit) → cond is (Ok known) (cond room (Ok (known ++ (name, place) ∷ [])) (Err f)) ≡ Ok
    after → Keeps root own known after
meet_kept root own true room known after place name f u r e = let same : known ≡ after = cc in same_kept root own known after same
meet_kept root own false true known after place name f u r e = search (rules, length-append, each_more)
meet_kept root own false false known after place name f u r e = absurd (cc)

given_kept : (root own : List ℕ) (given : Option (List ℕ)) (known after : List Meeting) (place : Place)
    → ((name : List ℕ) → given ≡ Some name → IsUtf8 root → IsUtf8 own → IsUtf8 name)
    → meet_given known place given ≡ Ok after → Keeps root own known after
given_kept root own None known after place u e = absurd (cc)
given_kept root own (Some name) known after place u e = search (rules, meet_kept, ltb-true)

import_kept : (built_in : Bool) (root own : List ℕ) (known after : List Meeting) (import : Import)
    → cond built_in (Ok known) (meet_given known import.place (name_given root own import)) ≡ Ok after
    → Keeps root own known after
import_kept true root own known after import e = let same : known ≡ after = cc in same_kept root own known after same
import_kept false root own known after import e = search (rules, given_kept, name_given_utf8)

imports_step : (root own : List ℕ) (known after : List Meeting) (imports : List Import) (r : Result (List Meeting) Fault)
    → ((k : List Meeting) → r ≡ Ok k → Keeps root own known k)
    → and_then (λ (k : List Meeting). take_imports root own k imports) r ≡ Ok after
    → ((k : List Meeting) → take_imports root own k imports ≡ Ok after → Keeps root own k after) → Keeps root own known after
imports_step root own known after imports (Err f) a e more = absurd (cc)
imports_step root own known after imports (Ok k) a e more =
    let one = a k refl in
    let others = more k e in
    record { few = λ h. others.few (one.few h); utf8 = λ r o h. others.utf8 r o (one.utf8 r o h) }

imports_kept : (root own : List ℕ) (known after : List Meeting) (imports : List Import)
    → take_imports root own known imports ≡ Ok after → Keeps root own known after
imports_kept root own known after [] e = let same : known ≡ after = cc in same_kept root own known after same
imports_kept root own known after (i ∷ is) e =
    imports_step root own known after is (take_import root own known i) (λ k h. import_kept (is_built_in i) root own known k i h)
    e (λ k h. imports_kept root own k after is h)

-- turns know no more names than the limit
pub turns_few : (m : Contents) (root : List ℕ) (files : List SourceFile) (known : List Meeting) → Turns m root files known
    → length known ≤ files_limit
turns_few m root _ _ first = omega arith
turns_few m root _ _ (next {files = files} {known = known} {after = after} {file = file} turns at is taken) =
    (imports_kept root file.name known after (imports_of file.tree) taken).few (turns_few m root files known turns)

-- and UTF-8 alone
pub turns_utf8 : (m : Contents) (root : List ℕ) (files : List SourceFile) (known : List Meeting) → IsUtf8 root
    → Turns m root files known → AreUtf8 known
turns_utf8 m root _ _ r first = (r, tt)
turns_utf8 m root _ _ r (next {files = files} {known = known} {after = after} {file = file} {place = place} turns at is taken) =
    let before = turns_utf8 m root files known r turns in
    (imports_kept root file.name known after (imports_of file.tree) taken).utf8 r (each_at known (length files) (file.name, place)
    at before) before

slice_get_none : {A : Type 0} (xs : List A) (i : ℕ) → slice_get xs i ≡ None → length xs ≤ i
slice_get_none [] i e = omega arith
slice_get_none (x ∷ xs) zero e = absurd (cc)
slice_get_none (x ∷ xs) (suc i) e = let h = slice_get_none xs i e in omega arith

-- when a turn finds no file left
pub loaded_clean : (m : Contents) (root : List ℕ) (files : List SourceFile) (known : List Meeting) → Turns m root files known
    → slice_get known (length files) ≡ None → IsClean m root files
loaded_clean m root files known turns e = search (rules, turns_within, slice_get_none, turns_make)

-- when a turn stops
pub loaded_err : (m : Contents) (root : List ℕ) (files : List SourceFile) (known after : List Meeting) (e : SourceError)
    → Turns m root files known
    → IsTurn m root files known after (Err e) → IsLoadedFrom m root (Err e)
loaded_err m root files known after (error.Fault f in_file) turns h =
    record { name = h.0; turn = record { files = files; known = known; place = h.1; turns = turns; next = h.2 }; stands = h.3 }
loaded_err m root files known after (error.ReadFault name) turns h = search (rules)
loaded_err m root files known after error.NoMemory turns h = tt

-- the root alone is known first
pub turns_first : (m : Contents) (root top : List ℕ) (files : List SourceFile) (known : List Meeting) → top ≡ root → files ≡ []
    → known ≡ (root, root_place) ∷ []
    → Turns m top files known
turns_first m root top files known e f k =
    subst (λ (l : List SourceFile). Turns m top l known) (sym f)
    (subst (λ (l : List Meeting). Turns m top [] l) (sym (k ∙ ap (λ (r : List ℕ). (r, root_place) ∷ []) (sym e))) first)

-- a turn of the files that are done
pub turn_of : (m : Contents) (root : List ℕ) (files seen : List SourceFile) (known after : List Meeting)
    (r : Result (Option SourceFile) SourceError) → seen ≡ files
    → IsTurn m root seen known after r → IsTurn m root files known after r
turn_of m root files seen known after r s h = subst (λ (l : List SourceFile). IsTurn m root l known after r) s h

-- a turn more
pub turns_next : (m : Contents) (root : List ℕ) (files pushed : List SourceFile) (known after : List Meeting) (file : SourceFile)
    (o : Option SourceFile)
    → Turns m root files known → o ≡ Some file → IsTurn m root files known after (Ok o) → pushed ≡ files ++ file ∷ []
    → Turns m root pushed after
turns_next m root files pushed known after file o turns e h p =
    let t = subst (λ (x : Option SourceFile). IsTurn m root files known after (Ok x)) e h in
    subst (λ (l : List SourceFile). Turns m root l after) (sym p) (next turns t.1 t.2 t.3)

pub turns_smaller : (m : Contents) (root : List ℕ) (files pushed : List SourceFile) (known after : List Meeting)
    (file : SourceFile) (o : Option SourceFile)
    → length known ≤ files_limit → o ≡ Some file → IsTurn m root files known after (Ok o) → pushed ≡ files ++ file ∷ []
    → files_limit - length pushed < files_limit - length files
turns_smaller m root files pushed known after file o few e h p = search (rules, slice_get_within, length-append)

pub loaded_none : (m : Contents) (root top : List ℕ) (files : List SourceFile) (known after : List Meeting)
    (o : Option SourceFile) → top ≡ root → Turns m top files known → o ≡ None
    → IsTurn m top files known after (Ok o) → IsClean m root files
loaded_none m root top files known after o r turns e h = search (rules, loaded_clean)

-- a turn more learns of the next file alone
pub learns_next : {F : Type 0} (told : F → Contents → Type 0) (root top : List ℕ) (files seen : List SourceFile)
    (known : List Meeting) (a b c : F) → top ≡ root → seen ≡ files
    → LearnsOnly told (AlikeInTurns root) a b → InAll (told b) (λ m. Turns m top files known) → InAll (told c) (told b)
    → LearnsOnly told (AlikeInNext seen known) b c
    → LearnsOnly told (AlikeInTurns root) a c
learns_next told root top files seen known a b c r s before turns still turn m n now old alike =
    let held = still m now in
    turn m n now (before m n held old alike)
    (λ name place at. alike name (search (rules)))
