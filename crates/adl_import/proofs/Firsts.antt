-- Names at their first meetings, and the source that turns make.
use Rattle.std.proofs.Common.{rules}
use Rattle.adl_import.proofs.Common.{Bool, Contents, Err, Fault, Import, IsSource, IsTrue, Limit, List, Meeting, None, Ok, Option, Place, Result, Some, SourceFile, Turns, [], and_then, ap, append-nil, append_assoc, arith, bytes_eq}
use Rattle.adl_import.proofs.Common.{bytes_eq-Decides, codes, cond, false, false_from_ne_true, fault_at, filter, first, firsts, flat_map, flat_map-append, imports_of, inl, inr, is_built_in, is_known, length, length-append, length-map}
use Rattle.adl_import.proofs.Common.{map, map-append, meet_given, meeting_at, meeting_of, meetings_of, met, name_given, names, next, not, refl, root_place, slice_get, snoc_same, subst, suc, sym, take_import, take_imports, true, true≢false}
use Rattle.adl_import.proofs.Common.{zero, ℕ, ◌++◌, ◌+◌, ◌<◌, ◌||◌, ◌∙◌, ◌∷◌, ◌≡◌, ◌≤◌, ◌⊎◌}
use Rattle.std.proofs.lemmas.Bool.{or_right}
use Rattle.std.proofs.lemmas.List.Elements.{filter-append}
use Rattle.cam_base.proofs.Bytes.{bytes_eq-refl}

-- the meetings of other names
abbrev pub others : List ℕ → List Meeting → List Meeting
others name ms = filter (λ n. not (bytes_eq name n.0)) ms

pub bytes_eq-sym : (a b : List ℕ) → bytes_eq a b ≡ true → bytes_eq b a ≡ true
bytes_eq-sym a b e = (bytes_eq-Decides b a).1 (sym ((bytes_eq-Decides a b).0 e))

-- a name that differs from another is known among the others as among all
known_others_step : (a name : List ℕ) (m : Meeting) (ms : List Meeting) (c d : Bool) → bytes_eq name a ≡ false
    → bytes_eq a m.0 ≡ c → bytes_eq name m.0 ≡ d
    → is_known (others a ms) name ≡ is_known ms name → is_known (cond (not c) (m ∷ others a ms) (others a ms))
    name ≡ (d || is_known ms name)
known_others_step a name m ms true true e f g more = search (rules, bytes_eq-Decides)
known_others_step a name m ms true false e f g more = more
known_others_step a name m ms false d e f g more = ap (λ (b : Bool). b || is_known (others a ms) name) g
    ∙ ap (λ (b : Bool). d || b) more

pub known_others : (a name : List ℕ) (ms : List Meeting) → bytes_eq name a ≡ false
    → is_known (others a ms) name ≡ is_known ms name
known_others a name [] e = refl
known_others a name (m ∷ ms) e =
    known_others_step a name m ms (bytes_eq a m.0) (bytes_eq name m.0) e refl refl (known_others a name ms e)

-- one meeting more
firsts_step : (x m : Meeting) (fs : List Meeting) (known same : Bool) → is_known fs m.0 ≡ known → bytes_eq m.0 x.0 ≡ same
    → x ∷ others x.0 (cond known fs (fs ++ m ∷ [])) ≡ cond (same || is_known (others x.0 fs) m.0) (x ∷ others x.0 fs)
    (x ∷ others x.0 fs ++ m ∷ [])
firsts_step x m fs true true k s = refl
firsts_step x m fs false true k s = search (rules, filter-append, bytes_eq-sym, append-nil)
firsts_step x m fs true false k s = ap (λ (b : Bool). cond b (x ∷ others x.0 fs) (x ∷ others x.0 fs ++ m ∷ []))
    (sym (known_others x.0 m.0 fs s ∙ k))
firsts_step x m fs false false k s = search (rules, filter-append, false_from_ne_true, bytes_eq-sym, known_others)

pub firsts_more : (ms : List Meeting) (m : Meeting) → firsts (ms ++ m ∷ []) ≡ cond (is_known (firsts ms) m.0) (firsts ms)
    (firsts ms ++ m ∷ [])
firsts_more [] m = refl
firsts_more (x ∷ xs) m =
    ap (λ (l : List Meeting). x ∷ others x.0 l) (firsts_more xs m)
    ∙ firsts_step x m (firsts xs) (is_known (firsts xs) m.0) (bytes_eq m.0 x.0) refl refl

-- what an import makes known is at its first meeting
meet_firsts : (ms after : List Meeting) (place : Place) (name : List ℕ) (known room : Bool) (f : Fault)
    → is_known (firsts ms) name ≡ known
    → cond known (Ok (firsts ms)) (cond room (Ok (firsts ms ++ (name, place) ∷ [])) (Err f)) ≡ Ok after
    → after ≡ firsts (ms ++ (name, place) ∷ [])
meet_firsts ms after place name true room f k e = search (rules, firsts_more)
meet_firsts ms after place name false true f k e = search (rules, firsts_more)
meet_firsts ms after place name false false f k e = absurd (cc)

given_firsts : (ms after : List Meeting) (place : Place) (given : Option (List ℕ)) → meet_given (firsts ms) place given ≡ Ok after
    → after ≡ firsts (ms ++ meeting_at place given)
given_firsts ms after place None e = absurd (cc)
given_firsts ms after place (Some name) e = meet_firsts ms after place name (is_known (firsts ms) name) _
    (fault_at Limit place (codes "files")) refl e

import_firsts : (built_in : Bool) (ms after : List Meeting) (place : Place) (given : Option (List ℕ))
    → cond built_in (Ok (firsts ms)) (meet_given (firsts ms) place given) ≡ Ok after
    → after ≡ firsts (ms ++ cond built_in [] (meeting_at place given))
import_firsts true ms after place given e = let same : after ≡ firsts ms = cc in same ∙ ap firsts (sym (append-nil ms))
import_firsts false ms after place given e = given_firsts ms after place given e

imports_firsts_step : (root own : List ℕ) (ms after : List Meeting) (i : Import) (is : List Import)
    (r : Result (List Meeting) Fault)
    → ((k : List Meeting) → r ≡ Ok k → k ≡ firsts (ms ++ meeting_of root own i))
    → and_then (λ (k : List Meeting). take_imports root own k is) r ≡ Ok after
    → (take_imports root own (firsts (ms ++ meeting_of root own i)) is ≡ Ok after
    → after ≡ firsts ((ms ++ meeting_of root own i) ++ flat_map (meeting_of root own) is))
    → after ≡ firsts (ms ++ flat_map (meeting_of root own) (i ∷ is))
imports_firsts_step root own ms after i is (Err f) a e more = absurd (cc)
imports_firsts_step root own ms after i is (Ok k) a e more = search (rules, append_assoc)

imports_firsts : (root own : List ℕ) (ms after : List Meeting) (imports : List Import)
    → take_imports root own (firsts ms) imports ≡ Ok after
    → after ≡ firsts (ms ++ flat_map (meeting_of root own) imports)
imports_firsts root own ms after [] e = let same : after ≡ firsts ms = cc in same ∙ ap firsts (sym (append-nil ms))
imports_firsts root own ms after (i ∷ is) e =
    imports_firsts_step root own ms after i is (take_import root own (firsts ms) i)
    (λ k h. import_firsts (is_built_in i) ms k i.place (name_given root own i) h) e
    (λ h. imports_firsts root own (ms ++ meeting_of root own i) after is h)

met_more : (root : List ℕ) (files : List SourceFile) (file : SourceFile)
    → met root (files ++ file ∷ []) ≡ firsts (((root, root_place) ∷ flat_map (meetings_of root) files) ++ meetings_of root file)
met_more root files file = search (rules, flat_map-append, append-nil)

-- what is known after turns is what their files meet
pub turns_meet : (m : Contents) (root : List ℕ) (files : List SourceFile) (known : List Meeting) → Turns m root files known
    → known ≡ met root files
turns_meet m root _ _ first = refl
turns_meet m root _ _ (next {files = files} {known = known} {after = after} {file = file} {place = place} turns at is taken) =
    imports_firsts root file.name ((root, root_place) ∷ flat_map (meetings_of root) files) after (imports_of file.tree)
    (subst (λ (l : List Meeting). take_imports root file.name l (imports_of file.tree) ≡ Ok after)
    (turns_meet m root files known turns) taken)
    ∙ sym (met_more root files file)

-- imports take no name away
pub record Extends (known after : List Meeting) : Type 0 where
  pub more : List Meeting
  pub parts : after ≡ known ++ more

same_extends : (known after : List Meeting) → known ≡ after → Extends known after
same_extends known after e = record { more = []; parts = sym e ∙ sym (append-nil known) }

extends_twice : (a b c : List Meeting) → Extends a b → Extends b c → Extends a c
extends_twice a b c x y = search (rules, append_assoc)

meet_extends : (is room : Bool) (known after : List Meeting) (m : Meeting) (f : Fault)
    → cond is (Ok known) (cond room (Ok (known ++ m ∷ [])) (Err f)) ≡ Ok after → Extends known after
meet_extends true room known after m f e = let same : known ≡ after = cc in same_extends known after same
meet_extends false true known after m f e = let same : after ≡ known ++ m ∷ [] = cc in record { more = m ∷ []; parts = same }
meet_extends false false known after m f e = absurd (cc)

given_extends : (given : Option (List ℕ)) (known after : List Meeting) (place : Place) → meet_given known place given ≡ Ok after
    → Extends known after
given_extends None known after place e = absurd (cc)
given_extends (Some name) known after place e = meet_extends (is_known known name) _ known after (name, place)
    (fault_at Limit place (codes "files")) e

import_extends : (built_in : Bool) (known after : List Meeting) (place : Place) (given : Option (List ℕ))
    → cond built_in (Ok known) (meet_given known place given) ≡ Ok after → Extends known after
import_extends true known after place given e = let same : known ≡ after = cc in same_extends known after same
import_extends false known after place given e = given_extends given known after place e

imports_extends_step : (root own : List ℕ) (known after : List Meeting) (is : List Import) (r : Result (List Meeting) Fault)
    → ((k : List Meeting) → r ≡ Ok k → Extends known k)
    → and_then (λ (k : List Meeting). take_imports root own k is) r ≡ Ok after
    → ((k : List Meeting) → take_imports root own k is ≡ Ok after → Extends k after) → Extends known after
imports_extends_step root own known after is (Err f) a e more = absurd (cc)
imports_extends_step root own known after is (Ok k) a e more = extends_twice known k after (a k refl) (more k e)

imports_extend : (root own : List ℕ) (known after : List Meeting) (imports : List Import)
    → take_imports root own known imports ≡ Ok after → Extends known after
imports_extend root own known after [] e = let same : known ≡ after = cc in same_extends known after same
imports_extend root own known after (i ∷ is) e =
    imports_extends_step root own known after is (take_import root own known i)
    (λ k h. import_extends (is_built_in i) known k i.place (name_given root own i) h) e
    (λ k h. imports_extend root own k after is h)

-- the item of a number, and what stands before and behind it
split_at : {A : Type 0} (xs : List A) (i : ℕ) (x : A) → slice_get xs i ≡ Some x → (front : List A) × (rest : List A)
    × (xs ≡ front ++ x ∷ rest) × (length front ≡ i)
split_at [] i x e = absurd (cc)
split_at (y ∷ ys) zero x e = let same : y ≡ x = cc in ([], ys, ap (λ a. a ∷ ys) same, refl)
split_at (y ∷ ys) (suc i) x e = let p = split_at ys i x e in (y ∷ p.0, p.1, ap (λ l. y ∷ l) p.2, ap suc p.3)

-- lists of one length that begin one list are one
same_front : {A : Type 0} (xs ys us vs : List A) → length xs ≡ length ys → xs ++ us ≡ ys ++ vs → us ≡ vs
same_front [] [] us vs l e = e
same_front [] (y ∷ ys) us vs l e = absurd (omega arith)
same_front (x ∷ xs) [] us vs l e = absurd (omega arith)
same_front (x ∷ xs) (y ∷ ys) us vs l e = let inner : xs ++ us ≡ ys ++ vs = cc in same_front xs ys us vs (omega arith) inner

abbrev pub file_names : List SourceFile → List (List ℕ)
file_names files = map (λ f. f.name) files

-- the names of the files come first among those that are known
record Leads (files : List SourceFile) (known : List Meeting) : Type 0 where
  more : List (List ℕ)
  parts : names known ≡ file_names files ++ more

leads_next : (files : List SourceFile) (known after : List Meeting) (file : SourceFile) (place : Place) → Leads files known
    → slice_get known (length files) ≡ Some (file.name, place) → Extends known after
    → Leads (files ++ file ∷ []) after
leads_next files known after file place before at ext =
    let p = split_at known (length files) (file.name, place) at in
    let lengths : length (file_names files) ≡ length (names p.0) = search (rules, length-map) in
    let whole : file_names files ++ before.more ≡ names p.0 ++ file.name ∷ names p.1 = search (rules, map-append) in
    let tail : before.more ≡ file.name ∷ names p.1 = search (rules, same_front) in
    record {
      more = names p.1 ++ names ext.more;
      parts = search (rules, map-append, append_assoc);
    }

turns_lead : (m : Contents) (root : List ℕ) (files : List SourceFile) (known : List Meeting) → Turns m root files known
    → Leads files known
turns_lead m root _ _ first = record { more = root ∷ []; parts = refl }
turns_lead m root _ _ (next {files = files} {known = known} {after = after} {file = file} {place = place} turns at is taken) =
    leads_next files known after file place (turns_lead m root files known turns) at (imports_extend root file.name known after
    (imports_of file.tree) taken)

no_more : {A : Type 0} (xs ys : List A) → length (xs ++ ys) ≡ length xs → xs ++ ys ≡ xs
no_more [] [] e = refl
no_more [] (y ∷ ys) e = absurd (omega arith)
no_more (x ∷ xs) ys e = ap (λ l. x ∷ l) (no_more xs ys (omega arith))

-- there are no more files than names
pub turns_within : (m : Contents) (root : List ℕ) (files : List SourceFile) (known : List Meeting) → Turns m root files known
    → length files ≤ length known
turns_within m root files known turns = search (rules, turns_lead, length-map, length-append)

turns_equation : (m : Contents) (root : List ℕ) (files : List SourceFile) (known : List Meeting) → Turns m root files known
    → length known ≡ length files
    → file_names files ≡ names (met root files)
turns_equation m root files known turns all = search (rules, turns_lead, length-map, no_more, turns_meet)

-- a first meeting is a meeting
known_sub_step : (a name : List ℕ) (m : Meeting) (os ms : List Meeting) (c : Bool)
    → (is_known os name ≡ true → is_known ms name ≡ true) → is_known (cond c (m ∷ os) os) name ≡ true
    → is_known (m ∷ ms) name ≡ true
known_sub_step a name m os ms true more e = search (rules)
known_sub_step a name m os ms false more e = or_right (bytes_eq name m.0) (is_known ms name) (more e)

pub known_sub : (a name : List ℕ) (ms : List Meeting) → is_known (others a ms) name ≡ true → is_known ms name ≡ true
known_sub a name [] e = e
known_sub a name (m ∷ ms) e = known_sub_step a name m (others a ms) ms (not (bytes_eq a m.0)) (λ h. known_sub a name ms h) e

known_firsts : (ms : List Meeting) (name : List ℕ) → is_known (firsts ms) name ≡ true → is_known ms name ≡ true
known_firsts [] name e = e
known_firsts (m ∷ ms) name e = go (bytes_eq name m.0) (λ h. known_firsts ms name (known_sub m.0 name (firsts ms) h)) e
  where
    go : (b : Bool) → (is_known (others m.0 (firsts ms)) name ≡ true → is_known ms name ≡ true)
        → (b || is_known (others m.0 (firsts ms)) name) ≡ true → (b || is_known ms name) ≡ true
    go true f h = refl
    go false f h = f h

known_at : (ms : List Meeting) (i : ℕ) (m : Meeting) → slice_get ms i ≡ Some m → is_known ms m.0 ≡ true
known_at [] i m e = absurd (cc)
known_at (k ∷ ks) zero m e = search (rules, bytes_eq-refl)
known_at (k ∷ ks) (suc i) m e = go (bytes_eq m.0 k.0) (known_at ks i m e)
  where
    go : (b : Bool) → is_known ks m.0 ≡ true → (b || is_known ks m.0) ≡ true
    go true h = refl
    go false h = h

-- a meeting behind the first of all is given by an import
given_at : (root : List ℕ) (ms : List Meeting) (n : ℕ) (m : Meeting) → slice_get (firsts ((root, root_place) ∷ ms)) (suc n) ≡ Some
    m → is_known ms m.0 ≡ true
given_at root ms n m e = known_firsts ms m.0 (known_sub root m.0 (firsts ms) (known_at (others root (firsts ms)) n m e))

-- the last of a list
pub snoc_view : {A : Type 0} (xs : List A) → (xs ≡ []) ⊎ ((front : List A) × (last : A) × (xs ≡ front ++ last ∷ []))
snoc_view [] = inl refl
snoc_view (x ∷ xs) = elim (snoc_view xs) [
  | inl e ↦ inr ([], x, ap (λ l. x ∷ l) e)
  | inr p ↦ inr (x ∷ p.0, p.1, ap (λ l. x ∷ l) p.2)
]

reached_next : (root : List ℕ) (files before after : List SourceFile) (last file : SourceFile) (place : Place)
    → ((b a : List SourceFile) (f : SourceFile) → files ≡ b ++ f ∷ a → 0 < length b
    → IsTrue (is_known (flat_map (meetings_of root) b) f.name))
    → slice_get (met root files) (length files) ≡ Some (last.name, place) → files ++ last ∷ [] ≡ before ++ file ∷ after
    → 0 < length before
    → IsTrue (is_known (flat_map (meetings_of root) before) file.name)
reached_next root files before after last file place earlier at e some = elim (snoc_view after) [
  | inl none ↦
      let p = snoc_same files before last file (e ∙ ap (λ (l : List SourceFile). before ++ file ∷ l) none) in
      subst (λ (f : SourceFile). IsTrue (is_known (flat_map (meetings_of root) before) f.name)) p.1
      (newest before some last place
      (subst (λ (l : List SourceFile). slice_get (met root l) (length l) ≡ Some (last.name, place)) p.0 at))
  | inr v ↦
      let p = snoc_same files (before ++ file ∷ v.0) last v.1
      (e ∙ ap (λ (l : List SourceFile). before ++ file ∷ l) v.2 ∙ sym (append_assoc before (file ∷ v.0) (v.1 ∷ []))) in
      earlier before v.0 file p.0 some
]
  where
    newest : (b : List SourceFile) → 0 < length b → (l : SourceFile) (place : Place)
        → slice_get (met root b) (length b) ≡ Some (l.name, place)
        → IsTrue (is_known (flat_map (meetings_of root) b) l.name)
    newest [] some l place h = absurd (omega arith)
    newest (x ∷ xs) some l place h = given_at root (flat_map (meetings_of root) (x ∷ xs)) (length xs) (l.name, place) h

turns_reach : (m : Contents) (root : List ℕ) (files : List SourceFile) (known : List Meeting) → Turns m root files known
    → (before after : List SourceFile) (file : SourceFile) → files ≡ before ++ file ∷ after → 0 < length before
    → IsTrue (is_known (flat_map (meetings_of root) before) file.name)
turns_reach m root _ _ first [] after file e some = absurd (omega arith)
turns_reach m root _ _ first (b ∷ bs) after file e some = absurd (cc)
turns_reach m root _ _ (next {files = files} {known = known} {file = last} {place = place} turns at is taken) before after
    file e some =
    reached_next root files before after last file place (turns_reach m root files known turns)
    (subst (λ (l : List Meeting). slice_get l (length files) ≡ Some (last.name, place)) (turns_meet m root files known turns) at)
    e some

-- when no file is left, the files are the source
pub turns_make : (m : Contents) (root : List ℕ) (files : List SourceFile) (known : List Meeting) → Turns m root files known
    → length known ≡ length files → IsSource root files
turns_make m root files known turns all = record {
  equation = turns_equation m root files known turns all;
  reached = turns_reach m root files known turns;
}
