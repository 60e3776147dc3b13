-- The import that is refused is the first that names no file, or that gives one name more than there may be.
use Rattle.front_laws.proofs.Common.{Bool, Err, Import, List, Meeting, None, Ok, Option, Result, Some, SourceFile, [], ap, append-nil, append_assoc, arith, bytes_eq, bytes_eq-Decides, codes, cond, false, files_limit, firsts, from_any, imports_of}
use Rattle.front_laws.proofs.Common.{in_map, inl, inr, is_built_in, is_known, length, lt-ltb, ltb-true, map, meeting_at, meeting_of, meetings_of, met, name_given, nat_lt, nat_tests, or_left, or_right, refl, root_place, subst, sym, true, true≢false}
use Rattle.front_laws.proofs.Common.{ℕ, rules, ◌++◌, ◌∙◌, ◌∷◌, ◌≡◌, ◌≤◌, ◌⊎◌}
use Rattle.std.specs.List.{flat_map}
use Rattle.adl_import.specs.Turns.{Turns, and_then, fault_at, meet, meet_given, take_import, take_imports}
use Rattle.adl_import.proofs.Firsts.{firsts_more, turns_meet}
use Rattle.cam_base.specs.declared.code.Code.TheVariants.{BadPath, Limit}
use Rattle.cam_base.specs.declared.place.Fault.{Fault}
use Rattle.cam_base.specs.declared.place.Place.{Place}
use Rattle.cam_io.specs.Contents.{Contents}
use Rattle.cam_base.specs.Gather.{IsIn}
use Rattle.front_laws.specs.RefusedImports.{IsOneMore, IsRefusedImport, IsTaken, met_before, of_built_in_name, of_met_name, of_new_name}
use Rattle.front_laws.proofs.Importing.{from_firsts, in_firsts}

-- ---- what is known

known_in : (ms : List Meeting) (name : List ℕ) → IsIn name (map (λ m. m.0) ms) → is_known ms name ≡ true
known_in [] name i = absurd i
known_in (m ∷ ms) name (inl e) = or_left (bytes_eq name m.0) (is_known ms name) ((bytes_eq-Decides name m.0).1 (sym e))
known_in (m ∷ ms) name (inr i) = or_right (bytes_eq name m.0) (is_known ms name) (known_in ms name i)

-- a name that isn't known among the firsts isn't met
unmet : (ms : List Meeting) (name : List ℕ) → is_known (firsts ms) name ≡ false → IsIn name (map (λ m. m.0) ms) → ⊥
unmet ms name e i = true≢false (sym (known_in (firsts ms) name (in_firsts ms name i)) ∙ e)

-- ---- one import

-- no import stands in front
nothing_front : (root own : List ℕ) (ms : List Meeting) (p q : List Import) (i : Import) → [] ≡ p ++ i ∷ q
    → IsTaken root own (met_before root own ms p) i
nothing_front root own ms [] q i e = cc
nothing_front root own ms (x ∷ p) q i e = cc

-- a name that is known among the firsts is met
is_met : (ms : List Meeting) (name : List ℕ) → is_known (firsts ms) name ≡ true → IsIn name (map (λ m. m.0) ms)
is_met ms name e = search (rules, from_any, bytes_eq-Decides, in_map, from_firsts)

abbrev Taken : List ℕ → List ℕ → List Meeting → Import → Result (List Meeting) Fault → Type 0
Taken root own ms i (Ok known) = (known ≡ firsts (ms ++ meeting_of root own i)) × IsTaken root own ms i
Taken root own ms i (Err f) = IsRefusedImport root own ms (i ∷ []) f

taken_name : (root own : List ℕ) (ms : List Meeting) (i : Import) → is_built_in i ≡ false → (name : List ℕ)
    → name_given root own i ≡ Some name → Taken root own ms i (meet (firsts ms) i.place name)
taken_name root own ms i b name e = by_known (is_known (firsts ms) name) refl
  where
    here : ms ++ meeting_of root own i ≡ ms ++ (name, i.place) ∷ []
    here = ap (λ c. ms ++ cond c [] (meeting_at i.place (name_given root own i))) b ∙ ap (λ o. ms ++ meeting_at i.place o) e

    by_room : is_known (firsts ms) name ≡ false → (c : Bool) → nat_lt (length (firsts ms)) files_limit ≡ c
        → Taken root own ms i (cond c (Ok (firsts ms ++ (name, i.place) ∷ [])) (Err (fault_at Limit i.place (codes "files"))))
    by_room k true t = (
      sym (ap firsts here ∙ firsts_more ms (name, i.place) ∙ ap (λ z. cond z (firsts ms) (firsts ms ++ (name, i.place) ∷ []))
          k),
      of_new_name name b e (ltb-true (length (firsts ms)) files_limit t),
    )
    by_room k false t =
        record {
          before = [];
          import = i;
          after = [];
          split = refl;
          front = nothing_front root own ms;
          other = b;
          why = search (rules, append-nil, unmet, nat_tests);
        }

    by_known : (c : Bool) → is_known (firsts ms) name ≡ c → Taken root own ms i
        (cond c (Ok (firsts ms)) (cond (nat_lt (length (firsts ms)) files_limit) (Ok (firsts ms ++ (name, i.place) ∷ []))
        (Err (fault_at Limit i.place (codes "files")))))
    by_known true k = (
      sym (ap firsts here ∙ firsts_more ms (name, i.place) ∙ ap (λ z. cond z (firsts ms) (firsts ms ++ (name, i.place) ∷ []))
          k),
      of_met_name name b e (is_met ms name k),
    )
    by_known false k = by_room k (nat_lt (length (firsts ms)) files_limit) refl

taken : (root own : List ℕ) (ms : List Meeting) (i : Import) → Taken root own ms i (take_import root own (firsts ms) i)
taken root own ms i = by_name (is_built_in i) refl
  where
    by_given : is_built_in i ≡ false → (o : Option (List ℕ)) → name_given root own i ≡ o
        → Taken root own ms i (meet_given (firsts ms) i.place o)
    by_given b None e = record {
      before = [];
      import = i;
      after = [];
      split = refl;
      front = nothing_front root own ms;
      other = b;
      why = inl (e, refl);
    }
    by_given b (Some name) e = taken_name root own ms i b name e

    by_name : (b : Bool) → is_built_in i ≡ b
        → Taken root own ms i (cond b (Ok (firsts ms)) (meet_given (firsts ms) i.place (name_given root own i)))
    by_name true b = search (rules, append-nil)
    by_name false b = by_given b (name_given root own i) refl

-- ---- all of them

behind : (root own : List ℕ) (ms : List Meeting) (i : Import) (is : List Import) (f : Fault) → IsTaken root own ms i
    → IsRefusedImport root own (ms ++ meeting_of root own i) is f → IsRefusedImport root own ms (i ∷ is) f
behind root own ms i is f t r =
    let same : met_before root own (ms ++ meeting_of root own i) r.before ≡ met_before root own ms (i ∷ r.before) =
    append_assoc ms (meeting_of root own i) (flat_map (meeting_of root own) r.before) in
    record {
      before = i ∷ r.before;
      import = r.import;
      after = r.after;
      split = ap (λ z. i ∷ z) r.split;
      front = in_front;
      other = r.other;
      why = by_why same r.why;
    }
  where
    in_front : (p q : List Import) (x : Import) → i ∷ r.before ≡ p ++ x ∷ q → IsTaken root own (met_before root own ms p) x
    in_front [] q x e =
        let same : i ≡ x = cc in
        let P : Import → Type 0 = λ z. IsTaken root own ms z in
        subst (λ z. IsTaken root own z x) (sym (append-nil ms)) (subst P same t)
    in_front (y ∷ p) q x e =
        let same : i ≡ y = cc in
        let more : r.before ≡ p ++ x ∷ q = cc in
        let P : List Meeting → Type 0 = λ z. IsTaken root own z x in
        let Q : Import → Type 0 = λ z. IsTaken root own (met_before root own ms (z ∷ p)) x in
        subst Q same (subst P (append_assoc ms (meeting_of root own i) (flat_map (meeting_of root own) p)) (r.front p q x more))

    by_why : met_before root own (ms ++ meeting_of root own i) r.before ≡ met_before root own ms (i ∷ r.before)
        → ((name_given root own r.import ≡ None) × (f ≡ fault_at BadPath r.import.place []))
        ⊎ (IsOneMore root own (ms ++ meeting_of root own i) r.before r.import
        × (f ≡ fault_at Limit r.import.place (codes "files")))
        → ((name_given root own r.import ≡ None) × (f ≡ fault_at BadPath r.import.place []))
        ⊎ (IsOneMore root own ms (i ∷ r.before) r.import × (f ≡ fault_at Limit r.import.place (codes "files")))
    by_why same (inl x) = inl x
    by_why same (inr (x, e)) = search (rules)

alone : (root own : List ℕ) (ms : List Meeting) (i : Import) (is : List Import) (f : Fault)
    → IsRefusedImport root own ms (i ∷ []) f → IsRefusedImport root own ms (i ∷ is) f
alone root own ms i is f r = record {
  before = r.before;
  import = r.import;
  after = r.after ++ is;
  split = ap (λ z. z ++ is) r.split ∙ append_assoc r.before (r.import ∷ r.after) is;
  front = r.front;
  other = r.other;
  why = r.why;
}

refused : (root own : List ℕ) (ms : List Meeting) (imports : List Import) (f : Fault)
    → take_imports root own (firsts ms) imports ≡ Err f → IsRefusedImport root own ms imports f
refused root own ms [] f e = cc
refused root own ms (i ∷ is) f e = by_result (take_import root own (firsts ms) i) (taken root own ms i)
    (λ k. refused root own (ms ++ meeting_of root own i) is f k) e
  where
    by_result : (r : Result (List Meeting) Fault) → Taken root own ms i r
        → (take_imports root own (firsts (ms ++ meeting_of root own i)) is ≡ Err f
        → IsRefusedImport root own (ms ++ meeting_of root own i) is f)
        → and_then (λ more. take_imports root own more is) r ≡ Err f → IsRefusedImport root own ms (i ∷ is) f
    by_result (Ok known) t more e = behind root own ms i is f t.1 (more (ap (λ z. take_imports root own z is) (sym t.0) ∙ e))
    by_result (Err g) t more e = search (rules, alone)

-- ---- and back

-- a name that is known adds nothing
known_same : (ms : List Meeting) (place : Place) (name : List ℕ) → is_known (firsts ms) name ≡ true
    → firsts ms ≡ firsts (ms ++ (name, place) ∷ [])
known_same ms place name k = sym (firsts_more ms (name, place) ∙ ap (λ z. cond z (firsts ms) (firsts ms ++ (name, place) ∷ [])) k)

given_here : (root own : List ℕ) (ms : List Meeting) (i : Import) (name : List ℕ) → is_built_in i ≡ false
    → name_given root own i ≡ Some name → ms ++ meeting_of root own i ≡ ms ++ (name, i.place) ∷ []
given_here root own ms i name b e = ap (λ c. ms ++ cond c [] (meeting_at i.place (name_given root own i))) b
    ∙ ap (λ o. ms ++ meeting_at i.place o) e

-- an import of a name of its own takes what it gives
takes : (root own : List ℕ) (known : List Meeting) (i : Import) (o : Option (List ℕ)) → is_built_in i ≡ false
    → name_given root own i ≡ o → take_import root own known i ≡ meet_given known i.place o
takes root own known i o b e = ap (λ c. cond c (Ok known) (meet_given known i.place (name_given root own i))) b
    ∙ ap (meet_given known i.place) e

step_taken : (root own : List ℕ) (ms : List Meeting) (i : Import) → IsTaken root own ms i
    → take_import root own (firsts ms) i ≡ Ok (firsts (ms ++ meeting_of root own i))
step_taken root own ms i (of_built_in_name b) = search (rules, append-nil)
step_taken root own ms i (of_met_name name b e m) =
    let k = known_in (firsts ms) name (in_firsts ms name m) in
    search (rules, takes, nat_lt, known_same, given_here)
step_taken root own ms i (of_new_name name b e l) = search (rules, takes, lt-ltb, known_same, given_here, firsts_more)

abbrev Why : List ℕ → List ℕ → List Meeting → Import → Fault → Type 0
Why root own met i f =
    ((name_given root own i ≡ None) × (f ≡ fault_at BadPath i.place [])) ⊎ ((name : List ℕ) × (name_given root own i ≡ Some name)
    × (IsIn name (map (λ m. m.0) met) → ⊥) × (files_limit ≤ length (firsts met)) × (f ≡ fault_at Limit i.place (codes "files")))

refused_here : (root own : List ℕ) (ms : List Meeting) (i : Import) (f : Fault) → is_built_in i ≡ false → Why root own ms i f
    → take_import root own (firsts ms) i ≡ Err f
refused_here root own ms i f b (inl (e, same)) = takes root own (firsts ms) i None b e ∙ ap (λ z. Err z) (sym same)
refused_here root own ms i f b (inr (name, e, new, full, same)) = search (rules, takes, nat_lt, is_met, nat_tests)

-- imports that are taken, and then one that is refused
in_turn : (root own : List ℕ) (ms : List Meeting) (before : List Import) (i : Import) (after : List Import) (f : Fault)
    → ((p q : List Import) (x : Import) → before ≡ p ++ x ∷ q → IsTaken root own (met_before root own ms p) x)
    → is_built_in i ≡ false → Why root own (met_before root own ms before) i f
    → take_imports root own (firsts ms) (before ++ i ∷ after) ≡ Err f
in_turn root own ms [] i after f front b why =
    let P : List Meeting → Type 0 = λ z. Why root own z i f in
    ap (and_then (λ more. take_imports root own more after)) (refused_here root own ms i f b (subst P (append-nil ms) why))
in_turn root own ms (x ∷ before) i after f front b why =
    let P : List Meeting → Type 0 = λ z. IsTaken root own z x in
    let Q : List Meeting → Type 0 = λ z. Why root own z i f in
    let same : (p : List Import) → met_before root own ms (x ∷ p) ≡ met_before root own (ms ++ meeting_of root own x) p =
    λ p. sym (append_assoc ms (meeting_of root own x) (flat_map (meeting_of root own) p)) in
    ap (and_then (λ more. take_imports root own more (before ++ i ∷ after)))
    (step_taken root own ms x (subst P (append-nil ms) (front [] before x refl))) ∙ in_turn root own (ms ++ meeting_of root own x)
    before i after f (λ p q y e. let R : List Meeting → Type 0 = λ z. IsTaken root own z y in
    subst R (same p) (front (x ∷ p) q y (ap (λ z. x ∷ z) e))) b (subst Q (same before) why)

in_refused : (root own : List ℕ) (ms : List Meeting) (imports : List Import) (f : Fault) → IsRefusedImport root own ms imports f
    → take_imports root own (firsts ms) imports ≡ Err f
in_refused root own ms imports f r =
    ap (take_imports root own (firsts ms)) r.split ∙ in_turn root own ms r.before r.import r.after f r.front r.other (told r.why)
  where
    told : ((name_given root own r.import ≡ None) × (f ≡ fault_at BadPath r.import.place []))
        ⊎ (IsOneMore root own ms r.before r.import × (f ≡ fault_at Limit r.import.place (codes "files")))
        → Why root own (met_before root own ms r.before) r.import f
    told (inl x) = inl x
    told (inr (x, e)) = inr (x.name, x.gives, x.new, x.full, e)

-- of a file whose turn comes after the turns of others
pub turn_refused : (m : Contents) (root : List ℕ) (files : List SourceFile) (known : List Meeting) → Turns m root files known
    → (file : SourceFile) (f : Fault) → take_imports root file.name known (imports_of file.tree) ≡ Err f
    → IsRefusedImport root file.name ((root, root_place) ∷ flat_map (meetings_of root) files) (imports_of file.tree) f
turn_refused m root files known turns file f e = search (rules, refused, turns_meet)

pub in_turn_refused : (m : Contents) (root : List ℕ) (files : List SourceFile) (known : List Meeting) → Turns m root files known
    → (file : SourceFile) (f : Fault)
    → IsRefusedImport root file.name ((root, root_place) ∷ flat_map (meetings_of root) files) (imports_of file.tree) f
    → take_imports root file.name known (imports_of file.tree) ≡ Err f
in_turn_refused m root files known turns file f r =
    ap (λ z. take_imports root file.name z (imports_of file.tree)) (turns_meet m root files known turns)
    ∙ in_refused root file.name ((root, root_place) ∷ flat_map (meetings_of root) files) (imports_of file.tree) f r
