-- There is one source of a root, and one answer to its loading.
use Rattle.std.proofs.Common.{rules}
use Rattle.adl_import.proofs.Common.{AreFilesOf, Bool, Contents, Err, Fault, IsClean, IsFileIn, IsFileOf, IsFileSpelled, IsFirst, IsFirstFault, IsLoaded, IsLoadedBy, IsLoadedFrom, IsReadFault, IsRefusedRoot, IsSource, IsTurnFault, IsTurnOf, Lexes}
use Rattle.adl_import.proofs.Common.{List, Meeting, None, Ok, Option, Place, Result, Some, SourceError, SourceFile, Token, Turns, [], absent, ap, append-nil, append_assoc, arith, bytes_eq, cond, false, false_from_ne_true, file_limit, first, firsts}
use Rattle.adl_import.proofs.Common.{flat_map, flat_map-append, get, importing, imports_of, inl, inr, is_known, length, length-map, lexing, limit, ltb-false, ltb-true, map-append, meetings_of, met, names, next, not, opens, or_parts, or_right}
use Rattle.adl_import.proofs.Common.{parsing, reading, refl, root_name, root_place, same_Some, see, slice_get, slice_get_within, snoc_same, subst, suc, sym, take_imports, too_long, true, true≢false, yields, ℕ, ◌++◌, ◌+◌, ◌<◌, ◌||◌, ◌∙◌, ◌∷◌, ◌≡◌}
use Rattle.adl_import.proofs.Common.{◌≤◌, ◌⊎◌}
use Rattle.std.proofs.Math.Dec.{ltb}
use Rattle.cam_base.specs.declared.error.Refused.TheVariants as refused
use Rattle.cam_base.specs.declared.grammar_error.Why.{Why}
use Rattle.cam_base.specs.declared.grammar_error.Why.TheVariants.{Unexpected, TooDeep}
use Rattle.cam_base.specs.Depth.{deep}
use Rattle.cam_base.specs.Parsed.{FileStops}
use Rattle.cam_base.specs.Spelling.{Begins}
use Rattle.cam_base.proofs.GrammarFronts.{deep_begun, deep_front}
use Rattle.cam_base.proofs.Unique.{file_stops_once}
use Rattle.adl_ast.specs.declared.file.File.{File}
use Rattle.adl_ast.specs.declared.seen.Seen.{Seen}
use Rattle.adl_ast.specs.declared.source.Source.{Source}
use Rattle.adl_ast.specs.Codes.{token_code}
use Rattle.adl_ast.specs.Forms.{nested_line, file_line}
use Rattle.adl_ast.proofs.Decides.{nested_is, file_decides}
use Rattle.adl_ast.proofs.Trees.{one_tree}
use Rattle.adl_lexer.proofs.Unique.{one_list, one_fault, no_fault_reached}
use Rattle.cam_base.specs.declared.error.Unread.TheVariants as error
use Rattle.adl_import.proofs.Firsts.{others, bytes_eq-sym, known_others, known_sub, firsts_more, file_names, snoc_view, turns_meet, Extends}

abbrev made : List ℕ → List ℕ → File → SourceFile
made name bytes tree = record { name = name; bytes = bytes; tree = tree }

-- files of one number and name are one
file_is_one : (m : Contents) (n : ℕ) (x y : SourceFile) → IsFileOf m n x → IsFileOf m n y → x.name ≡ y.name → x ≡ y
file_is_one m n x y p q e =
    let held : get m x.name ≡ Some x.bytes = p.held in
    let held' : get m y.name ≡ Some y.bytes = q.held in
    let bytes : x.bytes ≡ y.bytes = same_Some x.bytes y.bytes (sym held ∙ ap (get m) e ∙ held') in
    let tokens : p.tokens ≡ q.tokens = search (rules, one_list) in
    let spelled : IsFileSpelled y.tree (see x.bytes p.tokens) = search (rules) in
    let tree : x.tree ≡ y.tree = one_tree token_code nested_line opens nested_is file_line file_decides x.tree y.tree
    (see x.bytes p.tokens) (limit, p.spelled) (limit, spelled) in
    ap (λ (l : List ℕ). made l x.bytes x.tree) e ∙ ap (λ (l : List ℕ). made y.name l x.tree) bytes
    ∙ ap (λ (t : File). made y.name y.bytes t) tree

-- one of two lists begins the other
abbrev Compared : List SourceFile → List SourceFile → Type 0
Compared xs ys = (xs ≡ ys) ⊎ (((y : SourceFile) × (rest : List SourceFile) × (ys ≡ xs ++ y ∷ rest))
    ⊎ ((x : SourceFile) × (rest : List SourceFile) × (xs ≡ ys ++ x ∷ rest)))

-- P holds of each item and those before it
abbrev Along : (List SourceFile → SourceFile → Type 0) → List SourceFile → Type 0
Along P xs = (before after : List SourceFile) (file : SourceFile) → xs ≡ before ++ file ∷ after → P before file

module _ (P : List SourceFile → SourceFile → Type 0) (one : (before : List SourceFile) (x y : SourceFile) → P before x
    → P before y → x ≡ y) where
  compared_from : (before xs ys : List SourceFile) → Along P (before ++ xs) → Along P (before ++ ys)
      → Compared (before ++ xs) (before ++ ys)
  compared_from before [] [] p q = inl refl
  compared_from before [] (y ∷ ys) p q = inr (inl (y, ys, ap (λ (l : List SourceFile). l ++ y ∷ ys) (sym (append-nil before))))
  compared_from before (x ∷ xs) [] p q = inr (inr (x, xs, ap (λ (l : List SourceFile). l ++ x ∷ xs) (sym (append-nil before))))
  compared_from before (x ∷ xs) (y ∷ ys) p q =
      let same : x ≡ y = one before x y (p before xs x refl) (q before ys y refl) in
      let left : (before ++ x ∷ []) ++ xs ≡ before ++ x ∷ xs = append_assoc before (x ∷ []) xs in
      let right : (before ++ x ∷ []) ++ ys ≡ before ++ y ∷ ys = search (rules, append_assoc) in
      subst (λ (l : List SourceFile). Compared l (before ++ y ∷ ys)) left
      (subst (λ (l : List SourceFile). Compared ((before ++ x ∷ []) ++ xs) l) right
      (compared_from (before ++ x ∷ []) xs ys (subst (Along P) (sym left) p) (subst (Along P) (sym right) q)))

  compared : (xs ys : List SourceFile) → Along P xs → Along P ys → Compared xs ys
  compared xs ys p q = compared_from [] xs ys p q

-- the file is the next after those before it
record IsNext (m : Contents) (root : List ℕ) (before : List SourceFile) (file : SourceFile) : Type 0 where
  place : Place
  at : slice_get (met root before) (length before) ≡ Some (file.name, place)
  is : IsFileOf m (length before) file

next_is_one : (m : Contents) (root : List ℕ) (before : List SourceFile) (x y : SourceFile) → IsNext m root before x
    → IsNext m root before y → x ≡ y
next_is_one m root before x y p q =
    let name : x.name ≡ y.name = ap (λ (e : Meeting). e.0) (same_Some (x.name, p.place) (y.name, q.place) (sym p.at ∙ q.at)) in
    file_is_one m (length before) x y p.is q.is name

-- where no file is left there is no next
none_left : (root : List ℕ) (files : List SourceFile) (x : Meeting) → length (met root files) ≡ length files
    → slice_get (met root files) (length files) ≡ Some x → ⊥
none_left root files x all at = let within = slice_get_within (met root files) (length files) x at in absurd (omega arith)

-- no name stands twice
abbrev Distinct : List Meeting → Type 0
Distinct [] = Unit {0}
Distinct (m ∷ ms) = (is_known ms m.0 ≡ false) × Distinct ms

own_others : (a : List ℕ) (ms : List Meeting) → is_known (others a ms) a ≡ false
own_others a [] = refl
own_others a (m ∷ ms) = own_step (bytes_eq a m.0) refl (own_others a ms)
  where
    own_step : (c : Bool) → bytes_eq a m.0 ≡ c → is_known (others a ms) a ≡ false
        → is_known (cond (not c) (m ∷ others a ms) (others a ms)) a ≡ false
    own_step true e h = h
    own_step false e h = ap (λ (b : Bool). b || is_known (others a ms) a) e ∙ h

others_distinct : (a : List ℕ) (ms : List Meeting) → Distinct ms → Distinct (others a ms)
others_distinct a [] d = tt
others_distinct a (m ∷ ms) d = others_step (bytes_eq a m.0) (others_distinct a ms d.1)
  where
    others_step : (c : Bool) → Distinct (others a ms) → Distinct (cond (not c) (m ∷ others a ms) (others a ms))
    others_step true h = h
    others_step false h =
        (false_from_ne_true (is_known (others a ms) m.0) (λ k. true≢false (sym (known_sub a m.0 ms k) ∙ d.0)), h)

firsts_distinct : (ms : List Meeting) → Distinct (firsts ms)
firsts_distinct [] = tt
firsts_distinct (m ∷ ms) = (own_others m.0 (firsts ms), others_distinct m.0 (firsts ms) (firsts_distinct ms))

unknown_later : (front rest : List Meeting) (m : Meeting) (name : List ℕ) → is_known (front ++ m ∷ rest) name ≡ false
    → bytes_eq name m.0 ≡ false
unknown_later [] rest m name e = (or_parts (bytes_eq name m.0) (is_known rest name) e).0
unknown_later (f ∷ fs) rest m name e =
    unknown_later fs rest m name (or_parts (bytes_eq name f.0) (is_known (fs ++ m ∷ rest) name) e).1

distinct_front : (front rest : List Meeting) (m : Meeting) → Distinct (front ++ m ∷ rest) → is_known front m.0 ≡ false
distinct_front [] rest m d = refl
distinct_front (f ∷ fs) rest m d =
    let differ : bytes_eq m.0 f.0 ≡ false = search (rules, false_from_ne_true, bytes_eq-sym, unknown_later) in
    ap (λ (b : Bool). b || is_known fs m.0) differ ∙ distinct_front fs rest m d.1

-- more meetings take no first away
firsts_extend : (xs ys : List Meeting) → Extends (firsts xs) (firsts (xs ++ ys))
firsts_extend xs [] = record { more = []; parts = ap firsts (append-nil xs) ∙ sym (append-nil (firsts xs)) }
firsts_extend xs (y ∷ ys) = extend_step (is_known (firsts xs) y.0) refl (firsts_extend (xs ++ y ∷ []) ys)
  where
    extend_step : (c : Bool) → is_known (firsts xs) y.0 ≡ c → Extends (firsts (xs ++ y ∷ [])) (firsts ((xs ++ y ∷ []) ++ ys))
        → Extends (firsts xs) (firsts (xs ++ y ∷ ys))
    extend_step true e h = search (rules, append_assoc, firsts_more)
    extend_step false e h = search (rules, append_assoc, firsts_more)

known_more : (known more : List Meeting) (name : List ℕ) → is_known known name ≡ true → is_known (known ++ more) name ≡ true
known_more [] more name e = absurd (true≢false (sym e))
known_more (m ∷ ms) more name e = more_step (bytes_eq name m.0) (λ h. known_more ms more name h) e
  where
    more_step : (b : Bool) → (is_known ms name ≡ true → is_known (ms ++ more) name ≡ true) → (b || is_known ms name) ≡ true
        → (b || is_known (ms ++ more) name) ≡ true
    more_step true f h = refl
    more_step false f h = f h

-- what is met is met first
known_in_firsts : (ms : List Meeting) (name : List ℕ) → is_known ms name ≡ true → is_known (firsts ms) name ≡ true
known_in_firsts [] name e = e
known_in_firsts (m ∷ ms) name e = firsts_known_step (bytes_eq name m.0) refl (λ h. known_in_firsts ms name h) e
  where
    firsts_known_step : (b : Bool) → bytes_eq name m.0 ≡ b → (is_known ms name ≡ true → is_known (firsts ms) name ≡ true)
        → (b || is_known ms name) ≡ true → (b || is_known (others m.0 (firsts ms)) name) ≡ true
    firsts_known_step true f g h = refl
    firsts_known_step false f g h = known_others m.0 name (firsts ms) f ∙ g h

-- the meeting of a name in a list of names
split_names : (ms : List Meeting) (front rest : List (List ℕ)) (name : List ℕ) → names ms ≡ front ++ name ∷ rest
    → (f : List Meeting) × (r : List Meeting) × (place : Place) × (ms ≡ f ++ (name, place) ∷ r) × (length f ≡ length front)
split_names [] [] rest name e = absurd (cc)
split_names [] (x ∷ front) rest name e = absurd (cc)
split_names (m ∷ ms) [] rest name e =
    let head : m.0 ≡ name = cc in
    let same : m ∷ ms ≡ (name, m.1) ∷ ms = ap (λ (n : List ℕ). (n, m.1) ∷ ms) head in
    ([], ms, m.1, same, refl)
split_names (m ∷ ms) (x ∷ front) rest name e =
    let tail : names ms ≡ front ++ name ∷ rest = cc in
    let p = split_names ms front rest name tail in
    (m ∷ p.0, p.1, p.2, ap (λ (l : List Meeting). m ∷ l) p.3, ap suc p.4)

front_get : {A : Type 0} (us more f r : List A) (x : A) → us ++ more ≡ f ++ x ∷ r → length f < length us
    → slice_get us (length f) ≡ Some x
front_get [] more f r x e lt = absurd (omega arith)
front_get (u ∷ us) more [] r x e lt = let head : u ≡ x = cc in ap Some head
front_get (u ∷ us) more (y ∷ f) r x e lt = let tail : us ++ more ≡ f ++ x ∷ r = cc in front_get us more f r x tail (omega arith)

front_of : {A : Type 0} (us more f r : List A) (x : A) → us ++ more ≡ f ++ x ∷ r → length us ≤ length f
    → (q : List A) × (f ≡ us ++ q)
front_of [] more f r x e le = (f, refl)
front_of (u ∷ us) more [] r x e le = absurd (omega arith)
front_of (u ∷ us) more (y ∷ f) r x e le =
    let head : y ≡ u = cc in
    let tail : us ++ more ≡ f ++ x ∷ r = cc in
    let p = front_of us more f r x tail (omega arith) in
    (p.0, ap (λ z. z ∷ f) head ∙ ap (λ l. u ∷ l) p.1)

known_inside : (root : List ℕ) (before : List SourceFile) (name : List ℕ)
    → (0 < length before → is_known (flat_map (meetings_of root) before) name ≡ true)
    → length (met root before) ≤ length before → is_known (met root before) name ≡ true
known_inside root [] name k le = absurd (omega arith)
known_inside root (x ∷ xs) name k le =
    known_in_firsts ((root, root_place) ∷ flat_map (meetings_of root) (x ∷ xs)) name
    (or_right (bytes_eq name root) (is_known (flat_map (meetings_of root) (x ∷ xs)) name) (k (omega arith)))

next_place : (root : List ℕ) (before : List SourceFile) (name : List ℕ) (f r more : List Meeting) (place : Place) (b : Bool)
    → ltb (length f) (length (met root before)) ≡ b
    → length f ≡ length before → met root before ++ more ≡ f ++ (name, place) ∷ r → is_known f name ≡ false
    → (0 < length before → is_known (flat_map (meetings_of root) before) name ≡ true)
    → (p : Place) × (slice_get (met root before) (length before) ≡ Some (name, p))
next_place root before name f r more place true l len both fresh given = (
  place,
  subst (λ (n : ℕ). slice_get (met root before) n ≡ Some (name, place)) len
      (front_get (met root before) more f r (name, place) both (ltb-true (length f) (length (met root before)) l)),
)
next_place root before name f r more place false l len both fresh given =
    let short : length (met root before) ≤ length f = ltb-false (length f) (length (met root before)) l in
    let q = front_of (met root before) more f r (name, place) both short in
    let within = known_inside root before name given (omega arith) in
    absurd (true≢false (sym (known_more (met root before) q.0 name within) ∙ ap (λ (l : List Meeting). is_known l name)
    (sym q.1) ∙ fresh))

-- in a source each file is the next after those before it
source_next : (root : List ℕ) (xs before after : List SourceFile) (file : SourceFile) → IsSource root xs
    → xs ≡ before ++ file ∷ after
    → (place : Place) × (slice_get (met root before) (length before) ≡ Some (file.name, place))
source_next root xs before after file s e =
    let ext = firsts_extend ((root, root_place) ∷ flat_map (meetings_of root) before)
    (flat_map (meetings_of root) (file ∷ after)) in
    let whole : met root xs ≡ met root before ++ ext.more = search (rules, flat_map-append) in
    let named : names (met root xs) ≡ file_names before ++ file.name ∷ file_names after =
    sym s.equation ∙ ap file_names e ∙ map-append (λ (f : SourceFile). f.name) before (file ∷ after) in
    let p = split_names (met root xs) (file_names before) (file_names after) file.name named in
    let len : length p.0 ≡ length before = p.4 ∙ length-map before (λ f. f.name) in
    let both : met root before ++ ext.more ≡ p.0 ++ (file.name, p.2) ∷ p.1 = sym whole ∙ p.3 in
    let fresh : is_known p.0 file.name ≡ false =
    distinct_front p.0 p.1 (file.name, p.2)
    (subst Distinct p.3 (firsts_distinct ((root, root_place) ∷ flat_map (meetings_of root) xs))) in
    next_place root before file.name p.0 p.1 ext.more p.2 (ltb (length p.0) (length (met root before))) refl len both fresh
    (λ some. s.reached before after file e some)

source_all : (root : List ℕ) (xs : List SourceFile) → IsSource root xs → length (met root xs) ≡ length xs
source_all root xs s = sym (length-map (met root xs) (λ m. m.0)) ∙ sym (ap length s.equation) ∙ length-map xs (λ f. f.name)

source_along : (m : Contents) (root : List ℕ) (xs : List SourceFile) → IsSource root xs → AreFilesOf m xs
    → Along (IsNext m root) xs
source_along m root xs s each before after file e = let p = source_next root xs before after file s e in
    record { place = p.0; at = p.1; is = each before after file e }

-- a root has one source, in given contents
pub one_source : (m : Contents) (root : List ℕ) (xs ys : List SourceFile) → IsSource root xs → AreFilesOf m xs → IsSource root ys
    → AreFilesOf m ys → xs ≡ ys
one_source m root xs ys s f t g =
    let p = source_along m root xs s f in
    let q = source_along m root ys t g in
    elim (compared (IsNext m root) (next_is_one m root) xs ys p q) [
      | inl same ↦ same
      | inr (inl l) ↦ let n = q xs l.1 l.0 l.2 in absurd (none_left root xs (l.0.name, n.place) (source_all root xs s) n.at)
      | inr (inr l) ↦ let n = p ys l.1 l.0 l.2 in absurd (none_left root ys (l.0.name, n.place) (source_all root ys t) n.at)
    ]

-- a turn without a fault, after these files
record IsDone (m : Contents) (root : List ℕ) (before : List SourceFile) (file : SourceFile) : Type 0 where
  place : Place
  after : List Meeting
  at : slice_get (met root before) (length before) ≡ Some (file.name, place)
  is : IsFileOf m (length before) file
  taken : take_imports root file.name (met root before) (imports_of file.tree) ≡ Ok after

turns_done : (m : Contents) (root : List ℕ) (files : List SourceFile) (known : List Meeting) → Turns m root files known
    → Along (IsDone m root) files
turns_done m root _ _ first [] after file e = absurd (cc)
turns_done m root _ _ first (b ∷ bs) after file e = absurd (cc)
turns_done m root _ _ (next {files = files} {known = known} {after = met_after} {file = last} {place = place} turns at is taken)
    before after file e = elim (snoc_view after) [
      | inl none ↦
          let p = snoc_same files before last file (e ∙ ap (λ (l : List SourceFile). before ++ file ∷ l) none) in
          let now : IsDone m root files last = record {
            place = place;
            after = met_after;
            at = subst (λ (l : List Meeting). slice_get l (length files) ≡ Some (last.name, place))
                (turns_meet m root files known turns) at;
            is = is;
            taken = subst (λ (l : List Meeting). take_imports root last.name l (imports_of last.tree) ≡ Ok met_after)
                (turns_meet m root files known turns) taken;
          } in
          subst (λ (f : SourceFile). IsDone m root before f) p.1 (subst (λ (b : List SourceFile). IsDone m root b last) p.0 now)
      | inr v ↦
          let p = snoc_same files (before ++ file ∷ v.0) last v.1
          (e ∙ ap (λ (l : List SourceFile). before ++ file ∷ l) v.2 ∙ sym (append_assoc before (file ∷ v.0) (v.1 ∷ []))) in
          turns_done m root files known turns before v.0 file p.0
    ]

-- each file of turns is the one of its number
pub turns_each : (m : Contents) (root : List ℕ) (files : List SourceFile) (known : List Meeting) → Turns m root files known
    → AreFilesOf m files
turns_each m root files known turns before after file e = (turns_done m root files known turns before after file e).is

done_next : (m : Contents) (root : List ℕ) (before : List SourceFile) (file : SourceFile) → IsDone m root before file
    → IsNext m root before file
done_next m root before file d = record { place = d.place; at = d.at; is = d.is }

done_is_one : (m : Contents) (root : List ℕ) (before : List SourceFile) (x y : SourceFile) → IsDone m root before x
    → IsDone m root before y → x ≡ y
done_is_one m root before x y p q = next_is_one m root before x y (done_next m root before x p) (done_next m root before y q)

-- tokens that spell a file stop nowhere
spelled_no_stop : (tree : File) (ts : List Seen) (why : Why) (left : ℕ) → IsFileSpelled tree ts
    → FileStops token_code nested_line file_line limit ts why left → ⊥
spelled_no_stop tree ts Unexpected left s stop = stop.1 tree (limit, s)
spelled_no_stop tree ts TooDeep left s stop =
    stop.past
    (deep_front token_code nested_line limit file_line (stop.before ++ stop.token ∷ []) stop.after
    (subst (Begins token_code (deep token_code nested_line limit) file_line)
    (stop.parts ∙ sym (append_assoc stop.before (stop.token ∷ []) stop.after)) (deep_begun token_code nested_line limit
    file_line tree ts s)))

got_same : (m : Contents) (name xs ys : List ℕ) → get m name ≡ Some xs → get m name ≡ Some ys → xs ≡ ys
got_same m name xs ys e f = same_Some xs ys (sym e ∙ f)

no_got : {A : Type 0} (m : Contents) (name xs : List ℕ) → get m name ≡ None → get m name ≡ Some xs → A
no_got m name xs e f = absurd (cc)

too_far : {A : Type 0} (xs ys : List ℕ) → xs ≡ ys → file_limit < length xs → length ys ≤ file_limit → A
too_far xs ys e l k = let same = ap length e in absurd (omega arith)

lexed_both : {A : Type 0} (n : ℕ) (xs ys : List ℕ) (f : Fault) (tokens : List Token) → xs ≡ ys → IsFirstFault n xs f
    → Lexes n ys tokens → A
lexed_both n xs ys f tokens e s l = search (rules, no_fault_reached)

same_tokens : (n : ℕ) (xs ys : List ℕ) (ts us : List Token) → xs ≡ ys → Lexes n xs ts → Lexes n ys us → ts ≡ us
same_tokens n xs ys ts us e l k = one_list n (length xs) xs ts us l (subst (λ (b : List ℕ). Lexes n b us) (sym e) k)

-- a file that is read, lexed and parsed has no fault there
read_no_fault : (m : Contents) (files : List SourceFile) (name : List ℕ) (place : Place) (f : Fault) (in_file : List ℕ)
    (file : SourceFile) → IsReadFault m files name place f in_file → file.name ≡ name
    → IsFileOf m (length files) file → ⊥
read_no_fault m files name place _ _ file (absent e) n is = no_got m name file.bytes e (sym (ap (get m) n) ∙ is.held)
read_no_fault m files name place _ _ file (too_long {bytes = bytes} e l) n is =
    too_far bytes file.bytes (got_same m name bytes file.bytes e (sym (ap (get m) n) ∙ is.held)) l is.size
read_no_fault m files name place _ _ file (lexing {bytes = bytes} {f = f} e l s) n is =
    lexed_both (length files) bytes file.bytes f is.tokens (got_same m name bytes file.bytes e (sym (ap (get m) n) ∙ is.held)) s
    is.lexed
read_no_fault m files name place _ _ file (parsing {bytes = bytes} tokens {f = f} e l lexed stop) n is =
    let bytes_same = got_same m name bytes file.bytes e (sym (ap (get m) n) ∙ is.held) in
    let tokens_same = same_tokens (length files) bytes file.bytes tokens is.tokens bytes_same lexed is.lexed in
    let spelled = subst (λ (b : List ℕ). IsFileSpelled file.tree (see b tokens)) (sym bytes_same)
    (subst (λ (t : List Token). IsFileSpelled file.tree (see file.bytes t)) (sym tokens_same) is.spelled) in
    spelled_no_stop file.tree (see bytes tokens) stop.0 stop.1 spelled stop.3

-- a turn without a fault has none
turn_no_fault : (m : Contents) (root : List ℕ) (files : List SourceFile) (known after : List Meeting) (name : List ℕ)
    (place : Place) (f : Fault) (in_file : List ℕ) (file : SourceFile)
    → IsTurnFault m root files known name place f in_file → file.name ≡ name → IsFileOf m (length files) file
    → take_imports root file.name known (imports_of file.tree) ≡ Ok after → ⊥
turn_no_fault m root files known after name place _ _ file (reading {f = f} {in_file = in_file} r) n is taken =
    read_no_fault m files name place f in_file file r n is
turn_no_fault m root files known after name place _ _ file (importing {file = other} {f = f} o is' stopped) n is taken =
    let same : other ≡ file = file_is_one m (length files) other file is' is (o ∙ sym n) in
    let stopped' : take_imports root file.name known (imports_of file.tree) ≡ Err f = search (rules) in
    absurd (cc)

abbrev OneFault : Fault → Fault → List ℕ → List ℕ → Type 0
OneFault f g a b = (f ≡ g) × (a ≡ b)

-- tokens have one fault
one_stop_fault : (ts : List Seen) (fault : Why → ℕ → Fault) (f g : Fault)
    → ((why : Why) × (left : ℕ) × (f ≡ fault why left) × FileStops token_code nested_line file_line limit ts why left)
    → ((why : Why) × (left : ℕ) × (g ≡ fault why left) × FileStops token_code nested_line file_line limit ts why left) → f ≡ g
one_stop_fault ts fault f g p q = search (rules, file_stops_once)

parsed_same : (n : ℕ) (xs ys : List ℕ) (ts us : List Token) (f g : Fault) → xs ≡ ys → Lexes n xs ts → Lexes n ys us
    → IsFileIn xs ts (Err (refused.Fault f)) → IsFileIn ys us (Err (refused.Fault g)) → f ≡ g
parsed_same n xs ys ts us f g e l k p q =
    let q' : IsFileIn xs ts (Err (refused.Fault g)) = search (rules, same_tokens) in
    one_stop_fault (see xs ts) _ f g p q'

one_read_fault : (m : Contents) (files : List SourceFile) (name : List ℕ) (place : Place) (f g : Fault) (a b : List ℕ)
    → IsReadFault m files name place f a → IsReadFault m files name place g b → OneFault f g a b
one_read_fault m files name place _ _ _ _ (absent e) (absent e') = (refl, refl)
one_read_fault m files name place _ _ _ _ (absent e) (too_long {bytes = c} e' l') = no_got m name c e e'
one_read_fault m files name place _ _ _ _ (absent e) (lexing {bytes = c} e' l' s') = no_got m name c e e'
one_read_fault m files name place _ _ _ _ (absent e) (parsing {bytes = c} t' e' l' x' s') = no_got m name c e e'
one_read_fault m files name place _ _ _ _ (too_long {bytes = b} e l) (absent e') = no_got m name b e' e
one_read_fault m files name place _ _ _ _ (too_long e l) (too_long e' l') = (refl, refl)
one_read_fault m files name place _ _ _ _ (too_long {bytes = b} e l) (lexing {bytes = c} e' l' s') =
    too_far b c (got_same m name b c e e') l l'
one_read_fault m files name place _ _ _ _ (too_long {bytes = b} e l) (parsing {bytes = c} t' e' l' x' s') =
    too_far b c (got_same m name b c e e') l l'
one_read_fault m files name place _ _ _ _ (lexing {bytes = b} e l s) (absent e') = no_got m name b e' e
one_read_fault m files name place _ _ _ _ (lexing {bytes = b} e l s) (too_long {bytes = c} e' l') =
    too_far c b (got_same m name c b e' e) l' l
one_read_fault m files name place _ _ _ _ (lexing {bytes = b} {f = f} e l s) (lexing {bytes = c} {f = g} e' l' s') = (
  one_fault (length files) b f g s (subst (λ (x : List ℕ). IsFirstFault (length files) x g)
      (sym (got_same m name b c e e')) s'),
  refl,
)
one_read_fault m files name place _ _ _ _ (lexing {bytes = b} {f = f} e l s) (parsing {bytes = c} t' e' l' x' s') =
    lexed_both (length files) b c f t' (got_same m name b c e e') s x'
one_read_fault m files name place _ _ _ _ (parsing {bytes = b} t e l x s) (absent e') = no_got m name b e' e
one_read_fault m files name place _ _ _ _ (parsing {bytes = b} t e l x s) (too_long {bytes = c} e' l') =
    too_far c b (got_same m name c b e' e) l' l
one_read_fault m files name place _ _ _ _ (parsing {bytes = b} t e l x s) (lexing {bytes = c} {f = g} e' l' s') =
    lexed_both (length files) c b g t (got_same m name c b e' e) s' x
one_read_fault m files name place _ _ _ _ (parsing {bytes = b} t {f = f} e l x s) (parsing {bytes = c} t' {f = g} e' l' x' s') =
    (parsed_same (length files) b c t t' f g (got_same m name b c e e') x x' s s', refl)

one_turn_fault : (m : Contents) (root : List ℕ) (files : List SourceFile) (known : List Meeting) (name : List ℕ) (place : Place)
    (f g : Fault) (a b : List ℕ)
    → IsTurnFault m root files known name place f a → IsTurnFault m root files known name place g b → OneFault f g a b
one_turn_fault m root files known name place _ _ _ _ (reading {f = f} {in_file = a} r) (reading {f = g} {in_file = b} r') =
    one_read_fault m files name place f g a b r r'
one_turn_fault m root files known name place _ _ _ _ (reading {f = f} {in_file = a} r) (importing {file = y} n' is' e') =
    absurd (read_no_fault m files name place f a y r n' is')
one_turn_fault m root files known name place _ _ _ _ (importing {file = x} n is e) (reading {f = g} {in_file = b} r') =
    absurd (read_no_fault m files name place g b x r' n is)
one_turn_fault m root files known name place _ _ _ _ (importing {file = x} {f = f} n is e)
    (importing {file = y} {f = g} n' is' e') =
    let same : x ≡ y = file_is_one m (length files) x y is is' (n ∙ sym n') in
    let e'' : take_imports root name known (imports_of x.tree) ≡ Err g = search (rules) in
    (cc, refl)

-- the next of the same files is one
one_next : (m : Contents) (root : List ℕ) (fs gs : List SourceFile) (known known' : List Meeting) → fs ≡ gs
    → Turns m root fs known → Turns m root gs known' → known ≡ known'
one_next m root fs gs known known' e t u = turns_meet m root fs known t ∙ ap (met root) e ∙ sym (turns_meet m root gs known' u)

-- no file is left after all
clean_ends : (m : Contents) (root : List ℕ) (fs : List SourceFile) (x : Meeting) → IsClean m root fs
    → slice_get (met root fs) (length fs) ≡ Some x → ⊥
clean_ends m root fs x c at = none_left root fs x (ap length (sym (turns_meet m root fs c.known c.turns)) ∙ c.all) at

next_met : (m : Contents) (root name : List ℕ) (t : IsTurnOf m root name)
    → slice_get (met root t.files) (length t.files) ≡ Some (name, t.place)
next_met m root name t = subst (λ (l : List Meeting). slice_get l (length t.files) ≡ Some (name, t.place))
    (turns_meet m root t.files t.known t.turns) t.next

-- a fault and a turn of the same number without one
fault_or_done : {A : Type 0} (m : Contents) (root : List ℕ) (f : Fault) (a : List ℕ) (p : IsFirst m root f a) (file : SourceFile)
    → IsDone m root p.turn.files file → A
fault_or_done m root f a p file d = search (rules, turns_meet, same_Some, next_met, turn_no_fault)

fault_or_clean : {A : Type 0} (m : Contents) (root : List ℕ) (f : Fault) (a : List ℕ) (gs : List SourceFile) → IsFirst m root f a
    → IsClean m root gs → A
fault_or_clean m root f a gs p c =
    let q = turns_done m root p.turn.files p.turn.known p.turn.turns in
    let r = turns_done m root gs c.known c.turns in
    elim (compared (IsDone m root) (done_is_one m root) p.turn.files gs q r) [
      | inl same ↦
          absurd (clean_ends m root gs (p.name, p.turn.place) c
          (subst (λ (l : List SourceFile). slice_get (met root l) (length l) ≡ Some (p.name, p.turn.place)) same
          (next_met m root p.name p.turn)))
      | inr (inl l) ↦ fault_or_done m root f a p l.0 (r p.turn.files l.1 l.0 l.2)
      | inr (inr l) ↦ let n = q gs l.1 l.0 l.2 in absurd (clean_ends m root gs (l.0.name, n.place) c n.at)
    ]

clean_is_one : (m : Contents) (root : List ℕ) (fs gs : List SourceFile) → IsClean m root fs → IsClean m root gs → fs ≡ gs
clean_is_one m root fs gs c d = one_source m root fs gs c.source (turns_each m root fs c.known c.turns) d.source
    (turns_each m root gs d.known d.turns)

same_fault : (m : Contents) (root : List ℕ) (f g : Fault) (a b : List ℕ) (p : IsFirst m root f a) (q : IsFirst m root g b)
    → p.turn.files ≡ q.turn.files → OneFault f g a b
same_fault m root f g a b p q same = search (rules, one_next, same_Some, next_met, one_turn_fault)

first_is_one : (m : Contents) (root : List ℕ) (f g : Fault) (a b : List ℕ) → IsFirst m root f a → IsFirst m root g b
    → OneFault f g a b
first_is_one m root f g a b p q =
    let x = turns_done m root p.turn.files p.turn.known p.turn.turns in
    let y = turns_done m root q.turn.files q.turn.known q.turn.turns in
    elim (compared (IsDone m root) (done_is_one m root) p.turn.files q.turn.files x y) [
      | inl same ↦ same_fault m root f g a b p q same
      | inr (inl l) ↦ fault_or_done m root f a p l.0 (y p.turn.files l.1 l.0 l.2)
      | inr (inr l) ↦ fault_or_done m root g b q l.0 (x q.turn.files l.1 l.0 l.2)
    ]

fault_same : (f g : Fault) (a b : List ℕ) → OneFault f g a b → error.Fault f a ≡ error.Fault g b
fault_same f g a b e = ap (λ (x : Fault). error.Fault x a) e.0 ∙ ap (λ (x : List ℕ). error.Fault g x) e.1

source_same : (x y : Source) → x.files ≡ y.files → x ≡ y
source_same x y e = ap (λ (l : List SourceFile). let s : Source = record { files = l } in s) e

from_one : (m : Contents) (root : List ℕ) (a b : Result Source SourceError) → yields a ≡ false → yields b ≡ false
    → IsLoadedFrom m root a → IsLoadedFrom m root b → a ≡ b
from_one m root (Ok x) (Ok y) ya yb p q = ap Ok (source_same x y (clean_is_one m root x.files y.files p q))
from_one m root (Ok x) (Err (error.Fault g b)) ya yb p q = fault_or_clean m root g b x.files q p
from_one m root (Ok x) (Err (error.ReadFault n)) ya yb p q = absurd (true≢false yb)
from_one m root (Ok x) (Err error.NoMemory) ya yb p q = absurd (true≢false yb)
from_one m root (Err (error.Fault f a)) (Ok y) ya yb p q = fault_or_clean m root f a y.files p q
from_one m root (Err (error.Fault f a)) (Err (error.Fault g b)) ya yb p q =
    ap Err (fault_same f g a b (first_is_one m root f g a b p q))
from_one m root (Err (error.Fault f a)) (Err (error.ReadFault n)) ya yb p q = absurd (true≢false yb)
from_one m root (Err (error.Fault f a)) (Err error.NoMemory) ya yb p q = absurd (true≢false yb)
from_one m root (Err (error.ReadFault n)) b ya yb p q = absurd (true≢false ya)
from_one m root (Err error.NoMemory) b ya yb p q = absurd (true≢false ya)

refused_one : (root : List ℕ) (a b : Result Source SourceError) → yields a ≡ false → yields b ≡ false → IsRefusedRoot root a
    → IsRefusedRoot root b → a ≡ b
refused_one root (Ok x) b ya yb p q = absurd p
refused_one root (Err (error.Fault f a)) (Ok y) ya yb p q = absurd q
refused_one root (Err (error.Fault f a)) (Err (error.Fault g b)) ya yb p q =
    ap Err (fault_same f g a b (p.0 ∙ sym q.0, p.1 ∙ sym q.1))
refused_one root (Err (error.Fault f a)) (Err (error.ReadFault n)) ya yb p q = absurd (true≢false yb)
refused_one root (Err (error.Fault f a)) (Err error.NoMemory) ya yb p q = absurd (true≢false yb)
refused_one root (Err (error.ReadFault n)) b ya yb p q = absurd (true≢false ya)
refused_one root (Err error.NoMemory) b ya yb p q = absurd (true≢false ya)

loaded_by_one : (m : Contents) (root : List ℕ) (name : Option (List ℕ)) (a b : Result Source SourceError) → yields a ≡ false
    → yields b ≡ false → IsLoadedBy m root name a → IsLoadedBy m root name b → a ≡ b
loaded_by_one m root None a b ya yb p q = refused_one root a b ya yb p q
loaded_by_one m root (Some name) a b ya yb p q = from_one m name a b ya yb p q

-- there is one answer that doesn't yield
pub loaded_one : (m : Contents) (root : List ℕ) (a b : Result Source SourceError) → yields a ≡ false → yields b ≡ false
    → IsLoaded m root a → IsLoaded m root b → a ≡ b
loaded_one m root a b ya yb p q = loaded_by_one m root (root_name root) a b ya yb p q
