-- One line judged or noted, and then the lines behind it.
use Rattle.policy_text.proofs.Common.{Authority, Bool, Entry, Err, HasFewEdges, IsAdded, IsFault, IsLineJudged, IsNear, IsRefusal, IsSeen, Kind, Line, List, NoMemory, None, Notes, Number, Ok, OnOk, Option, PolicySyntax, Refused, Result, Seen, Some}
use Rattle.policy_text.proofs.Common.{TextFault, Told, Words, [], ap, append_assoc, arith, at_line, cond, count_by, drop, drop_more, edge, edges_limit, false, fault_at, first_wrong, form_fault, get_or, gives, has_label, is_edge, label}
use Rattle.policy_text.proofs.Common.{length, map_more, map_push, meant, min, nat_le, object, option_map, option_or, or-false, or_assoc, or_comm, refl, said, subst, sum_by-append, sum_by-take-le, sym, take, take-map, told, told_line, told_lines}
use Rattle.policy_text.proofs.Common.{rules, true, wrong_entry, ℕ, ◌++◌, ◌+◌, ◌<◌, ◌||◌, ◌∙◌, ◌∷◌, ◌≡◌, ◌≤◌}
use Rattle.cam_base.specs.declared.error.Refused.TheVariants as refused
use Rattle.policy_text.specs.declared.entry.EntryLine.{EntryLine}
use Rattle.policy_text.specs.declared.read.Noted.{Noted}
use Rattle.policy_text.proofs.Before.{told-cons, form-cons, has_label-append, one_if, told_one}
use Rattle.policy_text.specs.WordSets.{has}

-- ---- faults of texts in parts

pub fault_first : (a b : Option TextFault) (r : Refused TextFault) → IsFault a r → IsFault (option_or a b) r
fault_first a b (refused.Fault f) h = ap (λ o. option_or o b) h
fault_first a b refused.NoMemory h = tt

pub fault_then : (a b : Option TextFault) (r : Refused TextFault) → a ≡ None → IsFault b r → IsFault (option_or a b) r
fault_then a b r none h = subst (λ (o : Option TextFault). IsFault (option_or o b) r) (sym none) h

pub fault_is : (a b : Option TextFault) (r : Refused TextFault) → a ≡ b → IsFault a r → IsFault b r
fault_is a b r same h = subst (λ (o : Option TextFault). IsFault o r) same h

pub none_then : (a b : Option TextFault) → a ≡ None → b ≡ None → option_or a b ≡ None
none_then a b none none' = ap (λ o. option_or o b) none ∙ none'

-- ---- one line is judged

pub judged_right : (knows : Number → Bool) (before : List Told) (t : Told) (seen : Seen) → wrong_entry knows before t.0 t.1 ≡ None
    → IsSeen seen (before ++ t ∷ []) → IsLineJudged knows before t seen (Ok tt)
judged_right knows before t seen none is = (ap (option_map (at_line t.0)) none, is)

-- ---- the lines behind it

pub told_more : (lines : List EntryLine) (i : ℕ) (x : EntryLine) → i < length lines → x ≡ get_or lines i x
    → told_lines (take (i + 1) lines) ≡ told_lines (take i lines) ++ told_line x ∷ []
told_more lines i x lt is = map_more told_line lines i x lt ∙ ap (λ y. told_lines (take i lines) ++ told_line y ∷ []) (sym is)

module _ (knows : Number → Bool) (lines : List EntryLine) (i : ℕ) (x : EntryLine) (lt : i < length lines)
    (is : x ≡ get_or lines i x) where
  check_more : first_wrong knows (told_lines (take i lines)) (told_lines (drop i lines))
      ≡ option_or (fault_at knows (told_lines (take i lines)) (told_line x)) (first_wrong knows (told_lines (take (i + 1) lines))
      (told_lines (drop (i + 1) lines)))
  check_more = search (rules, drop_more, told_more)

  pub check_step : (all : Option TextFault) → first_wrong knows (told_lines (take i lines)) (told_lines (drop i lines)) ≡ all
      → fault_at knows (told_lines (take i lines)) (told_line x) ≡ None
      → first_wrong knows (told_lines (take (i + 1) lines)) (told_lines (drop (i + 1) lines)) ≡ all
  check_step all so_far none = search (rules, check_more)

  pub check_fails : (all : Option TextFault) (r : Refused TextFault)
      → first_wrong knows (told_lines (take i lines)) (told_lines (drop i lines)) ≡ all
      → IsFault (fault_at knows (told_lines (take i lines)) (told_line x)) r → IsFault all r
  check_fails all r so_far wrong = search (rules, fault_is, check_more, fault_first)

pub few_front : (lines : List EntryLine) (i : ℕ) (x : EntryLine) → i < length lines → x ≡ get_or lines i x
    → HasFewEdges (told_lines lines) → HasFewEdges (told_lines (take i lines) ++ told_line x ∷ [])
few_front lines i x lt is few =
    let whole = ap (count_by (λ t. is_edge t.1)) (sym (told_more lines i x lt is) ∙ sym (take-map told_line (i + 1) lines)) in
    let le = sum_by-take-le (λ t. cond (is_edge t.1) 1 0) (told_lines lines) (i + 1) in
    let f = few in
    omega (arith, whole, le, f)

-- ---- one line is noted

pub form_some : (kind : Kind) (line : Line) (e : Entry) → said kind line ≡ Some e → form_fault kind (line ∷ []) ≡ None
form_some kind line e says = rw says refl

pub noted_none : (kind : Kind) (line : Line) (r : Refused TextFault) → said kind line ≡ None → IsRefusal line (PolicySyntax, []) r
    → IsFault (form_fault kind (line ∷ [])) r
noted_none kind line (refused.Fault f) none fits = let is : form_fault kind (line ∷ []) ≡ Some (at_line line (PolicySyntax, [])) =
    rw none refl in is ∙ ap (λ f. Some f) (sym fits)
noted_none kind line refused.NoMemory none fits = tt

no_edges : (e : Entry) (n : ℕ) → is_edge e ≡ false → n ≡ n + one_if (is_edge e)
no_edges e n apart = let none : one_if (is_edge e) ≡ 0 = ap one_if apart in omega (arith, none)

-- the new lines are the old ones and this one
abbrev Pushed : Noted → EntryLine → Noted → Type 0
Pushed old line new = new.lines.items ≡ old.lines.items ++ line ∷ []

lines_more : (old new : Noted) (line : EntryLine) → Pushed old line new → told_lines new.lines.items ≡ told_lines old.lines.items
    ++ told_line line ∷ []
lines_more old new line pushed = ap told_lines pushed ∙ map_push told_line old.lines.items line

pub notes_label : (old new : Noted) (line : EntryLine) (n name : List ℕ) (r : Result (Unit {0}) NoMemory)
    → meant line.entry ≡ label n name → OnOk r (IsAdded n old.numbers new.numbers)
    → OnOk r (IsNear old.near.items old.numbers → IsNear new.near.items new.numbers) → new.edges ≡ old.edges → Pushed old line new
    → OnOk r (Notes (told_line line) old new)
notes_label old new line n name (Ok x) is added near edges pushed = search (rules, or_comm, no_edges, lines_more)
notes_label old new line n name (Err e) is added near edges pushed = tt

-- a line that gives no number
notes_other : (old new : Noted) (line : EntryLine) → ((m : List ℕ) → gives m (meant line.entry) ≡ false)
    → new.numbers ≡ old.numbers → new.near ≡ old.near
    → (new.edges ≤ edges_limit → new.edges ≡ old.edges + one_if (is_edge (meant line.entry))) → Pushed old line new
    → Notes (told_line line) old new
notes_other old new line apart numbers near edges pushed = search (rules, or-false, lines_more)

pub notes_object : (old new : Noted) (line : EntryLine) (word n : List ℕ) → meant line.entry ≡ object word n
    → new.numbers ≡ old.numbers → new.near ≡ old.near → new.edges ≡ old.edges
    → Pushed old line new → Notes (told_line line) old new
notes_object old new line word n is numbers near edges pushed =
    notes_other old new line (λ m. ap (gives m) is) numbers near (λ le. edges ∙ no_edges (meant line.entry) old.edges
    (ap is_edge is)) pushed

capped : (n m : ℕ) → n ≡ min (m + 1) 18446744073709551615 → n ≤ edges_limit → n ≡ m + 1
capped n m is le = omega arith

pub notes_edge : (old new : Noted) (line : EntryLine) (l : List ℕ) (a : Authority) (m : List ℕ) → meant line.entry ≡ edge l a m
    → new.numbers ≡ old.numbers → new.near ≡ old.near
    → new.edges ≡ min (old.edges + 1) 18446744073709551615 → Pushed old line new → Notes (told_line line) old new
notes_edge old new line l a m is numbers near edges pushed =
    notes_other old new line (λ n. ap (gives n) is) numbers near (λ le. capped new.edges old.edges edges le
    ∙ ap (λ e. old.edges + one_if (is_edge e)) (sym is)) pushed

pub noted_numbers : (kind : Kind) (line : Line) (e : Entry) (old new : Noted) (n : List ℕ) → said kind line ≡ Some e
    → Notes (line, e) old new
    → has new.numbers n ≡ (has old.numbers n || has_label (told kind (line ∷ [])) n)
noted_numbers kind line e old new n says notes = search (rules, told_one, or-false)

pub noted_edges : (kind : Kind) (line : Line) (e : Entry) (old new : Noted) → said kind line ≡ Some e → Notes (line, e) old new
    → new.edges ≤ edges_limit → new.edges ≡ old.edges + count_by (λ t. is_edge t.1) (told kind (line ∷ []))
noted_edges kind line e old new says notes le = search (rules, count_by, one_if, told_one)

-- ---- the lines behind it

pub forms_step : (kind : Kind) (line : Line) (left more : List Line) (all : Option TextFault) → left ≡ line ∷ more
    → form_fault kind left ≡ all → form_fault kind (line ∷ []) ≡ None
    → form_fault kind more ≡ all
forms_step kind line left more all is so_far none =
    ap (λ o. option_or o (form_fault kind more)) (sym none) ∙ sym (ap (form_fault kind) is ∙ form-cons kind line more) ∙ so_far

pub forms_fail : (kind : Kind) (line : Line) (left more : List Line) (all : Option TextFault) (r : Refused TextFault)
    → left ≡ line ∷ more → form_fault kind left ≡ all
    → IsFault (form_fault kind (line ∷ [])) r → IsFault all r
forms_fail kind line left more all r is so_far here = search (rules, fault_is, form-cons, fault_first)

pub numbers_step : (kind : Kind) (line : Line) (left more : List Line) (old new : Words) (n : List ℕ) (all : Bool)
    → left ≡ line ∷ more
    → (has old n || has_label (told kind left) n) ≡ all → has new n ≡ (has old n || has_label (told kind (line ∷ [])) n)
    → (has new n || has_label (told kind more) n) ≡ all
numbers_step kind line left more old new n all is so_far noted = search (rules, or_assoc, told-cons, has_label-append)

counts : (kind : Kind) (line : Line) (left more : List Line) → left ≡ line ∷ more
    → count_by (λ t. is_edge t.1) (told kind left) ≡ count_by (λ t. is_edge t.1) (told kind (line ∷ [])) + count_by
    (λ t. is_edge t.1) (told kind more)
counts kind line left more is = search (rules, count_by, told-cons, sum_by-append)

pub edges_step : (kind : Kind) (line : Line) (left more : List Line) (old new all : ℕ) → left ≡ line ∷ more
    → (old ≤ edges_limit → old + count_by (λ t. is_edge t.1) (told kind left) ≡ all)
    → (new ≤ edges_limit → new ≡ old + count_by (λ t. is_edge t.1) (told kind (line ∷ []))) → new ≤ edges_limit
    → new + count_by (λ t. is_edge t.1) (told kind more) ≡ all
edges_step kind line left more old new all is so_far noted le = search (rules, counts)

-- the lines told so far, and then those that are left
pub told_on : (kind : Kind) (before : List Told) (line : Line) (e : Entry) (left more : List Line) (all : List Told)
    → left ≡ line ∷ more → before ++ told kind left ≡ all → said kind line ≡ Some e
    → (before ++ (line, e) ∷ []) ++ told kind more ≡ all
told_on kind before line e left more all is so_far says = search (rules, append_assoc, told_one, told-cons)

few_le : (n : ℕ) → nat_le n edges_limit ≡ true → n ≤ edges_limit
few_le n test = grind arith

pub few_noted : (ts : List Told) (n : ℕ) → (n ≤ edges_limit → count_by (λ t. is_edge t.1) ts ≡ n) → nat_le n edges_limit ≡ true
    → HasFewEdges ts
few_noted ts n counted test = let le = few_le n test in let same = counted le in omega arith
