-- Names are UTF-8: a path is cut and joined at slashes alone.
use Rattle.std.proofs.Common.{rules}
use Rattle.adl_import.proofs.Common.{Bool, Each, Import, IsCharBoundary-after_ascii, IsCharBoundary-before_ascii, IsUtf8, IsUtf8-append, IsUtf8-drop, IsUtf8-from_is_utf8, IsUtf8-nil, IsUtf8-take, List, None, Option, Some, []}
use Rattle.adl_import.proofs.Common.{and_parts, ap, append-nil, append_assoc, arith, cond, drop, eqb-true, false, file_path, folded, folder_of, get_or, import_name, in_folder, is_absolute, is_dropped, is_import_path, is_in_folder, is_plain}
use Rattle.adl_import.proofs.Common.{is_slash, is_up, is_utf8, join_with_byte, length, length-append, list_any, name_given, one_up, onto_first, option_and_then, path_text, refl, reverse, reverse-append, root_name, slice_split, subst, sym, true}
use Rattle.adl_import.proofs.Common.{true≢false, up, with_part, with_parts, ℕ, ◌++◌, ◌+◌, ◌<◌, ◌||◌, ◌∙◌, ◌∷◌, ◌≡◌}
use lib.Utf8.{encode}
use Rattle.std.proofs.Math.Seq.{take-append_seam, drop-append-add, get_or-append_seam}

slash_utf8 : IsUtf8 (47 ∷ [])
unfolding encode
slash_utf8 = (47 ∷ [], (refl, refl))

up_utf8 : IsUtf8 up
unfolding encode
up_utf8 = (46 ∷ 46 ∷ [], (refl, refl))

-- both sides of a slash
utf8_cut : (xs ys : List ℕ) → IsUtf8 (xs ++ 47 ∷ ys) → IsUtf8 xs × IsUtf8 ys
utf8_cut xs ys u =
    let at : get_or (xs ++ 47 ∷ ys) (length xs) 0 ≡ 47 = get_or-append_seam xs 47 ys 0 in
    let ascii : get_or (xs ++ 47 ∷ ys) (length xs) 0 < 128 = omega arith in
    let within : length xs < length (xs ++ 47 ∷ ys) = simp length-append (omega arith) in (
      subst IsUtf8 (take-append_seam xs (47 ∷ ys)) (IsUtf8-take (xs ++ 47 ∷ ys) (length xs) u
          (IsCharBoundary-before_ascii (xs ++ 47 ∷ ys) (length xs) within ascii)),
      subst IsUtf8 (drop-append-add xs (47 ∷ ys) 1) (IsUtf8-drop (xs ++ 47 ∷ ys) (length xs + 1) u
          (IsCharBoundary-after_ascii (xs ++ 47 ∷ ys) (length xs) u within ascii)),
    )

is_slash-is : (b : ℕ) → is_slash b ≡ true → b ≡ 47
is_slash-is b e = eqb-true b 47 e

-- parts with more bytes in front
abbrev behind : List ℕ → List (List ℕ) → List (List ℕ)
behind front [] = front ∷ []
behind front (p ∷ ps) = (front ++ p) ∷ ps

behind_first : (front : List ℕ) (b : ℕ) (parts : List (List ℕ))
    → behind (front ++ b ∷ []) parts ≡ behind front (onto_first b parts)
behind_first front b [] = refl
behind_first front b (p ∷ ps) = ap (λ (l : List ℕ). l ∷ ps) (append_assoc front (b ∷ []) p)

behind_nothing : (parts : List (List ℕ)) → Each IsUtf8 (behind [] parts) → Each IsUtf8 parts
behind_nothing [] a = tt
behind_nothing (p ∷ ps) a = a

split_step : (front : List ℕ) (b : ℕ) (bs : List ℕ) (c : Bool) → is_slash b ≡ c → IsUtf8 (front ++ b ∷ bs)
    → ((f : List ℕ) → IsUtf8 (f ++ bs) → Each IsUtf8 (behind f (slice_split is_slash bs)))
    → Each IsUtf8 (behind front (cond c ([] ∷ slice_split is_slash bs) (onto_first b (slice_split is_slash bs))))
split_step front b bs true e u more =
    let cut = utf8_cut front bs (subst (λ (x : ℕ). IsUtf8 (front ++ x ∷ bs)) (is_slash-is b e) u) in
    (subst IsUtf8 (sym (append-nil front)) cut.0, behind_nothing (slice_split is_slash bs) (more [] cut.1))
split_step front b bs false e u more =
    subst (Each IsUtf8) (behind_first front b (slice_split is_slash bs))
    (more (front ++ b ∷ []) (subst IsUtf8 (sym (append_assoc front (b ∷ []) bs)) u))

split_utf8 : (front bs : List ℕ) → IsUtf8 (front ++ bs) → Each IsUtf8 (behind front (slice_split is_slash bs))
split_utf8 front [] u = (u, tt)
split_utf8 front (b ∷ bs) u = split_step front b bs (is_slash b) refl u (λ f v. split_utf8 f bs v)

parts_utf8 : (path : List ℕ) → IsUtf8 path → Each IsUtf8 (slice_split is_slash path)
parts_utf8 path u = behind_nothing (slice_split is_slash path) (split_utf8 [] path u)

drop_each : (parts : List (List ℕ)) → Each IsUtf8 parts → Each IsUtf8 (drop 1 parts)
drop_each [] a = tt
drop_each (p ∷ ps) a = a.1

one_up_step : (within absolute : Bool) (parts next : List (List ℕ)) → Each IsUtf8 parts
    → cond within (Some (drop 1 parts)) (cond absolute None (Some (up ∷ parts))) ≡ Some next → Each IsUtf8 next
one_up_step true absolute parts next a e = let same : drop 1 parts ≡ next = cc in subst (Each IsUtf8) same (drop_each parts a)
one_up_step false true parts next a e = absurd (cc)
one_up_step false false parts next a e = let same : up ∷ parts ≡ next = cc in subst (Each IsUtf8) same (up_utf8, a)

with_part_step : (dropped is : Bool) (absolute : Bool) (parts next : List (List ℕ)) (part : List ℕ) → Each IsUtf8 parts
    → IsUtf8 part
    → cond dropped (Some parts) (cond is (one_up absolute parts) (Some (part ∷ parts))) ≡ Some next → Each IsUtf8 next
with_part_step true is absolute parts next part a u e = let same : parts ≡ next = cc in subst (Each IsUtf8) same a
with_part_step false true absolute parts next part a u e = one_up_step (is_in_folder parts) absolute parts next a e
with_part_step false false absolute parts next part a u e = let same : part ∷ parts ≡ next = cc in subst (Each IsUtf8) same (u, a)

with_parts_step : (r : Option (List (List ℕ))) (f : List (List ℕ) → Option (List (List ℕ))) (kept : List (List ℕ))
    → ((next : List (List ℕ)) → r ≡ Some next → Each IsUtf8 next)
    → option_and_then f r ≡ Some kept → ((next : List (List ℕ)) → Each IsUtf8 next → f next ≡ Some kept → Each IsUtf8 kept)
    → Each IsUtf8 kept
with_parts_step None f kept a e more = absurd (cc)
with_parts_step (Some next) f kept a e more = more next (a next refl) e

with_parts_utf8 : (absolute : Bool) (parts more kept : List (List ℕ)) → Each IsUtf8 parts → Each IsUtf8 more
    → with_parts absolute parts more ≡ Some kept → Each IsUtf8 kept
with_parts_utf8 absolute parts [] kept a m e = let same : parts ≡ kept = cc in subst (Each IsUtf8) same a
with_parts_utf8 absolute parts (p ∷ ps) kept a m e =
    with_parts_step (with_part absolute parts p) (λ next. with_parts absolute next ps) kept
    (λ next h. with_part_step (is_dropped p) (is_up p) absolute parts next p a m.0 h) e
    (λ next b h. with_parts_utf8 absolute next ps kept b m.1 h)

each_append : (xs ys : List (List ℕ)) → Each IsUtf8 xs → Each IsUtf8 ys → Each IsUtf8 (xs ++ ys)
each_append [] ys a b = b
each_append (x ∷ xs) ys a b = (a.0, each_append xs ys a.1 b)

each_reverse : (parts : List (List ℕ)) → Each IsUtf8 parts → Each IsUtf8 (reverse parts)
each_reverse [] a = tt
each_reverse (p ∷ ps) a = subst (Each IsUtf8) (sym (reverse-append (p ∷ []) ps))
    (each_append (reverse ps) (p ∷ []) (each_reverse ps a.1) (a.0, tt))

join_utf8 : (parts : List (List ℕ)) → Each IsUtf8 parts → IsUtf8 (join_with_byte 47 parts)
join_utf8 [] a = IsUtf8-nil
join_utf8 (p ∷ []) a = a.0
join_utf8 (p ∷ q ∷ ps) a = IsUtf8-append p (47 ∷ join_with_byte 47 (q ∷ ps)) a.0
    (IsUtf8-append (47 ∷ []) (join_with_byte 47 (q ∷ ps)) slash_utf8 (join_utf8 (q ∷ ps) a.1))

root_slash_utf8 : (absolute : Bool) → IsUtf8 (cond absolute (47 ∷ []) [])
root_slash_utf8 true = slash_utf8
root_slash_utf8 false = IsUtf8-nil

path_text_utf8 : (absolute : Bool) (parts : List (List ℕ)) → Each IsUtf8 parts → IsUtf8 (path_text absolute parts)
path_text_utf8 absolute parts a =
    IsUtf8-append (cond absolute (47 ∷ []) []) (join_with_byte 47 (reverse parts)) (root_slash_utf8 absolute)
    (join_utf8 (reverse parts) (each_reverse parts a))

file_path_step : (within : Bool) (text name : List ℕ) → IsUtf8 text → cond within (Some text) None ≡ Some name → IsUtf8 name
file_path_step true text name u e = let same : text ≡ name = cc in subst IsUtf8 same u
file_path_step false text name u e = absurd (cc)

folded_step : (absolute : Bool) (r : Option (List (List ℕ))) (name : List ℕ)
    → ((kept : List (List ℕ)) → r ≡ Some kept → Each IsUtf8 kept) → option_and_then (file_path absolute) r ≡ Some name
    → IsUtf8 name
folded_step absolute None name a e = absurd (cc)
folded_step absolute (Some kept) name a e = file_path_step (is_in_folder kept) (path_text absolute kept) name
    (path_text_utf8 absolute kept (a kept refl)) e

folded_utf8 : (path name : List ℕ) → IsUtf8 path → folded path ≡ Some name → IsUtf8 name
folded_utf8 path name u e = search (rules, folded_step, with_parts_utf8, parts_utf8)

in_folder_utf8 : (folder path : List ℕ) → IsUtf8 folder → IsUtf8 path → IsUtf8 (in_folder folder path)
in_folder_utf8 [] path f u = u
in_folder_utf8 (b ∷ bs) path f u = IsUtf8-append (b ∷ bs) (47 ∷ path) f (IsUtf8-append (47 ∷ []) path slash_utf8 u)

plain_utf8 : (path : List ℕ) → is_plain path ≡ true → IsUtf8 path
plain_utf8 path e = IsUtf8-from_is_utf8 path (and_parts _ (is_utf8 path) e).1

import_path_utf8 : (path : List ℕ) → is_import_path path ≡ true → IsUtf8 path
import_path_utf8 [] e = IsUtf8-nil
import_path_utf8 (b ∷ bs) e = plain_utf8 (b ∷ bs) (and_parts _ (is_plain (b ∷ bs)) e).1

named_step : (path is name : List ℕ) (b : Bool) → (b ≡ true → IsUtf8 path) → cond b (folded path) None ≡ Some name → IsUtf8 name
named_step path is name true u e = folded_utf8 path name (u refl) e
named_step path is name false u e = absurd (cc)

-- the name of a root
pub root_name_utf8 : (root name : List ℕ) → root_name root ≡ Some name → IsUtf8 name
root_name_utf8 root name e = named_step root [] name (is_plain root) (λ h. plain_utf8 root h) e

import_name_utf8 : (folder path name : List ℕ) → IsUtf8 folder → import_name folder path ≡ Some name → IsUtf8 name
import_name_utf8 folder path name f e = named_step (in_folder folder path) [] name (is_import_path path)
    (λ h. in_folder_utf8 folder path f (import_path_utf8 path h)) e

no_folder : (name : List ℕ) → list_any is_slash name ≡ false → folder_of name ≡ []
no_folder [] e = refl
no_folder (b ∷ bs) e = ap (λ (c : Bool). cond c (b ∷ folder_of bs) []) e

or_left : (a b : Bool) → (a || b) ≡ true → b ≡ false → a ≡ true
or_left true b e f = refl
or_left false b e f = absurd (true≢false (sym e ∙ f))

-- a folder ends in a slash
folder_parts : (name : List ℕ) → list_any is_slash name ≡ true → (xs : List ℕ) × (ys : List ℕ) × (name ≡ xs ++ 47 ∷ ys)
    × (folder_of name ≡ xs ++ 47 ∷ [])
folder_parts [] e = absurd (true≢false (sym e))
folder_parts (b ∷ bs) e = folder_step (list_any is_slash bs) refl (λ h. folder_parts bs h)
  where
    folder_step : (c : Bool) → list_any is_slash bs ≡ c
        → (c ≡ true → (xs : List ℕ) × (ys : List ℕ) × (bs ≡ xs ++ 47 ∷ ys) × (folder_of bs ≡ xs ++ 47 ∷ []))
        → (xs : List ℕ) × (ys : List ℕ) × (b ∷ bs ≡ xs ++ 47 ∷ ys) × (folder_of (b ∷ bs) ≡ xs ++ 47 ∷ [])
    folder_step true h more =
        let p = more refl in (
          b ∷ p.0,
          p.1,
          ap (λ (l : List ℕ). b ∷ l) p.2,
          ap (λ (c : Bool). cond c (b ∷ folder_of bs) []) e
              ∙ ap (λ (l : List ℕ). b ∷ l) p.3,
        )
    folder_step false h more =
        let is : b ≡ 47 = is_slash-is b (or_left (is_slash b) (list_any is_slash bs) e h) in (
          [],
          bs,
          ap (λ (x : ℕ). x ∷ bs) is,
          ap (λ (c : Bool). cond c (b ∷ folder_of bs) []) e ∙ ap (λ (l : List ℕ). b ∷ l)
              (no_folder bs h) ∙ ap (λ (x : ℕ). x ∷ []) is,
        )

folder_of_utf8 : (name : List ℕ) → IsUtf8 name → IsUtf8 (folder_of name)
folder_of_utf8 name u = go (list_any is_slash name) refl
  where
    go : (c : Bool) → list_any is_slash name ≡ c → IsUtf8 (folder_of name)
    go true h = let p = folder_parts name h in
        subst IsUtf8 (sym p.3) (IsUtf8-append p.0 (47 ∷ []) (utf8_cut p.0 p.1 (subst IsUtf8 p.2 u)).0 slash_utf8)
    go false h = subst IsUtf8 (sym (no_folder name h)) IsUtf8-nil

top_utf8 : (angle : Bool) (root own : List ℕ) → IsUtf8 root → IsUtf8 own → IsUtf8 (cond angle root own)
top_utf8 true root own r o = r
top_utf8 false root own r o = o

-- the name that an import gives
pub name_given_utf8 : (root own : List ℕ) (import : Import) (name : List ℕ) → IsUtf8 root → IsUtf8 own
    → name_given root own import ≡ Some name → IsUtf8 name
name_given_utf8 root own import name r o e = import_name_utf8 (folder_of (cond import.angle root own)) import.path name
    (folder_of_utf8 (cond import.angle root own) (top_utf8 import.angle root own r o)) e
