-- Parts of a path, as they are put on and taken off.
use Rattle.std.proofs.Common.{rules}
use Rattle.adl_import.proofs.Common.{Bool, Err, IsUtf8, IsUtf8-from_is_utf8, List, None, Ok, Option, Result, Some, [], ap, append-nil, append_assoc, arith, bytes_eq-Decides, false, false_from_ne_true}
use Rattle.adl_import.proofs.Common.{flat_map, inner_first, is_in_folder, is_up, is_utf8, is_utf8-from_IsUtf8, join_with_byte, map-append, one_up, parts_of, refl, reverse, reverse-append}
use Rattle.adl_import.proofs.Common.{sym, true, true≢false, up, ℕ, ◌++◌, ◌<◌, ◌↔◌, ◌∙◌, ◌∷◌, ◌≡◌}
use Rattle.std.specs.Borrow.{Bor}
use Rattle.std.specs.Result.{is_ok, MatchResult}

pub inner_first-push : (items : List (Bor (List ℕ))) (part : Bor (List ℕ)) → inner_first (items ++ part ∷ []) ≡ part.now
    ∷ inner_first items
inner_first-push items part = ap reverse (map-append (λ (r : Bor (List ℕ)). r.now) items (part ∷ []))
    ∙ reverse-append (parts_of items) (part.now ∷ [])

-- the bytes of `..` are `..`
pub up-is : (part : List ℕ) → is_up part ≡ true → part ≡ up
up-is part e = (bytes_eq-Decides part up).0 e

pub one_up-push : (absolute : Bool) (items : List (Bor (List ℕ))) (part : Bor (List ℕ)) → is_in_folder (inner_first items) ≡ false
    → absolute ≡ false → is_up part.now ≡ true
    → one_up absolute (inner_first items) ≡ Some (inner_first (items ++ part ∷ []))
one_up-push absolute items part outside relative is = search (rules, up-is, inner_first-push)

-- the first part, and the others behind slashes
pub join_with_byte-first : (part : Bor (List ℕ)) (parts : List (Bor (List ℕ)))
    → join_with_byte 47 (parts_of (part ∷ parts)) ≡ part.now ++ flat_map (λ (p : Bor (List ℕ)). 47 ∷ p.now) parts
join_with_byte-first part [] = sym (append-nil part.now)
join_with_byte-first part (next ∷ more) = ap (λ (l : List ℕ). part.now ++ 47 ∷ l) (join_with_byte-first next more)

-- what a test for UTF-8 says
pub is_utf8-tested : {E : Type 0} (r : Result (Bor (List ℕ)) E) (Q : E → Type 0) (bs : List ℕ)
    → MatchResult r (λ s. (s.now ≡ bs) × IsUtf8 bs) (λ e. ¬ (IsUtf8 bs) × Q e) → is_ok r ≡ is_utf8 bs
is_utf8-tested (Ok s) Q bs h = sym (is_utf8-from_IsUtf8 bs h.1)
is_utf8-tested (Err e) Q bs h = sym (false_from_ne_true (is_utf8 bs) (λ t. h.0 (IsUtf8-from_is_utf8 bs t)))

pub joined-pushed : (before front after : List ℕ) (parts rest : List (Bor (List ℕ))) (first : Bor (List ℕ)) → parts ≡ first ∷ rest
    → front ≡ before ++ first.now
    → after ≡ front ++ flat_map (λ (p : Bor (List ℕ)). 47 ∷ p.now) rest → after ≡ before ++ join_with_byte 47 (parts_of parts)
joined-pushed before front after parts rest first is e f = search (rules, append_assoc, join_with_byte-first)
