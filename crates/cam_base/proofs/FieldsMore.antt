-- A field more.
use Rattle.cam_base.proofs.Common.{List, [], ap, append_assoc, arith, before_first, drop, length, map-append, parts_from, suc, sym, take, texts, ℕ, ◌++◌, ◌+◌, ◌-◌, ◌<◌, ◌==◌, ◌∙◌, ◌∷◌, ◌≡◌, ◌≤◌}
use Rattle.std.specs.Borrow.{Bor}
use Rattle.cam_base.proofs.Cutting.{parts_more}

taken : (room : ℕ) (part : List ℕ) (more : List (List ℕ)) → 0 < room → take room (part ∷ more) ≡ part ∷ take (room - 1) more
taken room part more lt = let e : room ≡ suc (room - 1) = omega arith in ap (λ k. take k (part ∷ more)) e

pub field_more : (most at n : ℕ) (line : List ℕ) (fields : List (Bor (List ℕ))) (field : Bor (List ℕ)) (all : List (List ℕ))
    → n < most → at ≤ length line
    → field.now ≡ before_first (λ b. b == 32) (drop at line) → texts fields ++ take (most - n) (parts_from 32 at line) ≡ all
    → texts (fields ++ field ∷ []) ++ take (most - (n + 1)) (parts_from 32 (at + (length field.now + 1)) line) ≡ all
field_more most at n line fields field all room le is so_far =
    let more = parts_from 32 (at + (length field.now + 1)) line in
    let less : most - n - 1 ≡ most - (n + 1) = omega arith in
    let here : parts_from 32 at line ≡ field.now ∷ more = parts_more 32 at line le
    ∙ ap (λ t. t ∷ parts_from 32 (at + (length t + 1)) line) (sym is) in
    ap (λ fs. fs ++ take (most - (n + 1)) more) (map-append (λ (f : Bor (List ℕ)). f.now) fields (field ∷ []))
    ∙ append_assoc (texts fields) (field.now ∷ []) (take (most - (n + 1)) more)
    ∙ ap (λ k. texts fields ++ (field.now ∷ take k more)) (sym less)
    ∙ ap (λ parts. texts fields ++ parts) (sym (taken (most - n) field.now more (omega arith)))
    ∙ ap (λ parts. texts fields ++ take (most - n) parts) (sym here)
    ∙ so_far
