-- A program header more.
use Rattle.sect_table.proofs.Common.{Class, List, arith, header_length, headers_from, program_header, refl, suc, zero, ℕ, ◌*◌, ◌+◌, ◌-◌, ◌<◌, ◌∷◌, ◌≡◌}

pub one_more : (left l : ℕ) → 0 < left → left * l ≡ l + (left - 1) * l
one_more zero l h = absurd (omega arith)
one_more (suc k) l h = let e : suc k - 1 ≡ k = omega arith in rw e (omega arith)

pub headers_more : (class : Class) (bytes : List ℕ) (number first left : ℕ) → 0 < left
    → headers_from class bytes number first left ≡ program_header class bytes number first ∷ headers_from class bytes (number + 1)
    (first + header_length class) (left - 1)
headers_more class bytes number first zero h = absurd (omega arith)
headers_more class bytes number first (suc k) h = let e : suc k - 1 ≡ k = omega arith in rw e refl

pub ruleset heads = (one_more, headers_more)
