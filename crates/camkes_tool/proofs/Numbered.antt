-- What is listed for numbers in a row, one further.
use Rattle.std.proofs.Common.{rules}
use Rattle.camkes_tool.proofs.Common.{List, [], ap, append-nil, append_assoc, arith, flat_map, map-id, range_with_len, sym, ℕ, ◌++◌, ◌+◌, ◌∙◌, ◌∷◌, ◌≡◌}
use Rattle.cam_base.specs.Texts.{together}
use Rattle.std.proofs.lemmas.Grind.{flat_map-append}
use Rattle.std.proofs.lemmas.List.FromFn.{map-range_with_len_more}

range_with_len_more : (n : ℕ) → range_with_len 0 (n + 1) ≡ range_with_len 0 n ++ n ∷ []
range_with_len_more n =
    sym (map-id (range_with_len 0 (n + 1))) ∙ map-range_with_len_more (λ x. x) 0 n n (omega arith)
    ∙ ap (λ z. z ++ n ∷ []) (map-id (range_with_len 0 n))

pub one_further : (f : ℕ → List ℕ) (n : ℕ) → flat_map f (range_with_len 0 (n + 1)) ≡ flat_map f (range_with_len 0 n) ++ f n
one_further f n = search (rules, range_with_len_more, flat_map-append, append-nil)

-- what one more number adds, piece by piece
pub added : (f : ℕ → List ℕ) (n : ℕ) (start text one two three front digits back : List ℕ)
    → text ≡ start ++ flat_map f (range_with_len 0 n)
    → one ≡ text ++ front → two ≡ one ++ digits → three ≡ two ++ back → f n ≡ front ++ (digits ++ back)
    → three ≡ start ++ flat_map f (range_with_len 0 (n + 1))
added f n start text one two three front digits back e a b d is = search (rules, append_assoc, one_further)

-- seven texts one behind another
pub seven : (a b c d e f g : List ℕ) → ((((((a ++ b) ++ c) ++ d) ++ e) ++ f) ++ g) ≡ together (a ∷ b ∷ c ∷ d ∷ e ∷ f ∷ g ∷ [])
unfolding together
seven a b c d e f g = search (rules, append_assoc, append-nil)
