-- A byte at fault for beginning nothing begins no token.
use Rattle.adl_lexer.proofs.Common.{Bool, Code, Err, Exact, Found, Kind, List, None, Ok, Option, Result, Some, Spells, Stop, [], after_angle, after_byte, after_run, after_text, among, angle_bytes, angle_first, ap, apart_none, can_be_empty}
use Rattle.adl_lexer.proofs.Common.{cases_Bool, class_of, digits, false, flat, further, greater, if_true, inl, inr, less, less_fault, letters, line_bytes, mark_bytes, minus, minus_fault}
use Rattle.adl_lexer.proofs.Common.{number_fault_by, number_value, or_else, quote, reads, refl, run, spelled_starts, starts, subst, sym, text_fault, token_form, too_deep, true, true_is_not_false, unless, word_bytes}
use Rattle.adl_lexer.proofs.Common.{rules, word_fault, ℕ, ◌&&◌, ◌++◌, ◌==◌, ◌∙◌, ◌∷◌, ◌≡◌}
use Rattle.cam_base.specs.declared.code.Code.TheVariants as code
use Rattle.cam_base.proofs.Theorems.{starts_none}
use Rattle.adl_lexer.specs.LexFaults.{fault_at}
use Rattle.adl_lexer.specs.TokenKinds.{word_line, number_line, hex_line, text_item, text_line, less_line, arrow_line, mark_line}
use Rattle.adl_lexer.proofs.Classes.{one_of}
use Rattle.adl_lexer.proofs.Exactness.{read_exact, token_exact, token_full}
use Rattle.adl_lexer.proofs.Readings.{not_one_byte}
use Rattle.adl_lexer.proofs.Runs.{run_is}
use Rattle.adl_lexer.proofs.TokenTexts.{word_start, number_start}

is_code : Code → Bool
is_code code.Byte = true
is_code c = false

-- the fault is that of a byte that begins nothing
is_byte : Found → Bool
is_byte None = false
is_byte (Some f) = is_code f.0

-- ---- which class the first byte of a token has

word_first : (k : Kind) (b : ℕ) (a : List ℕ) → Spells class_of flat word_line k (b ∷ a) → among letters (class_of b) ≡ true
unfolding word_line
word_first k b a s = spelled_starts (read_exact word_line refl) k b a s

number_first : (k : Kind) (b : ℕ) (a : List ℕ) → Spells class_of flat number_line k (b ∷ a) → among digits (class_of b) ≡ true
unfolding number_line hex_line
number_first k b a s = spelled_starts (read_exact number_line refl) k b a s

text_first : (k : Kind) (b : ℕ) (a : List ℕ) → Spells class_of flat text_line k (b ∷ a) → class_of b ≡ quote
unfolding text_line text_item
text_first k b a s = one_of (class_of b) quote (spelled_starts (read_exact text_line refl) k b a s)

less_first : (k : Kind) (b : ℕ) (a : List ℕ) → Spells class_of flat less_line k (b ∷ a) → class_of b ≡ less
unfolding less_line
less_first k b a s = one_of (class_of b) less (spelled_starts (read_exact less_line refl) k b a s)

arrow_first : (k : Kind) (b : ℕ) (a : List ℕ) → Spells class_of flat arrow_line k (b ∷ a) → class_of b ≡ minus
unfolding arrow_line
arrow_first k b a s = one_of (class_of b) minus (spelled_starts (read_exact arrow_line refl) k b a s)

mark_first : (k : Kind) (b : ℕ) (a : List ℕ) → Spells class_of flat mark_line k (b ∷ a) → among mark_bytes (class_of b) ≡ true
unfolding mark_line
mark_first k b a s = spelled_starts (read_exact mark_line refl) k b a s

-- ---- no such fault stands at these classes

unless_no_byte : (o : Option (List ℕ)) (c : Code) (text : List ℕ) → is_code c ≡ false → is_byte (unless o c text) ≡ false
unfolding is_byte
unless_no_byte None c text h = h
unless_no_byte (Some rest) c text h = refl

word_no_byte : (word : List ℕ) → is_byte (word_fault word) ≡ false
unfolding is_byte is_code
word_no_byte word = search (rules, cases_Bool)

number_no_byte : (o : Option ℕ) (text rest : List ℕ) → is_byte (number_fault_by o text rest) ≡ false
unfolding is_byte is_code
number_no_byte None text rest = refl
number_no_byte (Some n) text rest = search (rules, cases_Bool)

not_that : (c d : ℕ) → among (d ∷ []) c ≡ false → (c == d) ≡ false
not_that c d h = elim (cases_Bool (c == d)) [ inl e ↦ true_is_not_false (among (d ∷ []) c) (rw e refl) h | inr e ↦ e ]

mark_no_byte : (b : ℕ) (bs : List ℕ) → among mark_bytes (class_of b) ≡ true → is_byte (fault_at (b ∷ bs)) ≡ false
unfolding fault_at is_byte is_code
mark_no_byte b bs h = search (rules, apart_none, not_that, is_byte)

-- ---- angle brackets

is_stopped : Result (Kind × List ℕ) Stop → Bool
is_stopped (Ok x) = false
is_stopped (Err e) = true

no_angle : (b : ℕ) (bs : List ℕ) → class_of b ≡ less → after_byte minus bs ≡ None → after_angle bs ≡ None
    → is_stopped (reads less_line (b ∷ bs)) ≡ true
unfolding less_line is_stopped
no_angle b [] h g e = rw h refl
no_angle b (c ∷ bs) h g e = elim (cases_Bool (among angle_first (class_of c))) [
  | inl f ↦
      ends (after_run angle_bytes bs) refl f
      (sym (if_true (among angle_first (class_of c)) (after_byte greater (after_run angle_bytes bs)) None f) ∙ e)
  | inr f ↦ rw (h, not_one_byte minus (c ∷ bs) g, f) refl
]
  where
    ends : (r : List ℕ) → after_run angle_bytes bs ≡ r → among angle_first (class_of c) ≡ true
        → after_byte greater (after_run angle_bytes bs) ≡ None → is_stopped (reads less_line (b ∷ c ∷ bs)) ≡ true
    ends [] p f n = rw (h, not_one_byte minus (c ∷ bs) g, f, run_is angle_bytes bs, p) refl
    ends (d ∷ r) p f n =
        let last : among (greater ∷ []) (class_of d) ≡ false = search (rules, not_one_byte) in
        rw (h, not_one_byte minus (c ∷ bs) g, f, run_is angle_bytes bs, p, last) refl

less_exact : Exact class_of flat [] too_deep less_line
unfolding less_line
less_exact = read_exact less_line refl

less_ends : further [] less_line ≡ []
unfolding less_line
less_ends = refl

-- a < that begins a token is at no such fault
less_no_byte : (k : Kind) (b : ℕ) (bs a rest : List ℕ) → b ∷ bs ≡ (b ∷ a) ++ rest → Spells class_of flat less_line k (b ∷ a)
    → is_byte (fault_at (b ∷ bs)) ≡ false
unfolding fault_at is_byte is_code is_stopped
less_no_byte k b bs a rest p s = go (after_byte minus bs) (after_angle bs) refl refl
  where
    c : class_of b ≡ less
    c = less_first k b a s

    fault : fault_at (b ∷ bs) ≡ less_fault (b ∷ bs)
    fault = rw (less_first k b a s) refl

    go : (o q : Option (List ℕ)) → after_byte minus bs ≡ o → after_angle bs ≡ q → is_byte (fault_at (b ∷ bs)) ≡ false
    go (Some x) q e f = ap is_byte (fault ∙ ap (λ w. unless (or_else w (after_angle bs)) code.Byte (b ∷ [])) e)
    go None (Some x) e f = ap is_byte (fault ∙ ap (λ w. unless (or_else w (after_angle bs)) code.Byte (b ∷ [])) e
        ∙ ap (λ w. unless w code.Byte (b ∷ [])) f)
    go None None e f =
        let read : reads less_line (b ∷ bs) ≡ Ok (k, rest) = ap (reads less_line) p ∙ less_exact.complete k (b ∷ a) rest s
        (subst (λ (cs : List ℕ). starts class_of cs rest ≡ false) (sym less_ends) (starts_none class_of rest)) in
        true_is_not_false (is_stopped (reads less_line (b ∷ bs))) (no_angle b bs c e f) (ap is_stopped read)

module _ (k : Kind) (b : ℕ) (a rest bs : List ℕ) (p : b ∷ bs ≡ (b ∷ a) ++ rest) where
  token_no_byte : Spells class_of flat token_form k (b ∷ a) → is_byte (fault_at (b ∷ bs)) ≡ false
  unfolding fault_at is_code
  token_no_byte (inl s) = ap is_byte (word_start (b ∷ bs) (word_first k b a s)).1 ∙ word_no_byte (run word_bytes (b ∷ bs))
  token_no_byte (inr (inl s)) = ap is_byte (number_start (b ∷ bs) (number_first k b a s)).1
      ∙ number_no_byte (number_value (run word_bytes (b ∷ bs))) (run word_bytes (b ∷ bs)) (after_run word_bytes (b ∷ bs))
  token_no_byte (inr (inr (inl s))) =
      let c = text_first k b a s in
      let fault : fault_at (b ∷ bs) ≡ text_fault (b ∷ bs) = rw c refl in
      ap is_byte fault ∙ unless_no_byte (after_text bs) code.Unclosed (run line_bytes (b ∷ bs)) refl
  token_no_byte (inr (inr (inr (inl s)))) = less_no_byte k b bs a rest p s
  token_no_byte (inr (inr (inr (inr (inl s))))) =
      let c = arrow_first k b a s in
      let fault : fault_at (b ∷ bs) ≡ minus_fault (b ∷ bs) = rw c refl in
      ap is_byte fault ∙ unless_no_byte (after_byte greater bs) code.LeftOut (b ∷ []) refl
  token_no_byte (inr (inr (inr (inr (inr s))))) = mark_no_byte b bs (mark_first k b a s)

-- where such a fault stands, no token's bytes do
pub byte_begins_nothing : (bs text : List ℕ) → fault_at bs ≡ Some (code.Byte, text) → (k : Kind) (a rest : List ℕ)
    → bs ≡ a ++ rest → Spells class_of flat token_form k a → ⊥
unfolding is_byte is_code
byte_begins_nothing bs text e k [] rest p s = true_is_not_false (can_be_empty token_form) (token_exact.null k s) token_full
byte_begins_nothing bs text e k (b ∷ a) rest p s =
    let no = token_no_byte k b a rest (a ++ rest) refl s in
    true_is_not_false (is_byte (fault_at (b ∷ a ++ rest))) (ap (λ (w : List ℕ). is_byte (fault_at w)) (sym p) ∙ ap is_byte e) no
