-- Reading a form from left to right, by the next token alone: what parsing functions compute.
use Rattle.std.specs.Prelude.{ℕ, zero, suc, Bool, false, List, [], ◌∷◌, length, Result, Ok, Err, if◌then◌else◌}
use Rattle.cam_base.specs.declared.grammar_error.Stop.{Stop}
use Rattle.cam_base.specs.declared.grammar_error.Why.TheVariants.{Unexpected, TooDeep}
use Rattle.cam_base.specs.Form.{Form, Give, One, Then, Or, Many, As, Starts, Nested, among}
use Rattle.cam_base.specs.Deciding.{first}

infixl 10 ◌>>=◌
abbrev pub ◌>>=◌ : {A B : Type 0} → Result A Stop → (A → Result B Stop) → Result B Stop
(Ok x) >>= f = f x
(Err e) >>= f = Err e

-- a value and the tokens after it, or where reading stopped
abbrev pub Reader : Type 0 → Type 0 → Type 0
Reader T A = List T → Result (A × List T) Stop

-- how many tokens are left
abbrev pub left : {T A : Type 0} → Result (A × List T) Stop → ℕ
left (Ok x) = length x.1
left (Err e) = e.left

module _ {T : Type 0} (code : T → ℕ) where
  -- the next token's code is one of these
  abbrev pub starts : List ℕ → List T → Bool
  starts cs [] = false
  starts cs (t ∷ ts) = among cs (code t)

  -- one token with one of these codes
  abbrev pub one : List ℕ → Reader T T
  one cs [] = Err (record { why = Unexpected; left = 0 })
  one cs (t ∷ ts) = if among cs (code t) then Ok (t, ts) else Err (record { why = Unexpected; left = length (t ∷ ts) })

  -- one after the other
  abbrev pub both : {A B : Type 0} → Reader T A → Reader T B → Reader T (A × B)
  both r q ts = r ts >>= λ x. q x.1 >>= λ y. Ok ((x.0, y.0), y.1)

  -- the first where the next token is one of these, else the second
  abbrev pub either : {A : Type 0} → List ℕ → Reader T A → Reader T A → Reader T A
  either cs r q ts = if starts cs ts then r ts else q ts

  -- as long as the next token is one of these, n times at most
  abbrev pub times : {A : Type 0} → ℕ → List ℕ → Reader T A → Reader T (List A)
  times zero cs r ts = Ok ([], ts)
  times (suc n) cs r ts = if starts cs ts then (r ts >>= λ x. times n cs r x.1 >>= λ xs. Ok (x.0 ∷ xs.0, xs.1)) else Ok ([], ts)

  -- as long as the next token is one of these
  unfoldable pub many : {A : Type 0} → List ℕ → Reader T A → Reader T (List A)
  many cs r ts = times (length ts) cs r ts

  -- the same tokens, with this meaning
  abbrev pub mapped : {A B : Type 0} → (A → B) → Reader T A → Reader T B
  mapped h r ts = r ts >>= λ x. Ok (h x.0, x.1)

module _ {T V : Type 0} (code : T → ℕ) (opens : List ℕ) (deeper : Reader T V) where
  -- the reader of a form, where deeper reads the nested line, which begins with one of opens
  abbrev pub read : {A : Type 0} → Form T V A → Reader T A
  read (Give x) = λ ts. Ok (x, ts)
  read (One cs) = one code cs
  read (Then f g) = both code (read f) (read g)
  read (Or f g) = either code (first opens f) (read f) (read g)
  read (Many f) = many code (first opens f) (read f)
  read (As h f) = mapped code h (read f)
  read (Starts cs f) = read f
  read Nested = deeper

-- reads only where the next token is one of these
abbrev pub guarded : {T A : Type 0} → (T → ℕ) → List ℕ → Reader T A → Reader T A
guarded code cs r ts = if starts code cs ts then r ts else Err (record { why = Unexpected; left = length ts })

-- one level more than the limit
abbrev pub too_deep : {T A : Type 0} → Reader T A
too_deep ts = Err (record { why = TooDeep; left = length ts })

-- the reader of the line that may stand within itself, nested at most n deep, where it begins with one of opens
unfoldable pub read_deep : {T V : Type 0} → (T → ℕ) → Form T V V → List ℕ → ℕ → Reader T V
read_deep code line opens zero = guarded code opens too_deep
read_deep code line opens (suc n) = guarded code opens (read code opens (read_deep code line opens n) line)

-- nothing is left
abbrev pub ended : {T A : Type 0} → A → List T → Result A Stop
ended x [] = Ok x
ended x (t ∷ ts) = Err (record { why = Unexpected; left = length (t ∷ ts) })

-- reading all tokens
abbrev pub whole : {T A : Type 0} → Reader T A → List T → Result A Stop
whole r ts = r ts >>= λ x. ended x.0 x.1

-- one token with one of these codes, and then what r reads, which alone counts
abbrev pub behind_one : {T A : Type 0} → (T → ℕ) → List ℕ → Reader T A → Reader T A
behind_one code cs r = mapped code (λ x. x.1) (both code (one code cs) r)

-- one or more, with a token of this code between two of them
abbrev pub list_of : {T A : Type 0} → (T → ℕ) → ℕ → Reader T A → Reader T (List A)
list_of code c r = mapped code (λ x. x.0 ∷ x.1) (both code r (many code (c ∷ []) (behind_one code (c ∷ []) r)))
