-- A loop that reads one form after the other: what was read before it (front), and what is still to be read.
use Rattle.cam_base.proofs.Common.{Err, Fails, Form, List, Ok, ReadError, Reader, Result, Stop, [], ap, append-nil, append_assoc, arith, both, can_be_empty, decides, false, length, many, mapped, one, read, read_deep, refl, starts, sym, true, ℕ, ◌++◌}
use Rattle.cam_base.proofs.Common.{◌<◌, ◌>>=◌, ◌∙◌, ◌∷◌, ◌≡◌}
use Rattle.cam_base.specs.declared.grammar_error.ReadError.TheVariants as errors
use Rattle.cam_base.proofs.Laws.{bind_ok, ok_is, consumes, IsRead-one}
use Rattle.cam_base.proofs.Repeats.{and_more, many_more, many_none}
use Rattle.cam_base.proofs.Depth.{IsLine, deep_exact}

-- what was read before, and what is still read
abbrev pub with_front : {T A : Type 0} → List A → Result (List A × List T) Stop → Result (List A × List T) Stop
with_front front given = given >>= λ x. Ok (front ++ x.0, x.1)

-- nothing was read before
pub behind_none : {T A : Type 0} (given : Result (List A × List T) Stop) → with_front [] given ≡ given
behind_none (Ok x) = refl
behind_none (Err e) = refl

-- the reader takes a token at least
abbrev pub Eats : {T A : Type 0} → Reader T A → Type 0
Eats {T = T} {A = A} r = (ts : List T) (x : A × List T) → r ts ≡ Ok x → length x.1 < length ts

regroup : {T A : Type 0} (front : List A) (x : A) (given : Result (List A × List T) Stop)
    → with_front front (given >>= λ xs. Ok (x ∷ xs.0, xs.1)) ≡ with_front (front ++ x ∷ []) given
regroup {T = T} {A = A} front x (Ok y) = ap (λ (xs : List A). Ok (xs, y.1)) (sym (append_assoc front (x ∷ []) y.0))
regroup front x (Err f) = refl

module _ {T A : Type 0} (code : T → ℕ) (cs : List ℕ) (r : Reader T A) (eats : Eats r) where
  -- one more was read
  pub goes_on : (front : List A) (ts : List T) (x : A) (after : List T) (total : Result (List A × List T) Stop)
      → starts code cs ts ≡ true → r ts ≡ Ok (x, after)
      → with_front front (many code cs r ts) ≡ total → with_front (front ++ x ∷ []) (many code cs r after) ≡ total
  goes_on front ts x after total h e so_far =
      sym (ap (with_front front) (many_more code cs r eats ts h) ∙ ap (λ v. with_front front (and_more (many code cs r) v)) e
      ∙ regroup front x (many code cs r after)) ∙ so_far

  -- one could not be read
  pub fails : (e : ReadError) (front : List A) (ts : List T) (total : Result (List A × List T) Stop) → starts code cs ts ≡ true
      → Fails e (r ts) → with_front front (many code cs r ts) ≡ total → Fails e total
  fails errors.NoMemory front ts total h g so_far = tt
  fails (errors.Stop c) front ts total h g so_far = sym so_far ∙ ap (with_front front) (many_more code cs r eats ts h)
      ∙ ap (λ v. with_front front (and_more (many code cs r) v)) g

  -- no more are there
  pub is_done : (front : List A) (ts : List T) (total : Result (List A × List T) Stop) → starts code cs ts ≡ false
      → with_front front (many code cs r ts) ≡ total → total ≡ Ok (front, ts)
  is_done front ts total h so_far = sym so_far ∙ ap (with_front front) (many_none code cs r ts h)
      ∙ ap (λ (xs : List A). Ok (xs, ts)) (append-nil front)

-- a reader behind one token takes a token at least, if what it reads does
pub behind_eats : {T A : Type 0} (code : T → ℕ) (cs : List ℕ) (r : Reader T A) → Eats r
    → Eats (mapped code (λ x. x.1) (both code (one code cs) r))
behind_eats code cs r eats ts x e =
    let pair = bind_ok (both code (one code cs) r ts) (λ y. Ok (y.0.1, y.1)) x e in
    let first = bind_ok (one code cs ts) (λ y. r y.1 >>= λ z. Ok ((y.0, z.0), z.1)) pair.0 pair.1 in
    let second = bind_ok (r first.0.1) (λ z. Ok ((first.0.0, z.0), z.1)) pair.0 first.2 in
    let a = consumes (IsRead-one code cs) ts first.0 refl first.1 in
    let b = eats first.0.1 second.0 second.1 in
    let same = ok_is ((first.0.0, second.0.0), second.0.1) pair.0 second.2 in
    let last = ok_is (pair.0.0.1, pair.0.1) x pair.2 in
    let p : length second.0.1 ≡ length pair.0.1 = ap (λ w. length w.1) same in
    let q : length pair.0.1 ≡ length x.1 = ap (λ w. length w.1) last in
    omega (arith, a, b, p, q)

-- the reader of a form that the next token decides, and that isn't empty, takes a token at least
pub eats : {T V : Type 0} (code : T → ℕ) (line : Form T V V) (opens : List ℕ) → IsLine code line opens
    → (room : ℕ) {A : Type 0} (f : Form T V A) → decides opens f ≡ true → can_be_empty f ≡ false
    → Eats (read code opens (read_deep code line opens room) f)
eats code line opens is room f d full ts x e = consumes (deep_exact code line opens is room f d) ts x full e
