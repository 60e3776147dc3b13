-- What reading gives is what a parser says.
use Rattle.cam_base.proofs.Common.{Err, Fails, FileStops, Form, Gives, IfOk, IsFileOf, IsPartOf, List, Ok, PartStops, ReadError, Reader, Result, Spelled, Spells, Stop, TooDeep, Unexpected, Why, [], ap, append_assoc, arith, decides, deep, drop}
use Rattle.cam_base.proofs.Common.{drop_at, false, further, inl, inr, length, length-append, length-drop, read, read_deep, refl, rules, starts, subst, sym, take, take-append-drop, true, whole, ℕ, ◌++◌, ◌+◌, ◌-◌, ◌∙◌, ◌≡◌, ◌≤◌}
use Rattle.cam_base.specs.declared.grammar_error.ReadError.TheVariants as errors
use Rattle.cam_base.proofs.Laws.{ok_is, ok_is_not_err, err_is}
use Rattle.cam_base.proofs.Depth.{IsLine}
use Rattle.cam_base.proofs.Theorems.{starts_none, too_deep_is_not, found, only, first_fault, deep_fault, whole_found, whole_only, whole_none, whole_fault, whole_deep}

module _ {T V : Type 0} (code : T → ℕ) (line : Form T V V) (opens : List ℕ) (is : IsLine code line opens) {A : Type 0}
    (f : Form T V A) (d : decides opens f ≡ true) (limit : ℕ) (ts : List T) where
  abbrev reading : Reader T A
  reading = read code opens (read_deep code line opens limit) f

  pub file_stops : (w : Why) (left : ℕ) → whole reading ts ≡ Err (record { why = w; left = left })
      → FileStops code line f limit ts w left
  file_stops Unexpected left e = (
    whole_fault code line opens is f d limit ts _ e refl,
    whole_none code line opens is f d
        limit ts _ e refl,
  )
  file_stops TooDeep left e = whole_deep code line opens is f d limit ts _ e refl

  pub file_error : {X : Type 0} (view : X → A) (e : ReadError) → Fails e (whole reading ts)
      → IsFileOf code line f limit ts view (Err e)
  file_error view errors.NoMemory g = tt
  file_error view (errors.Stop stop) g = file_stops stop.why stop.left g

  pub file_of : {X : Type 0} (view : X → A) (result : Result X ReadError) → Gives view result (whole reading ts)
      → IsFileOf code line f limit ts view result
  file_of view (Ok x) g = whole_found code line opens is f d limit ts (view x) g
  file_of view (Err e) g = file_error view e g

  pub only_file : {X : Type 0} (view : X → A) (result : Result X ReadError) → Gives view result (whole reading ts) → (x : A)
      → Spelled code line f x ts → IfOk result (λ y. view y ≡ x)
  only_file view (Ok y) g x s = elim (whole_only code line opens is f d limit x ts s) [
    | inl h ↦ ok_is_not_err (view y) h.0 (sym g ∙ h.1)
    | inr h ↦ ok_is (view y) x (sym g ∙ h)
  ]
  only_file view (Err e) g x s = tt

  module _ (closed : further opens f ≡ []) where
    no_part : (left : ℕ) → reading ts ≡ Err (record { why = Unexpected; left = left }) → (x : A) (a rest : List T)
        → ts ≡ a ++ rest → Spelled code line f x a → ⊥
    no_part left e x a rest p s =
        let e' : reading (a ++ rest) ≡ Err (record { why = Unexpected; left = left }) =
        subst (λ (us : List T). reading us ≡ Err (record { why = Unexpected; left = left })) p e in
        elim (only code line opens is f d limit x a rest s (subst (λ (cs : List ℕ). starts code cs rest ≡ false) (sym closed)
        (starts_none code rest))) [
          | inl h ↦ too_deep_is_not (sym h.2 ∙ ap (λ (c : Stop). c.why) (err_is {A = A × List T} h.0 _ (sym h.1 ∙ e')))
          | inr h ↦ ok_is_not_err (x, rest) _ (sym h ∙ e')
        ]

    pub part_stops : (w : Why) (left : ℕ) → reading ts ≡ Err (record { why = w; left = left })
        → PartStops code line f limit ts w left
    part_stops Unexpected left e = (first_fault code line opens is f d limit ts _ e refl, no_part left e)
    part_stops TooDeep left e = deep_fault code line opens is f d limit ts _ e refl

    pub part_error : {X : Type 0} (view : X → A × List T) (e : ReadError) → Fails e (reading ts)
        → IsPartOf code line f limit ts view (Err e)
    part_error view errors.NoMemory g = tt
    part_error view (errors.Stop stop) g = part_stops stop.why stop.left g

    pub part_of : {X : Type 0} (view : X → A × List T) (result : Result X ReadError) → Gives view result (reading ts)
        → IsPartOf code line f limit ts view result
    part_of view (Ok x) g = found code line opens is f d limit ts (view x) g
    part_of view (Err e) g = part_error view e g

-- the end of a list, by its length
end_of : {T : Type 0} (front a rest : List T) → drop (length (front ++ (a ++ rest)) - length rest) (front ++ (a ++ rest)) ≡ rest
end_of front a rest =
    let n : length (front ++ a) ≡ length (front ++ (a ++ rest)) - length rest =
    omega (arith, length-append front a, length-append front (a ++ rest), length-append a rest) in
    subst (λ ts. drop (length (front ++ (a ++ rest)) - length rest) ts ≡ rest) (append_assoc front a rest)
    (drop_at (front ++ a) rest (length (front ++ (a ++ rest)) - length rest) n)

-- the rest behind a part that begins at a position
pub rest_is : {T : Type 0} (ts : List T) (at : ℕ) (a rest : List T) → drop at ts ≡ a ++ rest
    → drop (length ts - length rest) ts ≡ rest
rest_is ts at a rest e =
    let whole : take at ts ++ (a ++ rest) ≡ ts = ap (λ w. take at ts ++ w) (sym e) ∙ take-append-drop at ts in
    subst (λ w. drop (length w - length rest) w ≡ rest) whole (end_of (take at ts) a rest)

module _ {T V : Type 0} (code : T → ℕ) (line : Form T V V) (opens : List ℕ) (is : IsLine code line opens) {A : Type 0}
    (f : Form T V A) (d : decides opens f ≡ true) (limit : ℕ) (ts : List T) (at : ℕ) where
  -- a part that begins at a position leaves no more than all tokens
  pub ends_within : (x : A) (rest : List T) → read code opens (read_deep code line opens limit) f (drop at ts) ≡ Ok (x, rest)
      → length rest ≤ length ts
  ends_within x rest e =
      let s = found code line opens is f d limit (drop at ts) (x, rest) e in
      let p : length (drop at ts) ≡ length (s.0 ++ rest) = ap length s.1 in
      omega (arith, length-append s.0 rest, length-drop at ts)

  -- and ends at a position
  pub part_at : (x : A) (rest : List T) → read code opens (read_deep code line opens limit) f (drop at ts) ≡ Ok (x, rest)
      → (a : List T) × (drop at ts ≡ a ++ drop (length ts - length rest) ts) × Spells code (deep code line limit) f x a
  part_at x rest e = search (rules, found, rest_is)
