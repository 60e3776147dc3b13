-- There is one place at which the tokens stop being those of a form, and one reason.
use Rattle.cam_base.proofs.Common.{Begins, Begun, FileStops, Form, IsSyntaxError, IsTooDeep, List, PartStops, Spells, TooDeep, Unexpected, Why, [], ap, append-nil, append_assoc, append_cancel_left, deep, inl, inr, length, refl, subst, sym, ℕ, ◌++◌}
use Rattle.cam_base.proofs.Common.{◌∙◌, ◌∷◌, ◌≡◌}
use Rattle.cam_base.proofs.GrammarFronts.{cut, head_is, deep_front, deep_begun}

module _ {T V A : Type 0} (code : T → ℕ) (line : Form T V V) (f : Form T V A) (limit : ℕ) (ts : List T) where
  -- the tokens before the place begin the form within the limit, and with the next token no more
  record IsEdge (left : ℕ) : Type 0 where
    before : List T
    after : List T
    parts : ts ≡ before ++ after
    at : length after ≡ left
    within : Begins code (deep code line limit) f before
    past : (t : T) (more : List T) → after ≡ t ∷ more → Begins code (deep code line limit) f (before ++ t ∷ []) → ⊥

  abbrev error_edge : (left : ℕ) → IsSyntaxError code line f limit ts left → IsEdge left
  error_edge left p = record {
    before = p.before;
    after = p.after;
    parts = p.parts;
    at = p.at;
    within = p.within;
    past = λ t more e b. p.no_further t more e (limit, b);
  }

  abbrev deep_edge : (left : ℕ) → IsTooDeep code line f limit ts left → IsEdge left
  deep_edge left p = record {
    before = p.before;
    after = p.token ∷ p.after;
    parts = p.parts;
    at = p.at;
    within = p.within;
    past = λ t more e b. p.past (subst (λ (u : T). Begins code (deep code line limit) f (p.before ++ u ∷ []))
        (sym (head_is p.token t p.after more e)) b);
  }

  -- no edge lies behind another
  behind : (m n : ℕ) (p : IsEdge m) (q : IsEdge n) (c : List T) → p.before ≡ q.before ++ c → q.after ≡ c ++ p.after
      → p.before ≡ q.before
  behind m n p q [] e g = e ∙ append-nil q.before
  behind m n p q (t ∷ c) e g =
      absurd
      (q.past t (c ++ p.after) g (deep_front code line limit f (q.before ++ t ∷ []) c
      (subst (Begins code (deep code line limit) f) (e ∙ sym (append_assoc q.before (t ∷ []) c)) p.within)))

  edge_is_one : (m n : ℕ) (p : IsEdge m) (q : IsEdge n) → p.before ≡ q.before
  edge_is_one m n p q = elim (cut p.before p.after q.before q.after (sym p.parts ∙ q.parts)) [
    | inl c ↦ behind m n p q c.0 c.1 c.2
    | inr c ↦ sym (behind n m q p c.0 c.1 c.2)
  ]

  after_is_one : (m n : ℕ) (p : IsEdge m) (q : IsEdge n) → p.after ≡ q.after
  after_is_one m n p q = append_cancel_left p.before p.after q.after (sym p.parts ∙ q.parts ∙ ap (λ (b : List T). b ++ q.after)
      (sym (edge_is_one m n p q)))

  left_is_one : (m n : ℕ) → IsEdge m → IsEdge n → m ≡ n
  left_is_one m n p q = sym p.at ∙ ap length (after_is_one m n p q) ∙ q.at

  error_is_not_deep : {C : Type 0} (m n : ℕ) → IsSyntaxError code line f limit ts m → IsTooDeep code line f limit ts n → C
  error_is_not_deep m n p q = absurd (p.no_further q.token q.after (after_is_one m n (error_edge m p) (deep_edge n q))
      (subst (λ (b : List T). Begun code line f (b ++ q.token ∷ [])) (sym (edge_is_one m n (error_edge m p) (deep_edge n q)))
      q.begun))

  -- a file stops at one place, for one reason
  pub file_stops_once : (v w : Why) (m n : ℕ) → FileStops code line f limit ts v m → FileStops code line f limit ts w n
      → (v ≡ w) × (m ≡ n)
  file_stops_once Unexpected Unexpected m n p q = (refl, left_is_one m n (error_edge m p.0) (error_edge n q.0))
  file_stops_once Unexpected TooDeep m n p q = error_is_not_deep m n p.0 q
  file_stops_once TooDeep Unexpected m n p q = error_is_not_deep n m q.0 p
  file_stops_once TooDeep TooDeep m n p q = (refl, left_is_one m n (deep_edge m p) (deep_edge n q))

  -- and so does a part
  pub part_stops_once : (v w : Why) (m n : ℕ) → PartStops code line f limit ts v m → PartStops code line f limit ts w n
      → (v ≡ w) × (m ≡ n)
  part_stops_once Unexpected Unexpected m n p q = (refl, left_is_one m n (error_edge m p.0) (error_edge n q.0))
  part_stops_once Unexpected TooDeep m n p q = error_is_not_deep m n p.0 q
  part_stops_once TooDeep Unexpected m n p q = error_is_not_deep n m q.0 p
  part_stops_once TooDeep TooDeep m n p q = (refl, left_is_one m n (deep_edge m p) (deep_edge n q))

  -- ---- where a value is spelled, the tokens do not stop

  -- a front of what is spelled within the limit begins the form within it
  pub spelled_front : (x : A) (a b : List T) → Spells code (deep code line limit) f x (a ++ b)
      → Begins code (deep code line limit) f a
  spelled_front x a b s = deep_front code line limit f a b (deep_begun code line limit f x (a ++ b) s)

  pub file_goes_on : (x : A) (why : Why) (left : ℕ) → Spells code (deep code line limit) f x ts
      → FileStops code line f limit ts why left → ⊥
  file_goes_on x Unexpected left s p = p.1 x (limit, s)
  file_goes_on x TooDeep left s p =
      let parts : ts ≡ (p.before ++ p.token ∷ []) ++ p.after = p.parts ∙ sym (append_assoc p.before (p.token ∷ []) p.after) in
      p.past (spelled_front x (p.before ++ p.token ∷ []) p.after (subst (Spells code (deep code line limit) f x) parts s))
