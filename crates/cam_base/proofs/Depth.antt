-- Readers that go to different depths, and what they keep.
use Rattle.cam_base.proofs.Common.{As, Begins, Bool, Each, Err, Form, Give, List, Many, Meaning, Nested, Ok, One, Or, Reader, Result, Spells, Starts, Stop, Then, TooDeep, Unexpected, [], among, ap, arith, can_be_empty, cases_Bool, decides, deep}
use Rattle.cam_base.proofs.Common.{either, false, first, further, guarded, inl, inr, left, length, read, refl, rules, starts, subst, suc, suc-add, sym, times, too_deep, true, zero, zero-add, ℕ, ◌++◌, ◌+◌, ◌>>=◌, ◌∙◌, ◌∷◌, ◌≡◌, ◌≤◌, ◌⊎◌}
use Rattle.cam_base.specs.Reading.{many, read_deep}
use Rattle.cam_base.proofs.TerminalCodes.{true_is_not_false}
use Rattle.cam_base.proofs.Laws.{IsRead, no_nil, failed, ok_is_not_err, err_is, shorter, spelled_starts}
use Rattle.cam_base.proofs.Whole.{Exact, exact}

-- ---- what is spelled or begun stays so

Each-map : {A T : Type 0} (P Q : A → List T → Type 0) → ((x : A) (ts : List T) → P x ts → Q x ts) → (xs : List A) (ts : List T)
    → Each P xs ts → Each Q xs ts
Each-map P Q h [] ts e = e
Each-map P Q h (x ∷ xs) ts e = (e.0, e.1, e.2, h x e.0 e.3, Each-map P Q h xs e.1 e.4)

module _ {T V : Type 0} (code : T → ℕ) (m m' : Meaning T V) (up : (v : V) (ts : List T) → m.spells v ts → m'.spells v ts) where
  pub spells_up : {A : Type 0} (f : Form T V A) (x : A) (ts : List T) → Spells code m f x ts → Spells code m' f x ts
  spells_up (Give y) x ts s = s
  spells_up (One cs) x ts s = s
  spells_up (Then f g) x ts s = (s.0, s.1, s.2, spells_up f x.0 s.0 s.3, spells_up g x.1 s.1 s.4)
  spells_up (Or f g) x ts s = elim s [ inl s ↦ inl (spells_up f x ts s) | inr s ↦ inr (spells_up g x ts s) ]
  spells_up (Many f) x ts s = Each-map (Spells code m f) (Spells code m' f) (spells_up f) x ts s
  spells_up (As h f) x ts s = (s.0, s.1, spells_up f s.0 ts s.2)
  spells_up (Starts cs f) x ts s = spells_up f x ts s
  spells_up Nested x ts s = up x ts s

  module _ (also : (ts : List T) → m.begins ts → m'.begins ts) where
    pub begins_up : {A : Type 0} (f : Form T V A) (ts : List T) → Begins code m f ts → Begins code m' f ts
    begins_up (Give y) ts s = s
    begins_up (One cs) ts s = s
    begins_up (Then f g) ts s = elim s [
      | inl s ↦ inl (begins_up f ts s)
      | inr s ↦
          inr (s.0, s.1, s.2, s.3, spells_up f s.0 s.1 s.4, begins_up g s.2 s.5)
    ]
    begins_up (Or f g) ts s = elim s [ inl s ↦ inl (begins_up f ts s) | inr s ↦ inr (begins_up g ts s) ]
    begins_up (Many f) ts s = (
      s.0,
      s.1,
      s.2,
      s.3,
      Each-map (Spells code m f) (Spells code m' f) (spells_up f) s.0 s.1 s.4,
      begins_up f s.2 s.5,
    )
    begins_up (As h f) ts s = begins_up f ts s
    begins_up (Starts cs f) ts s = begins_up f ts s
    begins_up Nested ts s = also ts s

-- the empty list begins every form
pub begins_nil : {T V A : Type 0} (code : T → ℕ) (m : Meaning T V) → m.begins [] → (f : Form T V A) → Begins code m f []
begins_nil code m h (Give y) = refl
begins_nil code m h (One cs) = inl refl
begins_nil code m h (Then f g) = inl (begins_nil code m h f)
begins_nil code m h (Or f g) = inl (begins_nil code m h f)
begins_nil code m h (Many f) = ([], [], [], refl, refl, begins_nil code m h f)
begins_nil code m h (As g f) = begins_nil code m h f
begins_nil code m h (Starts cs f) = begins_nil code m h f
begins_nil code m h Nested = h

-- ---- deeper readers read the same, or go on

abbrev pub Agree : {X : Type 0} → Result X Stop → Result X Stop → Type 0
Agree v w = ((e : Stop) × (v ≡ Err e) × (e.why ≡ TooDeep)) ⊎ (v ≡ w)

bind_agree : {A B : Type 0} (v w : Result A Stop) (f g : A → Result B Stop) → Agree v w → ((x : A) → Agree (f x) (g x))
    → Agree (v >>= f) (w >>= g)
bind_agree v w f g (inl h) each = inl (h.0, rw h.1 refl, h.2)
bind_agree (Ok x) w f g (inr h) each = rw (← h) (each x)
bind_agree (Err d) w f g (inr h) each = inr (rw (← h) refl)

module _ {T : Type 0} (code : T → ℕ) where
  either_agree : {A : Type 0} (cs : List ℕ) (r r' q q' : Reader T A) (ts : List T) → Agree (r ts) (r' ts) → Agree (q ts) (q' ts)
      → Agree (either code cs r q ts) (either code cs r' q' ts)
  either_agree cs r r' q q' ts a b = search (rules, cases_Bool)

  times_agree : {A : Type 0} (n : ℕ) (cs : List ℕ) (r r' : Reader T A) → ((ts : List T) → Agree (r ts) (r' ts)) → (ts : List T)
      → Agree (times code n cs r ts) (times code n cs r' ts)
  times_agree zero cs r r' h ts = inr refl
  times_agree (suc n) cs r r' h ts = elim (cases_Bool (starts code cs ts)) [
    | inl k ↦
        rw k (bind_agree (r ts) (r' ts) _ _ (h ts) (λ x. bind_agree (times code n cs r x.1) (times code n cs r' x.1) _ _
        (times_agree n cs r r' h x.1) (λ xs. inr refl)))
    | inr k ↦ rw k (inr refl)
  ]

  many_agree : {A : Type 0} (cs : List ℕ) (r r' : Reader T A) → ((ts : List T) → Agree (r ts) (r' ts)) → (ts : List T)
      → Agree (many code cs r ts) (many code cs r' ts)
  unfolding many
  many_agree cs r r' h ts = times_agree (length ts) cs r r' h ts

module _ {T V : Type 0} (code : T → ℕ) (opens : List ℕ) (r r' : Reader T V) (same : (ts : List T) → Agree (r ts) (r' ts)) where
  read_agree : {A : Type 0} (f : Form T V A) (ts : List T) → Agree (read code opens r f ts) (read code opens r' f ts)
  read_agree (Give y) ts = inr refl
  read_agree (One cs) ts = inr refl
  read_agree (Then f g) ts = bind_agree _ _ _ _ (read_agree f ts) (λ x. bind_agree _ _ _ _ (read_agree g x.1) (λ y. inr refl))
  read_agree (Or f g) ts = either_agree code (first opens f) (read code opens r f) (read code opens r' f) (read code opens r g)
      (read code opens r' g) ts (read_agree f ts) (read_agree g ts)
  read_agree (Many f) ts = many_agree code (first opens f) (read code opens r f) (read code opens r' f) (read_agree f) ts
  read_agree (As h f) ts = bind_agree _ _ _ _ (read_agree f ts) (λ x. inr refl)
  read_agree (Starts cs f) ts = read_agree f ts
  read_agree Nested ts = same ts

-- ---- the recursive line, at each depth

pub left_is : {A : Type 0} (d e : Stop) → failed {A = A} d ≡ Err e → e.left ≡ d.left
left_is {A = A} d e h = sym (ap (λ (f : Stop). f.left) (err_is {A = A} d e h))

module _ {T A : Type 0} (code : T → ℕ) {S : A → List T → Type 0} {B : List T → Type 0} {fs : List ℕ} {r : Reader T A}
    (f : IsRead code S B false fs [] r) where
  guard_on : (ts : List T) → starts code fs ts ≡ true → guarded code fs r ts ≡ r ts
  guard_on ts h = rw h refl

  guard_off : (ts : List T) → starts code fs ts ≡ false
      → guarded code fs r ts ≡ Err (record { why = Unexpected; left = length ts })
  guard_off ts h = rw h refl

  guard_complete : (x : A) (a rest : List T) → S x a → guarded code fs r (a ++ rest) ≡ Ok (x, rest)
  guard_complete x [] rest s = true_is_not_false false (f.null x s) refl
  guard_complete x (t ∷ a) rest s = guard_on (t ∷ a ++ rest) (spelled_starts f x t a s) ∙ f.complete x (t ∷ a) rest s (none rest)
    where
      none : (us : List T) → starts code [] us ≡ false
      none [] = refl
      none (u ∷ us) = refl

  guard_shorter : (ts : List T) → left (guarded code fs r ts) ≤ length ts
  guard_shorter ts = elim (cases_Bool (starts code fs ts)) [
    | inl h ↦ rw (guard_on ts h) (shorter f ts)
    | inr h ↦ rw (guard_off ts h) (omega arith)
  ]

  guard_passes : (b more : List T) → B b → left (guarded code fs r (b ++ more)) ≤ length more
  guard_passes [] more h = guard_shorter more
  guard_passes (t ∷ b) more h = rw (guard_on (t ∷ b ++ more) (f.head t b h)) (f.passes (t ∷ b) more h)

  IsRead-guard : IsRead code S B false fs [] (guarded code fs r)
  IsRead-guard = record {
    sound = λ ts x e. elim (cases_Bool (starts code fs ts)) [
      | inl h ↦ f.sound ts x (sym (guard_on ts h) ∙ e)
      | inr h ↦ ok_is_not_err x (record { why = Unexpected; left = length ts }) (sym e ∙ guard_off ts h)
    ];
    complete = λ x a rest s h. guard_complete x a rest s;
    stops = λ ts e k. elim (cases_Bool (starts code fs ts)) [
      | inl h ↦ f.stops ts e (sym (guard_on ts h) ∙ k)
      | inr h ↦ (
        [],
        ts,
        refl,
        f.nil,
        left_is {A = A × List T} (record { why = Unexpected; left = length ts }) e
            (sym (guard_off ts h) ∙ k),
      )
    ];
    passes = guard_passes;
    begun = f.begun;
    head = f.head;
    nil = f.nil;
    null = f.null;
  }

pub IsRead-none : {T A : Type 0} (code : T → ℕ) (cs : List ℕ) → IsRead code (λ (x : A) (ts : List T). ⊥) (λ ts. ts ≡ []) false
    cs [] too_deep
IsRead-none {T} {A} code cs = record {
  sound = λ ts x e. ok_is_not_err x (record { why = TooDeep; left = length ts }) (sym e);
  complete = λ x a rest s h. absurd s;
  stops = λ ts e k. ([], ts, refl, refl, left_is {A = A × List T} (record { why = TooDeep; left = length ts }) e k);
  passes = λ b more h. rw h (omega arith);
  begun = λ x a s. absurd s;
  head = λ t b h. no_nil t b h;
  nil = refl;
  null = λ x s. absurd s;
}

-- what is asked of a recursive line: the next token decides it, it begins with these codes, and it ends by itself
pub record IsLine {T V : Type 0} (code : T → ℕ) (line : Form T V V) (opens : List ℕ) : Type 1 where
  pub decided : decides opens line ≡ true
  pub full : can_be_empty line ≡ false
  pub first_is : first opens line ≡ opens
  pub closed : further opens line ≡ []
  pub opening : (t : T) → among opens (code t) ≡ true → Begins code (deep code line 0) line (t ∷ [])

module _ {T V : Type 0} (code : T → ℕ) (line : Form T V V) (opens : List ℕ) (is : IsLine code line opens) where
  pub nested_exact : (n : ℕ) → IsRead code (deep code line n).spells (deep code line n).begins false opens []
      (read_deep code line opens n)
  unfolding read_deep
  nested_exact zero = IsRead-guard code (IsRead-none code opens)
  nested_exact (suc n) =
      let S = Spells code (deep code line n) line in
      let B = Begins code (deep code line n) line in
      let r = read code opens (read_deep code line opens n) line in
      let a = exact code (deep code line n) opens (read_deep code line opens n) (nested_exact n) line is.decided in
      let b = subst (λ (e : Bool). IsRead code S B e (first opens line) (further opens line) r) is.full a in
      let c = subst (λ (cs : List ℕ). IsRead code S B false cs (further opens line) r) is.first_is b in
      IsRead-guard code (subst (λ (cs : List ℕ). IsRead code S B false opens cs r) is.closed c)

  -- a form that the next token decides is read exactly at each depth
  pub deep_exact : (n : ℕ) {A : Type 0} (f : Form T V A) → decides opens f ≡ true
      → Exact code (deep code line n) opens (read_deep code line opens n) f
  deep_exact n f d = exact code (deep code line n) opens (read_deep code line opens n) (nested_exact n) f d

  guarded_agree : (r q : Reader T V) (ts : List T) → Agree (r ts) (q ts)
      → Agree (guarded code opens r ts) (guarded code opens q ts)
  guarded_agree r q ts h = elim (cases_Bool (starts code opens ts)) [ inl k ↦ rw k h | inr k ↦ rw k (inr refl) ]

  nested_agree : (n k : ℕ) (ts : List T) → Agree (read_deep code line opens n ts) (read_deep code line opens (n + k) ts)
  unfolding read_deep
  nested_agree zero zero ts = inr refl
  nested_agree zero (suc k) ts =
      rw (zero-add (suc k)) (guarded_agree too_deep (read code opens (read_deep code line opens k) line) ts
      (inl (record { why = TooDeep; left = length ts }, refl, refl)))
  nested_agree (suc n) k ts =
      rw (suc-add n k) (guarded_agree (read code opens (read_deep code line opens n) line)
      (read code opens (read_deep code line opens (n + k)) line) ts
      (read_agree code opens (read_deep code line opens n) (read_deep code line opens (n + k)) (nested_agree n k) line ts))

  pub deep_agree : (n k : ℕ) {A : Type 0} (f : Form T V A) (ts : List T)
      → Agree (read code opens (read_deep code line opens n) f ts) (read code opens (read_deep code line opens (n + k)) f ts)
  deep_agree n k f ts = read_agree code opens (read_deep code line opens n) (read_deep code line opens (n + k))
      (nested_agree n k) f ts

  pub nested_up : (n k : ℕ) (v : V) (ts : List T) → (deep code line n).spells v ts → (deep code line (n + k)).spells v ts
  nested_up zero k v ts s = absurd s
  nested_up (suc n) k v ts s =
      rw (suc-add n k) (spells_up code (deep code line n) (deep code line (n + k)) (nested_up n k) line v ts s)

  pub nested_nil : (n : ℕ) → (deep code line n).begins []
  nested_nil zero = refl
  nested_nil (suc n) = begins_nil code (deep code line n) (nested_nil n) line

  nested_begins_up : (n k : ℕ) (ts : List T) → (deep code line n).begins ts → (deep code line (n + k)).begins ts
  nested_begins_up zero k ts s = rw s (nested_nil (zero + k))
  nested_begins_up (suc n) k ts s = rw (suc-add n k) (begins_up code (deep code line n) (deep code line (n + k)) (nested_up n k)
      (nested_begins_up n k) line ts s)

  -- what is spelled or begun stays so with more depth
  pub deep_spells : (n k : ℕ) {A : Type 0} (f : Form T V A) (x : A) (ts : List T) → Spells code (deep code line n) f x ts
      → Spells code (deep code line (n + k)) f x ts
  deep_spells n k f x ts s = spells_up code (deep code line n) (deep code line (n + k)) (nested_up n k) f x ts s

  pub deep_begins : (n k : ℕ) {A : Type 0} (f : Form T V A) (ts : List T) → Begins code (deep code line n) f ts
      → Begins code (deep code line (n + k)) f ts
  deep_begins n k f ts s = begins_up code (deep code line n) (deep code line (n + k)) (nested_up n k)
      (nested_begins_up n k) f ts s
