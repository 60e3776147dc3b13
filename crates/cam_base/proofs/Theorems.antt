-- What reading a form says of all tokens, and of the tokens from a place on.
use Rattle.cam_base.proofs.Common.{As, Begins, Each, Err, Form, Give, IsSyntaxError, IsTooDeep, List, Many, Meaning, Nested, Ok, One, Or, Reader, Spelled, Spells, Starts, Stop, Then, TooDeep, Unexpected, [], add-one, add_comm, and_parts, ap}
use Rattle.cam_base.proofs.Common.{apart, append-nil, append_assoc, append_cancel_right, arith, both, can_be_empty, cases_Bool, decides, deep, either, ended, false, first, further, guarded, inl, inr, left, length, length-append, mapped, not, one}
use Rattle.cam_base.proofs.Common.{read, refl, rules, same, starts, subst, suc, sym, times, too_deep, true, whole, zero, ℕ, ◌&&◌, ◌++◌, ◌+◌, ◌>>=◌, ◌∙◌, ◌∷◌, ◌≡◌, ◌≤◌, ◌⊎◌}
use Rattle.cam_base.specs.Reading.{many, read_deep}
use Rattle.cam_base.proofs.TerminalCodes.{if_true, if_false}
use Rattle.cam_base.proofs.Laws.{IsRead, bind_ok, bind_err, ok_is, ok_is_not_err, err_is, why_is}
use Rattle.cam_base.proofs.Repeats.{times_none, times_more}
use Rattle.cam_base.proofs.Whole.{exact}
use Rattle.cam_base.proofs.Depth.{IsLine, spells_up, nested_exact, deep_exact, deep_agree, deep_spells, deep_begins, nested_up, left_is}

pub starts_none : {T : Type 0} (code : T → ℕ) (us : List T) → starts code [] us ≡ false
starts_none code [] = refl
starts_none code (u ∷ us) = refl

pub too_deep_is_not : {C : Type 0} → TooDeep ≡ Unexpected → C
too_deep_is_not e = absurd cc

-- where a reader says that it is too deep, the tokens up to and with that one begin a deeper form
abbrev Past : {T A : Type 0} → (List T → Type 0) → Reader T A → Type 0
Past {T} B r = (ts : List T) (e : Stop) → r ts ≡ Err e → e.why ≡ TooDeep → (a : List T) × (t : T) × (rest : List T)
    × (ts ≡ a ++ t ∷ rest) × B (a ++ t ∷ []) × (e.left ≡ suc (length rest))

module _ {T : Type 0} (code : T → ℕ) where
  one_past : (cs : List ℕ) (B : List T → Type 0) → Past B (one code cs)
  one_past cs B [] e h w = too_deep_is_not (sym w ∙ why_is {A = T × List T} _ e h)
  one_past cs B (t ∷ ts) e h w = search (rules, cases_Bool, ok_is_not_err, if_true, too_deep_is_not, why_is, if_false)

  guarded_past : {A : Type 0} (cs : List ℕ) (B : List T → Type 0) (r : Reader T A) → ((ts : List T) → starts code cs ts ≡ true
      → (e : Stop) → r ts ≡ Err e → e.why ≡ TooDeep → (a : List T) × (t : T) × (rest : List T) × (ts ≡ a ++ t ∷ rest)
      × B (a ++ t ∷ []) × (e.left ≡ suc (length rest))) → Past B (guarded code cs r)
  guarded_past {A = A} cs B r h ts e k w = elim (cases_Bool (starts code cs ts)) [
    | inl g ↦ h ts g e (sym (if_true (starts code cs ts) (r ts) _ g) ∙ k) w
    | inr g ↦ too_deep_is_not (sym w ∙ why_is {A = A × List T} _ e (sym (if_false (starts code cs ts) (r ts) _ g) ∙ k))
  ]

  then_past : {A B : Type 0} (S' : A → List T → Type 0) (B1 B2 : List T → Type 0) (r : Reader T A) (q : Reader T B)
      → ((ts : List T) (x : A × List T) → r ts ≡ Ok x → (a : List T) × (ts ≡ a ++ x.1) × S' x.0 a) → Past B1 r → Past B2 q
      → Past (λ ts. B1 ts ⊎ ((x : A) × (a : List T) × (b : List T) × (ts ≡ a ++ b) × S' x a × B2 b)) (both code r q)
  then_past S' B1 B2 r q sound p p' ts e h w = elim (bind_err (r ts) (λ x. q x.1 >>= λ y. Ok ((x.0, y.0), y.1)) e h) [
    | inl k ↦ let z = p ts e k w in (z.0, z.1, z.2, z.3, inl z.4, z.5)
    | inr b ↦ elim (bind_err (q b.0.1) (λ y. Ok ((b.0.0, y.0), y.1)) e b.2) [
      | inl k ↦
          let s = sound ts b.0 b.1 in
          let z = p' b.0.1 e k w in (
            s.0 ++ z.0,
            z.1,
            z.2,
            s.1 ∙ ap (λ (v : List T). s.0 ++ v) z.3 ∙ sym (append_assoc s.0 z.0 (z.1 ∷ z.2)),
            inr (b.0.0, s.0, z.0 ++ z.1 ∷ [], append_assoc s.0 z.0 (z.1 ∷ []), s.2, z.4),
            z.5,
          )
      | inr c ↦ ok_is_not_err ((b.0.0, c.0.0), c.0.1) e c.2
    ]
  ]

  times_past : {A : Type 0} (S' : A → List T → Type 0) (B : List T → Type 0) (cs : List ℕ) (r : Reader T A)
      → ((ts : List T) (x : A × List T) → r ts ≡ Ok x → (a : List T) × (ts ≡ a ++ x.1) × S' x.0 a) → Past B r
      → (n : ℕ) → Past (λ ts. (xs : List A) × (a : List T) × (b : List T) × (ts ≡ a ++ b) × Each S' xs a × B b)
      (times code n cs r)
  times_past S' B cs r sound p zero ts e h w = ok_is_not_err ([], ts) e h
  times_past S' B cs r sound p (suc n) ts e h w = elim (cases_Bool (starts code cs ts)) [
    | inl g ↦ elim (bind_err (r ts) (λ x. times code n cs r x.1 >>= λ xs. Ok (x.0 ∷ xs.0, xs.1)) e
        (sym (times_more code cs r n ts g) ∙ h)) [
          | inl k ↦ let z = p ts e k w in (z.0, z.1, z.2, z.3, ([], [], z.0 ++ z.1 ∷ [], refl, refl, z.4), z.5)
          | inr b ↦ elim (bind_err (times code n cs r b.0.1) (λ xs. Ok (b.0.0 ∷ xs.0, xs.1)) e b.2) [
            | inl k ↦
                let s = sound ts b.0 b.1 in
                let z = times_past S' B cs r sound p n b.0.1 e k w in
                let y = z.4 in (
                  s.0 ++ z.0,
                  z.1,
                  z.2,
                  s.1 ∙ ap (λ (v : List T). s.0 ++ v) z.3 ∙ sym (append_assoc s.0 z.0 (z.1 ∷ z.2)),
                  (
                    b.0.0 ∷ y.0,
                    s.0 ++ y.1,
                    y.2,
                    append_assoc s.0 z.0 (z.1 ∷ []) ∙ ap (λ (v : List T). s.0 ++ v) y.3
                        ∙ sym (append_assoc s.0 y.1 y.2),
                    (s.0, y.1, refl, s.2, y.4),
                    y.5,
                  ),
                  z.5,
                )
            | inr c ↦ ok_is_not_err (b.0.0 ∷ c.0.0, c.0.1) e c.2
          ]
        ]
    | inr g ↦ ok_is_not_err ([], ts) e (sym (times_none code cs r (suc n) ts g) ∙ h)
  ]

  many_past : {A : Type 0} (S' : A → List T → Type 0) (B : List T → Type 0) (cs : List ℕ) (r : Reader T A)
      → ((ts : List T) (x : A × List T) → r ts ≡ Ok x → (a : List T) × (ts ≡ a ++ x.1) × S' x.0 a) → Past B r
      → Past (λ ts. (xs : List A) × (a : List T) × (b : List T) × (ts ≡ a ++ b) × Each S' xs a × B b) (many code cs r)
  unfolding many
  many_past S' B cs r sound p ts e h w = times_past S' B cs r sound p (length ts) ts e h w

  map_past : {A B : Type 0} (h : A → B) (B1 : List T → Type 0) (r : Reader T A) → Past B1 r → Past B1 (mapped code h r)
  map_past h B1 r p ts e k w = search (rules, bind_err, ok_is_not_err)

  or_past : {A : Type 0} (cs : List ℕ) (B1 B2 : List T → Type 0) (r q : Reader T A) → Past B1 r → Past B2 q
      → Past (λ ts. B1 ts ⊎ B2 ts) (either code cs r q)
  or_past cs B1 B2 r q p p' ts e k w = search (rules, cases_Bool, if_true, if_false)

module _ {T V : Type 0} (code : T → ℕ) (m m' : Meaning T V) (up : (v : V) (ts : List T) → m.spells v ts → m'.spells v ts)
    (opens : List ℕ) (deeper : Reader T V)
    (nested : IsRead code m.spells m.begins false opens [] deeper) (past : Past m'.begins deeper) where
  sound_up : {A : Type 0} (f : Form T V A) → decides opens f ≡ true → (ts : List T) (x : A × List T)
      → read code opens deeper f ts ≡ Ok x → (a : List T) × (ts ≡ a ++ x.1) × Spells code m' f x.0 a
  sound_up f d ts x e = let s = (exact code m opens deeper nested f d).sound ts x e in
      (s.0, s.1, spells_up code m m' up f x.0 s.0 s.2)

  read_past : {A : Type 0} (f : Form T V A) → decides opens f ≡ true → Past (Begins code m' f) (read code opens deeper f)
  read_past (Give y) d = λ ts e h w. ok_is_not_err (y, ts) e h
  read_past (One cs) d = one_past code cs (Begins code m' (One cs))
  read_past (Then f g) d =
      let p = and_parts (decides opens f) (decides opens g && apart (further opens f) (first opens g)) d in
      let q = and_parts (decides opens g) (apart (further opens f) (first opens g)) p.1 in
      then_past code (Spells code m' f) (Begins code m' f) (Begins code m' g) (read code opens deeper f)
      (read code opens deeper g) (sound_up f p.0) (read_past f p.0) (read_past g q.0)
  read_past (Or f g) d =
      let p = and_parts (decides opens f) (decides opens g && (not (can_be_empty f) && apart (first opens f) (first opens g)))
      d in
      let q = and_parts (decides opens g) (not (can_be_empty f) && apart (first opens f) (first opens g)) p.1 in
      or_past code (first opens f) (Begins code m' f) (Begins code m' g) (read code opens deeper f) (read code opens deeper g)
      (read_past f p.0) (read_past g q.0)
  read_past (Many f) d =
      let p = and_parts (decides opens f) (not (can_be_empty f) && apart (further opens f) (first opens f)) d in
      many_past code (Spells code m' f) (Begins code m' f) (first opens f) (read code opens deeper f) (sound_up f p.0)
      (read_past f p.0)
  read_past (As h f) d = map_past code h (Begins code m' f) (read code opens deeper f) (read_past f d)
  read_past (Starts cs f) d = read_past f (and_parts (decides opens f) (not (can_be_empty f) && same cs (first opens f)) d).0
  read_past Nested d = past

module _ {T V : Type 0} (code : T → ℕ) (line : Form T V V) (opens : List ℕ) (is : IsLine code line opens) where
  step_up : (n : ℕ) (v : V) (ts : List T) → (deep code line n).spells v ts → (deep code line (suc n)).spells v ts
  step_up n v ts s = subst (λ (k : ℕ). (deep code line k).spells v ts) (add-one n) (nested_up code line opens is n 1 v ts s)

  nested_past : (n : ℕ) → Past (deep code line (suc n)).begins (read_deep code line opens n)
  unfolding read_deep
  nested_past zero = guarded_past code opens (deep code line 1).begins too_deep go
    where
      go : (ts : List T) → starts code opens ts ≡ true → (e : Stop) → too_deep {A = V} ts ≡ Err e → e.why ≡ TooDeep
          → (a : List T) × (t : T) × (rest : List T) × (ts ≡ a ++ t ∷ rest) × (deep code line 1).begins (a ++ t ∷ [])
          × (e.left ≡ suc (length rest))
      go [] g e k w = absurd cc
      go (t ∷ ts) g e k w = ([], t, ts, refl, is.opening t g, left_is {A = V × List T} _ e k)
  nested_past (suc n) = guarded_past code opens (deep code line (suc (suc n))).begins
      (read code opens (read_deep code line opens n) line)
      (λ ts g e k w. read_past code (deep code line n) (deep code line (suc n)) (step_up n) opens (read_deep code line opens n)
      (nested_exact code line opens is n) (nested_past n) line is.decided ts e k w)

  module _ {A : Type 0} (f : Form T V A) (d : decides opens f ≡ true) where
    abbrev at : ℕ → Reader T A
    at n = read code opens (read_deep code line opens n) f

    -- what is read is spelled so
    pub found : (limit : ℕ) (ts : List T) (x : A × List T) → at limit ts ≡ Ok x → (a : List T) × (ts ≡ a ++ x.1)
        × Spells code (deep code line limit) f x.0 a
    found limit ts x e = (deep_exact code line opens is limit f d).sound ts x e

    -- what is spelled so is read, unless it is too deep
    pub only : (limit : ℕ) (x : A) (a rest : List T) → Spelled code line f x a → starts code (further opens f) rest ≡ false
        → ((e : Stop) × (at limit (a ++ rest) ≡ Err e) × (e.why ≡ TooDeep)) ⊎ (at limit (a ++ rest) ≡ Ok (x, rest))
    only limit x a rest s h =
        let s' : Spells code (deep code line (limit + s.0)) f x a = subst (λ (k : ℕ). Spells code (deep code line k) f x a)
        (add_comm s.0 limit) (deep_spells code line opens is s.0 limit f x a s.1) in
        let all = (deep_exact code line opens is (limit + s.0) f d).complete x a rest s' h in
        elim (deep_agree code line opens is limit s.0 f (a ++ rest)) [ inl e ↦ inl e | inr e ↦ inr (e ∙ all) ]

    -- more depth reads the same, where the fault is not the depth
    same_deeper : (limit n : ℕ) (ts : List T) (e : Stop) → at limit ts ≡ Err e → e.why ≡ Unexpected → at (limit + n) ts ≡ Err e
    same_deeper limit n ts e h w = search (rules, deep_agree, too_deep_is_not, err_is)

    same_deeper_ok : (limit n : ℕ) (ts : List T) (x : A × List T) → at limit ts ≡ Ok x → at (limit + n) ts ≡ Ok x
    same_deeper_ok limit n ts x h = search (rules, deep_agree, ok_is_not_err)

    -- no deeper reader passes what begins no form
    stuck : (limit n : ℕ) (a : List T) (t : T) (more : List T) → left (at (limit + n) (a ++ t ∷ more)) ≡ suc (length more)
        → Begins code (deep code line n) f (a ++ t ∷ []) → ⊥
    stuck limit n a t more e b =
        let b' : Begins code (deep code line (limit + n)) f (a ++ t ∷ []) =
        subst (λ (k : ℕ). Begins code (deep code line k) f (a ++ t ∷ [])) (add_comm n limit)
        (deep_begins code line opens is n limit f (a ++ t ∷ []) b) in
        let p = (deep_exact code line opens is (limit + n) f d).passes (a ++ t ∷ []) more b' in
        let p' : left (at (limit + n) (a ++ t ∷ more)) ≤ length more =
        subst (λ (ts : List T). left (at (limit + n) ts) ≤ length more) (append_assoc a (t ∷ []) more) p in
        absurd (omega (arith, e, p'))

    -- the fault is the first one
    pub first_fault : (limit : ℕ) (ts : List T) (e : Stop) → at limit ts ≡ Err e → e.why ≡ Unexpected
        → IsSyntaxError code line f limit ts e.left
    first_fault limit ts e h w =
        let s = (deep_exact code line opens is limit f d).stops ts e h in
        record {
          before = s.0;
          after = s.1;
          parts = s.2;
          at = sym s.4;
          within = s.3;
          no_further = λ t more p b.
              let q : ts ≡ s.0 ++ t ∷ more = s.2 ∙ ap (λ (z : List T). s.0 ++ z) p in
              let k : left (at (limit + b.0) (s.0 ++ t ∷ more)) ≡ suc (length more) = rw (← q, same_deeper limit b.0 ts e h w)
              (s.4 ∙ ap length p) in
              stuck limit b.0 s.0 t more k b.1;
        }

    -- or the first one that is too deep
    pub deep_fault : (limit : ℕ) (ts : List T) (e : Stop) → at limit ts ≡ Err e → e.why ≡ TooDeep
        → IsTooDeep code line f limit ts e.left
    deep_fault limit ts e h w =
        let z = read_past code (deep code line limit) (deep code line (suc limit)) (step_up limit) opens
        (read_deep code line opens limit) (nested_exact code line opens is limit) (nested_past limit) f d ts e h w in
        let s = (deep_exact code line opens is limit f d).stops ts e h in
        let lengths : length s.1 ≡ suc (length z.2) = sym s.4 ∙ z.5 in
        record {
          before = z.0;
          token = z.1;
          after = z.2;
          parts = z.3;
          at = sym z.5;
          within = subst (Begins code (deep code line limit) f) (same_front s.0 z.0 s.1 (z.1 ∷ z.2) (sym s.2 ∙ z.3) lengths) s.3;
          begun = (suc limit, z.4);
          past = λ b.
              let p = (deep_exact code line opens is limit f d).passes (z.0 ++ z.1 ∷ []) z.2 b in
              let p' : left (at limit ts) ≤ length z.2 = subst (λ (ts : List T). left (at limit ts) ≤ length z.2)
              (append_assoc z.0 (z.1 ∷ []) z.2 ∙ sym z.3) p in
              let p'' : e.left ≤ length z.2 = (rw h at p') in
              absurd (omega (arith, z.5, p''));
        }
      where
        same_front : (a b c g : List T) → a ++ c ≡ b ++ g → length c ≡ length g → a ≡ b
        same_front [] [] c g p q = refl
        same_front [] (u ∷ b) c g p q = absurd (let k = ap length p in omega (arith, length-append b g))
        same_front (u ∷ a) [] c g p q = absurd (let k = ap length p in omega (arith, length-append a c))
        same_front (u ∷ a) (v ∷ b) c g p q =
            let h : u ≡ v = cc in
            let k : a ++ c ≡ b ++ g = cc in
            rw (h, same_front a b c g k q) refl

    -- no two forms begin one another, where a whole form goes on with nothing
    pub one_form : further opens f ≡ [] → (x y : A) (a b c g : List T) → Spelled code line f x a → Spelled code line f y b
        → a ++ c ≡ b ++ g → (x ≡ y) × (a ≡ b)
    one_form closed x y a b c g s s' e =
        let n : ℕ = s.0 + s'.0 in
        let exactly = deep_exact code line opens is n f d in
        let none : (us : List T) → starts code (further opens f) us ≡ false = λ us. rw closed (starts_none code us) in
        let p = exactly.complete x a c (deep_spells code line opens is s.0 s'.0 f x a s.1) (none c) in
        let q = exactly.complete y b g (subst (λ (k : ℕ). Spells code (deep code line k) f y b) (add_comm s'.0 s.0)
        (deep_spells code line opens is s'.0 s.0 f y b s'.1)) (none g) in
        let r : (x, c) ≡ (y, g) = ok_is (x, c) (y, g) (sym p ∙ ap (at n) e ∙ q) in
        let tails : c ≡ g = ap (λ (w : A × List T). w.1) r in
        (ap (λ (w : A × List T). w.0) r, append_cancel_right a b g (ap (λ (w : List T). a ++ w) (sym tails) ∙ e))

    -- ---- all tokens

    whole_ok : (x : A) (rest : List T) (y : A) → ended x rest ≡ Ok y → (rest ≡ []) × (x ≡ y)
    whole_ok x [] y e = (refl, ok_is x y e)
    whole_ok x (t ∷ us) y e = ok_is_not_err y _ (sym e)

    whole_err : (x : A) (rest : List T) (e : Stop) → ended x rest ≡ Err e → (t : T) × (us : List T) × (rest ≡ t ∷ us)
        × (e.left ≡ length rest) × (e.why ≡ Unexpected)
    whole_err x [] e h = ok_is_not_err x e h
    whole_err x (t ∷ us) e h = (
      t,
      us,
      refl,
      left_is {A = A} (record { why = Unexpected; left = length (t ∷ us) }) e h,
      why_is {A = A} (record { why = Unexpected; left = length (t ∷ us) }) e h,
    )

    pub whole_found : (limit : ℕ) (ts : List T) (x : A) → whole (at limit) ts ≡ Ok x → Spells code (deep code line limit) f x ts
    whole_found limit ts x e = search (rules, bind_ok, whole_ok, found, append-nil)

    pub whole_only : (limit : ℕ) (x : A) (ts : List T) → Spelled code line f x ts
        → ((e : Stop) × (whole (at limit) ts ≡ Err e) × (e.why ≡ TooDeep)) ⊎ (whole (at limit) ts ≡ Ok x)
    whole_only limit x ts s = elim (only limit x ts [] s refl) [
      | inl h ↦ let p : at limit ts ≡ Err h.0 = subst (λ (z : List T). at limit z ≡ Err h.0) (append-nil ts) h.1 in
          inl (h.0, rw p refl, h.2)
      | inr h ↦ let p : at limit ts ≡ Ok (x, []) = subst (λ (z : List T). at limit z ≡ Ok (x, [])) (append-nil ts) h in
          inr (rw p refl)
    ]

    -- where all tokens are not read, no value is spelled by them, or it is too deep
    pub whole_none : (limit : ℕ) (ts : List T) (e : Stop) → whole (at limit) ts ≡ Err e → e.why ≡ Unexpected → (x : A)
        → Spelled code line f x ts → ⊥
    whole_none limit ts e h w x s = elim (whole_only limit x ts s) [
      | inl k ↦ too_deep_is_not (sym k.2 ∙ ap (λ (c : Stop). c.why) (err_is {A = A} k.0 e (sym k.1 ∙ h)) ∙ w)
      | inr k ↦ ok_is_not_err x e (sym k ∙ h)
    ]

    pub whole_fault : (limit : ℕ) (ts : List T) (e : Stop) → whole (at limit) ts ≡ Err e → e.why ≡ Unexpected
        → IsSyntaxError code line f limit ts e.left
    whole_fault limit ts e h w = elim (bind_err (at limit ts) (λ x. ended x.0 x.1) e h) [
      | inl k ↦ first_fault limit ts e k w
      | inr b ↦
          let v = whole_err b.0.0 b.0.1 e b.2 in
          let s = (deep_exact code line opens is limit f d).sound ts b.0 b.1 in
          record {
            before = s.0;
            after = b.0.1;
            parts = s.1;
            at = sym v.3;
            within = (deep_exact code line opens is limit f d).begun b.0.0 s.0 s.2;
            no_further = λ t more p g.
                let q : ts ≡ s.0 ++ t ∷ more = s.1 ∙ ap (λ (z : List T). s.0 ++ z) p in
                let k : left (at (limit + g.0) (s.0 ++ t ∷ more)) ≡ suc (length more) =
                rw (← q, same_deeper_ok limit g.0 ts b.0 b.1) (ap length p) in
                stuck limit g.0 s.0 t more k g.1;
          }
    ]

    pub whole_deep : (limit : ℕ) (ts : List T) (e : Stop) → whole (at limit) ts ≡ Err e → e.why ≡ TooDeep
        → IsTooDeep code line f limit ts e.left
    whole_deep limit ts e h w = search (rules, bind_err, deep_fault, too_deep_is_not, whole_err)
