-- Any number of one form.
use Rattle.cam_base.proofs.Common.{Each, Err, List, Ok, Reader, Result, Stop, [], among, ap, apart, append-nil, append_assoc, arith, cases_Bool, false, inl, inr, left, length, length-append, refl, starts, subst, suc, sym, times, true, zero, ℕ, ◌++◌}
use Rattle.cam_base.proofs.Common.{◌<◌, ◌>>=◌, ◌∙◌, ◌∷◌, ◌≡◌, ◌≤◌}
use Rattle.cam_base.specs.Reading.{many}
use Rattle.cam_base.proofs.TerminalCodes.{true_is_not_false, starts_none-left, starts_none-right, starts_apart_back}
use Rattle.cam_base.proofs.Laws.{IsRead, done, bind_ok, bind_err, ok_is, ok_is_not_err, shorter, spelled_starts}

regroup : {T : Type 0} (a b c d : List T) → ((a ++ b) ++ c) ++ d ≡ a ++ ((b ++ c) ++ d)
regroup a b c d = simp append_assoc

-- one, and those that are read after it
abbrev pub and_more : {T A : Type 0} → Reader T (List A) → Result (A × List T) Stop → Result (List A × List T) Stop
and_more q v = v >>= λ x. q x.1 >>= λ xs. Ok (x.0 ∷ xs.0, xs.1)

module _ {T A : Type 0} (code : T → ℕ) (cs : List ℕ) (r : Reader T A) where
  pub times_none : (n : ℕ) (ts : List T) → starts code cs ts ≡ false → times code n cs r ts ≡ Ok ([], ts)
  times_none zero ts h = refl
  times_none (suc n) ts h = rw h refl

  pub times_more : (n : ℕ) (ts : List T) → starts code cs ts ≡ true
      → times code (suc n) cs r ts ≡ and_more (times code n cs r) (r ts)
  times_more n ts h = rw h refl

  left_push : (x : A) (v : Result (List A × List T) Stop) → left {T = T} {A = List A} (v >>= λ xs. Ok (x ∷ xs.0, xs.1)) ≡ left v
  left_push x (Ok y) = refl
  left_push x (Err e) = refl

  left_more : (k : ℕ) (q : Reader T (List A)) → ((ts : List T) → left (q ts) ≤ length ts) → (v : Result (A × List T) Stop)
      → left v ≤ k → left (and_more q v) ≤ k
  left_more k q short (Err e) le = le
  left_more k q short (Ok x) le = rw (left_push x.0 (q x.1)) (omega (arith, short x.1))

  -- the rest may be read in two ways that agree on shorter lists
  same_more : (k : ℕ) (q p : Reader T (List A)) → ((us : List T) → length us < k → q us ≡ p us) → (v : Result (A × List T) Stop)
      → ((x : A × List T) → v ≡ Ok x → length x.1 < k) → and_more q v ≡ and_more p v
  same_more k q p same (Err e) eats = refl
  same_more k q p same (Ok x) eats = rw (same x.1 (eats x refl)) refl

  -- fuel above the length changes nothing
  module _ (eats : (ts : List T) (x : A × List T) → r ts ≡ Ok x → length x.1 < length ts) where
    times_enough : (n m : ℕ) (ts : List T) → length ts ≤ n → length ts ≤ m → times code n cs r ts ≡ times code m cs r ts
    times_enough zero m [] p q = sym (times_none m [] refl)
    times_enough zero m (t ∷ ts) p q = absurd (omega arith)
    times_enough (suc n) zero [] p q = times_none (suc n) [] refl
    times_enough (suc n) zero (t ∷ ts) p q = absurd (omega arith)
    times_enough (suc n) (suc m) ts p q = elim (cases_Bool (starts code cs ts)) [
      | inl h ↦ times_more n ts h ∙ same_more (length ts) (times code n cs r) (times code m cs r)
          (λ us lt. times_enough n m us (omega arith) (omega arith)) (r ts) (eats ts) ∙ sym (times_more m ts h)
      | inr h ↦ times_none (suc n) ts h ∙ sym (times_none (suc m) ts h)
    ]

    -- one more, where the next token begins one
    pub many_more : (ts : List T) → starts code cs ts ≡ true → many code cs r ts ≡ and_more (many code cs r) (r ts)
    unfolding many
    many_more [] h = absurd cc
    many_more (t ∷ ts) h =
        times_more (length ts) (t ∷ ts) h
        ∙ same_more (length (t ∷ ts)) (times code (length ts) cs r) (λ us. times code (length us) cs r us)
        (λ us lt. times_enough (length ts) (length us) us (omega arith) (omega arith)) (r (t ∷ ts)) (eats (t ∷ ts))

  -- none, where it does not
  pub many_none : (ts : List T) → starts code cs ts ≡ false → many code cs r ts ≡ Ok ([], ts)
  unfolding many
  many_none ts h = times_none (length ts) ts h

module _ {T A : Type 0} (code : T → ℕ) {S : A → List T → Type 0} {B : List T → Type 0} {fs gs : List ℕ} {r : Reader T A}
    (f : IsRead code S B false fs gs r) (decided : apart gs fs ≡ true) where
  none_sound : (ts : List T) (x : List A × List T) → done ([], ts) ≡ Ok x → (a : List T) × (ts ≡ a ++ x.1) × Each S x.0 a
  none_sound ts x e = subst (λ (w : List A × List T). (a : List T) × (ts ≡ a ++ w.1) × Each S w.0 a) (ok_is ([], ts) x e)
      ([], refl, refl)

  times_sound : (n : ℕ) (ts : List T) (x : List A × List T) → times code n fs r ts ≡ Ok x → (a : List T) × (ts ≡ a ++ x.1)
      × Each S x.0 a
  times_sound zero ts x e = none_sound ts x e
  times_sound (suc n) ts x e = elim (cases_Bool (starts code fs ts)) [
    | inl h ↦
        let b = bind_ok (r ts) (λ x. times code n fs r x.1 >>= λ xs. Ok (x.0 ∷ xs.0, xs.1)) x
        (sym (times_more code fs r n ts h) ∙ e) in
        let c = bind_ok (times code n fs r b.0.1) (λ xs. Ok (b.0.0 ∷ xs.0, xs.1)) x b.2 in
        let s = f.sound ts b.0 b.1 in
        let t = times_sound n b.0.1 c.0 c.1 in
        let whole : ts ≡ (s.0 ++ t.0) ++ c.0.1 = s.1 ∙ ap (λ (w : List T). s.0 ++ w) t.1 ∙ sym (append_assoc s.0 t.0 c.0.1) in
        subst (λ (w : List A × List T). (a : List T) × (ts ≡ a ++ w.1) × Each S w.0 a) (ok_is (b.0.0 ∷ c.0.0, c.0.1) x c.2)
        (s.0 ++ t.0, whole, (s.0, t.0, refl, s.2, t.2))
    | inr h ↦ none_sound ts x (sym (times_none code fs r (suc n) ts h) ∙ e)
  ]

  -- what begins repeats starts with one of the first codes
  many_head : (xs : List A) (a b : List T) (t : T) (c : List T) → Each S xs a → B b → t ∷ c ≡ a ++ b → among fs (code t) ≡ true
  many_head [] a b t c s h e = f.head t c (let p : t ∷ c ≡ b = (rw s at e) in rw p h)
  many_head (x ∷ xs) a b t c s h e = go s.0 s.3 (rw (s.2, append_assoc s.0 s.1 b) at e)
    where
      go : (d : List T) → S x d → t ∷ c ≡ d ++ (s.1 ++ b) → among fs (code t) ≡ true
      go [] k p = true_is_not_false false (f.null x k) refl
      go (u ∷ d) k p = let same : t ≡ u = cc in rw same (spelled_starts f x u d k)

  -- behind one repeat stand others, and then what starts none
  between : (xs : List A) (a rest : List T) → Each S xs a → starts code gs rest ≡ false → starts code gs (a ++ rest) ≡ false
  between xs [] rest s h = h
  between xs (t ∷ a) rest s h = starts_apart_back code gs fs (t ∷ a ++ rest) decided
      (many_head xs (t ∷ a) [] t a s f.nil (sym (append-nil (t ∷ a))))

  one_complete : (x : A) (xs : List A) (n : ℕ) (a b rest : List T) → S x a → Each S xs b → starts code (fs ++ gs) rest ≡ false
      → length ((a ++ b) ++ rest) ≤ n
      → ((n : ℕ) → length (b ++ rest) ≤ n → times code n fs r (b ++ rest) ≡ Ok (xs, rest))
      → times code n fs r ((a ++ b) ++ rest) ≡ Ok (x ∷ xs, rest)
  one_complete x xs n [] b rest s each h le others = true_is_not_false false (f.null x s) refl
  one_complete x xs zero (t ∷ a) b rest s each h le others = absurd (omega arith)
  one_complete x xs (suc n) (t ∷ a) b rest s each h le others =
      let one = f.complete x (t ∷ a) (b ++ rest) s (between xs b rest each (starts_none-right code fs gs rest h)) in
      let more = others n (omega (arith, length-append (a ++ b) rest, length-append a b, length-append b rest)) in
      times_more code fs r n (t ∷ a ++ b ++ rest) (spelled_starts f x t a s) ∙ rw (append_assoc (t ∷ a) b rest, one, more) refl

  times_complete : (xs : List A) (n : ℕ) (a rest : List T) → Each S xs a → starts code (fs ++ gs) rest ≡ false
      → length (a ++ rest) ≤ n → times code n fs r (a ++ rest) ≡ Ok (xs, rest)
  times_complete [] n a rest s h le = rw s (times_none code fs r n rest (starts_none-left code fs gs rest h))
  times_complete (x ∷ xs) n a rest s h le =
      rw s.2 (one_complete x xs n s.0 s.1 rest s.3 s.4 h (rw s.2 at le) (λ n le. times_complete xs n s.1 rest s.4 h le))

  abbrev Begun : List T → Type 0
  Begun ts = (xs : List A) × (a : List T) × (b : List T) × (ts ≡ a ++ b) × Each S xs a × B b

  times_stops : (n : ℕ) (ts : List T) (e : Stop) → times code n fs r ts ≡ Err e → (a : List T) × (rest : List T)
      × (ts ≡ a ++ rest) × Begun a × (e.left ≡ length rest)
  times_stops zero ts e k = ok_is_not_err ([], ts) e k
  times_stops (suc n) ts e k = elim (cases_Bool (starts code fs ts)) [
    | inl h ↦ elim (bind_err (r ts) (λ x. times code n fs r x.1 >>= λ xs. Ok (x.0 ∷ xs.0, xs.1)) e
        (sym (times_more code fs r n ts h) ∙ k)) [
          | inl p ↦ let w = f.stops ts e p in (w.0, w.1, w.2, ([], [], w.0, refl, refl, w.3), w.4)
          | inr b ↦ elim (bind_err (times code n fs r b.0.1) (λ xs. Ok (b.0.0 ∷ xs.0, xs.1)) e b.2) [
            | inl p ↦
                let s = f.sound ts b.0 b.1 in
                let w = times_stops n b.0.1 e p in
                let g = w.3 in (
                  s.0 ++ w.0,
                  w.1,
                  s.1 ∙ ap (λ (z : List T). s.0 ++ z) w.2 ∙ sym (append_assoc s.0 w.0 w.1),
                  (
                    b.0.0 ∷ g.0,
                    s.0 ++ g.1,
                    g.2,
                    ap (λ (z : List T). s.0 ++ z) g.3 ∙ sym (append_assoc s.0 g.1 g.2),
                    (s.0, g.1, refl, s.2, g.4),
                    g.5,
                  ),
                  w.4,
                )
            | inr c ↦ ok_is_not_err (b.0.0 ∷ c.0.0, c.0.1) e c.2
          ]
        ]
    | inr h ↦ ok_is_not_err ([], ts) e (sym (times_none code fs r (suc n) ts h) ∙ k)
  ]

  times_shorter : (n : ℕ) (ts : List T) → left (times code n fs r ts) ≤ length ts
  times_shorter zero ts = omega arith
  times_shorter (suc n) ts = elim (cases_Bool (starts code fs ts)) [
    | inl h ↦ rw (times_more code fs r n ts h) (left_more code fs r (length ts) (times code n fs r) (times_shorter n) (r ts)
        (shorter f ts))
    | inr h ↦ rw (times_none code fs r (suc n) ts h) (omega arith)
  ]

  -- one that is begun, where more fuel than tokens is there
  last_passes : (n : ℕ) (b more : List T) → B b → length (b ++ more) ≤ n → left (times code n fs r (b ++ more)) ≤ length more
  last_passes n [] more h le = times_shorter n more
  last_passes zero (t ∷ b) more h le = absurd (omega arith)
  last_passes (suc n) (t ∷ b) more h le =
      rw (times_more code fs r n (t ∷ b ++ more) (f.head t b h)) (left_more code fs r (length more) (times code n fs r)
      (times_shorter n) (r (t ∷ b ++ more)) (f.passes (t ∷ b) more h))

  one_passes : (x : A) (xs : List A) (n : ℕ) (a b c more : List T) → S x a → Each S xs b → B c
      → length (((a ++ b) ++ c) ++ more) ≤ n
      → ((n : ℕ) → length ((b ++ c) ++ more) ≤ n → left (times code n fs r ((b ++ c) ++ more)) ≤ length more)
      → left (times code n fs r (((a ++ b) ++ c) ++ more)) ≤ length more
  one_passes x xs n [] b c more s each h le others = true_is_not_false false (f.null x s) refl
  one_passes x xs zero (t ∷ a) b c more s each h le others = absurd (omega arith)
  one_passes x xs (suc n) (t ∷ a) b c more s each h le others =
      subst (λ (z : List T). left (times code (suc n) fs r z) ≤ length more) (sym (regroup (t ∷ a) b c more))
      (rw (times_more code fs r n (t ∷ a ++ ((b ++ c) ++ more)) (spelled_starts f x t a s)) (go (b ++ c) refl))
    where
      go : (d : List T) → b ++ c ≡ d → left (and_more (times code n fs r) (r (t ∷ a ++ (d ++ more)))) ≤ length more
      go [] e = left_more code fs r (length more) (times code n fs r) (times_shorter n) (r (t ∷ a ++ more))
          (f.passes (t ∷ a) more (f.begun x (t ∷ a) s))
      go (u ∷ d) e =
          let one = f.complete x (t ∷ a) (u ∷ d ++ more) s (starts_apart_back code gs fs (u ∷ d ++ more) decided
          (many_head xs b c u d each h (sym e))) in
          rw (one, left_push code fs r x (times code n fs r (u ∷ d ++ more)))
          (subst (λ (z : List T). left (times code n fs r (z ++ more)) ≤ length more) e
          (others n (omega (
            arith,
            length-append ((a ++ b) ++ c) more,
            length-append (a ++ b) c,
            length-append a b,
            length-append (b ++ c) more,
            length-append b c,
          ))))

  times_passes : (xs : List A) (n : ℕ) (a b more : List T) → Each S xs a → B b → length ((a ++ b) ++ more) ≤ n
      → left (times code n fs r ((a ++ b) ++ more)) ≤ length more
  times_passes [] n a b more s h le = rw s (last_passes n b more h (rw s at le))
  times_passes (x ∷ xs) n a b more s h le =
      rw s.2 (one_passes x xs n s.0 s.1 b more s.3 s.4 h (rw s.2 at le) (λ n le. times_passes xs n s.1 b more s.4 h le))

  pub IsRead-many : IsRead code (λ (xs : List A) (ts : List T). Each S xs ts) Begun true fs (fs ++ gs) (many code fs r)
  unfolding many
  IsRead-many = record {
    sound = λ ts x e. times_sound (length ts) ts x e;
    complete = λ xs a rest s h. times_complete xs (length (a ++ rest)) a rest s h (omega arith);
    stops = λ ts e k. times_stops (length ts) ts e k;
    passes = λ b more h. rw h.3 (times_passes h.0 (length ((h.1 ++ h.2) ++ more)) h.1 h.2 more h.4 h.5 (omega arith));
    begun = λ xs a s. (xs, a, [], sym (append-nil a), s, f.nil);
    head = λ t b h. many_head h.0 h.1 h.2 t b h.4 h.5 h.3;
    nil = ([], [], [], refl, refl, f.nil);
    null = λ xs s. refl;
  }
