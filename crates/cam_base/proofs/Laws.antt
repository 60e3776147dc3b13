-- What a reader of a form keeps, for each kind of form.
use Rattle.cam_base.proofs.Common.{Bool, Err, List, Ok, Reader, Result, Stop, [], among, ap, apart, append-nil, append_assoc, arith, both, cases_Bool, cond, either, false, inl, inr, left, length, length-append, mapped, one, refl, starts, subst, sym}
use Rattle.cam_base.proofs.Common.{rules, true, ℕ, ◌&&◌, ◌++◌, ◌<◌, ◌>>=◌, ◌∙◌, ◌∷◌, ◌≡◌, ◌≤◌, ◌⊎◌}
use Rattle.cam_base.proofs.TerminalCodes.{if_true, if_false, true_is_not_false, among-left, among-right, starts_none-left, starts_none-right, starts_apart_back}

-- A reader answers exactly what is spelled, and stops exactly where nothing is begun any more.
-- spells and begins are the form's; empty: it spells nothing too; fs: its first codes; gs: the codes that a whole one may go on
-- with.
pub record IsRead {T A : Type 0} (code : T → ℕ) (spells : A → List T → Type 0) (begins : List T → Type 0) (empty : Bool)
    (fs gs : List ℕ) (r : Reader T A) : Type 0 where
  pub sound : (ts : List T) (x : A × List T) → r ts ≡ Ok x → (a : List T) × (ts ≡ a ++ x.1) × spells x.0 a
  pub complete : (x : A) (a rest : List T) → spells x a → starts code gs rest ≡ false → r (a ++ rest) ≡ Ok (x, rest)
  pub stops : (ts : List T) (e : Stop) → r ts ≡ Err e → (a : List T) × (rest : List T) × (ts ≡ a ++ rest) × begins a
      × (e.left ≡ length rest)
  pub passes : (b more : List T) → begins b → left (r (b ++ more)) ≤ length more
  pub begun : (x : A) (a : List T) → spells x a → begins a
  pub head : (t : T) (b : List T) → begins (t ∷ b) → among fs (code t) ≡ true
  pub nil : begins []
  pub null : (x : A) → spells x [] → empty ≡ true

-- ---- steps that may fail

pub bind_ok : {A B : Type 0} (r : Result A Stop) (f : A → Result B Stop) (y : B) → (r >>= f) ≡ Ok y
    → (x : A) × (r ≡ Ok x) × (f x ≡ Ok y)
bind_ok (Ok x) f y e = (x, refl, e)
bind_ok (Err d) f y e = absurd cc

pub bind_err : {A B : Type 0} (r : Result A Stop) (f : A → Result B Stop) (d : Stop) → (r >>= f) ≡ Err d
    → (r ≡ Err d) ⊎ ((x : A) × (r ≡ Ok x) × (f x ≡ Err d))
bind_err (Ok x) f d e = inr (x, refl, e)
bind_err (Err c) f d e = inl cc

abbrev pub done : {A : Type 0} → A → Result A Stop
done x = Ok x

pub ok_is : {A : Type 0} (x y : A) → done x ≡ done y → x ≡ y
ok_is x y e = cc

pub ok_is_not_err : {A C : Type 0} (x : A) (d : Stop) → done x ≡ Err d → C
ok_is_not_err x d e = absurd cc

abbrev pub failed : {A : Type 0} → Stop → Result A Stop
failed d = Err d

pub err_is : {A : Type 0} (c d : Stop) → failed {A = A} c ≡ Err d → c ≡ d
err_is c d e = cc

pub why_is : {A : Type 0} (d e : Stop) → failed {A = A} d ≡ Err e → e.why ≡ d.why
why_is {A = A} d e h = sym (ap (λ (f : Stop). f.why) (err_is {A = A} d e h))

-- ---- lists

pub no_nil : {T C : Type 0} (t : T) (us : List T) → t ∷ us ≡ [] → C
no_nil t us e = absurd cc

-- ---- facts of each reader

module _ {T A : Type 0} {code : T → ℕ} {spells : A → List T → Type 0} {begins : List T → Type 0} {empty : Bool} {fs gs : List ℕ}
    {r : Reader T A} (law : IsRead code spells begins empty fs gs r) where
  -- reading never goes back
  pub shorter : (ts : List T) → left (r ts) ≤ length ts
  shorter ts = law.passes [] ts law.nil

  -- where nothing isn't spelled, at least one token is read
  pub consumes : (ts : List T) (x : A × List T) → empty ≡ false → r ts ≡ Ok x → length x.1 < length ts
  consumes ts x full e =
      let s = law.sound ts x e in
      go s.0 s.1 s.2
    where
      go : (a : List T) → ts ≡ a ++ x.1 → spells x.0 a → length x.1 < length ts
      go [] p q = true_is_not_false empty (law.null x.0 q) full
      go (t ∷ a) p q = rw p (omega (arith, length-append a x.1))

  -- a whole one that isn't empty starts with one of the first codes
  pub spelled_starts : (x : A) (t : T) (a : List T) → spells x (t ∷ a) → among fs (code t) ≡ true
  spelled_starts x t a s = law.head t a (law.begun x (t ∷ a) s)

-- ---- nothing

pub IsRead-give : {T A : Type 0} (code : T → ℕ) (y : A) → IsRead code (λ (x : A) (ts : List T). (x ≡ y) × (ts ≡ []))
    (λ ts. ts ≡ []) true [] [] (λ ts. Ok (y, ts))
IsRead-give {T} {A} code y = record {
  sound = λ ts x e. let p = ok_is (y, ts) x e in
      ([], ap (λ (w : A × List T). w.1) p, (sym (ap (λ (w : A × List T). w.0) p), refl));
  complete = λ x a rest s h. rw (s.0, s.1) refl;
  stops = λ ts e h. ok_is_not_err (y, ts) e h;
  passes = λ b more h. rw h (omega arith);
  begun = λ x a s. s.1;
  head = λ t b h. no_nil t b h;
  nil = refl;
  null = λ x s. refl;
}

-- ---- a token

module _ {T : Type 0} (code : T → ℕ) (cs : List ℕ) where
  one_sound : (ts : List T) (x : T × List T) → one code cs ts ≡ Ok x → (among cs (code x.0) ≡ true) × (ts ≡ x.0 ∷ x.1)
  one_sound [] x e = absurd cc
  one_sound (t ∷ ts) x e = search (rules, cases_Bool, ok_is, if_true, if_false)

  one_takes : (t : T) (ts : List T) → among cs (code t) ≡ true → one code cs (t ∷ ts) ≡ Ok (t, ts)
  one_takes t ts h = if_true (among cs (code t)) (Ok (t, ts)) _ h

  one_shorter : (ts : List T) → left (one code cs ts) ≤ length ts
  one_shorter [] = omega arith
  one_shorter (t ∷ ts) = grind (arith, cases_Bool)

  one_stops : (ts : List T) (e : Stop) → one code cs ts ≡ Err e → e.left ≡ length ts
  one_stops [] e h = sym (ap (λ (f : Stop). f.left) (err_is {A = T × List T} _ e h))
  one_stops (t ∷ ts) e h = search (rules, cases_Bool, ok_is_not_err, one_takes, err_is, if_false)

  pub IsRead-one : IsRead code (λ (x : T) (ts : List T). (among cs (code x) ≡ true) × (ts ≡ x ∷ []))
      (λ ts. (ts ≡ []) ⊎ ((t : T) × (among cs (code t) ≡ true) × (ts ≡ t ∷ []))) false cs [] (one code cs)
  IsRead-one = record {
    sound = λ ts x e. let s = one_sound ts x e in (x.0 ∷ [], s.1, (s.0, refl));
    complete = λ x a rest s h. rw s.1 (one_takes x rest s.0);
    stops = λ ts e h. ([], ts, refl, inl refl, one_stops ts e h);
    passes = λ b more h. elim h [ inl p ↦ rw p (one_shorter more) | inr s ↦ rw (s.2, one_takes s.0 more s.1) (omega arith) ];
    begun = λ x a s. inr (x, s.0, s.1);
    head = λ t b h. elim h [ inl p ↦ no_nil t b p | inr s ↦ let e : t ≡ s.0 = (let p = s.2 in cc) in rw e s.1 ];
    nil = inl refl;
    null = λ x s. no_nil x [] (sym s.1);
  }

-- ---- another meaning

left_map : {T A B : Type 0} (h : A → B) (v : Result (A × List T) Stop)
    → left {T = T} {A = B} (v >>= λ x. Ok (h x.0, x.1)) ≡ left v
left_map h (Ok x) = refl
left_map h (Err e) = refl

pub IsRead-map : {T A B : Type 0} (code : T → ℕ) {S : A → List T → Type 0} {B' : List T → Type 0} {empty : Bool} {fs gs : List ℕ}
    {r : Reader T A} (h : A → B) → IsRead code S B' empty fs gs r
    → IsRead code (λ (y : B) (ts : List T). (x : A) × (y ≡ h x) × S x ts) B' empty fs gs (mapped code h r)
IsRead-map {T} {A} {B} code {r = r} h law = record {
  sound = λ ts y e. let b = bind_ok (r ts) (λ x. Ok (h x.0, x.1)) y e in let s = law.sound ts b.0 b.1 in
      let p = ok_is (h b.0.0, b.0.1) y b.2 in
      (s.0, s.1 ∙ ap (λ (w : B × List T). s.0 ++ w.1) p, (b.0.0, sym (ap (λ (w : B × List T). w.0) p), s.2));
  complete = λ y a rest s q. rw (law.complete s.0 a rest s.2 q, s.1) refl;
  stops = λ ts e q. elim (bind_err (r ts) (λ x. Ok (h x.0, x.1)) e q) [
    | inl p ↦ law.stops ts e p
    | inr b ↦
        ok_is_not_err (h b.0.0, b.0.1) e b.2
  ];
  passes = λ b more q. rw (left_map h (r (b ++ more))) (law.passes b more q);
  begun = λ y a s. law.begun s.0 a s.2;
  head = law.head;
  nil = law.nil;
  null = λ y s. law.null s.0 s.2;
}

-- ---- one after the other

left_then : {T A B : Type 0} (q : Reader T B) (k : ℕ) → ((ts : List T) → left (q ts) ≤ length ts) → (v : Result (A × List T) Stop)
    → left v ≤ k → left {T = T} {A = A × B} (v >>= λ x. q x.1 >>= λ y. Ok ((x.0, y.0), y.1)) ≤ k
left_then q k short (Err e) le = le
left_then {T = T} {A = A} {B = B} q k short (Ok x) le = rw (left_map {T = T} {A = B} {B = A × B} (λ y. (x.0, y)) (q x.1))
    (omega (arith, short x.1))

module _ {T A B : Type 0} (code : T → ℕ) {S : A → List T → Type 0} {B1 : List T → Type 0} {n1 : Bool} {fs1 gs1 : List ℕ}
    {r : Reader T A} (f : IsRead code S B1 n1 fs1 gs1 r)
    {S' : B → List T → Type 0} {B2 : List T → Type 0} {n2 : Bool} {fs2 gs2 : List ℕ} {q : Reader T B}
    (g : IsRead code S' B2 n2 fs2 gs2 q) (decided : apart gs1 fs2 ≡ true) where
  -- the first part ends where the second one goes on
  both_between : (y : B) (b rest : List T) → S' y b → starts code (cond n2 (gs1 ++ gs2) gs2) rest ≡ false
      → starts code gs1 (b ++ rest) ≡ false
  both_between y [] rest s h = search (rules, if_true, starts_none-left)
  both_between y (t ∷ b) rest s h = starts_apart_back code gs1 fs2 (t ∷ b ++ rest) decided (spelled_starts g y t b s)

  both_after : (rest : List T) → starts code (cond n2 (gs1 ++ gs2) gs2) rest ≡ false → starts code gs2 rest ≡ false
  both_after rest h = search (rules, cases_Bool, starts_none-right, if_true, if_false)

  both_step : (x : A) (ts rest : List T) → r ts ≡ Ok (x, rest) → both code r q ts ≡ (q rest >>= λ y. Ok ((x, y.0), y.1))
  both_step x ts rest e = rw e refl

  both_complete : (x : A × B) (a b rest : List T) → S x.0 a → S' x.1 b → starts code (cond n2 (gs1 ++ gs2) gs2) rest ≡ false
      → both code r q ((a ++ b) ++ rest) ≡ Ok (x, rest)
  both_complete x a b rest s s' h = search (rules, append_assoc, both_between, both_after)

  both_passes : (x : A) (a b more : List T) → S x a → B2 b → left (both code r q ((a ++ b) ++ more)) ≤ length more
  both_passes x a [] more s h =
      rw (append-nil a) (left_then q (length more) (shorter g) (r (a ++ more)) (f.passes a more (f.begun x a s)))
  both_passes x a (t ∷ b) more s h =
      let e = f.complete x a (t ∷ b ++ more) s (starts_apart_back code gs1 fs2 (t ∷ b ++ more) decided (g.head t b h)) in
      rw (append_assoc a (t ∷ b) more, e, left_map {B = A × B} (λ (y : B). (x, y)) (q (t ∷ b ++ more))) (g.passes (t ∷ b) more h)

  both_head : (x : A) (t : T) (ts a b : List T) → t ∷ ts ≡ a ++ b → S x a → B2 b
      → among (cond n1 (fs1 ++ fs2) fs1) (code t) ≡ true
  both_head x t ts [] b e s h =
      rw (if_true n1 (fs1 ++ fs2) fs1 (f.null x s)) (among-right fs1 fs2 (code t) (g.head t ts (rw e h)))
  both_head x t ts (u ∷ a) b e s h = search (rules, cases_Bool, among-left)

  pub IsRead-then : IsRead code (λ (x : A × B) (ts : List T). (a : List T) × (b : List T) × (ts ≡ a ++ b) × S x.0 a × S' x.1 b)
      (λ ts. B1 ts ⊎ ((x : A) × (a : List T) × (b : List T) × (ts ≡ a ++ b) × S x a × B2 b))
      (n1 && n2) (cond n1 (fs1 ++ fs2) fs1) (cond n2 (gs1 ++ gs2) gs2) (both code r q)
  IsRead-then = record {
    sound = λ ts x e.
        let b = bind_ok (r ts) (λ x. q x.1 >>= λ y. Ok ((x.0, y.0), y.1)) x e in
        let c = bind_ok (q b.0.1) (λ y. Ok ((b.0.0, y.0), y.1)) x b.2 in
        let s = f.sound ts b.0 b.1 in
        let s' = g.sound b.0.1 c.0 c.1 in
        let p = ok_is ((b.0.0, c.0.0), c.0.1) x c.2 in (
          s.0 ++ s'.0,
          (s.1 ∙ ap (λ (w : List T). s.0 ++ w) s'.1 ∙ sym (append_assoc s.0 s'.0 c.0.1))
              ∙ ap (λ (w : (A × B) × List T). (s.0 ++ s'.0) ++ w.1) p,
          subst (λ (w : (A × B) × List T). (a : List T) × (b : List T) × (s.0 ++ s'.0 ≡ a ++ b) × S w.0.0 a × S' w.0.1 b) p
              (s.0, s'.0, refl, s.2, s'.2),
        );
    complete = λ x a rest s h. rw s.2 (both_complete x s.0 s.1 rest s.3 s.4 h);
    stops = λ ts e h. elim (bind_err (r ts) (λ x. q x.1 >>= λ y. Ok ((x.0, y.0), y.1)) e h) [
      | inl p ↦ let w = f.stops ts e p in (w.0, w.1, w.2, inl w.3, w.4)
      | inr b ↦ elim (bind_err (q b.0.1) (λ y. Ok ((b.0.0, y.0), y.1)) e b.2) [
        | inl p ↦ let s = f.sound ts b.0 b.1 in let w = g.stops b.0.1 e p in (
          s.0 ++ w.0,
          w.1,
          s.1 ∙ ap (λ (z : List T). s.0 ++ z) w.2 ∙ sym (append_assoc s.0 w.0 w.1),
          inr (b.0.0, s.0, w.0, refl, s.2, w.3),
          w.4,
        )
        | inr c ↦ ok_is_not_err ((b.0.0, c.0.0), c.0.1) e c.2
      ]
    ];
    passes = λ b more h. elim h [
      | inl p ↦ left_then q (length more) (shorter g) (r (b ++ more)) (f.passes b more p)
      | inr w ↦ rw w.3 (both_passes w.0 w.1 w.2 more w.4 w.5)
    ];
    begun = λ x a s. inr (x.0, s.0, s.1, s.2, s.3, g.begun x.1 s.1 s.4);
    head = λ t b h. elim h [
      | inl p ↦ both_first t (f.head t b p)
      | inr w ↦ both_head w.0 t b w.1 w.2 w.3 w.4 w.5
    ];
    nil = inl f.nil;
    null = λ x s. both_null x s.0 s.1 s.2 s.3 s.4;
  }
    where
      both_first : (v : T) → among fs1 (code v) ≡ true → among (cond n1 (fs1 ++ fs2) fs1) (code v) ≡ true
      both_first v k = elim (cases_Bool n1) [ inl p ↦ rw p (among-left fs1 fs2 (code v) k) | inr p ↦ rw p k ]

      both_null : (x : A × B) (a b : List T) → [] ≡ a ++ b → S x.0 a → S' x.1 b → (n1 && n2) ≡ true
      both_null x [] b e s s' = rw (f.null x.0 s) (g.null x.1 (rw e s'))
      both_null x (u ∷ a) b e s s' = no_nil u (a ++ b) (sym e)

-- ---- the one or the other

module _ {T A : Type 0} (code : T → ℕ) {S : A → List T → Type 0} {B1 : List T → Type 0} {fs1 gs1 : List ℕ} {r : Reader T A}
    (f : IsRead code S B1 false fs1 gs1 r)
    {S' : A → List T → Type 0} {B2 : List T → Type 0} {n2 : Bool} {fs2 gs2 : List ℕ} {q : Reader T A}
    (g : IsRead code S' B2 n2 fs2 gs2 q) (decided : apart fs1 fs2 ≡ true) where
  pub either_first : (ts : List T) → starts code fs1 ts ≡ true → either code fs1 r q ts ≡ r ts
  either_first ts h = if_true (starts code fs1 ts) (r ts) (q ts) h

  pub either_second : (ts : List T) → starts code fs1 ts ≡ false → either code fs1 r q ts ≡ q ts
  either_second ts h = if_false (starts code fs1 ts) (r ts) (q ts) h

  abbrev either_gs : List ℕ
  either_gs = cond n2 (fs1 ++ (gs1 ++ gs2)) (gs1 ++ gs2)

  either_after : (rest : List T) → starts code either_gs rest ≡ false → (starts code gs1 rest ≡ false)
      × (starts code gs2 rest ≡ false)
  either_after rest h = search (rules, cases_Bool, starts_none-right, if_true, starts_none-left, if_false)

  complete_first : (x : A) (a rest : List T) → S x a → starts code either_gs rest ≡ false
      → either code fs1 r q (a ++ rest) ≡ Ok (x, rest)
  complete_first x [] rest s h = true_is_not_false false (f.null x s) refl
  complete_first x (t ∷ a) rest s h = either_first (t ∷ a ++ rest) (spelled_starts f x t a s) ∙ f.complete x (t ∷ a) rest s
      (either_after rest h).0

  complete_second : (x : A) (a rest : List T) → S' x a → starts code either_gs rest ≡ false
      → either code fs1 r q (a ++ rest) ≡ Ok (x, rest)
  complete_second x [] rest s h =
      let none : starts code (fs1 ++ (gs1 ++ gs2)) rest ≡ false =
      rw (← if_true n2 (fs1 ++ (gs1 ++ gs2)) (gs1 ++ gs2) (g.null x s)) h in
      either_second rest (starts_none-left code fs1 (gs1 ++ gs2) rest none) ∙ g.complete x [] rest s (either_after rest h).1
  complete_second x (t ∷ a) rest s h =
      either_second (t ∷ a ++ rest) (starts_apart_back code fs1 fs2 (t ∷ a ++ rest) decided (spelled_starts g x t a s))
      ∙ g.complete x (t ∷ a) rest s (either_after rest h).1

  either_shorter : (ts : List T) → left (either code fs1 r q ts) ≤ length ts
  either_shorter ts = elim (cases_Bool (starts code fs1 ts)) [
    | inl h ↦ rw (either_first ts h) (shorter f ts)
    | inr h ↦ rw (either_second ts h) (shorter g ts)
  ]

  passes_first : (b more : List T) → B1 b → left (either code fs1 r q (b ++ more)) ≤ length more
  passes_first [] more h = either_shorter more
  passes_first (t ∷ b) more h = rw (either_first (t ∷ b ++ more) (f.head t b h)) (f.passes (t ∷ b) more h)

  passes_second : (b more : List T) → B2 b → left (either code fs1 r q (b ++ more)) ≤ length more
  passes_second [] more h = either_shorter more
  passes_second (t ∷ b) more h =
      rw (either_second (t ∷ b ++ more) (starts_apart_back code fs1 fs2 (t ∷ b ++ more) decided (g.head t b h)))
      (g.passes (t ∷ b) more h)

  pub IsRead-or : IsRead code (λ (x : A) (ts : List T). S x ts ⊎ S' x ts) (λ ts. B1 ts ⊎ B2 ts) n2 (fs1 ++ fs2)
      (cond n2 (fs1 ++ (gs1 ++ gs2)) (gs1 ++ gs2)) (either code fs1 r q)
  IsRead-or = record {
    sound = λ ts x e. elim (cases_Bool (starts code fs1 ts)) [
      | inl h ↦ let s = f.sound ts x (sym (either_first ts h) ∙ e) in (s.0, s.1, inl s.2)
      | inr h ↦ let s = g.sound ts x (sym (either_second ts h) ∙ e) in (s.0, s.1, inr s.2)
    ];
    complete = λ x a rest s h. elim s [ inl s ↦ complete_first x a rest s h | inr s ↦ complete_second x a rest s h ];
    stops = λ ts e k. elim (cases_Bool (starts code fs1 ts)) [
      | inl h ↦ let s = f.stops ts e (sym (either_first ts h) ∙ k) in (s.0, s.1, s.2, inl s.3, s.4)
      | inr h ↦ let s = g.stops ts e (sym (either_second ts h) ∙ k) in (s.0, s.1, s.2, inr s.3, s.4)
    ];
    passes = λ b more h. elim h [ inl h ↦ passes_first b more h | inr h ↦ passes_second b more h ];
    begun = λ x a s. elim s [ inl s ↦ inl (f.begun x a s) | inr s ↦ inr (g.begun x a s) ];
    head = λ t b h. elim h [
      | inl h ↦ among-left fs1 fs2 (code t) (f.head t b h)
      | inr h ↦
          among-right fs1 fs2 (code t) (g.head t b h)
    ];
    nil = inl f.nil;
    null = λ x s. elim s [ inl s ↦ true_is_not_false false (f.null x s) refl | inr s ↦ g.null x s ];
  }
