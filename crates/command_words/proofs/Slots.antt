-- What `clap` makes of the words after a command, of which each argument takes one word.
use Rattle.command_words.proofs.Common.{Bool, Held, IsCharBoundary-after_ascii, IsUtf8, IsUtf8-drop, Kinds, List, None, Option, Row, Rule, Shape, Some, Text, UnknownArgument, Walk, [], and-false, ap, ap₂, arg_by_index, arg_by_long, arg_by_short}
use Rattle.command_words.proofs.Common.{arith, bytes_eq, bytes_eq-Decides, chars, check_fault, codes, cond, defaults_fault, encodes-chars, false, find, finished, fold, idle, inl, inr, is_dashed, is_multiple, is_pending, is_some, length, level_fault}
use Rattle.command_words.proofs.Common.{list_all, min, not, nothing_held, option_map, or-false, or_else, positional_fault, refl, rows_after, same_Some, settle_fault, settled, settled_rows, slice_get, stray_fault, subst, sym, taken, takes_several}
use Rattle.command_words.proofs.Common.{rules, to_positional, true, true≢false, turn_fault, walk, walk_from, ℕ, ◌&&◌, ◌++◌, ◌+◌, ◌<◌, ◌==◌, ◌||◌, ◌∙◌, ◌∷◌, ◌≡◌, ◌⊎◌}
use Rattle.std.specs.Option.{option_map_or}
use Rattle.std.proofs.lemmas.Bool.{and_parts, not-true, or_parts}
use Rattle.std.proofs.lemmas.Bool.Decides.{Decides-eqb}
use lib.Utf8.{encodes}
use Rattle.clap.specs.Lexer.{name_and_value, long_of, short_of, usize_max}
use Rattle.clap.specs.Walk.{walked}
use Rattle.clap.specs.Faults.{flags_fault, walk_fault}

pub some≢none : {X : Type 0} (x : X) → Some x ≡ None → ⊥
some≢none x e = true≢false (ap (λ o. is_some o) e)

-- ---- commands of which each argument takes one word

abbrev pub takes_one : Rule → Bool
takes_one a = is_some a.index && (not (is_multiple a) && not a.trailing_var_arg)

abbrev pub has_slots : Shape → Bool
has_slots s = list_all takes_one s.rules

pub find_passes : {X : Type 0} (p q : X → Bool) (xs : List X) (x : X) → list_all q xs ≡ true → find p xs ≡ Some x → q x ≡ true
find_passes p q [] x all e = absurd (some≢none x (sym e))
find_passes p q (y ∷ ys) x all e = go (p y) (find_passes p q ys x ((and_parts (q y) (list_all q ys) all).1)) e
  where
    go : (b : Bool) → (find p ys ≡ Some x → q x ≡ true) → cond b (Some y) (find p ys) ≡ Some x → q x ≡ true
    go true rest e = subst (λ z. q z ≡ true) (same_Some y x e) ((and_parts (q y) (list_all q ys) all).0)
    go false rest e = rest e

find_none : (p : Rule → Bool) (c : List Rule) → ((a : Rule) → is_some a.index ≡ true → p a ≡ false) → list_all takes_one c ≡ true
    → find p c ≡ None
find_none p [] h e = refl
find_none p (a ∷ c) h e =
    let parts = and_parts (takes_one a) (list_all takes_one c) e in
    let first = and_parts (is_some a.index) _ parts.0 in
    rw (h a first.0) (find_none p c h parts.1)

no_long : (c : List Rule) (name : Text) → list_all takes_one c ≡ true → arg_by_long c name ≡ None
no_long c name e = find_none _ c (λ a is. rw is refl) e

no_short : (c : List Rule) (x : ℕ) → list_all takes_one c ≡ true → arg_by_short c x ≡ None
no_short c x e = find_none _ c (λ a is. rw is refl) e

-- ---- words

abbrev dashes : Text
dashes = codes "--"

abbrev pub AreTexts : List Text → Type 0
AreTexts [] = Unit {0}
AreTexts (w ∷ ws) = IsUtf8 w × AreTexts ws

plain_long : (w : Text) → is_dashed w ≡ false → long_of w ≡ None
plain_long [] e = refl
plain_long (b ∷ []) e = search (rules)
plain_long (b ∷ c ∷ rest) e = rw e refl

plain_short : (w : Text) → is_dashed w ≡ false → short_of w ≡ None
plain_short [] e = refl
plain_short (b ∷ []) e = elim (b == 45) as (λ v. Rattle.std.specs.Prelude.option_and_then Rattle.clap.specs.Lexer.short_of_rest
    (cond v (Some []) None) ≡ None) [ true ↦ refl | false ↦ refl ]
plain_short (b ∷ c ∷ rest) e = rw e refl

first_char : (t : Text) → IsUtf8 t → 0 < length t → (y : ℕ) × (slice_get (chars t) 0 ≡ Some y)
first_char t u lt = go (chars t) refl
  where
    go : (cs : List ℕ) → chars t ≡ cs → (y : ℕ) × (slice_get (chars t) 0 ≡ Some y)
    go [] e =
        let none : [] ≡ t = ap encodes (sym e) ∙ encodes-chars t u in
        let short : 0 ≡ length t = ap length none in
        absurd (omega arith)
    go (y ∷ ys) e = (y, ap (λ cs. slice_get cs 0) e)

-- a word that begins with `-`, and is not `--` or `-`, is a long or a short flag
abbrev DashWord : Text → Type 0
DashWord w = ((p : Text × Option Text) × (long_of w ≡ Some p))
    ⊎ ((long_of w ≡ None) × (x : ℕ) × (xs : Text) × (short_of w ≡ Some (x ∷ xs)) × (y : ℕ)
    × (slice_get (chars (x ∷ xs)) 0 ≡ Some y))

dash_word : (w : Text) → IsUtf8 w → bytes_eq w dashes ≡ false → is_dashed w ≡ true → DashWord w
dash_word [] u d e = absurd (true≢false (sym e))
dash_word (b ∷ []) u d e = absurd (true≢false (sym e))
dash_word (b ∷ c ∷ rest) u d e = go (c == 45) rest refl u d
  where
    go : (v : Bool) (more : Text) → (c == 45) ≡ v → IsUtf8 (b ∷ c ∷ more) → bytes_eq (b ∷ c ∷ more) dashes ≡ false
        → DashWord (b ∷ c ∷ more)
    go true [] is u d = search (rules, ap₂, bytes_eq-Decides)
    go true (x ∷ xs) is u d = inl (name_and_value (x ∷ xs), rw (e, is) refl)
    go false more is u d =
        let ascii : b ≡ 45 = (Decides-eqb b 45).0 e in
        let rest_is : IsUtf8 (c ∷ more) =
        IsUtf8-drop (b ∷ c ∷ more) 1 u (IsCharBoundary-after_ascii (b ∷ c ∷ more) 0 u (omega arith) (omega arith)) in
        let first = first_char (c ∷ more) rest_is (omega arith) in
        inr (rw (e, is) refl, c, more, rw (e, is) refl, first.0, first.1)

-- no kind of error comes
abbrev pub passes : Kinds → Bool
passes [] = true
passes (k ∷ ks) = false

abbrev pub stray_fails : Shape → Bool
stray_fails s = not (passes (stray_fault s))

pub first_fails : (a b : Kinds) → passes a ≡ false → passes (or_else a b) ≡ false
first_fails [] b e = absurd (true≢false e)
first_fails (k ∷ ks) b e = e

second_fails : (a b : Kinds) → passes b ≡ false → passes (or_else a b) ≡ false
second_fails [] b e = e
second_fails (k ∷ ks) b e = refl

-- ---- where the walk stands

abbrev held : List Row → Option (Text × List Text) → Held
held rows pending = record { rows = rows; pending = pending; skip = 0 }

abbrev at : List Row → Option (Text × List Text) → ℕ → Bool → Walk
at rows pending position trailing = record {
  held = held rows pending;
  waiting = idle;
  position = position;
  is_trailing = trailing;
  stopped = None;
}

module _ (s : Shape) (slots : has_slots s ≡ true) where
  abbrev c : List Rule
  c = s.rules

  abbrev placed : ℕ → Held → Kinds
  placed p h = option_map_or (λ a. positional_fault c s.args_override_self a h) (arg_by_index c p) (stray_fault s)

  turn_plain : (w : Text) (rows : List Row) (pending : Option (Text × List Text)) (p : ℕ) → bytes_eq w dashes ≡ false
      → is_dashed w ≡ false
      → turn_fault s [] (at rows pending p false) w ≡ placed p (held rows pending)
  turn_plain w rows pending p d e = rw (d, plain_long w e, plain_short w e) refl

  turn_past : (w : Text) (rows : List Row) (pending : Option (Text × List Text)) (p : ℕ)
      → turn_fault s [] (at rows pending p true) w ≡ placed p (held rows pending)
  turn_past w rows pending p = refl

  walk_plain : (w : Text) (rows : List Row) (pending : Option (Text × List Text)) (p : ℕ) → bytes_eq w dashes ≡ false
      → is_dashed w ≡ false
      → walked c [] (at rows pending p false) w ≡ to_positional c (arg_by_index c p) w (at rows pending p false)
      (held rows pending)
  unfolding walked
  walk_plain w rows pending p d e = rw (d, plain_long w e, plain_short w e) refl

  walk_past : (w : Text) (rows : List Row) (pending : Option (Text × List Text)) (p : ℕ)
      → walked c [] (at rows pending p true) w ≡ to_positional c (arg_by_index c p) w (at rows pending p true) (held rows pending)
  unfolding walked
  walk_past w rows pending p = refl

  -- the walk after a word that the argument a takes
  abbrev after : Rule → Text → List Row → Option (Text × List Text) → ℕ → Bool → Walk
  after a w rows pending p t = at (settled_rows c pending rows) (Some (a.id, [] ++ w ∷ [])) (min (p + 1) usize_max) t

  positional_after : (a : Rule) (w : Text) (rows : List Row) (pending : Option (Text × List Text)) (p : ℕ) (t : Bool)
      → takes_one a ≡ true
      → to_positional c (Some a) w (at rows pending p t) (held rows pending) ≡ after a w rows pending p t
  positional_after a w rows pending p t one = search (rules, and_parts, is_some, not-true, or_parts, and-false, or-false)

  -- the step at a word goes the same way past a `--` and before it
  abbrev SameWalk : Walk → List Text → Walk → List Text → Type 0
  SameWalk v xs w ys = (walk_fault s [] v xs ≡ walk_fault s [] w ys)
      × ((fold (walked c []) v xs).held ≡ (fold (walked c []) w ys).held)

  dashes_first : (rows : List Row) (pending : Option (Text × List Text)) (p : ℕ) (us : List Text)
      → SameWalk (at rows pending p false) (dashes ∷ us) (at rows pending p true) us
  unfolding walk_fault walked
  dashes_first rows pending p us = (refl, refl)

  -- where a plain word leads
  step_same : (w : Text) (rows : List Row) (pending : Option (Text × List Text)) (p : ℕ) (o : Option Rule) → arg_by_index c p ≡ o
      → (Goal : Walk → Walk → Type 0) → ((rows : List Row) (pending : Option (Text × List Text)) (p : ℕ)
      → Goal (at rows pending p false) (at rows pending p true))
      → Goal (to_positional c o w (at rows pending p false) (held rows pending)) (to_positional c o w (at rows pending p true)
      (held rows pending))
  step_same w rows pending p None e Goal rest = rest rows pending p
  step_same w rows pending p (Some a) e Goal rest =
      let one = find_passes _ takes_one c a slots e in
      search (rules, positional_after, min)

  turn_then : (w : Text) (v : Walk) (ws : List Text) → walk_fault s [] v (w ∷ ws) ≡ or_else (turn_fault s [] v w)
      (walk_fault s [] (walked c [] v w) ws)
  unfolding walk_fault
  turn_then w v ws = refl

  one_step : (w : Text) (rows : List Row) (pending : Option (Text × List Text)) (p : ℕ) (ws vs : List Text)
      → bytes_eq w dashes ≡ false → is_dashed w ≡ false
      → ((rows : List Row) (pending : Option (Text × List Text)) (p : ℕ)
      → SameWalk (at rows pending p false) ws (at rows pending p true) vs)
      → SameWalk (at rows pending p false) (w ∷ ws) (at rows pending p true) (w ∷ vs)
  one_step w rows pending p ws vs d e rest =
      let left = turn_then w (at rows pending p false) ws ∙ ap₂ (λ t v. or_else t (walk_fault s [] v ws))
      (turn_plain w rows pending p d e) (walk_plain w rows pending p d e) in
      let right = turn_then w (at rows pending p true) vs ∙ ap₂ (λ t v. or_else t (walk_fault s [] v vs))
      (turn_past w rows pending p) (walk_past w rows pending p) in
      let next = step_same w rows pending p (arg_by_index c p) refl (λ v u. SameWalk v ws u vs) rest in (
        left ∙ ap (or_else (placed p (held rows pending))) next.0 ∙ sym right,
        ap (λ v. (fold (walked c []) v ws).held) (walk_plain w rows pending p d e) ∙ next.1
            ∙ sym (ap (λ v. (fold (walked c []) v vs).held) (walk_past w rows pending p)),
      )

  walk_same : (words us : List Text) → taken words ≡ Some us → (rows : List Row) (pending : Option (Text × List Text)) (p : ℕ)
      → SameWalk (at rows pending p false) words (at rows pending p true) us
  unfolding walk_fault
  walk_same [] us e rows pending p = subst (λ vs. SameWalk (at rows pending p false) [] (at rows pending p true) vs)
      (same_Some [] us e) (refl, refl)
  walk_same (w ∷ ws) us e rows pending p = go (bytes_eq w dashes) (is_dashed w) (taken ws) refl refl (walk_same ws) e
    where
      go : (a b : Bool) (o : Option (List Text)) → bytes_eq w dashes ≡ a → is_dashed w ≡ b
          → ((us : List Text) → o ≡ Some us → (rows : List Row) (pending : Option (Text × List Text)) (p : ℕ)
          → SameWalk (at rows pending p false) ws (at rows pending p true) us)
          → cond a (Some ws) (cond b None (option_map (λ more. w ∷ more) o)) ≡ Some us
          → SameWalk (at rows pending p false) (w ∷ ws) (at rows pending p true) us
      go true b o is_d is_b rest e =
          subst (λ x. SameWalk (at rows pending p false) (x ∷ ws) (at rows pending p true) us)
          (sym ((bytes_eq-Decides w dashes).0 is_d))
          (subst (λ vs. SameWalk (at rows pending p false) (dashes ∷ ws) (at rows pending p true) vs) (same_Some ws us e)
          (dashes_first rows pending p ws))
      go false false (Some vs) is_d is_b rest e =
          subst (λ xs. SameWalk (at rows pending p false) (w ∷ ws) (at rows pending p true) xs) (same_Some (w ∷ vs) us e)
          (one_step w rows pending p ws vs is_d is_b (rest vs refl))
      go false _ _ is_d is_b rest e = absurd (some≢none us (sym e))

  -- ---- words that no command takes

  flag_fails : (w : Text) (rows : List Row) (pending : Option (Text × List Text)) (p : ℕ) → IsUtf8 w → bytes_eq w dashes ≡ false
      → is_dashed w ≡ true
      → turn_fault s [] (at rows pending p false) w ≡ UnknownArgument ∷ []
  unfolding flags_fault
  flag_fails w rows pending p u d e = search (rules, dash_word, no_long, no_short)

  step_fails : (w : Text) (rows : List Row) (pending : Option (Text × List Text)) (p : ℕ) (ws : List Text)
      → bytes_eq w dashes ≡ false → is_dashed w ≡ false
      → ((rows : List Row) (pending : Option (Text × List Text)) (p : ℕ)
      → passes (walk_fault s [] (at rows pending p false) ws) ≡ false)
      → passes (walk_fault s [] (at rows pending p false) (w ∷ ws)) ≡ false
  step_fails w rows pending p ws d e rest =
      let left = turn_then w (at rows pending p false) ws ∙ ap₂ (λ t v. or_else t (walk_fault s [] v ws))
      (turn_plain w rows pending p d e) (walk_plain w rows pending p d e) in
      let next = step_same w rows pending p (arg_by_index c p) refl (λ v u. passes (walk_fault s [] v ws) ≡ false) rest in
      ap (λ k. passes k) left ∙ second_fails (placed p (held rows pending)) _ next

  walk_fails : (words : List Text) → AreTexts words → taken words ≡ None
      → (rows : List Row) (pending : Option (Text × List Text)) (p : ℕ)
      → passes (walk_fault s [] (at rows pending p false) words) ≡ false
  walk_fails [] u e rows pending p = absurd (some≢none _ e)
  walk_fails (w ∷ ws) u e rows pending p = go (bytes_eq w dashes) (is_dashed w) (taken ws) refl refl (walk_fails ws u.1) e
    where
      go : (a b : Bool) (o : Option (List Text)) → bytes_eq w dashes ≡ a → is_dashed w ≡ b
          → (o ≡ None → (rows : List Row) (pending : Option (Text × List Text)) (p : ℕ)
          → passes (walk_fault s [] (at rows pending p false) ws) ≡ false)
          → cond a (Some ws) (cond b None (option_map (λ more. w ∷ more) o)) ≡ None
          → passes (walk_fault s [] (at rows pending p false) (w ∷ ws)) ≡ false
      go true b o is_d is_b rest e = absurd (some≢none ws e)
      go false true o is_d is_b rest e = search (rules, turn_then, flag_fails)
      go false false None is_d is_b rest e = step_fails w rows pending p ws is_d is_b (rest refl)
      go false false (Some vs) is_d is_b rest e = absurd (some≢none _ e)

  -- ---- the whole level

  -- the kinds of errors at the words, and the rows
  pub level_same : (words us : List Text) → taken words ≡ Some us
      → (level_fault s [] nothing_held words false [] ≡ level_fault s [] nothing_held (codes "--" ∷ us) false [])
      × (rows_after c [] words ≡ rows_after c [] (codes "--" ∷ us))
  level_same words us e =
      let here = walk_same words us e [] None 1 in
      let there = dashes_first [] None 1 us in
      let fault : walk_fault s [] (walk_from nothing_held) words ≡ walk_fault s [] (walk_from nothing_held) (dashes ∷ us) =
      here.0 ∙ sym there.0 in
      let ends : (walk c [] nothing_held words).held ≡ (walk c [] nothing_held (dashes ∷ us)).held = here.1 ∙ sym there.1 in (
        ap₂ (λ f h. or_else f (or_else [] (or_else (settle_fault c s.args_override_self h)
            (or_else (defaults_fault (settled c h).rows c) (check_fault s (finished c h) false))))) fault ends,
        ap (finished c) ends,
      )

  pub level_fails : (words : List Text) → AreTexts words → taken words ≡ None
      → passes (level_fault s [] nothing_held words false []) ≡ false
  level_fails words u e = first_fails _ _ (walk_fails words u e [] None 1)

  -- a first word that no argument takes
  pub first_word_fails : (w : Text) → IsUtf8 w → bytes_eq w (codes "--") ≡ false → stray_fails s ≡ true → arg_by_index c 1 ≡ None
      → passes (turn_fault s [] (walk_from nothing_held) w) ≡ false
  first_word_fails w u d stray none = search (rules, flag_fails, turn_plain, not-true)
