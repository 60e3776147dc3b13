-- What a search has found stays true when a value is brought along a way.
use Rattle.std.proofs.Common.{rules}
use Rattle.cap_audit.proofs.Common.{Bool, Brings, Cap, Capability, Contains, Course, Found, Held, HoldsAt, IsFound, IsWay, Leads, List, None, Option, Pair, Some, Spec, Way, [], ap, arith, boot, cases_eq, content_in, false, get_or}
use Rattle.cap_audit.proofs.Common.{get_or-set_other, get_or-set_same, held_by, inl, inr, is_at, is_at_below, is_known, landed, length, length-append, length-set, marks_of, misses, node_at, pushed_last, read_written, refl}
use Rattle.cap_audit.proofs.Common.{set, slice_get, steps_of, subst, suc, sym, true, unknowns, zero, ℕ, ◌++◌, ◌+◌, ◌<◌, ◌∙◌, ◌∷◌, ◌≡◌, ◌⊎◌}
use Rattle.cap_model.specs.declared.kind.Kind.TheVariants as kinds
use Rattle.cap_audit.specs.declared.found.Course.TheVariants as courses
use Rattle.cap_audit.proofs.Quiet.{run_append, kept_at, Lands, landed_there, lands_onward, quiet_cnode}
use Rattle.cap_audit.proofs.Sequences.{take_on, put_on, grant_on, reply_on}
use Rattle.cap_audit.proofs.InRows.{more_cases, more_kept, more_there}

pub none_within : {A : Type 0} (xs : List A) (k : ℕ) → slice_get xs k ≡ None → k < length xs → ⊥
none_within [] k h less = omega arith
none_within (x ∷ xs) zero h less = cc
none_within (x ∷ xs) (suc k) h less = none_within xs k h (omega arith)

-- a list with one item more

pub at_pushed : {A : Type 0} (xs : List A) (x y : A) (k : ℕ) → slice_get xs k ≡ Some y → slice_get (xs ++ x ∷ []) k ≡ Some y
at_pushed [] x y k h = absurd cc
at_pushed (z ∷ xs) x y zero h = h
at_pushed (z ∷ xs) x y (suc k) h = at_pushed xs x y k h

pub pushed_cases : {A : Type 0} (xs : List A) (x y : A) (k : ℕ) → slice_get (xs ++ x ∷ []) k ≡ Some y
    → (slice_get xs k ≡ Some y) ⊎ ((k ≡ length xs) × (x ≡ y))
pushed_cases [] x y zero h = inr (refl, cc)
pushed_cases [] x y (suc k) h = absurd cc
pushed_cases (z ∷ xs) x y zero h = inl h
pushed_cases (z ∷ xs) x y (suc k) h = elim (pushed_cases xs x y k h) [ inl e ↦ inl e | inr e ↦ inr (ap (λ n. suc n) e.0, e.1) ]

-- one mark more

module _ (rows : List (List Bool)) (d v : ℕ) where
  abbrev marked_rows : List (List Bool)
  marked_rows = set rows d (set (get_or rows d []) v true)

  pub mark_kept : (c w : ℕ) → get_or (get_or rows c []) w false ≡ true → get_or (get_or marked_rows c []) w false ≡ true
  mark_kept c w h = search (rules, read_written, set)

  pub mark_cases : (c w : ℕ) → get_or (get_or marked_rows c []) w false ≡ true → (get_or (get_or rows c []) w false ≡ true)
      ⊎ ((c ≡ d) × (w ≡ v))
  mark_cases c w h = search (rules, read_written, set)

  pub mark_there : d < length rows → v < length (get_or rows d []) → get_or (get_or marked_rows d []) v false ≡ true
  mark_there less in_row = search (rules, get_or-set_same, set)

  pub mark_lengths : (c : ℕ) → length (get_or marked_rows c []) ≡ length (get_or rows c [])
  mark_lengths c = search (rules, read_written, set, length-set)

row_misses : (row : List Bool) (v : ℕ) → v < length row → get_or row v false ≡ false → suc (misses (set row v true)) ≡ misses row
row_misses [] v less h = absurd (omega arith)
row_misses (true ∷ row) zero less h = absurd cc
row_misses (false ∷ row) zero less h = refl
row_misses (true ∷ row) (suc v) less h = row_misses row v (omega arith) h
row_misses (false ∷ row) (suc v) less h = ap (λ n. suc n) (row_misses row v (omega arith) h)

all_misses : (rows : List (List Bool)) (d : ℕ) (row : List Bool) → d < length rows → suc (misses row) ≡ misses (get_or rows d [])
    → suc (unknowns (set rows d row)) ≡ unknowns rows
all_misses [] d row less h = absurd (omega arith)
all_misses (x ∷ rows) zero row less h = let e : suc (misses row) ≡ misses x = h in omega arith
all_misses (x ∷ rows) (suc d) row less h = let e = all_misses rows d row (omega arith) h in omega arith

module _ (spec : Spec) (f : Found) (F : IsFound spec f) where
  -- the end of a way is a CNode
  pub end_cnode : (c d : ℕ) (course : Course) → Leads spec f c d course → is_at spec kinds.CNode d ≡ true
  end_cnode c d (courses.Take t i) (cap, root, at, is, same) = quiet_cnode spec F.state F.quiet t d root
  end_cnode c d (courses.Put t i) (cap, root, at, is, same) = subst (λ (n : ℕ). is_at spec kinds.CNode n ≡ true) same is
  end_cnode c d (courses.Grant t i u j) (to, from, roots, own, listens, meet, may) =
      quiet_cnode spec F.state F.quiet u d roots.peer_root
  end_cnode c d (courses.Reply t i u j) (to, from, roots, own, listens, meet, may, back) =
      quiet_cnode spec F.state F.quiet t d roots.root

  -- the steps of a course bring what stands at a number
  goes_along : (c d n : ℕ) (course : Course) (cap : Cap) → Leads spec f c d course
      → content_in F.state c n ≡ Some (Capability cap) → Lands spec F.state d cap (steps_of course n)
  goes_along c d n (courses.Take t i) cap (to, root, at, is, same) there =
      take_on spec F.state F.quiet t d i n to cap root (F.there d i to at) is
      (subst (λ (k : ℕ). content_in F.state k n ≡ Some (Capability cap)) (sym same) there)
  goes_along c d n (courses.Put t i) cap (to, root, at, is, same) there =
      subst (λ (k : ℕ). Lands spec F.state k cap (steps_of (courses.Put t i) n)) same (put_on spec F.state F.quiet t c i n to cap
      root (F.there c i to at) is there)
  goes_along c d n (courses.Grant t i u j) cap (to, from, roots, own, listens, meet, may) there =
      grant_on spec F.state F.quiet t u c d i j n to from cap roots meet may (F.there c i to own) (F.there d j from listens) there
  goes_along c d n (courses.Reply t i u j) cap (to, from, roots, own, listens, meet, may, back) there =
      reply_on spec F.state F.quiet t u d c i j to from roots meet may (F.there d i to own) (F.there c j from listens) n
      cap back there

  module _ (c : ℕ) (way : Way) (held : Held) (leads : IsWay spec f c way) (has : Contains (held_by f c) held)
      (new_one : is_known f way.to held.value ≡ false) where
    abbrev next : ℕ
    next = get_or f.nexts way.to 0

    abbrev here : Held
    here = record { value = held.value; number = get_or f.nexts way.to 0 }

    less : way.to < length spec.entries
    less = is_at_below spec kinds.CNode way.to (end_cnode c way.to way.course leads)

    in_values : held.value < length f.values
    in_values = F.valued c held has

    value_is : (cap : Cap) × (slice_get f.values held.value ≡ Some cap)
    value_is = go (slice_get f.values held.value) refl in_values where
      go : (o : Option Cap) → slice_get f.values held.value ≡ o → held.value < length f.values
          → (cap : Cap) × (slice_get f.values held.value ≡ Some cap)
      go (Some cap) e below = (cap, e)
      go None e below = absurd (none_within f.values held.value e below)

    brought_there : content_in F.state c held.number ≡ Some (Capability value_is.0)
    brought_there = F.there c held.number value_is.0 (record { value = held.value; held = has; is = value_is.1 })

    lands : Lands spec F.state way.to value_is.0 (steps_of way.course held.number)
    lands = goes_along c way.to held.number way.course value_is.0 leads brought_there

    nexts_after : (k : ℕ) → (node_at lands.new k).next ≡ get_or (set f.nexts way.to (next + 1)) k 0
    nexts_after k = grind (arith, lands, value_is, cases_eq, get_or-set_same, less, get_or-set_other)

    there_after : (k i : ℕ) (cap : Cap) → HoldsAt (landed f way held) k i cap → content_in lands.new k i ≡ Some (Capability cap)
    there_after k i cap at = elim (more_cases f.held way.to here k (record { value = at.value; number = i }) at.held) [
      | inl old ↦ kept_at F.state.nodes lands.new.nodes k i (Capability cap) (lands_onward spec F.state F.quiet way.to value_is.0
          (steps_of way.course held.number) lands).kept
          (F.there k i cap (record { value = at.value; held = old; is = at.is }))
      | inr new ↦ (
          let number : (node_at F.state way.to).next ≡ i = F.nexts way.to ∙ ap (λ (h : Held). h.number) new.1 in
          let value : held.value ≡ at.value = ap (λ (h : Held). h.value) new.1 in
          let same : value_is.0 ≡ cap = search (rules, value_is, slice_get) in
          let e = landed_there spec F.state F.quiet way.to value_is.0 (steps_of way.course held.number)
          (end_cnode c way.to way.course leads) lands in
          rw (new.0, ← number, ← same) e)
    ]

    queued_after : (k : ℕ) (pair : Pair) → slice_get (landed f way held).queue k ≡ Some pair
        → Contains (held_by (landed f way held) pair.node) pair.held
    queued_after k pair h = elim (pushed_cases f.queue (record { node = way.to; held = here }) pair k h) [
      | inl old ↦ more_kept f.held way.to here pair.node pair.held (F.queued k pair old)
      | inr new ↦ subst (λ (p : Pair). Contains (held_by (landed f way held) p.node) p.held) new.1
          (more_there f.held way.to here (let e = F.row_held in let l = less in omega arith))
    ]

    known_after : (k v : ℕ) → is_known (landed f way held) k v ≡ true
        → (n : ℕ) × (pair : Pair) × (slice_get (landed f way held).queue n ≡ Some pair) × (pair.node ≡ k) × (pair.held.value ≡ v)
    known_after k v h = elim (mark_cases f.known way.to held.value k v h) [
      | inl old ↦ (let o = F.known k v old in
          (o.0, o.1, at_pushed f.queue (record { node = way.to; held = here }) o.1 o.0 o.2, o.3, o.4))
      | inr new ↦ (
        length f.queue,
        record { node = way.to; held = here },
        pushed_last f.queue (record { node = way.to; held = here }),
        sym new.0,
        sym new.1,
      )
    ]

    in_row : held.value < length (marks_of f way.to)
    in_row = let e = F.rows way.to (end_cnode c way.to way.course leads) in let l = in_values in omega arith

    known_there : is_known (landed f way held) way.to held.value ≡ true
    known_there = mark_there f.known way.to held.value (let e = F.row_each in let l = less in omega arith) in_row

    marked_after : (k : ℕ) (pair : Pair) → slice_get (landed f way held).queue k ≡ Some pair
        → is_known (landed f way held) pair.node pair.held.value ≡ true
    marked_after k pair h = search (rules, pushed_cases, mark_kept, known_there)

    valued_after : (k : ℕ) (y : Held) → Contains (held_by (landed f way held) k) y → y.value < length f.values
    valued_after k y h = elim (more_cases f.held way.to here k y h) [
      | inl old ↦ F.valued k y old
      | inr new ↦ subst (λ (z : Held). z.value < length f.values) new.1 in_values
    ]

    pub landed_brings : Brings spec f way held (landed f way held)
    landed_brings = record {
      found = record {
        state = lands.new;
        run = run_append spec f.steps (steps_of way.course held.number) (boot spec) F.state lands.new F.run lands.run;
        quiet = lands.quiet;
        nexts = nexts_after;
        there = there_after;
        queued = queued_after;
        known = known_after;
        marked = marked_after;
        valued = valued_after;
        rows = λ k is. mark_lengths f.known way.to held.value k ∙ F.rows k is;
        row_each = length-set f.known way.to (set (marks_of f way.to) held.value true) ∙ F.row_each;
        row_held = length-set f.held way.to (held_by f way.to ++ here ∷ []) ∙ F.row_held;
        row_nexts = length-set f.nexts way.to (next + 1) ∙ F.row_nexts;
      };
      grows = search (rules, more_kept, mark_kept, at_pushed);
      there = known_there;
      fewer = search (rules, all_misses, set, less, row_misses, in_row, length-append);
    }

  pub known_brings : (way : Way) (held : Held) → is_known f way.to held.value ≡ true → Brings spec f way held f
  known_brings way held h = search (rules)
