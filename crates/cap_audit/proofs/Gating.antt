-- Threads by their roots, and callers by their endpoints.
use Rattle.std.proofs.Common.{rules}
use Rattle.cap_audit.proofs.Common.{AreGates, AreRosters, Bool, Found, IsKept, List, None, Option, Pair, Pick, Some, Spec, [], and_parts, ap, arith, caller_of, cases_lt, enrolled, eq-eqb, false, gated, inl, inr, is_at, is_at_below, length}
use Rattle.cap_audit.proofs.Common.{length-set, object_at, pick_of, refl, replicate, root_of, row_at, same_Some, slice_get, stand_in, subst, sym, true, with_more, ℕ, ◌&&◌, ◌++◌, ◌+◌, ◌<◌, ◌==◌, ◌||◌, ◌∙◌, ◌∷◌, ◌≡◌, ◌⊎◌}
use Rattle.cap_model.specs.declared.kind.Kind.TheVariants as kinds
use Rattle.cap_audit.proofs.Beginning.{root_inside}
use Rattle.cap_audit.proofs.InRows.{more_cases, more_kept, more_there, none_in_blank}
use Rattle.std.proofs.lemmas.List.{length-replicate}
use Rattle.cap_audit.specs.declared.picks.Wanted.TheVariants as wants
use Rattle.cap_audit.proofs.Picking.{picked, picked_from}

-- rosters

pub rosters_none : (spec : Spec) (rosters : List (List ℕ)) → rosters ≡ replicate (length spec.entries) []
    → AreRosters spec rosters 0
rosters_none spec rosters is = rw is (record {
  as_many = length-replicate (length spec.entries) [];
  rooted = λ c t h. absurd (none_in_blank (length spec.entries) c t h);
  every = λ c t less root. absurd (omega arith);
})

module _ (spec : Spec) (rosters : List (List ℕ)) (n : ℕ) (before : AreRosters spec rosters n) where
  -- an object that has no root
  pub rosters_past : root_of (object_at spec n) ≡ None → AreRosters spec rosters (n + 1)
  rosters_past is = search (rules, cases_lt)

  pub rosters_more : (d : ℕ) (new : List (List ℕ)) → IsKept spec → root_of (object_at spec n) ≡ Some d
      → new ≡ with_more rosters d n
      → AreRosters spec new (n + 1)
  rosters_more d new kept is made =
      let within : d < length rosters = (let less = root_inside spec n d kept is in let many = before.as_many in omega arith) in
      rw made (record {
        as_many = length-set rosters d (row_at rosters d ++ n ∷ []) ∙ before.as_many;
        rooted = λ c t h. elim (more_cases rosters d n c t h) [
          | inl old ↦ before.rooted c t old
          | inr now ↦ rw (now.0, ← now.1) is
        ];
        every = λ c t less root. elim (cases_lt t n) [
          | inl below ↦ more_kept rosters d n c t (before.every c t below root)
          | inr ge ↦ (
              let at : t ≡ n = omega arith in
              let here : root_of (object_at spec n) ≡ Some c = subst (λ (k : ℕ). root_of (object_at spec k) ≡ Some c) at root in
              rw (at, ← same_Some d c (sym is ∙ here)) (more_there rosters d n within))
        ];
      })

  pub rosters_by : (root : Option ℕ) (new : List (List ℕ)) → IsKept spec → root_of (object_at spec n) ≡ root
      → new ≡ enrolled rosters root n → AreRosters spec new (n + 1)
  rosters_by None new kept is made = subst (λ (rows : List (List ℕ)). AreRosters spec rows (n + 1)) (sym made) (rosters_past is)
  rosters_by (Some d) new kept is made = rosters_more d new kept is made

-- gates

pub gates_none : (spec : Spec) (f : Found) (heads : List ℕ) (gates : List (List Pair))
    → gates ≡ replicate (length spec.entries) []
    → AreGates spec f heads gates 0
gates_none spec f heads gates is = rw is (record {
  as_many = length-replicate (length spec.entries) [];
  may = λ o door h. absurd (none_in_blank (length spec.entries) o door h);
  every = λ k pair cap less there of wanted itself. absurd (omega arith);
})

-- the pick of one that may call
caller_picked : (spec : Spec) (f : Found) (heads : List ℕ) (pair : Pair) (pick : Pick) → caller_of spec f heads pair ≡ Some pick
    → pick_of spec f wants.Caller pair.held ≡ Some pick
caller_picked spec f heads pair pick is = search (rules)

caller_itself : (spec : Spec) (f : Found) (heads : List ℕ) (pair : Pair) → stand_in heads pair.node ≡ pair.node
    → caller_of spec f heads pair ≡ pick_of spec f wants.Caller pair.held
caller_itself spec f heads pair itself = let holds = eq-eqb (stand_in heads pair.node) pair.node itself in rw holds refl

module _ (spec : Spec) (f : Found) (heads : List ℕ) (gates : List (List Pair)) (n : ℕ) (pair : Pair)
    (at : slice_get f.queue n ≡ Some pair) (before : AreGates spec f heads gates n) where
  -- the pair at a place below n + 1
  places : (k : ℕ) (other : Pair) → k < n + 1 → slice_get f.queue k ≡ Some other → (k < n) ⊎ (pair ≡ other)
  places k other less there = search (rules, cases_lt, same_Some, slice_get)

  pub gates_past : caller_of spec f heads pair ≡ None → AreGates spec f heads gates (n + 1)
  gates_past none = search (rules, places, caller_itself, picked)

  pub gates_more : (pick : Pick) (new : List (List Pair)) → caller_of spec f heads pair ≡ Some pick
      → new ≡ with_more gates pick.cap.object pair → AreGates spec f heads new (n + 1)
  gates_more pick new is made =
      let from = picked_from spec f wants.Caller pair.held pick (caller_picked spec f heads pair pick is) in
      let parts = and_parts (is_at spec kinds.Endpoint pick.cap.object) (pick.cap.rights.write
      && (pick.cap.rights.grant || pick.cap.rights.reply)) from.2 in
      let below : pick.cap.object < length spec.entries = is_at_below spec kinds.Endpoint pick.cap.object parts.0 in
      let within : pick.cap.object < length gates = (let many = before.as_many in omega arith) in
      rw made (record {
        as_many = length-set gates pick.cap.object (row_at gates pick.cap.object ++ pair ∷ []) ∙ before.as_many;
        may = λ o x h. elim (more_cases gates pick.cap.object pair o x h) [
          | inl old ↦ before.may o x old
          | inr now ↦ rw (now.0, ← now.1)
              (record { cap = pick.cap; place = n; there = at; is = from.0; wanted = from.2; to = refl })
        ];
        every = λ k other cap less there of wanted itself. elim (places k other less there) [
          | inl small ↦ (let r = before.every k other cap small there of wanted itself in
              (r.0, more_kept gates pick.cap.object pair cap.object r.0 r.1, r.2))
          | inr one ↦ (
              let of_pair : slice_get f.values pair.held.value ≡ Some cap = search (rules, slice_get) in
              let cap_is : pick.cap ≡ cap = same_Some pick.cap cap (sym from.0 ∙ of_pair) in
              (pair, rw (← cap_is) (more_there gates pick.cap.object pair within), ap (λ (p : Pair). p.node) one))
        ];
      })

  pub gates_by : (pick : Option Pick) (new : List (List Pair)) → pick ≡ caller_of spec f heads pair → new ≡ gated gates pair pick
      → AreGates spec f heads new (n + 1)
  gates_by None new is made = subst (λ (rows : List (List Pair)). AreGates spec f heads rows (n + 1)) (sym made)
      (gates_past (sym is))
  gates_by (Some pick) new is made = gates_more pick new (sym is) made
