-- The parameters of a method, written plainly and so that the next token decides.
use Rattle.adl_ast.proofs.Common.{Bool, List, Meaning, More, None, Params, Seen, Some, Spells, Value, [], among, ap, append-nil, append_assoc, brackets, cases_Bool, false, first_param, id_of, inl, inr, more_params, more_words, not_void_codes}
use Rattle.adl_ast.proofs.Common.{param_form, param_of, params_written, plain_code, refl, subst, sym, token_code, true, true_is_not_false, typed_of, void_code, void_params_of, word_codes, ℕ, ◌++◌, ◌==◌, ◌∙◌, ◌∷◌, ◌≡◌, ◌⊎◌}
use Rattle.adl_ast.specs.declared.procedure.Param.{Param}
use Rattle.adl_ast.specs.Forms.{typed_line, param_line, directed_line, undirected_line, void_params_line, other_params_line, params_line}
use Rattle.adl_ast.proofs.TypedNames.{regroup}

-- a word that isn't void is a word, and each word is void or not
not_void_is_word : (c : ℕ) → among not_void_codes c ≡ true → among word_codes c ≡ true
not_void_is_word c h = elim (cases_Bool (c == plain_code)) [
  | inl p ↦ rw p refl
  | inr p ↦ elim (cases_Bool (c == void_code)) [ inl q ↦ rw (p, q) refl | inr q ↦ rw (p, q) (rw p at h) ]
]

void_is_word : (c : ℕ) → among (void_code ∷ []) c ≡ true → among word_codes c ≡ true
void_is_word c h = elim (cases_Bool (c == plain_code)) [
  | inl p ↦ rw p refl
  | inr p ↦ elim (cases_Bool (c == void_code)) [
    | inl q ↦ rw (p, q) refl
    | inr q ↦ true_is_not_false (among (void_code ∷ []) c) h
        (rw q refl)
  ]
]

void_or_not : (c : ℕ) → among word_codes c ≡ true → (among (void_code ∷ []) c ≡ true) ⊎ (among not_void_codes c ≡ true)
void_or_not c h = elim (cases_Bool (c == plain_code)) [
  | inl p ↦ inr (rw p refl)
  | inr p ↦ elim (cases_Bool (c == void_code)) [ inl q ↦ inl (rw q refl) | inr q ↦ inr (rw p (rw (p, q) at h)) ]
]

module _ (m : Meaning Seen Value) where
  -- a parameter without a direction
  undirected : (t : Seen) (more : More) (array : Bool) (g h d : List Seen) → among word_codes (token_code t) ≡ true → g ≡ t ∷ []
      → Spells token_code m more_words more h → Spells token_code m brackets array d
      → Spells token_code m param_form (param_of None (typed_of (id_of t) more) array) (g ++ (h ++ d))
  unfolding param_line typed_line
  undirected t more array g h d word is s b = (
    (None, (typed_of (id_of t) more, array)),
    refl,
    (
      [],
      g ++ (h ++ d),
      refl,
      inr (refl, refl),
      (g ++ h, d, regroup g h d, ((id_of t, more), refl, (g, h, refl, (t, refl, (word, is)), s)), b),
    ),
  )

  first_is_param : (p : Param) (a : List Seen) → Spells token_code m first_param p a → Spells token_code m param_form p a
  unfolding param_line directed_line undirected_line
  first_is_param p a (inl s) = ((Some s.0.0, s.0.1), s.1, (s.2.0, s.2.1, s.2.2, inl (s.0.0, refl, s.2.3), s.2.4))
  first_is_param p a (inr s) =
      let t = s.2 in
      let u = t.4 in
      subst (λ (z : List Seen). Spells token_code m param_form p z) (sym (t.2 ∙ ap (λ (z : List Seen). t.0 ++ z) u.2))
      (subst (λ (z : Param). Spells token_code m param_form z (t.0 ++ (u.0 ++ u.1))) (sym s.1)
      (undirected s.0.0 s.0.1.0 s.0.1.1 t.0 u.0 u.1 (not_void_is_word (token_code s.0.0) t.3.0) t.3.1 u.3 u.4))

  pub params_to : (y : Params) (ts : List Seen) → Spells token_code m params_line y ts → Spells token_code m params_written y ts
  unfolding params_line void_params_line other_params_line
  params_to y ts (inl s) =
      let t = s.2 in
      elim t.4 [
        | inl k ↦
            let u = k.2 in
            let w = u.4 in
            let v = id_of s.0.0 in
            let all : List Param = param_of None (typed_of v k.0.0) k.0.1.0 ∷ k.0.1.1 in
            let first = undirected s.0.0 k.0.0 k.0.1.0 t.0 u.0 w.0 (void_is_word (token_code s.0.0) t.3.0) t.3.1 u.3 w.3 in
            inr (inl (
              all,
              s.1 ∙ ap (λ o. void_params_of v o) k.1,
              (
                (param_of None (typed_of v k.0.0) k.0.1.0, k.0.1.1),
                refl,
                (
                  t.0 ++ (u.0 ++ w.0),
                  w.1,
                  t.2 ∙ ap (λ (z : List Seen). t.0 ++ z) (u.2 ∙ ap (λ (z : List Seen). u.0 ++ z) w.2 ∙ regroup u.0 w.0 w.1)
                      ∙ regroup t.0 (u.0 ++ w.0) w.1,
                  first,
                  w.4,
                ),
              ),
            ))
        | inr n ↦ inl (
          s.0.0,
          s.1 ∙ ap (λ o. void_params_of (id_of s.0.0) o) n.0,
          (t.3.0, t.2 ∙ ap (λ (z : List Seen). t.0 ++ z) n.1 ∙ append-nil t.0 ∙ t.3.1),
        )
      ]
  params_to y ts (inr (inl s)) =
      inr (inl (s.0.0 ∷ s.0.1, s.1, (s.0, refl, (s.2.0, s.2.1, s.2.2, first_is_param s.0.0 s.2.0 s.2.3, s.2.4))))
  params_to y ts (inr (inr s)) = inr (inr s)

  -- parameters that begin with one without a direction
  from_undirected : (y : Params) (t : Seen) (more : More) (array : Bool) (p : Param) (ps : List Param) (g h d b : List Seen)
      → y ≡ (false, p ∷ ps) → p ≡ param_of None (typed_of (id_of t) more) array
      → among word_codes (token_code t) ≡ true → g ≡ t ∷ [] → Spells token_code m more_words more h
      → Spells token_code m brackets array d → Spells token_code m more_params ps b
      → Spells token_code m params_line y ((g ++ (h ++ d)) ++ b)
  unfolding params_line void_params_line other_params_line undirected_line
  from_undirected y t more array p ps g h d b e is word one s br rest = elim (void_or_not (token_code t) word) [
    | inl v ↦ inl (
      (t, Some (more, (array, ps))),
      e ∙ ap (λ z. (false, z ∷ ps)) is,
      (
        g,
        h ++ (d ++ b),
        append_assoc g (h ++ d) b ∙ ap (λ (z : List Seen). g ++ z) (append_assoc h d b),
        (v, one),
        inl ((more, (array, ps)), refl, (h, d ++ b, refl, s, (d, b, refl, br, rest))),
      ),
    )
    | inr v ↦
        inr
        (inl (
          (p, ps),
          e,
          (
            g ++ (h ++ d),
            b,
            refl,
            inr ((t, (more, array)), is, (g, h ++ d, refl, (v, one), (h, d, refl, s, br))),
            rest,
          ),
        ))
  ]

  pub params_from : (y : Params) (ts : List Seen) → Spells token_code m params_written y ts → Spells token_code m params_line y ts
  unfolding params_line void_params_line other_params_line directed_line param_line typed_line
  params_from y ts (inl s) = inl ((s.0, None), s.1, (s.0 ∷ [], [], s.2.1, (s.2.0, refl), inr (refl, refl)))
  params_from y ts (inr (inr s)) = inr (inr s)
  params_from y ts (inr (inl s)) =
      let l = s.2 in
      let x = l.0 in
      let e : y ≡ (false, x.0 ∷ x.1) = s.1 ∙ ap (λ z. (false, z)) l.1 in
      let t = l.2 in
      let p = t.3 in
      let z = p.0 in
      let u = p.2 in
      elim u.3 [
        | inl j ↦
            inr
            (inl (
              x,
              e,
              (
                t.0,
                t.1,
                t.2,
                inl ((j.0, z.1), p.1 ∙ ap (λ o. param_of o z.1.0 z.1.1) j.1, (u.0, u.1, u.2, j.2, u.4)),
                t.4,
              ),
            ))
        | inr n ↦
            let q = u.4 in
            let w = q.3 in
            let g = w.2 in
            let of : x.0 ≡ param_of None (typed_of (id_of g.3.0) w.0.1) z.1.1 = p.1 ∙ ap (λ o. param_of o z.1.0 z.1.1) n.0
            ∙ ap (λ o. param_of None o z.1.1) (w.1 ∙ ap (λ i. typed_of i w.0.1) g.3.1) in
            subst (λ (k : List Seen). Spells token_code m params_line y k)
            (sym (t.2 ∙ ap (λ (k : List Seen). k ++ t.1) (u.2 ∙ ap (λ (k : List Seen). k ++ u.1) n.1 ∙ q.2
            ∙ ap (λ (k : List Seen). k ++ q.1) g.2 ∙ append_assoc g.0 g.1 q.1)))
            (from_undirected y g.3.0 w.0.1 z.1.1 x.0 x.1 g.0 g.1 q.1 t.1 e of g.3.2.0 g.3.2.1 g.4 q.4 t.4)
      ]
