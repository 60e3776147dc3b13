-- A type and a name, written plainly and so that the next token decides.
use Rattle.adl_ast.proofs.Common.{Id, List, Meaning, More, None, Seen, Some, Spells, Value, [], ap, append-nil, append_assoc, inl, inr, refl, subst, sym, token_code, typed_of, typed_written, ℕ, ◌++◌, ◌∙◌, ◌≡◌}
use Rattle.adl_ast.specs.Forms.{typed_line}

Typed : Type 0
Typed = List (List ℕ) × Id

-- three lists after one another, grouped to the left and to the right
pub regroup : {T : Type 0} (a b c : List T) → a ++ (b ++ c) ≡ (a ++ b) ++ c
regroup a b c = sym (append_assoc a b c)

module _ (m : Meaning Seen Value) where
  pub typed_to : (y : List (List ℕ) × Id) (ts : List Seen) → Spells token_code m typed_line y ts
      → Spells token_code m typed_written y ts
  unfolding typed_line
  typed_to y ts s =
      let x : Id × More = s.0 in
      let t = s.2 in
      let u = t.4 in
      elim u.4 [
        | inl k ↦ elim k.2.4 [
          | inl j ↦
              let e : y ≡ typed_of x.0 (x.1.0, Some (k.0.0, Some j.0)) = s.1 ∙ ap (λ o. typed_of x.0 (x.1.0, o))
              (k.1 ∙ ap (λ o. Some (k.0.0, o)) j.1) in
              subst (λ (z : List (List ℕ) × Id). Spells token_code m typed_written z ts) (sym e) (
                t.0 ++ (u.0 ++ k.2.0),
                k.2.1,
                t.2 ∙ ap (λ (z : List Seen). t.0 ++ z) (u.2 ∙ ap (λ (z : List Seen). u.0 ++ z) k.2.2 ∙ regroup u.0 k.2.0 k.2.1)
                    ∙ regroup t.0 (u.0 ++ k.2.0) k.2.1,
                inr (inr ((x.0, (x.1.0, k.0.0)), refl, (t.0, u.0 ++ k.2.0, refl, t.3, (u.0, k.2.0, refl, u.3, k.2.3)))),
                j.2,
              )
          | inr n ↦
              let e : y ≡ typed_of x.0 (x.1.0, Some (k.0.0, None)) = s.1 ∙ ap (λ o. typed_of x.0 (x.1.0, o))
              (k.1 ∙ ap (λ o. Some (k.0.0, o)) n.0) in
              subst (λ (z : List (List ℕ) × Id). Spells token_code m typed_written z ts) (sym e) (
                t.0 ++ u.0,
                k.2.0,
                t.2 ∙ ap (λ (z : List Seen). t.0 ++ z) (u.2 ∙ ap (λ (z : List Seen). u.0 ++ z)
                    (k.2.2 ∙ ap (λ (z : List Seen). k.2.0 ++ z) n.1 ∙ append-nil k.2.0)) ∙ regroup t.0 u.0 k.2.0,
                inr (inl ((x.0, x.1.0), refl, (t.0, u.0, refl, t.3, u.3))),
                k.2.3,
              )
        ]
        | inr n ↦
            let e : y ≡ typed_of x.0 (x.1.0, None) = s.1 ∙ ap (λ o. typed_of x.0 (x.1.0, o)) n.0 in
            subst (λ (z : List (List ℕ) × Id). Spells token_code m typed_written z ts) (sym e) (
              t.0,
              u.0,
              t.2 ∙ ap (λ (z : List Seen). t.0 ++ z) (u.2 ∙ ap (λ (z : List Seen). u.0 ++ z) n.1 ∙ append-nil u.0),
              inl (x.0, refl, t.3),
              u.3,
            )
      ]

  pub typed_from : (y : List (List ℕ) × Id) (ts : List Seen) → Spells token_code m typed_written y ts
      → Spells token_code m typed_line y ts
  unfolding typed_line
  typed_from y ts s = elim s.3 [
    | inl k ↦
        ((k.0, (y.1, None)), ap (λ z. (z, y.1)) k.1, (s.0, s.1, s.2, k.2, (s.1, [], sym (append-nil s.1), s.4, inr (refl, refl))))
    | inr r ↦ elim r [
      | inl k ↦ (
        (k.0.0, (k.0.1, Some (y.1, None))),
        ap (λ z. (z, y.1)) k.1,
        (
          k.2.0,
          k.2.1 ++ s.1,
          s.2 ∙ ap (λ (z : List Seen). z ++ s.1) k.2.2 ∙ append_assoc k.2.0 k.2.1 s.1,
          k.2.3,
          (k.2.1, s.1, refl, k.2.4, inl ((y.1, None), refl, (s.1, [], sym (append-nil s.1), s.4, inr (refl, refl)))),
        ),
      )
      | inr k ↦
          let q = k.2.4 in (
            (k.0.0, (k.0.1.0, Some (k.0.1.1, Some y.1))),
            ap (λ z. (z, y.1)) k.1,
            (
              k.2.0,
              q.0 ++ (q.1 ++ s.1),
              s.2 ∙ ap (λ (z : List Seen). z ++ s.1) (k.2.2 ∙ ap (λ (z : List Seen). k.2.0 ++ z) q.2)
                  ∙ append_assoc k.2.0 (q.0 ++ q.1) s.1 ∙ ap (λ (z : List Seen). k.2.0 ++ z) (append_assoc q.0 q.1 s.1),
              k.2.3,
              (q.0, q.1 ++ s.1, refl, q.3, inl ((k.0.1.1, Some y.1), refl, (q.1, s.1, refl, q.4, inl (y.1, refl, s.4)))),
            ),
          )
    ]
  ]
