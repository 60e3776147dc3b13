-- The lines of interfaces, written plainly and so that the next token decides.
use Rattle.adl_ast.proofs.Common.{Id, List, Meaning, None, Option, Seen, Some, Spells, Value, [], among, ap, append_assoc, buf_code, cases_Bool, id_of, inl, inr, interface_of, interface_written, not_buf_codes, plain_code, refl, sym, token_code, true}
use Rattle.adl_ast.proofs.Common.{true_is_not_false, void_code, word_codes, ℕ, ◌++◌, ◌==◌, ◌∙◌, ◌∷◌, ◌≡◌, ◌⊎◌}
use Rattle.adl_ast.specs.declared.component.Interface.{Interface}
use Rattle.adl_ast.specs.declared.component.InterfaceKind.TheVariants as interfaces
use Rattle.adl_ast.specs.Forms.{interface_line, plain_port_line, buf_line, data_line, dataport_line}

not_buf_is_word : (c : ℕ) → among not_buf_codes c ≡ true → among word_codes c ≡ true
not_buf_is_word c h = elim (cases_Bool (c == plain_code)) [
  | inl p ↦ rw p refl
  | inr p ↦ elim (cases_Bool (c == void_code)) [
    | inl q ↦ rw (p, q) refl
    | inr q ↦ true_is_not_false (among not_buf_codes c) h
        (rw (p, q) refl)
  ]
]

buf_is_word : (c : ℕ) → among (buf_code ∷ []) c ≡ true → among word_codes c ≡ true
buf_is_word c h = elim (cases_Bool (c == plain_code)) [
  | inl p ↦ rw p refl
  | inr p ↦ elim (cases_Bool (c == void_code)) [ inl q ↦ rw (p, q) refl | inr q ↦ rw (p, q) h ]
]

buf_or_not : (c : ℕ) → among word_codes c ≡ true → (among (buf_code ∷ []) c ≡ true) ⊎ (among not_buf_codes c ≡ true)
buf_or_not c h = elim (cases_Bool (c == plain_code)) [
  | inl p ↦ inr (rw p refl)
  | inr p ↦ elim (cases_Bool (c == void_code)) [ inl q ↦ inr (rw (p, q) refl) | inr q ↦ inl (rw (p, q) at h) ]
]

three : {T : Type 0} (a b c d : List T) → (a ++ (b ++ c)) ++ d ≡ a ++ (b ++ (c ++ d))
three a b c d = append_assoc a (b ++ c) d ∙ ap (λ z. a ++ z) (append_assoc b c d)

four : {T : Type 0} (a b c d e : List T) → (a ++ (b ++ (c ++ d))) ++ e ≡ a ++ (b ++ (c ++ (d ++ e)))
four a b c d e = append_assoc a (b ++ (c ++ d)) e ∙ ap (λ z. a ++ z) (three b c d e)

module _ (m : Meaning Seen Value) where
  pub interface_to : (y : Interface) (ts : List Seen) → Spells token_code m interface_line y ts
      → Spells token_code m interface_written y ts
  unfolding interface_line plain_port_line dataport_line buf_line data_line
  interface_to y ts s =
      let x = s.0 in
      let t = s.2 in
      let u = t.4 in
      elim u.3 [
        | inl p ↦
            let w = p.0 in
            let q = p.2 in
            let r = q.4 in
            inl (
              (x.0, (w.0, (w.1.0, (w.1.1, x.1.1)))),
              s.1 ∙ ap (λ z. interface_of x.0 z) p.1,
              (
                t.0,
                q.0 ++ (r.0 ++ (r.1 ++ u.1)),
                t.2 ∙ ap (λ (z : List Seen). t.0 ++ z) (u.2 ∙ ap (λ (z : List Seen). z ++ u.1)
                    (q.2 ∙ ap (λ (z : List Seen). q.0 ++ z) r.2) ∙ three q.0 r.0 r.1 u.1),
                t.3,
                (q.0, r.0 ++ (r.1 ++ u.1), refl, q.3, (r.0, r.1 ++ u.1, refl, r.3, (r.1, u.1, refl, r.4, u.4))),
              ),
            )
        | inr p ↦
            let v = p.2.0 in
            let k = p.2.2 in
            let kind : x.1.0 ≡ (interfaces.Dataport, v.1) = p.1 ∙ ap (λ z. (interfaces.Dataport, z)) p.2.1 in
            elim k.4 [
              | inl b ↦
                  let z = b.0 in
                  let q = b.2 in
                  let r = q.4 in
                  let e : y ≡ interface_of x.0 (interfaces.Dataport, (id_of z.0, (z.1.0, z.1.1))) =
                  s.1 ∙ ap (λ o. interface_of x.0 o) (kind ∙ ap (λ o. (interfaces.Dataport, o)) b.1) in
                  elim r.3 [
                    | inl j ↦ inr (inr (
                      (x.0, (v.0, (z.0, (j.0, (z.1.1, x.1.1))))),
                      e ∙ ap (λ o. interface_of x.0 (interfaces.Dataport, (id_of z.0, (o, z.1.1)))) j.1,
                      (
                        t.0,
                        k.0 ++ (q.0 ++ (r.0 ++ (r.1 ++ u.1))),
                        t.2 ∙ ap (λ (o : List Seen). t.0 ++ o) (u.2 ∙ ap (λ (o : List Seen). o ++ u.1)
                            (k.2 ∙ ap (λ (o : List Seen). k.0 ++ o) (q.2 ∙ ap (λ (o : List Seen). q.0 ++ o) r.2))
                            ∙ four k.0 q.0 r.0 r.1 u.1),
                        t.3,
                        (
                          k.0,
                          q.0 ++ (r.0 ++ (r.1 ++ u.1)),
                          refl,
                          k.3,
                          (
                            q.0,
                            r.0 ++ (r.1 ++ u.1),
                            refl,
                            q.3,
                            (r.0, r.1 ++ u.1, refl, j.2, (r.1, u.1, refl, r.4, u.4)),
                          ),
                        ),
                      ),
                    ))
                    | inr n ↦ inr (inl (
                      (x.0, (v.0, (id_of z.0, (z.1.1, x.1.1)))),
                      e ∙ ap (λ o. interface_of x.0 (interfaces.Dataport, (id_of z.0, (o, z.1.1)))) n.0,
                      (
                        t.0,
                        k.0 ++ (q.0 ++ (r.1 ++ u.1)),
                        t.2 ∙ ap (λ (o : List Seen). t.0 ++ o) (u.2 ∙ ap (λ (o : List Seen). o ++ u.1)
                            (k.2 ∙ ap (λ (o : List Seen). k.0 ++ o) (q.2 ∙ ap (λ (o : List Seen). q.0 ++ o)
                            (r.2 ∙ ap (λ (o : List Seen). o ++ r.1) n.1))) ∙ three k.0 q.0 r.1 u.1),
                        t.3,
                        (
                          k.0,
                          q.0 ++ (r.1 ++ u.1),
                          refl,
                          k.3,
                          (
                            q.0,
                            r.1 ++ u.1,
                            refl,
                            (z.0, refl, (buf_is_word (token_code z.0) q.3.0, q.3.1)),
                            (r.1, u.1, refl, r.4, u.4),
                          ),
                        ),
                      ),
                    ))
                  ]
              | inr b ↦
                  let z = b.0 in
                  let q = b.2 in
                  inr (inl (
                    (x.0, (v.0, (id_of z.0, (z.1, x.1.1)))),
                    s.1 ∙ ap (λ o. interface_of x.0 o) (kind ∙ ap (λ o. (interfaces.Dataport, o)) b.1),
                    (
                      t.0,
                      k.0 ++ (q.0 ++ (q.1 ++ u.1)),
                      t.2 ∙ ap (λ (o : List Seen). t.0 ++ o) (u.2 ∙ ap (λ (o : List Seen). o ++ u.1)
                          (k.2 ∙ ap (λ (o : List Seen). k.0 ++ o) q.2) ∙ three k.0 q.0 q.1 u.1),
                      t.3,
                      (
                        k.0,
                        q.0 ++ (q.1 ++ u.1),
                        refl,
                        k.3,
                        (
                          q.0,
                          q.1 ++ u.1,
                          refl,
                          (z.0, refl, (not_buf_is_word (token_code z.0) q.3.0, q.3.1)),
                          (q.1, u.1, refl, q.4, u.4),
                        ),
                      ),
                    ),
                  ))
            ]
      ]

  pub interface_from : (y : Interface) (ts : List Seen) → Spells token_code m interface_written y ts
      → Spells token_code m interface_line y ts
  unfolding interface_line plain_port_line dataport_line buf_line data_line
  interface_from y ts (inl s) =
      let x = s.0 in
      let a = s.2 in
      let c = a.4 in
      let e = c.4 in
      let g = e.4 in (
        (x.0, ((x.1.0, (x.1.1.0, (None, x.1.1.1.0))), x.1.1.1.1)),
        s.1,
        (
          a.0,
          (c.0 ++ (e.0 ++ g.0)) ++ g.1,
          a.2 ∙ ap (λ (o : List Seen). a.0 ++ o) (c.2 ∙ ap (λ (o : List Seen). c.0 ++ o) (e.2 ∙ ap (λ (o : List Seen). e.0 ++ o)
              g.2) ∙ sym (three c.0 e.0 g.0 g.1)),
          a.3,
          (
            c.0 ++ (e.0 ++ g.0),
            g.1,
            refl,
            inl (
              (x.1.0, (x.1.1.0, x.1.1.1.0)),
              refl,
              (c.0, e.0 ++ g.0, refl, c.3, (e.0, g.0, refl, e.3, g.3)),
            ),
            g.4,
          ),
        ),
      )
  interface_from y ts (inr (inl s)) =
      let x = s.0 in
      let a = s.2 in
      let c = a.4 in
      let e = c.4 in
      let g = e.4 in
      let w = e.3 in
      let port : Id × (Option ℕ × Id) = (x.1.1.0, (None, x.1.1.1.0)) in
      let is : port ≡ (id_of w.0, (None, x.1.1.1.0)) = ap (λ o. (o, (None, x.1.1.1.0))) w.1 in (
        (x.0, ((interfaces.Dataport, port), x.1.1.1.1)),
        s.1,
        (
          a.0,
          (c.0 ++ (e.0 ++ g.0)) ++ g.1,
          a.2 ∙ ap (λ (o : List Seen). a.0 ++ o) (c.2 ∙ ap (λ (o : List Seen). c.0 ++ o) (e.2 ∙ ap (λ (o : List Seen). e.0 ++ o)
              g.2) ∙ sym (three c.0 e.0 g.0 g.1)),
          a.3,
          (
            c.0 ++ (e.0 ++ g.0),
            g.1,
            refl,
            inr (
              port,
              refl,
              (
                (x.1.0, port),
                refl,
                (
                  c.0,
                  e.0 ++ g.0,
                  refl,
                  c.3,
                  elim (buf_or_not (token_code w.0) w.2.0) [
                    | inl b ↦
                        inl ((w.0, (None, x.1.1.1.0)), is, (e.0, g.0, refl, (b, w.2.1), ([], g.0, refl, inr (refl, refl), g.3)))
                    | inr b ↦ inr ((w.0, x.1.1.1.0), is, (e.0, g.0, refl, (b, w.2.1), g.3))
                  ],
                ),
              ),
            ),
            g.4,
          ),
        ),
      )
  interface_from y ts (inr (inr s)) =
      let x = s.0 in
      let a = s.2 in
      let c = a.4 in
      let e = c.4 in
      let g = e.4 in
      let i = g.4 in
      let port : Id × (Option ℕ × Id) = (id_of x.1.1.0, (Some x.1.1.1.0, x.1.1.1.1.0)) in (
        (x.0, ((interfaces.Dataport, port), x.1.1.1.1.1)),
        s.1,
        (
          a.0,
          (c.0 ++ (e.0 ++ (g.0 ++ i.0))) ++ i.1,
          a.2 ∙ ap (λ (o : List Seen). a.0 ++ o) (c.2 ∙ ap (λ (o : List Seen). c.0 ++ o) (e.2 ∙ ap (λ (o : List Seen). e.0 ++ o)
              (g.2 ∙ ap (λ (o : List Seen). g.0 ++ o) i.2)) ∙ sym (four c.0 e.0 g.0 i.0 i.1)),
          a.3,
          (
            c.0 ++ (e.0 ++ (g.0 ++ i.0)),
            i.1,
            refl,
            inr (
              port,
              refl,
              (
                (x.1.0, port),
                refl,
                (
                  c.0,
                  e.0 ++ (g.0 ++ i.0),
                  refl,
                  c.3,
                  inl (
                    (x.1.1.0, (Some x.1.1.1.0, x.1.1.1.1.0)),
                    refl,
                    (e.0, g.0 ++ i.0, refl, e.3, (g.0, i.0, refl, inl (x.1.1.1.0, refl, g.3), i.3)),
                  ),
                ),
              ),
            ),
            i.4,
          ),
        ),
      )
