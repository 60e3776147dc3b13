-- Marks of the bodies that the assembly holds.
use Rattle.adl_flatten.proofs.TemplateCommon.{All, AreHeld, Bool, Hierarchy, IsIn, IsInnerFirst, IsReady, List, Part, and_from, and_parts, ap, arith, body, cases_eq, eq-eqb, eqb-true, false, from_any, get_or, graph, has, inl, inner_filled, inr, leaves_in, length, list_any, list_any_at, list_any_more, ne_eqb, or_cases, or_left, or_right, order_below, place_of, refl, subst, sym, take, true, true≢false, ℕ, ◌&&◌, ◌+◌, ◌<◌, ◌==◌, ◌^◌, ◌||◌, ◌∙◌, ◌≡◌, ◌⊎◌}
use Rattle.adl_flatten.proofs.Bounds.{room}

-- one place of the order less
pub held_more : (h : Hierarchy) → IsReady h → (order : List ℕ) → IsInnerFirst (graph h) order → (n m : ℕ) (old new : List Bool)
    → n < length order → m ≡ n + 1 → AreHeld h (take m order) old
    → length new ≡ length old
    → ((k : ℕ)
    → get_or new k false ≡ (get_or old k false || (get_or old (get_or order n 0) false && list_any (λ x. k == x.kind)
    (body h (get_or order n 0)).parts)))
    → AreHeld h (take n order) new
held_more h ready order o n m old new l next held long put =
    let number = get_or order n 0 in
    let parts = (body h number).parts in
    let low = order_below h order n o l in
    let still : (k : ℕ) → get_or old k false ≡ true → get_or new k false ≡ true = λ k e. put k ∙ or_left _ _ e in
    let origin : (k : ℕ) → get_or new k false ≡ true → (get_or old k false ≡ true) ⊎ ((x : Part) × IsIn x parts × (x.kind ≡ k)
    × (get_or old number false ≡ true)) = λ k m.
    elim (or_cases (get_or old k false) (get_or old number false && list_any (λ (x : Part). k == x.kind) parts)
    (sym (put k) ∙ m)) [
      | inl e ↦ inl e
      | inr e ↦
          let both = and_parts (get_or old number false) (list_any (λ (x : Part). k == x.kind) parts) e in
          let x = from_any (λ (x : Part). k == x.kind) parts both.1 in
          inr (x.0, x.1, sym (eqb-true k x.0.kind x.2), both.0)
    ] in
    record {
      length_is = long ∙ held.length_is;
      top = still (length h.bodies) held.top;
      few = λ k b m. elim (origin k m) [
        | inl e ↦ held.few k b e
        | inr x ↦
            let at = place_of x.0 parts x.1 in
            let r = room h ready number at.0 x.0 low at.1 in
            let few = held.few number low x.3 in
            let P : ℕ → Type 0 = λ k. length (leaves_in h k) < 2 ^ 32 in
            subst P x.2 (omega (arith, r, few))
      ];
      inner = λ k b out m. elim (origin k m) [
        | inl e ↦ elim (cases_eq k number) [
          | inl q ↦
              let P : ℕ → Type 0 = λ k. get_or old k false ≡ true in
              let Q : ℕ → Type 0 = λ k. All (λ x. get_or new x.kind false ≡ true) (body h k).parts in
              subst Q (sym q)
              (λ j d at. put _ ∙ or_right _ _ (and_from _ _ (subst P q e) (list_any_at _ parts j d at (eq-eqb _ _ refl))))
          | inr q ↦
              λ j d at. still _ (held.inner k b (ap (λ m. has (take m order) k) next ∙ list_any_more (λ y. k == y) order n 0 l
              ∙ ap (λ c. c || (k == number)) out ∙ ne_eqb k number q) e j d at)
        ]
        | inr x ↦ let P : ℕ → Type 0 = λ k. has (take n order) k ≡ true in
            absurd (true≢false (sym (subst P x.2 (inner_filled h order n x.0 o l x.1)) ∙ out))
      ];
    }
