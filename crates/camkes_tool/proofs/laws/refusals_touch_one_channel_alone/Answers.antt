use Rattle.camkes_tool.proofs.Common.{Answer, Bool, Compiled, Explained, Generated, IsAsBefore, Listed, Told, arith, cond, false, inl, inr, is_assigned, is_well, refl, script, status_of, subst, sym, true}
use Rattle.camkes_tool.proofs.Common.{ℕ, ⊎_elim, ◌∙◌, ◌≡◌, ◌≢◌, ◌⊎◌}
use Rattle.camkes_tool.proofs.Leaving.{Spares, after_spared}
use Rattle.camkes_tool.proofs.laws.refusals_touch_one_channel_alone.Goals as goal

zero_or_three : (b : Bool) → ◌≡◌ {A = ℕ} (cond b 0 3) 0 ⊎ ◌≡◌ {A = ℕ} (cond b 0 3) 3
zero_or_three true = inl refl
zero_or_three false = inr refl

spares : (a : Answer) (k : ℕ) → status_of a ≢ 0 → status_of a ≢ 3 → k ≢ 1 → Spares k (script a)
spares (Compiled names b) k n t m = absurd (n refl)
spares (Listed o) k n t m = absurd (n refl)
spares (Generated o) k n t m = absurd (n refl)
spares (Explained o) k n t m = absurd (⊎_elim n t (zero_or_three (is_assigned o)))
spares (Told outcome) k n t m = absurd (⊎_elim n t (zero_or_three (is_well outcome)))
spares _ k n t m = (m, tt)

pub returns-clause-error : goal.returns-clause-error
returns-clause-error c answer status old new before now tells not_done not_no not_cut k m = elim tells.told [
  | inl t ↦
      subst (λ z. IsAsBefore k old z) (sym t.1) (after_spared k (script answer) old (spares answer k (λ e. not_done (t.0 ∙ e))
      (λ e. not_no (t.0 ∙ e)) m))
  | inr t ↦ absurd (not_cut t.0)
]

three : (a : Answer) (k : ℕ) → 3 ≡ status_of a → k ≢ 0 → Spares k (script a)
three (Explained o) k e n = (n, tt)
three (Listed o) k e n = (n, tt)
three (Generated o) k e n = (n, tt)
three (Told outcome) k e n = (n, tt)
three _ k e n = absurd cc

not_five : ◌≡◌ {A = ℕ} 3 5 → ⊥
not_five e = omega arith

pub returns-clause-output : goal.returns-clause-output
returns-clause-output c answer old new before now tells k n = elim tells.told [
  | inl t ↦ subst (λ z. IsAsBefore k old z) (sym t.1) (after_spared k (script answer) old (three answer k t.0 n))
  | inr t ↦ absurd (not_five t.0)
]
