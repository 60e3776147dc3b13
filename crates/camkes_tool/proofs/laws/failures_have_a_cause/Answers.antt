use Rattle.camkes_tool.proofs.Common.{Answer, Bool, Build, Compiled, CutShort, Explained, Generated, IsCut, List, Listed, Sink, Some, TextNames, Told, Write, [], answer_text, arith, cond, false}
use Rattle.camkes_tool.proofs.Common.{generated_text, inl, inr, is_assigned, is_well, listing_text, said_as, same_Some, script, status_of, subst, text_of, texts_script, true, ℕ, ◌<◌, ◌∷◌, ◌≡◌, ◌≢◌, ◌≤◌}
use Rattle.camkes_tool.proofs.Leaving.{Spares, cut_spared}
use Rattle.camkes_tool.proofs.laws.failures_have_a_cause.Goals as goal

above : (k n : ℕ) → n ≤ 5 → 5 < k → k ≢ n
above k n l m e = absurd (omega (arith, l, m, e))

build_spares : (k : ℕ) (names : TextNames) (b : Build) → 5 < k → Spares k (texts_script names b)
build_spares k names b l =
    let two = above k 2 (omega arith) l in
    let three = above k 3 (omega arith) l in
    let four = above k 4 (omega arith) l in
    let five = above k 5 (omega arith) l in
    (two, (two, (three, (three, (four, (four, (five, (five, (above k 0 (omega arith) l, tt)))))))))

spares : (a : Answer) (k : ℕ) → 5 < k → Spares k (script a)
spares (Compiled names b) k l = build_spares k names b l
spares (Listed o) k l = (above k 0 (omega arith) l, tt)
spares (Explained o) k l = (above k 0 (omega arith) l, tt)
spares (Told outcome) k l = (above k 0 (omega arith) l, tt)
spares (Generated o) k l = (above k 0 (omega arith) l, tt)
spares _ k l = (above k 1 (omega arith) l, tt)

five_is_none : (b : Bool) → ◌≡◌ {A = ℕ} 5 (cond b 0 3) → ⊥
five_is_none true e = cc
five_is_none false e = cc

not_five : (a : Answer) → 5 ≡ status_of a → ⊥
not_five (Explained o) e = five_is_none (is_assigned o) e
not_five (Told outcome) e = five_is_none (is_well outcome) e
not_five _ e = cc

pub returns-clause-cause : goal.returns-clause-cause
returns-clause-cause c answer old new before now tells = elim tells.told [
  | inl t ↦ absurd (not_five answer t.0)
  | inr t ↦ (t.1, λ k l. cut_spared k (script answer) old new (spares answer k l) t.2)
]

pub returns-clause-front : goal.returns-clause-front
returns-clause-front c answer old new before now names b tells is = elim tells.told [
  | inl t ↦ absurd (not_five answer t.0)
  | inr t ↦ subst (λ z. CutShort old (script z) new) is t.2
]

is_said : (text told : List ℕ) (old new : Sink) → Some told ≡ Some text → CutShort old (Write 0 told ∷ []) new
    → IsCut old 0 text new
is_said text told old new e (inl cut) = subst (λ z. IsCut old 0 z new) (same_Some told text e) cut
is_said text told old new e (inr none) = absurd none

said : (a : Answer) (old new : Sink) (text : List ℕ) → said_as a ≡ Some text → CutShort old (script a) new → IsCut old 0 text new
said (Listed o) old new text e cut = is_said text (listing_text o) old new e cut
said (Explained o) old new text e cut = is_said text (answer_text o) old new e cut
said (Told o) old new text e cut = is_said text (text_of o) old new e cut
said (Generated o) old new text e cut = is_said text (generated_text o) old new e cut
said _ old new text e cut = absurd cc

pub returns-clause-said : goal.returns-clause-said
returns-clause-said c answer old new before now text tells is = elim tells.told [
  | inl t ↦ absurd (not_five answer t.0)
  | inr t ↦ said answer old new text is t.2
]
