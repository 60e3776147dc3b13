use Rattle.capdl_write.proofs.Common.{Cap, List, Spec, [], arith, codes, flat_map, length, refl, says_nothing, slot_line, slots_text, ℕ, ◌<◌, ◌∷◌, ◌≡◌}
use Rattle.cam_base.specs.Texts.{◌⊹◌, together}
use Rattle.capdl_write.proofs.holder.write_slots.Goals as goal

empty : (spec : Spec) (name : List ℕ) (slots : List (ℕ × Cap)) → length slots ≡ 0 → slots_text spec name slots ≡ []
empty spec name [] e = refl
empty spec name (slot ∷ slots) e = absurd (omega arith)

filled : (spec : Spec) (name : List ℕ) (slots : List (ℕ × Cap)) → 0 < length slots
    → slots_text spec name slots ≡ together (name ∷ codes " {\n" ∷ []) ⊹ flat_map (slot_line spec) slots ⊹ codes "}\n"
filled spec name [] h = absurd (omega arith)
filled spec name (slot ∷ slots) h = refl

pub returns-then-is_empty : goal.returns-then-is_empty
returns-then-is_empty g c = rw (empty c.args.spec.now c.args.name.now c.args.slots.now (grind arith)) says_nothing

pub returns : goal.returns
returns g c = rw (filled c.args.spec.now c.args.name.now c.args.slots.now (grind arith)) c.write_some_slots.ensures
