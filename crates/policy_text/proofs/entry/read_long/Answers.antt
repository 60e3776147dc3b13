use Rattle.policy_text.proofs.Common.{List, ap, entry_of, sym, ℕ, ◌∙◌, ◌∷◌}
use Rattle.policy_text.proofs.Cutting.{five_fields}
use Rattle.policy_text.proofs.entry.read_long.Goals as goal

pub returns-in-Some : goal.returns-in-Some
returns-in-Some c =
    let parts = rw c.in-Some.is at c.cut.ensures in
    sym (ap (λ (fs : List (List ℕ)). entry_of c.args.kind (c.args.word.now ∷ c.args.from.now ∷ c.args.authority.now ∷ fs)) parts
    ∙ five_fields c.args.kind c.args.word.now c.args.from.now c.args.authority.now c.cut.result.0.now c.in-Some.field-0.now)
