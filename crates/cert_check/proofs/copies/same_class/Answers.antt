use Rattle.cert_check.proofs.Common.{IsClassOf, None, Option, Some, ap, eqb-true, refl, subst, sym, true, ℕ, ◌==◌, ◌∙◌, ◌≡◌}
use Rattle.std.specs.Option.{option_eq}
use Rattle.cap_model.proofs.ClassNumbers.{class_alike}
use Rattle.cert_check.proofs.copies.same_class.Goals as goal

same_option : (m n : Option ℕ) → option_eq (λ a b. a == b) m n ≡ true → m ≡ n
same_option None None e = refl
same_option None (Some b) e = cc
same_option (Some a) None e = cc
same_option (Some a) (Some b) e = ap Some (eqb-true a b e)

pub returns : goal.returns
returns c h =
    let same : c.class_near.result ≡ c.class_near-2.result = same_option c.class_near.result c.class_near-2.result
    (sym c.eq.ensures ∙ h) in
    class_alike c.args.cert.now c.args.low c.args.high c.class_near.result c.class_near.ensures
    (subst (λ (n : Option ℕ). IsClassOf c.args.cert.now c.args.high n) (sym same) c.class_near-2.ensures)
