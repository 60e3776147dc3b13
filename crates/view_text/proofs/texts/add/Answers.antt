use Rattle.view_text.proofs.Common.{Bor, List, ap, flat_map, sym, take_all, ℕ, ◌++◌, ◌∙◌}
use Rattle.cam_base.proofs.Joined.{together_map}
use Rattle.view_text.proofs.texts.add.Goals as goal

pub returns : goal.returns
returns c =
    c.loop-part.invariant
    ∙ ap (λ ps. c.args.text.now ++ flat_map (λ (p : Bor (List ℕ)). p.now) ps) (take_all c.loop-part.part-index c.args.parts.now
    c.loop-part-test.false)
    ∙ ap (λ t. c.args.text.now ++ t) (sym (together_map (λ (p : Bor (List ℕ)). p.now) c.args.parts.now))
