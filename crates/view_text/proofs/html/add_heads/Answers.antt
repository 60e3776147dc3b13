use Rattle.view_text.proofs.Common.{Bor, List, ap, codes, flat_map, flat_map-map, sym, tagged, take_all, ℕ, ◌++◌, ◌∙◌}
use Rattle.view_text.proofs.html.add_heads.Goals as goal

pub returns : goal.returns
returns c =
    c.loop-head.invariant
    ∙ ap (λ hs. c.args.text.now ++ flat_map (λ (b : Bor (List ℕ)). tagged (codes "th") b.now) hs)
    (take_all c.loop-head.head-index c.args.heads.now c.loop-head-test.false)
    ∙ ap (λ t. c.args.text.now ++ t) (sym (flat_map-map (tagged (codes "th")) (λ (b : Bor (List ℕ)). b.now) c.args.heads.now))
