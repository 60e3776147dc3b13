use Rattle.adl_settings.proofs.SettleCommon.{ap, arith, body, drop, drop_all, length, length-append, list_any, or-false, sym, ◌+◌, ◌||◌, ◌∙◌, ◌∷◌, [], ◌++◌}
use Rattle.adl_settings.proofs.TableSteps.{all_bodies, next_body}
use Rattle.adl_settings.proofs.Unvalued.{or_behind}
use Rattle.adl_settings.specs.Named.{gives, is_named}
use Rattle.adl_settings.proofs.names.all_names.Goals as goal

pub loop-number-preserved : goal.loop-number-preserved
loop-number-preserved c = λ n.
    let h = c.args.bodies.now in
    let k = c.loop-number.number in
    let next = next_body h k (omega (arith, c.loop-number-test.true, c.top_number-number-end.ensures.number)) in
    ap (λ b. b || list_any (gives n) (drop (k + 1) (all_bodies h))) (c.in_ok-add_body.ensures n)
    ∙ or_behind (is_named c.loop-number.names.keys n) (gives n c.body.result.now)
    (list_any (gives n) (drop (k + 1) (all_bodies h)))
    ∙ ap (λ b. is_named c.loop-number.names.keys n || (gives n b || list_any (gives n) (drop (k + 1) (all_bodies h))))
    c.body.ensures
    ∙ ap (λ bs. is_named c.loop-number.names.keys n || list_any (gives n) bs) (sym next) ∙ c.loop-number.invariant n

pub returns : goal.returns
returns c = λ n.
    let h = c.args.bodies.now in
    let k = c.loop-number.number in
    let names = c.loop-number.names.keys in
    let all =
    drop_all k (all_bodies h) (omega (
      arith,
      length-append h.bodies (h.top ∷ []),
      c.loop-number-test.false,
      c.top_number-number-end.ensures.number,
    )) in
    sym (or-false (is_named names n)) ∙ ap (λ bs. is_named names n || list_any (gives n) bs) (sym all) ∙ c.loop-number.invariant n
