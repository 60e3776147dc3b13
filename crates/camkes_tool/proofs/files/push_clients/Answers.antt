use Rattle.camkes_tool.proofs.Common.{ap, append_assoc, decimal, ℕ, ◌++◌, ◌∙◌}
use Rattle.camkes_tool.proofs.Numbered.{added}
use Rattle.camkes_tool.proofs.files.push_clients.Goals as goal

pub loop-i-preserved : goal.loop-i-preserved
loop-i-preserved c =
    added (λ (i : ℕ). c.args.front.now ++ decimal i ++ c.args.back.now) c.loop-i.i c.args.text.now c.loop-i.text
    c.extend.new.self c.extend-in-loop-i.new.self c.extend-in-loop-i-2.new.self c.args.front.now (decimal c.loop-i.i)
    c.args.back.now
    c.loop-i.invariant c.in_ok-extend.ensures.ok
    (c.in_ok-extend-2.ensures.ok ∙ ap (λ z. c.extend.new.self ++ z) (c.as_bytes.ensures.value ∙ c.format.ensures.text))
    c.in_ok-extend-3.ensures.ok (append_assoc c.args.front.now (decimal c.loop-i.i) c.args.back.now)
