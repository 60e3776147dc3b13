use Rattle.system_spec.proofs.Common.{List, arith, says_line, says_lines, says_more, says_nothing, ℕ, ◌∷◌}
use Rattle.system_spec.proofs.map_text.write_dotted.Goals as goal

pub loop-name-init : goal.loop-name-init
loop-name-init g c = says_nothing

pub loop-name-preserved : goal.loop-name-preserved
loop-name-preserved g c =
    let named = says_more c.text.ensures (rw c.as_bytes.ensures.bytes at c.text-in-loop-name.ensures) in
    says_line (λ (name : List ℕ). 46 ∷ name) c.args.names.now c.loop-name.name-index c.name-item.result (omega arith)
    c.name-item.is c.loop-name.invariant named

pub returns : goal.returns
returns g c =
    says_lines (λ (name : List ℕ). 46 ∷ name) c.args.names.now c.loop-name.name-index (omega arith) c.loop-name.invariant
