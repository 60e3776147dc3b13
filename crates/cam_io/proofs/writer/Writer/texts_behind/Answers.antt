use Rattle.cam_io.proofs.Common.{Bor, List, [], ap, arith, flat_map, get_or, length, sym, take_all, ℕ, ◌≤◌}
use Rattle.cam_base.proofs.Joined.{together_map}
use Rattle.cam_io.proofs.Saying.{read_is, says_line}
use Rattle.cam_io.proofs.writer.Writer.texts_behind.Goals as goal

pub loop-text-preserved : goal.loop-text-preserved
loop-text-preserved g c =
    let xs = c.args.texts.now in
    let i = c.loop-text.text-index in
    says_line (λ t. t.now) xs i (get_or xs i record { ref_ptr = (0, 0); now = [] }) (omega arith) (read_is xs i _ (omega arith))
    c.loop-text.invariant c.text.ensures

pub returns : goal.returns
returns g c =
    let xs = c.args.texts.now in
    let past : length xs ≤ c.loop-text.text-index = omega arith in
    rw (
      together_map (λ (t : Bor (List ℕ)). t.now) xs,
      sym (ap (flat_map (λ (t : Bor (List ℕ)). t.now)) (take_all c.loop-text.text-index xs past)),
    ) c.loop-text.invariant
