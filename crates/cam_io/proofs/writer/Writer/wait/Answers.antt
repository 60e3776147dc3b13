use Rattle.cam_io.proofs.Common.{Bor, List, [], ap, arith, drop, flat_map, get_or, length, length-append, refl, sym, take_all, ℕ, ◌+◌, ◌≤◌}
use Rattle.std.proofs.lemmas.List.{at_drop_more}
use Rattle.cam_base.proofs.Joined.{together_map}
use Rattle.cam_io.proofs.Saying.{read_is, says_line, says_waiting}
use Rattle.cam_io.proofs.writer.Writer.wait.Goals as goal

pub loop-text-preserved : goal.loop-text-preserved
loop-text-preserved g c =
    let xs = c.args.texts.now in
    let i = c.loop-text.text-index in
    let d : Bor (List ℕ) = record { ref_ptr = (0, 0); now = [] } in
    record {
      says = says_line (λ t. t.now) xs i (get_or xs i d) (omega arith) (read_is xs i d (omega arith)) c.loop-text.invariant.says
          (says_waiting refl refl refl c.in-Ok.ensures.ok);
      room =
          let now = λ (t : Bor (List ℕ)). t.now in
          let first = at_drop_more (λ ts. length (flat_map now ts)) xs i d (omega arith) in
          let parts = length-append (now (get_or xs i d)) (flat_map now (drop (i + 1) xs)) in
          let more = c.in-Ok.ensures.len in
          let before = c.loop-text.invariant.room in
          omega arith;
    }

pub returns : goal.returns
returns g c =
    let xs = c.args.texts.now in
    let past : length xs ≤ c.loop-text.text-index = omega arith in
    rw (
      together_map (λ (t : Bor (List ℕ)). t.now) xs,
      sym (ap (flat_map (λ (t : Bor (List ℕ)). t.now)) (take_all c.loop-text.text-index xs past)),
    ) c.loop-text.invariant.says
