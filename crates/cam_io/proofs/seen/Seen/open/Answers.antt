use Rattle.cam_io.proofs.Common.{ap, arith, option_map, sym, ◌∙◌}
use Rattle.std.specs.Prelude.{take}
use Rattle.cam_io.proofs.Seeing.{begun_same}
use Rattle.cam_io.proofs.seen.Seen.open.Goals as goal

pub returns-in-Ok-clause-learns : goal.returns-in-Ok-clause-learns
returns-in-Ok-clause-learns c count file other f o same =
    begun_same count c.clear.new.self.items f.0 other (rw c.clear.ensures.items (omega arith))
    (ap (option_map (take count)) (sym f.1) ∙ same)
