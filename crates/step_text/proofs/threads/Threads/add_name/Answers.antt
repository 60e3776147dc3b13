use Rattle.step_text.proofs.Common.{named, sym}
use Rattle.indexmap.specs.IndexMap.{get_by}
use Rattle.step_text.proofs.Adding.{inserted}
use Rattle.step_text.proofs.threads.Threads.add_name.Goals as goal

pub returns : goal.returns
returns c = inserted (λ n. get_by (named n) c.args.self.now.places) (λ n. get_by (named n) c.insert.new.self) c.args.name.now
    c.args.place (sym c.if-contains_key.ensures)
    (λ n. c.in_ok-insert.ensures.updates.0 (record { ref_ptr = (0, 0); now = n }))
