use Rattle.adl_import.proofs.Common.{Limit, List, NoFile, ap, codes, fault_at, ℕ, ◌∙◌}
use Rattle.cam_base.specs.declared.error.Unread.TheVariants as error
use Rattle.adl_import.proofs.Turning.{read_ok, read_absent, read_too_long}
use Rattle.adl_import.proofs.turn.read_file.Goals as goal

pub returns-in-Ok-clause-read : goal.returns-in-Ok-clause-read
returns-in-Ok-clause-read g c m told =
    read_ok m c.args.done.now c.args.name.now c.args.place c.in-Ok.bytes c.parsed.result (c.in-Ok.ensures.whole m told)
    c.in-Ok.ensures.limit c.parsed.ensures

pub returns-in_ok-fault_where_met-in-Err-Absent-clause-read : goal.returns-in_ok-fault_where_met-in-Err-Absent-clause-read
returns-in_ok-fault_where_met-in-Err-Absent-clause-read g c m told =
    read_absent m c.args.done.now c.args.name.now c.args.place c.in_ok-fault_where_met-in-Err-Absent.field-0
    (c.in_ok-fault_where_met-in-Err-Absent.ensures
    ∙ ap (λ (l : List ℕ). error.Fault (fault_at NoFile c.args.place l) c.met_in.result.now) c.as_bytes.ensures
    ∙ ap (λ (l : List ℕ). error.Fault (fault_at NoFile c.args.place c.args.name.now) l) c.met_in.ensures)
    (rw c.in-Err-Absent.field-0-is at (c.in-Err-Absent.ensures.whole m told))

pub returns-in_ok-fault_where_met-in-Err-TooLong-clause-read : goal.returns-in_ok-fault_where_met-in-Err-TooLong-clause-read
returns-in_ok-fault_where_met-in-Err-TooLong-clause-read g c m told =
    read_too_long m c.args.done.now c.args.name.now c.args.place c.in_ok-fault_where_met-in-Err-TooLong.field-0
    (c.in_ok-fault_where_met-in-Err-TooLong.ensures
    ∙ ap (λ (l : List ℕ). error.Fault (fault_at Limit c.args.place (codes "file size")) l) c.met_in-in-Err-TooLong.ensures)
    (rw c.in-Err-TooLong.field-0-is at (c.in-Err-TooLong.ensures.whole m told))
