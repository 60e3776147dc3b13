use Rattle.system_spec.proofs.Common.{says_more}
use Rattle.system_spec.proofs.map_text.write_path.Goals as goal

pub returns-in-Some : goal.returns-in-Some
returns-in-Some g c =
    let first = rw c.as_bytes.ensures.bytes at c.text.ensures in
    rw c.in-Some.ensures.cases.0 (says_more first c.write_dotted.ensures)
