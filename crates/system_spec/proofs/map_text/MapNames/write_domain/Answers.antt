-- write_domain
use Rattle.system_spec.proofs.Common.{says_then}
use Rattle.system_spec.proofs.map_text.MapNames.write_domain.Goals as goal

pub returns : goal.returns
returns g c =
    let path = rw c.domain_path.ensures at c.write_path.ensures in
    let root = rw c.of_root.ensures at c.prefix-root.ensures.is in
    let more = rw (c.prefix-cnode.ensures.is, root, c.as_bytes-number.ensures.value, c.format.ensures.text) at c.texts.ensures in
    says_then (says_then c.text.ensures path) more
