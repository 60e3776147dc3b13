use Rattle.system_spec.proofs.Common.{says_then, sym, ◌∙◌}
use Rattle.system_spec.proofs.map_text.MapNames.write_end.Goals as goal

pub returns-in-Some : goal.returns-in-Some
returns-in-Some g c =
    let leaf = rw c.leaf_path.ensures at c.write_path.ensures in
    let name = rw c.member_name-name.ensures at c.texts.ensures in
    let connection = rw c.connection_path.ensures at c.write_path-in-Some.ensures in
    rw (sym c.end_of.ensures ∙ c.in-Some.is) (says_then (says_then leaf name) connection)
