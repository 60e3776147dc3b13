use Rattle.adl_import.proofs.Common.{arith, false, files_limit, length, sym, true, ◌<◌, ◌∙◌, ◌≤◌}
use Rattle.adl_import.proofs.Known.{meet-known, meet-full, meet-new}
use Rattle.adl_import.proofs.imports.meet.Goals as goal

pub returns-then-contains_key : goal.returns-then-contains_key
returns-then-contains_key c = meet-known c.args.known.now.entries c.args.place c.args.name (sym c.contains_key.ensures
    ∙ c.if-contains_key.true)

pub returns-then-len-ge-FILES_LIMIT : goal.returns-then-len-ge-FILES_LIMIT
returns-then-len-ge-FILES_LIMIT c =
    let full : files_limit ≤ length c.args.known.now.entries = omega (arith, c.len.ensures.len) in
    meet-full c.args.known.now.entries c.args.place c.args.name c.in_ok-fault_at.field-0 (sym c.contains_key.ensures
    ∙ c.if-contains_key.false) full c.in_ok-fault_at.ensures

pub returns : goal.returns
returns c =
    let room : length c.args.known.now.entries < files_limit = omega (arith, c.len.ensures.len) in
    meet-new c.args.known.now.entries c.insert.new.self.entries c.args.place c.args.name (sym c.contains_key.ensures
    ∙ c.if-contains_key.false) room c.in_ok-insert.ensures.entries
