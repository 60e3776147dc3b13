use Rattle.view_tool.proofs.PageCommon.{codes, devices_part, domain_parts, files_part, matrix_part, page_head, summary_part, theorem, told, ◌++◌}
use Rattle.arch_compile.specs.Summary.{summary_of}
use Rattle.view_tool.proofs.Adding.{and_last, and_then}
use Rattle.view_tool.proofs.page.add_parts.Goals as goal

pub returns : goal.returns
returns c =
    let text = c.args.text.now in
    let p = told c.args.page.now in
    let to_theorem = page_head p.root ++ theorem in
    let to_files = to_theorem ++ files_part p.names.source in
    let numbers = summary_part (summary_of p.names.flat p.names.spec p.policy.edges) in
    let to_summary = to_files ++ numbers in
    let to_devices = to_summary ++ devices_part p.names p.settled in
    let to_matrix = to_devices ++ matrix_part p.policy p.notes in
    let to_heading = to_matrix ++ codes "<h2>Domains</h2>\n" in
    let head = and_then text c.add_head.new.text c.add_theorem.new.text (page_head p.root) theorem c.in_ok-add_head.ensures
    c.in_ok-add_theorem.ensures in
    let files = and_then text c.add_theorem.new.text c.add_files.new.text to_theorem (files_part p.names.source) head
    c.in_ok-add_files.ensures in
    let summary =
    and_then text c.add_files.new.text c.add_summary.new.text to_files numbers files
    (rw c.of-summary.ensures at c.in_ok-add_summary.ensures) in
    let devices =
    and_then text c.add_summary.new.text c.add_devices.new.text to_summary (devices_part p.names p.settled) summary
    c.in_ok-add_devices.ensures in
    let matrix =
    and_then text c.add_devices.new.text c.add_matrix_part.new.text to_devices (matrix_part p.policy p.notes) devices
    c.in_ok-add_matrix_part.ensures in
    let heading =
    and_then text c.add_matrix_part.new.text c.extend.new.self to_matrix (codes "<h2>Domains</h2>\n") matrix
    c.in_ok-extend.ensures.ok in
    let domains =
    and_then text c.extend.new.self c.add_domains.new.text to_heading (domain_parts p.names p.map) heading
    c.in_ok-add_domains.ensures in
    and_last c.extend-2.result text c.add_domains.new.text c.extend-2.new.self (to_heading ++ domain_parts p.names p.map)
    (codes "</body>\n</html>\n") domains c.extend-2.ensures.ok
