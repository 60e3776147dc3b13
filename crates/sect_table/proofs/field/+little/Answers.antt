use Rattle.sect_table.proofs.Common.{arith, drop, length, length-drop, take, ◌*◌, ◌+◌, ◌-◌, ◌<◌, ◌^◌, ◌≡◌, ◌≤◌}
use Rattle.std.proofs.lemmas.List.{length-take-le}
use Rattle.sect_table.proofs.Values.{byte_fits}
use Rattle.sect_table.proofs.field.+little.Goals as goal

pub overflow_mul-result : goal.overflow_mul-result
overflow_mul-result t c =
    let bs = c.args.bytes.now in
    let e = length-take-le (length bs - 1) (drop 1 bs) (omega (arith, length-drop 1 bs)) in
    let h = byte_fits c.little.result (length (take (length bs - 1) (drop 1 bs))) (omega (arith, e)) c.little.ensures.fits in
    omega (arith, h)

pub overflow_add-result : goal.overflow_add-result
overflow_add-result t c =
    let bs = c.args.bytes.now in
    let e = length-take-le (length bs - 1) (drop 1 bs) (omega (arith, length-drop 1 bs)) in
    let h = byte_fits c.little.result (length (take (length bs - 1) (drop 1 bs))) (omega (arith, e)) c.little.ensures.fits in
    let b = c.type_inv.bytes 0 in omega (arith, h, b)
