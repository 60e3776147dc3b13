use Rattle.cam_base.proofs.Common.{None, at_drop_all, at_drop_more, digit_value, digits_value, digits_value_after, drop, fits, get_or, sym, true, ◌*◌, ◌+◌, ◌∙◌, ◌≡◌, ◌≤◌}
use Rattle.cam_base.proofs.Values.{digits_value_after_at_least, fits_none, fits_whole}
use Rattle.cam_base.proofs.number.value_of.Goals as goal

pub returns-in_err-value : goal.returns-in_err-value
returns-in_err-value c =
    let ds = c.args.digits.now in
    let i = c.loop-digit.digit-index in
    let base = c.args.base in
    let next = c.loop-digit.value * base + digit_value (get_or ds i 0) in
    let more = drop (i + 1) ds in
    let is : digits_value_after base next more ≡ digits_value base ds =
    sym (at_drop_more (digits_value_after base c.loop-digit.value) ds i 0 c.loop-digit-test.true)
    ∙ c.loop-digit.invariant.so_far in
    let least : next ≤ digits_value_after base next more = digits_value_after_at_least base next more c.requires in
    let none : fits true next ≡ None = sym c.with_digit.ensures ∙ c.in_err-value.was in
    c.from_residual.ensures ∙ sym (fits_none next (digits_value base ds) (rw is at least) none)

pub returns : goal.returns
returns c =
    let base = c.args.base in
    let value = c.loop-digit.value in
    let is : value ≡ digits_value base c.args.digits.now =
    sym (at_drop_all (digits_value_after base value) c.args.digits.now c.loop-digit.digit-index c.loop-digit-test.false)
    ∙ c.loop-digit.invariant.so_far in
    fits_whole value (digits_value base c.args.digits.now) c.loop-digit.invariant.small is
