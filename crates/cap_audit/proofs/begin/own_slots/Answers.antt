use Rattle.cap_audit.proofs.Common.{Cap, Found, List, Some, Starts, ap, arith, false, get_or, length, slice_get, slice_get-get_or, slots_at, subst, sym, ℕ, ◌+◌, ◌≡◌, ◌≤◌}
use Rattle.cap_audit.proofs.Beginning.{owned_starts, valued_starts, next_object}
use Rattle.cap_audit.proofs.begin.own_slots.Goals as goal

abbrev no_slot : ℕ × Cap
no_slot = (0, record { object = 0; rights = record { read = false; write = false; grant = false; reply = false }; badge = 0 })

pub loop-slot-preserved : goal.loop-slot-preserved
loop-slot-preserved c =
    let slot = get_or c.args.slots.now c.loop-slot.slot-index no_slot in
    let here : slice_get (slots_at c.args.spec.now c.args.c) c.loop-slot.slot-index ≡ Some slot =
    subst (λ (slots : List (ℕ × Cap)). slice_get slots c.loop-slot.slot-index ≡ Some slot) c.requires.slots
    (slice_get-get_or c.args.slots.now c.loop-slot.slot-index no_slot c.loop-slot-test.true) in
    let starts = valued_starts c.args.spec.now c.loop-slot.findings c.value_of.new.findings c.args.c c.loop-slot.slot-index
    c.in_ok-value.value slot.1 c.in_ok-value.ensures c.loop-slot.invariant in
    subst (λ (f : Found). Starts c.args.spec.now f c.args.c (c.loop-slot.slot-index + 1)) (sym c.in_ok-own.ensures)
    (owned_starts c.args.spec.now c.value_of.new.findings c.args.c c.loop-slot.slot-index starts slot here c.requires.inside
    c.in_ok-value.value c.in_ok-value.ensures.1)

pub returns : goal.returns
returns c =
    let same = ap (λ (slots : List (ℕ × Cap)). length slots) c.requires.slots in
    let all : length (slots_at c.args.spec.now c.args.c) ≤ c.loop-slot.slot-index = omega (arith, c.loop-slot-test.false) in
    next_object c.args.spec.now c.loop-slot.findings c.args.c c.loop-slot.slot-index c.loop-slot.invariant all
