use Rattle.adl_import.proofs.Common.{Err, IsLoadedFrom, IsUtf8, List, Ok, arith, err_is, subst, sym, ℕ}
use Rattle.adl_import.proofs.Turning.{learns_next, loaded_err, loaded_none, turn_of, turns_first, turns_few, turns_utf8, turns_next, turns_smaller}
use Rattle.adl_import.proofs.loading.load_from.Goals as goal
use Rattle.cam_io.proofs.Kept.{keeps_twice}

pub loop-room-init : goal.loop-room-init
loop-room-init g c = record {
  turns = λ m told. turns_first m c.args.root.now c.as_bytes-top.result.now c.new-done.result c.in_ok-known.known.entries
      c.as_bytes-top.ensures c.new-done.ensures c.in_ok-known.ensures;
  kept = record { told_still = λ m told. told; later = λ name. omega arith };
  learned = λ m n now old alike. old;
}

-- some contents are told at each turn
pub take_turn-requires-clause-few : goal.take_turn-requires-clause-few
take_turn-requires-clause-few g c =
    let some = g.met.F.Files.some c.loop-room.files in
    turns_few some.0 c.as_bytes-top.result.now c.loop-room.done c.loop-room.known.entries
    (c.loop-room.invariant.turns some.0 some.1)

pub take_turn-requires-clause-utf8 : goal.take_turn-requires-clause-utf8
take_turn-requires-clause-utf8 g c =
    let some = g.met.F.Files.some c.loop-room.files in
    turns_utf8 some.0 c.as_bytes-top.result.now c.loop-room.done c.loop-room.known.entries
    (subst IsUtf8 (sym c.as_bytes-top.ensures) c.requires) (c.loop-room.invariant.turns some.0 some.1)

pub returns-in_err-file-clause-loaded : goal.returns-in_err-file-clause-loaded
returns-in_err-file-clause-loaded g c m told =
    let is = err_is c.from_residual-in_err-file.result c.in_err-file.field-0.0 c.from_residual-in_err-file.ensures.1 in
    let turn = turn_of m c.as_bytes-top.result.now c.loop-room.done c.as_slice.result.now c.loop-room.known.entries
    c.take_turn.new.known.entries (Err c.in_err-file.field-0.0)
    c.as_slice.ensures (c.in_err-file.ensures.turn m told) in
    let loaded = loaded_err m c.as_bytes-top.result.now c.loop-room.done c.loop-room.known.entries c.take_turn.new.known.entries
    c.in_err-file.field-0.0
    (c.loop-room.invariant.turns m (c.in_err-file.ensures.kept.told_still m told)) turn in
    rw is (subst (λ (r : List ℕ). IsLoadedFrom m r (Err c.in_err-file.field-0.0)) c.as_bytes-top.ensures loaded)

pub loop-room-smaller : goal.loop-room-smaller
loop-room-smaller g c =
    let some = g.met.F.Files.some c.take_turn.new.files in
    let turns = c.loop-room.invariant.turns some.0 (c.in_ok-file.ensures.kept.told_still some.0 some.1) in
    let few = turns_few some.0 c.as_bytes-top.result.now c.loop-room.done c.loop-room.known.entries turns in
    let turn = turn_of some.0 c.as_bytes-top.result.now c.loop-room.done c.as_slice.result.now c.loop-room.known.entries
    c.take_turn.new.known.entries (Ok c.in_ok-file.field-0)
    c.as_slice.ensures (c.in_ok-file.ensures.turn some.0 some.1) in
    turns_smaller some.0 c.as_bytes-top.result.now c.loop-room.done c.push.new.self c.loop-room.known.entries
    c.take_turn.new.known.entries c.in-Some.file c.in_ok-file.field-0
    few c.in-Some.is turn c.in_ok-push.ensures.ok

pub loop-room-preserved : goal.loop-room-preserved
loop-room-preserved g c = record {
  turns = λ m told. turns_next m c.as_bytes-top.result.now c.loop-room.done c.push.new.self c.loop-room.known.entries
      c.take_turn.new.known.entries c.in-Some.file
      c.in_ok-file.field-0 (c.loop-room.invariant.turns m (c.in_ok-file.ensures.kept.told_still m told)) c.in-Some.is
      (turn_of m c.as_bytes-top.result.now c.loop-room.done c.as_slice.result.now c.loop-room.known.entries
      c.take_turn.new.known.entries (Ok c.in_ok-file.field-0)
      c.as_slice.ensures (c.in_ok-file.ensures.turn m told)) c.in_ok-push.ensures.ok;
  kept = keeps_twice c.args.files.now c.loop-room.files c.take_turn.new.files c.loop-room.invariant.kept
      c.in_ok-file.ensures.kept;
  learned = learns_next g.F.Files.told c.args.root.now c.as_bytes-top.result.now c.loop-room.done c.as_slice.result.now
      c.loop-room.known.entries
      c.args.files.now c.loop-room.files c.take_turn.new.files c.as_bytes-top.ensures c.as_slice.ensures
      c.loop-room.invariant.learned
      c.loop-room.invariant.turns c.in_ok-file.ensures.kept.told_still c.in_ok-file.ensures.learned;
}

pub returns-clause-loaded : goal.returns-clause-loaded
returns-clause-loaded g c m told =
    let turn = turn_of m c.as_bytes-top.result.now c.loop-room.done c.as_slice.result.now c.loop-room.known.entries
    c.take_turn.new.known.entries (Ok c.in_ok-file.field-0)
    c.as_slice.ensures (c.in_ok-file.ensures.turn m told) in
    loaded_none m c.args.root.now c.as_bytes-top.result.now c.loop-room.done c.loop-room.known.entries
    c.take_turn.new.known.entries c.in_ok-file.field-0
    c.as_bytes-top.ensures (c.loop-room.invariant.turns m (c.in_ok-file.ensures.kept.told_still m told)) c.in_default.is turn

pub returns-in_err-file-clause-learned : goal.returns-in_err-file-clause-learned
returns-in_err-file-clause-learned g c =
    learns_next g.F.Files.told c.args.root.now c.as_bytes-top.result.now c.loop-room.done c.as_slice.result.now
    c.loop-room.known.entries
    c.args.files.now c.loop-room.files c.take_turn.new.files c.as_bytes-top.ensures c.as_slice.ensures
    c.loop-room.invariant.learned
    c.loop-room.invariant.turns c.in_err-file.ensures.kept.told_still c.in_err-file.ensures.learned

pub returns-in_err-push-clause-learned : goal.returns-in_err-push-clause-learned
returns-in_err-push-clause-learned g c =
    learns_next g.F.Files.told c.args.root.now c.as_bytes-top.result.now c.loop-room.done c.as_slice.result.now
    c.loop-room.known.entries
    c.args.files.now c.loop-room.files c.take_turn.new.files c.as_bytes-top.ensures c.as_slice.ensures
    c.loop-room.invariant.learned
    c.loop-room.invariant.turns c.in_ok-file.ensures.kept.told_still c.in_ok-file.ensures.learned

pub returns-clause-learned : goal.returns-clause-learned
returns-clause-learned g c =
    learns_next g.F.Files.told c.args.root.now c.as_bytes-top.result.now c.loop-room.done c.as_slice.result.now
    c.loop-room.known.entries
    c.args.files.now c.loop-room.files c.take_turn.new.files c.as_bytes-top.ensures c.as_slice.ensures
    c.loop-room.invariant.learned
    c.loop-room.invariant.turns c.in_ok-file.ensures.kept.told_still c.in_ok-file.ensures.learned
