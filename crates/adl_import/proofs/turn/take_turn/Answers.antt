use Rattle.adl_import.proofs.Common.{err_is, length, sym}
use Rattle.adl_import.proofs.Turning.{each_at, turn_unread, turn_stopped, turn_done}
use Rattle.adl_import.proofs.turn.take_turn.Goals as goal

pub read_file-requires-clause-utf8 : goal.read_file-requires-clause-utf8
read_file-requires-clause-utf8 g c =
    each_at c.args.known.now.entries (length c.args.done.now) (c.in-Some.name.now, c.in-Some.place.now)
    (sym c.in-Some.ensures.entry) c.requires.utf8

pub returns-in_err-file-clause-turn : goal.returns-in_err-file-clause-turn
returns-in_err-file-clause-turn g c m told =
    let is = err_is c.from_residual.result c.in_err-file.field-0.0 c.from_residual.ensures.1 in
    rw is
    (turn_unread m c.args.root.now c.args.done.now c.args.known.now.entries c.in-Some.name.now c.in-Some.place.now
    c.in_err-file.field-0.0
    (sym c.in-Some.ensures.entry) (c.in_err-file.ensures.read m told))

pub returns-in_err-take_imports_of-clause-turn : goal.returns-in_err-take_imports_of-clause-turn
returns-in_err-take_imports_of-clause-turn g c m told =
    let is = err_is c.from_residual-in_err-take_imports_of.result c.in_err-take_imports_of.field-0.0
    c.from_residual-in_err-take_imports_of.ensures.1 in
    rw is
    (turn_stopped m c.args.root.now c.args.done.now c.args.known.now.entries c.take_imports_of.new.known.entries c.in_ok-file.file
    c.in-Some.name.now c.in-Some.place.now c.in_err-take_imports_of.field-0.0 (sym c.in-Some.ensures.entry)
    (c.in_ok-file.ensures.read m told) c.in_err-take_imports_of.ensures)

pub returns-clause-turn : goal.returns-clause-turn
returns-clause-turn g c m told =
    turn_done m c.args.root.now c.args.done.now c.args.known.now.entries c.take_imports_of.new.known.entries c.in_ok-file.file
    c.in-Some.name.now c.in-Some.place.now (sym c.in-Some.ensures.entry) (c.in_ok-file.ensures.read m told)
    c.in_ok-take_imports_of.ensures

pub returns-in_err-file-clause-learned : goal.returns-in_err-file-clause-learned
returns-in_err-file-clause-learned g c m n now old alike =
    c.in_err-file.ensures.learned m n now old (alike c.in-Some.name.now c.in-Some.place.now (sym c.in-Some.ensures.entry))

pub returns-in_err-take_imports_of-clause-learned : goal.returns-in_err-take_imports_of-clause-learned
returns-in_err-take_imports_of-clause-learned g c m n now old alike =
    c.in_ok-file.ensures.learned m n now old (alike c.in-Some.name.now c.in-Some.place.now (sym c.in-Some.ensures.entry))

pub returns-clause-learned : goal.returns-clause-learned
returns-clause-learned g c m n now old alike =
    c.in_ok-file.ensures.learned m n now old (alike c.in-Some.name.now c.in-Some.place.now (sym c.in-Some.ensures.entry))
