use Rattle.front_end.proofs.Common.{Flat, Settled, first_flat_fault, first_name_fault, first_setting_fault, first_type_fault, names_sound}
use Rattle.front_end.proofs.Passing.{third_told, fourth_told}
use Rattle.front_end.proofs.phases.parts_of.Goals as goal

pub typed_program-requires-clause-sound : goal.typed_program-requires-clause-sound
typed_program-requires-clause-sound c = names_sound c.args.source.now c.in_ok-check_names.ensures

pub flatten_program-requires-clause-sound : goal.flatten_program-requires-clause-sound
flatten_program-requires-clause-sound c = names_sound c.args.source.now c.in_ok-check_names.ensures

pub returns-in_err-flat-clause-fault : goal.returns-in_err-flat-clause-fault
returns-in_err-flat-clause-fault c =
    let s = c.args.source.now in
    let exit = c.from_residual-in_err-flat in
    third_told Flat exit.result c.in_err-flat.field-0.0 (first_name_fault s) (first_type_fault s) (first_flat_fault s)
    (first_setting_fault s)
    exit.ensures.1 c.in_ok-check_names.ensures c.in_ok-program.ensures.fault c.in_err-flat.ensures.fault

pub returns-in_err-settled-clause-fault : goal.returns-in_err-settled-clause-fault
returns-in_err-settled-clause-fault c =
    let s = c.args.source.now in
    let exit = c.from_residual-in_err-settled in
    fourth_told Settled exit.result c.in_err-settled.field-0.0 (first_name_fault s) (first_type_fault s) (first_flat_fault s)
    (first_setting_fault s)
    exit.ensures.1 c.in_ok-check_names.ensures c.in_ok-program.ensures.fault c.in_ok-flat.ensures.fault
    c.in_err-settled.ensures.fault
