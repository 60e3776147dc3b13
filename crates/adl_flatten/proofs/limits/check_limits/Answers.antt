use Rattle.adl_flatten.proofs.Common.{Fault, None, Option, Refuses, Some, ap, as_assembly, assemblies, filter_map, least, limits_in, located, map, noted, noted-none, option_map, pass, refl, slice_get, subst, sym, top_number, totals_in, ◌∙◌}
use Rattle.adl_flatten.proofs.PassedLimits.{limits_told, none_told}
use Rattle.adl_flatten.proofs.limits.check_limits.Goals as goal

pub returns-then-not-pass : goal.returns-then-not-pass
returns-then-not-pass c =
    let o = slice_get (assemblies c.args.source.now) 0 in
    let none = sym (ap pass c.in_ok-totals.ensures) ∙ sym c.pass.ensures ∙ c.if-not-pass.true in
    sym (limits_told c.args.source.now c.args.program.now o c.requires.program c.requires.sound refl)
    ∙ ap least (none_told (totals_in c.args.program.now (top_number c.args.program.now)) none o)

pub returns-in-None : goal.returns-in-None
returns-in-None c =
    let found = ap (option_map located) (sym c.in-None.is) ∙ c.first_assembly.ensures
    ∙ ap (λ xs. slice_get (filter_map as_assembly xs) 0) (ap (map located) c.as_slice.ensures.value
    ∙ c.in_ok-items.ensures) in
    sym (limits_told c.args.source.now c.args.program.now None c.requires.program c.requires.sound found)

pub returns : goal.returns
returns c =
    let found = ap (option_map located) (sym c.in-Some.is) ∙ c.first_assembly.ensures
    ∙ ap (λ xs. slice_get (filter_map as_assembly xs) 0) (ap (map located) c.as_slice.ensures.value
    ∙ c.in_ok-items.ensures) in
    let a = located c.in-Some.assembly in
    let P : Option Fault → Type 0 = λ o. Refuses c.refuse.result o in
    subst P (c.note_limits.ensures ∙ ap (λ o. noted o (limits_in a c.in_ok-totals.totals)) c.none-first.ensures
    ∙ noted-none (limits_in a c.in_ok-totals.totals)
    ∙ ap (λ t. least (limits_in a t)) c.in_ok-totals.ensures ∙ limits_told c.args.source.now c.args.program.now (Some a)
    c.requires.program c.requires.sound found) c.refuse.ensures
