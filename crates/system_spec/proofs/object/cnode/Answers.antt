use Rattle.system_spec.proofs.Common.{AreNamed, LockOf, ap, length, place, slice_index, subst, sym, told, ◌∙◌}
use Rattle.system_spec.proofs.Domains.{locks_few}
use Rattle.system_spec.proofs.Placing.{place_found}
use Rattle.system_spec.proofs.object.cnode.Goals as goal

pub caps_of-requires-clause-named : goal.caps_of-requires-clause-named
caps_of-requires-clause-named c =
    let t = told c.args.tables.now in
    subst (AreNamed (length t.flat.connections)) (sym c.uses_at-uses.ensures) (c.requires.buildable.named c.args.domain)

pub caps_of-requires-clause-first : goal.caps_of-requires-clause-first
caps_of-requires-clause-first c =
    let t = told c.args.tables.now in
    let d = c.args.domain in
    c.number_at-first_lock.ensures ∙ ap (λ z. slice_index z d) c.as_slice.ensures ∙ place_found (λ n. place t (LockOf n 0))
    t.flat.domains c.args.marks.now.locks d c.requires.marks.locks c.requires.there

pub caps_of-requires-clause-few : goal.caps_of-requires-clause-few
caps_of-requires-clause-few c =
    let t = told c.args.tables.now in
    let d = c.args.domain in
    let first = c.number_at-first_lock.ensures ∙ ap (λ z. slice_index z d) c.as_slice.ensures
    ∙ place_found (λ n. place t (LockOf n 0)) t.flat.domains c.args.marks.now.locks d c.requires.marks.locks
    c.requires.there in
    locks_few t d _ _ c.requires.buildable.few c.requires.there c.uses_at-uses.ensures first
