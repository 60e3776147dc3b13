use Rattle.adl_names.proofs.Common.{Bor, Export, Fault, Held, Known, List, Name, Option, Port, bytes_eq, export_fault, held_as, is_among, is_misfit, is_port, is_port_among, known_in, misfits_after, noted, noted-append, owner_of, port_of, rules, where_true, ℕ, ◌||◌, ◌∷◌, ◌≡◌}
use Rattle.adl_meaning.specs.Export.{inner_of}
use Rattle.adl_names.proofs.exports.note_export.Goals as goal

-- an export, and then those behind it
misfit_then : (types : Name → Option Known) (owner : Option Known) (held : Name → Option Held) (new old : Option Fault)
    (more met : List Name) (ins had : List (ℕ × Bor Name)) (x : Export) (rest : List Export)
    → new ≡ noted old (where_true (is_misfit types owner held (is_among met) (is_port_among had) x)
    (export_fault x.words x.place))
    → ((n : Name) → is_among more n ≡ (is_among met n || bytes_eq n x.target.name))
    → ((p : Port) → is_port_among ins p ≡ (is_port_among had p || is_port (inner_of types (port_of held x.words)) p))
    → noted new (misfits_after types owner held (is_among more) (is_port_among ins) rest) ≡ noted old
    (misfits_after types owner held (is_among met) (is_port_among had) (x ∷ rest))
misfit_then types owner held new old more met ins had x rest n t h =
    let targets : is_among more ≡ (λ (m : Name). is_among met m || bytes_eq m x.target.name) = λ k m. t m k in
    let inners : is_port_among ins ≡ (λ (p : Port). is_port_among had p || is_port (inner_of types (port_of held x.words)) p) =
    λ k p. h p k in
    rw (n, targets, inners, noted-append)

pub returns : goal.returns
returns c = λ more. misfit_then (known_in c.args.tables.now) (owner_of c.args.owner) (held_as c.args.holding.now) c.note.new.self
    c.args.first.now c.put.new.self c.args.taken.now.targets c.take.new.inners.keys c.args.taken.now.inners.keys c.args.export.now
    more (search rules) (search rules) (search rules)
