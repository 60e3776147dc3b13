use Rattle.adl_names.proofs.Common.{Bool, Name, None, Some, ap, arith, as_port, bytes_eq, bytes_eq-sym, common_steps, cond, interface_at, is_port, is_port_among, is_some, known_in, nat_eq, nat_tests, option_map, sym, true, ℕ, ◌&&◌, ◌||◌, ◌∙◌, ◌≡◌}
use Rattle.adl_meaning.specs.Export.{inner_of}
use Rattle.cam_base.specs.declared.place.Place.{Place}
use Rattle.adl_names.proofs.exports.take.Goals as goal

or_from_keys : (f g : ℕ) (m n : Name) (rest : Bool)
    → cond (nat_eq f g && bytes_eq m n) true rest ≡ (rest || (nat_eq g f && bytes_eq n m))
or_from_keys f g m n rest = by_test (bytes_eq m n) rest ∙ ap (λ z. rest || (nat_eq g f && z)) (bytes_eq-sym m n)
  where
    by_test : (b rest : Bool) → cond (nat_eq f g && b) true rest ≡ (rest || (nat_eq g f && b))
    by_test b rest = grind (arith, nat_tests)

pub returns-clause-taken : goal.returns-clause-taken
returns-clause-taken c = λ p.
    let types = known_in c.args.tables.now in
    let port = c.in-Some.taken in
    let first = port.instance.now.id.place.first in
    let had = is_port_among c.args.inners.now.keys p in
    let declared : is_some (interface_at types (as_port port)) ≡ true = grind (arith, common_steps) in
    c.in_ok-is_new.ensures.updates.0 (p.0.id.place.first, record { ref_ptr = (0, 0); now = p.1 })
    ∙ ap (λ (q : Place). cond (nat_eq q.first p.0.id.place.first && bytes_eq c.as_bytes.result.now p.1) true had) c.place.ensures
    ∙ ap (λ n. cond (nat_eq first p.0.id.place.first && bytes_eq n p.1) true had) c.as_bytes.ensures.bytes
    ∙ or_from_keys first p.0.id.place.first port.interface.now p.1 had
    ∙ sym (ap (λ o. had || is_port (inner_of types (option_map as_port o)) p) c.in-Some.is
    ∙ ap (λ b. had || is_port (cond b (Some (as_port port)) None) p) declared)
