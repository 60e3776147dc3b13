use Rattle.system_spec.proofs.Common.{Domain, List, Object, TableOf, [], ap, arith, inr, length, length_append, place, refl, space_tables, tables_at, told, ◌++◌, ◌+◌, ◌∙◌, ◌∷◌}
use Rattle.system_spec.proofs.Bounds.{ends}
use Rattle.system_spec.proofs.Domains.{space_is, table_place, tables_few, tables_turn, tables_within}
use Rattle.system_spec.proofs.Turning.{place_turn}
use Rattle.system_spec.proofs.landmarks.all_spaces.Goals as goal

pub overflow_cast-count : goal.overflow_cast-count
overflow_cast-count c = omega (
  arith,
  c.len-count.ensures,
  c.loop-number.invariant.next,
  tables_within (told c.args.tables.now) c.loop-number.number c.requires.buildable.few,
)

pub overflow_add-next : goal.overflow_add-next
overflow_add-next c = omega (
  arith,
  c.len-count.ensures,
  c.loop-number.invariant.next,
  tables_within (told c.args.tables.now) c.loop-number.number c.requires.buildable.few,
)

pub push_tables_at-requires-clause-shown : goal.push_tables_at-requires-clause-shown
push_tables_at-requires-clause-shown c = λ p i.
    let t = told c.args.tables.now in
    let one = c.requires.buildable.shown c.loop-number.number p i in
    let all = (ends t c.requires.buildable.few).frames in
    inr (omega (arith, c.requires.frames, one, all))

pub push_tables_at-requires-clause-few : goal.push_tables_at-requires-clause-few
push_tables_at-requires-clause-few c = tables_few (told c.args.tables.now) c.args.frames c.loop-number.number
    (c.args.first + c.len-count.result) c.requires.buildable.few (omega arith)
    (ap (λ n. c.args.first + n) c.len-count.ensures ∙ c.loop-number.invariant.next)

pub loop-number-preserved : goal.loop-number-preserved
loop-number-preserved c =
    let t = told c.args.tables.now in
    let d = c.loop-number.number in
    let next = c.args.first + c.len-count.result in
    let here = ap (λ n. c.args.first + n) c.len-count.ensures ∙ c.loop-number.invariant.next in
    let objects = tables_at t next c.args.frames d in
    let more = tables_turn t next c.args.frames d next objects (omega arith) refl here in
    let long = ap (λ (z : List Object). length z) c.in_ok-push_tables_at.ensures in
    record {
      roots = place_turn (λ n (x : Domain). place t (TableOf n 0) ∷ []) t.flat.domains d [] _ _ (omega arith)
          c.loop-number.invariant.roots (λ x. c.in_ok-push.ensures.ok ∙ ap (λ z. c.loop-number.roots ++ z ∷ [])
          (table_place t d next here));
      all = place_turn (λ n (x : Domain). space_tables t n) t.flat.domains d [] _ _ (omega arith)
          c.loop-number.invariant.all
          (λ x. c.in_ok-push_tables_at.ensures ∙ ap (λ z. c.loop-number.objects ++ z)
          (space_is t d next c.args.frames objects (table_place t d next here) (omega (arith, c.requires.frames)) refl));
      next = omega (arith, c.len-count.ensures, more, long, length_append c.loop-number.objects objects);
    }
