use Rattle.system_spec.proofs.Common.{CNode, CNodeOf, List, Object, OfDomain, Part, [], ap, arith, entry, entry_with, gather, gather_map, gather_turn, get_or, get_or_default, into_iter_len, length, length-map, length_append, object, part_label}
use Rattle.system_spec.proofs.Common.{read_place, refl, slice_get_within, take_all, told, ◌++◌, ◌<◌, ◌∙◌, ◌∷◌, ◌≡◌, ◌≤◌}
use Rattle.cspace_layout.proofs.Taking.{Turned, turned}
use Rattle.system_spec.proofs.TableObjects.{object_is, taken_all}
use Rattle.system_spec.proofs.made.push_tables.Goals as goal

pub loop-object-preserved : goal.loop-object-preserved
loop-object-preserved c =
    let os = c.args.objects in
    let it = c.into_iter-object-iterator.result in
    let items = c.into_vec-object-items.ensures in
    let gives = c.into_iter-object-iterator.ensures.into_iter_gives in
    let many : into_iter_len it ≡ length os =
    omega (arith, gives.1, c.into_vec-object-items.result.ok.0, ap (λ (z : List Object). length z) items) in
    let u : Turned os c.loop-object.yielded c.in-Some.object = turned it c.loop-object.object-iterator c.next.new.self os
    (gives.0 ∙ items) many c.loop-object.yielded c.loop-object.yielded_by c.next.result c.in-Some.object c.in-Some.is
    c.next.ensures.steps in
    let t = told c.args.tables.now in
    let ps = c.args.parts.now in
    let d = c.loop-object.place in
    let x = get_or ps d (record { series = CNode; number = 0; owner = OfDomain 0; what = CNodeOf 0 }) in
    let there = slice_get_within os (length c.loop-object.yielded) c.in-Some.object u.here in
    let long = ap (λ (z : List Object). length z) c.requires in
    let l : d < length ps = omega (arith, there, c.loop-object.invariant.count, long, length-map ps (λ p. object t p.what)) in
    let read : x ≡ get_or ps d x = get_or_default _ _ _ _ l in
    let at = read_place ps ps d x refl l read in
    let is = object_is t os ps _ d c.in-Some.object x c.requires c.loop-object.invariant.count u.here at in
    record {
      count =
          let a = length_append c.loop-object.yielded (c.in-Some.object ∷ []) in
          let b = c.loop-object.invariant.count in
          omega (arith, a, b);
      entries = gather_turn (λ n (p : Part). entry t p ∷ []) ps ps d x _ _ _ refl l read
          c.loop-object.invariant.entries
          (c.in_ok-push_entry.ensures.entries ∙ ap (λ o. c.loop-object.entries ++ entry_with x o ∷ []) is);
      labels = gather_turn (λ n (p : Part). part_label t p ∷ []) ps ps d x _ _ _ refl l read
          c.loop-object.invariant.labels c.in_ok-push_entry.ensures.labels;
    }

pub returns : goal.returns
returns c =
    let t = told c.args.tables.now in
    let ps = c.args.parts.now in
    let os = c.args.objects in
    let items = c.into_vec-object-items.ensures in
    let gives = c.into_iter-object-iterator.ensures.into_iter_gives in
    let many : into_iter_len c.into_iter-object-iterator.result ≡ length os =
    omega (arith, gives.1, c.into_vec-object-items.result.ok.0, ap (λ (z : List Object). length z) items) in
    let whole : length os ≡ length c.loop-object.yielded = taken_all c.into_iter-object-iterator.result
    c.loop-object.object-iterator c.next.new.self os (gives.0 ∙ items) many c.loop-object.yielded c.loop-object.yielded_by
    c.next.result c.in-None.is c.next.ensures.steps in
    let long = ap (λ (z : List Object). length z) c.requires in
    let past : length ps ≤ c.loop-object.place =
    omega (arith, whole, c.loop-object.invariant.count, long, length-map ps (λ p. object t p.what)) in
    let all = take_all c.loop-object.place ps past in
    record {
      entries = c.loop-object.invariant.entries
          ∙ ap (λ (z : List Part). c.args.entries.now ++ gather (λ n (p : Part). entry t p ∷ []) z) all
          ∙ ap (λ z. c.args.entries.now ++ z) (gather_map (entry t) ps);
      labels = c.loop-object.invariant.labels
          ∙ ap (λ (z : List Part). c.args.labels.now ++ gather (λ n (p : Part). part_label t p ∷ []) z) all
          ∙ ap (λ z. c.args.labels.now ++ z) (gather_map (part_label t) ps);
    }
