use Rattle.cap_model.proofs.Common.{Some, ap, cond, inl, inr, is_eq, list_cmp, place_in, refl, rules, ◌≡◌, ◌∙◌}
use Rattle.std.specs.BTreeMap.{get_by}
use Rattle.std.specs.BTreeMap.Entry.{map_with_value}
use Rattle.cap_model.proofs.making.with_class.Goals.{in-Occupied, in-Vacant+in_ok-to_vec-in-Vacant+in_ok-push-in-Vacant}
use Rattle.cap_model.proofs.making.with_class.Goals as goal

pub returns : goal.returns
returns c = elim c.match-branch-2.branch [
  | in-Occupied w ↦ inl (record {
    there = search rules;
    classes = search rules;
    rows = search rules;
    places = λ q. search rules;
  })
  | in-Vacant+in_ok-to_vec-in-Vacant+in_ok-push-in-Vacant w ↦ inr (record {
    none = search rules;
    place = search rules;
    class = record { label = c.args.label; pairs = w.in_ok-to_vec-in-Vacant.field-0; before = c.args.before };
    classes = search rules;
    label_is = refl;
    pairs_are = search rules;
    before_is = refl;
    rows = search rules;
    places = λ q.
        let map : c.match-branch-2.made.places ≡ map_with_value c.in_ok-known.field-0 w.insert.result.now = search rules in
        let value : w.insert.result.now ≡ c.match-branch-2.place = search rules in
        let made = ap (λ m. get_by (λ k. list_cmp q.pairs.items k.items) m) map in
        let got = (c.in_ok-known.ensures.update.0 w.insert.result.now).0 q.pairs in
        let test = is_eq (list_cmp c.args.pairs.items q.pairs.items) in
        made ∙ got ∙ ap (λ n. cond test (Some n) (place_in c.args.made q.pairs.items)) value;
  })
]
