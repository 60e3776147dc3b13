use Rattle.cap_model.proofs.Common.{Edge, IsPartitionPoint, IsPartitionPoint-from_clause, IsPartitionedBy, List, Row, ap, drop, false, length, map, nat_le, nat_lt, number_of, pair_of, refl, rules, subst, sym, take, true, ℕ, ◌++◌, ◌-◌, ◌∙◌, ◌≡◌}
use Rattle.cap_model.proofs.MadeRows.{row_made}
use Rattle.cap_model.proofs.Runs.{whole, run_rest, run_parted_lt, run_parted_le, parted_class, parted_edges, parted_replies}
use Rattle.cap_model.proofs.making.with_row.Goals as goal

pub returns : goal.returns
returns c edges made first up sorted =
    let before : ℕ = c.partition_point-before.result in
    let n : ℕ = c.partition_point-count.result in
    let rest : List Edge = take (length c.args.run.now - before) (drop before c.args.run.now) in
    let is_rest : rest ≡ drop before c.args.run.now = whole c.args.run.now before in
    let tail : take (length rest - n) (drop n rest) ≡ drop n (drop before c.args.run.now) =
    whole rest n ∙ ap (λ es. drop n es) is_rest in
    let point = IsPartitionPoint-from_clause (λ (e : Edge). nat_lt (number_of e.authority) 9) c.args.run.now before
    c.partition_point-before.ensures.partitioned (run_parted_lt c.args.label c.args.run.now 9 c.requires.run)
    (λ a r f k. search rules) in
    let parted : IsPartitionedBy (λ (e : Edge). nat_le (number_of e.authority) 9) rest =
    subst (λ es. IsPartitionedBy (λ (e : Edge). nat_le (number_of e.authority) 9) es) (sym is_rest)
    (run_parted_le c.args.label (drop before c.args.run.now) 9 (run_rest c.args.label c.args.run.now before c.requires.run)) in
    let again = IsPartitionPoint-from_clause (λ (e : Edge). nat_le (number_of e.authority) 9) rest n
    c.partition_point-count.ensures.partitioned parted (λ a r f k. search rules) in
    let again' : IsPartitionPoint (λ (e : Edge). nat_le (number_of e.authority) 9 ≡ true)
    (λ (e : Edge). nat_le (number_of e.authority) 9 ≡ false) (drop before c.args.run.now) n =
    subst (λ es. IsPartitionPoint (λ (e : Edge). nat_le (number_of e.authority) 9 ≡ true)
    (λ (e : Edge). nat_le (number_of e.authority) 9 ≡ false) es n) is_rest again in
    let pairs = c.in_ok-pairs.ensures ∙ ap (λ es. map pair_of (take before c.args.run.now) ++ map pair_of es) tail in
    let replies = c.in_ok-replies.ensures ∙ ap (λ es. map (λ (e : Edge). e.to) (take n es)) is_rest in
    let r : Row = record {
      label = c.args.label;
      first = c.args.first;
      replies = c.in_ok-replies.replies;
      class = c.in_ok-made.class;
    } in
    row_made edges c.args.run.now c.args.made c.in_ok-made.made (record {
      rows = c.push.new.self;
      classes = c.in_ok-made.made.classes;
      places = c.in_ok-made.made.places;
    }) r
    c.in_ok-pairs.pairs.items before made
    (λ d e f. parted_class c.args.label c.args.run.now before n c.requires.run c.partition_point-before.ensures.bound point again'
    d (e ∙ pairs) f)
    (λ d e f. parted_edges c.args.label c.args.run.now before n c.requires.run c.partition_point-before.ensures.bound point again'
    d r (e ∙ pairs) f refl replies)
    (parted_replies c.args.label c.args.run.now before n c.requires.run c.partition_point-before.ensures.bound point again'
    c.in_ok-replies.replies.items replies)
    first refl c.in_ok-push.ensures.items (λ q. refl) up sorted
    (record { label = 0; pairs = c.in_ok-pairs.pairs; before = 0 }) refl c.in_ok-made.ensures
