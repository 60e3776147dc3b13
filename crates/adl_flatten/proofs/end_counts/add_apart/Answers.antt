use Rattle.adl_flatten.proofs.Common.{[], ap, arith, count_by, joins, joins_apart, same_key, seen_at, sym, take, take_more, tally, ◌++◌, ◌+◌, ◌∙◌, ◌∷◌, ◌≡◌, ℕ}
use Rattle.adl_flatten.proofs.EndLookups.{one_more}
use Rattle.adl_flatten.specs.declared.end_counts.EndKey.{EndKey}
use Rattle.adl_flatten.proofs.end_counts.add_apart.Goals as goal

pub loop-end-init : goal.loop-end-init
loop-end-init c = λ k. let n : count_by (joins k) c.args.ends.now ≡ count_by (joins k) c.args.ends.now + 0 = omega arith in
    c.requires k ∙ ap tally n

pub loop-end-preserved : goal.loop-end-preserved
loop-end-preserved c =
    let es = c.args.ends.now in
    let i = c.loop-end.end-index in
    let e = c.end-item.result in
    let before : EndKey → ℕ = λ k. count_by (joins k) es in
    let same : (k : EndKey) → joins_apart k e ≡ same_key c.key_apart.result k =
    λ k. ap (λ q. same_key q k) (sym c.key_apart.ensures) in
    let more = ap (λ x. take i es ++ x ∷ []) c.end-item.is ∙ sym (take_more es i e c.loop-end-test.true) in
    λ k.
    one_more joins_apart before (seen_at c.loop-end.seen.entries) c.key_apart.result (take i es) e same c.loop-end.invariant
    (seen_at c.add_at.new.seen.entries) c.in_ok-add_at.ensures.seen k
    ∙ ap (λ xs. tally (count_by (joins k) es + count_by (joins_apart k) xs)) more
