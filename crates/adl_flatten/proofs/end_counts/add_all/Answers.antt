use Rattle.adl_flatten.proofs.Common.{[], ap, arith, count_by, false, joins, same_key, seen_at, subst, sym, take, take_all, take_more, tally, true≢false, ◌++◌, ◌+◌, ◌∙◌, ◌∷◌, ◌≡◌, ◌≤◌, ℕ}
use Rattle.adl_flatten.proofs.EndLookups.{once_more, one_more}
use Rattle.adl_flatten.specs.declared.end_counts.EndKey.{EndKey}
use Rattle.adl_flatten.proofs.end_counts.add_all.Goals as goal
use Rattle.adl_flatten.proofs.end_counts.add_all.Goals.{else-several, then-several}

pub loop-end-preserved : goal.loop-end-preserved
loop-end-preserved c =
    let es = c.args.ends.now in
    let i = c.loop-end.end-index in
    let e = c.end-item.result in
    let old = seen_at c.loop-end.seen.entries in
    let none : EndKey → ℕ = λ k. 0 in
    let same : (k : EndKey) → joins k e ≡ same_key c.key.result k = λ k. ap (λ q. same_key q k) (sym c.key.ensures) in
    let more = ap (λ x. take i es ++ x ∷ []) c.end-item.is ∙ sym (take_more es i e c.loop-end-test.true) in
    let behind : (n : ℕ) → 0 + n ≡ n = λ n. omega arith in
    let was : (k : EndKey) → old k ≡ tally (none k + count_by (joins k) (take i es)) = λ k. c.loop-end.invariant.seen k
    ∙ ap tally (sym (behind (count_by (joins k) (take i es)))) in
    record {
      seen = λ k.
          one_more joins none old c.key.result (take i es) e same was (seen_at c.add_at.new.seen.entries)
          c.in_ok-before.ensures.seen k
          ∙ ap tally (behind (count_by (joins k) (take i es ++ e ∷ []))) ∙ ap (λ xs. tally (count_by (joins k) xs)) more;
      once = λ plain k.
          let parts : (c.loop-end.several ≡ false) × (c.in_ok-before.before ≡ false) = elim c.if-several.branch [
            | then-several w ↦ absurd (true≢false (sym w.if-several.true ∙ sym w.several-is ∙ plain))
            | else-several w ↦ (w.if-several.false, sym w.several-is ∙ plain)
          ] in
          subst (λ xs. count_by (joins k) xs ≤ 1) more
          (once_more joins none old c.key.result (take i es) e same was (sym c.in_ok-before.ensures.before ∙ parts.1)
          (c.loop-end.invariant.once parts.0) k);
    }

pub returns-clause-once : goal.returns-clause-once
returns-clause-once c = λ plain k.
    subst (λ xs. count_by (joins k) xs ≤ 1) (take_all c.loop-end.end-index c.args.ends.now c.loop-end-test.false)
    (c.loop-end.invariant.once plain k)
