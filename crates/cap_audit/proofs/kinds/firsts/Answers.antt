use Rattle.cap_audit.proofs.Common.{AreFirsts, AreRows, IsLike, List, arith, length, subst, sym, ℕ, ◌+◌, ◌≡◌}
use Rattle.cap_audit.proofs.Kinding.{firsts_more, firsts_none, rows_more, rows_none}
use Rattle.cap_audit.proofs.kinds.firsts.Goals as goal

pub loop-c-init : goal.loop-c-init
loop-c-init c = record {
  firsts = firsts_none c.args.classes.now c.args.marks.now c.new-firsts.result.items c.new-firsts.ensures.items;
  rows =
      rows_none c.args.classes.now c.new-firsts.result.items c.in_ok-rows.rows (length c.args.classes.now) c.in_ok-rows.ensures;
}

pub loop-c-preserved : goal.loop-c-preserved
loop-c-preserved c =
    let before : List ℕ = c.loop-c.firsts.items in
    let like : IsLike c.row.result.now c.args.marks.now c.loop-c.c c.first_like-first.result = c.first_like-first.ensures in
    record {
      firsts = subst (λ (xs : List ℕ). AreFirsts c.args.classes.now c.args.marks.now xs (c.loop-c.c + 1))
          (sym c.in_ok-push.ensures.items)
          (firsts_more c.args.classes.now c.args.marks.now before c.loop-c.c c.first_like-first.result c.loop-c.invariant.firsts
          c.loop-c.rows c.loop-c.invariant.rows
          (subst (λ (xs : List ℕ). IsLike xs c.args.marks.now c.loop-c.c c.first_like-first.result) c.row.ensures like));
      rows = subst (λ (xs : List ℕ). AreRows c.args.classes.now xs c.put_first.new.rows) (sym c.in_ok-push.ensures.items)
          (rows_more c.args.classes.now c.args.marks.now before c.loop-c.c c.first_like-first.result c.loop-c.invariant.firsts
          c.loop-c.rows c.loop-c.invariant.rows c.put_first.new.rows c.in_ok-put_first.ensures);
    }

pub returns : goal.returns
returns c =
    let at_end : c.loop-c.c ≡ length c.args.classes.now = omega (arith, c.loop-c-test.false, c.loop-c.auto.c-end) in
    subst (λ (n : ℕ). AreFirsts c.args.classes.now c.args.marks.now c.loop-c.firsts.items n) at_end c.loop-c.invariant.firsts
