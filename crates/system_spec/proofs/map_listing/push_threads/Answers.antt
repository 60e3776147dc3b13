use Rattle.system_spec.proofs.Common.{Domain, ap, arith, domain_threads, told, ◌++◌, ◌+◌, ◌∙◌}
use Rattle.system_spec.proofs.MapPlaces.{domain_threads_are, threads_turn, threads_within}
use Rattle.system_spec.proofs.Turning.{place_turn}
use Rattle.system_spec.proofs.map_listing.push_threads.Goals as goal

pub push_threads_from-requires : goal.push_threads_from-requires
push_threads_from-requires c =
    let t = told c.args.tables.now in
    let d = c.loop-number.number in
    let more = threads_turn t c.args.first d c.loop-number.next c.threads_at-threads.result.now c.threads_at-threads.ensures
    (omega arith) c.loop-number.invariant.next in
    threads_within t c.requires.few c.args.first (d + 1) _ c.requires.first more

pub overflow_cast-next : goal.overflow_cast-next
overflow_cast-next c =
    let t = told c.args.tables.now in
    let d = c.loop-number.number in
    let more = threads_turn t c.args.first d c.loop-number.next c.threads_at-threads.result.now c.threads_at-threads.ensures
    (omega arith) c.loop-number.invariant.next in
    let low = threads_within t c.requires.few c.args.first (d + 1) _ c.requires.first more in
    omega (arith, low)

pub overflow_add-next : goal.overflow_add-next
overflow_add-next c =
    let t = told c.args.tables.now in
    let d = c.loop-number.number in
    let more = threads_turn t c.args.first d c.loop-number.next c.threads_at-threads.result.now c.threads_at-threads.ensures
    (omega arith) c.loop-number.invariant.next in
    let low = threads_within t c.requires.few c.args.first (d + 1) _ c.requires.first more in
    omega (arith, low)

pub loop-number-preserved : goal.loop-number-preserved
loop-number-preserved c =
    let t = told c.args.tables.now in
    let d = c.loop-number.number in
    let threads = c.threads_at-threads.result.now in
    let same = c.threads_at-threads.ensures in
    record {
      so_far = place_turn (λ k (x : Domain). domain_threads t k) t.flat.domains d c.args.lines.now _ _ (omega arith)
          c.loop-number.invariant.so_far
          (λ x. c.in_ok-push_threads_from.ensures ∙ ap (λ z. c.loop-number.lines ++ z)
          (domain_threads_are t c.args.first d c.loop-number.next threads c.requires.first
          c.loop-number.invariant.next same));
      next = threads_turn t c.args.first d c.loop-number.next threads same (omega arith) c.loop-number.invariant.next;
    }
