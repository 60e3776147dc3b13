use Rattle.cam_io.proofs.Common.{List, NamedFile, None, ap, arith, contents_of, count_at, count_of, lookup, one_more, slice_set, subst, sym, ◌∙◌, ◌≡◌, ◌≤◌}
use Rattle.cam_io.proofs.Lookups.{with_faults, contents_replaced, count_later, count_new, fault_here, fault_elsewhere}
use Rattle.cam_io.proofs.Counts.{rose_more}
use Rattle.cam_io.proofs.Puts.{at_place, set_place}
use Rattle.cam_io.proofs.named_file.count_fault.Goals as goal

pub returns-in-Some : goal.returns-in-Some
returns-in-Some c =
    let fs = c.args.files.now.items in
    let q = c.args.name.now in
    let others = c.args.others.now in
    let f = c.index_mut-file.result.now in
    let n = c.saturating_add-file.result in
    let e = at_place c.deref.result.now fs q c.in-Some.i f c.deref.ensures.value c.in-Some.ensures.within c.in-Some.ensures.found
    c.index_mut-file.ensures.value in
    let s = set_place c.deref.result.now fs q c.in-Some.i (with_faults f n) c.deref.ensures.value c.in-Some.ensures.replace in
    let more : n ≡ one_more f.faults = omega arith in
    let fewer : f.faults ≤ n = omega arith in
    let new : count_of (slice_set fs c.in-Some.i (with_faults f n)) others q ≡ n =
    ap (λ (l : List NamedFile). count_of l others q) s ∙ count_new fs others q f n e in
    let old : count_of fs others q ≡ f.faults = ap (count_at others) e in
    record {
      contents = ap contents_of s ∙ contents_replaced fs q f n e;
      later = λ r. subst (λ (l : List NamedFile). count_of fs others r ≤ count_of l others r) (sym s)
          (count_later fs others q f n r e fewer);
      rose = rose_more _ _ (new ∙ (more ∙ ap one_more (sym old)));
      counts = λ r. ap (λ (l : List NamedFile). count_of l others r) s ∙ fault_here fs others q f n r e more;
    }

pub returns-in-None-clause-counts : goal.returns-in-None-clause-counts
returns-in-None-clause-counts c r =
    let fs = c.args.files.now.items in
    let none : lookup fs c.args.name.now ≡ None = ap (λ (l : List NamedFile). lookup l c.args.name.now)
    (sym c.deref.ensures.value) ∙ c.in-None.ensures.none in
    fault_elsewhere fs c.args.others.now _ c.args.name.now r none (omega arith)
