use Rattle.cam_io.proofs.Common.{List, NamedFile, None, ap, contents_of, count_of, insert, lookup, refl, sym, ◌∙◌, ◌≡◌}
use Rattle.cam_io.proofs.Puts.{with_bytes, contents_given, contents_pushed, count_given, count_pushed, at_place, set_place}
use Rattle.cam_io.proofs.named_file.put_file.Goals as goal

pub returns-in-Some : goal.returns-in-Some
returns-in-Some c =
    let fs = c.args.files.now.items in
    let q = c.args.name.now in
    let f = c.index_mut.result.now in
    let b = c.in_ok-bytes.bytes in
    let e = at_place c.deref.result.now fs q c.in-Some.at f c.deref.ensures.value c.in-Some.ensures.within c.in-Some.ensures.found
    c.index_mut.ensures.value in
    let s = set_place c.deref.result.now fs q c.in-Some.at (with_bytes f b) c.deref.ensures.value c.in-Some.ensures.replace in
    record {
      ok = ap contents_of s ∙ (contents_given fs q f b e ∙ ap (insert (contents_of fs) q) c.in_ok-bytes.ensures);
      err = tt;
      counts = λ r. ap (λ (l : List NamedFile). count_of l c.args.others r) s ∙ count_given fs c.args.others q f b r e;
    }

pub returns-in_ok-push-in-None-clause-ok : goal.returns-in_ok-push-in-None-clause-ok
returns-in_ok-push-in-None-clause-ok c =
    let fs = c.args.files.now.items in
    let f : NamedFile = record { name = c.in_ok-name-in-None.name; bytes = c.in_ok-bytes.bytes; faults = c.args.others } in
    let none : lookup fs f.name ≡ None = ap (lookup fs) c.in_ok-name-in-None.ensures
    ∙ (ap (λ (l : List NamedFile). lookup l c.args.name.now) (sym c.deref.ensures.value) ∙ c.in-None.ensures.none) in
    ap contents_of c.in_ok-push-in-None.ensures.items
    ∙ (contents_pushed fs f none ∙ (ap (λ n. insert (contents_of fs) n f.bytes) c.in_ok-name-in-None.ensures
    ∙ ap (insert (contents_of fs) c.args.name.now) c.in_ok-bytes.ensures))

pub returns-in_ok-push-in-None-clause-counts : goal.returns-in_ok-push-in-None-clause-counts
returns-in_ok-push-in-None-clause-counts c r =
    let fs = c.args.files.now.items in
    let f : NamedFile = record { name = c.in_ok-name-in-None.name; bytes = c.in_ok-bytes.bytes; faults = c.args.others } in
    ap (λ (l : List NamedFile). count_of l c.args.others r) c.in_ok-push-in-None.ensures.items
    ∙ count_pushed fs c.args.others f r refl
