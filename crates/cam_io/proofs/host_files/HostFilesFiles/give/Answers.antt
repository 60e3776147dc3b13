use Rattle.cam_io.proofs.Common.{Agrees, List, Seen, Some, ap, arith, length, refl, seen_of, slice_get_read, subst, sym, whole_of_any, ◌<◌, ◌∙◌, ◌≡◌}
use Rattle.cam_io.proofs.Seeing.{found_there, replaced_same, replaced_told, set_there}
use Rattle.cam_io.proofs.host_files.HostFilesFiles.give.Goals as goal

pub returns-in-Some-give-clause-kept : goal.returns-in-Some-give-clause-kept
returns-in-Some-give-clause-kept c =
    let ss = c.args.self.now.seen.items in
    let q = c.args.name.now in
    let i = c.in-Some.place in
    let s = c.index_mut-entry.result.now in
    let t = c.give.new.self in
    let found = found_there c.as_slice.result.now ss c.as_bytes.result.now q i c.as_slice.ensures.value c.as_bytes.ensures.value
    c.in-Some.ensures.found in
    let within = subst (λ (l : List Seen). i < length l) c.as_slice.ensures.value c.in-Some.ensures.within in
    let there : seen_of ss q ≡ Some s = found ∙ slice_get_read ss (length ss) i s refl within c.index_mut-entry.ensures.value in
    let set = set_there c.as_slice.result.now ss c.as_bytes.result.now q i c.as_slice.ensures.value c.as_bytes.ensures.value
    c.in-Some.ensures.replace t in
    record {
      told_still = λ m new. replaced_told ss q s t there c.give.ensures.name (λ file h. (c.give.ensures.same file).0 h) m
          (subst (λ (l : List Seen). Agrees l m) set new);
      later = λ name. omega arith;
    }

pub returns-in-Some-give-clause-same : goal.returns-in-Some-give-clause-same
returns-in-Some-give-clause-same c m told =
    let ss = c.args.self.now.seen.items in
    let q = c.args.name.now in
    let i = c.in-Some.place in
    let s = c.index_mut-entry.result.now in
    let t = c.give.new.self in
    let found = found_there c.as_slice.result.now ss c.as_bytes.result.now q i c.as_slice.ensures.value c.as_bytes.ensures.value
    c.in-Some.ensures.found in
    let within = subst (λ (l : List Seen). i < length l) c.as_slice.ensures.value c.in-Some.ensures.within in
    let there : seen_of ss q ≡ Some s = found ∙ slice_get_read ss (length ss) i s refl within c.index_mut-entry.ensures.value in
    let set = set_there c.as_slice.result.now ss c.as_bytes.result.now q i c.as_slice.ensures.value c.as_bytes.ensures.value
    c.in-Some.ensures.replace t in
    subst (λ (l : List Seen). Agrees l m) (sym set)
    (replaced_same ss q s t there c.give.ensures.name (λ file h. (c.give.ensures.same file).1 h) m told)

pub returns-in-Some-give-clause-given : goal.returns-in-Some-give-clause-given
returns-in-Some-give-clause-given c =
    let ss = c.args.self.now.seen.items in
    let q = c.args.name.now in
    let i = c.in-Some.place in
    let s = c.index_mut-entry.result.now in
    let t = c.give.new.self in
    let found = found_there c.as_slice.result.now ss c.as_bytes.result.now q i c.as_slice.ensures.value c.as_bytes.ensures.value
    c.in-Some.ensures.found in
    let within = subst (λ (l : List Seen). i < length l) c.as_slice.ensures.value c.in-Some.ensures.within in
    let there : seen_of ss q ≡ Some s = found ∙ slice_get_read ss (length ss) i s refl within c.index_mut-entry.ensures.value in
    let lent = ap whole_of_any there in
    ap Some c.from_vec.ensures ∙ (rw c.in-Some-give.is at c.give.ensures.given) ∙ sym lent

pub returns-in-None-give-clause-kept : goal.returns-in-None-give-clause-kept
returns-in-None-give-clause-kept c =
    let ss = c.args.self.now.seen.items in
    let q = c.args.name.now in
    let i = c.in-Some.place in
    let s = c.index_mut-entry.result.now in
    let t = c.give.new.self in
    let found = found_there c.as_slice.result.now ss c.as_bytes.result.now q i c.as_slice.ensures.value c.as_bytes.ensures.value
    c.in-Some.ensures.found in
    let within = subst (λ (l : List Seen). i < length l) c.as_slice.ensures.value c.in-Some.ensures.within in
    let there : seen_of ss q ≡ Some s = found ∙ slice_get_read ss (length ss) i s refl within c.index_mut-entry.ensures.value in
    let set = set_there c.as_slice.result.now ss c.as_bytes.result.now q i c.as_slice.ensures.value c.as_bytes.ensures.value
    c.in-Some.ensures.replace t in
    record {
      told_still = λ m new. replaced_told ss q s t there c.give.ensures.name (λ file h. (c.give.ensures.same file).0 h) m
          (subst (λ (l : List Seen). Agrees l m) set new);
      later = λ name. omega arith;
    }

pub returns-in-None-give-clause-same : goal.returns-in-None-give-clause-same
returns-in-None-give-clause-same c m told =
    let ss = c.args.self.now.seen.items in
    let q = c.args.name.now in
    let i = c.in-Some.place in
    let s = c.index_mut-entry.result.now in
    let t = c.give.new.self in
    let found = found_there c.as_slice.result.now ss c.as_bytes.result.now q i c.as_slice.ensures.value c.as_bytes.ensures.value
    c.in-Some.ensures.found in
    let within = subst (λ (l : List Seen). i < length l) c.as_slice.ensures.value c.in-Some.ensures.within in
    let there : seen_of ss q ≡ Some s = found ∙ slice_get_read ss (length ss) i s refl within c.index_mut-entry.ensures.value in
    let set = set_there c.as_slice.result.now ss c.as_bytes.result.now q i c.as_slice.ensures.value c.as_bytes.ensures.value
    c.in-Some.ensures.replace t in
    subst (λ (l : List Seen). Agrees l m) (sym set)
    (replaced_same ss q s t there c.give.ensures.name (λ file h. (c.give.ensures.same file).1 h) m told)

pub returns-in-None-give-clause-given : goal.returns-in-None-give-clause-given
returns-in-None-give-clause-given c =
    let ss = c.args.self.now.seen.items in
    let q = c.args.name.now in
    let i = c.in-Some.place in
    let s = c.index_mut-entry.result.now in
    let t = c.give.new.self in
    let found = found_there c.as_slice.result.now ss c.as_bytes.result.now q i c.as_slice.ensures.value c.as_bytes.ensures.value
    c.in-Some.ensures.found in
    let within = subst (λ (l : List Seen). i < length l) c.as_slice.ensures.value c.in-Some.ensures.within in
    let there : seen_of ss q ≡ Some s = found ∙ slice_get_read ss (length ss) i s refl within c.index_mut-entry.ensures.value in
    let lent = ap whole_of_any there in
    (rw c.in-None-give.is at c.give.ensures.given) ∙ sym lent
