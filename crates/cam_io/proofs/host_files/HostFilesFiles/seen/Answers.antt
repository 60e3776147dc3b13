use Rattle.cam_io.proofs.Common.{HasAny, List, Seen, Some, ap, get, length, refl, seen_of, slice_get_read, subst, sym, whole_of_any, ◌<◌, ◌∙◌, ◌≡◌}
use Rattle.cam_io.proofs.Seeing.{found_there}
use Rattle.cam_io.proofs.host_files.HostFilesFiles.seen.Goals as goal

pub returns : goal.returns
returns c =
    let ss = c.args.self.now.seen.items in
    let q = c.args.name.now in
    let i = c.in_ok-place.place in
    let s = c.index.result.now in
    let found = found_there c.as_slice.result.now ss c.as_bytes.result.now q i c.as_slice.ensures.value c.as_bytes.ensures.value
    c.in_ok-place.ensures.found in
    let within = subst (λ (l : List Seen). i < length l) c.as_slice.ensures.value c.in_ok-place.ensures.within in
    let there : seen_of ss q ≡ Some s = found ∙ slice_get_read ss (length ss) i s refl within c.index.ensures in
    record {
      lends = c.whole.ensures.whole ∙ sym (ap whole_of_any there);
      told = λ m told. c.whole.ensures.told (get m q) (subst (λ o. HasAny o (get m q)) there (told q));
    }
