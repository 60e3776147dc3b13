use Rattle.cam_io.proofs.Common.{Some, ap, length, refl, slice_get, slice_get_read, ◌∙◌, ◌≡◌}
use Rattle.cam_io.proofs.Lookups.{bytes_of, get_contents}
use Rattle.cam_io.proofs.named_file.found.Goals as goal

pub returns-clause-some : goal.returns-clause-some
returns-clause-some c =
    let f = c.index-files-at.result in
    let fs = c.args.files.now in
    let e : slice_get fs c.in_ok-at.at ≡ Some f = slice_get_read fs (length fs) c.in_ok-at.at f refl c.in_ok-at.ensures.within
    c.index-files-at.is in
    get_contents fs c.args.name.now ∙ ap bytes_of (c.in_ok-at.ensures.found ∙ e)
