use Rattle.cam_io.proofs.Common.{Some, arith, bytes_eq, false, length, refl, slice_get, slice_get_read, sym, true, ◌∙◌, ◌≡◌}
use Rattle.cam_io.proofs.Seeing.{seen_at, seen_set, none_more}
use Rattle.cam_io.proofs.seen.place_of.Goals as goal

pub returns-then-same-clause-found : goal.returns-then-same-clause-found
returns-then-same-clause-found c =
    let f = c.index-seen-i.result in
    let fs = c.args.seen.now in
    let e : slice_get fs c.loop-i.i ≡ Some f = slice_get_read fs (length fs) c.loop-i.i f refl (omega arith) c.index-seen-i.is in
    let t : bytes_eq c.args.name.now f.name ≡ true = cc in
    seen_at fs c.loop-i.i c.args.name.now f c.loop-i.invariant e t ∙ sym e

pub returns-then-same-clause-replace : goal.returns-then-same-clause-replace
returns-then-same-clause-replace c g =
    let f = c.index-seen-i.result in
    let fs = c.args.seen.now in
    let e : slice_get fs c.loop-i.i ≡ Some f = slice_get_read fs (length fs) c.loop-i.i f refl (omega arith) c.index-seen-i.is in
    let t : bytes_eq c.args.name.now f.name ≡ true = cc in
    seen_set fs c.loop-i.i c.args.name.now f g c.loop-i.invariant e t

pub loop-i-preserved : goal.loop-i-preserved
loop-i-preserved c =
    let f = c.index-seen-i.result in
    let fs = c.args.seen.now in
    let e : slice_get fs c.loop-i.i ≡ Some f = slice_get_read fs (length fs) c.loop-i.i f refl (omega arith) c.index-seen-i.is in
    let t : bytes_eq c.args.name.now f.name ≡ false = cc in
    none_more fs c.loop-i.i c.args.name.now f c.loop-i.invariant e t
