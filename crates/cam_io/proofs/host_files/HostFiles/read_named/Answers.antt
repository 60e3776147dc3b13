use Rattle.cam_io.proofs.Common.{Agrees, List, Seen, Some, get, length, refl, seen_of, slice_get_read, subst, sym, ◌+◌, ◌∙◌, ◌≡◌}
use Rattle.cam_io.proofs.Seeing.{got_of, replaced_has, replaced_learned, replaced_told}
use Rattle.cam_io.proofs.host_files.HostFiles.read_named.Goals as goal

pub returns-clause-told : goal.returns-clause-told
returns-clause-told c m told =
    let ss = c.place.new.self.seen.items in
    let q = c.args.name.now in
    let s = c.index_mut.result.now in
    let t = c.read.new.self in
    let there : seen_of ss q ≡ Some s = c.in-Ok.ensures.found ∙ slice_get_read ss (length ss) c.in-Ok.place s refl
    c.in-Ok.ensures.within c.index_mut.ensures.value in
    c.in-Ok.ensures.told m (replaced_told ss q s t there c.read.ensures.name c.read.ensures.grows m
    (subst (λ (l : List Seen). Agrees l m) (c.in-Ok.ensures.replace t) told))

pub returns-clause-got : goal.returns-clause-got
returns-clause-got c m told =
    let ss = c.place.new.self.seen.items in
    let q = c.args.name.now in
    let s = c.index_mut.result.now in
    let t = c.read.new.self in
    let there : seen_of ss q ≡ Some s = c.in-Ok.ensures.found ∙ slice_get_read ss (length ss) c.in-Ok.place s refl
    c.in-Ok.ensures.within c.index_mut.ensures.value in
    got_of c.read.result t c.args.at c.read.new.buf (get m q) c.read.ensures.got
    (replaced_has ss q s t there c.read.ensures.name m (subst (λ (l : List Seen). Agrees l m) (c.in-Ok.ensures.replace t) told))

pub returns-clause-learned : goal.returns-clause-learned
returns-clause-learned c m n told old same =
    let ss = c.place.new.self.seen.items in
    let q = c.args.name.now in
    let s = c.index_mut.result.now in
    let t = c.read.new.self in
    let there : seen_of ss q ≡ Some s = c.in-Ok.ensures.found ∙ slice_get_read ss (length ss) c.in-Ok.place s refl
    c.in-Ok.ensures.within c.index_mut.ensures.value in
    subst (λ (l : List Seen). Agrees l n) (sym (c.in-Ok.ensures.replace t))
    (replaced_learned ss q s t (c.args.at + length c.args.buf.now) there c.read.ensures.name c.read.ensures.learns m n
    (subst (λ (l : List Seen). Agrees l m) (c.in-Ok.ensures.replace t) told) (c.in-Ok.ensures.learned n old) same)
