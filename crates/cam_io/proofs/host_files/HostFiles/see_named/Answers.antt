use Rattle.cam_io.proofs.Common.{Agrees, List, Seen, Some, length, refl, seen_of, slice_get_read, subst, sym, ◌+◌, ◌∙◌, ◌≡◌}
use Rattle.cam_io.proofs.Seeing.{replaced_learned, replaced_told}
use Rattle.cam_io.proofs.host_files.HostFiles.see_named.Goals as goal

pub returns-clause-told : goal.returns-clause-told
returns-clause-told c m told =
    let ss = c.place.new.self.seen.items in
    let q = c.args.name.now in
    let s = c.index_mut.result.now in
    let t = c.see.new.self in
    let there : seen_of ss q ≡ Some s = c.in_ok-place.ensures.found ∙ slice_get_read ss (length ss) c.in_ok-place.place s refl
    c.in_ok-place.ensures.within c.index_mut.ensures.value in
    c.in_ok-place.ensures.told m (replaced_told ss q s t there c.see.ensures.name c.see.ensures.grows m
    (subst (λ (l : List Seen). Agrees l m) (c.in_ok-place.ensures.replace t) told))

pub returns-clause-learned : goal.returns-clause-learned
returns-clause-learned c m n told old same =
    let ss = c.place.new.self.seen.items in
    let q = c.args.name.now in
    let s = c.index_mut.result.now in
    let t = c.see.new.self in
    let there : seen_of ss q ≡ Some s = c.in_ok-place.ensures.found ∙ slice_get_read ss (length ss) c.in_ok-place.place s refl
    c.in_ok-place.ensures.within c.index_mut.ensures.value in
    subst (λ (l : List Seen). Agrees l n) (sym (c.in_ok-place.ensures.replace t))
    (replaced_learned ss q s t (c.args.limit + 1) there c.see.ensures.name c.see.ensures.learns m n
    (subst (λ (l : List Seen). Agrees l m) (c.in_ok-place.ensures.replace t) told) (c.in_ok-place.ensures.learned n old) same)
