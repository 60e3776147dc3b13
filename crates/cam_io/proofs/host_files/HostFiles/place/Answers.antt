use Rattle.cam_io.proofs.Common.{Agrees, List, Seen, [], ap, bytes_eq, bytes_eq-Decides, length, seen_of, slice_get, slice_set, subst, sym, true, ◌++◌, ◌∙◌, ◌∷◌, ◌≡◌}
use Rattle.cam_io.specs.Seen.{replaced}
use Rattle.cam_io.proofs.Seeing.{none_there, pushed_found, pushed_learned, pushed_replaced, pushed_told}
use Rattle.cam_io.proofs.host_files.HostFiles.place.Goals as goal

pub returns-clause-told : goal.returns-clause-told
returns-clause-told c m told =
    pushed_told c.args.self.now.seen.items c.in_ok-entry.entry m
    (subst (λ (l : List Seen). Agrees l m) c.in_ok-push.ensures.items told)

pub returns-clause-learned : goal.returns-clause-learned
returns-clause-learned c m told =
    subst (λ (l : List Seen). Agrees l m) (sym c.in_ok-push.ensures.items)
    (pushed_learned c.args.self.now.seen.items c.in_ok-entry.entry m c.in_ok-entry.ensures.unasked told)

pub returns-clause-found : goal.returns-clause-found
returns-clause-found c =
    let ss = c.args.self.now.seen.items in
    let q = c.args.name.now in
    let t = c.in_ok-entry.entry in
    let none = none_there c.as_slice.result.now ss c.as_bytes.result.now q c.as_slice.ensures.value c.as_bytes.ensures.value
    c.in_default.ensures.none in
    let named : bytes_eq q t.name ≡ true =
    (bytes_eq-Decides q t.name).1 (sym (c.in_ok-entry.ensures.name ∙ c.as_bytes-2.ensures.value)) in
    rw c.in_ok-push.ensures.items (subst (λ i. seen_of (ss ++ t ∷ []) q ≡ slice_get (ss ++ t ∷ []) i)
    (sym (ap length c.as_slice-place.ensures.value)) (pushed_found ss q t none named))

pub returns-clause-replace : goal.returns-clause-replace
returns-clause-replace c s =
    let ss = c.args.self.now.seen.items in
    let q = c.args.name.now in
    let t = c.in_ok-entry.entry in
    let none = none_there c.as_slice.result.now ss c.as_bytes.result.now q c.as_slice.ensures.value c.as_bytes.ensures.value
    c.in_default.ensures.none in
    let named : bytes_eq q t.name ≡ true =
    (bytes_eq-Decides q t.name).1 (sym (c.in_ok-entry.ensures.name ∙ c.as_bytes-2.ensures.value)) in
    rw c.in_ok-push.ensures.items (subst (λ i. slice_set (ss ++ t ∷ []) i s ≡ replaced (ss ++ t ∷ []) q s)
    (sym (ap length c.as_slice-place.ensures.value)) (pushed_replaced ss q t s none named))
