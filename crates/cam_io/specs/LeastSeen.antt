-- The least contents have what was seen.
use Rattle.std.proofs.Common.{◌≡◌, refl, sym, ap, ◌∙◌, subst, ℕ, Bool, true, false, cond, List, [], ◌∷◌, Option, None, Some}
use Rattle.std.proofs.lemmas.List.{append-nil}
use Rattle.std.proofs.lemmas.Map.Text.{is_eq-slice_cmp}
use Rattle.std.proofs.lemmas.Cmp.{nat_list_cmp_total}
use Rattle.std.specs.FinMap.{get, get-insert, get-remove, insert}
use Rattle.std.specs.Str.{bytes_eq}
use Rattle.cam_io.specs.Contents.{Contents}
use Rattle.cam_io.specs.Seen.{seen_of, HasSeen, HasAny, Agrees, with_seen, least}
use Rattle.cam_io.specs.declared.seen.Extent.{Extent}
use Rattle.cam_io.specs.declared.seen.Extent.TheVariants.{Unasked, Absent, Begun, Whole, Given}
use Rattle.cam_io.specs.declared.seen.Seen.{Seen}

cond_any : (b : Bool) (s : Seen) (o : Option Seen) (file : Option (List ℕ)) → (b ≡ true → HasSeen s.extent s.bytes.items file)
    → (b ≡ false → HasAny o file) → HasAny (cond b (Some s) o) file
cond_any true s o file h k = h refl
cond_any false s o file h k = k refl

gets_put : (name bytes : List ℕ) (m : Contents) (q : List ℕ) → bytes_eq q name ≡ true → get (insert m name bytes) q ≡ Some bytes
gets_put name bytes m q e = get-insert nat_list_cmp_total m name bytes q ∙ ap (λ b. cond b (Some bytes) (get m q))
    (is_eq-slice_cmp q name ∙ e)

gets_other : (name bytes : List ℕ) (m : Contents) (q : List ℕ) → bytes_eq q name ≡ false → get (insert m name bytes) q ≡ get m q
gets_other name bytes m q e = get-insert nat_list_cmp_total m name bytes q ∙ ap (λ b. cond b (Some bytes) (get m q))
    (is_eq-slice_cmp q name ∙ e)

gets_seen : (extent : Extent) (name bytes : List ℕ) (m : Contents) (q : List ℕ) → bytes_eq q name ≡ true
    → HasSeen extent bytes (get (with_seen extent name bytes m) q)
gets_seen Unasked name bytes m q e = tt
gets_seen Absent name bytes m q e = get-remove nat_list_cmp_total m name q ∙ ap (λ b. cond b None (get m q))
    (is_eq-slice_cmp q name ∙ e)
gets_seen Begun name bytes m q e = ([], gets_put name bytes m q e ∙ ap (λ l. Some l) (sym (append-nil bytes)))
gets_seen Whole name bytes m q e = gets_put name bytes m q e
gets_seen (Given all) name bytes m q e = gets_put name all.value.items m q e

gets_rest : (extent : Extent) (name bytes : List ℕ) (m : Contents) (q : List ℕ) → bytes_eq q name ≡ false
    → get (with_seen extent name bytes m) q ≡ get m q
gets_rest Unasked name bytes m q e = refl
gets_rest Absent name bytes m q e = get-remove nat_list_cmp_total m name q ∙ ap (λ b. cond b None (get m q))
    (is_eq-slice_cmp q name ∙ e)
gets_rest Begun name bytes m q e = gets_other name bytes m q e
gets_rest Whole name bytes m q e = gets_other name bytes m q e
gets_rest (Given all) name bytes m q e = gets_other name all.value.items m q e

pub least_agrees : (seen : List Seen) → Agrees seen (least seen)
least_agrees [] q = tt
least_agrees (s ∷ ss) q =
    cond_any (bytes_eq q s.name) s (seen_of ss q) (get (with_seen s.extent s.name s.bytes.items (least ss)) q)
    (gets_seen s.extent s.name s.bytes.items (least ss) q)
    (λ e. subst (λ file. HasAny (seen_of ss q) file) (sym (gets_rest s.extent s.name s.bytes.items (least ss) q e))
    (least_agrees ss q))
