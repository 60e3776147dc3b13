-- Settings with one in front of them that sets the same.
use Rattle.front_laws.proofs.Common.{Body, Fault, Hierarchy, IsIn, List, Setting, Some, [], and_from, and_parts, ap, arith, body, bytes_eq-Decides, enumerate_from, false, from_enumerate, from_flat_map, get_or, in_append, in_enumerate, in_flat_map}
use Rattle.front_laws.proofs.Common.{in_left, in_right, inl, inr, last_name, length, or_cases, or_left, or_right, path_of, refl, same_path, same_path-Decides, subst, suc, sym, true, where_true, zero, ℕ, ◌&&◌, ◌++◌, ◌+◌, ◌||◌, ◌∙◌, ◌∷◌}
use Rattle.front_laws.proofs.Common.{rules, ◌≡◌, ◌≤◌, ◌⊎◌}
use Rattle.adl_meaning.specs.Prelude.{bytes_eq, slice_get}
use Rattle.front_laws.specs.SetAgain.{IsSettingTwice}
use Rattle.adl_settings.specs.SettingTwice.{Met, repeated_after, repeated_in, setting_twice, settings_twice}
use Rattle.front_laws.proofs.Tested.{from_true, in_true}

-- ---- bodies by number

from_bodies : (bs : List Body) (top : Body) (k : ℕ) (b : Body) → slice_get (bs ++ top ∷ []) k ≡ Some b
    → (k ≤ length bs) × (get_or bs k top ≡ b)
from_bodies [] top zero b e = (omega arith, cc)
from_bodies [] top (suc k) b e = cc
from_bodies (x ∷ bs) top zero b e = (omega arith, cc)
from_bodies (x ∷ bs) top (suc k) b e = let r = from_bodies bs top k b e in let l = r.0 in (omega (arith, l), r.1)

in_bodies : (bs : List Body) (top : Body) (k : ℕ) → k ≤ length bs → slice_get (bs ++ top ∷ []) k ≡ Some (get_or bs k top)
in_bodies [] top zero l = refl
in_bodies [] top (suc k) l = absurd (omega (arith, l))
in_bodies (x ∷ bs) top zero l = refl
in_bodies (x ∷ bs) top (suc k) l = in_bodies bs top k (omega (arith, l))

-- ---- one body

abbrev IsAlike : Hierarchy → ℕ → Setting → Setting → Type 0
IsAlike h k y x = (path_of h k y.words ≡ path_of h k x.words) × (last_name y.words ≡ last_name x.words)

-- a setting that was met, or that is set in front of it
abbrev Why : Hierarchy → ℕ → Met → List Setting → Setting → Type 0
Why h k met before x = (met (path_of h k x.words) (last_name x.words) ≡ true) ⊎ ((y : Setting) × IsIn y before × IsAlike h k y x)

record Again (h : Hierarchy) (k : ℕ) (met : Met) (xs : List Setting) (f : Fault) : Type 0 where
  before : List Setting
  setting : Setting
  after : List Setting
  split : xs ≡ before ++ setting ∷ after
  fault : f ≡ setting_twice setting
  why : Why h k met before setting

from_after : (h : Hierarchy) (k : ℕ) (met : Met) (xs : List Setting) (f : Fault) → IsIn f (repeated_after h k met xs)
    → Again h k met xs f
from_after h k met [] f i = absurd i
from_after h k met (y ∷ xs) f i =
    let more : Met = λ p n. met p n || (same_path p (path_of h k y.words) && bytes_eq n (last_name y.words)) in
    elim (in_append f (where_true (met (path_of h k y.words) (last_name y.words)) (setting_twice y))
    (repeated_after h k more xs) i) [
      | inl j ↦ let t = from_true (met (path_of h k y.words) (last_name y.words)) (setting_twice y) f j in
          record { before = []; setting = y; after = xs; split = refl; fault = sym t.1; why = inl t.0 }
      | inr j ↦ let r = from_after h k more xs f j in
          record {
            before = y ∷ r.before;
            setting = r.setting;
            after = r.after;
            split = ap (λ z. y ∷ z) r.split;
            fault = r.fault;
            why = wider r.setting r.before r.why;
          }
    ]
  where
    wider : (x : Setting) (before : List Setting)
        → Why h k (λ p n. met p n || (same_path p (path_of h k y.words) && bytes_eq n (last_name y.words))) before x
        → Why h k met (y ∷ before) x
    wider x before (inl t) =
        let p = path_of h k x.words in let q = path_of h k y.words in
        search (rules, or_cases, and_parts, same_path-Decides, bytes_eq-Decides)
    wider x before (inr z) = inr (z.0, inr z.1, z.2)

into_after : (h : Hierarchy) (k : ℕ) (met : Met) (before : List Setting) (x : Setting) (after : List Setting)
    → Why h k met before x → IsIn (setting_twice x) (repeated_after h k met (before ++ x ∷ after))
into_after h k met [] x after (inl t) = search (rules, in_left, in_true)
into_after h k met [] x after (inr z) = absurd z.1
into_after h k met (y ∷ before) x after why =
    let more : Met = λ p n. met p n || (same_path p (path_of h k y.words) && bytes_eq n (last_name y.words)) in
    in_right (setting_twice x) (where_true (met (path_of h k y.words) (last_name y.words)) (setting_twice y))
    (repeated_after h k more (before ++ x ∷ after)) (into_after h k more before x after (narrower why))
  where
    narrower : Why h k met (y ∷ before) x
        → Why h k (λ p n. met p n || (same_path p (path_of h k y.words) && bytes_eq n (last_name y.words))) before x
    narrower (inl t) = search (rules, or_left)
    narrower (inr (z, inl e, (a, b))) = search (rules, and_from, same_path-Decides, bytes_eq-Decides, or_right)
    narrower (inr (z, inr i, s)) = inr (z, i, s)

-- ---- all bodies

pub from_twice : (h : Hierarchy) (f : Fault) → IsIn f (settings_twice h) → IsSettingTwice h f
from_twice h f i = search (rules, from_flat_map, from_enumerate, from_bodies, from_after)

pub in_twice : (h : Hierarchy) (f : Fault) → IsSettingTwice h f → IsIn f (settings_twice h)
in_twice h f t =
    let k = t.inside in let a = t.again in
    let x = t.setting in
    let P : Fault → Type 0 = λ g. IsIn g (settings_twice h) in
    let Q : List Setting → Type 0 = λ xs. IsIn (setting_twice x) (repeated_after h k (λ p n. false) xs) in
    subst P (sym t.fault) (in_flat_map (repeated_in h) (k, body h k) (setting_twice x) (enumerate_from 0 (h.bodies ++ h.top ∷ []))
    (in_numbered (h.bodies ++ h.top ∷ []) k (body h k) (in_bodies h.bodies h.top k t.there))
    (subst Q (sym a.split) (into_after h k (λ p n. false) a.before x a.after (inr (a.earlier, a.stands, (a.path, a.name))))))
  where
    in_numbered : (bs : List Body) (k : ℕ) (b : Body) → slice_get bs k ≡ Some b → IsIn (k, b) (enumerate_from 0 bs)
    in_numbered bs k b e = let same : 0 + k ≡ k = omega arith in let P : ℕ → Type 0 = λ n. IsIn (n, b) (enumerate_from 0 bs) in
        subst P same (in_enumerate 0 bs k b e)
