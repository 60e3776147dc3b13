-- Every form that the next token decides is read exactly.
use Rattle.cam_base.proofs.Common.{As, Begins, Bool, Form, Give, List, Many, Meaning, Nested, One, Or, Reader, Spells, Starts, Then, [], and_parts, apart, can_be_empty, decides, false, first, further, not, not-true, read, same, subst, sym, true, ℕ}
use Rattle.cam_base.proofs.Common.{◌&&◌, ◌||◌, ◌≡◌}
use Rattle.cam_base.proofs.TerminalCodes.{same_is}
use Rattle.cam_base.proofs.Laws.{IsRead, IsRead-give, IsRead-one, IsRead-map, IsRead-then, IsRead-or}
use Rattle.cam_base.proofs.Repeats.{IsRead-many}

-- that a form and its reader keep the law
abbrev pub Exact : {T V A : Type 0} → (T → ℕ) → Meaning T V → List ℕ → Reader T V → Form T V A → Type 0
Exact code m opens deeper f = IsRead code (Spells code m f) (Begins code m f) (can_be_empty f) (first opens f) (further opens f)
    (read code opens deeper f)

module _ {T V : Type 0} (code : T → ℕ) (m : Meaning T V) (opens : List ℕ) (deeper : Reader T V)
    (nested : IsRead code m.spells m.begins false opens [] deeper) where
  pub exact : {A : Type 0} (f : Form T V A) → decides opens f ≡ true → Exact code m opens deeper f
  exact (Give x) d = IsRead-give code x
  exact (One cs) d = IsRead-one code cs
  exact (Then f g) d =
      let p = and_parts (decides opens f) (decides opens g && apart (further opens f) (first opens g)) d in
      let q = and_parts (decides opens g) (apart (further opens f) (first opens g)) p.1 in
      IsRead-then code (exact f p.0) (exact g q.0) q.1
  exact (Or f g) d =
      let p = and_parts (decides opens f) (decides opens g && (not (can_be_empty f) && apart (first opens f) (first opens g)))
      d in
      let q = and_parts (decides opens g) (not (can_be_empty f) && apart (first opens f) (first opens g)) p.1 in
      let w = and_parts (not (can_be_empty f)) (apart (first opens f) (first opens g)) q.1 in
      let full : can_be_empty f ≡ false = not-true (can_be_empty f) w.0 in
      let one = subst (λ (e : Bool). IsRead code (Spells code m f) (Begins code m f) e (first opens f) (further opens f)
      (read code opens deeper f)) full (exact f p.0) in
      subst (λ (e : Bool). IsRead code (Spells code m (Or f g)) (Begins code m (Or f g)) (e || can_be_empty g)
      (first opens (Or f g)) (further opens (Or f g)) (read code opens deeper (Or f g))) (sym full)
      (IsRead-or code one (exact g q.0) w.1)
  exact (Many f) d =
      let p = and_parts (decides opens f) (not (can_be_empty f) && apart (further opens f) (first opens f)) d in
      let q = and_parts (not (can_be_empty f)) (apart (further opens f) (first opens f)) p.1 in
      let full : can_be_empty f ≡ false = not-true (can_be_empty f) q.0 in
      let one = subst (λ (e : Bool). IsRead code (Spells code m f) (Begins code m f) e (first opens f) (further opens f)
      (read code opens deeper f)) full (exact f p.0) in
      IsRead-many code one q.1
  exact (As h f) d = IsRead-map code h (exact f d)
  exact (Starts cs f) d =
      let p = and_parts (decides opens f) (not (can_be_empty f) && same cs (first opens f)) d in
      let q = and_parts (not (can_be_empty f)) (same cs (first opens f)) p.1 in
      let full : can_be_empty f ≡ false = not-true (can_be_empty f) q.0 in
      let one = subst (λ (e : Bool). IsRead code (Spells code m f) (Begins code m f) e (first opens f) (further opens f)
      (read code opens deeper f)) full (exact f p.0) in
      subst (λ (ds : List ℕ). IsRead code (Spells code m f) (Begins code m f) false ds (further opens f)
      (read code opens deeper f)) (sym (same_is cs (first opens f) q.1)) one
  exact Nested d = nested
