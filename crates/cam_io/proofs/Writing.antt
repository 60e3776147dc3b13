-- Texts that are written in pieces: what a writer cites of one piece after another.
use Rattle.std.proofs.Common.{rules}
use Rattle.cam_io.proofs.Common.{IsCut, IsTrue, List, Sink, [], ap, append-nil, appended, arith, flat_map, flat_map-append, get_or, is_open, length, min, refl, sym, take, take-append-add, take-append-le, take_min, take_more, ℕ, ◌++◌, ◌+◌, ◌<◌, ◌∙◌}
use Rattle.cam_io.proofs.Common.{◌∷◌, ◌≡◌}
use Rattle.cam_base.specs.Texts.{◌⊹◌}
use Rattle.cam_io.proofs.Appends.{appended_nil, appended_twice, open_appended}

-- one piece more
pub ok_after : (old mid new : Sink) (c : ℕ) (a b : List ℕ) → mid ≡ appended old c a → new ≡ appended mid c b
    → new ≡ appended old c (a ++ b)
ok_after old mid new c a b e f = f ∙ (ap (λ s. appended s c b) e ∙ appended_twice old c a b)

-- a front of the first part is a front of the whole
pub cut_more : (old new : Sink) (c : ℕ) (a b : List ℕ) → IsCut old c a new → IsCut old c (a ++ b) new
cut_more old new c a b h = record {
  count = min h.count (length a);
  front = h.front ∙ ap (appended old c) (sym (take-append-le (min h.count (length a)) a b (omega arith) ∙ take_min h.count a));
}

-- a front of the next part, behind the parts before it
pub cut_after : (old mid new : Sink) (c : ℕ) (a b : List ℕ) → mid ≡ appended old c a → IsCut mid c b new
    → IsCut old c (a ++ b) new
cut_after old mid new c a b e h = record {
  count = length a + h.count;
  front = search (rules, appended_twice, take-append-add);
}

-- what was open before a piece is open after it
pub open_after : (old new : Sink) (c : ℕ) (a : List ℕ) → new ≡ appended old c a → IsTrue (is_open old c) → IsTrue (is_open new c)
open_after old new c a e h = open_appended old new c c a e h

module _ {X : Type 0} (f : X → List ℕ) where
  pub lines_more : (xs : List X) (i : ℕ) (x : X) → i < length xs → x ≡ get_or xs i x
      → flat_map f (take (i + 1) xs) ≡ flat_map f (take i xs) ++ f x
  lines_more xs i x h is =
      ap (flat_map f) (take_more xs i x h)
      ∙ (flat_map-append f (take i xs) (get_or xs i x ∷ [])
      ∙ (ap (λ ys. flat_map f (take i xs) ++ ys) (append-nil (f (get_or xs i x)))
      ∙ ap (λ y. flat_map f (take i xs) ++ f y) (sym is)))

pub beside : (a b : List ℕ) → a ⊹ b ≡ a ++ b
unfolding ◌⊹◌
beside a b = refl

-- the same three for texts in parts
pub ok_then : (old mid new : Sink) (c : ℕ) (a b : List ℕ) → mid ≡ appended old c a → new ≡ appended mid c b
    → new ≡ appended old c (a ⊹ b)
unfolding ◌⊹◌
ok_then old mid new c a b e f = ok_after old mid new c a b e f

pub cut_first : (old new : Sink) (c : ℕ) (a b : List ℕ) → IsCut old c a new → IsCut old c (a ⊹ b) new
unfolding ◌⊹◌
cut_first old new c a b h = cut_more old new c a b h

pub cut_then : (old mid new : Sink) (c : ℕ) (a b : List ℕ) → mid ≡ appended old c a → IsCut mid c b new → IsCut old c (a ⊹ b) new
unfolding ◌⊹◌
cut_then old mid new c a b e h = cut_after old mid new c a b e h

pub wrote_nothing : (s : Sink) (c : ℕ) → s ≡ appended s c []
wrote_nothing s c = sym (appended_nil s c)

pub ruleset parts = (ok_then, cut_first, cut_then, open_after, wrote_nothing)
