-- Acts leave the other channels as they were.
use Rattle.std.proofs.Common.{rules}
use Rattle.camkes_tool.proofs.Common.{Act, Begin, Bool, CutShort, IsAsBefore, List, None, Option, Sink, Some, Write, [], after, ap, arith, at, cond, false, inl, inr, refl, subst, sym, take, true, ℕ, ◌++◌, ◌==◌, ◌∙◌, ◌∷◌, ◌≡◌, ◌≢◌}
use Rattle.std.proofs.lemmas.Bool.Decides.{nat_tests}
use Rattle.cam_io.specs.Sinks.{appended, with_begun, more, named}

pub same_channel : (k : ℕ) (s : Sink) → IsAsBefore k s s
same_channel k s = record { begun = refl; name = refl; text = refl }

pub then_same : (k : ℕ) (s t u : Sink) → IsAsBefore k s t → IsAsBefore k t u → IsAsBefore k s u
then_same k s t u a b = record { begun = b.begun ∙ a.begun; name = b.name ∙ a.name; text = b.text ∙ a.text }

more_elsewhere : (k c : ℕ) (bytes : List ℕ) (w : Option (ℕ → List ℕ)) → (k == c) ≡ false → at (more c bytes w) k ≡ at w k
unfolding more
more_elsewhere k c bytes None e = refl
more_elsewhere k c bytes (Some w) e = ap (λ (b : Bool). Some (cond b (w k ++ bytes) (w k))) e

named_elsewhere : (k c : ℕ) (name : List ℕ) (w : Option (ℕ → List ℕ)) → (k == c) ≡ false → at (named c name w) k ≡ at w k
unfolding named
named_elsewhere k c name None e = refl
named_elsewhere k c name (Some w) e = ap (λ (b : Bool). Some (cond b name (w k))) e

pub appended_elsewhere : (k c : ℕ) (s : Sink) (bytes : List ℕ) → k ≢ c → IsAsBefore k s (appended s c bytes)
unfolding appended
appended_elsewhere k c s bytes n = search (rules, nat_tests, more_elsewhere)

pub begun_elsewhere : (k c : ℕ) (s : Sink) (name : List ℕ) → k ≢ c → IsAsBefore k s (with_begun s c name)
unfolding with_begun
begun_elsewhere k c s name n = search (rules, nat_tests, named_elsewhere)

-- the channels that acts touch
abbrev pub Spares : ℕ → List Act → Type 0
Spares k [] = Unit {0}
Spares k (Begin c name ∷ acts) = (k ≢ c) × Spares k acts
Spares k (Write c bytes ∷ acts) = (k ≢ c) × Spares k acts

pub after_spared : (k : ℕ) (acts : List Act) (s : Sink) → Spares k acts → IsAsBefore k s (after s acts)
after_spared k [] s h = same_channel k s
after_spared k (Begin c name ∷ acts) s h = then_same k s (with_begun s c name) _ (begun_elsewhere k c s name h.0)
    (after_spared k acts (with_begun s c name) h.1)
after_spared k (Write c bytes ∷ acts) s h = then_same k s (appended s c bytes) _ (appended_elsewhere k c s bytes h.0)
    (after_spared k acts (appended s c bytes) h.1)

pub cut_spared : (k : ℕ) (acts : List Act) (s t : Sink) → Spares k acts → CutShort s acts t → IsAsBefore k s t
cut_spared k [] s t h c = absurd c
cut_spared k (Begin c name ∷ acts) s t h (inl e) = subst (λ z. IsAsBefore k s z) (sym e) (same_channel k s)
cut_spared k (Begin c name ∷ acts) s t h (inr x) = then_same k s (with_begun s c name) t (begun_elsewhere k c s name h.0)
    (cut_spared k acts (with_begun s c name) t h.1 x)
cut_spared k (Write c bytes ∷ acts) s t h (inl e) = subst (λ z. IsAsBefore k s z) (sym e.front)
    (appended_elsewhere k c s (take e.count bytes) h.0)
cut_spared k (Write c bytes ∷ acts) s t h (inr x) = then_same k s (appended s c bytes) t (appended_elsewhere k c s bytes h.0)
    (cut_spared k acts (appended s c bytes) t h.1 x)
