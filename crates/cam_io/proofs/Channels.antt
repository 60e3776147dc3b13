-- A channel of several is changed.
use Rattle.cam_io.proofs.Common.{Bool, Channel, IsTrue, List, Some, [], ap, arith, blank, cond, eqb-suc-suc, eqb-suc-zero, eqb-zero-suc, false, filled, inl, inr, is_open, length, named_channel, nat_tests, of_channel, refl, room_of, rules, slice_get}
use Rattle.cam_io.proofs.Common.{slice_set, suc, take, true, zero, ℕ, ◌++◌, ◌-◌, ◌<◌, ◌==◌, ◌||◌, ◌∙◌, ◌∷◌, ◌≡◌, ◌≤◌, ◌⊎◌}
use Rattle.cam_io.specs.Sinks.{more, named, appended, with_begun}
use Rattle.cam_io.specs.MemOutputs.{sink_of}

changed : {A : Type 0} (p : Channel → A) (d : A) (f : A → A) (cs : List Channel) (i k : ℕ) (c x : Channel)
    → slice_get cs i ≡ Some c → p x ≡ f (p c) → of_channel p d (slice_set cs i x) k ≡ cond (k == i) (f (of_channel p d cs k))
    (of_channel p d cs k)
changed p d f [] i k c x e h = cc
changed p d f (y ∷ cs) zero zero c x e h = let same : y ≡ c = cc in rw same h
changed p d f (y ∷ cs) zero (suc k) c x e h = rw (eqb-suc-zero k) refl
changed p d f (y ∷ cs) (suc i) zero c x e h = rw (eqb-zero-suc i) refl
changed p d f (y ∷ cs) (suc i) (suc k) c x e h = rw (eqb-suc-suc k i) (changed p d f cs i k c x e h)

same_cond : {A : Type 0} (b : Bool) (a : A) → cond b a a ≡ a
same_cond true a = refl
same_cond false a = refl

kept : {A : Type 0} (p : Channel → A) (d : A) (cs : List Channel) (i k : ℕ) (c x : Channel) → slice_get cs i ≡ Some c → p x ≡ p c
    → of_channel p d (slice_set cs i x) k ≡ of_channel p d cs k
kept p d cs i k c x e h = changed p d (λ a. a) cs i k c x e h ∙ same_cond (k == i) (of_channel p d cs k)

-- a channel took the first bytes of a piece
pub sink_taken : (cs : List Channel) (i : ℕ) (c x : Channel) (n : ℕ) (piece : List ℕ) → slice_get cs i ≡ Some c
    → x ≡ filled c n piece → sink_of (slice_set cs i x) ≡ appended (sink_of cs) i (take n piece)
unfolding sink_of appended more
sink_taken cs i c x n piece e is = λ j.
    record {
      begun = (λ k. kept (λ y. y.begun) false cs i k c x e (ap (λ y. y.begun) is) j);
      names = Some (λ k. kept (λ y. y.name) [] cs i k c x e (ap (λ y. y.name) is) j);
      written = Some (λ k. changed (λ y. y.bytes) [] (λ a. a ++ take n piece) cs i k c x e (ap (λ y. y.bytes) is) j);
    }

-- its room is less by so many
pub room_taken : (cs : List Channel) (i : ℕ) (c x : Channel) (n : ℕ) (piece : List ℕ) (k : ℕ) → slice_get cs i ≡ Some c
    → x ≡ filled c n piece → room_of (slice_set cs i x) k ≡ cond (k == i) (room_of cs k - n) (room_of cs k)
room_taken cs i c x n piece k e is = changed (λ y. y.room) 0 (λ r. r - n) cs i k c x e (ap (λ y. y.room) is)

-- a channel was begun under a name
pub sink_begun : (cs : List Channel) (i : ℕ) (c x : Channel) (name : List ℕ) → slice_get cs i ≡ Some c → x ≡ named_channel c name
    → sink_of (slice_set cs i x) ≡ with_begun (sink_of cs) i name
unfolding sink_of with_begun named
sink_begun cs i c x name e is = λ j.
    record {
      begun = (λ k. changed (λ y. y.begun) false (λ _. true) cs i k c x e (ap (λ y. y.begun) is) j);
      names = Some (λ k. changed (λ y. y.name) [] (λ _. name) cs i k c x e (ap (λ y. y.name) is) j);
      written = Some (λ k. kept (λ y. y.bytes) [] cs i k c x e (ap (λ y. y.bytes) is) j);
    }

-- no room was taken
pub room_kept : (cs : List Channel) (i : ℕ) (c x : Channel) (k : ℕ) → slice_get cs i ≡ Some c → x.room ≡ c.room
    → room_of (slice_set cs i x) k ≡ room_of cs k
room_kept cs i c x k e is = kept (λ y. y.room) 0 cs i k c x e is

pub chosen : (b : Bool) (c x y : Channel) → x ≡ cond b y c → y.room ≡ c.room → x.room ≡ c.room
chosen true c x y e h = ap (λ z. z.room) e ∙ h
chosen false c x y e h = ap (λ z. z.room) e

begun_within : (cs : List Channel) (i : ℕ) → of_channel (λ c. c.begun) false cs i ≡ true → i < length cs
begun_within [] i h = cc
begun_within (c ∷ cs) zero h = omega arith
begun_within (c ∷ cs) (suc i) h = omega (arith, begun_within cs i h)

one_of : (a b c : Bool) → IsTrue (a || (b || c)) → (a ≡ true) ⊎ ((b ≡ true) ⊎ (c ≡ true))
one_of true b c h = inl refl
one_of false true c h = inr (inl refl)
one_of false false true h = inr (inr refl)
one_of false false false h = search rules

-- an open channel is one of the channels
pub open_within : (cs : List Channel) (i : ℕ) → length cs ≡ 6 → IsTrue (is_open (sink_of cs) i) → i < length cs
unfolding sink_of
open_within cs i e h = search (rules, one_of, nat_tests, begun_within)

-- what a channel has
pub channel_at : {A : Type 0} (p : Channel → A) (d : A) (cs : List Channel) (i : ℕ) (c : Channel) → slice_get cs i ≡ Some c
    → of_channel p d cs i ≡ p c
channel_at p d [] i c e = cc
channel_at p d (y ∷ cs) zero c e = let same : y ≡ c = cc in ap p same
channel_at p d (y ∷ cs) (suc i) c e = channel_at p d cs i c e

-- what there is where there is no channel
pub no_channel : {A : Type 0} (p : Channel → A) (d : A) (cs : List Channel) (i : ℕ) → length cs ≤ i → of_channel p d cs i ≡ d
no_channel p d [] i e = refl
no_channel p d (y ∷ cs) zero e = absurd (omega arith)
no_channel p d (y ∷ cs) (suc i) e = no_channel p d cs i (omega arith)

-- of six blank channels none is begun
pub fresh_six : (room k : ℕ)
    → (sink_of (blank room ∷ blank room ∷ blank room ∷ blank room ∷ blank room ∷ blank room ∷ [])).begun k ≡ false
unfolding sink_of
fresh_six room zero = refl
fresh_six room (suc zero) = refl
fresh_six room (suc (suc zero)) = refl
fresh_six room (suc (suc (suc zero))) = refl
fresh_six room (suc (suc (suc (suc zero)))) = refl
fresh_six room (suc (suc (suc (suc (suc zero))))) = refl
fresh_six room (suc (suc (suc (suc (suc (suc k)))))) = refl
