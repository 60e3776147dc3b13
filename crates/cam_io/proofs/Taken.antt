-- Files of the host, by their places.
use Rattle.cam_io.proofs.Common.{List, None, Option, Some, [], arith, cond, eqb-suc-suc, eqb-suc-zero, eqb-zero-suc, false, length, refl, slice_set, suc, true, zero, ℕ, ◌<◌, ◌==◌, ◌∷◌, ◌≡◌}
use Rattle.cam_io.specs.Sinks.{named, more, appended, with_begun}
use Rattle.cam_io.specs.Host.{taken_at, host_sink}

taken_set : {A : Type 0} (fs : List (Option A)) (i k : ℕ) (f : A) → i < length fs
    → taken_at (slice_set fs i (Some f)) k ≡ cond (k == i) true (taken_at fs k)
taken_set [] i k f h = absurd (omega arith)
taken_set (x ∷ fs) zero zero f h = refl
taken_set (x ∷ fs) zero (suc k) f h = rw (eqb-suc-zero k) refl
taken_set (x ∷ fs) (suc i) zero f h = rw (eqb-zero-suc i) refl
taken_set (x ∷ fs) (suc i) (suc k) f h = rw (eqb-suc-suc k i) (taken_set fs i k f (omega arith))

pub host_begun : {A : Type 0} (fs : List (Option A)) (i : ℕ) (name : List ℕ) (f : A) → i < length fs
    → host_sink (slice_set fs i (Some f)) ≡ with_begun (host_sink fs) i name
unfolding with_begun named
host_begun fs i name f h = λ j. record { begun = (λ k. taken_set fs i k f h j); names = None; written = None }

-- nothing is told of what is written
pub host_appended : {A : Type 0} (fs : List (Option A)) (i : ℕ) (bytes : List ℕ) → host_sink fs ≡ appended (host_sink fs) i bytes
unfolding appended more
host_appended fs i bytes = refl

-- of six places none is taken
pub none_taken : (A : Type 0) (k : ℕ) → taken_at {A = A} (None ∷ None ∷ None ∷ None ∷ None ∷ None ∷ []) k ≡ false
none_taken A zero = refl
none_taken A (suc zero) = refl
none_taken A (suc (suc zero)) = refl
none_taken A (suc (suc (suc zero))) = refl
none_taken A (suc (suc (suc (suc zero)))) = refl
none_taken A (suc (suc (suc (suc (suc zero))))) = refl
none_taken A (suc (suc (suc (suc (suc (suc k)))))) = refl
