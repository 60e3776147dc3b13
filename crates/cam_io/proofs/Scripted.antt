-- Scripts, act by act.
use Rattle.cam_io.proofs.Common.{Bool, Err, IsOpen, IsTrue, List, Ok, Result, Sink, Writes, [], ap, arith, cond, false, inl, inr, nat_tests, rules, subst, sym, true, ℕ, ◌==◌, ◌||◌, ◌∙◌, ◌∷◌, ◌≡◌, ◌≤◌}
use Rattle.cam_io.specs.Sinks.{with_begun}
use Rattle.cam_io.proofs.Counts.{rose_after}
use Rattle.cam_io.specs.Scripts.{Act, Begin, Write, after, CutShort, Acts}

-- one text
pub acts_one : {E : Type 0} {r : Result (Unit {0}) E} {c : ℕ} {b : List ℕ} {s t : Sink} {m n : ℕ} → Writes r c b s t m n
    → Acts (Write c b ∷ []) r s t m n
acts_one {r = Ok x} w = record { ok = w.ok; err = tt; later = w.later; failed = tt }
acts_one {r = Err x} w = record { ok = tt; err = inl w.err; later = w.later; failed = w.failed }

-- the rest of a script, behind a begin
pub acts_begin_then : {E : Type 0} {r : Result (Unit {0}) E} {c : ℕ} {name : List ℕ} {acts : List Act} {s t u : Sink} {m n k : ℕ}
    → t ≡ with_begun s c name → m ≤ n → Acts acts r t u n k → Acts (Begin c name ∷ acts) r s u m k
acts_begin_then {r = Ok x} {acts = acts} {u = u} e h a = record {
  ok = a.ok ∙ ap (λ z. after z acts) e;
  err = tt;
  later = omega (arith, a.later);
  failed = tt;
}
acts_begin_then {r = Err x} {acts = acts} {u = u} {m} {n} {k} e h a =
    record {
      ok = tt;
      err = inr (subst (λ z. CutShort z acts u) e a.err);
      later = omega (arith, a.later);
      failed = rose_after m n k h a.failed;
    }

either : (a b : Bool) → IsTrue (a || (b || true))
either true b = search rules
either false true = search rules
either false false = search rules

-- a channel that is begun is open
pub open_begun : (s t : Sink) (c : ℕ) (name : List ℕ) → t ≡ with_begun s c name → IsOpen t c
unfolding with_begun
open_begun s t c name e = subst (λ z. IsOpen z c) (sym e) (let same : (c == c) ≡ true = grind (arith, nat_tests) in
    record { may = rw same (either (c == 0) (c == 1)) })

stays : (a b c d : Bool) → IsTrue (a || (b || d)) → IsTrue (a || (b || cond c true d))
stays true b c d h = search rules
stays false true c d h = search rules
stays false false true d h = search rules
stays false false false d h = h

-- what was open is open behind a begin
pub open_behind_begin : (s t : Sink) (c k : ℕ) (name : List ℕ) → t ≡ with_begun s c name → IsOpen s k → IsOpen t k
unfolding with_begun
open_behind_begin s t c k name e h =
    subst (λ z. IsOpen z k) (sym e) record { may = stays (k == 0) (k == 1) (k == c) (s.begun k) h.may }

-- another channel that isn't begun stays so
pub fresh_begun : (s t : Sink) (c d : ℕ) (name : List ℕ) → t ≡ with_begun s c name → (d == c) ≡ false → s.begun d ≡ false
    → t.begun d ≡ false
unfolding with_begun
fresh_begun s t c d name e other h = subst (λ z. z.begun d ≡ false) (sym e) (rw other h)
