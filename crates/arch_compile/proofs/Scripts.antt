-- Scripts one behind another.
use Rattle.arch_compile.proofs.Common.{Bool, Err, List, Ok, Result, [], ap, arith, false, fresh_begun, inr, refl, rose_after, subst, sym, true, ℕ, ◌++◌, ◌==◌, ◌∙◌, ◌∷◌, ◌≡◌, ◌≤◌}
use Rattle.cam_io.specs.Scripts.{Act, Acts, Begin, CutShort, Write, after}
use Rattle.cam_io.specs.Sinks.{Sink, appended, with_begun}
use Rattle.cam_io.proofs.Appends.{begun_appended}

after_both : (xs ys : List Act) (s : Sink) → after s (xs ++ ys) ≡ after (after s xs) ys
after_both [] ys s = refl
after_both (Begin c name ∷ xs) ys s = after_both xs ys (with_begun s c name)
after_both (Write c bytes ∷ xs) ys s = after_both xs ys (appended s c bytes)

cut_behind : (xs ys : List Act) (s t : Sink) → CutShort (after s xs) ys t → CutShort s (xs ++ ys) t
cut_behind [] ys s t h = h
cut_behind (Begin c name ∷ xs) ys s t h = inr (cut_behind xs ys (with_begun s c name) t h)
cut_behind (Write c bytes ∷ xs) ys s t h = inr (cut_behind xs ys (appended s c bytes) t h)

-- where the first script is done
pub acts_then : {E : Type 0} {r : Result (Unit {0}) E} {xs ys : List Act} {s t u : Sink} {m n k : ℕ}
    → Acts {E = E} xs (Ok tt) s t m n → Acts ys r t u n k → Acts (xs ++ ys) r s u m k
acts_then {r = Ok x} {xs} {ys} {s} {t} {u} {m} {n} {k} a b =
    record {
      ok = b.ok ∙ ap (λ z. after z ys) a.ok ∙ sym (after_both xs ys s);
      err = tt;
      later = omega (arith, a.later, b.later);
      failed = tt;
    }
acts_then {r = Err x} {xs} {ys} {s} {t} {u} {m} {n} {k} a b = record {
  ok = tt;
  err = cut_behind xs ys s u (subst (λ z. CutShort z ys u) a.ok b.err);
  later = omega (arith, a.later, b.later);
  failed = rose_after m n k a.later b.failed;
}

-- a channel that isn't begun stays so while another is begun and written
pub still_fresh : (s t : Sink) (c d : ℕ) (name bytes : List ℕ) → t ≡ after s (Begin c name ∷ Write c bytes ∷ [])
    → (d == c) ≡ false → s.begun d ≡ false → t.begun d ≡ false
still_fresh s t c d name bytes e other h =
    subst (λ z. z.begun d ≡ false) (sym e)
    (ap (λ g. g d) (begun_appended (with_begun s c name) c bytes) ∙ fresh_begun s (with_begun s c name) c d name refl other h)
