-- Writers one after another: what a function that calls several cites at each exit.
use Rattle.cam_io.proofs.Common.{Err, IsErr, List, Ok, Result, Sink, Writes, [], arith, length, ℕ, ◌-◌, ◌∷◌, ◌≡◌}
use Rattle.cam_base.specs.Texts.{◌⊹◌}
use Rattle.cam_io.proofs.Counts.{rose_after}
use Rattle.cam_io.proofs.Writing.{wrote_nothing, ok_then, cut_first, cut_then}

module _ {E : Type 0} {c : ℕ} where
  -- nothing written
  pub wrote_none : {s : Sink} {m : ℕ} (a : List ℕ) → length a ≡ 0 → Writes {E = E} (Ok tt) c a s s m m
  wrote_none {s} {m} [] e = record { ok = wrote_nothing s c; err = tt; later = omega arith; failed = tt }
  wrote_none (x ∷ a) e = absurd (omega arith)

  -- a writer behind one that wrote all
  pub writes_after : {r : Result (Unit {0}) E} {s t u : Sink} {m n k : ℕ} {a b : List ℕ} {o : Unit {0}} → Writes r c b t u n k
      → Writes {E = E} (Ok o) c a s t m n → Writes r c (a ⊹ b) s u m k
  writes_after {r = Ok x} {s} {t} {u} {a = a} {b = b} w v = record {
    ok = ok_then s t u c a b v.ok w.ok;
    err = tt;
    later = omega arith;
    failed = tt;
  }
  writes_after {r = Err x} {s} {t} {u} {m} {n} {k} {a = a} {b = b} w v = record {
    ok = tt;
    err = cut_then s t u c a b v.ok w.err;
    later = omega (arith, v.later, w.later);
    failed = rose_after m n k v.later w.failed;
  }

  -- a writer that failed before the rest
  pub writes_first : {e : E} {s u : Sink} {m k : ℕ} {a : List ℕ} (b : List ℕ) → Writes {E = E} (Err e) c a s u m k
      → Writes {E = E} (Err e) c (a ⊹ b) s u m k
  writes_first {s = s} {u = u} {a = a} b w = record {
    ok = tt;
    err = cut_first s u c a b w.err;
    later = w.later;
    failed = w.failed;
  }

  -- the error that `?` hands on
  pub writes_exit : {r : Result (Unit {0}) E} {e : E} {s u : Sink} {m k : ℕ} {a : List ℕ} → IsErr r
      → Writes {E = E} (Err e) c a s u m k → Writes r c a s u m k
  writes_exit {r = Ok x} h w = cc
  writes_exit {r = Err x} h w = record { ok = tt; err = w.err; later = w.later; failed = w.failed }
