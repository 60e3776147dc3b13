-- What is answered behind a first step is answered from the beginning on.
use Rattle.view_tool.proofs.Common.{Answer, IsRead, List, RefusesAs, Result, Wanted, arith, fault, inl, inr, page, tables, ℕ, ◌≡◌, ◌≤◌}
use Rattle.arch_compile.specs.Compiled.{IsRefusal}
use Rattle.cam_io.proofs.Counts.{rose_after}
use Rattle.cam_io.specs.Causes.{NoneFell, Rose}
use Rattle.cam_io.specs.Contents.{Contents}
use Rattle.cam_io.specs.declared.whole.WholeError.{WholeError}
use Rattle.cam_base.specs.Unread.{SourceError}
use Rattle.cam_base.specs.declared.error.Unread.TheVariants as error

-- a count that rose, and did not fall behind that
pub rose_before : (before mid now : ℕ) → before ≤ mid → mid ≤ now → Rose before mid → Rose before now
rose_before before mid now k l (inl h) = inl (omega arith)
rose_before before mid now k l (inr h) = grind arith

module _ (contents : Contents) (before mid now : List ℕ → ℕ) where
  pub refused_still : (root : List ℕ) (e : SourceError) → NoneFell before mid → NoneFell mid now
      → IsRefusal root contents before mid e → IsRefusal root contents before now e
  refused_still root (error.Fault f file) k l h = h
  refused_still root (error.ReadFault file) k l h = (h.0, rose_before (before file) (mid file) (now file) (k file) (l file) h.1)
  refused_still root error.NoMemory k l h = h

  read_since : (file : List ℕ) (r : Result (List ℕ) WholeError) → NoneFell before mid → IsRead contents mid now file r
      → IsRead contents before now file r
  read_since file r k h = record {
    limited = h.limited;
    rose = λ e. rose_after (before file) (mid file) (now file) (k file)
        (h.rose e);
    whole_is = h.whole_is;
  }

  pub refused_since : (w : Wanted) (e : SourceError) (a : Answer) → NoneFell before mid → RefusesAs contents mid now w e a
      → RefusesAs contents before now w e a
  refused_since (tables label) e a k h = h
  refused_since page e a k h = h
  refused_since fault (error.Fault f file) a k (inl h) = inl (h.0, (h.1.0, read_since file h.1.0 k h.1.1, h.1.2))
  refused_since fault (error.Fault f file) a k (inr h) = inr h
  refused_since fault (error.ReadFault file) a k h = h
  refused_since fault error.NoMemory a k h = h
