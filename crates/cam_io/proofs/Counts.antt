-- Counts that rose in one of several calls.
use Rattle.cam_io.proofs.Common.{Rose, arith, inl, inr, one_more, ℕ, ◌≡◌, ◌≤◌}

-- a count that did not fall before it rose
pub rose_after : (before mid now : ℕ) → before ≤ mid → Rose mid now → Rose before now
rose_after before mid now l (inl h) = inl (omega arith)
rose_after before mid now l (inr h) = inr h

-- one fault more
pub rose_more : (before now : ℕ) → now ≡ one_more before → Rose before now
rose_more before now e = grind arith
