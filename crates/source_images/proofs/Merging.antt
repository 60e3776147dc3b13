-- What comes of all that is read, in terms of what was found.
use Rattle.source_images.proofs.Common.{Aarch64, Arch, Arm11, Bool, Fault, Found, Header, Image, Line, List, Name, None, Option, Reading, Some, [], absent, ap, append-nil, append_assoc, arith, at_first_line, bad_between, bad_line, cond, cons_option}
use Rattle.source_images.proofs.Common.{differs, false, fault_in, first_arch, first_bad, fold, header_in, header_of, image, image_in, images_in, is_other, is_some, length, lines, map, merged, merged_with, option_map, option_map_or, option_or}
use Rattle.source_images.proofs.Common.{reading_in, readings_of, refl, rules, spaced_fields, sym, table, too_long, true, true≢false, with_fault, with_more, ℕ, ◌++◌, ◌+◌, ◌∙◌, ◌∷◌, ◌≡◌}
use Rattle.source_images.specs.declared.merge.Merged.{Merged}
use Rattle.source_images.proofs.Lines.{first_line_fault}

-- a fault that was found stays
kept : (m : Merged) (rs : List Reading) → is_some m.fault ≡ true → fold merged_with m rs ≡ m
kept m [] e = refl
kept m (r ∷ rs) e =
    let same : merged_with m r ≡ m = ap (λ (b : Bool). cond b m (with_more m r)) e in
    ap (λ z. fold merged_with z rs) same ∙ kept m rs e

abbrev clean : Option Arch → List Image → Merged
clean first images = record { fault = None; arch = first; images = images }

-- what came of readings is the first fault of lines, or else the images
pub record IsMerged (m : Merged) (fault : Option Fault) (images : List Image) : Type 0 where
  pub faulty : m.fault ≡ fault
  pub sound : fault ≡ None → m.images ≡ images

-- at a fault
stopped : (first : Option Arch) (before images : List Image) (f : Fault) (more : Option Fault) (rs : List Reading)
    → IsMerged (fold merged_with (with_fault (clean first before) f) rs) (option_or (Some f) more) images
stopped first before images f more rs = search (rules, kept)

same_arch : (a b : Arch) → differs a b ≡ false → a ≡ b
same_arch Arm11 Arm11 e = refl
same_arch Arm11 Aarch64 e = absurd (true≢false e)
same_arch Aarch64 Arm11 e = absurd (true≢false e)
same_arch Aarch64 Aarch64 e = refl

no_other : (a : Arch) → differs a a ≡ false
no_other Arm11 = refl
no_other Aarch64 = refl

-- the architecture of all tables, where one says this
abbrev arch_with : Option Arch → Arch → List Found → Option Arch
arch_with first a more = option_or first (option_or (Some a) (first_arch more))

other_same : (first : Option Arch) (a : Arch) (more : List Found) → is_other (arch_with first a more) a ≡ is_other first a
other_same None a more = no_other a
other_same (Some b) a more = refl

arch_same : (first : Option Arch) (a : Arch) (more : List Found) → is_other first a ≡ false → arch_with first a more ≡ Some a
arch_same None a more e = refl
arch_same (Some b) a more e = ap (λ z. Some z) (same_arch b a e)

module _ (tables : List (Name × List ℕ)) (more : List Found) (next : ℕ) where
  abbrev names : List Name
  names = map (λ (t : Name × List ℕ). t.0) tables

  abbrev rest : List Reading
  rest = readings_of next tables more

  -- what is shown of all tables behind
  abbrev Behind : Type 0
  Behind = (first : Option Arch) (before : List Image)
      → IsMerged (fold merged_with (clean first before) rest) (first_line_fault (option_or first (first_arch more)) next more)
      (before ++ images_in names more)

  abbrev AtLine : ℕ → Name → Option Arch → List Image → Line → List Line → Option Header → Option Line → Type 0
  AtLine n name first before line lines header bad =
      let fault = cond (is_some header) (option_map (bad_line n) bad) (Some (bad_line n line)) in
      let all = option_or first (option_or (option_map (λ (h : Header). h.arch) header) (first_arch more)) in
      let here = option_or fault (cond (option_map_or (is_other all) (option_map (λ (h : Header). h.arch) header) false)
      (Some (bad_line n line)) None) in
      IsMerged
      (fold merged_with
      (merged_with (clean first before) (reading_in n (line ∷ lines) fault (option_map (image name lines) header))) rest)
      (option_or here (first_line_fault all next more)) (before ++ cons_option (option_map (image name lines) header)
      (images_in names more))

  sound_line : Behind → (n : ℕ) (name : Name) (first : Option Arch) (before : List Image) (line : Line) (lines : List Line)
      (h : Header) (b : Bool) → is_other first h.arch ≡ b → AtLine n name first before line lines (Some h) None
  sound_line behind n name first before line lines h true e =
      let was : is_other (arch_with first h.arch more) h.arch ≡ true = other_same first h.arch more ∙ e in
      rw (e, was) (stopped first before (before ++ image name lines h ∷ images_in names more) (bad_line n line)
      (first_line_fault (arch_with first h.arch more) next more) rest)
  sound_line behind n name first before line lines h false e = search (rules, other_same, arch_same, append_assoc)

  at_line : Behind → (n : ℕ) (name : Name) (first : Option Arch) (before : List Image) (line : Line) (lines : List Line)
      (header : Option Header) (bad : Option Line) → AtLine n name first before line lines header bad
  at_line behind n name first before line lines None bad = stopped first before (before ++ images_in names more)
      (bad_line n line) None rest
  at_line behind n name first before line lines (Some h) (Some l) =
      stopped first before (before ++ image name lines h ∷ images_in names more) (bad_line n l) None rest
  at_line behind n name first before line lines (Some h) None = sound_line behind n name first before line lines h
      (is_other first h.arch) refl

  abbrev AtLines : ℕ → Name → Option Arch → List Image → ℕ → List Line → Type 0
  AtLines n name first before len lines =
      let fault = fault_in n len lines in
      let all = option_or first (option_or (option_map (λ (h : Header). h.arch) (header_in lines)) (first_arch more)) in
      let here =
      option_or fault (cond (option_map_or (is_other all) (option_map (λ (h : Header). h.arch) (header_in lines)) false)
      (at_first_line n lines) None) in
      IsMerged (fold merged_with (merged_with (clean first before) (reading_in n lines fault (image_in name lines))) rest)
      (option_or here (first_line_fault all next more)) (before ++ cons_option (image_in name lines) (images_in names more))

  at_lines : Behind → (n : ℕ) (name : Name) (first : Option Arch) (before : List Image) (len : ℕ) (lines : List Line)
      → AtLines n name first before len lines
  at_lines behind n name first before len [] = stopped first before (before ++ images_in names more)
      (bad_between n len len) None rest
  at_lines behind n name first before len (line ∷ lines) = at_line behind n name first before line lines
      (header_of (spaced_fields line.text)) (first_bad 0 lines)

merged_from : (n : ℕ) (tables : List (Name × List ℕ)) (all : List Found) → length tables ≡ length all
    → (first : Option Arch) (before : List Image)
    → IsMerged (fold merged_with (clean first before) (readings_of n tables all))
    (first_line_fault (option_or first (first_arch all)) n all) (before ++ images_in (map (λ t. t.0) tables) all)
merged_from n [] [] e first before = record { faulty = refl; sound = λ h. sym (append-nil before) }
merged_from n [] (x ∷ all) e first before = absurd (omega arith)
merged_from n (t ∷ tables) [] e first before = absurd (omega arith)
merged_from n (t ∷ tables) (absent ∷ all) e first before = merged_from (n + 1) tables all (omega arith) first before
merged_from n (t ∷ tables) (too_long ∷ all) e first before = merged_from (n + 1) tables all (omega arith) first before
merged_from n (t ∷ tables) (table bytes ∷ all) e first before =
    at_lines tables all (n + 1) (merged_from (n + 1) tables all (omega arith)) n t.0 first before (length bytes) (lines bytes)

-- what comes of the readings of all tables
pub merged_tables : (n : ℕ) (tables : List (Name × List ℕ)) (all : List Found) → length tables ≡ length all
    → IsMerged (merged (readings_of n tables all)) (first_line_fault (first_arch all) n all)
    (images_in (map (λ t. t.0) tables) all)
merged_tables n tables all e = merged_from n tables all e None []
