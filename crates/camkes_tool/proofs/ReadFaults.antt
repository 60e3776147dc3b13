-- A command over texts tells a failed read only where the count of its file rose.
use Rattle.std.proofs.Common.{rules}
use Rattle.camkes_tool.proofs.Common.{Contents, Err, InputError, IsAudited, IsCertified, IsChecked, IsInput, IsPlanned, IsRun, IsTabled, List, Ok, Result, Rose, inl, inr, subst, sym, ℕ, ◌≡◌, ◌⊎◌}
use Rattle.cam_base.specs.declared.error.Unread.TheVariants.{ReadFault}

module _ (contents : Contents) (before now : List ℕ → ℕ) (file : List ℕ) where
  abbrev FileRose : Type 0
  FileRose = Rose (before file) (now file)

  -- what comes first tells it, or the rest
  then_rose : {A B : Type 0} {First Rest : A → Type 0} {Stops : InputError → Type 0}
      → ((x : A) × First x × Rest x) ⊎ ((e : InputError) × Stops e × ◌≡◌ {A = Result B InputError} (Err (ReadFault file)) (Err e))
      → (Stops (ReadFault file) → FileRose) → ((x : A) → Rest x → FileRose) → FileRose
  then_rose (inl (x, first, rest)) early late = late x rest
  then_rose {Stops = Stops} (inr (e, stops, is)) early late =
      let same : e ≡ ReadFault file = cc in early (subst (λ z. Stops z) same stops)

  input_rose : (name : List ℕ) → IsInput contents before now name (Err (ReadFault file)) → FileRose
  input_rose name h = subst (λ f. Rose (before f) (now f)) (sym h.0) h.1

  -- the turn of an input, of which nothing is told that is a failed read
  turn_rose : {A : Type 0} (name : List ℕ) → ((bytes : List ℕ) × IsInput contents before now name (Ok bytes) × ⊥)
      ⊎ ((e : InputError) × IsInput contents before now name (Err e)
      × ◌≡◌ {A = Result A InputError} (Err (ReadFault file)) (Err e)) → FileRose
  turn_rose name h = then_rose h (input_rose name) (λ bytes none. absurd none)

  pub check_rose : (cdl policy cert : List ℕ) → IsChecked contents before now cdl policy cert (Err (ReadFault file)) → FileRose
  check_rose cdl policy cert h = search (rules, then_rose, turn_rose)

  pub run_rose : (cdl policy steps : List ℕ) → IsRun contents before now cdl policy steps (Err (ReadFault file)) → FileRose
  run_rose cdl policy steps h = search (rules, then_rose, turn_rose)

  pub audit_rose : (cdl policy : List ℕ) → IsAudited contents before now cdl policy (Err (ReadFault file)) → FileRose
  audit_rose cdl policy h = search (rules, then_rose, turn_rose)

  pub certify_rose : (cdl policy : List ℕ) → IsCertified contents before now cdl policy (Err (ReadFault file)) → FileRose
  certify_rose cdl policy h = search (rules, then_rose, turn_rose)

  pub plan_rose : (cdl untypeds : List ℕ) → IsPlanned contents before now cdl untypeds (Err (ReadFault file)) → FileRose
  plan_rose cdl untypeds h =
      then_rose h (turn_rose cdl) (λ spec read. then_rose read (turn_rose untypeds) (λ regions a. absurd a))

  pub table_rose : (elf : List ℕ) → IsTabled contents before now elf (Err (ReadFault file)) → FileRose
  table_rose elf h = then_rose h (turn_rose elf) (λ image a. absurd a)
