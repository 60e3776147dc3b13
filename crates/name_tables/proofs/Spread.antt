-- What a table finds that has a few names at each place.
use Rattle.name_tables.proofs.Common.{AreOthers, Bool, List, Name, None, Option, Some, [], ap, arith, at_place, bytes_eq, bytes_eq-Decides, cond, digest, false, found, get_or, get_or-set_other, has_room, length, length-set, nat_tests, option_or}
use Rattle.name_tables.proofs.Common.{option_or-none, refl, spread_found, sym, true, ℕ, ◌==◌, ◌%◌, ◌++◌, ◌<◌, ◌∙◌, ◌∷◌, ◌≡◌, ◌≢◌}
use Rattle.std.proofs.lemmas.Grind.{get_or-set_at}
use Rattle.std.proofs.Math.ListN.{set}
use Rattle.name_tables.proofs.NameLookups.{found_in}

abbrev Entries : Type 0 → Type 0
Entries V = List (Name × V)

module _ {V : Type 0} (places : List (Entries V)) (others : Entries V) (p : ℕ) (name : Name) (v : V)
    (is : p ≡ digest name % length places) where
  abbrev alone : Entries V
  alone = (name, v) ∷ []

  -- which place is a name's
  by_place : {C : Type 0} (n : Name) → (digest n % length places ≡ p → C) → (digest n % length places ≢ p → C) → C
  by_place {C} n here there = by_test (digest n % length places) (digest n % length places == p) refl refl
    where
      same : (q : ℕ) → (q == p) ≡ true → q ≡ p
      same q e = grind (arith, nat_tests)

      other : (q : ℕ) → (q == p) ≡ false → q ≢ p
      other q e = grind (arith, nat_tests)

      by_test : (q : ℕ) (b : Bool) → digest n % length places ≡ q → (q == p) ≡ b → C
      by_test q true h e = here (h ∙ same q e)
      by_test q false h e = there (λ s. other q e (sym h ∙ s))

  -- a name of another place is another
  another : (n : Name) → digest n % length places ≢ p → found alone n ≡ None
  another n differ = by_test (bytes_eq n name) refl
    where
      by_test : (b : Bool) → bytes_eq n name ≡ b → cond b (Some v) None ≡ None
      by_test true e = absurd (differ (ap (λ m. digest m % length places) ((bytes_eq-Decides n name).0 e) ∙ sym is))
      by_test false e = refl

  here : (n : Name) (t : Entries V) → digest n % length places ≡ p → p < length places → at_place (set places p t) n ≡ t
  here n t h within = ap (λ k. get_or (set places p t) (digest n % k) []) (length-set places p t)
      ∙ get_or-set_at places p (digest n % length places) t [] h within

  there : (n : Name) (t : Entries V) → digest n % length places ≢ p → at_place (set places p t) n ≡ at_place places n
  there n t h = ap (λ k. get_or (set places p t) (digest n % k) []) (length-set places p t)
      ∙ get_or-set_other places p (digest n % length places) t [] h

  its : (n : Name) → digest n % length places ≡ p → (t : Entries V) → t ≡ get_or places p [] → at_place places n ≡ t
  its n h t at = ap (λ q. get_or places q []) h ∙ sym at

  -- what is found after the name came to its place, which had room
  pub spread_put : (t u : Entries V) → t ≡ get_or places p [] → p < length places → has_room t ≡ true → AreOthers places others
      → u ≡ t ++ alone
      → (n : Name) → spread_found (set places p u, others) n ≡ option_or (spread_found (places, others) n) (found alone n)
  spread_put t u at within room theirs put n = by_place n
      (λ h.
      let e : at_place places n ≡ t = its n h t at in
      let nothing : found others n ≡ None = theirs n (ap has_room e ∙ room) in
      ap (λ s. option_or (found s n) (found others n)) (here n u h within ∙ put)
      ∙ ap (λ o. option_or (found (t ++ alone) n) o) nothing ∙ sym (option_or-none (found (t ++ alone) n))
      ∙ found_in t alone (t ++ alone) refl n
      ∙ ap (λ o. option_or o (found alone n)) (option_or-none (found t n) ∙ ap (λ o. option_or (found t n) o) (sym nothing)
      ∙ ap (λ s. option_or (found s n) (found others n)) (sym e)))
      (λ h. ap (λ t. option_or (found t n) (found others n)) (there n u h) ∙ option_or-none (spread_found (places, others) n)
      ∙ ap (option_or (spread_found (places, others) n)) (sym (another n h)))

-- of a list in two parts
pub found_first : {V : Type 0} (a b now : Entries V) (n : Name) (x : V) → a ++ b ≡ now → Some x ≡ found a n → Some x ≡ found now n
found_first a b now n x seen at = sym (found_in a b now seen n ∙ ap (λ o. option_or o (found b n)) (sym at))

pub found_behind : {V : Type 0} (a b now : Entries V) (n : Name) (o : Option V) → a ++ b ≡ now → None ≡ found a n → o ≡ found b n
    → o ≡ found now n
found_behind a b now n o seen none at = at ∙ sym (found_in a b now seen n ∙ ap (λ p. option_or p (found b n)) (sym none))
