-- What `clap` makes of the first word, which names a command.
use Rattle.command_words.proofs.Common.{App, Bool, IsUtf8, Kinds, List, Names, None, Option, Row, Shape, Some, Text, Walk, [], and-false, answers_to, ap, ap₂, bare, built_fault, bytes_eq, bytes_eq-Decides, check_fault, codes, entered, entered_fault}
use Rattle.command_words.proofs.Common.{false, find, finished, fold, idle, is_empty, is_some, label_of, level_fault, list_all, map, nothing_held, option_map, or-false, or_else, refl, rows_after, rows_at, settle_fault, settled, stop_after}
use Rattle.command_words.proofs.Common.{rules, subcommand_met, sym, true, turn_fault, walk, walk_from, walk_stopped, ◌||◌, ◌∙◌, ◌∷◌, ◌≡◌}
use Rattle.clap.specs.Walk.{walked}
use Rattle.clap.specs.Faults.{defaults_fault, walk_fault}
use Rattle.clap.proofs.FaultLemmas.{stopped_fault}
use Rattle.clap.proofs.SimpleLemmas.{is_nil, label_first}
use Rattle.cam_base.proofs.Lists.{find_passes as found_passes}
use Rattle.command_words.proofs.Slots.{find_passes, first_fails, first_word_fails, passes}

-- the program as `clap` builds it
abbrev pub top : Shape
top = record bare.top { is_leaf = false; is_built = true }

abbrev pub program : List Shape → App
program subs = record { top = top; subs = subs }

abbrev pub has_no_alias : Shape → Bool
has_no_alias s = is_empty s.aliases

abbrev pub named : Text → List Shape → Option Shape
named name subs = find (λ s. answers_to name (label_of s)) subs

or_else-nil : (a : Kinds) → or_else a [] ≡ a
or_else-nil [] = refl
or_else-nil (k ∷ ks) = refl

module _ (subs : List Shape) (name : Text) where
  abbrev names : Names
  names = map label_of subs

  met : (o : Option Shape) → named name subs ≡ o → subcommand_met names idle name ≡ option_map (λ (s : Shape). s.name) o
  met o e = sym (label_first name subs) ∙ ap (option_map (λ (s : Shape). s.name)) e

  its_name : (s : Shape) → list_all has_no_alias subs ≡ true → named name subs ≡ Some s → s.name ≡ name
  its_name s plain e = search (rules, is_nil, find_passes, found_passes, bytes_eq-Decides, or-false)

  walk_met : (s : Shape) → named name subs ≡ Some s → (rest : List Text)
      → ◌≡◌ {A = Walk} (walk [] names nothing_held (name ∷ rest))
      (record (walk_from nothing_held) { stopped = Some (s.name, rest) })
  unfolding walked
  walk_met s e rest =
      let first : ◌≡◌ {A = Walk} (walked [] names (walk_from nothing_held) name)
      (record (walk_from nothing_held) { stopped = Some (s.name, []) }) = rw (met (Some s) e) refl in
      ap (λ (w : Walk). fold (walked [] names) w rest) first ∙ sym (walk_stopped [] names (walk_from nothing_held) s.name [] rest)

  faults_met : (s : Shape) → named name subs ≡ Some s → (rest : List Text)
      → walk_fault top names (walk_from nothing_held) (name ∷ rest) ≡ []
  unfolding walk_fault walked
  faults_met s e rest =
      rw (met (Some s) e, and-false (bytes_eq s.name (codes "help"))) (stopped_fault top names (walk_from nothing_held)
      (s.name, []) rest)

  pub command_met : (s : Shape) → list_all has_no_alias subs ≡ true → named name subs ≡ Some s → (rest : List Text)
      → (built_fault (program subs) nothing_held (name ∷ rest) ≡ level_fault s [] nothing_held rest false [])
      × (entered (program subs) (stop_after [] names (name ∷ rest)) ≡ Some (s.name, rows_after s.rules [] rest))
  unfolding defaults_fault
  command_met s plain e rest =
      let again : named s.name subs ≡ Some s = ap (λ t. named t subs) (its_name s plain e) ∙ e in
      let went = walk_met s e rest in
      let below : entered_fault (program subs) (Some (s.name, rest)) ≡ level_fault s [] nothing_held rest false [] =
      rw again refl in
      let inside : entered (program subs) (Some (s.name, rest)) ≡ Some (rows_at s rest) = rw again refl in
      let level : Kinds → Walk → Kinds =
      λ k w. or_else k (or_else (entered_fault (program subs) w.stopped) (or_else (settle_fault [] false w.held)
      (or_else (defaults_fault (settled [] w.held).rows [])
      (check_fault top (finished [] w.held) (is_some (entered (program subs) w.stopped)))))) in
      let all : built_fault (program subs) nothing_held (name ∷ rest) ≡ level []
      (record (walk_from nothing_held) { stopped = Some (s.name, rest) }) = ap₂ level (faults_met s e rest) went in
      let last : level [] (record (walk_from nothing_held) { stopped = Some (s.name, rest) }) ≡ level_fault s [] nothing_held
      rest false [] =
      ap₂ (λ k (o : Option (Text × List Row)). or_else k (check_fault top [] (is_some o))) below inside ∙ or_else-nil _ in
      (all ∙ last, ap (λ (w : Walk). entered (program subs) w.stopped) went ∙ inside)

  first_turn : named name subs ≡ None → turn_fault top names (walk_from nothing_held) name ≡ turn_fault top []
      (walk_from nothing_held) name
  first_turn e = rw (met None e) refl

  only_dashes : bytes_eq name (codes "--") ≡ true → named name subs ≡ None → (rest : List Text)
      → passes (built_fault (program subs) nothing_held (name ∷ rest)) ≡ false
  unfolding walk_fault walked defaults_fault
  only_dashes d e [] = rw (met None e, d) refl
  only_dashes d e (r ∷ rs) = rw (met None e, d) refl

  pub no_command : IsUtf8 name → named name subs ≡ None → (rest : List Text)
      → passes (built_fault (program subs) nothing_held (name ∷ rest)) ≡ false
  unfolding walk_fault
  no_command u e rest = go (bytes_eq name (codes "--")) refl
    where
      go : (b : Bool) → bytes_eq name (codes "--") ≡ b → passes (built_fault (program subs) nothing_held (name ∷ rest)) ≡ false
      go true d = only_dashes d e rest
      go false d =
          first_fails _ _ (first_fails _ _ (ap (λ k. passes k) (first_turn e) ∙ first_word_fails top refl name u d refl refl))
