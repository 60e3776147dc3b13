-- A table of threads that is filled object by object.
use Rattle.std.proofs.Common.{rules}
use Rattle.step_text.proofs.Common.{Bool, Entry, List, None, Option, Some, Spec, ap, at_drop_all, bytes_eq, cond, drop, false, is_thread, length, option_or, option_or-none, position, position_from, refl, sym}
use Rattle.step_text.proofs.Common.{is_some, thread_named, true, true≢false, ℕ, ◌&&◌, ◌+◌, ◌<◌, ◌∙◌, ◌∷◌, ◌≡◌, ◌≤◌}
use mathlib.Core.Path.{fun_ext}
use Rattle.std.proofs.lemmas.Iterator.Adapters.{position_from-zero}
use Rattle.std.proofs.lemmas.Slice.Eq.{bytes_eq-Decides}

abbrev pub is_named : List ℕ → Entry → Bool
is_named name entry = is_thread entry.object && bytes_eq entry.name name

-- what a table finds after the insertion of a key that was not there
pub inserted : (f g : List ℕ → Option ℕ) (key : List ℕ) (x : ℕ) → is_some (f key) ≡ false
    → ((name : List ℕ) → g name ≡ cond (bytes_eq key name) (Some x) (f name)) → (name : List ℕ)
    → g name ≡ option_or (f name) (cond (bytes_eq key name) (Some x) None)
inserted f g key x absent updates name = search (rules, bytes_eq-Decides, option_or-none)

-- all objects: what the table finds is the first thread of the name
pub added_all : (spec : Spec) (entries : List Entry) (found : List ℕ → Option ℕ) (i : ℕ) → entries ≡ spec.entries
    → length entries ≤ i
    → ((name : List ℕ) → option_or (found name) (position_from (is_named name) i (drop i entries)) ≡ position_from (is_named name)
    0 entries) → found ≡ thread_named spec
added_all spec entries found i is end filled = fun_ext (λ name.
    option_or-none (found name) ∙ ap (option_or (found name)) (sym (at_drop_all (position_from (is_named name) i) entries i end))
    ∙ filled name ∙ sym (position_from-zero (is_named name) entries) ∙ ap (position (is_named name)) is)
