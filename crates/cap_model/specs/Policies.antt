-- Policies: the names of label numbers, the labels of named objects, the edges that are allowed, and what each policy keeps.
use Rattle.std.specs.Prelude.{◌≢◌, ℕ, ◌==◌, Bool, ◌&&◌, ◌||◌, nat_le, List, length, Option, IsTrue, IsSome, find, All, AllPairs}
use Rattle.std.specs.List.{list_all}
use Rattle.std.specs.Option.{option_map}
use Rattle.std.specs.Str.{bytes_eq}
use Rattle.cam_base.specs.Names.{is_word_byte}
use Rattle.cap_model.specs.declared.policy.Policy.{Policy}

-- the name of the first label of that number
abbrev pub label_name : List (ℕ × List ℕ) → ℕ → Option (List ℕ)
label_name labels number = option_map (λ l. l.1) (find (λ l. l.0 == number) labels)

-- the number of the first label of that name
abbrev pub label_number : List (ℕ × List ℕ) → List ℕ → Option ℕ
label_number labels name = option_map (λ l. l.0) (find (λ l. bytes_eq l.1 name) labels)

-- letters, digits, underscores and dots
abbrev pub is_label_byte : ℕ → Bool
is_label_byte b = is_word_byte b || b == 46

-- a label's name has 1 to 4,096 such bytes
abbrev pub is_label_name : List ℕ → Bool
is_label_name name = nat_le 1 (length name) && (nat_le (length name) 4096 && list_all is_label_byte name)

-- no number stands twice
abbrev pub NumbersDiffer : List (ℕ × List ℕ) → Type 0
NumbersDiffer labels = AllPairs (λ l m. l.0 ≢ m.0) labels

-- what each policy keeps; whoever makes one ensures it
pub record IsPolicy (policy : Policy) : Type 0 where
  pub numbers : NumbersDiffer policy.labels
  pub names : AllPairs (λ l m. l.1 ≢ m.1) policy.labels
  pub named : All (λ l. IsTrue (is_label_name l.1)) policy.labels
  pub objects : AllPairs (λ o p. o.0 ≢ p.0) policy.objects
  pub labelled : All (λ o. IsSome (label_name policy.labels o.1)) policy.objects
  pub from : All (λ e. IsSome (label_name policy.labels e.from)) policy.edges
  pub to : All (λ e. IsSome (label_name policy.labels e.to)) policy.edges
