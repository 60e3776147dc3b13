-- How a step is spelled: a word, and behind it threads by name, numbers, and the rights that a copy is lessened to.
use Rattle.std.specs.Prelude.{ℕ, if◌then◌else◌, List, [], ◌∷◌, Option, Some, None}
use Rattle.step_text.specs.Below.{Rights, Step, is_word, option_map}
use Rattle.cam_base.specs.Numbers.{number_value}
use Rattle.cap_machine.specs.declared.step.Step.TheVariants as steps
use Rattle.step_text.specs.RightsFields.{rights_value}
use Rattle.step_text.specs.declared.verb.Verb.{Verb}
use Rattle.step_text.specs.declared.verb.Verb.TheVariants.{Take, Put, Grant, Call, Reply, SetCspace, SetVspace, Map, Bind, Drop, Save, ReplyTo}
use Rattle.step_text.specs.Verbs.{verb_of}
use Rattle.cam_base.specs.AllThere.{of_two, of_three, of_four, of_six}

-- the number and the rights of a copy
abbrev pub copy_value : List ℕ → List ℕ → Option (ℕ × Rights)
copy_value k r = of_two (λ k r. (k, r)) (number_value k) (rights_value r)

-- the step that a word and the fields behind it spell, where `place` gives the place of a thread's name
abbrev pub spelled_behind : (List ℕ → Option ℕ) → Verb → List (List ℕ) → Option Step
spelled_behind place Take (t ∷ i ∷ j ∷ r ∷ []) = of_four (λ t i j r. steps.Take t i j r) (place t) (number_value i)
    (number_value j) (rights_value r)
spelled_behind place Put (t ∷ i ∷ j ∷ r ∷ []) = of_four (λ t i j r. steps.Put t i j r) (place t) (number_value i) (number_value j)
    (rights_value r)
spelled_behind place Grant (t ∷ i ∷ u ∷ j ∷ k ∷ r ∷ []) = of_six (λ t i u j k r. steps.Grant t i u j k r) (place t)
    (number_value i) (place u) (number_value j) (number_value k) (rights_value r)
spelled_behind place Call (t ∷ i ∷ u ∷ j ∷ []) = of_four (λ t i u j. steps.Call t i u j) (place t) (number_value i) (place u)
    (number_value j)
spelled_behind place Reply (t ∷ []) = option_map (λ t. steps.Reply t None) (place t)
spelled_behind place Reply (t ∷ k ∷ r ∷ []) = of_two (λ t copy. steps.Reply t (Some copy)) (place t) (copy_value k r)
spelled_behind place SetCspace (t ∷ i ∷ j ∷ []) = of_three (λ t i j. steps.SetCspace t i j) (place t) (number_value i)
    (number_value j)
spelled_behind place SetVspace (t ∷ i ∷ j ∷ []) = of_three (λ t i j. steps.SetVspace t i j) (place t) (number_value i)
    (number_value j)
spelled_behind place Map (t ∷ i ∷ j ∷ r ∷ []) = of_four (λ t i j r. steps.Map t i j r) (place t) (number_value i) (number_value j)
    (rights_value r)
spelled_behind place Bind (t ∷ i ∷ j ∷ []) = of_three (λ t i j. steps.Bind t i j) (place t) (number_value i) (number_value j)
spelled_behind place Drop (t ∷ i ∷ []) = of_two (λ t i. steps.Drop t i) (place t) (number_value i)
spelled_behind place Save (t ∷ []) = option_map (λ t. steps.Save t) (place t)
spelled_behind place ReplyTo (t ∷ i ∷ []) = of_two (λ t i. steps.ReplyTo t i None) (place t) (number_value i)
spelled_behind place ReplyTo (t ∷ i ∷ k ∷ r ∷ []) = of_three (λ t i copy. steps.ReplyTo t i (Some copy)) (place t)
    (number_value i) (copy_value k r)
spelled_behind place _ _ = None

abbrev pub spelled_by : (List ℕ → Option ℕ) → Option Verb → List (List ℕ) → Option Step
spelled_by place None fields = None
spelled_by place (Some verb) fields = spelled_behind place verb fields

-- the step that fields spell
abbrev pub spelled : (List ℕ → Option ℕ) → List (List ℕ) → Option Step
spelled place [] = None
spelled place (word ∷ fields) = spelled_by place (verb_of word) fields

-- every word names a thread
abbrev pub any_word : List ℕ → Option ℕ
any_word name = if is_word name then Some 0 else None

-- the names of threads among the fields behind a word
abbrev pub names_behind : Option Verb → List (List ℕ) → List (List ℕ)
names_behind (Some Grant) (t ∷ i ∷ u ∷ fields) = t ∷ u ∷ []
names_behind (Some Call) (t ∷ i ∷ u ∷ fields) = t ∷ u ∷ []
names_behind verb (t ∷ fields) = t ∷ []
names_behind verb [] = []

abbrev pub names : List (List ℕ) → List (List ℕ)
names [] = []
names (word ∷ fields) = names_behind (verb_of word) fields
