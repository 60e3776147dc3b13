-- The one text of a list of steps: a line for each, with threads by name, numbers in decimal, and the letters of rights in
-- the order R, W, G, P, or - for none.
use Rattle.std.specs.Prelude.{ℕ, Bool, true, false, List, [], ◌∷◌, Some, None, codes, decimal}
use Rattle.step_text.specs.Below.{Rights, Spec, Step, flat_map, has_rights, name_at, rights_word}
use Rattle.cam_base.specs.Texts.{together}
use Rattle.cap_machine.specs.declared.step.Step.TheVariants as steps

-- the letters, or - where there are none
abbrev pub letters : Bool → Rights → List ℕ
letters true r = rights_word r
letters false r = codes "-"

abbrev pub rights_field : Rights → List ℕ
rights_field r = letters (has_rights r) r

-- lines by what stands behind the word: a thread; and a number; and two numbers; and rights
abbrev pub thread_line : List ℕ → List ℕ → List ℕ
thread_line word thread = together (word ∷ thread ∷ codes "\n" ∷ [])

abbrev pub number_line : List ℕ → List ℕ → ℕ → List ℕ
number_line word thread i = together (word ∷ thread ∷ codes " " ∷ decimal i ∷ codes "\n" ∷ [])

abbrev pub numbers_line : List ℕ → List ℕ → ℕ → ℕ → List ℕ
numbers_line word thread i j = together (word ∷ thread ∷ codes " " ∷ decimal i ∷ codes " " ∷ decimal j ∷ codes "\n" ∷ [])

abbrev pub copy_line : List ℕ → List ℕ → ℕ → ℕ → Rights → List ℕ
copy_line word thread i j r = together (word ∷ thread ∷ codes " " ∷ decimal i ∷ codes " " ∷ decimal j ∷ codes " " ∷ rights_field r
    ∷ codes "\n" ∷ [])

abbrev pub reply_line : List ℕ → ℕ → Rights → List ℕ
reply_line thread k r = together (codes "reply " ∷ thread ∷ codes " " ∷ decimal k ∷ codes " " ∷ rights_field r ∷ codes "\n" ∷ [])

abbrev pub call_line : List ℕ → ℕ → List ℕ → ℕ → List ℕ
call_line t i u j = together (codes "call " ∷ t ∷ codes " " ∷ decimal i ∷ codes " " ∷ u ∷ codes " " ∷ decimal j ∷ codes "\n" ∷ [])

abbrev pub grant_line : List ℕ → ℕ → List ℕ → ℕ → ℕ → Rights → List ℕ
grant_line t i u j k r =
    together (codes "grant " ∷ t ∷ codes " " ∷ decimal i ∷ codes " " ∷ u ∷ codes " " ∷ decimal j ∷ codes " " ∷ decimal k
    ∷ codes " " ∷ rights_field r ∷ codes "\n" ∷ [])

-- the line of a step
abbrev pub step_line : Spec → Step → List ℕ
step_line spec (steps.Take t i j r) = copy_line (codes "take ") (name_at spec t) i j r
step_line spec (steps.Put t i j r) = copy_line (codes "put ") (name_at spec t) i j r
step_line spec (steps.Grant t i u j k r) = grant_line (name_at spec t) i (name_at spec u) j k r
step_line spec (steps.Call t i u j) = call_line (name_at spec t) i (name_at spec u) j
step_line spec (steps.Reply t None) = thread_line (codes "reply ") (name_at spec t)
step_line spec (steps.Reply t (Some copy)) = reply_line (name_at spec t) copy.0 copy.1
step_line spec (steps.SetCspace t i j) = numbers_line (codes "setcspace ") (name_at spec t) i j
step_line spec (steps.SetVspace t i j) = numbers_line (codes "setvspace ") (name_at spec t) i j
step_line spec (steps.Map t i j r) = copy_line (codes "map ") (name_at spec t) i j r
step_line spec (steps.Bind t i j) = numbers_line (codes "bind ") (name_at spec t) i j
step_line spec (steps.Drop t i) = number_line (codes "drop ") (name_at spec t) i
step_line spec (steps.Save t) = thread_line (codes "save ") (name_at spec t)
step_line spec (steps.ReplyTo t i None) = number_line (codes "replyto ") (name_at spec t) i
step_line spec (steps.ReplyTo t i (Some copy)) = copy_line (codes "replyto ") (name_at spec t) i copy.0 copy.1

-- the text of steps
abbrev pub steps_text : Spec → List Step → List ℕ
steps_text spec list = flat_map (step_line spec) list
