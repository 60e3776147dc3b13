-- The fields of the line of a step, and that they spell it.
use Rattle.step_text.proofs.Common.{Bool, IsNamed, IsNumber, IsReadable, List, None, Rights, Some, Spec, Step, [], codes, decimal, false, is_silent, name_at, refl, rights_field, rights_value, rules, spelled, step_line, thread_named, true, ℕ, ◌∷◌, ◌≡◌}
use Rattle.cam_base.specs.Texts.{together}
use Rattle.cap_machine.specs.declared.step.Step.TheVariants as steps
use Rattle.cam_base.proofs.Decimals.{digits-decimal, number_value-decimal}
use Rattle.step_text.proofs.Fields.{are_plain, ended, is_plain, joined, plain_digits, plain_word}

rights : Bool → Bool → Bool → Bool → Rights
rights r w g p = record { read = r; write = w; grant = g; reply = p }

value_by : (r w g p : Bool) → rights_value (rights_field (rights r w g p)) ≡ Some (rights r w g p)
unfolding rights
value_by true true true true = refl
value_by true true true false = refl
value_by true true false true = refl
value_by true true false false = refl
value_by true false true true = refl
value_by true false true false = refl
value_by true false false true = refl
value_by true false false false = refl
value_by false true true true = refl
value_by false true true false = refl
value_by false true false true = refl
value_by false true false false = refl
value_by false false true true = refl
value_by false false true false = refl
value_by false false false true = refl
value_by false false false false = refl

plain_by : (r w g p : Bool) → is_plain (rights_field (rights r w g p)) ≡ true
unfolding rights
plain_by true true true true = refl
plain_by true true true false = refl
plain_by true true false true = refl
plain_by true true false false = refl
plain_by true false true true = refl
plain_by true false true false = refl
plain_by true false false true = refl
plain_by true false false false = refl
plain_by false true true true = refl
plain_by false true true false = refl
plain_by false true false true = refl
plain_by false true false false = refl
plain_by false false true true = refl
plain_by false false true false = refl
plain_by false false false true = refl
plain_by false false false false = refl

rights_back : (r : Rights) → rights_value (rights_field r) ≡ Some r
unfolding rights
rights_back r = value_by r.read r.write r.grant r.reply

plain_rights : (r : Rights) → is_plain (rights_field r) ≡ true
unfolding rights
plain_rights r = plain_by r.read r.write r.grant r.reply

plain_number : (n : ℕ) → IsNumber n → is_plain (decimal n) ≡ true
plain_number n h = plain_digits (decimal n) (digits-decimal n h)

module _ (spec : Spec) where
  plain_name : (t : ℕ) → IsNamed spec t → is_plain (name_at spec t) ≡ true
  plain_name t h = plain_word (name_at spec t) h.word

  -- the word of the step, and the fields behind it
  abbrev pub word_of : Step → List ℕ
  word_of (steps.Take t i j r) = codes "take"
  word_of (steps.Put t i j r) = codes "put"
  word_of (steps.Grant t i u j k r) = codes "grant"
  word_of (steps.Call t i u j) = codes "call"
  word_of (steps.Reply t None) = codes "reply"
  word_of (steps.Reply t (Some copy)) = codes "reply"
  word_of (steps.SetCspace t i j) = codes "setcspace"
  word_of (steps.SetVspace t i j) = codes "setvspace"
  word_of (steps.Map t i j r) = codes "map"
  word_of (steps.Bind t i j) = codes "bind"
  word_of (steps.Drop t i) = codes "drop"
  word_of (steps.Save t) = codes "save"
  word_of (steps.ReplyTo t i None) = codes "replyto"
  word_of (steps.ReplyTo t i (Some copy)) = codes "replyto"

  abbrev pub behind : Step → List (List ℕ)
  behind (steps.Take t i j r) = name_at spec t ∷ decimal i ∷ decimal j ∷ rights_field r ∷ []
  behind (steps.Put t i j r) = name_at spec t ∷ decimal i ∷ decimal j ∷ rights_field r ∷ []
  behind (steps.Grant t i u j k r) = name_at spec t ∷ decimal i ∷ name_at spec u ∷ decimal j ∷ decimal k ∷ rights_field r ∷ []
  behind (steps.Call t i u j) = name_at spec t ∷ decimal i ∷ name_at spec u ∷ decimal j ∷ []
  behind (steps.Reply t None) = name_at spec t ∷ []
  behind (steps.Reply t (Some copy)) = name_at spec t ∷ decimal copy.0 ∷ rights_field copy.1 ∷ []
  behind (steps.SetCspace t i j) = name_at spec t ∷ decimal i ∷ decimal j ∷ []
  behind (steps.SetVspace t i j) = name_at spec t ∷ decimal i ∷ decimal j ∷ []
  behind (steps.Map t i j r) = name_at spec t ∷ decimal i ∷ decimal j ∷ rights_field r ∷ []
  behind (steps.Bind t i j) = name_at spec t ∷ decimal i ∷ decimal j ∷ []
  behind (steps.Drop t i) = name_at spec t ∷ decimal i ∷ []
  behind (steps.Save t) = name_at spec t ∷ []
  behind (steps.ReplyTo t i None) = name_at spec t ∷ decimal i ∷ []
  behind (steps.ReplyTo t i (Some copy)) = name_at spec t ∷ decimal i ∷ decimal copy.0 ∷ rights_field copy.1 ∷ []

  pub line_fields : (step : Step) → step_line spec step ≡ ended (word_of step ∷ behind step)
  unfolding together
  line_fields (steps.Take t i j r) = refl
  line_fields (steps.Put t i j r) = refl
  line_fields (steps.Grant t i u j k r) = refl
  line_fields (steps.Call t i u j) = refl
  line_fields (steps.Reply t None) = refl
  line_fields (steps.Reply t (Some copy)) = refl
  line_fields (steps.SetCspace t i j) = refl
  line_fields (steps.SetVspace t i j) = refl
  line_fields (steps.Map t i j r) = refl
  line_fields (steps.Bind t i j) = refl
  line_fields (steps.Drop t i) = refl
  line_fields (steps.Save t) = refl
  line_fields (steps.ReplyTo t i None) = refl
  line_fields (steps.ReplyTo t i (Some copy)) = refl

  pub not_silent : (step : Step) → is_silent (joined (word_of step ∷ behind step)) ≡ false
  not_silent (steps.Take t i j r) = refl
  not_silent (steps.Put t i j r) = refl
  not_silent (steps.Grant t i u j k r) = refl
  not_silent (steps.Call t i u j) = refl
  not_silent (steps.Reply t None) = refl
  not_silent (steps.Reply t (Some copy)) = refl
  not_silent (steps.SetCspace t i j) = refl
  not_silent (steps.SetVspace t i j) = refl
  not_silent (steps.Map t i j r) = refl
  not_silent (steps.Bind t i j) = refl
  not_silent (steps.Drop t i) = refl
  not_silent (steps.Save t) = refl
  not_silent (steps.ReplyTo t i None) = refl
  not_silent (steps.ReplyTo t i (Some copy)) = refl

  pub plain_fields : (step : Step) → IsReadable spec step → are_plain (word_of step ∷ behind step) ≡ true
  plain_fields (steps.Take t i j r) h = rw (plain_name t h.0, plain_number i h.1, plain_number j h.2, plain_rights r) refl
  plain_fields (steps.Put t i j r) h = rw (plain_name t h.0, plain_number i h.1, plain_number j h.2, plain_rights r) refl
  plain_fields (steps.Grant t i u j k r) h = search (rules, plain_name, plain_number, plain_rights)
  plain_fields (steps.Call t i u j) h = rw (plain_name t h.0, plain_number i h.2, plain_name u h.1, plain_number j h.3) refl
  plain_fields (steps.Reply t None) h = rw (plain_name t h) refl
  plain_fields (steps.Reply t (Some copy)) h = rw (plain_name t h.0, plain_number (copy.0) h.1, plain_rights copy.1) refl
  plain_fields (steps.SetCspace t i j) h = rw (plain_name t h.0, plain_number i h.1, plain_number j h.2) refl
  plain_fields (steps.SetVspace t i j) h = rw (plain_name t h.0, plain_number i h.1, plain_number j h.2) refl
  plain_fields (steps.Map t i j r) h = rw (plain_name t h.0, plain_number i h.1, plain_number j h.2, plain_rights r) refl
  plain_fields (steps.Bind t i j) h = rw (plain_name t h.0, plain_number i h.1, plain_number j h.2) refl
  plain_fields (steps.Drop t i) h = rw (plain_name t h.0, plain_number i h.1) refl
  plain_fields (steps.Save t) h = rw (plain_name t h) refl
  plain_fields (steps.ReplyTo t i None) h = rw (plain_name t h.0, plain_number i h.1) refl
  plain_fields (steps.ReplyTo t i (Some copy)) h = search (rules, plain_name, plain_number, plain_rights)

  pub spelled_back : (step : Step) → IsReadable spec step → spelled (thread_named spec) (word_of step ∷ behind step) ≡ Some step
  spelled_back (steps.Take t i j r) h = rw (h.0.found, number_value-decimal i h.1, number_value-decimal j h.2, rights_back r) refl
  spelled_back (steps.Put t i j r) h = rw (h.0.found, number_value-decimal i h.1, number_value-decimal j h.2, rights_back r) refl
  spelled_back (steps.Grant t i u j k r) h = search (rules, number_value-decimal, rights_back)
  spelled_back (steps.Call t i u j) h = rw (h.0.found, number_value-decimal i h.2, h.1.found, number_value-decimal j h.3) refl
  spelled_back (steps.Reply t None) h = rw h.found refl
  spelled_back (steps.Reply t (Some copy)) h = rw (h.0.found, number_value-decimal copy.0 h.1, rights_back copy.1) refl
  spelled_back (steps.SetCspace t i j) h = rw (h.0.found, number_value-decimal i h.1, number_value-decimal j h.2) refl
  spelled_back (steps.SetVspace t i j) h = rw (h.0.found, number_value-decimal i h.1, number_value-decimal j h.2) refl
  spelled_back (steps.Map t i j r) h = rw (h.0.found, number_value-decimal i h.1, number_value-decimal j h.2, rights_back r) refl
  spelled_back (steps.Bind t i j) h = rw (h.0.found, number_value-decimal i h.1, number_value-decimal j h.2) refl
  spelled_back (steps.Drop t i) h = rw (h.0.found, number_value-decimal i h.1) refl
  spelled_back (steps.Save t) h = rw h.found refl
  spelled_back (steps.ReplyTo t i None) h = rw (h.0.found, number_value-decimal i h.1) refl
  spelled_back (steps.ReplyTo t i (Some copy)) h = search (rules, number_value-decimal, rights_back)
