-- The letters of rights: R read, W write, G grant, P reply, in this order.
use Rattle.std.specs.Prelude.{ℕ, Bool, true, false, ◌||◌, List, [], ◌∷◌}
use Rattle.cap_model.specs.declared.rights.Rights.{Rights}

abbrev pub has_rights : Rights → Bool
has_rights r = r.read || (r.write || (r.grant || r.reply))

-- the letters
abbrev pub read_letter : ℕ
read_letter = 82

abbrev pub write_letter : ℕ
write_letter = 87

abbrev pub grant_letter : ℕ
grant_letter = 71

abbrev pub reply_letter : ℕ
reply_letter = 80

-- a letter where there is the right
abbrev pub letter : Bool → ℕ → List ℕ → List ℕ
letter true l more = l ∷ more
letter false l more = more

abbrev pub rights_word : Rights → List ℕ
rights_word r =
    letter r.read read_letter (letter r.write write_letter (letter r.grant grant_letter (letter r.reply reply_letter [])))
