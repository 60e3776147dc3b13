-- Where the tokens stop being those of a form: the first wrong token, or the first that nests too deep.
-- A position is the number of tokens that are left there, the one at fault among them; 0 is the end.
use Rattle.std.specs.Prelude.{◌≡◌, ℕ, suc, List, [], ◌∷◌, ◌++◌, length}
use Rattle.cam_base.specs.Form.{Form}
use Rattle.cam_base.specs.Spelling.{Begins}
use Rattle.cam_base.specs.Depth.{deep, Begun}

module _ {T V A : Type 0} (code : T → ℕ) (line : Form T V V) (f : Form T V A) where
  -- The tokens before the position begin the form and nest at most limit deep; with the next token they begin it no
  -- more, at any depth. At the end there is no next token. (What begins a form is begun in each of its fronts, so no
  -- earlier token is such a one.)
  pub record IsSyntaxError (limit : ℕ) (ts : List T) (left : ℕ) : Type 0 where
    pub before : List T
    pub after : List T
    pub parts : ts ≡ before ++ after
    pub at : length after ≡ left
    pub within : Begins code (deep code line limit) f before
    pub no_further : (t : T) (more : List T) → after ≡ t ∷ more → Begun code line f (before ++ t ∷ []) → ⊥

  -- The tokens before the position begin the form and nest at most limit deep; with the next token they begin it too,
  -- but only deeper.
  pub record IsTooDeep (limit : ℕ) (ts : List T) (left : ℕ) : Type 0 where
    pub before : List T
    pub token : T
    pub after : List T
    pub parts : ts ≡ before ++ token ∷ after
    pub at : suc (length after) ≡ left
    pub within : Begins code (deep code line limit) f before
    pub begun : Begun code line f (before ++ token ∷ [])
    pub past : Begins code (deep code line limit) f (before ++ token ∷ []) → ⊥
