-- What explaining answers: whether the words name a triple that the root's source assigns, and why. It refuses what listing
-- refuses.
use Rattle.std.specs.Prelude.{◌≡◌, ℕ, List, None, Result, Ok, Err}
use Rattle.adl_ast.specs.declared.source.Source.{Source}
use Rattle.adl_import.specs.Loaded.{IsLoaded}
use Rattle.cam_base.specs.declared.error.NoMemory.{NoMemory}
use Rattle.cam_io.specs.Contents.{Contents}
use Rattle.front_end.specs.First.{first_list_fault, source_tables}
use Rattle.front_end.specs.Refusals.{Refuses}
use Rattle.cam_base.specs.Unread.{SourceError}
use Rattle.cam_base.specs.declared.error.Unread.TheVariants as error
use Rattle.explain.specs.Answers.{IsAnswer}
use Rattle.explain.specs.declared.answer.Answer.{Answer}

abbrev pub told : Result Answer NoMemory → Result Answer SourceError
told (Ok answer) = Ok answer
told (Err e) = Err error.NoMemory

module _ (from authority to : List ℕ) where
  -- the root's source is loaded, none of the faults stands, and the answer is its own
  pub record IsAnswered (root : List ℕ) (contents : Contents) (answer : Answer) : Type 0 where
    pub source : Source
    pub loaded : IsLoaded contents root (Ok source)
    pub none : first_list_fault source ≡ None
    pub answers : IsAnswer (source_tables source) from authority to answer

  abbrev pub IsExplained : List ℕ → Contents → (List ℕ → ℕ) → (List ℕ → ℕ) → Result Answer SourceError → Type 0
  IsExplained root contents before now (Ok answer) = IsAnswered root contents answer
  IsExplained root contents before now (Err e) = Refuses first_list_fault root contents before now e
