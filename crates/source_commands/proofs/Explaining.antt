-- What is found out of a source is what explaining answers.
use Rattle.source_commands.proofs.Common.{Answer, SourceError, Contents, Err, FrontEnd, IsAnswer, IsExplained, IsFrontOf, List, Ok, Result, Tables, subst, sym, tables_are, tables_of, told, ℕ, ◌≡◌}
use Rattle.std.specs.Prelude.{IfOk}
use Rattle.cam_base.specs.declared.error.NoMemory.{NoMemory}

module _ (from authority to root : List ℕ) (contents : Contents) (before now : List ℕ → ℕ) where
  told_explained : (f : FrontEnd) (r : Result Answer NoMemory) → IsFrontOf root contents f
      → IfOk r (λ answer. IsAnswer (tables_of f.source f.flat f.settled) from authority to answer)
      → IsExplained from authority to root contents before now (told r)
  told_explained f (Ok answer) front h = record {
    source = f.source;
    loaded = front.loaded;
    none = front.none;
    answers = subst (λ (t : Tables). IsAnswer t from authority to answer) (tables_are f.source f.flat f.settled front.meant) h;
  }
  told_explained f (Err e) front h = tt

  pub front_explained : (f : FrontEnd) (r : Result Answer NoMemory) (result : Result Answer SourceError)
      → IsFrontOf root contents f
      → IfOk r (λ answer. IsAnswer (tables_of f.source f.flat f.settled) from authority to answer) → result ≡ told r
      → IsExplained from authority to root contents before now result
  front_explained f r result front h e = subst (λ z. IsExplained from authority to root contents before now z) (sym e)
      (told_explained f r front h)
