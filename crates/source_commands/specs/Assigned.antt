-- What listing and explaining answer, by what the source assigns over its hierarchy of instances.
use Rattle.std.specs.List.{flat_map}
use Rattle.std.specs.Prelude.{◌≡◌, ◌↔◌, ℕ, Bool, true, List, [], Some, Ok}
use Rattle.adl_ast.specs.declared.source.Source.{Source}
use Rattle.adl_import.specs.Loaded.{IsLoaded}
use Rattle.assigned_laws.specs.Texts.{IsAssignedText}
use Rattle.assigned_laws.specs.Triples.{AreAll, Triple}
use Rattle.authorities.specs.Authorities.{authority_of, text_of}
use Rattle.authorities.specs.declared.authority.Authority.{Authority}
use Rattle.cam_io.specs.Contents.{Contents}
use Rattle.policy_text.specs.EdgeLines.{words_line}

-- `drv Read buf`
abbrev pub triple_line : Triple → List ℕ
triple_line x = words_line [] x.0 (text_of x.1) x.2

-- the text has a line for each triple that the root's source assigns, in order, each once
pub record ListsAssigned (root : List ℕ) (contents : Contents) (text : List ℕ) : Type 0 where
  pub source : Source
  pub loaded : IsLoaded contents root (Ok source)
  pub all : List Triple
  pub assigned : AreAll (IsAssignedText source) all
  pub lines : text ≡ flat_map triple_line all

-- the root's source is loaded; and it says whether the words are an authority's name, and the texts of two labels between which
-- the source assigns it
pub record AnswersWhether (root : List ℕ) (contents : Contents) (from authority to : List ℕ) (says : Bool) : Type 0 where
  pub source : Source
  pub loaded : IsLoaded contents root (Ok source)
  pub whether : (says ≡ true) ↔ ((a : Authority) × (authority_of authority ≡ Some a) × IsAssignedText source from a to)
