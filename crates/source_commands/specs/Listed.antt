-- What listing answers: the labels of the root's system and the edges that are assigned.
use Rattle.std.specs.Prelude.{◌≡◌, ℕ, List, None, Result, Ok, Err}
use Rattle.adl_ast.specs.declared.source.Source.{Source}
use Rattle.adl_import.specs.Loaded.{IsLoaded}
use Rattle.adl_meaning.specs.Flat.{flat_of}
use Rattle.arch_policy.specs.Labels.{label_lines}
use Rattle.arch_policy.specs.Policies.{IsPolicyOf}
use Rattle.cap_model.specs.Tables.{IsSorted}
use Rattle.cam_io.specs.Contents.{Contents}
use Rattle.policy_text.specs.EdgeLines.{apart_lines}
use Rattle.front_end.specs.First.{first_list_fault, source_tables}
use Rattle.front_end.specs.Refusals.{Refuses}
use Rattle.cam_base.specs.Unread.{SourceError}
use Rattle.source_commands.specs.declared.listing.Listing.{Listing}

-- it has the source's labels, and just the edges that are assigned, in order and each once
pub record IsListingOf (source : Source) (listing : Listing) : Type 0 where
  pub names : listing.names ≡ label_lines (flat_of source)
  pub edges : IsPolicyOf (source_tables source) listing.edges
  pub sorted : IsSorted listing.edges

-- the root's source is loaded, none of the faults stands, and the listing is its own
pub record IsListing (root : List ℕ) (contents : Contents) (listing : Listing) : Type 0 where
  pub source : Source
  pub loaded : IsLoaded contents root (Ok source)
  pub none : first_list_fault source ≡ None
  pub listed : IsListingOf source listing

abbrev pub IsListed : List ℕ → Contents → (List ℕ → ℕ) → (List ℕ → ℕ) → Result Listing SourceError → Type 0
IsListed root contents before now (Ok listing) = IsListing root contents listing
IsListed root contents before now (Err e) = Refuses first_list_fault root contents before now e

-- a line for each edge. All of them lead between different labels.
abbrev pub listing_text : Listing → List ℕ
listing_text listing = apart_lines listing.names listing.edges
