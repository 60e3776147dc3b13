-- Triples of two labels' texts and an authority, all of which something holds.
use Rattle.std.specs.Prelude.{◌≡◌, ◌≤◌, ◌↔◌, ℕ, false, true, List, [], AllPairs, slice_index_or}
use Rattle.adl_meaning.specs.declared.flat.Flat.{Flat}
use Rattle.arch_policy.specs.Labels.{comes_before, label_texts}
use Rattle.authorities.specs.Authorities.{number_of}
use Rattle.authorities.specs.declared.authority.Authority.{Authority}
use Rattle.cap_model.specs.declared.edge.Edge.{Edge}
use Rattle.cam_base.specs.Gather.{IsIn}

abbrev pub Triple : Type 0
Triple = List ℕ × Authority × List ℕ

-- the text of a label, by its number
abbrev pub name_at : Flat → ℕ → List ℕ
name_at flat l = slice_index_or (label_texts flat) l []

-- an edge by the texts of its labels
abbrev pub triple : Flat → Edge → Triple
triple flat e = (name_at flat e.from, e.authority, name_at flat e.to)

-- one stands before another: by the first text in byte order, then by the authority's number, then by the second text
pub record Precedes (x y : Triple) : Type 0 where
  pub by_from : comes_before y.0 x.0 ≡ false
  pub by_authority : x.0 ≡ y.0 → number_of x.1 ≤ number_of y.1
  pub by_to : x.0 ≡ y.0 → number_of x.1 ≡ number_of y.1 → comes_before x.2 y.2 ≡ true

-- these are all triples of which it holds, in this order, each once
pub record AreAll (P : List ℕ → Authority → List ℕ → Type 0) (all : List Triple) : Type 0 where
  pub each : (from : List ℕ) (a : Authority) (to : List ℕ) → IsIn (from, a, to) all ↔ P from a to
  pub rising : AllPairs Precedes all
