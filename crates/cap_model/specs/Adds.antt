-- How a list of edges grows: it keeps what it had, gains each edge with a property, and no other.
use Rattle.std.specs.Prelude.{◌≡◌, ◌⊎◌, ℕ, true, List}
use Rattle.authorities.specs.AuthoritySets.{set_has}
use Rattle.cap_model.specs.Tables.{has}
use Rattle.cap_model.specs.declared.edge.Edge.{Edge}

pub record Adds (P : Edge → Type 0) (old : List Edge) (new : List Edge) : Type 0 where
  pub kept : (e : Edge) → has old e ≡ true → has new e ≡ true
  pub added : (e : Edge) → P e → has new e ≡ true
  pub only : (e : Edge) → has new e ≡ true → (has old e ≡ true) ⊎ P e

-- this edge alone
abbrev pub Is : Edge → Edge → Type 0
Is edge e = e ≡ edge

-- the edges from one label to another with an authority of the set
pub record IsOfSet (from : ℕ) (bits : ℕ) (to : ℕ) (e : Edge) : Type 0 where
  pub from_is : e.from ≡ from
  pub in_set : set_has bits e.authority ≡ true
  pub to_is : e.to ≡ to
