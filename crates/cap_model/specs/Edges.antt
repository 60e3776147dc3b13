-- The order of edges: by the label they come from, then by the authority's number, then by the label they go to.
use Rattle.std.specs.Prelude.{◌≡◌, ◌<◌, ◌≤◌, ℕ, ◌==◌, Bool, ◌&&◌}
use Rattle.authorities.specs.Authorities.{number_of}
use Rattle.authorities.specs.declared.authority.Authority.{Authority}
use Rattle.cap_model.specs.declared.edge.Edge.{Edge}

abbrev pub edge : ℕ → Authority → ℕ → Edge
edge l a m = record { from = l; authority = a; to = m }

pub record AtMost (d : Edge) (e : Edge) : Type 0 where
  pub by_from : d.from ≤ e.from
  pub by_authority : d.from ≡ e.from → number_of d.authority ≤ number_of e.authority
  pub by_to : d.from ≡ e.from → number_of d.authority ≡ number_of e.authority → d.to ≤ e.to

pub record Before (d : Edge) (e : Edge) : Type 0 where
  pub by_from : d.from ≤ e.from
  pub by_authority : d.from ≡ e.from → number_of d.authority ≤ number_of e.authority
  pub by_to : d.from ≡ e.from → number_of d.authority ≡ number_of e.authority → d.to < e.to

-- whether the two are one edge
abbrev pub same_edge : Edge → Edge → Bool
same_edge d e = d.from == e.from && (number_of d.authority == number_of e.authority && d.to == e.to)
