-- Labels by their texts, which are the names of their paths, joined by dots. Where no name has a dot, texts tell labels.
use Rattle.std.specs.Prelude.{◌≡◌, ◌≢◌, ℕ, List}
use Rattle.adl_meaning.specs.Prelude.{Name, Path, Source, hierarchy_of, joined}
use Rattle.adl_meaning.specs.declared.flat.Flat.{Flat}
use Rattle.cam_base.specs.Gather.{IsIn}
use Rattle.arch_policy.specs.declared.owner.Owner.{Owner}
use Rattle.assigned_laws.specs.Assigned.{Direct, HasLabel, IsAssigned, WithLock}
use Rattle.assigned_laws.specs.Named.{HasPath, IsNamed}
use Rattle.authorities.specs.declared.authority.Authority.{Authority}
use Rattle.arch_policy.specs.Tables.{Tables}

-- the number of the label with this text
abbrev pub IsCalled : Tables → ℕ → List ℕ → Type 0
IsCalled t label text = (p : Path) × IsNamed t label p × (joined p ≡ text)

-- a label has this text
abbrev pub IsLabelText : Source → List ℕ → Type 0
IsLabelText s text = (p : Path) × (joined p ≡ text) × HasLabel (hierarchy_of s) p

-- it is so between labels to which these lines give the two texts
abbrev pub OfTexts : List (ℕ × List ℕ) → (ℕ → ℕ → Type 0) → List ℕ → List ℕ → Type 0
OfTexts lines R from to = (l m : ℕ) × IsIn (l, from) lines × IsIn (m, to) lines × R l m

-- the label with one text is assigned an authority over that with another
abbrev pub IsAssignedText : Source → List ℕ → Authority → List ℕ → Type 0
IsAssignedText s from a to = (p q : Path) × (joined p ≡ from) × (joined q ≡ to) × IsAssigned s p a q

-- the same for a direct reason
abbrev pub IsDirectText : Source → List ℕ → Authority → List ℕ → Type 0
IsDirectText s from a to = (p q : Path) × (joined p ≡ from) × (joined q ≡ to) × Direct (hierarchy_of s) p a q

-- both are the text of one domain, which has a lock and may do this with it within its label
abbrev pub IsLockText : Source → List ℕ → Authority → List ℕ → Type 0
IsLockText s from a to = (p q : Path) × (joined p ≡ from) × (joined q ≡ to) × WithLock (hierarchy_of s) p a q

abbrev pub IsUndotted : Name → Type 0
IsUndotted n = (b : ℕ) → IsIn b n → b ≢ 46

-- no name of a label's path has a dot
abbrev pub AreUndotted : Flat → Type 0
AreUndotted flat = (x : Owner) (p : Path) → HasPath flat x p → (n : Name) → IsIn n p → IsUndotted n

-- no two labels have one text
abbrev pub AreTextsApart : Flat → Type 0
AreTextsApart flat = (x y : Owner) (p q : Path) → HasPath flat x p → HasPath flat y q → joined p ≡ joined q → x ≡ y
