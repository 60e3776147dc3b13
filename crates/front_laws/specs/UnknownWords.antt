-- Unknown, as a condition on the words of a setting. The words are looked up from the composition of the body that has the
-- setting: an instance leads into the composition of its component, and a group stands in front of its instances. Unknown
-- stands at
--
--   a word, not the last, that the composition which it is looked up in doesn't hold (unheld);
--   a word behind a group that isn't an instance of it (unheld_in_group);
--   a group as last word but one (a_group_alone);
--   a word, not the last, anywhere behind a connection or an instance of a component without a composition (behind_an_end);
--
-- and in the settings of a component without a composition at each word but the last. Behind an instance whose component
-- isn't known it stands nowhere.
use Rattle.std.specs.Prelude.{◌≡◌, ◌<◌, List, [], ◌∷◌, ◌++◌, length, Option, None, Some}
use Rattle.adl_meaning.specs.Prelude.{Held, Id, Instance, Known, Name, a_connection, a_group, an_instance}

-- what the components of a source are known as, and what a composition holds, by name
abbrev pub Types : Type 0
Types = Name → Option Known

abbrev pub Holding : Type 0
Holding = Name → Option Held

-- One word names an instance that the composition holds, or two name an instance of a group of it; its component is this.
pub data NamesInstance (types : Types) (held : Holding) : List Id → Known → Type 0 where
  alone : (w : Id) (i : Instance) (c : Known) → held w.name ≡ Some (an_instance i) → types i.component.name ≡ Some c
      → NamesInstance types held (w ∷ []) c
  in_a_group : (g w : Id) (members : Name → Option Instance) (i : Instance) (c : Known) → held g.name ≡ Some (a_group members)
      → members w.name ≡ Some i → types i.component.name ≡ Some c → NamesInstance types held (g ∷ w ∷ []) c

-- the words lead from a composition into one further inwards, which holds this, through as many instances as there are
pub data Leads (types : Types) : Holding → List Id → Holding → Type 0 where
  here : (held : Holding) → Leads types held [] held
  inwards : (held inner last : Holding) (ws more : List Id) (c : Known) → NamesInstance types held ws c → c.holds ≡ Some inner
      → Leads types inner more last → Leads types held (ws ++ more) last

-- the words name what holds nothing: a connection, or an instance of a component without a composition
pub data Ends (types : Types) (held : Holding) : List Id → Type 0 where
  at_connection : (w : Id) → held w.name ≡ Some a_connection → Ends types held (w ∷ [])
  at_leaf : (ws : List Id) (c : Known) → NamesInstance types held ws c → c.holds ≡ None → Ends types held ws

-- Of words that are looked up in a composition, which holds this, this one is unknown.
pub data IsUnknownWord (types : Types) (held : Holding) (words : List Id) : Id → Type 0 where
  unheld : (before after : List Id) (w : Id) (inner : Holding) → words ≡ before ++ w ∷ after → 0 < length after
      → Leads types held before inner → inner w.name ≡ None → IsUnknownWord types held words w
  unheld_in_group : (before after : List Id) (g w : Id) (inner : Holding) (members : Name → Option Instance)
      → words ≡ before ++ g ∷ w ∷ after → Leads types held before inner → inner g.name ≡ Some (a_group members)
      → members w.name ≡ None → IsUnknownWord types held words w
  a_group_alone : (before : List Id) (g w : Id) (inner : Holding) (members : Name → Option Instance)
      → words ≡ before ++ g ∷ w ∷ []
      → Leads types held before inner → inner g.name ≡ Some (a_group members) → IsUnknownWord types held words g
  behind_an_end : (before end between after : List Id) (w : Id) (inner : Holding)
      → words ≡ before ++ (end ++ (between ++ w ∷ after))
      → 0 < length after → Leads types held before inner → Ends types inner end → IsUnknownWord types held words w

-- the word is one of these, and not the last
pub record IsInFront (words : List Id) (w : Id) : Type 0 where
  pub before : List Id
  pub after : List Id
  pub split : words ≡ before ++ w ∷ after
  pub more : 0 < length after

-- Of the words of a setting this one is unknown, where the body holds this, or where it has no composition.
abbrev pub IsUnknownIn : Types → Option Holding → List Id → Id → Type 0
IsUnknownIn types None words w = IsInFront words w
IsUnknownIn types (Some held) words w = IsUnknownWord types held words w
