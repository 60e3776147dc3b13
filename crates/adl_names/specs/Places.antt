-- Tables of the places of items by name.
use Rattle.adl_meaning.specs.Prelude.{BuildHasherDefault, FoldHasher, Item, Name, Rises, bytes_eq, filter_map, find, option_or}
use Rattle.adl_names.specs.Words.{IndexMap, ItemAt, get}
use Rattle.std.specs.Prelude.{List, Option, map, option_map, ◌++◌, ◌∷◌, ◌≡◌}

abbrev pub Places : Type 0
Places = IndexMap Name ItemAt (BuildHasherDefault FoldHasher)

-- the places that a table of names has, in the order of its entries
abbrev pub table_places : Places → List ItemAt
table_places table = map (λ e. e.1) table.entries

-- the place of the name: in the table, or else of the first of its kind among these items that has it
abbrev pub first_place : {T : Type 0} → (ItemAt × Item → Option (ItemAt × T)) → (T → Name) → Places → List (ItemAt × Item) → Name
    → Option ItemAt
first_place kind name table xs n =
    option_or (get bytes_eq table n) (option_map (λ x. x.0) (find (λ x. bytes_eq n (name x.1)) (filter_map kind xs)))

-- the new table finds what the old one does, or else the item
abbrev pub Finds : {T : Type 0} → (ItemAt × Item → Option (ItemAt × T)) → (T → Name) → Places → Places → ItemAt × Item → Type 0
Finds kind name old new x = (n : Name) (more : List (ItemAt × Item)) → first_place kind name new more n ≡ first_place kind name
    old (x ∷ more) n

-- where the places rise with that of an item behind them, they rise in the new table
abbrev pub StayRising : Places → Places → ItemAt → Type 0
StayRising old new at = (more : List ItemAt) → Rises (table_places old ++ at ∷ more) → Rises (table_places new ++ more)
