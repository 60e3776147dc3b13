-- Each component has at most 1,048,576 members. Every source whose trees spell the tokens of files of at most 1,048,576
-- bytes is of this kind, since each member is spelled by a token at least.
use Rattle.std.specs.Prelude.{◌≤◌, length}
use Rattle.adl_meaning.specs.Below.{All, Source}
use Rattle.adl_meaning.specs.Items.{components}

abbrev pub HaveFewMembers : Source → Type 0
HaveFewMembers s = All (λ c. length c.1.members ≤ 1048576) (components s)
