-- What a name first stands for, among what lists have one behind another.
use Rattle.adl_items.proofs.Common.{List, Option, ℕ, ◌++◌, ◌+◌, ◌<◌, ◌∙◌, ◌≡◌}
