-- The trees of a source that is loaded are spelled by few tokens.
use Rattle.front_end.proofs.Common.{AreFilesOf, Contents, IsLoaded, IsLoadedBy, List, None, Ok, Option, Some, Source, arith, clean_each, length, length-map, root_name, see, seen_at, ℕ}
use Rattle.adl_hierarchy.specs.Spelled.{AreSpelled}
use Rattle.front_end.proofs.LoadedFew.{tokens_within}
use Rattle.flat_laws.specs.ShortFiles.{AreFilesShort}
use Rattle.cam_base.proofs.NumberedLists.{split_in}

each_short : (contents : Contents) (s : Source) → AreFilesOf contents s.files → AreFilesShort s
each_short contents s each f i =
    let at = split_in s.files f i in
    let file = each at.0 at.1 f at.2 in
    let tokens = tokens_within (length at.0) (length f.bytes) f.bytes file.tokens file.lexed in
    let size = file.size in
    (see f.bytes file.tokens, file.spelled, omega (arith, tokens, size, length-map file.tokens (seen_at f.bytes)))

-- no more tokens spell a file than it has bytes
pub loaded_short : (contents : Contents) (root : List ℕ) (s : Source) → IsLoaded contents root (Ok s) → AreFilesShort s
loaded_short contents root s loaded = go (root_name root) loaded
  where
    go : (name : Option (List ℕ)) → IsLoadedBy contents root name (Ok s) → AreFilesShort s
    go None l = absurd l
    go (Some name) l = each_short contents s (clean_each contents name s.files l)

pub short_spelled : (s : Source) → AreFilesShort s → AreSpelled s
short_spelled s short f i = let x = short f i in (x.0, x.1)
