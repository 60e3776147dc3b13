use Rattle.adl_flatten.proofs.Common.{ap, count_by, is_at, is_some, list_any, ◌∙◌}
use Rattle.adl_flatten.proofs.EndLookups.{any_at, tally_some}
use Rattle.adl_flatten.proofs.end_counts.CountedEnds.is_joined.Goals as goal

pub returns : goal.returns
returns c =
    let leaf = c.args.leaf in
    let member = c.args.member in
    let es = c.self.inside.ends.items in
    c.contains_key.ensures ∙ ap is_some (c.self.invariant.all leaf member) ∙ tally_some (count_by (is_at leaf member) es)
    ∙ any_at leaf member es
    ∙ ap (list_any (is_at leaf member)) c.self.view_is
