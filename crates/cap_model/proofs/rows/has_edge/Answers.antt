use Rattle.cap_model.proofs.Common.{refl, ◌∙◌}
use Rattle.cap_model.proofs.RowEdges.{reply_found, pair_found}
use Rattle.cap_model.proofs.rows.has_edge.Goals as goal

pub returns-in-Reply : goal.returns-in-Reply
returns-in-Reply c = c.is_ok.ensures.value
    ∙ reply_found c.args.class.now c.args.row.now c.args.edge.now c.requires.class c.requires.label c.deref.result.now
    c.binary_search.result c.requires.replies c.in-Reply.is c.deref.ensures.value
    c.binary_search.ensures.bound c.binary_search.ensures.position

pub returns-in_default : goal.returns-in_default
returns-in_default c = c.is_ok-in_default.ensures.value
    ∙ pair_found c.args.class.now c.args.row.now c.args.edge.now c.requires.class c.requires.label c.args.edge.now.authority
    c.deref-in_default.result.now c.binary_search-in_default.result
    c.in_default.not-Reply refl c.deref-in_default.ensures.value c.binary_search-in_default.ensures.bound
    c.binary_search-in_default.ensures.position
