use Rattle.adl_flatten.proofs.Common.{ap, count_by, false, nat_le, seen_at, sym, unwrap_or, ◌∙◌}
use Rattle.adl_flatten.proofs.EndLookups.{alone, several_apart, several_once}
use Rattle.adl_meaning.specs.UsedTwice.{clashes}
use Rattle.adl_flatten.proofs.end_counts.CountedEnds.is_clash.Goals as goal

pub returns-then-not-self : goal.returns-then-not-self
returns-then-not-self c =
    alone c.self.inside.seen.entries c.self.inside.several c.self.inside.ends.items c.self.invariant c.args.end.now
    c.if-not-self.true
    ∙ ap (λ es. nat_le 2 (count_by (clashes c.args.end.now) es)) c.self.view_is

pub returns-then-is_once : goal.returns-then-is_once
returns-then-is_once c =
    c.are_several.ensures ∙ ap (λ k. unwrap_or (seen_at c.self.inside.seen.entries k) false) c.key.ensures
    ∙ several_once c.self.inside.seen.entries c.self.inside.several c.self.inside.ends.items c.self.invariant c.args.end.now
    (sym c.is_once.ensures ∙ c.if-is_once.true)
    ∙ ap (λ es. nat_le 2 (count_by (clashes c.args.end.now) es)) c.self.view_is

pub returns : goal.returns
returns c =
    c.are_several-2.ensures ∙ ap (λ k. unwrap_or (seen_at c.self.inside.seen.entries k) false) c.key_apart.ensures
    ∙ several_apart c.self.inside.seen.entries c.self.inside.several c.self.inside.ends.items c.self.invariant c.args.end.now
    c.if-not-self.false (sym c.is_once.ensures ∙ c.if-is_once.false)
    ∙ ap (λ es. nat_le 2 (count_by (clashes c.args.end.now) es)) c.self.view_is
