use Rattle.arch_compile.proofs.Common.{Entry, is_thread, rules, tests, ◌∙◌}
use Rattle.std.proofs.lemmas.Iterator.{YieldsList-from_slice}
use Rattle.std.proofs.lemmas.Iterator.Consumers.{YieldsList-from_filter, count_from_yields_List}
use Rattle.std.proofs.lemmas.List.Sums.{length-filter}
use Rattle.arch_compile.proofs.summary.thread_count.Goals as goal

pub returns : goal.returns
returns c =
    count_from_yields_List c.filter.result _ c.count.ensures.ran
    (YieldsList-from_filter _ (λ (e : Entry). is_thread e.object) (YieldsList-from_slice c.args.entries.now cc)
    c.filter.ensures.closure (λ x b q k. search (rules, tests)))
    ∙ length-filter (λ (e : Entry). is_thread e.object) c.args.entries.now
