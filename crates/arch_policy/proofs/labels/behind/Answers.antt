-- behind
use Rattle.arch_policy.proofs.Dotted.{in_front}
use Rattle.arch_policy.proofs.labels.behind.Goals as goal

pub returns : goal.returns
returns c = in_front c.args.text.now c.args.front.now c.strip_prefix.result c.strip_prefix.ensures.cases
