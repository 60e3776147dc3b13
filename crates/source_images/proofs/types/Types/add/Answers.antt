use Rattle.source_images.proofs.Common.{found, rules}
use Rattle.source_images.proofs.Typing.{number_new}
use Rattle.source_images.proofs.types.Types.add.Goals as goal

pub returns-in_ok-add-clause-told : goal.returns-in_ok-add-clause-told
returns-in_ok-add-clause-told c =
    number_new c.args.self.now.names.items c.push.new.self.items c.args.name c.len-number.result (found c.args.self.now.numbers)
    (found c.add.new.self) c.in_ok-push.ensures.items (search rules)
    c.requires.told c.in_ok-add.ensures.found
