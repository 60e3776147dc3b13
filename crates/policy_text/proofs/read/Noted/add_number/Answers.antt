use Rattle.policy_text.proofs.WordsAdded.{near_pushed, still_near}
use Rattle.policy_text.proofs.read.Noted.add_number.Goals as goal

pub returns-else-number-len-clause-near : goal.returns-else-number-len-clause-near
returns-else-number-len-clause-near c = still_near c.args.self.now.near.items c.args.self.now.numbers c.add.new.self
    c.args.number.text.now c.in_ok-add.ensures

pub returns-in_ok-push-clause-near : goal.returns-in_ok-push-clause-near
returns-in_ok-push-clause-near c = rw c.in_ok-push.ensures.items (near_pushed c.args.self.now.near.items c.args.self.now.numbers
    c.add.new.self c.args.number.text c.in_ok-add.ensures)
