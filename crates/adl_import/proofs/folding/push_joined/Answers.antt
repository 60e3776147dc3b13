use Rattle.adl_import.proofs.Parts.{joined-pushed}
use Rattle.adl_import.proofs.folding.push_joined.Goals as goal

pub returns-in_ok-push_behind_slashes : goal.returns-in_ok-push_behind_slashes
returns-in_ok-push_behind_slashes c =
    joined-pushed c.args.text.now.items c.extend_from_slice.new.self.items c.push_behind_slashes.new.text.items c.args.parts.now
    c.in-Some.rest.now c.in-Some.first.now
    c.in-Some.ensures.cases.0 c.in_ok-extend_from_slice.ensures.items c.in_ok-push_behind_slashes.ensures
