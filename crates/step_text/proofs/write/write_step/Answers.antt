use Rattle.step_text.proofs.write.write_step.Goals as goal

pub returns-in-SetCspace : goal.returns-in-SetCspace
returns-in-SetCspace g c = rw c.in-SetCspace.is (rw c.name-in-SetCspace.ensures at c.write_numbers.ensures)

pub returns-in-SetVspace : goal.returns-in-SetVspace
returns-in-SetVspace g c = rw c.in-SetVspace.is (rw c.name-in-SetVspace.ensures at c.write_numbers-in-SetVspace.ensures)
