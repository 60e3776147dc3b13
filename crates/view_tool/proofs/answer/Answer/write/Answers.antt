use Rattle.view_tool.proofs.answer.Answer.write.Goals as goal

pub returns-in-Usage : goal.returns-in-Usage
returns-in-Usage g c = rw (c.in-Usage.is) c.write_usage.ensures

pub returns-in-NoMemory : goal.returns-in-NoMemory
returns-in-NoMemory g c = rw (c.in-NoMemory.is) c.write_all-in-NoMemory.ensures.writes
