use Rattle.cam_io.proofs.Scripted.{acts_one}
use Rattle.camkes_tool.proofs.perform.perform.Goals as goal

pub returns-in-Compiled : goal.returns-in-Compiled
returns-in-Compiled g c = rw c.in-Compiled.is c.write_texts.ensures

pub returns-in-Explained : goal.returns-in-Explained
returns-in-Explained g c = rw c.in-Explained.is (acts_one (rw c.text.ensures at c.write_all.ensures.writes))

pub returns-in-Usage : goal.returns-in-Usage
returns-in-Usage g c = rw c.in-Usage.is (acts_one (rw c.usage_line.ensures at c.write_all-in-Usage.ensures.writes))

pub returns-in-NoMemory : goal.returns-in-NoMemory
returns-in-NoMemory g c = rw c.in-NoMemory.is (acts_one c.write_all-in-NoMemory.ensures.writes)
