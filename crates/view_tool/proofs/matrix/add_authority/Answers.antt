use Rattle.view_tool.proofs.matrix.add_authority.Goals as goal

pub returns : goal.returns
returns c = rw (c.as_bytes.ensures.value, c.text.ensures) at c.add.ensures
