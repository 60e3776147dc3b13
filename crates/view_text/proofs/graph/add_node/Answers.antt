use Rattle.view_text.proofs.graph.add_node.Goals as goal

pub returns : goal.returns
returns c = rw (
  c.as_bytes-number.ensures.value,
  c.format.ensures.text,
  c.as_slice.ensures,
  c.in_ok-name.ensures,
  c.as_bytes.ensures,
) at c.add.ensures
