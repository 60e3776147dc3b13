use Rattle.view_text.proofs.picture.add_shaped.Goals as goal

pub returns : goal.returns
returns c = rw (
  c.as_bytes-number.ensures.value,
  c.format.ensures.text,
  c.as_slice.ensures,
  c.in_ok-name.ensures,
  c.as_bytes.ensures,
  c.style.ensures,
) at c.add.ensures
