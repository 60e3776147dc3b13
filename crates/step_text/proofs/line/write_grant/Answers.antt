use Rattle.step_text.proofs.line.write_grant.Goals as goal

pub returns : goal.returns
returns g c = rw (
  c.as_bytes.ensures.value,
  c.as_bytes-2.ensures.value,
  c.as_bytes-3.ensures.value,
  c.format.ensures.text,
  c.format-2.ensures.text,
  c.format-3.ensures.text,
  c.name.ensures,
  c.name-2.ensures,
  c.rights_field.ensures,
) at c.texts.ensures
