use Rattle.capdl_write.proofs.object.write_fill.Goals as goal

pub returns : goal.returns
returns g c =
    rw (
      c.as_bytes.ensures.value,
      c.format.ensures.text,
      c.as_bytes-2.ensures.value,
      c.format-2.ensures.text,
      c.as_bytes-3.ensures,
      c.hexadecimal.ensures.text,
    ) at c.texts.ensures
