use Rattle.view_text.proofs.picture.add_pair.Goals as goal

pub returns : goal.returns
returns c =
    rw (
      c.as_bytes-from.ensures.value,
      c.format.ensures.text,
      c.as_bytes-to.ensures.value,
      c.format-2.ensures.text,
      c.as_slice.ensures,
      c.in_ok-held.ensures,
    )
    at c.add.ensures
