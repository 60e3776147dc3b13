use Rattle.view_text.proofs.graph.add_arrow.Goals as goal

pub returns : goal.returns
returns c =
    rw (
      c.as_bytes-from.ensures.value,
      c.format.ensures.text,
      c.as_bytes-to.ensures.value,
      c.format-2.ensures.text,
      c.as_bytes-authority.ensures.value,
      c.text.ensures,
      c.as_slice.ensures,
      c.in_ok-note.ensures,
    )
    at c.add.ensures
