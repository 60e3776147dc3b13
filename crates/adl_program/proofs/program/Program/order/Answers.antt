use Rattle.adl_program.proofs.program.Program.order.Goals as goal

pub returns : goal.returns
returns c = rw (c.as_slice.ensures, ← c.self.view_is) c.self.invariant.order_is
