use Rattle.least_cert.proofs.Common.{AreReplies, Edge, IsSpread, List, ap, has, subst, sym, true, ◌∙◌, ◌≡◌}
use Rattle.least_cert.proofs.Spreading.{all_least, made}
use Rattle.least_cert.proofs.replies.certificate.Goals as goal

pub replies-requires-clause-spread : goal.replies-requires-clause-spread
replies-requires-clause-spread c = subst (λ (xs : List Edge). IsSpread c.args.closing.now xs) (sym c.as_slice.ensures.value)
    c.in_ok-edges.ensures.spread

pub table-requires : goal.table-requires
table-requires c = λ e h.
    all_least c.args.closing.now c.requires c.in_ok-edges.edges.items c.in_ok-replies.replies.items c.in_ok-edges-2.edges.items
    c.in_ok-edges.ensures.spread (subst (λ (xs : List Edge). AreReplies c.args.closing.now xs c.in_ok-replies.replies.items)
    c.as_slice.ensures.value c.in_ok-replies.ensures.replies) (rw c.as_slice-2.ensures.value at c.in_ok-edges-2.ensures) e
    (subst (λ (xs : List Edge). has xs e ≡ true) c.as_slice-3.ensures.value h)

pub returns-clause-made : goal.returns-clause-made
returns-clause-made c =
    made c.args.closing.now c.in_ok-edges.edges.items c.in_ok-replies.replies.items c.in_ok-edges-2.edges.items
    c.in_ok-table.table (subst (λ (xs : List Edge). AreReplies c.args.closing.now xs c.in_ok-replies.replies.items)
    c.as_slice.ensures.value c.in_ok-replies.ensures.replies)
    c.in_ok-edges.ensures.spread (rw c.as_slice-2.ensures.value at c.in_ok-edges-2.ensures) (λ e. c.in_ok-table.ensures.same e
    ∙ ap (λ (xs : List Edge). has xs e) c.as_slice-3.ensures.value)
