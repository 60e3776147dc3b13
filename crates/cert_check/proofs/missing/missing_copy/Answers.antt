use Rattle.cert_check.proofs.Common.{Reply, arith, length, slice_get-get_or, ◌∙◌, ◌≤◌}
use Rattle.cert_check.proofs.Missed.{found, is_reply, is_there, none_more, none_start, none_end, other_label}
use Rattle.cert_check.proofs.missing.missing_copy.Goals as goal
use Rattle.cert_check.proofs.missing.missing_copy.Goals.{in-Some+then-edge-from+then-not-is_of+else-not-has, in-Some+else-edge-from, else-edge-from-via-then-edge-from+else-not-is_of, else-edge-from-via-else-edge-from, in_default}

pub loop-i-init : goal.loop-i-init
loop-i-init c = none_start c.args.cert.now c.args.from c.args.to c.out_of-low.result.0 c.out_of-low.ensures.first

pub returns : goal.returns
returns c = none_end c.args.cert.now c.args.from c.args.to c.out_of-low.result.1 c.loop-i.i c.out_of-low.ensures.past
    c.loop-i-test.false c.loop-i.invariant

pub returns-then-not-has : goal.returns-then-not-has
returns-then-not-has c =
    found c.args.cert.now c.args.from c.args.to c.loop-i.i c.in-Some.edge c.out_of-low.ensures.sorted c.loop-i.invariant (cc)
    c.if-edge-from.true
    (λ e. let t = c.is_of.ensures.1 e in cc) (cc)

pub loop-i-preserved : goal.loop-i-preserved
loop-i-preserved c =
    let cert = c.args.cert.now in
    let s = c.args.from in
    let r = c.args.to in
    elim c.match-get_near.branch [
      | in-Some+then-edge-from+then-not-is_of+else-not-has w ↦ none_more cert s r c.loop-i.i w.in-Some.edge c.loop-i.invariant
          (cc) (is_there cert s r w.in-Some.edge (cc))
      | in-Some+else-edge-from w ↦ none_more cert s r c.loop-i.i w.in-Some.edge c.loop-i.invariant (cc)
          (elim w.else-edge-from.branch [
            | else-edge-from-via-then-edge-from+else-not-is_of w' ↦ is_reply cert s r w.in-Some.edge (w'.is_of.ensures.0 (cc))
            | else-edge-from-via-else-edge-from w' ↦ other_label cert s r w.in-Some.edge w'.if-edge-from.false
          ])
      | in_default w ↦ absurd (
          let bound : c.out_of-low.result.1 ≤ length cert = c.out_of-low.ensures.past.bound in
          w.in_default.not-Some _ (c.get_near.ensures ∙ slice_get-get_or cert c.loop-i.i (record {
            from = 0;
            authority = Reply;
            to = 0;
          }) (omega arith)))
    ]
