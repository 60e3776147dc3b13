use Rattle.vspace_layout.proofs.Common.{PortKey, [], ap, drop, first_at, first_number, leads_by, position_from, read_place, refl, ◌++◌, ◌+◌, ◌∙◌, ◌∷◌}
use Rattle.vspace_layout.proofs.FirstPorts.{first_is, firsts_more, ports_more}
use Rattle.vspace_layout.proofs.ports.first_numbers.Goals as goal

pub loop-number-preserved : goal.loop-number-preserved
loop-number-preserved c =
    let cs = c.args.connections.now in
    let i = c.loop-number.number in
    let x = c.index-connections-number.result in
    let f = λ (k : PortKey). first_at c.loop-number.ports k in
    let g = λ (k : PortKey). first_at c.note.new.self k in
    let rest = λ (k : PortKey). position_from (leads_by k) (i + 1) (drop (i + 1) cs) in
    let ports = ports_more cs i x f g c.loop-number-test.true c.index-connections-number.is c.loop-number.invariant.ports
    c.in_ok-note.ensures.ports in
    record {
      ports = ports;
      firsts = firsts_more (first_number cs) cs i x c.loop-number.firsts.items _
          (read_place cs cs i x refl c.loop-number-test.true c.index-connections-number.is) c.loop-number.invariant.firsts
          (c.in_ok-push.ensures.items ∙ ap (λ o. c.loop-number.firsts.items ++ o ∷ []) (c.in_ok-note.ensures.first
          ∙ first_is cs x i f g rest c.in_ok-note.ensures.ports ports));
    }
