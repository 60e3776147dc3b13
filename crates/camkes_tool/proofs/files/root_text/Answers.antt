use Rattle.camkes_tool.proofs.Common.{ap, client_line, clients, codes, flat_map, from_end, header, ◌++◌, ◌∙◌}
use Rattle.camkes_tool.proofs.Numbered.{seven}
use Rattle.camkes_tool.proofs.files.root_text.Goals as goal

pub returns : goal.returns
returns c =
    let lines = flat_map client_line (clients c.args.count) in
    let callers = flat_map (from_end (codes ".p, ")) (clients c.args.count) in
    let sharers = flat_map (from_end (codes ".d, ")) (clients c.args.count) in
    let server = codes "component Server s;\nconnection seL4RPCCall k(" in
    let memory = codes "to s.p);\nconnection seL4SharedData m(" in
    let last = codes "to s.d);\n} }\n" in
    let one = c.in_ok-push_clients.ensures ∙ ap (λ z. z ++ lines) (c.in_ok-extend.ensures.ok
    ∙ ap (λ z. z ++ header) c.new-text.ensures) in
    let two = c.in_ok-extend-2.ensures.ok ∙ ap (λ z. z ++ server) one in
    let three = c.in_ok-push_clients-2.ensures ∙ ap (λ z. z ++ callers) two in
    let four = c.in_ok-extend-3.ensures.ok ∙ ap (λ z. z ++ memory) three in
    let five = c.in_ok-push_clients-3.ensures ∙ ap (λ z. z ++ sharers) four in
    c.in_ok-extend-4.ensures.ok ∙ ap (λ z. z ++ last) five ∙ seven header lines server callers memory sharers last
