use Rattle.adl_parse.proofs.Common.{ap, interface_codes, starts, sym, token_code, ◌||◌, ◌∙◌}
use Rattle.adl_parse.specs.Members.{flag_codes, body_codes}
use Rattle.adl_parse.proofs.Starts.{starts_three}
use Rattle.adl_parse.proofs.component.starts_member.Goals as goal
use Rattle.adl_parse.proofs.component.starts_member.Goals.{then-starts_flag, else-starts_flag}

pub returns-then-starts_interface : goal.returns-then-starts_interface
returns-then-starts_interface c =
    let t = c.args.at.now in
    let interface = starts token_code interface_codes t in
    let body = starts token_code body_codes t in
    let three = starts_three token_code flag_codes interface_codes body_codes t in
    elim c.if-starts_flag.branch [
      | then-starts_flag w ↦ c.if-starts_interface.true
          ∙ sym (three ∙ ap (λ z. z || (interface || body)) (sym c.starts_flag.ensures ∙ w.if-starts_flag.true))
      | else-starts_flag w ↦
          c.if-starts_interface.true
          ∙ sym
          (three
          ∙ ap (λ z. z || (interface || body)) (sym c.starts_flag.ensures ∙ w.if-starts_flag.false)
          ∙ ap (λ z. z || body) (sym w.starts_interface.ensures ∙ sym w.value-is ∙ c.if-starts_interface.true))
    ]

pub returns-else-starts_interface : goal.returns-else-starts_interface
returns-else-starts_interface c =
    let t = c.args.at.now in
    let interface = starts token_code interface_codes t in
    let body = starts token_code body_codes t in
    elim c.if-starts_flag.branch [
      | then-starts_flag w ↦ absurd cc
      | else-starts_flag w ↦
          c.starts_body.ensures
          ∙ sym
          (starts_three token_code flag_codes interface_codes body_codes t
          ∙ ap (λ z. z || (interface || body)) (sym c.starts_flag.ensures ∙ w.if-starts_flag.false)
          ∙ ap (λ z. z || body) (sym w.starts_interface.ensures ∙ sym w.value-is ∙ c.if-starts_interface.false))
    ]
