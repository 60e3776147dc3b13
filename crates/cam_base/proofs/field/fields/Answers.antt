use Rattle.cam_base.proofs.Common.{[], ap, arith, fields, length, parts_from, take, texts, vec_len, ◌++◌, ◌+◌, ◌-◌, ◌<◌, ◌∙◌, ◌∷◌}
use Rattle.cam_base.proofs.FieldsMore.{field_more}
use Rattle.cam_base.proofs.field.fields.Goals as goal

pub loop-at-preserved : goal.loop-at-preserved
loop-at-preserved c =
    let len = vec_len c.loop-at.fields in
    let room : len < c.args.most = omega arith in
    let more = field_more c.args.most c.loop-at.at len c.args.line.now c.loop-at.fields.items c.part_from-field.result
    (take c.args.most (fields c.args.line.now)) room (omega arith) c.part_from-field.ensures.part
    c.loop-at.invariant.so_far in
    record {
      within = omega arith;
      few = omega arith;
      so_far =
          ap (λ items. texts items ++ take (c.args.most - vec_len c.push.new.self)
          (parts_from 32 (c.loop-at.at + (length c.part_from-field.result.now + 1)) c.args.line.now)) c.in_ok-push.ensures.items
          ∙ ap (λ n. texts (c.loop-at.fields.items ++ c.part_from-field.result ∷ [])
          ++ take (c.args.most - n) (parts_from 32 (c.loop-at.at + (length c.part_from-field.result.now + 1))
          c.args.line.now)) c.in_ok-push.ensures.len
          ∙ more;
    }
