use Rattle.cam_base.proofs.Common.{[], ap, append-nil, arith, drop, hex_digits, length, length-drop, rules, slice_set, take_all, ◌++◌, ◌+◌, ◌-◌, ◌∙◌, ◌∷◌, ◌≡◌}
use Rattle.std.proofs.lemmas.List.{drop_all, length-set}
use Rattle.cam_base.proofs.Digits.{put_last}
use Rattle.cam_base.specs.Hex.{hex_text}
use Rattle.cam_base.proofs.number.hexadecimal.Goals as goal

pub returns-clause-text : goal.returns-clause-text
unfolding hex_text
returns-clause-text c =
    let f = c.put_hex-first.result in
    let made = c.put_hex-first.new.buf in
    let long : length c.args.buf.now ≡ 18 = search rules in
    let same = c.put_hex-first.ensures.same in
    let low = c.put_hex-first.ensures.low in
    let high = c.put_hex-first.ensures.high in
    let one = slice_set made (f - 1) 120 in
    let two = slice_set one (f - 2) 48 in
    let next : f - 2 + 1 ≡ f - 1 = omega (arith, low) in
    let last : f - 1 + 1 ≡ f = omega (arith, low) in
    take_all (18 - (f - 2)) (drop (f - 2) two) (omega (
      arith,
      length-drop (f - 2) two,
      length-set one (f - 2) 48,
      length-set made (f - 1) 120,
      same,
      long,
    ))
    ∙ put_last one (f - 2) 48 (omega (arith, length-set made (f - 1) 120, same, long, low, high))
    ∙ ap (λ k. 48 ∷ drop k one) next
    ∙ ap (λ z. 48 ∷ z) (put_last made (f - 1) 120 (omega (arith, same, long, low, high)) ∙ ap (λ k. 120 ∷ drop k made) last)
    ∙ ap (λ z. 48 ∷ 120 ∷ z) (c.put_hex-first.ensures.text
    ∙ ap (λ z. hex_digits 16 c.args.n ++ z) (drop_all 18 c.args.buf.now (omega (arith, long)))
    ∙ append-nil (hex_digits 16 c.args.n))
