use Rattle.cam_io.proofs.Saying.{said_all}
use Rattle.arch_compile.proofs.Common.{acts_one, arith, refl, rules}
use Rattle.arch_compile.proofs.Scripts.{acts_then, still_fresh}
use Rattle.arch_compile.proofs.write.write_texts.Goals as goal

pub write_rules-requires : goal.write_rules-requires
write_rules-requires g c = still_fresh _ _ 2 3 _ _ c.in_ok-write_capdl.ensures.ok refl (c.requires 3 (omega arith) (omega arith))

pub write_certificate-requires : goal.write_certificate-requires
write_certificate-requires g c =
    still_fresh _ _ 3 4 _ _ c.in_ok-write_rules.ensures.ok refl (still_fresh _ _ 2 4 _ _ c.in_ok-write_capdl.ensures.ok refl
    (c.requires 4 (omega arith) (omega arith)))

pub write_places-requires : goal.write_places-requires
write_places-requires g c =
    still_fresh _ _ 4 5 _ _ c.in_ok-write_certificate.ensures.ok refl
    (still_fresh _ _ 3 5 _ _ c.in_ok-write_rules.ensures.ok refl (still_fresh _ _ 2 5 _ _ c.in_ok-write_capdl.ensures.ok refl
    (c.requires 5 (omega arith) (omega arith))))

pub returns : goal.returns
returns g c =
    let capdl = rw c.as_str.ensures.value at c.in_ok-write_capdl.ensures in
    let policy = rw c.as_str-2.ensures.value at c.in_ok-write_rules.ensures in
    let cert = rw c.as_str-3.ensures.value at c.in_ok-write_certificate.ensures in
    let map = rw c.as_str-4.ensures.value at c.in_ok-write_places.ensures in
    let line = rw c.of-summary.ensures at c.write_summary.ensures in
    let summary = said_all c.new-to.ensures.channel c.new-to.ensures.said line c.flush.ensures (search rules) in
    acts_then capdl (acts_then policy (acts_then cert (acts_then map (acts_one summary))))
