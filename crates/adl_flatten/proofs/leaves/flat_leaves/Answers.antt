use Rattle.adl_flatten.proofs.Common.{Option, Path, Some, ap, arith, common_steps, cons_option, domains, drop, drop_first, filter_map, home, leaf_in, leaf_with, map, option_map, place_by, pointed, refl, same_path, sym, ℕ, ◌++◌, ◌+◌, ◌∙◌, ◌≡◌}
use Rattle.adl_flatten.proofs.Homes.{all_met, is_met, leaf_more, met_more, paths_are, place_met}
use Rattle.adl_flatten.proofs.leaves.flat_leaves.Goals.{in-None, in-Some+in_ok-number-in-Some}
use Rattle.adl_flatten.proofs.leaves.flat_leaves.Goals as goal

pub loop-leaf-init : goal.loop-leaf-init
loop-leaf-init c =
    let h = c.args.program.now in
    let leaves = c.args.leaves.now in
    record {
      paths = ap (λ ks. all_met (pointed ks) (filter_map (home h) leaves)) c.in_ok-paths.ensures.empty
          ∙ paths_are h leaves c.requires.are;
      count = omega (arith, c.in_ok-paths.ensures.len);
      leaves = grind (arith, common_steps);
    }

pub loop-leaf-preserved : goal.loop-leaf-preserved
loop-leaf-preserved c =
    let h = c.args.program.now in
    let leaves = c.args.leaves.now in
    let i = c.loop-leaf.leaf-index in
    let w = c.leaf-item.result in
    let old = c.loop-leaf.paths.keys in
    let rest = filter_map (home h) (drop (i + 1) leaves) in
    let before = c.loop-leaf.invariant in
    let n = before.count in
    let place : Option Path → Option ℕ = option_map (λ p. place_by (same_path p) (domains h)) in
    let met : all_met (pointed old) (cons_option (home h w) rest) ≡ domains h =
    ap (λ ls. all_met (pointed old) (filter_map (home h) ls)) (sym (drop_first leaves i w c.loop-leaf-test.true c.leaf-item.is))
    ∙ before.paths in
    let more : c.match-home.domain ≡ place (home h w) → c.push.new.self ++ map (leaf_in h (domains h)) (drop (i + 1) leaves) ≡ map
    (leaf_in h (domains h)) leaves =
    λ e. leaf_more (leaf_in h (domains h)) leaves i w c.loop-leaf.flat c.push.new.self c.in_ok-flat_leaf.field-0
    c.loop-leaf-test.true c.leaf-item.is c.in_ok-push.ensures.ok (c.in_ok-flat_leaf.ensures ∙ ap (λ d. leaf_with h d w) e)
    before.leaves in
    elim c.match-home.branch [
      | in-None b ↦
          let path = ap (λ o. all_met (pointed old) (cons_option o rest)) b.in-None.ensures ∙ met in
          record {
            paths = rw b.paths-is path;
            count = rw b.paths-is (omega (arith, n));
            leaves = more (b.domain-is ∙ ap place b.in-None.ensures);
          }
      | in-Some+in_ok-number-in-Some b ↦
          let p = b.in-Some.path in
          let inserted = b.in_ok-number-in-Some.ensures in
          let here = ap (λ o. all_met (pointed old) (cons_option o rest)) b.in-Some.ensures ∙ met in
          let path = met_more old b.insert_full.new.self.keys p rest inserted.keys ∙ here in
          let number : b.in_ok-number-in-Some.number ≡ place_by (same_path p.now) (domains h) =
          inserted.index ∙ place_met (is_met (pointed old)) old p.now rest refl ∙ ap (place_by (same_path p.now)) here in
          let l = inserted.len in
          record {
            paths = rw b.paths-is path;
            count = rw b.paths-is (grind (arith, common_steps, l, n));
            leaves = more (b.domain-is ∙ ap Some number ∙ ap place b.in-Some.ensures);
          }
    ]
