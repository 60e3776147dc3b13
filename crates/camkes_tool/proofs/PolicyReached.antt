-- The edges of a build's policy are those that runs of its spec reach between different labels, by the numbers of labels.
use Rattle.camkes_tool.proofs.Common.{Reaches}
use Rattle.camkes_tool.proofs.BackCommon.{Authority, Build, Contents, Has, IsBuildOf, List, build_facts, edge, images_beside, object_labels, own_reached, ℕ, ◌↔◌, ◌≢◌}

pub policy_reached : (root : List ℕ) (contents : Contents) (b : Build) → IsBuildOf root contents b
    → (l : ℕ) (a : Authority) (m : ℕ)
    → Has b.policy.edges l a m ↔ (Reaches b.spec (object_labels b).by_object l a m × (l ≢ m))
policy_reached root contents b is l a m =
    let s = b.meaning.source in
    let made = is.made in
    let reached = own_reached s (images_beside contents s) (build_facts root contents b is) b made a l m in (
      λ h. let r = (made.edges (edge l a m)).0 h in ((reached r.differ).1 r, r.differ),
      λ h. (made.edges (edge l a m)).1 ((reached h.1).0 h.0),
    )
