-- What generating answers is one, aside from want of memory.
use Rattle.std.proofs.Common.{rules}
use Rattle.camkes_tool.proofs.Common.{Err, IsGenerated, Ok, Result, SourceError, Summary, ap, build_first, builds_same, false, generated, one_first, root_name, yields, ℕ, ◌∙◌, ◌≡◌}
use Rattle.front_end.proofs.OneAnswer.{faults_same}
use Rattle.cam_base.specs.declared.error.Unread.TheVariants as error

module _ (count : ℕ) where
  summaries_same : (f g : Summary) → IsGenerated count (Ok f) → IsGenerated count (Ok g) → f ≡ g
  summaries_same f g (b, is, accepted) (c, be, accepts) = search (rules, builds_same)

  pub one_generated : (a b : Result Summary SourceError) → yields a ≡ false → yields b ≡ false → IsGenerated count a
      → IsGenerated count b → a ≡ b
  one_generated (Ok f) (Ok g) p q x y = ap Ok (summaries_same f g x y)
  one_generated (Ok f) (Err (error.Fault g b)) p q x y = absurd (build_first (generated count) root_name x.0 g b x.1 y)
  one_generated (Err (error.Fault f a)) (Ok g) p q x y = absurd (build_first (generated count) root_name y.0 f a y.1 x)
  one_generated (Err (error.Fault f a)) (Err (error.Fault g b)) p q x y =
      faults_same f g a b (one_first (generated count) root_name f g a b x y)
  one_generated _ _ p q x y = cc
