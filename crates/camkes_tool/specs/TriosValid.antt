-- What a build's spec, policy and certificate are to each other, as `check` looks at them.
use Rattle.std.specs.Prelude.{◌≡◌, Ok}
use Rattle.camkes_tool.specs.Below.{Build, IsLabelling, Judged, Labels, Valid, Verdict, Yes, object_labels}

-- The policy gives each object of the spec the label of its line. By whatever labels it gives, the certificate keeps all rules,
-- so that whatever judges them says yes.
pub record IsTrioValid (b : Build) : Type 0 where
  pub labelled : IsLabelling b.spec b.policy (Ok (object_labels b))
  pub valid : (given : Labels) → IsLabelling b.spec b.policy (Ok given) → Valid b.spec given.by_object b.policy.edges b.cert
  pub yes : (given : Labels) (verdict : Verdict) → IsLabelling b.spec b.policy (Ok given)
      → Judged b.spec given.by_object b.policy.edges b.cert verdict → verdict ≡ Yes
