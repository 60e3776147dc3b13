-- What generating answers: the generated files are compiled as any root's are, what is compiled keeps the rules of the checker,
-- and the answer is its summary. There is no failed read of them.
use Rattle.std.specs.Prelude.{◌≡◌, ℕ, List, Result, Ok, Err, codes}
use Rattle.camkes_tool.specs.Below.{Build, IsBuildOf, IsFirstFault, IsLabelling, Judged, Labels, SourceError, Summary, Yes}
use Rattle.cam_base.specs.Texts.{◌⊹◌}
use Rattle.arch_compile.specs.Summary.{summary_line, summary_of}
use Rattle.cam_base.specs.declared.error.Unread.TheVariants as error
use Rattle.camkes_tool.specs.GeneratedFiles.{generated, root_name}

-- the checker's answer for a build's spec, policy and certificate is a yes, and this is the build's summary
pub record IsAccepted (b : Build) (summary : Summary) : Type 0 where
  pub labels : Labels
  pub labelled : IsLabelling b.spec b.policy (Ok labels)
  pub judged : Judged b.spec labels.by_object b.policy.edges b.cert Yes
  pub summed : summary ≡ summary_of b.meaning.flat b.spec b.policy.edges

abbrev pub IsGenerated : ℕ → Result Summary SourceError → Type 0
IsGenerated count (Ok summary) = (b : Build) × IsBuildOf root_name (generated count) b × IsAccepted b summary
IsGenerated count (Err (error.Fault fault file)) = IsFirstFault root_name (generated count) fault file
IsGenerated count (Err (error.ReadFault file)) = ⊥
IsGenerated count (Err error.NoMemory) = Unit {0}

-- what is printed
abbrev pub generated_text : Summary → List ℕ
generated_text summary = summary_line summary ⊹ codes "check yes\n"
