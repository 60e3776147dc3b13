-- The theorem: what the clauses of `run` promise, by their names.
--
-- `compiled`, of a source: where the call ends with status 0, there is a build of the root's source in all contents that are
-- told: no fault stands in it or in its section tables; its four texts are written whole under the names of the base, then the
-- summary, and nothing else. Its slots, its images with their labels, and its map are those of the source. Its policy has just
-- what the connectors of the source assign, and its certificate what locks allow besides; at boot its labels have over others
-- what they are assigned directly, and its threads reach between labels, over every interleaving of steps, exactly what is
-- assigned. The capDL, the policy and the certificate that are written are read back as the build's, and as nothing else; and so
-- threads reach just this in whatever is read of them.
--
-- `listed`, of a source: with status 0 a line is written for each triple that it assigns, and nothing else. `explained`: a reason
-- is written where the words name such a triple, and else that it isn't assigned.
--
-- `checked`, of any texts, whoever wrote them: where `check` ends with status 0, every edge that any run of the capDL's system
-- reaches between different labels is in the policy. `accepted`, of files that hold the texts that are written of a build:
-- `check` says yes.
--
-- Of what other commands print with status 0: `certified`, the least certificate, which is read back, and to which `check` says
-- yes where it does to any; `tabled`, a table, which is read back as the file's image; `audited`, just the edges that runs reach,
-- and steps for which `replay` shows them. Of what is written of a build `certify` prints the certificate that is written, and
-- `audit` the edges that `list` prints.
use Rattle.camkes_tool.specs.Below.{AreNamedBy, Authority, Build, Checked, Contents, Edge, Fault, Holds, InputError, IsAnswer, IsBuildOf, IsCertText, IsChecked, IsLabelling, IsListing, IsPolicyText, IsRun, IsSound, Labels, Listing, Outcome, Policy}
use Rattle.camkes_tool.specs.Below.{Ran, Sink, Spec, Stays, Text, Yes, after, answer_text, appended, canonical, cert_text, is_assigned, listing_text, policy_text, report_text, texts_script}
use Rattle.std.specs.FinMap.{get}
use Rattle.std.specs.Prelude.{◌≡◌, ◌≤◌, ◌⊎◌, ◌↔◌, ◌++◌, ℕ, if◌then◌else◌, List, codes, length, Some, Result, Ok, Err}
use Rattle.cap_model.specs.Tables.{Has}
use Rattle.camkes_tool.specs.AsRead.{HoldsAsRead}
use Rattle.camkes_tool.specs.ReadBack.{AreReadBack}
use Rattle.arch_compile.specs.OfSource.{IsOfSource}
use Rattle.arch_compile.specs.declared.names.TextNames.{TextNames}
use Rattle.cam_base.specs.declared.error.Refused.{Refused}
use Rattle.cam_base.specs.declared.error.Refused.TheVariants as refused
use Rattle.cam_io.specs.Reading.{InAll}
use Rattle.cap_audit.specs.Reports.{IsReport}
use Rattle.cap_audit.specs.declared.report.AuditReport.{AuditReport}
use Rattle.cap_machine.specs.declared.step.Step.{Step}
use Rattle.policy_text.specs.EdgeLines.{LabelNames, apart_lines}
use Rattle.sect_table.specs.TablesBack.{AreBytes}
use Rattle.sect_table.specs.Elf.{Elf}
use Rattle.sect_table.specs.Texts.{table_text}
use Rattle.least_cert.specs.LeastCertificate.{IsLeast}
use Rattle.explain.specs.declared.answer.Answer.{Answer}
use Rattle.sect_table.specs.Tables as tables
use Rattle.sect_table.specs.declared.image.Image.{Image}
use Rattle.source_commands.specs.Assigned.{AnswersWhether, ListsAssigned}
use Rattle.step_text.specs.StepLines.{steps_text}
use Rattle.step_text.specs.StepTexts.{steps_limit}
use Rattle.text_commands.specs.declared.replay.Replayed.TheVariants.{Done}

-- `whole` says which bytes are written; `read_back` and `as_read` speak of these bytes. By the labels that the policy gives to
-- objects, `of_source`, `as_read` and `sound` speak of the same ones.
pub record IsWritten (told : Contents → Type 0) (root base : List ℕ) (old new : Sink) : Type 0 where
  pub build : Build
  pub names : TextNames
  pub made : InAll told (λ m. IsBuildOf root m build)
  pub named : AreNamedBy base names
  pub whole : new ≡ after old (texts_script names build)
  pub of_source : InAll told (λ m. IsOfSource m build)
  pub sound : IsSound build
  pub read_back : AreReadBack build
  pub as_read : HoldsAsRead build

-- A line is written for each triple that the root's source assigns, in order, each once, and nothing else.
pub record IsListWritten (told : Contents → Type 0) (root : List ℕ) (old new : Sink) : Type 0 where
  pub text : List ℕ
  pub whole : new ≡ appended old 0 text
  pub assigned : InAll told (λ m. ListsAssigned root m text)

-- An answer is written, and nothing else. With status 0 it is a reason, and with status 3 that the words name nothing that the
-- root's source assigns.
pub record IsAnswerWritten (told : Contents → Type 0) (root from authority to : List ℕ) (status : ℕ) (old new : Sink)
    : Type 0 where
  pub answer : Answer
  pub status_is : status ≡ (if is_assigned answer then 0 else 3)
  pub whole : new ≡ appended old 0 (answer_text answer)
  pub assigned : InAll told (λ m. AnswersWhether root m from authority to (is_assigned answer))

-- The two files hold the capDL of a system and a policy, by which its objects have these labels.
pub record HoldSystem (m : Contents) (cdl policy : List ℕ) (spec : Spec) (allowed : Policy) (labels : Labels) : Type 0 where
  pub capdl : (bytes : List ℕ) × Holds m cdl bytes × Text bytes spec
  pub text : (bytes : List ℕ) × Holds m policy bytes × IsPolicyText bytes allowed
  pub labelled : IsLabelling spec allowed (Ok labels)

-- The two files hold a system and its policy, and every edge that any run of the system reaches between different labels is in
-- the policy.
pub record IsSafe (m : Contents) (cdl policy : List ℕ) : Type 0 where
  pub spec : Spec
  pub allowed : Policy
  pub labels : Labels
  pub held : HoldSystem m cdl policy spec allowed labels
  pub stays : Stays spec labels.by_object allowed.edges

-- The two files hold the capDL and the policy that are written of this build, which is one of the root's source.
pub record HoldBuild (m : Contents) (cdl policy root : List ℕ) (sources : Contents) (b : Build) : Type 0 where
  pub made : IsBuildOf root sources b
  pub capdl : get m cdl ≡ Some (canonical b.spec)
  pub allowed : get m policy ≡ Some (policy_text b.policy)

-- The three files hold the texts that are written of a build of some source.
pub record HoldTexts (m : Contents) (cdl policy cert : List ℕ) : Type 0 where
  pub root : List ℕ
  pub sources : Contents
  pub build : Build
  pub system : HoldBuild m cdl policy root sources build
  pub certificate : get m cert ≡ Some (cert_text build.cert)

-- the text is what `list` prints of the root's source
abbrev pub IsListText : List ℕ → Contents → List ℕ → Type 0
IsListText root sources text = (listing : Listing) × IsListing root sources listing × (text ≡ listing_text listing)

-- ---- what other commands print

-- `check` of these files says yes, where no read fails
abbrev pub SaysYes : Contents → List ℕ → List ℕ → List ℕ → Type 0
SaysYes m cdl policy cert = (names : LabelNames) × IsChecked m (λ file. 0) (λ file. 0) cdl policy cert (Ok (Checked Yes names))

-- The two files hold a system and its policy, and the edges are the system's least certificate. Their text is read, under this
-- policy, as just them; and `check` says yes to a file that holds it exactly where it says yes to some file. Where the two files
-- are written of a build, the edges are those of its certificate.
pub record IsLeastOf (m : Contents) (cdl policy : List ℕ) (edges : List Edge) : Type 0 where
  pub spec : Spec
  pub allowed : Policy
  pub labels : Labels
  pub held : HoldSystem m cdl policy spec allowed labels
  pub least : IsLeast spec labels.by_object edges
  pub read_back : IsCertText allowed (cert_text edges) edges
  pub decides : (cert : List ℕ) → Holds m cert (cert_text edges)
      → SaysYes m cdl policy cert ↔ ((other : List ℕ) × SaysYes m cdl policy other)
  pub of_build : (root : List ℕ) (sources : Contents) (b : Build) → HoldBuild m cdl policy root sources b → edges ≡ b.cert

-- The least certificate is written, and nothing else.
pub record IsCertificateWritten (told : Contents → Type 0) (cdl policy : List ℕ) (old new : Sink) : Type 0 where
  pub edges : List Edge
  pub whole : new ≡ appended old 0 (cert_text edges)
  pub least : InAll told (λ m. IsLeastOf m cdl policy edges)

-- The image is the file's, and its table is read back as this image, under the name that it is read for.
pub record IsTableOf (m : Contents) (elf : List ℕ) (image : Image) : Type 0 where
  pub bytes : List ℕ
  pub held : Holds m elf bytes
  pub image_is : Elf (codes "image") bytes image
  pub read_back : AreBytes bytes → (file : ℕ) (name : List ℕ) (answer : Result Image (Refused Fault))
      → tables.IsRead file name (table_text image) answer
      → (answer ≡ Ok (record image { name = name })) ⊎ (answer ≡ Err refused.NoMemory)

-- The table of the file's image is written, and nothing else.
pub record IsTableWritten (told : Contents → Type 0) (elf : List ℕ) (old new : Sink) : Type 0 where
  pub image : Image
  pub whole : new ≡ appended old 0 (table_text image)
  pub of_file : InAll told (λ m. IsTableOf m elf image)

-- `replay` of any file that holds the text of these steps says that all of them were made, and its edges are such, but for
-- failed reads and want of memory.
abbrev pub Replays : Contents → (List ℕ → ℕ) → (List ℕ → ℕ) → List ℕ → List ℕ → Spec → LabelNames → List Step
    → (List Edge → Type 0) → Type 0
Replays m before now cdl policy spec names steps AreSuch =
    (file : List ℕ) (answer : Result Outcome InputError) → Holds m file (steps_text spec steps) → IsAnswer answer
    → IsRun m before now cdl policy file answer
    → (edges : List Edge) × (answer ≡ Ok (Ran (Done (length steps) edges) names)) × AreSuch edges

-- The two files hold a system and its policy, whose labels have these names. The report has just the edges between different
-- labels that runs of the system reach. Where its steps are no more than `replay` takes, `replay` makes all of them, and shows
-- each edge behind some front of them. Where the two files are written of a build, the lines of its edges are what `list` prints
-- of the source.
pub record IsReportOf (m : Contents) (cdl policy : List ℕ) (report : AuditReport) (spec : Spec) (names : LabelNames)
    : Type 0 where
  pub allowed : Policy
  pub labels : Labels
  pub held : HoldSystem m cdl policy spec allowed labels
  pub named : names ≡ allowed.labels
  pub reached : IsReport spec labels.by_object report.edges report.steps
  pub of_build : (root : List ℕ) (sources : Contents) (b : Build) → HoldBuild m cdl policy root sources b
      → IsListText root sources (apart_lines names report.edges)
  pub replayed : length report.steps ≤ steps_limit → (before now : List ℕ → ℕ)
      → Replays m before now cdl policy spec names report.steps (λ edges. Unit {0})
  pub shown : length report.steps ≤ steps_limit → (before now : List ℕ → ℕ) (l : ℕ) (a : Authority) (x : ℕ)
      → Has report.edges l a x
      → (front back : List Step) × (report.steps ≡ front ++ back)
      × Replays m before now cdl policy spec names front (λ edges. Has edges l a x)

-- The edges of a report and its steps are written, and nothing else.
pub record IsReportWritten (told : Contents → Type 0) (cdl policy : List ℕ) (old new : Sink) : Type 0 where
  pub report : AuditReport
  pub spec : Spec
  pub names : LabelNames
  pub whole : new ≡ appended old 0 (report_text names spec report)
  pub of_files : InAll told (λ m. IsReportOf m cdl policy report spec names)
