-- What is answered to the words:
--
--   fault LINE          the bytes of a fault's line, in their file
--   lint ROOT           the first fault of a source, as editors read it
--   graph POLICY        the picture of a policy
--   picture ROOT        the picture of what a source assigns
--   overview ROOT       the same, of the labels that two domains touch
--   flow POLICY FROM TO a shortest chain of its edges by which one label can come to influence another
--   flows POLICY        for each of its labels those that can come to influence it
--   reasons ROOT        the graph of what a source assigns, with the reason of each edge
--   table ROOT LABEL    the tables of a domain of a compiled source
--   page ROOT           the page of a compiled source
use Rattle.std.specs.Prelude.{◌≡◌, ◌⊎◌, ◌≤◌, ℕ, Bool, true, false, if◌then◌else◌, List, [], ◌∷◌, codes, length, Option, Some, None, IfOk, Result, Ok, Err}
use Rattle.std.specs.FinMap as map
use Rattle.view_tool.specs.Below.{Build, Fault, FrontEnd, IsUtf8, Named, Policy, TextFault, bytes_eq, domain_called, graph_of, picture_of}
use Rattle.arch_compile.specs.Compiled.{IsCompiled}
use Rattle.cam_base.specs.declared.error.Refused.{Refused as Refusal}
use Rattle.cam_base.specs.declared.error.Refused.TheVariants as refused
use Rattle.cam_io.specs.Causes.{Rose}
use Rattle.cam_io.specs.Contents.{Contents}
use Rattle.cam_io.specs.Whole.{IsWhole}
use Rattle.cam_io.specs.declared.whole.WholeError.{WholeError}
use Rattle.cam_io.specs.declared.whole.WholeError.TheVariants as whole
use Rattle.domain_table.specs.Tables.{tables_of}
use Rattle.cam_base.specs.declared.error.NoMemory.{NoMemory as Want}
use Rattle.label_flow.specs.Told.{AreLines, IsTold}
use Rattle.label_flow.specs.declared.told.Told.{Told}
use Rattle.label_flow.specs.declared.told.Told.TheVariants as told
use Rattle.front_end.specs.Fronts.{IsFront}
use Rattle.cam_base.specs.Unread.{SourceError}
use Rattle.cam_base.specs.declared.error.Unread.TheVariants as error
use Rattle.policy_text.specs.PolicyTexts.{IsPolicyRead}
use Rattle.view_tool.specs.Pages.{Page, page_text}
use Rattle.view_tool.specs.Shapes.{overview, shapes_of}
use Rattle.view_text.specs.Spots.{limit, lint_line, spot_of, stands_in, view_of}
use Rattle.view_tool.specs.Lines.{fault_line, fault_words, no_line, read_fault, refusal, text_fault_line}
use Rattle.view_tool.specs.Notes.{AreNotes, ArePageNotes, of_build, of_front}
use Rattle.view_tool.specs.Words.{Gives}
use Rattle.view_tool.specs.declared.answer.Answer.{Answer}
use Rattle.view_tool.specs.declared.answer.Answer.TheVariants.{Shown, Faulty, Refused, NoFlow, Usage, ReadFault, NoMemory}
use Rattle.view_tool.specs.declared.build.Asked.{Asked}
use Rattle.view_tool.specs.declared.build.Asked.TheVariants as asked
use Rattle.view_tool.specs.declared.source.Drawing.{Drawing}
use Rattle.view_tool.specs.declared.source.Drawing.TheVariants as drawing

-- ---- of a file

-- the bytes of a file, or why there are none
pub record IsRead (contents : Contents) (before now : List ℕ → ℕ) (file : List ℕ) (r : Result (List ℕ) WholeError) : Type 0 where
  pub limited : IfOk r (λ bytes. length bytes ≤ limit)
  pub rose : r ≡ Err whole.ReadFault → Rose (before file) (now file)
  pub whole_is : IsWhole (map.get contents file) limit r

-- why there are none, by its line
abbrev pub Hinders : List ℕ → WholeError → Answer → Type 0
Hinders file whole.Absent answer = Gives (Refused (refusal file (codes "no such file"))) answer
Hinders file whole.TooLong answer = Gives (Refused (refusal file (codes "too long"))) answer
Hinders file whole.ReadFault answer = Gives (ReadFault (read_fault file)) answer
Hinders file whole.NoMemory answer = answer ≡ NoMemory

-- the bytes are answered as is said
abbrev pub AnswersFile : List ℕ → (List ℕ → Answer → Type 0) → Result (List ℕ) WholeError → Answer → Type 0
AnswersFile file says (Ok bytes) answer = says bytes answer
AnswersFile file says (Err e) answer = Hinders file e answer

abbrev pub OfFile : Contents → (List ℕ → ℕ) → (List ℕ → ℕ) → List ℕ → (List ℕ → Answer → Type 0) → Answer → Type 0
OfFile contents before now file says answer =
    (r : Result (List ℕ) WholeError) × IsRead contents before now file r × AnswersFile file says r answer

-- the bytes of a place are shown, where the file has it
abbrev pub IsView : List ℕ → ℕ × ℕ → List ℕ → List ℕ → Answer → Type 0
IsView file range rest bytes answer =
    Gives
    (if stands_in range bytes then Shown (view_of file range rest bytes) else Refused (refusal file (codes "no such place")))
    answer

abbrev pub FitsFault : Contents → (List ℕ → ℕ) → (List ℕ → ℕ) → Option (List ℕ × ((ℕ × ℕ) × List ℕ)) → Answer → Type 0
FitsFault contents before now None answer = Gives (Refused no_line) answer
FitsFault contents before now (Some x) answer = OfFile contents before now x.0 (IsView x.0 x.1.0 x.1.1) answer

-- a policy is drawn, and its text's first fault is told
abbrev pub Draws : List ℕ → Result Policy (Refusal TextFault) → Answer → Type 0
Draws file (Ok policy) answer = Gives (Shown (picture_of policy [])) answer
Draws file (Err (refused.Fault f)) answer = Gives (Refused (text_fault_line file f)) answer
Draws file (Err refused.NoMemory) answer = answer ≡ NoMemory

abbrev pub IsDrawn : List ℕ → List ℕ → Answer → Type 0
IsDrawn file bytes answer = (r : Result Policy (Refusal TextFault)) × IsPolicyRead bytes r × Draws file r answer

-- what flows from one label to another is shown, or why it can't be
abbrev pub ShowsFlow : List ℕ → List ℕ → Told → Answer → Type 0
ShowsFlow from to (told.Flows text) answer = answer ≡ Shown text
ShowsFlow from to told.NoFlow answer = answer ≡ NoFlow
ShowsFlow from to told.NoFrom answer = Gives (Refused (refusal from (codes "no such label"))) answer
ShowsFlow from to told.NoTo answer = Gives (Refused (refusal to (codes "no such label"))) answer

abbrev pub OfFlow : List ℕ → List ℕ → Result Told Want → Answer → Type 0
OfFlow from to (Ok what) answer = ShowsFlow from to what answer
OfFlow from to (Err want) answer = answer ≡ NoMemory

abbrev pub AnswersFlow : Policy → List ℕ → List ℕ → Answer → Type 0
AnswersFlow policy from to answer = (r : Result Told Want) × IfOk r (IsTold policy from to) × OfFlow from to r answer

-- a line for each label is shown
abbrev pub ShowsText : Result (List ℕ) Want → Answer → Type 0
ShowsText (Ok text) answer = answer ≡ Shown text
ShowsText (Err want) answer = answer ≡ NoMemory

abbrev pub AnswersFlows : Policy → Answer → Type 0
AnswersFlows policy answer =
    (r : Result (List ℕ) Want) × IfOk r (AreLines policy.edges policy.labels policy.labels) × ShowsText r answer

-- a policy is answered as is said, and its text's first fault is told
abbrev pub OfPolicy : List ℕ → (Policy → Answer → Type 0) → Result Policy (Refusal TextFault) → Answer → Type 0
OfPolicy file says (Ok policy) answer = says policy answer
OfPolicy file says (Err (refused.Fault f)) answer = Gives (Refused (text_fault_line file f)) answer
OfPolicy file says (Err refused.NoMemory) answer = answer ≡ NoMemory

abbrev pub IsFlow : List ℕ → List ℕ → List ℕ → List ℕ → Answer → Type 0
IsFlow file from to bytes answer =
    (r : Result Policy (Refusal TextFault)) × IsPolicyRead bytes r × OfPolicy file (λ policy. AnswersFlow policy from to) r answer

abbrev pub IsFlows : List ℕ → List ℕ → Answer → Type 0
IsFlows file bytes answer = (r : Result Policy (Refusal TextFault)) × IsPolicyRead bytes r × OfPolicy file AnswersFlows r answer

-- ---- of a source

-- why there is nothing of a source, by its line
abbrev pub Refuses : SourceError → Answer → Type 0
Refuses (error.Fault fault file) answer = Gives (Refused (fault_line file fault)) answer
Refuses (error.ReadFault file) answer = Gives (ReadFault (read_fault file)) answer
Refuses error.NoMemory answer = answer ≡ NoMemory

-- what a source assigns is drawn with its notes
abbrev pub Explains : FrontEnd → Answer → Type 0
Explains f (Shown text) = (notes : List (List ℕ)) × AreNotes (of_front f) f.policy.edges notes × (text ≡ graph_of f.policy notes)
Explains f NoMemory = Unit {0}
Explains f _ = ⊥

-- the picture of a source's policy without what fewer than two domains touch
abbrev pub overview_of : FrontEnd → List ℕ
overview_of f = picture_of f.policy (overview (shapes_of f.flat f.policy.labels) f.policy.edges)

-- what a source assigns is drawn
abbrev pub DrawsFront : Drawing → FrontEnd → Answer → Type 0
DrawsFront drawing.Reasons f answer = Explains f answer
DrawsFront drawing.Picture f answer = Gives (Shown (picture_of f.policy (shapes_of f.flat f.policy.labels))) answer
DrawsFront drawing.Overview f answer = Gives (Shown (overview_of f)) answer

abbrev pub AnswersFront : Drawing → Result FrontEnd SourceError → Answer → Type 0
AnswersFront d (Ok f) answer = DrawsFront d f answer
AnswersFront d (Err e) answer = Refuses e answer

abbrev pub FitsFront : Contents → (List ℕ → ℕ) → (List ℕ → ℕ) → List ℕ → Drawing → Answer → Type 0
FitsFront contents before now root d answer =
    (r : Result FrontEnd SourceError) × IsFront root contents before now r × AnswersFront d r answer

-- ---- of a compiled source

-- what gives names in a build
abbrev pub named : Build → Named
named b = record { source = b.meaning.source; flat = b.meaning.flat; spec = b.spec }

-- the tables of the domain with this label are shown, where there is one
abbrev pub Tabled : Build → List ℕ → Option ℕ → Answer → Type 0
Tabled b label None answer = Gives (Refused (refusal label (codes "no such domain"))) answer
Tabled b label (Some domain) answer = Gives (Shown (tables_of (named b) b.map domain label)) answer

-- what the page of a build tells of
abbrev pub page_of : List ℕ → Build → List (List ℕ) → Page
page_of root b notes =
    record { root = root; names = named b; settled = b.meaning.settled; map = b.map; policy = b.policy; notes = notes }

-- the page is shown, with its notes
abbrev pub Assesses : List ℕ → Build → Answer → Type 0
Assesses root b (Shown text) =
    (notes : List (List ℕ)) × ArePageNotes (of_build b) notes × (text ≡ page_text (page_of root b notes))
Assesses root b NoMemory = Unit {0}
Assesses root b _ = ⊥

-- what is wanted of a source that is compiled: the tables of the domain with this label, its page, or its first fault
pub data Wanted : Type 0 where
  tables : List ℕ → Wanted
  page : Wanted
  fault : Wanted

abbrev pub wanted : Asked → Wanted
wanted (asked.Table label) = tables label.now
wanted asked.Page = page
wanted asked.Lint = fault

-- where nothing is refused, no fault is shown
abbrev pub ShowsBuild : List ℕ → Wanted → Build → Answer → Type 0
ShowsBuild root (tables label) b answer = Tabled b label (domain_called b.meaning.flat label) answer
ShowsBuild root page b answer = Assesses root b answer
ShowsBuild root fault b answer = answer ≡ Shown []

-- a fault in a file that isn't read whole, as editors read it: at the file's beginning
abbrev pub LintsUnread : List ℕ → Fault → WholeError → Answer → Type 0
LintsUnread file f whole.Absent answer = Gives (Faulty (lint_line file 0 (fault_words f) [])) answer
LintsUnread file f whole.TooLong answer = Gives (Faulty (lint_line file 0 (fault_words f) [])) answer
LintsUnread file f whole.ReadFault answer = Gives (ReadFault (read_fault file)) answer
LintsUnread file f whole.NoMemory answer = answer ≡ NoMemory

abbrev pub LintsBytes : List ℕ → Fault → Result (List ℕ) WholeError → Answer → Type 0
LintsBytes file f (Ok bytes) answer = Gives (Faulty (lint_line file f.place.first (fault_words f) bytes)) answer
LintsBytes file f (Err e) answer = LintsUnread file f e answer

abbrev pub LintsFile : Contents → (List ℕ → ℕ) → (List ℕ → ℕ) → List ℕ → Fault → Answer → Type 0
LintsFile contents before now file f answer =
    (r : Result (List ℕ) WholeError) × IsRead contents before now file r × LintsBytes file f r answer

-- no file has a name that is no text
abbrev pub LintsFault : Contents → (List ℕ → ℕ) → (List ℕ → ℕ) → List ℕ → Fault → Answer → Type 0
LintsFault contents before now file f answer =
    (IsUtf8 file × LintsFile contents before now file f answer)
    ⊎ (¬ (IsUtf8 file) × Gives (Faulty (lint_line file 0 (fault_words f) [])) answer)

abbrev pub Lints : Contents → (List ℕ → ℕ) → (List ℕ → ℕ) → SourceError → Answer → Type 0
Lints contents before now (error.Fault f file) answer = LintsFault contents before now file f answer
Lints contents before now (error.ReadFault file) answer = Gives (ReadFault (read_fault file)) answer
Lints contents before now error.NoMemory answer = answer ≡ NoMemory

-- why there is nothing of a source, as it is asked
abbrev pub RefusesAs : Contents → (List ℕ → ℕ) → (List ℕ → ℕ) → Wanted → SourceError → Answer → Type 0
RefusesAs contents before now (tables label) e answer = Refuses e answer
RefusesAs contents before now page e answer = Refuses e answer
RefusesAs contents before now fault e answer = Lints contents before now e answer

abbrev pub AnswersBuild : Contents → (List ℕ → ℕ) → (List ℕ → ℕ) → List ℕ → Wanted → Result Build SourceError → Answer → Type 0
AnswersBuild contents before now root w (Ok b) answer = ShowsBuild root w b answer
AnswersBuild contents before now root w (Err e) answer = RefusesAs contents before now w e answer

abbrev pub FitsBuild : Contents → (List ℕ → ℕ) → (List ℕ → ℕ) → List ℕ → Wanted → Answer → Type 0
FitsBuild contents before now root w answer =
    (r : Result Build SourceError) × IsCompiled root contents before now r × AnswersBuild contents before now root w r answer

-- ---- of words

-- of two words, by which command over a root the first is
abbrev pub FitsRoot : Bool → Bool → Bool → Bool → Bool → Contents → (List ℕ → ℕ) → (List ℕ → ℕ) → List ℕ → Answer → Type 0
FitsRoot true is_picture is_overview is_lint is_page contents before now root answer =
    FitsFront contents before now root drawing.Reasons answer
FitsRoot false true is_overview is_lint is_page contents before now root answer =
    FitsFront contents before now root drawing.Picture answer
FitsRoot false false true is_lint is_page contents before now root answer =
    FitsFront contents before now root drawing.Overview answer
FitsRoot false false false true is_page contents before now root answer = FitsBuild contents before now root fault answer
FitsRoot false false false false true contents before now root answer = FitsBuild contents before now root page answer
FitsRoot false false false false false contents before now root answer = answer ≡ Usage

abbrev pub OfRoot : List ℕ → Contents → (List ℕ → ℕ) → (List ℕ → ℕ) → List ℕ → Answer → Type 0
OfRoot word = FitsRoot (bytes_eq word (codes "reasons")) (bytes_eq word (codes "picture")) (bytes_eq word (codes "overview"))
    (bytes_eq word (codes "lint")) (bytes_eq word (codes "page"))

-- of two words, by which other command the first is
abbrev pub FitsWord : Bool → Bool → Bool → List ℕ → Contents → (List ℕ → ℕ) → (List ℕ → ℕ) → List ℕ → Answer → Type 0
FitsWord true is_graph is_flows word contents before now line answer = FitsFault contents before now (spot_of line) answer
FitsWord false true is_flows word contents before now file answer = OfFile contents before now file (IsDrawn file) answer
FitsWord false false true word contents before now file answer = OfFile contents before now file (IsFlows file) answer
FitsWord false false false word contents before now root answer = OfRoot word contents before now root answer

-- of three words, by whether the first is the command
abbrev pub FitsWords : Bool → Contents → (List ℕ → ℕ) → (List ℕ → ℕ) → List ℕ → List ℕ → Answer → Type 0
FitsWords true contents before now root label answer = FitsBuild contents before now root (tables label) answer
FitsWords false contents before now root label answer = answer ≡ Usage

-- of four words, by whether the first is the command
abbrev pub FitsFlow : Bool → Contents → (List ℕ → ℕ) → (List ℕ → ℕ) → List ℕ → List ℕ → List ℕ → Answer → Type 0
FitsFlow true contents before now file from to answer = OfFile contents before now file (IsFlow file from to) answer
FitsFlow false contents before now file from to answer = answer ≡ Usage

-- the answer fits the words, the files, and the counts of failed reads before and now; no other words ask for anything
abbrev pub Fits : List (List ℕ) → Contents → (List ℕ → ℕ) → (List ℕ → ℕ) → Answer → Type 0
Fits [] contents before now answer = answer ≡ Usage
Fits (word ∷ []) contents before now answer = answer ≡ Usage
Fits (word ∷ what ∷ []) contents before now answer =
    FitsWord (bytes_eq word (codes "fault")) (bytes_eq word (codes "graph")) (bytes_eq word (codes "flows")) word contents
    before now what answer
Fits (word ∷ root ∷ label ∷ []) contents before now answer =
    FitsWords (bytes_eq word (codes "table")) contents before now root label answer
Fits (word ∷ file ∷ from ∷ to ∷ []) contents before now answer =
    FitsFlow (bytes_eq word (codes "flow")) contents before now file from to answer
Fits (word ∷ file ∷ from ∷ to ∷ more ∷ rest) contents before now answer = answer ≡ Usage
