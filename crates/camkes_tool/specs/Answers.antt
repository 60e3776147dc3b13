-- When each answer comes, and what it does to the outputs.
use Rattle.std.specs.Prelude.{◌≡◌, ◌≤◌, ◌⊎◌, ℕ, Bool, true, false, if◌then◌else◌, List, [], ◌∷◌, map, Option, None, Some, Result, Ok, Err, String, string_bytes}
use Rattle.camkes_tool.specs.Below.{Act, AreNamedBy, Audit, Audited, Build, Certify, Check, Command, Compile, Contents, CutShort, Explain, Fault, Generate, InputError, InputFault, IsAudited, IsBuildOf, IsCertified, IsChecked, IsExplained}
use Rattle.camkes_tool.specs.Below.{IsFirstFault, IsListed, IsPlanned, IsRun, IsTabled, IsUnread, Listing, Outcome, Plan, Planned, Replay, Rose, Sections, Sink, SourceError, Summary, Write, after, answer_text, but_choice, is_assigned, is_well}
use Rattle.camkes_tool.specs.Below.{listing_text, text_of, texts_script}
use Rattle.command_words.specs.Lines.{usage_line}
use Rattle.command_words.specs.Words.{read_words}
use Rattle.command_words.specs.declared.command.Command.TheVariants.{List as ListOf}
use Rattle.cam_base.specs.declared.error.Unread.TheVariants as unread
use Rattle.camkes_tool.specs.Generated.{IsGenerated, generated_text}
use Rattle.explain.specs.declared.answer.Answer.{Answer as Reply}
use Rattle.text_commands.specs.Lines as texts
use Rattle.camkes_tool.specs.Lines.{fault_line, read_fault_line, no_memory_line}
use Rattle.camkes_tool.specs.declared.answer.Answer.{Answer}
use Rattle.camkes_tool.specs.declared.answer.Answer.TheVariants.{Compiled, Listed, Explained, Told, Generated, Faulted, Refused, Usage, ReadFault, NoMemory}

-- The answer is right for this root and base, these files, and these counts of read faults before and now.
abbrev pub FitsCompiled : List ℕ → List ℕ → Contents → (List ℕ → ℕ) → (List ℕ → ℕ) → Answer → Type 0
FitsCompiled root base contents before now (Compiled names b) = AreNamedBy base names × IsBuildOf root contents b
FitsCompiled root base contents before now (Faulted file fault) = IsFirstFault root contents fault file
FitsCompiled root base contents before now (ReadFault file) = IsUnread root contents file × Rose (before file) (now file)
FitsCompiled root base contents before now NoMemory = Unit {0}
FitsCompiled root base contents before now _ = ⊥

-- words that are no command are answered by the usage line, but for want of memory
abbrev pub IsUsage : Answer → Type 0
IsUsage Usage = Unit {0}
IsUsage NoMemory = Unit {0}
IsUsage _ = ⊥

-- the answer of a command over texts
abbrev pub FitsTexts : (Result Outcome InputError → Type 0) → Answer → Type 0
FitsTexts asked (Told outcome) = asked (Ok outcome)
FitsTexts asked (Refused file fault) = asked (Err (unread.Fault fault file))
FitsTexts asked (ReadFault file) = asked (Err (unread.ReadFault file))
FitsTexts asked NoMemory = Unit {0}
FitsTexts asked _ = ⊥

-- what may come in place of what a command over a source found
abbrev pub FitsRefused : (SourceError → Type 0) → Answer → Type 0
FitsRefused refused (Faulted file fault) = refused (unread.Fault fault file)
FitsRefused refused (ReadFault file) = refused (unread.ReadFault file)
FitsRefused refused NoMemory = Unit {0}
FitsRefused refused _ = ⊥

-- the answer of a listing, of an explanation, and of generating
abbrev pub FitsListed : (Result Listing SourceError → Type 0) → Answer → Type 0
FitsListed asked (Listed listing) = asked (Ok listing)
FitsListed asked answer = FitsRefused (λ e. asked (Err e)) answer

abbrev pub FitsExplained : (Result Reply SourceError → Type 0) → Answer → Type 0
FitsExplained asked (Explained answer) = asked (Ok answer)
FitsExplained asked answer = FitsRefused (λ e. asked (Err e)) answer

abbrev pub FitsGenerated : (Result Summary SourceError → Type 0) → Answer → Type 0
FitsGenerated asked (Generated summary) = asked (Ok summary)
FitsGenerated asked answer = FitsRefused (λ e. asked (Err e)) answer

-- The answer is right for what the words ask, which is a command or none. In given contents there is one such answer, aside from
-- read faults and want of memory (`answers_are_one` in src/laws.rt), so each comes exactly where it says.
abbrev pub Fits : Option Command → Contents → (List ℕ → ℕ) → (List ℕ → ℕ) → Answer → Type 0
Fits None contents before now answer = IsUsage answer
Fits (Some (Compile root base)) contents before now answer = FitsCompiled root base contents before now answer
Fits (Some (Check cdl policy cert)) contents before now answer =
    FitsTexts (IsChecked contents before now cdl policy cert) answer
Fits (Some (ListOf root)) contents before now answer = FitsListed (IsListed root contents before now) answer
Fits (Some (Explain root from authority to)) contents before now answer =
    FitsExplained (IsExplained from authority to root contents before now) answer
Fits (Some (Replay cdl policy steps)) contents before now answer =
    FitsTexts (IsRun contents before now cdl policy steps) answer
Fits (Some (Generate count)) contents before now answer = FitsGenerated (IsGenerated count) answer
Fits (Some (Audit cdl policy)) contents before now answer = FitsTexts (IsAudited contents before now cdl policy) answer
Fits (Some (Certify cdl policy)) contents before now answer = FitsTexts (IsCertified contents before now cdl policy) answer
Fits (Some (Sections elf)) contents before now answer = FitsTexts (IsTabled contents before now elf) answer
Fits (Some (Plan cdl untypeds)) contents before now answer = FitsTexts (IsPlanned contents before now cdl untypeds) answer

-- the commands that may choose
abbrev pub MayChoose : Option Command → Type 0
MayChoose (Some (Audit cdl policy)) = Unit {0}
MayChoose (Some (Plan cdl untypeds)) = Unit {0}
MayChoose _ = ⊥

-- the command that the program's words ask for, if they are one
abbrev pub command_of : {Z : Type 0} → List (String Z) → Option Command
command_of words = read_words (map string_bytes words)

-- the status, which is 5 where an output failed
abbrev pub status_of : Answer → ℕ
status_of (Compiled names b) = 0
status_of (Listed listing) = 0
status_of (Generated summary) = 0
status_of (Explained answer) = if is_assigned answer then 0 else 3
status_of (Told outcome) = if is_well outcome then 0 else 3
status_of (Faulted file fault) = 1
status_of (Refused file fault) = 1
status_of Usage = 2
status_of (ReadFault file) = 4
status_of NoMemory = 6

-- the build of an answer that writes one
abbrev pub compiled_as : Answer → Option Build
compiled_as (Compiled names b) = Some b
compiled_as _ = None

-- what an answer says on standard output
abbrev pub said_as : Answer → Option (List ℕ)
said_as (Listed listing) = Some (listing_text listing)
said_as (Explained answer) = Some (answer_text answer)
said_as (Told outcome) = Some (text_of outcome)
said_as (Generated summary) = Some (generated_text summary)
said_as _ = None

-- the fault of an answer that names one, and its file
abbrev pub faulted_as : Answer → Option (List ℕ × Fault)
faulted_as (Faulted file fault) = Some (file, fault)
faulted_as _ = None

-- the fault of an input of an answer that names one, and its file
abbrev pub refused_as : Answer → Option (List ℕ × InputFault)
refused_as (Refused file fault) = Some (file, fault)
refused_as _ = None

-- what a command over texts found, but for what it may choose: the steps of an audit, and the places of a plan
abbrev pub found_as : Answer → Option Outcome
found_as (Told outcome) = Some (but_choice outcome)
found_as _ = None

-- whether there is such a choice
abbrev pub leaves_choice : Outcome → Bool
leaves_choice (Audited report spec labels) = true
leaves_choice (Planned plan spec) = true
leaves_choice _ = false

abbrev pub is_chosen : Answer → Bool
is_chosen (Told outcome) = leaves_choice outcome
is_chosen _ = false

-- whether an answer may come in place of another: a read fault, or want of memory
abbrev pub yields : Answer → Bool
yields (ReadFault file) = true
yields NoMemory = true
yields _ = false

-- what is done
abbrev pub script : Answer → List Act
script (Compiled names b) = texts_script names b
script (Listed listing) = Write 0 (listing_text listing) ∷ []
script (Explained answer) = Write 0 (answer_text answer) ∷ []
script (Told outcome) = Write 0 (text_of outcome) ∷ []
script (Generated summary) = Write 0 (generated_text summary) ∷ []
script (Faulted file fault) = Write 1 (fault_line file fault) ∷ []
script (Refused file fault) = Write 1 (texts.fault_line file fault) ∷ []
script Usage = Write 1 usage_line ∷ []
script (ReadFault file) = Write 1 (read_fault_line file) ∷ []
script NoMemory = Write 1 no_memory_line ∷ []

-- Two answers are one: they have one status and one script, and write one build or name one fault. A report of an audit or a
-- plan is one but for its choice: of an audit the system, the labels and the edges are one, and of a plan the system.
pub record AreOne (a b : Answer) : Type 0 where
  pub status : status_of a ≡ status_of b
  pub script : is_chosen a ≡ false → script a ≡ script b
  pub compiled : compiled_as a ≡ compiled_as b
  pub faulted : faulted_as a ≡ faulted_as b
  pub refused : refused_as a ≡ refused_as b
  pub found : found_as a ≡ found_as b

-- The status is the answer's and all of its script is done; or it is 5, the outputs' count rose, and the script was cut
-- short.
pub record Tells (answer : Answer) (status : ℕ) (old new : Sink) (before now : ℕ) : Type 0 where
  pub later : before ≤ now
  pub told : ((status ≡ status_of answer) × (new ≡ after old (script answer)))
      ⊎ ((status ≡ 5) × Rose before now × CutShort old (script answer) new)
