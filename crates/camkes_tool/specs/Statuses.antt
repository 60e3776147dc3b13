-- Which status comes where contents are told, and neither a read nor an output failed in the call:
--
--   no command             2
--   compile, list          0 where no fault stands in the source, 1 where one does
--   explain                0 where the triple is assigned, 3 where it isn't, 1 where a fault stands in the source
--   generate               0 where no fault stands in the generated files, 1 where one does
--   check                  0 where the rules hold, 3 where one doesn't, 1 where a fault of an input is told
--   replay                 0 where all steps are legal, 3 where one isn't, 1 where a fault of an input is told
--   audit, certify, plan   0 where there is a report, a certificate or a plan, 1 where a fault of an input is told
--   sections               0 where there is a table, 1 where a fault of the file is told
--
-- In place of each may come 6, want of memory. No two of the reasons stand together (`statuses_are_exact` in src/laws.rt), so
-- each status but 6 comes exactly where its reason stands.
use Rattle.std.specs.Prelude.{◌≡◌, ◌⊎◌, ℕ, Bool, true, List, Option, Some, None, Result, Ok, Err, if◌then◌else◌}
use Rattle.camkes_tool.specs.Below.{Audit, Certify, Check, Command, Compile, Contents, Explain, Fault, Generate, InputError, InputFault, IsAudited, IsCertified, IsChecked, IsExplained, IsFirstFault, IsListed, IsLoaded, IsPlanned, IsRun, IsTabled}
use Rattle.camkes_tool.specs.Below.{Outcome, Plan, Replay, Rose, Sections, SourceError, is_assigned, is_well}
use Rattle.adl_ast.specs.declared.source.Source.{Source}
use Rattle.arch_compile.specs.LayoutFaults.{first_fault, found_beside}
use Rattle.command_words.specs.declared.command.Command.TheVariants.{List as ListOf}
use Rattle.cam_base.specs.declared.error.Unread.TheVariants as unread
use Rattle.camkes_tool.specs.Generated.{IsGenerated}

-- no read failed, of any file
abbrev pub NoneRose : (List ℕ → ℕ) → (List ℕ → ℕ) → Type 0
NoneRose before now = (file : List ℕ) → ¬ Rose (before file) (now file)

-- the root's source is loaded, and no fault stands in it or in its section tables
abbrev pub HasNoFault : Contents → List ℕ → Type 0
HasNoFault m root =
    (source : Source) × IsLoaded m root (Ok source) × (first_fault source (found_beside m source) ≡ None)

-- a fault stands in the root's source: in the turn of one of its files, or in the source that is loaded, or in its section tables
abbrev pub HasFault : Contents → List ℕ → Type 0
HasFault m root = (fault : Fault) × (file : List ℕ) × IsFirstFault root m fault file

-- the status, and why it is this one
abbrev pub IsStatusOf : Contents → List ℕ → ℕ → Type 0
IsStatusOf m root status = ((status ≡ 0) × HasNoFault m root) ⊎ (((status ≡ 1) × HasFault m root) ⊎ (status ≡ 6))

abbrev pub IsStatusOfTexts : (Result Outcome InputError → Type 0) → ℕ → Type 0
IsStatusOfTexts asked status =
    ((outcome : Outcome) × asked (Ok outcome) × (status ≡ (if is_well outcome then 0 else 3)))
    ⊎ (((fault : InputFault) × (file : List ℕ) × asked (Err (unread.Fault fault file)) × (status ≡ 1)) ⊎ (status ≡ 6))

abbrev pub IsStatusOfSource : {A : Type 0} → (Result A SourceError → Type 0) → (A → Bool) → ℕ → Type 0
IsStatusOfSource {A} asked well status =
    ((found : A) × asked (Ok found) × (status ≡ (if well found then 0 else 3)))
    ⊎ (((fault : Fault) × (file : List ℕ) × asked (Err (unread.Fault fault file)) × (status ≡ 1)) ⊎ (status ≡ 6))

-- the status of a call with these counts of read faults before and after
abbrev pub IsStatus : Contents → (List ℕ → ℕ) → (List ℕ → ℕ) → Option Command → ℕ → Type 0
IsStatus m before now None status = (status ≡ 2) ⊎ (status ≡ 6)
IsStatus m before now (Some (Compile root base)) status = IsStatusOf m root status
IsStatus m before now (Some (Check cdl policy cert)) status = IsStatusOfTexts (IsChecked m before now cdl policy cert) status
IsStatus m before now (Some (ListOf root)) status = IsStatusOfSource (IsListed root m before now) (λ listing. true) status
IsStatus m before now (Some (Explain root from authority to)) status =
    IsStatusOfSource (IsExplained from authority to root m before now) is_assigned status
IsStatus m before now (Some (Replay cdl policy steps)) status = IsStatusOfTexts (IsRun m before now cdl policy steps) status
IsStatus m before now (Some (Generate count)) status = IsStatusOfSource (IsGenerated count) (λ summary. true) status
IsStatus m before now (Some (Audit cdl policy)) status = IsStatusOfTexts (IsAudited m before now cdl policy) status
IsStatus m before now (Some (Certify cdl policy)) status = IsStatusOfTexts (IsCertified m before now cdl policy) status
IsStatus m before now (Some (Sections elf)) status = IsStatusOfTexts (IsTabled m before now elf) status
IsStatus m before now (Some (Plan cdl untypeds)) status = IsStatusOfTexts (IsPlanned m before now cdl untypeds) status
