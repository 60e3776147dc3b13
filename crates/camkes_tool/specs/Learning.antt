-- What a call may learn of the files: no more than those that its command names or meets, up to their limits and a byte more.
use Rattle.std.specs.Prelude.{[], ◌∷◌, Option, Some, None}
use Rattle.camkes_tool.specs.Below.{AlikeAsRead, AlikeInBuild, AlikeInInputs, AlikeInSource, Audit, Certify, Check, Command, Compile, Contents, Explain, Generate, Plan, Replay, Sections}
use Rattle.command_words.specs.declared.command.Command.TheVariants.{List as ListOf}

-- both contents have the same, as far as it is read, in the files that a command looks at; generating, and words that are no
-- command, look at none
abbrev pub AlikeInCommand : Option Command → Contents → Contents → Type 0
AlikeInCommand None m n = Unit {0}
AlikeInCommand (Some (Compile root base)) m n = AlikeInBuild root m n
AlikeInCommand (Some (Check cdl policy cert)) m n = AlikeInInputs (cdl ∷ policy ∷ cert ∷ []) m n
AlikeInCommand (Some (ListOf root)) m n = AlikeInSource root m n
AlikeInCommand (Some (Explain root from authority to)) m n = AlikeInSource root m n
AlikeInCommand (Some (Replay cdl policy steps)) m n = AlikeInInputs (cdl ∷ policy ∷ steps ∷ []) m n
AlikeInCommand (Some (Generate count)) m n = Unit {0}
AlikeInCommand (Some (Audit cdl policy)) m n = AlikeInInputs (cdl ∷ policy ∷ []) m n
AlikeInCommand (Some (Certify cdl policy)) m n = AlikeInInputs (cdl ∷ policy ∷ []) m n
AlikeInCommand (Some (Sections elf)) m n = AlikeAsRead elf m n
AlikeInCommand (Some (Plan cdl untypeds)) m n = AlikeInInputs (cdl ∷ untypeds ∷ []) m n
