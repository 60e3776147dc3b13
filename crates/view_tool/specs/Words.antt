-- What is found, and what is written of it.
use Rattle.std.specs.Prelude.{◌≡◌, ℕ, List}
use Rattle.view_tool.specs.Lines.{no_flow, no_memory, usage}
use Rattle.view_tool.specs.declared.answer.Answer.{Answer}
use Rattle.view_tool.specs.declared.answer.Answer.TheVariants.{Shown, Faulty, Refused, NoFlow, Usage, ReadFault, NoMemory}

abbrev pub status_of : Answer → ℕ
status_of (Shown text) = 0
status_of (Faulty text) = 1
status_of (Refused text) = 1
status_of Usage = 2
status_of NoFlow = 3
status_of (ReadFault text) = 4
status_of NoMemory = 6

abbrev pub text_of : Answer → List ℕ
text_of (Shown text) = text
text_of (Faulty text) = text
text_of (Refused text) = text
text_of Usage = usage
text_of NoFlow = no_flow
text_of (ReadFault text) = text
text_of NoMemory = no_memory

-- what is shown, and a fault as editors read it, stand on standard output, and all else on standard error
abbrev pub channel_of : Answer → ℕ
channel_of (Shown text) = 0
channel_of NoFlow = 0
channel_of (Faulty text) = 0
channel_of (Refused text) = 1
channel_of Usage = 1
channel_of (ReadFault text) = 1
channel_of NoMemory = 1

-- the answer is the wanted one, or memory ran out
abbrev pub Gives : Answer → Answer → Type 0
Gives wanted (Shown text) = wanted ≡ Shown text
Gives wanted (Faulty text) = wanted ≡ Faulty text
Gives wanted (Refused text) = wanted ≡ Refused text
Gives wanted NoFlow = wanted ≡ NoFlow
Gives wanted Usage = wanted ≡ Usage
Gives wanted (ReadFault text) = wanted ≡ ReadFault text
Gives wanted NoMemory = Unit {0}
