-- Why a command has no answer.
use Rattle.cam_base.specs.declared.error.Unread.{Unread}
use Rattle.text_commands.specs.declared.fault.InputFault.{InputFault}

abbrev pub InputError : Type 0
InputError = Unread InputFault
