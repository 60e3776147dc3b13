-- The words that steps begin with.
use Rattle.std.specs.Prelude.{ℕ, if◌then◌else◌, List, codes, Option, Some, None}
use Rattle.step_text.specs.Below.{bytes_eq, option_or}
use Rattle.step_text.specs.declared.verb.Verb.{Verb}
use Rattle.step_text.specs.declared.verb.Verb.TheVariants.{Take, Put, Grant, Call, Reply, SetCspace, SetVspace, Map, Bind, Drop, Save, ReplyTo}

-- those that copy capabilities
abbrev pub copying_verb : List ℕ → Option Verb
copying_verb word =
    if bytes_eq word (codes "take") then Some Take
    else if bytes_eq word (codes "put") then Some Put
    else if bytes_eq word (codes "grant") then Some Grant
    else if bytes_eq word (codes "map") then Some Map
    else None

-- those between caller and server
abbrev pub speaking_verb : List ℕ → Option Verb
speaking_verb word =
    if bytes_eq word (codes "call") then Some Call
    else if bytes_eq word (codes "reply") then Some Reply
    else if bytes_eq word (codes "save") then Some Save
    else if bytes_eq word (codes "replyto") then Some ReplyTo
    else None

-- the others
abbrev pub setting_verb : List ℕ → Option Verb
setting_verb word =
    if bytes_eq word (codes "setcspace") then Some SetCspace
    else if bytes_eq word (codes "setvspace") then Some SetVspace
    else if bytes_eq word (codes "bind") then Some Bind
    else if bytes_eq word (codes "drop") then Some Drop
    else None

abbrev pub verb_of : List ℕ → Option Verb
verb_of word = option_or (option_or (copying_verb word) (speaking_verb word)) (setting_verb word)
