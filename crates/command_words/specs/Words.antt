-- The reading of the command line's words.
--
-- The first word is the command, spelled exactly. After it come exactly the words of its table, in order. One `--` may
-- stand at any place after the command and is skipped; every word after it is taken as it is, also a second `--`. Before
-- it no word begins with `-`, except `-` alone. The empty word is a word.
use Rattle.std.specs.Prelude.{ℕ, Bool, false, ◌==◌, ◌&&◌, leb, List, [], ◌∷◌, Option, Some, None, if◌then◌else◌, codes, option_map, option_and_then}
use Rattle.std.specs.List.{list_all}
use Rattle.std.specs.Str.{bytes_eq, IsUtf8}
use Rattle.cam_base.specs.Numbers.{is_digit, number_value}
use Rattle.command_words.specs.declared.command.Command.{Command}
use Rattle.command_words.specs.declared.command.Command.TheVariants.{Compile, Check, List as Listing, Explain, Replay, Generate, Audit, Certify, Sections, Plan}

abbrev pub Word : Type 0
Word = List ℕ

-- a word that begins with `-` and isn't `-` alone
abbrev pub is_dashed : Word → Bool
is_dashed [] = false
is_dashed (b ∷ []) = false
is_dashed (b ∷ c ∷ rest) = b == 45

-- the words that are taken of those after the command; none where a dashed word stands before the `--`
abbrev pub taken : List Word → Option (List Word)
taken [] = Some []
taken (word ∷ rest) =
    if bytes_eq word (codes "--") then Some rest
    else (if is_dashed word then None else option_map (λ more. word ∷ more) (taken rest))

-- commands of one word, of two, of three and of four
abbrev pub of_one : (Word → Command) → List Word → Option Command
of_one make (a ∷ []) = Some (make a)
of_one make _ = None

abbrev pub of_two : (Word → Word → Command) → List Word → Option Command
of_two make (a ∷ b ∷ []) = Some (make a b)
of_two make _ = None

abbrev pub of_three : (Word → Word → Word → Command) → List Word → Option Command
of_three make (a ∷ b ∷ c ∷ []) = Some (make a b c)
of_three make _ = None

abbrev pub of_four : (Word → Word → Word → Word → Command) → List Word → Option Command
of_four make (a ∷ b ∷ c ∷ d ∷ []) = Some (make a b c d)
of_four make _ = None

-- a count: a number from 1 to 1,000, in decimal without leading zeros
abbrev pub counted : Option ℕ → Option ℕ
counted None = None
counted (Some n) = if leb 1 n && leb n 1000 then Some n else None

abbrev pub count_of : Word → Option ℕ
count_of word = if list_all is_digit word then counted (number_value word) else None

-- commands of one count
abbrev pub of_count : (ℕ → Command) → List Word → Option Command
of_count make (a ∷ []) = option_map make (count_of a)
of_count make _ = None

-- the table of commands
abbrev pub command_of : Word → List Word → Option Command
command_of name words =
    if bytes_eq (codes "compile") name then of_two Compile words
    else (if bytes_eq (codes "check") name then of_three Check words
    else (if bytes_eq (codes "list") name then of_one Listing words
    else (if bytes_eq (codes "explain") name then of_four Explain words
    else (if bytes_eq (codes "replay") name then of_three Replay words
    else (if bytes_eq (codes "generate") name then of_count Generate words
    else (if bytes_eq (codes "audit") name then of_two Audit words
    else (if bytes_eq (codes "certify") name then of_two Certify words
    else (if bytes_eq (codes "sections") name then of_one Sections words
    else (if bytes_eq (codes "plan") name then of_two Plan words
    else None)))))))))

-- the command that the words ask for
abbrev pub read_words : List Word → Option Command
read_words [] = None
read_words (name ∷ rest) = option_and_then (command_of name) (taken rest)

-- the words that the command takes are UTF-8
abbrev pub AreUtf8 : Command → Type 0
AreUtf8 (Compile root base) = IsUtf8 root × IsUtf8 base
AreUtf8 (Check cdl policy cert) = IsUtf8 cdl × (IsUtf8 policy × IsUtf8 cert)
AreUtf8 (Listing root) = IsUtf8 root
AreUtf8 (Explain root from authority to) = IsUtf8 root × (IsUtf8 from × (IsUtf8 authority × IsUtf8 to))
AreUtf8 (Replay cdl policy steps) = IsUtf8 cdl × (IsUtf8 policy × IsUtf8 steps)
AreUtf8 (Generate count) = Unit {0}
AreUtf8 (Audit cdl policy) = IsUtf8 cdl × IsUtf8 policy
AreUtf8 (Certify cdl policy) = IsUtf8 cdl × IsUtf8 policy
AreUtf8 (Sections elf) = IsUtf8 elf
AreUtf8 (Plan cdl untypeds) = IsUtf8 cdl × IsUtf8 untypeds
