-- The program and its commands as `clap` sees them, and the command that its matches make.
use Rattle.std.specs.Prelude.{ℕ, true, false, List, [], ◌∷◌, map, codes, Option, Some, None, option_map, option_and_then, if◌then◌else◌}
use Rattle.std.specs.Str.{bytes_eq}
use Rattle.clap.specs.Simple.{App, Shape, new_rule, new_shape}
use Rattle.clap.specs.Walk.{Row, Rule, Text, first_of}
use Rattle.command_words.specs.Words.{count_of}
use Rattle.command_words.specs.declared.command.Command.{Command}
use Rattle.command_words.specs.declared.command.Command.TheVariants.{Compile, Check, List as Listing, Explain, Replay, Generate, Audit, Certify, Sections, Plan}

-- an argument that takes one word
abbrev pub slot : Text → Rule
slot id = record (new_rule id) { required = true }

-- a command with these arguments
abbrev pub leaf : Text → List Text → Shape
leaf name ids = record (new_shape name) { rules = map slot ids }

abbrev pub bare : App
bare = record {
  top = record (new_shape (codes "camkes")) {
    no_binary_name = true;
    disable_help_flag = true;
    disable_help_subcommand = true;
    disable_version_flag = true;
    subcommand_required = true;
  };
  subs = [];
}

abbrev pub reader : App
reader = record {
  top = record bare.top { is_leaf = false };
  subs = leaf (codes "compile") (codes "ROOT" ∷ codes "BASE" ∷ [])
      ∷ leaf (codes "check") (codes "CDL" ∷ codes "POLICY" ∷ codes "CERT" ∷ [])
      ∷ leaf (codes "list") (codes "ROOT" ∷ [])
      ∷ leaf (codes "explain") (codes "ROOT" ∷ codes "FROM" ∷ codes "AUTHORITY" ∷ codes "TO" ∷ [])
      ∷ leaf (codes "replay") (codes "CDL" ∷ codes "POLICY" ∷ codes "STEPS" ∷ [])
      ∷ leaf (codes "generate") (codes "N" ∷ [])
      ∷ leaf (codes "audit") (codes "CDL" ∷ codes "POLICY" ∷ [])
      ∷ leaf (codes "certify") (codes "CDL" ∷ codes "POLICY" ∷ [])
      ∷ leaf (codes "sections") (codes "ELF" ∷ [])
      ∷ leaf (codes "plan") (codes "CDL" ∷ codes "UNTYPEDS" ∷ [])
      ∷ [];
}

-- ---- the command that the matches make

abbrev pub with_one : (Text → Command) → Option Text → Option Command
with_one = option_map

abbrev pub with_two : (Text → Text → Command) → Option Text → Option Text → Option Command
with_two make (Some a) b = with_one (make a) b
with_two make None b = None

abbrev pub with_three : (Text → Text → Text → Command) → Option Text → Option Text → Option Text → Option Command
with_three make (Some a) b c = with_two (make a) b c
with_three make None b c = None

abbrev pub with_four : (Text → Text → Text → Text → Command) → Option Text → Option Text → Option Text → Option Text
    → Option Command
with_four make (Some a) b c d = with_three (make a) b c d
with_four make None b c d = None

abbrev pub with_count : (ℕ → Command) → Option Text → Option Command
with_count make word = option_map make (option_and_then count_of word)

abbrev pub made_of : Text → List Row → Option Command
made_of name rows =
    if bytes_eq (codes "compile") name then with_two Compile (first_of (codes "ROOT") rows) (first_of (codes "BASE") rows)
    else (if bytes_eq (codes "check") name
    then with_three Check (first_of (codes "CDL") rows) (first_of (codes "POLICY") rows) (first_of (codes "CERT") rows)
    else (if bytes_eq (codes "list") name then with_one Listing (first_of (codes "ROOT") rows)
    else (if bytes_eq (codes "explain") name
    then with_four Explain (first_of (codes "ROOT") rows) (first_of (codes "FROM") rows) (first_of (codes "AUTHORITY") rows)
    (first_of (codes "TO") rows)
    else (if bytes_eq (codes "replay") name
    then with_three Replay (first_of (codes "CDL") rows) (first_of (codes "POLICY") rows) (first_of (codes "STEPS") rows)
    else (if bytes_eq (codes "generate") name then with_count Generate (first_of (codes "N") rows)
    else (if bytes_eq (codes "audit") name then with_two Audit (first_of (codes "CDL") rows) (first_of (codes "POLICY") rows)
    else (if bytes_eq (codes "certify") name then with_two Certify (first_of (codes "CDL") rows) (first_of (codes "POLICY") rows)
    else (if bytes_eq (codes "sections") name then with_one Sections (first_of (codes "ELF") rows)
    else (if bytes_eq (codes "plan") name then with_two Plan (first_of (codes "CDL") rows) (first_of (codes "UNTYPEDS") rows)
    else None)))))))))
