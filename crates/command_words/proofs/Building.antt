-- What the builders of a command make of `app_of`.
use Rattle.command_words.proofs.Common.{AddsArg, AddsSubcommand, App, Bor, List, Rule, Shape, Text, [], ap, app_of, app_of_fields, ap₂, bare, false, get_or, leaf, length, map, new_app, new_rule, rule_of, slot, sym, take, true}
use Rattle.command_words.proofs.Common.{rules, with_subcommand, ℕ, ◌++◌, ◌+◌, ◌<◌, ◌∙◌, ◌∷◌, ◌≡◌}
use Rattle.std.proofs.lemmas.List.{take_more, map-append}
use Rattle.clap.specs.declared.builder.arg.Arg.{Arg}
use Rattle.clap.specs.declared.builder.command.Command.{Command}
use Rattle.clap.specs.declared.builder.command.Command.TheOpen.{Command-F}
use Rattle.clap.specs.declared.builder.command.Command.TheViews.{out-Command as fields_of}

pub rule_required : (a b : Arg) (id : Text) → b ≡ record a { required = true } → rule_of a ≡ new_rule id → rule_of b ≡ slot id
rule_required a b id e is = ap rule_of e ∙ ap (λ (r : Rule). record r { required = true }) is

abbrev pub texts : List (Bor Text) → List Text
texts = map (λ s. s.now)

abbrev rules_to : List (Bor Text) → List Rule
rules_to xs = map slot (texts xs)

rules_more : (slots : List (Bor Text)) (i : ℕ) (d : Bor Text) → i < length slots
    → rules_to (take i slots) ++ slot (get_or slots i d).now ∷ [] ≡ rules_to (take (i + 1) slots)
rules_more slots i d lt =
    let more = take_more slots i d lt in
    sym (ap rules_to more ∙ ap (map slot) (map-append (λ (s : Bor Text). s.now) (take i slots) (get_or slots i d ∷ []))
    ∙ map-append slot (texts (take i slots)) ((get_or slots i d).now ∷ []))

-- one more argument
pub slot_added : (old new : Command) (a : Arg) (name : Text) (slots : List (Bor Text)) (i : ℕ) (d : Bor Text) → AddsArg old a new
    → a.global ≡ false
    → rule_of a ≡ slot (get_or slots i d).now → i < length slots
    → app_of old ≡ record { top = leaf name (texts (take i slots)); subs = [] }
    → app_of new ≡ record { top = leaf name (texts (take (i + 1) slots)); subs = [] }
slot_added old new a name slots i d adds local rule lt before = search (rules, ap₂, rules_more)

pub bare_app : (c₀ c₁ c₂ c₃ c₄ c₅ : Command) → app_of c₀ ≡ new_app (Rattle.std.specs.Prelude.codes "camkes")
    → fields_of c₁ ≡ record (fields_of c₀) { no_binary_name = true }
    → fields_of c₂ ≡ record (fields_of c₁) { disable_help_flag = true }
    → fields_of c₃ ≡ record (fields_of c₂) { disable_help_subcommand = true }
    → fields_of c₄ ≡ record (fields_of c₃) { disable_version_flag = true }
    → fields_of c₅ ≡ record (fields_of c₄) { subcommand_required = true }
    → app_of c₅ ≡ bare
bare_app c₀ c₁ c₂ c₃ c₄ c₅ is e₁ e₂ e₃ e₄ e₅ = search (rules)

pub command_added : (old sub new : Command) (s : Shape) → AddsSubcommand old sub new → (fields_of sub).has_globals ≡ false
    → app_of sub ≡ record { top = s; subs = [] }
    → app_of new ≡ with_subcommand (app_of old) s
command_added old sub new s adds local is = adds.shape local ∙ ap (λ (a : App). with_subcommand (app_of old) a.top) is
