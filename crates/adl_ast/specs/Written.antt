-- Three lines as the language is usually written, where the next token doesn't decide how they go on. The laws say that
-- they spell and begin the same token lists, with the same meanings, as the lines of specs/Forms.antt.
use Rattle.std.specs.Prelude.{ℕ, true, false, List, [], ◌∷◌, Some, None}
use Rattle.cam_base.specs.declared.token.Keyword.TheVariants as keys
use Rattle.cam_base.specs.declared.token.Mark.TheVariants as marks
use Rattle.cam_base.specs.Form.{Give, Then, Or, As, token}
use Rattle.adl_ast.specs.declared.id.Id.{Id}
use Rattle.adl_ast.specs.declared.component.Interface.{Interface}
use Rattle.adl_ast.specs.declared.component.InterfaceKind.TheVariants as interfaces
use Rattle.adl_ast.specs.Codes.{void_code, buf_code}
use Rattle.adl_ast.specs.Seeing.{id_of}
use Rattle.adl_ast.specs.Forms.{Rule, Params, key, mark, word, commas, param_form, interface_kind, size_form, maybe_word, interface_of}

-- type = WORD | WORD WORD | WORD WORD WORD
abbrev pub type_written : Rule (List (List ℕ))
type_written =
    Or (As (λ a. a.name ∷ []) word)
    (Or (As (λ x. x.0.name ∷ x.1.name ∷ []) (Then word word))
    (As (λ x. x.0.name ∷ x.1.0.name ∷ x.1.1.name ∷ []) (Then word (Then word word))))

-- type WORD
abbrev pub typed_written : Rule (List (List ℕ) × Id)
typed_written = Then type_written word

-- ['void' | param,+]
abbrev pub params_written : Rule Params
params_written = Or (As (λ t. (true, [])) (token void_code)) (Or (As (λ ps. (false, ps)) (commas param_form)) (Give (false, [])))

-- ['maybe'] ('uses' | 'provides' | 'emits' | 'consumes') WORD WORD ';'
abbrev pub plain_written : Rule Interface
plain_written = As (λ x. interface_of x.0 (x.1.0, (x.1.1.0, (None, x.1.1.1.0))))
    (Then maybe_word (Then interface_kind (Then word (Then word (mark marks.Semi)))))

-- ['maybe'] 'dataport' WORD WORD ';'
abbrev pub dataport_written : Rule Interface
dataport_written = As (λ x. interface_of x.0 (interfaces.Dataport, (x.1.1.0, (None, x.1.1.1.0))))
    (Then maybe_word (Then (key keys.KDataport) (Then word (Then word (mark marks.Semi)))))

-- ['maybe'] 'dataport' 'Buf' '(' NUMBER ')' WORD ';'
abbrev pub sized_written : Rule Interface
sized_written =
    As (λ x. interface_of x.0 (interfaces.Dataport, (id_of x.1.1.0, (Some x.1.1.1.0, x.1.1.1.1.0))))
    (Then maybe_word (Then (key keys.KDataport) (Then (token buf_code) (Then size_form (Then word (mark marks.Semi))))))

-- the three lines of interfaces
abbrev pub interface_written : Rule Interface
interface_written = Or plain_written (Or dataport_written sized_written)
