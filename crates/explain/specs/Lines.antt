-- The lines that tell why an authority is assigned. What a number names that nothing has is empty.
use Rattle.std.specs.Prelude.{ℕ, List, [], ◌∷◌, codes, decimal, Option, Some, None, slice_get}
use Rattle.std.specs.Option.{option_and_then, option_map_or}
use Rattle.adl_ast.specs.declared.component.Member.{Member}
use Rattle.adl_ast.specs.declared.component.Member.TheVariants as members
use Rattle.adl_ast.specs.declared.composition.Role.{Role}
use Rattle.adl_ast.specs.declared.composition.Role.TheVariants.{From, To}
use Rattle.adl_ast.specs.declared.id.Id.{Id}
use Rattle.adl_ast.specs.declared.source.Source.{Source}
use Rattle.adl_meaning.specs.Connectors.{text_of}
use Rattle.adl_meaning.specs.declared.flat.Flat.{Flat}
use Rattle.adl_meaning.specs.declared.flat.FlatConnection.{FlatConnection}
use Rattle.adl_meaning.specs.declared.flat.FlatEnd.{FlatEnd}
use Rattle.cam_base.specs.Paths.{joined}
use Rattle.cam_base.specs.Texts.{together}
use Rattle.cam_base.specs.declared.place.Place.{Place}
use Rattle.explain.specs.declared.reason.Reason.{Reason}
use Rattle.explain.specs.declared.reason.Rule.{Rule}
use Rattle.explain.specs.declared.reason.Rule.TheVariants.{Direct, ByCall, ByBind}
use Rattle.cspace_layout.specs.Lookups.{end_of}
use Rattle.cspace_layout.specs.Members.{members_at}

abbrev pub role_word : Role → List ℕ
role_word From = codes "from"
role_word To = codes "to"

-- `rule seL4RPCCall from`, for an end by the numbers of its connection and of itself
abbrev pub rule_line : Flat → ℕ × ℕ → List ℕ
rule_line flat end =
    option_map_or (λ x. together (codes "rule " ∷ text_of x.0 ∷ codes " " ∷ role_word x.1.role ∷ codes "\n" ∷ []))
    (end_of flat end.0 end.1) []

-- the name of the file of this number
abbrev pub file_name : Source → ℕ → List ℕ
file_name source number = option_map_or (λ f. f.name) (slice_get source.files number) []

-- `app.camkes:227-230`
abbrev pub place_text : Source → Place → List ℕ
place_text source place =
    together (file_name source place.file ∷ codes ":" ∷ decimal place.first ∷ codes "-" ∷ decimal place.end ∷ [])

abbrev pub leaf_path : Flat → ℕ → List ℕ
leaf_path flat leaf = option_map_or (λ x. joined x.path) (slice_get flat.leaves leaf) []

-- the word that names an interface or a lock
abbrev pub id_of : Member → Option Id
id_of (members.Interface i) = Some i.id
id_of (members.Lock l) = Some l.id
id_of _ = None

-- the word of a leaf's member, by the numbers of both
abbrev pub word_of : Source → Flat → ℕ → ℕ → Option Id
word_of source flat leaf member =
    option_and_then (λ x. option_and_then id_of (slice_get (members_at source x.component) member)) (slice_get flat.leaves leaf)

-- `drv.irq`
abbrev pub member_path : Source → Flat → ℕ → ℕ → List ℕ
member_path source flat leaf member =
    together (leaf_path flat leaf ∷ codes "." ∷ option_map_or (λ i. i.name) (word_of source flat leaf member) [] ∷ [])

abbrev pub line_of_end : Source → Flat → FlatConnection → FlatEnd → List ℕ
line_of_end source flat connection end = together (
    codes "end " ∷ member_path source flat end.leaf end.member ∷ codes " " ∷ joined connection.path ∷ codes " "
    ∷ place_text source end.place ∷ codes "\n" ∷ [])

-- `end c.e k app.camkes:227-230`, for an end by the numbers of its connection and of itself
abbrev pub end_line : Source → Flat → ℕ × ℕ → List ℕ
end_line source flat end =
    option_map_or (λ c. option_map_or (line_of_end source flat c) (slice_get c.ends end.1) [])
    (slice_get flat.connections end.0) []

abbrev pub line_of_lock : Source → Flat → ℕ × ℕ → Place → List ℕ
line_of_lock source flat lock place =
    together (codes "lock " ∷ member_path source flat lock.0 lock.1 ∷ codes " " ∷ place_text source place ∷ codes "\n" ∷ [])

-- `lock drv.m sys.camkes:31-32`, for a lock by the numbers of its leaf and of the member
abbrev pub lock_line : Source → Flat → ℕ × ℕ → List ℕ
lock_line source flat lock = option_map_or (λ i. line_of_lock source flat lock i.place) (word_of source flat lock.0 lock.1) []

-- ---- all lines of a reason

abbrev pub rule_text : Flat → Rule → ℕ × ℕ → List ℕ
rule_text flat Direct end = rule_line flat end
rule_text flat ByCall end = codes "rule Call\n"
rule_text flat ByBind end = codes "rule Bind\n"

-- the rule, the first end, and the second or the lock
abbrev pub reason_text : Source → Flat → Reason → List ℕ
reason_text source flat r = together (
    rule_text flat r.rule r.first ∷ end_line source flat r.first ∷ option_map_or (end_line source flat) r.second []
    ∷ option_map_or (lock_line source flat) r.lock [] ∷ [])
