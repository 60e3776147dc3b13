-- Texts of policies and of certificates. The first line that says something is the header; each other one says one entry.
-- A policy's labels are those of its label lines, by number, its objects those of its object lines, in order, and its edges
-- those of its edge lines. A certificate has edge lines alone, and its labels are those of a policy.
use Rattle.std.specs.Prelude.{◌≡◌, ℕ, Bool, false, if◌then◌else◌, List, [], ◌∷◌, length, drop, find, fold, Option, Some, None, Result, Ok, Err, nat_lt, All, IsSome}
use Rattle.policy_text.specs.Below.{Edge, IsSorted, Line, Policy, PolicyLimit, PolicySyntax, Refused, TextCode, TextFault, at_line, bytes_eq, fields, filter_map, has, is_none, is_some, label_name, lines, list_any, nat_cmp, option_map, option_map_or}
use Rattle.policy_text.specs.Below.{option_or, unwrap_or}
use Rattle.std.specs.BTreeMap.{insert_entry}
use Rattle.cam_base.specs.declared.error.Refused.TheVariants as refused
use Rattle.policy_text.specs.declared.kind.Kind.{Kind}
use Rattle.policy_text.specs.declared.kind.Kind.TheVariants as kinds
use Rattle.policy_text.specs.Entries.{Number, value, Entry, label, object, edge, entry_of}
use Rattle.policy_text.specs.PolicyFaults.{Told, gives, first_wrong}
use Rattle.policy_text.specs.PolicyLines.{policy_header, cert_header}

abbrev pub bytes_limit : ℕ
bytes_limit = 67108864

-- ---- what a text says

abbrev pub header : Kind → List ℕ
header kinds.Policy = policy_header
header kinds.Certificate = cert_header

-- the first line is the header
abbrev pub is_headed : Kind → List Line → Bool
is_headed kind [] = false
is_headed kind (line ∷ more) = bytes_eq line.text (header kind)

-- the lines behind the header
abbrev pub body : List ℕ → List Line
body bytes = drop 1 (lines bytes)

abbrev pub said : Kind → Line → Option Entry
said kind line = entry_of kind (fields line.text)

-- a line with what it says
abbrev pub told_of : Kind → Line → Option Told
told_of kind line = option_map (λ e. (line, e)) (said kind line)

-- the lines that say an entry
abbrev pub told : Kind → List Line → List Told
told kind = filter_map (told_of kind)

-- ---- its first fault

abbrev pub at_start : TextCode → TextFault
at_start code = record { code = code; first = 0; end = 0; name = [] }

-- the first line that says nothing of these forms
abbrev pub form_fault : Kind → List Line → Option TextFault
form_fault kind ls = option_map (λ line. at_line line (PolicySyntax, [])) (find (λ line. is_none (said kind line)) ls)

-- too many bytes; or no header
abbrev pub head_fault : Kind → List ℕ → Option TextFault
head_fault kind bytes =
    if nat_lt bytes_limit (length bytes) then Some (at_start PolicyLimit)
    else if is_headed kind (lines bytes) then None
    else Some (at_start PolicySyntax)

-- bytes; then the header; then each line's form; then what is wrong with the lines in their order
abbrev pub first_fault : Kind → (Number → Bool) → List ℕ → Option TextFault
first_fault kind knows bytes =
    option_or (head_fault kind bytes) (option_or (form_fault kind (body bytes)) (first_wrong knows [] (told kind (body bytes))))

-- a label line among these gives the number
abbrev pub has_label : List Told → Number → Bool
has_label all n = list_any (λ t. gives n t.1) all

abbrev pub policy_lines : List ℕ → List Told
policy_lines bytes = told kinds.Policy (body bytes)

abbrev pub cert_lines : List ℕ → List Told
cert_lines bytes = told kinds.Certificate (body bytes)

abbrev pub first_policy_fault : List ℕ → Option TextFault
first_policy_fault bytes = first_fault kinds.Policy (has_label (policy_lines bytes)) bytes

-- the policy has a label of that number
abbrev pub is_labelled : Policy → Number → Bool
is_labelled policy n = option_map_or (λ v. is_some (label_name policy.labels v)) (value n) false

abbrev pub first_cert_fault : Policy → List ℕ → Option TextFault
first_cert_fault policy bytes = first_fault kinds.Certificate (is_labelled policy) bytes

-- ---- what it means

-- the value of a number that has a label
abbrev pub label_value : Number → ℕ
label_value n = unwrap_or (value n) 0

abbrev pub label_of : Told → Option (ℕ × List ℕ)
label_of (line, label n name) = Some (label_value n, name)
label_of (line, _) = None

abbrev pub object_of : Told → Option (List ℕ × ℕ)
object_of (line, object word n) = Some (word, label_value n)
object_of (line, _) = None

abbrev pub edge_of : Told → Option Edge
edge_of (line, edge l a m) = Some (record { from = label_value l; authority = a; to = label_value m })
edge_of (line, _) = None

-- pairs in the order of their numbers
abbrev pub by_number : List (ℕ × List ℕ) → List (ℕ × List ℕ)
by_number pairs = fold (λ sorted l. insert_entry nat_cmp sorted l.0 l.1) [] pairs

-- the edges of lines, in the order of edges, each once
pub record SaysEdges (lines : List Told) (edges : List Edge) : Type 0 where
  pub order : IsSorted edges
  pub same : (e : Edge) → has edges e ≡ has (filter_map edge_of lines) e

-- what the lines of a policy mean
pub record Says (lines : List Told) (policy : Policy) : Type 0 where
  pub labels : policy.labels ≡ by_number (filter_map label_of lines)
  pub objects : policy.objects ≡ filter_map object_of lines
  pub edges : SaysEdges lines policy.edges

-- The bytes are a text of this policy: no fault stands in it, and its lines mean the policy.
abbrev pub IsPolicyText : List ℕ → Policy → Type 0
IsPolicyText bytes policy = (first_policy_fault bytes ≡ None) × Says (policy_lines bytes) policy

-- the bytes are a text of this certificate, whose labels are those of the policy
abbrev pub IsCertText : Policy → List ℕ → List Edge → Type 0
IsCertText policy bytes cert = (first_cert_fault policy bytes ≡ None) × SaysEdges (cert_lines bytes) cert

-- the policy has the labels of these edges
pub record AreLabelled (policy : Policy) (edges : List Edge) : Type 0 where
  pub from : All (λ e. IsSome (label_name policy.labels e.from)) edges
  pub to : All (λ e. IsSome (label_name policy.labels e.to)) edges

-- ---- what reading answers

-- the refusal has this fault, or memory ran out
abbrev pub IsFault : Option TextFault → Refused TextFault → Type 0
IsFault fault (refused.Fault f) = fault ≡ Some f
IsFault fault refused.NoMemory = Unit {0}

-- any answer but want of memory
abbrev pub IsAnswer : {T : Type 0} → Result T (Refused TextFault) → Type 0
IsAnswer (Ok x) = Unit {0}
IsAnswer (Err (refused.Fault f)) = Unit {0}
IsAnswer (Err refused.NoMemory) = ⊥

-- the policy of the text; or its first fault; or that memory ran out
abbrev pub IsPolicyRead : List ℕ → Result Policy (Refused TextFault) → Type 0
IsPolicyRead bytes (Ok policy) = IsPolicyText bytes policy
IsPolicyRead bytes (Err refusal) = IsFault (first_policy_fault bytes) refusal

-- the certificate of the text; or its first fault; or that memory ran out
abbrev pub IsCertRead : Policy → List ℕ → Result (List Edge) (Refused TextFault) → Type 0
IsCertRead policy bytes (Ok cert) = IsCertText policy bytes cert
IsCertRead policy bytes (Err refusal) = IsFault (first_cert_fault policy bytes) refusal
