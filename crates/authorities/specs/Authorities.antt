-- The twelve authorities: each one's number, and the word that texts name it by.
use Rattle.std.specs.Prelude.{ℕ, List, [], ◌∷◌, Option, find, codes}
use Rattle.std.specs.Str.{bytes_eq}
use Rattle.authorities.specs.declared.authority.Authority.{Authority}
use Rattle.authorities.specs.declared.authority.Authority.TheVariants.{Receive, SyncSend, AsyncSend, Reset, Grant, Read, Write, Control, Call, Reply, GrantBack, Handle}

abbrev pub number_of : Authority → ℕ
number_of Receive = 0
number_of SyncSend = 1
number_of AsyncSend = 2
number_of Reset = 3
number_of Grant = 4
number_of Read = 5
number_of Write = 6
number_of Control = 7
number_of Call = 8
number_of Reply = 9
number_of GrantBack = 10
number_of Handle = 11

-- the bytes of the variant's name
abbrev pub text_of : Authority → List ℕ
text_of Receive = codes "Receive"
text_of SyncSend = codes "SyncSend"
text_of AsyncSend = codes "AsyncSend"
text_of Reset = codes "Reset"
text_of Grant = codes "Grant"
text_of Read = codes "Read"
text_of Write = codes "Write"
text_of Control = codes "Control"
text_of Call = codes "Call"
text_of Reply = codes "Reply"
text_of GrantBack = codes "GrantBack"
text_of Handle = codes "Handle"

-- all of them
abbrev pub authorities : List Authority
authorities = Receive ∷ SyncSend ∷ AsyncSend ∷ Reset ∷ Grant ∷ Read ∷ Write ∷ Control ∷ Call ∷ Reply ∷ GrantBack ∷ Handle ∷ []

-- the authority of a word
abbrev pub authority_of : List ℕ → Option Authority
authority_of word = find (λ a. bytes_eq (text_of a) word) authorities
