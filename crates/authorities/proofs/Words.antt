-- The word of an authority reads as it.
use Rattle.std.proofs.Common.{◌≡◌, refl, Some}
use Rattle.authorities.specs.Authorities.{authority_of, text_of}
use Rattle.authorities.specs.declared.authority.Authority.{Authority}
use Rattle.authorities.specs.declared.authority.Authority.TheVariants.{Receive, SyncSend, AsyncSend, Reset, Grant, Read, Write, Control, Call, Reply, GrantBack, Handle}

pub its_word : (a : Authority) → authority_of (text_of a) ≡ Some a
its_word Receive = refl
its_word SyncSend = refl
its_word AsyncSend = refl
its_word Reset = refl
its_word Grant = refl
its_word Read = refl
its_word Write = refl
its_word Control = refl
its_word Call = refl
its_word Reply = refl
its_word GrantBack = refl
its_word Handle = refl
