-- The one keyword that a word can be: what the look-up tries. No part of the rule, which stands in specs/Keywords.antt.
use Rattle.std.specs.Prelude.{ℕ, ◌==◌, if◌then◌else◌, List, [], ◌∷◌, length, Option, Some, None}
use Rattle.cam_base.specs.declared.token.Keyword.{Keyword}
use Rattle.cam_base.specs.declared.token.Keyword.TheVariants as keys

-- by the length, of words that begin with c
abbrev pub on_c : ℕ → Keyword
on_c n =
    if n == 7 then keys.KControl
    else if n == 8 then keys.KConsumes
    else if n == 9 then keys.KComponent
    else if n == 10 then keys.KConnection
    else if n == 11 then keys.KComposition
    else keys.KConfiguration

-- by the length, of words that begin with i
abbrev pub on_i : ℕ → Keyword
on_i n =
    if n == 2 then keys.KIn
    else if n == 5 then keys.KInout
    else if n == 6 then keys.KImport
    else keys.KInclude

-- by the first byte from o on, and the length
abbrev pub by_late_front : ℕ → ℕ → Option Keyword
by_late_front a n =
    if a == 111 then Some keys.KOut
    else if a == 112 then Some (if n == 9 then keys.KProcedure else keys.KProvides)
    else if a == 114 then Some keys.KRefin
    else if a == 115 then Some keys.KSemaphore
    else if a == 116 then Some keys.KTo
    else if a == 117 then Some keys.KUses
    else None

-- by the first byte from f on, the second and the length
abbrev pub by_middle_front : ℕ → ℕ → ℕ → Option Keyword
by_middle_front a b n =
    if a == 102 then Some keys.KFrom
    else if a == 103 then Some keys.KGroup
    else if a == 104 then Some (if n == 3 then keys.KHas else keys.KHardware)
    else if a == 105 then Some (on_i n)
    else if a == 109 then Some (if b == 97 then keys.KMaybe else keys.KMutex)
    else by_late_front a n

-- by the first byte, the second and the length
abbrev pub by_front : ℕ → ℕ → ℕ → Option Keyword
by_front a b n =
    if a == 97 then Some (if n == 8 then keys.KAssembly else keys.KAttribute)
    else if a == 98 then Some keys.KBinarySemaphore
    else if a == 99 then Some (on_c n)
    else if a == 100 then Some keys.KDataport
    else if a == 101 then Some (if n == 5 then keys.KEmits else keys.KExport)
    else by_middle_front a b n

abbrev pub candidate : List ℕ → Option Keyword
candidate [] = None
candidate (a ∷ []) = None
candidate (a ∷ b ∷ bs) = by_front a b (length (a ∷ b ∷ bs))
