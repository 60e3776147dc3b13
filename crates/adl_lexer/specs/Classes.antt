-- The classes of bytes, and the longest run of bytes of some classes.
use Rattle.std.specs.Prelude.{ℕ, ◌==◌, ◌||◌, if◌then◌else◌, List, [], ◌∷◌}
use Rattle.cam_base.specs.Names.{is_letter}
use Rattle.cam_base.specs.Numbers.{is_digit, is_hex_digit}
use Rattle.cam_base.specs.Form.{among}

-- a letter that is no hexadecimal digit and isn't x or X, or an underscore
abbrev pub letter : ℕ
letter = 0

-- a to f and A to F
abbrev pub hex_letter : ℕ
hex_letter = 1

-- x and X
abbrev pub cross : ℕ
cross = 2

-- the digit 0
abbrev pub zero_digit : ℕ
zero_digit = 3

-- a digit from 1 to 9
abbrev pub digit : ℕ
digit = 4

-- space, tab and carriage return
abbrev pub blank : ℕ
blank = 5

abbrev pub line_feed : ℕ
line_feed = 6

abbrev pub slash : ℕ
slash = 7

abbrev pub less : ℕ
less = 8

abbrev pub minus : ℕ
minus = 9

abbrev pub greater : ℕ
greater = 10

abbrev pub quote : ℕ
quote = 11

abbrev pub backslash : ℕ
backslash = 12

abbrev pub dot : ℕ
dot = 13

abbrev pub brace_l : ℕ
brace_l = 14

abbrev pub brace_r : ℕ
brace_r = 15

abbrev pub paren_l : ℕ
paren_l = 16

abbrev pub paren_r : ℕ
paren_r = 17

abbrev pub square_l : ℕ
square_l = 18

abbrev pub square_r : ℕ
square_r = 19

abbrev pub semi : ℕ
semi = 20

abbrev pub comma : ℕ
comma = 21

abbrev pub equals : ℕ
equals = 22

abbrev pub colon : ℕ
colon = 23

-- # + * % & | ^ ! ~ ?
abbrev pub left_out : ℕ
left_out = 24

-- every other byte
abbrev pub other : ℕ
other = 25

-- the class that the first row of this byte gives, or else c
abbrev pub class_in : List (ℕ × ℕ) → ℕ → ℕ → ℕ
class_in [] c b = c
class_in (row ∷ rows) c b = if b == row.0 then row.1 else class_in rows c b

-- # + * % & | ^ ! ~ ?
abbrev pub left_out_rows : List (ℕ × ℕ)
left_out_rows = (35, left_out) ∷ (43, left_out) ∷ (42, left_out) ∷ (37, left_out) ∷ (38, left_out) ∷ (124, left_out)
    ∷ (94, left_out) ∷ (33, left_out) ∷ (126, left_out) ∷ (63, left_out) ∷ []

abbrev pub left_out_class : ℕ → ℕ
left_out_class = class_in left_out_rows other

-- . { } ( ) [ ] ; , = :
abbrev pub mark_rows : List (ℕ × ℕ)
mark_rows = (46, dot) ∷ (123, brace_l) ∷ (125, brace_r) ∷ (40, paren_l) ∷ (41, paren_r) ∷ (91, square_l) ∷ (93, square_r)
    ∷ (59, semi) ∷ (44, comma) ∷ (61, equals) ∷ (58, colon) ∷ []

abbrev pub mark_class : ℕ → ℕ
mark_class b = class_in mark_rows (left_out_class b) b

-- space, tab, carriage return, line feed, / < - > " and the backslash
abbrev pub sign_rows : List (ℕ × ℕ)
sign_rows = (32, blank) ∷ (9, blank) ∷ (13, blank) ∷ (10, line_feed) ∷ (47, slash) ∷ (60, less) ∷ (45, minus) ∷ (62, greater)
    ∷ (34, quote) ∷ (92, backslash) ∷ []

abbrev pub sign_class : ℕ → ℕ
sign_class b = class_in sign_rows (mark_class b) b

unfoldable pub class_of : ℕ → ℕ
class_of b =
    if is_digit b then (if b == 48 then zero_digit else digit)
    else if is_hex_digit b then hex_letter
    else if is_letter b then (if b == 120 || b == 88 then cross else letter)
    else sign_class b

abbrev pub letters : List ℕ
letters = letter ∷ hex_letter ∷ cross ∷ []

abbrev pub digits : List ℕ
digits = zero_digit ∷ digit ∷ []

abbrev pub hex_digits : List ℕ
hex_digits = hex_letter ∷ zero_digit ∷ digit ∷ []

-- letters, digits and underscores
abbrev pub word_bytes : List ℕ
word_bytes = letter ∷ hex_letter ∷ cross ∷ zero_digit ∷ digit ∷ []

-- what an angle name begins with, behind its angle bracket
abbrev pub angle_first : List ℕ
angle_first = letter ∷ hex_letter ∷ cross ∷ zero_digit ∷ digit ∷ dot ∷ slash ∷ []

-- what it goes on with
abbrev pub angle_bytes : List ℕ
angle_bytes = letter ∷ hex_letter ∷ cross ∷ zero_digit ∷ digit ∷ dot ∷ slash ∷ minus ∷ []

abbrev pub blanks : List ℕ
blanks = blank ∷ line_feed ∷ []

-- marks of one byte
abbrev pub mark_bytes : List ℕ
mark_bytes = dot ∷ brace_l ∷ brace_r ∷ paren_l ∷ paren_r ∷ square_l ∷ square_r ∷ semi ∷ comma ∷ equals ∷ colon ∷ []

-- any byte but a line feed, a quote and a backslash
abbrev pub plain_bytes : List ℕ
plain_bytes = letter ∷ hex_letter ∷ cross ∷ zero_digit ∷ digit ∷ blank ∷ slash ∷ less ∷ minus ∷ greater ∷ left_out
    ∷ other ∷ mark_bytes

-- any byte but a line feed
abbrev pub line_bytes : List ℕ
line_bytes = quote ∷ backslash ∷ plain_bytes

-- the longest run of bytes of these classes at the front
abbrev pub run : List ℕ → List ℕ → List ℕ
run cs [] = []
run cs (b ∷ bs) = if among cs (class_of b) then b ∷ run cs bs else []

-- what stands behind it
abbrev pub after_run : List ℕ → List ℕ → List ℕ
after_run cs [] = []
after_run cs (b ∷ bs) = if among cs (class_of b) then after_run cs bs else b ∷ bs
