-- The bytes that the grammar names, by their characters.
use Rattle.std.specs.Prelude.{ℕ}

abbrev pub tab : ℕ
tab = 9

abbrev pub line_feed : ℕ
line_feed = 10

abbrev pub vertical_tab : ℕ
vertical_tab = 11

abbrev pub form_feed : ℕ
form_feed = 12

abbrev pub carriage_return : ℕ
carriage_return = 13

abbrev pub space : ℕ
space = 32

-- ( and )
abbrev pub open_parenthesis : ℕ
open_parenthesis = 40

abbrev pub close_parenthesis : ℕ
close_parenthesis = 41

-- + and -
abbrev pub plus : ℕ
plus = 43

abbrev pub minus : ℕ
minus = 45

-- 0 and 9
abbrev pub digit_zero : ℕ
digit_zero = 48

abbrev pub digit_nine : ℕ
digit_nine = 57

abbrev pub semicolon : ℕ
semicolon = 59

-- A and Z
abbrev pub capital_a : ℕ
capital_a = 65

abbrev pub capital_z : ℕ
capital_z = 90

-- [, \ and ]
abbrev pub open_bracket : ℕ
open_bracket = 91

abbrev pub backslash : ℕ
backslash = 92

abbrev pub close_bracket : ℕ
close_bracket = 93

-- a and z
abbrev pub small_a : ℕ
small_a = 97

abbrev pub small_z : ℕ
small_z = 122

-- the three bytes of the UTF-8 byte order mark: EF BB BF
abbrev pub byte_ef : ℕ
byte_ef = 239

abbrev pub byte_bb : ℕ
byte_bb = 187

abbrev pub byte_bf : ℕ
byte_bf = 191
