-- docs/RULES.md, "Data sheets": the text of a sheet. "RFC 4180 text: a header row `variable,bits,value`, CRLF, one row per field". Definitions alone.
use Rattle.std.specs.Prelude.{Bool, cond, List, [], ◌∷◌, ◌++◌, ℕ, ◌+◌, eqb, length, get_or}
use Prim.Native.Char.{code}
use Prim.Native.String.{String}
use Rattle.pieces.specs.Numbers.{digits_of, decimal, sixteen}
use Rattle.format.specs.Fields.{Field, fields, NID_RADIO, END}
use Rattle.format.specs.Telegrams.{Entry, all}
use Prim.Native.String as string

-- the codes of the characters of a name
abbrev pub text_of : String → List ℕ
text_of string.[] = []
text_of (string.◌∷◌ c s) = code c ∷ text_of s

-- a comma, and CRLF
abbrev pub comma : List ℕ
comma = 44 ∷ []

abbrev pub crlf : List ℕ
crlf = 13 ∷ 10 ∷ []

unfoldable pub heading : List ℕ
heading = text_of "variable,bits,value" ++ crlf

-- "names as in [the rules] (the end mark is `END`)", and "that name's own width": what a row begins with
unfoldable pub label_text : Field → List ℕ
label_text f = text_of f.name ++ comma ++ decimal f.width ++ comma

abbrev pub is_radio : Field → Bool
is_radio f = eqb f.number NID_RADIO.number

-- "decimal values with no needless zero, but NID_RADIO as exactly sixteen characters 0-9 and F"
abbrev pub value_text : Field → ℕ → List ℕ
value_text f v = cond (is_radio f) (sixteen v) (decimal v)

unfoldable pub row_text : Entry → List ℕ
row_text e = label_text e.field ++ value_text e.field e.value ++ crlf

-- "the one sheet of an accepted telegram"
unfoldable pub sheet_text : List Entry → List ℕ
sheet_text es = heading ++ all row_text es

-- ---- fields by number, and their labels as the code keeps them: one text, and where each begins

abbrev pub field_of : ℕ → Field
field_of k = get_or fields k END

abbrev pub entry_of : ℕ → ℕ → Entry
entry_of k v = record { field = field_of k; value = v }

abbrev joined : List Field → List ℕ
joined [] = []
joined (f ∷ fs) = label_text f ++ joined fs

abbrev from : ℕ → List Field → List ℕ
from n [] = n ∷ []
from n (f ∷ fs) = n ∷ from (n + length (label_text f)) fs

unfoldable pub labels : List ℕ
unfolding label_text fields digits_of
labels = joined fields

unfoldable pub starts : List ℕ
unfolding label_text fields digits_of
starts = from 0 fields
