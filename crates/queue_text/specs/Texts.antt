-- Words and refusals as text. Definitions alone.
use Rattle.std.specs.Prelude.{List, [], ◌∷◌, ◌++◌, ℕ, Err}
use Rattle.format.specs.Refusals.{in_numbers}
use Rattle.format.specs.declared.Refusal.{Refusal}
use Rattle.pieces.specs.Numbers.{decimal}

abbrev pub space : List ℕ
space = 32 ∷ []

abbrev pub newline : List ℕ
newline = 10 ∷ []

-- `ok` and a space
abbrev pub ok_word : List ℕ
ok_word = 111 ∷ 107 ∷ 32 ∷ []

-- `refused` and a space
abbrev pub refused_word : List ℕ
refused_word = 114 ∷ 101 ∷ 102 ∷ 117 ∷ 115 ∷ 101 ∷ 100 ∷ 32 ∷ []

-- "`refused NUMBER PLACE`"
unfoldable pub refusal_text : Refusal → List ℕ
refusal_text r = refused_word ++ decimal (in_numbers (Err r)).0 ++ space ++ decimal (in_numbers (Err r)).1 ++ newline
