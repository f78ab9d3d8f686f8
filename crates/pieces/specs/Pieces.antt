-- Text as a list of the codes of its characters: whether it begins with a piece, and a piece put into it. Definitions alone.
use Rattle.std.specs.Prelude.{◌≡◌, Bool, true, false, cond, ◌&&◌, List, [], ◌∷◌, ◌++◌, ℕ, ◌+◌, eqb, leb, length, take, drop}

unfoldable pub begins : List ℕ → List ℕ → Bool
begins [] text = true
begins (c ∷ piece) [] = false
begins (c ∷ piece) (d ∷ text) = eqb c d && begins piece text

-- there is room for a piece from at on
abbrev pub roomy : List ℕ → ℕ → List ℕ → Bool
roomy text at piece = leb (at + length piece) (length text)

-- the text with the piece from at on, and around it as it was; a piece that finds no room changes nothing
unfoldable pub over : List ℕ → ℕ → List ℕ → List ℕ
over text at piece = cond (roomy text at piece) (take at text ++ piece ++ drop (at + length piece) text) text

-- where the piece ends, or was to begin
unfoldable pub past : List ℕ → ℕ → List ℕ → ℕ
past text at piece = cond (roomy text at piece) (at + length piece) at

-- the promise of whatever puts a piece
pub record Appended (before : List ℕ) (at : ℕ) (piece : List ℕ) (end : ℕ) (after : List ℕ) : Type 0 where
  pub ends : end ≡ past before at piece
  pub text : after ≡ over before at piece

-- a text so far, with what was there behind it, ends at a position
pub record Grown (before text : List ℕ) (at : ℕ) (out : List ℕ) : Type 0 where
  pub here : at ≡ length text
  pub is : out ≡ text ++ drop (length text) before
