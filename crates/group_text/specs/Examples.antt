-- Worked examples of the definitions, computed by the checker. Assumes nothing.
use Rattle.std.specs.Prelude.{◌≡◌, refl, List, [], ◌∷◌, ℕ}
use Prim.Native.Char.{code}
use Prim.Native.String.{String}
use Rattle.pieces.specs.Numbers.{digits_of}
use Rattle.group_text.specs.Texts.{packet_texts, packets_text, fault_text}
use Prim.Native.String as string

-- what a text reads, and the newline behind it
abbrev line_of : String → List ℕ
line_of string.[] = 10 ∷ []
line_of (string.◌∷◌ c s) = code c ∷ line_of s

-- three packets of two balises; a message of none; runs that hold fewer than are asked for; and two refusals
texts : packets_text 3 (0 ∷ 0 ∷ 1 ∷ 9 ∷ []) (0 ∷ 1 ∷ 0 ∷ 9 ∷ []) ∷ packets_text 0 (9 ∷ []) (9 ∷ []) ∷ packets_text 12 (7 ∷ 7 ∷ []) (32 ∷ [])
    ∷ fault_text 10 1 82 ∷ fault_text 21 0 0 ∷ []
    ≡ line_of "ok 3 0.0 0.1 1.0" ∷ line_of "ok 0" ∷ line_of "ok 12 7.32" ∷ line_of "refused 10 1 82" ∷ line_of "refused 21 0 0" ∷ []
unfolding digits_of packet_texts
texts = refl
