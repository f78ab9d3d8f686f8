-- The answer to a group as text. Definitions alone.
use Rattle.std.specs.Prelude.{List, [], ◌∷◌, ◌++◌, ℕ, zero, suc}
use Rattle.pieces.specs.Numbers.{decimal}
use Rattle.queue_text.specs.Texts.{space, newline, ok_word, refused_word}

abbrev pub dot : List ℕ
dot = 46 ∷ []

-- "each packet as N_PIG, a dot, its number in its telegram", behind a space
abbrev pub packet_text : ℕ → ℕ → List ℕ
packet_text pig number = space ++ decimal pig ++ dot ++ decimal number

-- the first of two runs side by side, as many as are asked for, or as stand in both
unfoldable pub packet_texts : ℕ → List ℕ → List ℕ → List ℕ
packet_texts zero pigs numbers = []
packet_texts (suc n) [] numbers = []
packet_texts (suc n) (p ∷ pigs) [] = []
packet_texts (suc n) (p ∷ pigs) (j ∷ numbers) = packet_text p j ++ packet_texts n pigs numbers

-- "`ok`, the number of packets, then each packet"
abbrev pub packets_text : ℕ → List ℕ → List ℕ → List ℕ
packets_text count pigs numbers = ok_word ++ decimal count ++ packet_texts count pigs numbers ++ newline

-- "`refused NUMBER WHICH PLACE`"
abbrev pub fault_text : ℕ → ℕ → ℕ → List ℕ
fault_text number which place = refused_word ++ decimal number ++ space ++ decimal which ++ space ++ decimal place ++ newline
