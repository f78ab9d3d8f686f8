-- Worked examples of the definitions, each computed by the checker. Assumes nothing.
use Rattle.std.specs.Prelude.{◌≡◌, refl, [], ◌∷◌, Ok, Err}
use Rattle.bits.specs.Bits.{value_of, filled, packed, bytes_of}
use Rattle.packing.specs.Packing.{binary, bytes_over, packed_of, pack_into, characters}
use Rattle.packing.specs.declared.PackError.TheVariants.{Other, Room}

-- no character, 0 and 1, a character above 1, one below 0, and a carriage return at the end
answers : packed_of [] [] ∷ packed_of (48 ∷ 49 ∷ []) (7 ∷ []) ∷ packed_of (48 ∷ 50 ∷ []) (7 ∷ []) ∷ packed_of (47 ∷ 49 ∷ []) (7 ∷ [])
    ∷ packed_of (49 ∷ 13 ∷ []) (7 ∷ []) ∷ []
    ≡ Ok 0 ∷ Ok 2 ∷ (Err Other) ∷ (Err Other) ∷ (Err Other) ∷ []
unfolding binary packed_of
answers = refl

-- nine characters take two bytes; another character is told before the room is
rooms : packed_of (49 ∷ 48 ∷ 48 ∷ 48 ∷ 48 ∷ 48 ∷ 48 ∷ 48 ∷ 49 ∷ []) (7 ∷ []) ∷ packed_of (49 ∷ 48 ∷ 50 ∷ []) [] ∷ [] ≡ (Err Room) ∷ (Err Other) ∷ []
unfolding binary packed_of
rooms = refl

-- the first character is the highest bit; the low bits of the last byte are 0; what lies behind is kept, and all of it on a refusal
written : pack_into (49 ∷ 48 ∷ 48 ∷ 49 ∷ 48 ∷ 48 ∷ 48 ∷ 48 ∷ 49 ∷ 49 ∷ 49 ∷ []) (1 ∷ 2 ∷ 3 ∷ [])
    ∷ pack_into (49 ∷ 50 ∷ []) (1 ∷ 2 ∷ 3 ∷ []) ∷ pack_into (49 ∷ []) [] ∷ []
    ≡ (0x90 ∷ 0xe0 ∷ 3 ∷ []) ∷ (1 ∷ 2 ∷ 3 ∷ []) ∷ [] ∷ []
unfolding value_of filled packed bytes_of binary bytes_over pack_into
written = refl

line : characters (1 ∷ 0 ∷ 0 ∷ 1 ∷ []) ≡ 49 ∷ 48 ∷ 48 ∷ 49 ∷ []
line = refl
