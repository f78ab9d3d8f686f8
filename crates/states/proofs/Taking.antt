-- A second run that takes its fields from the bits: each is whole, and is the telegram's next entry. Assumes nothing.
use Rattle.std.specs.Prelude.{Some, None, Option, ℕ}
use mathlib.Core.Path.{◌≡◌, sym, ap, ◌∙◌, subst}
use mathlib.Core.List.{List, ◌++◌}
use Prim.Native.Nat.{ℕ, ◌+◌, ◌-◌, ◌*◌, ◌^◌, ◌<◌, ◌≤◌}
use native.Mathlib.Omega.{arith}
use lib.ListN.{length, take, drop, length-append, length-drop}
use lib.Seq.{take_at, drop_at, length-take-le, take-add, take-take, drop-drop}
use Rattle.bits.specs.Bits.{digits, value_of, bits_of}
use Rattle.bits.specs.Take.{field_bits, taken_at}
use Rattle.bits.specs.declared.Cursor.{Cursor}
use Rattle.bits.proofs.Bytes.{length_bits_of}
use Rattle.bits.proofs.Digits.{length_digits, value_of_digits}
use Rattle.bits.proofs.Fields.{IsField, taken, take_whole}
use Rattle.format.specs.Rules.{paper}
use Rattle.format.specs.Table.{field_at}
use Rattle.format.specs.Telegrams.{Entry, bits, Telegram}
use Rattle.states.specs.Along.{Onward, Along}
use Rattle.states.specs.Machine.{Advanced}
use Rattle.states.specs.declared.Todo.{Todo}
use Rattle.states.proofs.Runs.{onward_first, value_due, rest_due, bits_front, positive, narrow, small, onward_next}

-- ---- the bits in front

-- the w bits of the number v in front of what is left of the first n
module _ (s : List ℕ) (n at w v : ℕ) (rest : List ℕ) (l : n ≤ 8 * length s) (pos : 0 < w)
    (e : drop at (take n (bits_of s)) ≡ digits w v ++ rest) where
  front_within : at + w ≤ n
  front_within =
      let h : length (take n (bits_of s)) - at ≡ w + length rest =
      sym (length-drop at (take n (bits_of s))) ∙ ap length e ∙ length-append (digits w v) rest ∙ ap (λ k. k + length rest) (length_digits w v) in
      let k : length (take n (bits_of s)) ≡ n = length-take-le n (bits_of s) (rw (length_bits_of s) l) in
      omega arith

  front_rest : drop (at + w) (take n (bits_of s)) ≡ rest
  front_rest = sym (drop-drop w at (take n (bits_of s))) ∙ ap (drop w) e ∙ drop_at (digits w v) rest w (length_digits w v)

  front_drop : drop at (take n (bits_of s)) ≡ take (n - at) (drop at (bits_of s))
  front_drop =
      let h = front_within in
      let m : at + (n - at) ≡ n = omega arith in
      ap (drop at) (sym (ap (λ k. take k (bits_of s)) m) ∙ take-add at (n - at) (bits_of s))
      ∙ drop_at (take at (bits_of s)) (take (n - at) (drop at (bits_of s))) at (length-take-le at (bits_of s) (rw (length_bits_of s) (omega arith)))

  front_value : v < 2 ^ w → value_of (field_bits s w at) ≡ v
  front_value small =
      let h = front_within in
      ap value_of
      (sym (take-take w (n - at) (drop at (bits_of s)) (omega arith)) ∙ ap (take w) (sym front_drop ∙ e) ∙ take_at (digits w v) rest w (length_digits w v))
      ∙ value_of_digits w v small

-- ---- along the telegram

-- before the first field
pub along_first : (s : List ℕ) (n : ℕ) {es : List Entry} → Telegram paper es → take n (bits_of s) ≡ bits es → n ≤ 8 * length s
    → Along s n (record { node = 1; left = 0; outer = 0 }) 0 es
along_first s n t e l = record { onward = onward_first t; ahead = e; within = l }

module _ {s : List ℕ} {n : ℕ} {t : Todo} {at : ℕ} {left : List Entry} (a : Along s n t at left) where
  abbrev o : Onward t at left
  o = a.onward

  module _ {w : ℕ} (ew : w ≡ (field_at t.node).width) where
    ahead_front : drop at (take n (bits_of s)) ≡ digits w (value_due o) ++ bits (rest_due o)
    ahead_front = a.ahead ∙ bits_front o ew

    pub inside : at + w ≤ n
    inside = front_within s n at w (value_due o) (bits (rest_due o)) a.within (positive o ew) ahead_front

    -- what taking the field answers
    module _ {r : Option (ℕ × Cursor)} (er : r ≡ taken_at s n w at) where
      -- a whole field is there
      pub never_short : r ≡ None → ⊥
      never_short e =
          let h = take_whole s n w at (narrow o ew) inside a.within in
          let z : ◌≡◌ {A = ℕ} 0 1 = cc in omega arith

      module _ {v : ℕ} {d : Cursor} (ed : r ≡ Some (v, d)) where
        is_field : IsField s n w at v d.at
        is_field = taken s n w at v d (sym er ∙ ed)

        pub next_at : d.at ≡ at + w
        next_at = is_field.past

        -- the measure
        pub less : n - d.at < n - at
        less = let f = is_field in let p = positive o ew in omega (arith, f.past, f.within)

        -- it is the entry's value
        pub value_is : v ≡ value_due o
        value_is =
            is_field.value
            ∙ front_value s n at w (value_due o) (bits (rest_due o)) a.within (positive o ew) ahead_front (small o ew)

        -- after another field than the mark the run goes on
        pub along_next : {x : Option Todo} {u : Todo} → Advanced t v x → x ≡ Some u → Along s n u d.at (rest_due o)
        along_next {x} {u} h m =
            record {
              onward = subst (λ k. Onward u k (rest_due o)) (sym next_at) (onward_next o ew value_is h m);
              ahead = rw next_at (front_rest s n at w (value_due o) (bits (rest_due o)) a.within (positive o ew) ahead_front);
              within = a.within;
            }
