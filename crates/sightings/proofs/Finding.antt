-- What a look for a head finds. Assumes nothing.
use Rattle.std.specs.Prelude.{Some, None, Option, ℕ}
use mathlib.Core.List.{List, []}
use mathlib.Core.Path.{◌≡◌, refl, sym, ap, ◌∙◌}
use Prim.Native.Nat.{ℕ, ◌+◌, ◌≤◌, ◌<◌, max}
use native.Mathlib.Omega.{arith}
use lib.ListN.{length, drop}
use Rattle.bits.specs.Take.{taken_at}
use Rattle.bits.specs.declared.Cursor.{Cursor}
use Rattle.bits.proofs.Fields.{taken}
use Rattle.headers.proofs.Numbers.{drop_all}
use Rattle.states.specs.Lookback.{id_in, dir_in, long_in}
use Rattle.sightings.specs.Sightings.{head_of, head_at}

-- there is no head in no bytes
no_head : (stop at : ℕ) (r : Option (ℕ × Cursor)) → taken_at [] stop 23 at ≡ r → None ≡ head_of r
no_head stop at (Some (a, c)) e = let f = taken [] stop 23 at a c e in absurd (omega (arith, f.within, f.room))
no_head stop at None e = refl

module _ (s : List ℕ) (start stop at : ℕ) where
  pub head_outside : length s < start → None ≡ head_at (drop start s) stop at
  head_outside h = no_head stop at (taken_at [] stop 23 at) refl ∙ ap (λ (u : List ℕ). head_at u stop at) (sym (drop_all start s (omega arith)))

-- what two equal heads hold is equal
held : (x y : ℕ × ℕ × ℕ) → ◌≡◌ {A = Option (ℕ × ℕ × ℕ)} (Some x) (Some y) → x ≡ y
held x y e = cc

-- a packet that is found has a NID_PACKET of eight bits, stands whole before the stop, and goes past its head
pub record Small (stop at i l : ℕ) : Type 0 where
  pub id : i < 256
  pub whole : at + 23 ≤ stop
  pub least : 23 ≤ l
  pub most : l < 8192

pub head_small : (u : List ℕ) (stop at i d l : ℕ) → Some (i, d, l) ≡ head_at u stop at → Small stop at i l
head_small u stop at i d l e = by_way (taken_at u stop 23 at) refl e
  where
    by_way : (r : Option (ℕ × Cursor)) → taken_at u stop 23 at ≡ r → Some (i, d, l) ≡ head_of r → Small stop at i l
    by_way (Some (a, c)) f g =
        let t = taken u stop 23 at a c f in
        let h = t.small in
        let x : i ≡ id_in a = ap (λ (p : ℕ × ℕ × ℕ). p.0) (held (i, d, l) (id_in a, dir_in a, max (long_in a) 23) g) in
        let y : l ≡ max (long_in a) 23 = ap (λ (p : ℕ × ℕ × ℕ). p.2) (held (i, d, l) (id_in a, dir_in a, max (long_in a) 23) g) in
        record { id = omega arith; whole = t.within; least = omega arith; most = omega arith }
    by_way None f g = let z : ◌≡◌ {A = ℕ} 0 1 = cc in absurd (omega arith)
