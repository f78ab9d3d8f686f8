-- Telegrams put one after the other into a buffer are the parts that are found there: so the order of arrival is an order of these. Assumes nothing.
use mathlib.Core.List.{List, [], ◌∷◌, ◌++◌, append-nil, map}
use mathlib.Core.List.{Permᴰ}
use mathlib.Core.Path.{◌≡◌, refl, sym, ap, ap₂, ◌∙◌, subst}
use Prim.Native.Nat.{ℕ}
use lib.ListN.{length}
use lib.Seq.{take_at, drop_at}
use Rattle.bits.specs.Bits.{bytes_for}
use Rattle.format.specs.Rules.{Terms}
use Rattle.group.specs.Groups.{Part, Member, parts, group}
use Rattle.group.specs.Groups.Message.{lists}
use Rattle.group_laws.proofs.Arrival.{order_of_arrival}

-- "each from a fresh byte": the bytes of all, and their n
abbrev pub buffer : List Part → List ℕ
buffer [] = []
buffer (x ∷ xs) = x.bytes ++ buffer xs

abbrev pub sizes : List Part → List ℕ
sizes xs = map (λ x. x.size) xs

-- each has as many bytes as its bits take
abbrev pub Exact : List Part → Type 0
Exact [] = Unit
Exact (x ∷ xs) = (length x.bytes ≡ bytes_for x.size) × Exact xs

pub parts_joined : (xs : List Part) → Exact xs → parts (buffer xs) (sizes xs) ≡ xs
unfolding parts
parts_joined [] e = refl
parts_joined (x ∷ []) e = ap (λ s. record { bytes = s; size = x.size } ∷ []) (append-nil x.bytes)
parts_joined (x ∷ y ∷ xs) e =
    ap₂ (λ s l. record { bytes = s; size = x.size } ∷ l) (take_at x.bytes (buffer (y ∷ xs)) (bytes_for x.size) e.0)
    (ap (λ s. parts s (sizes (y ∷ xs))) (drop_at x.bytes (buffer (y ∷ xs)) (bytes_for x.size) e.0) ∙ parts_joined (y ∷ xs) e.1)

-- "The order of arrival changes neither acceptance nor an accepted group's answer", of telegrams put together in either order
pub put_in_any_order : (p : Terms) (xs ys : List Part) (room : ℕ) (l : List Member) → Exact xs → Exact ys → Permᴰ xs ys
    → group p (buffer xs) (sizes xs) room ≡ lists l → group p (buffer ys) (sizes ys) room ≡ lists l
put_in_any_order p xs ys room l a b d h =
    order_of_arrival p (buffer xs) (buffer ys) (sizes xs) (sizes ys) room l
    (subst (λ z. Permᴰ z (parts (buffer ys) (sizes ys))) (sym (parts_joined xs a)) (subst (λ z. Permᴰ xs z) (sym (parts_joined ys b)) d)) h
