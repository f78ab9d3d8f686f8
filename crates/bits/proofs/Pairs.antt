-- What two equal answers hold is equal, part by part. Assumes nothing.
use Rattle.std.specs.Prelude.{Some, Option}
use mathlib.Core.Path.{◌≡◌, ap}

pub held : {A : Type 0} (x y : A) → ◌≡◌ {A = Option A} (Some x) (Some y) → x ≡ y
held x y e = cc

pub held_both : {A B : Type 0} (a c : A) (b d : B) → ◌≡◌ {A = Option (A × B)} (Some (a, b)) (Some (c, d)) → (a ≡ c) × (b ≡ d)
held_both {A = A} {B = B} a c b d e =
    let p : ◌≡◌ {A = A × B} (a, b) (c, d) = held {A = A × B} (a, b) (c, d) e in
    (ap (λ (q : A × B). q.0) p, ap (λ (q : A × B). q.1) p)
