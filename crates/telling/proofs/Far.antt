-- Packets that are in metres or have no scale, by where their scale stands: a telegram of such packets is its own normal form. Assumes nothing.
use mathlib.Core.List.{List, [], ◌∷◌, ◌++◌}
use mathlib.Core.Path.{◌≡◌, refl, sym, subst}
use Prim.Native.Nat.{ℕ}
use native.Mathlib.Omega.{arith}
use Rattle.format.specs.Fields.{NID_XUSER, Q_DIR, L_PACKET}
use Rattle.format.specs.Telegrams.{Entry}
use Rattle.format.specs.Normal.{normal}
use Rattle.format.specs.Among.{holding}
use Rattle.laws.proofs.Tile.{end_mark}
use Rattle.laws.proofs.Whole.{headed}
use Rattle.telling.proofs.Under.{InMetres, metres_append, normal_metres}
use Rattle.telling.proofs.Once.{bare_metres, behind_metres}
use Rattle.telling.proofs.Faced.{Body, Faced, packet_faced}
use Rattle.telling.proofs.Faced.Body.{own, unscaled}
use Rattle.telling.proofs.Faced.Faced.{outer, inner}
use Rattle.telling.proofs.InOrder.{InOrder, Laid}
use Rattle.telling.proofs.InOrder.InOrder.{no_more, packet_then}

-- the scale that stands behind a head, if one does, is that of metres
abbrev pub MetreBody : {es : List Entry} → Body es → Type 0
MetreBody (own q rest s) = q ≡ 1
MetreBody (unscaled b) = Unit

abbrev pub MetreFaced : {es : List Entry} → Faced es → Type 0
MetreFaced (outer b) = MetreBody b
MetreFaced (inner x d n b) = MetreBody b

body_metres_lem : {es : List Entry} (b : Body es) → MetreBody b → InMetres es
body_metres_lem (own q rest s) m = ((λ h. m), behind_metres rest s)
body_metres_lem {es} (unscaled b) m = bare_metres es b

faced_body : {es : List Entry} (f : Faced es) → MetreFaced f → InMetres es
faced_body (outer b) m = body_metres_lem b m
faced_body (inner x d n {es} b) m =
    let front = holding NID_XUSER x ∷ holding Q_DIR d ∷ holding L_PACKET n ∷ [] in
    metres_append front es (bare_metres front (refl, (refl, (refl, tt)))) (body_metres_lem b m)

pub packet_in_metres : (i d n : ℕ) {body : List Entry} (f : Faced body) → MetreFaced f → InMetres (headed i d n body)
packet_in_metres i d n {body} f m = metres_append (headed i d n []) body (bare_metres (headed i d n []) (refl, (refl, (refl, tt)))) (faced_body f m)

-- each of the packets
abbrev pub AllMetres : {es : List Entry} → InOrder es → Type 0
AllMetres no_more = Unit
AllMetres (packet_then b h) = MetreFaced (packet_faced b) × AllMetres h

order_metres : {es : List Entry} (h : InOrder es) → AllMetres h → InMetres es
order_metres no_more m = tt
order_metres (packet_then {i} {d} {n} {body} {es} b h) m =
    metres_append (headed i d n body) es (packet_in_metres i d n (packet_faced b) m.0) (order_metres h m.1)

mark_metres : InMetres (end_mark ∷ [])
mark_metres = ((λ h. let z : ◌≡◌ {A = ℕ} 0 1 = cc in absurd (omega arith)), tt)

-- the header and the end mark have no scale
pub laid_metres : {es : List Entry} (l : Laid es) → InMetres l.packets → normal es ≡ es
laid_metres {es} l m =
    let k = l.packets ++ (end_mark ∷ []) in
    normal_metres 0 es
    (subst InMetres (sym l.parts)
    (metres_append l.header k (bare_metres l.header l.plain) (metres_append l.packets (end_mark ∷ []) m mark_metres)))

pub laid_itself : {es : List Entry} (l : Laid es) → AllMetres l.order → normal es ≡ es
laid_itself l m = laid_metres l (order_metres l.order m)
