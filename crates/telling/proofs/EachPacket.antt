-- The normal form of an accepted telegram is made packet by packet, each by itself. For any terms. Assumes nothing.
use mathlib.Core.List.{List, [], ◌∷◌, ◌++◌, map}
use mathlib.Core.Path.{◌≡◌, refl, sym, ap, ◌∙◌, subst}
use Prim.Native.Nat.{ℕ}
use Rattle.format.specs.Packets.Items.{end}
use Rattle.format.specs.Rules.{State, Terms}
use Rattle.format.specs.Telegrams.{Entry, divided, Run, Telegram}
use Rattle.format.specs.Normal.{view, metric, normal_under, normal}
use Rattle.format.specs.Normal.View.{scales}
use Rattle.laws.proofs.Tile.{joined, divided_joined}
use Rattle.telling.proofs.Under.{Led, led_append, metric_append, normal_append, InMetres, normal_metres, metres_append}
use Rattle.telling.proofs.Once.{shape_led, Bare, heading_bare, bare_metres, normal_front, behind_metres, Sorted, sorted}
use Rattle.telling.proofs.Once.Phase.{ahead}
use Rattle.telling.proofs.Once.Sorted.{bare, scaled}
use Rattle.telling.proofs.Shaped.{AllShaped, shaped_run, shaped}

-- ---- packets one after the other

pub joined_led : (ps : List (List Entry)) → AllShaped ps → Led (joined ps)
joined_led [] a = tt
joined_led (es ∷ ps) a = led_append es (joined ps) (shape_led es a.0) (joined_led ps a.1)

pub normal_joined : (ps : List (List Entry)) → AllShaped ps → normal (joined ps) ≡ joined (map normal ps)
unfolding normal_under
normal_joined [] a = refl
normal_joined (es ∷ ps) a =
    normal_append (joined ps) (joined_led ps a.1) 0 0 es ∙ ap (λ (l : List Entry). normal es ++ l) (normal_joined ps a.1)

abbrev pub AllInMetres : List (List Entry) → Type 0
AllInMetres [] = Unit
AllInMetres (es ∷ ps) = InMetres es × AllInMetres ps

joined_metres : (ps : List (List Entry)) → AllInMetres ps → InMetres (joined ps)
joined_metres [] a = tt
joined_metres (es ∷ ps) a = metres_append es (joined ps) a.0 (joined_metres ps a.1)

-- a packet without a scale, or whose scale is that of metres
pub sorted_metres : {es : List Entry} → Sorted es
    → ((ds : List Entry) (e : Entry) (fs : List Entry) → es ≡ ds ++ e ∷ fs → view e ≡ scales → e.value ≡ 1) → InMetres es
sorted_metres {es} (bare b) h = bare_metres es b
sorted_metres (scaled front e body b v s) h =
    metres_append front (e ∷ body) (bare_metres front b) ((λ i. h front e body refl i), behind_metres body s)

-- the packets behind some of them
shaped_behind : (ps qs : List (List Entry)) → AllShaped (ps ++ qs) → AllShaped qs
shaped_behind [] qs a = a
shaped_behind (p ∷ ps) qs a = shaped_behind ps qs a.1

module _ (p : Terms) where
  -- ---- between two packets

  -- of what is left there, no distance stands before the first scale
  pub left_led : {s : State} {es : List Entry} → Run p s es → s.todo ≡ end → Led es
  left_led {s} {es} r i =
      let a = shaped_run p r ahead (rw i tt) in
      let d = divided es in
      subst Led (divided_joined es)
      (led_append d.header (joined d.packets) (shape_led d.header a.0) (joined_led d.packets a.1))

  -- so that what came before is told by itself, and so is what is left
  pub normal_split : {s : State} {left : List Entry} → Run p s left → s.todo ≡ end → (q r : ℕ) (es : List Entry)
      → normal_under q r (es ++ left) ≡ normal_under q r es ++ normal left
  normal_split {left = left} g i q r es = normal_append left (left_led g i) q r es

  pub metric_split : {s : State} {left : List Entry} → Run p s left → s.todo ≡ end → (q : ℕ) (es : List Entry)
      → metric q (es ++ left) ≡ metric q es
  metric_split {left = left} g i q es = metric_append left (left_led g i) q es

  module _ {es : List Entry} (t : Telegram p es) where
    -- ---- the packets of a telegram

    pub header_bare : Bare (divided es).header
    header_bare = heading_bare (divided es).header (shaped p t).0

    -- `metric` up to the next scale is `metric` of the packet's own body
    pub scale_first : (ps : List (List Entry)) (front body : List Entry) (qs : List (List Entry)) → (divided es).packets ≡ ps ++ (front ++ body) ∷ qs
        → (q : ℕ) → metric q (body ++ joined qs) ≡ metric q body
    scale_first ps front body qs e q =
        let a : AllShaped ((front ++ body) ∷ qs) = shaped_behind ps ((front ++ body) ∷ qs) (subst AllShaped e (shaped p t).1) in
        metric_append (joined qs) (joined_led qs a.1) q body

    -- each packet has no scale, or one with no distance before it and no scale behind it
    pub each_sorted : (ps : List (List Entry)) (packet : List Entry) (qs : List (List Entry)) → (divided es).packets ≡ ps ++ packet ∷ qs
        → Sorted packet
    each_sorted ps packet qs e = sorted packet (shaped_behind ps (packet ∷ qs) (subst AllShaped e (shaped p t).1)).0

    -- the header as it is, and each packet by itself
    pub normal_packets : normal es ≡ (divided es).header ++ joined (map normal (divided es).packets)
    normal_packets =
        let d = divided es in
        ap normal (sym (divided_joined es))
        ∙ normal_front 0 0 d.header (joined d.packets) header_bare
        ∙ ap (λ (l : List Entry). d.header ++ l) (normal_joined d.packets (shaped p t).1)

    -- where every packet is in metres or has no scale, it is its own normal form
    pub normal_itself : AllInMetres (divided es).packets → normal es ≡ es
    normal_itself m =
        let d = divided es in
        normal_metres 0 es
        (subst InMetres (divided_joined es)
        (metres_append d.header (joined d.packets) (bare_metres d.header header_bare) (joined_metres d.packets m)))
