-- Whatever packet stands at a bit: what is put by its NID_PACKET, and by the NID_XUSER of a CTCS packet in it, leaves its normal form there. So a
-- walk over the packets of an accepted telegram leaves that of the telegram. Assumes nothing.
use mathlib.Core.Bool.{Bool, true, false, cond}
use mathlib.Core.List.{List, [], ◌∷◌, ◌++◌}
use mathlib.Core.Option.{Option, some, none}
use mathlib.Core.Path.{◌≡◌, refl, sym, ap, ◌∙◌, subst}
use Prim.Native.Nat.{ℕ, ◌+◌}
use native.Mathlib.Omega.{arith}
use lib.Dec.{T, eqb}
use lib.ListN.{length, take, drop}
use borrow.Author.Tests.{eqb-true}
use Rattle.bits.specs.Bits.{bits_of}
use Rattle.format.specs.Among.{holding}
use Rattle.format.specs.Fields.{NID_PACKET, NID_XUSER, Q_DIR, L_PACKET}
use Rattle.format.specs.Normal.{normal}
use Rattle.format.specs.Packets.{Items, Packet, find, etcs, ctcs}
use Rattle.format.specs.Rules.{Terms, next}
use Rattle.format.specs.Telegrams.{Entry, bits, Telegram}
use Rattle.laws.proofs.Headed.{with_head}
use Rattle.laws.proofs.Whole.{headed}
use Rattle.telling.proofs.Under.{normal_metres}
use Rattle.telling.proofs.Once.Phase.{heading}
use Rattle.telling.proofs.Scales.{ordered}
use Rattle.telling.proofs.AtBits.{value_there, value_there_lem}
use Rattle.telling.proofs.InOrder.{laid}
use Rattle.telling.proofs.Decided.{PacketAt}
use Rattle.telling.proofs.MetresThere.{metres_there, there_none, there_user_none, packet_there, packet_count}
use Rattle.told.specs.Decides.{user_put, kind_put, packet_put, packet_end}
use Rattle.told.specs.Metres.{number_in, each_put}
use Rattle.told.proofs.Overwritten.{Holds}
use Rattle.told.proofs.ToldPackets.{told_whole}
use Rattle.told.proofs.ScaledInMetres.{told_5, told_21, told_27, told_41, told_68, told_72, told_79, told_131}
use Rattle.told.proofs.UserInMetres.{told_user_1, told_user_2, told_user_3, told_user_4}
use Rattle.told.proofs.ToldTelegrams.{Normalises, telegram_told}

-- ---- kinds that have no scale

-- behind the head neither a scale nor a distance
pub data Quiet : Items → Type 0 where
  quiet : {r : Items} → T (ordered heading r) → Quiet (with_head r)

-- of each packet of a table that has the number i
abbrev Quietly : ℕ → List Packet → Type 0
Quietly i [] = Unit
Quietly i (p ∷ ps) = (eqb i p.id ≡ true → Quiet p.items) × Quietly i ps

quiet_found : (i : ℕ) (ps : List Packet) → Quietly i ps → (t : Items) → find i ps ≡ some t → Quiet t
unfolding find
quiet_found i [] h t e = let z : ◌≡◌ {A = ℕ} 0 1 = cc in absurd (omega arith)
quiet_found i (p ∷ ps) h t e = by_test (eqb i p.id) refl (quiet_found i ps h.1 t) e
  where
    by_test : (b : Bool) → eqb i p.id ≡ b → (find i ps ≡ some t → Quiet t) → cond b (some p.items) (find i ps) ≡ some t → Quiet t
    by_test true g ih k = let j : p.items ≡ t = cc in subst Quiet j (h.0 g)
    by_test false g ih k = ih k

-- a number that it has not
not_it : {A : Type 0} (i k : ℕ) → eqb i k ≡ false → eqb i k ≡ true → A
not_it i k e h = let z : ◌≡◌ {A = ℕ} 0 1 = cc in absurd (omega arith)

-- ETCS-42, 46, 132, 137 and 254
others : (i : ℕ) → eqb i 5 ≡ false → eqb i 21 ≡ false → eqb i 27 ≡ false → eqb i 41 ≡ false → eqb i 44 ≡ false → eqb i 68 ≡ false
    → eqb i 72 ≡ false → eqb i 79 ≡ false → eqb i 131 ≡ false → Quietly i etcs
unfolding etcs
others i e5 e21 e27 e41 e44 e68 e72 e79 e131 =
    let last : Quietly i (drop 11 etcs) = ((λ h. quiet tt), ((λ h. quiet tt), ((λ h. quiet tt), tt))) in
    let more : Quietly i (drop 6 etcs) = ((λ h. quiet tt), (not_it i 68 e68, (not_it i 72 e72, (not_it i 79 e79, (not_it i 131 e131, last))))) in
    (not_it i 5 e5, (not_it i 21 e21, (not_it i 27 e27, (not_it i 41 e41, ((λ h. quiet tt), (not_it i 44 e44, more))))))

-- CTCS-5
other_users : (u : ℕ) → eqb u 1 ≡ false → eqb u 2 ≡ false → eqb u 3 ≡ false → eqb u 4 ≡ false → Quietly u ctcs
unfolding ctcs
other_users u e1 e2 e3 e4 = (not_it u 1 e1, (not_it u 2 e2, (not_it u 3 e3, (not_it u 4 e4, ((λ h. quiet tt), tt)))))

-- a NID_XUSER that leads to no packet
user_none : (s : List ℕ) (x : ℕ) → value_there s NID_PACKET x ≡ 44 → find (value_there s NID_XUSER (x + 23)) ctcs ≡ none → metres_there s x ≡ true
unfolding find etcs
user_none s x h e = rw (h, e)

-- ---- one packet

module _ (s : List ℕ) (x d n : ℕ) (body : List Entry) where
  -- what is put for the packet with the number i leaves its normal form in its place
  abbrev Leaves : ℕ → (List ℕ → List ℕ) → Type 0
  Leaves i puts =
      (out pre post : List ℕ) → length pre ≡ x → Holds out pre (headed i d n body) post → Holds (puts out) pre (normal (headed i d n body)) post

  -- in metres, or without a scale
  itself : {i : ℕ} → PacketAt s x i d n body → metres_there s x ≡ true → Leaves i (λ out. out)
  itself {i} p m out pre post l e =
      e ∙ ap (λ (k : List Entry). pre ++ (bits k ++ post)) (sym (normal_metres 0 (headed i d n body) (packet_there s x p m)))

  -- by a number: k, or another
  by_one : (i k : ℕ) (a b : List ℕ → List ℕ) → PacketAt s x i d n body → (PacketAt s x k d n body → Leaves k a) → (eqb i k ≡ false → Leaves i b)
      → Leaves i (λ out. cond (eqb i k) (a out) (b out))
  by_one i k a b p f g = by_test (eqb i k) refl
    where
      by_test : (c : Bool) → eqb i k ≡ c → Leaves i (λ out. cond c (a out) (b out))
      by_test true h = subst (λ (j : ℕ). PacketAt s x j d n body → Leaves j a) (sym (eqb-true i k h)) f p
      by_test false h = g h

  by_user : (u k : ℕ) (a b : List ℕ → List ℕ) → (u ≡ k → Leaves 44 a) → (eqb u k ≡ false → Leaves 44 b)
      → Leaves 44 (λ out. cond (eqb u k) (a out) (b out))
  by_user u k a b f g = by_test (eqb u k) refl
    where
      by_test : (c : Bool) → eqb u k ≡ c → Leaves 44 (λ out. cond c (a out) (b out))
      by_test true h = f (eqb-true u k h)
      by_test false h = g h

  -- its number stands at its first bit
  number_there : {i : ℕ} → PacketAt s x i d n body → value_there s NID_PACKET x ≡ i
  number_there {i} p =
      sym (value_there_lem s x (holding NID_PACKET i) (holding Q_DIR d ∷ holding L_PACKET n ∷ body) p.there p.packet.began.small)

  quiet_there : {i : ℕ} → PacketAt s x i d n body → Quietly i etcs → metres_there s x ≡ true
  unfolding next
  quiet_there {i} p h =
      let b = p.packet.began in
      by_items b.items (quiet_found i etcs h b.items b.found) b.found
    where
      by_items : (t : Items) → Quiet t → find i etcs ≡ some t → metres_there s x ≡ true
      by_items _ (quiet {r} o) e = there_none s x i r e o (number_there p)

  -- of the CTCS packet in it, by the items that its NID_XUSER leads to, if it leads to any
  user_quiet : PacketAt s x 44 d n body → Quietly (value_there s NID_XUSER (x + 23)) ctcs → metres_there s x ≡ true
  user_quiet p h = by_found (find u ctcs) refl
    where
      u : ℕ
      u = value_there s NID_XUSER (x + 23)

      by_items : (t : Items) → Quiet t → find u ctcs ≡ some t → metres_there s x ≡ true
      by_items _ (quiet {r} o) e = there_user_none s x u r e o (number_there p) refl

      by_found : (o : Option Items) → find u ctcs ≡ o → metres_there s x ≡ true
      by_found none e = user_none s x (number_there p) e
      by_found (some t) e = by_items t (quiet_found u ctcs h t e) e

  user_leaves : PacketAt s x 44 d n body → Leaves 44 (user_put s x (number_in s 9 (x + 23)))
  user_leaves p =
      let u = value_there s NID_XUSER (x + 23) in
      by_user u 1 _ _ (λ h. told_whole s x (told_user_1 s x p h)) (λ e1.
      by_user u 2 _ _ (λ h. told_whole s x (told_user_2 s x p h)) (λ e2.
      by_user u 3 _ _ (λ h. told_whole s x (told_user_3 s x p h)) (λ e3.
      by_user u 4 _ _ (λ h. told_whole s x (told_user_4 s x p h)) (λ e4.
      itself p (user_quiet p (other_users u e1 e2 e3 e4))))))

  -- in the order of `kind_put`
  pub kind_leaves : (i : ℕ) → PacketAt s x i d n body → Leaves i (kind_put s x i)
  kind_leaves i p =
      by_one i 5 _ _ p (λ o. told_whole s x (told_5 s x o)) (λ e5.
      by_one i 21 _ _ p (λ o. told_whole s x (told_21 s x o)) (λ e21.
      by_one i 27 _ _ p (λ o. told_whole s x (told_27 s x o)) (λ e27.
      by_one i 41 _ _ p (λ o. told_whole s x (told_41 s x o)) (λ e41.
      by_one i 44 _ _ p user_leaves (λ e44.
      by_one i 68 _ _ p (λ o. told_whole s x (told_68 s x o)) (λ e68.
      by_one i 72 _ _ p (λ o. told_whole s x (told_72 s x o)) (λ e72.
      by_one i 79 _ _ p (λ o. told_whole s x (told_79 s x o)) (λ e79.
      by_one i 131 _ _ p (λ o. told_whole s x (told_131 s x o)) (λ e131.
      itself p (quiet_there p (others i e5 e21 e27 e41 e44 e68 e72 e79 e131)))))))))))

-- ---- every packet, and so a telegram

pub packet_normalises : (s : List ℕ) → Normalises s (packet_put s)
packet_normalises s = record { leaves = at_bit }
  where
    at_bit : (x : ℕ) {i d n : ℕ} {body : List Entry} → PacketAt s x i d n body → (out pre post : List ℕ) → length pre ≡ x
        → Holds out pre (headed i d n body) post → Holds (packet_put s x out) pre (normal (headed i d n body)) post
    at_bit x {i} {d} {n} {body} p out pre post l e =
        ap (λ (j : ℕ). bits_of (kind_put s x j out)) (number_there s x d n body p) ∙ kind_leaves s x d n body i p out pre post l e

-- An accepted telegram in s, and out that begins with it: one packet behind the other, from the end of the header on.
pub telegram_in_metres : (s : List ℕ) (p : Terms) {es : List Entry} (t : Telegram p es) (n : ℕ) → take n (bits_of s) ≡ bits es
    → (out post : List ℕ) → bits_of out ≡ bits es ++ post
    → bits_of (each_put (packet_put s) (packet_end s) (packet_count (laid p t).order) 50 out) ≡ bits (normal es) ++ post
telegram_in_metres s p t n h out post e = telegram_told s (packet_put s) (packet_normalises s) p t n h out post e
