-- What a value leaves for later rules: each case of the code, over any state. Assumes nothing.
use mathlib.Core.Path.{◌≡◌, refl}
use mathlib.Core.List.{List}
use mathlib.Core.Bool.{true, false}
use Prim.Native.Nat.{ℕ, zero, suc, ◌-◌}
use native.Mathlib.Omega.{arith}
use borrow.Author.Tests.{eq-eqb, ne_eqb}
use lib.Dec.{eqb}
use Rattle.format.specs.Rules.{Earlier, noted, closes}
use Rattle.states.specs.Machine.{Noted, sense_of, context_of, level_of}
use Rattle.states.specs.declared.Level.TheVariants.{Header, Packet, User}
use Rattle.states.specs.declared.State.{State}

-- the state with another Q_DIR, L_PACKET, inner L_PACKET or N_PIG
abbrev pub with_dir : State → ℕ → State
with_dir s v = record { at = s.at; todo = s.todo; level = s.level; start = s.start; id = s.id; dir = v; long = s.long; userstart = s.userstart; userlong = s.userlong; pig = s.pig }

abbrev pub with_long : State → ℕ → State
with_long s v = record { at = s.at; todo = s.todo; level = s.level; start = s.start; id = s.id; dir = s.dir; long = v; userstart = s.userstart; userlong = s.userlong; pig = s.pig }

abbrev with_user_long : State → ℕ → State
with_user_long s v = record { at = s.at; todo = s.todo; level = s.level; start = s.start; id = s.id; dir = s.dir; long = s.long; userstart = s.userstart; userlong = v; pig = s.pig }

abbrev pub with_pig : State → ℕ → State
with_pig s v = record { at = s.at; todo = s.todo; level = s.level; start = s.start; id = s.id; dir = s.dir; long = s.long; userstart = s.userstart; userlong = s.userlong; pig = v }

-- the state in the packet that an NID_PACKET begins
abbrev pub in_packet : State → ℕ → State
in_packet s v = record { at = s.at; todo = s.todo; level = Packet; start = s.start; id = v; dir = 0; long = 0; userstart = 0; userlong = 0; pig = s.pig }

-- the state in the CTCS packet that an NID_XUSER begins
abbrev pub in_user : State → State
in_user s = record { at = s.at; todo = s.todo; level = User; start = s.start; id = s.id; dir = s.dir; long = s.long; userstart = s.at; userlong = 0; pig = s.pig }

module _ (s : State) (v : ℕ) where
  -- Q_DIR
  pub dir_header : s.level ≡ Header → Noted s 9 v s
  unfolding noted sense_of
  dir_header e = record { right = λ a b l. rw e; here = refl; same = refl; first = refl; second = λ h. h }

  pub dir_packet : s.level ≡ Packet → Noted s 9 v (with_dir s v)
  unfolding noted sense_of
  dir_packet e = record { right = λ a b l. rw e; here = refl; same = refl; first = refl; second = λ h. h }

  pub dir_user : s.level ≡ User → Noted s 9 v s
  unfolding noted sense_of
  dir_user e = record { right = λ a b l. rw e; here = refl; same = refl; first = refl; second = λ h. h }

  -- L_PACKET
  pub long_header : s.level ≡ Header → Noted s 3 v s
  unfolding noted sense_of
  long_header e = record { right = λ a b l. rw e; here = refl; same = refl; first = refl; second = λ h. h }

  pub long_packet : s.level ≡ Packet → Noted s 3 v (with_long s v)
  unfolding noted sense_of
  long_packet e = record { right = λ a b l. rw e; here = refl; same = refl; first = refl; second = λ h. h }

  pub long_user : s.level ≡ User → Noted s 3 v (with_user_long s v)
  unfolding noted sense_of
  long_user e = record { right = λ a b l. rw e; here = refl; same = refl; first = refl; second = λ h. h }

  -- N_PIG
  pub pig_any : Noted s 4 v (with_pig s v)
  unfolding noted sense_of
  pig_any = record { right = λ a b l. refl; here = refl; same = refl; first = refl; second = λ h. h }

  -- NID_PACKET and NID_XUSER
  pub packet_opens : Noted s 7 v (in_packet s v)
  unfolding noted sense_of
  packet_opens = record { right = λ a b l. refl; here = refl; same = refl; first = refl; second = λ h. omega arith }

  pub user_opens : Noted s 8 v (in_user s)
  unfolding noted sense_of
  user_opens = record { right = λ a b l. refl; here = refl; same = refl; first = refl; second = λ h. omega arith }

  -- of any other field nothing is kept
  pub nothing : (c : ℕ) → (c ≡ 9 → ⊥) → (c ≡ 3 → ⊥) → (c ≡ 7 → ⊥) → (c ≡ 8 → ⊥) → (c ≡ 4 → ⊥) → Noted s c v s
  unfolding noted sense_of
  nothing zero a b d e f = record { right = λ x y l. refl; here = refl; same = refl; first = refl; second = λ h. h }
  nothing (suc zero) a b d e f = record { right = λ x y l. refl; here = refl; same = refl; first = refl; second = λ h. h }
  nothing (suc (suc zero)) a b d e f = record { right = λ x y l. refl; here = refl; same = refl; first = refl; second = λ h. h }
  nothing (suc (suc (suc zero))) a b d e f = absurd (b refl)
  nothing (suc (suc (suc (suc zero)))) a b d e f = absurd (f refl)
  nothing (suc (suc (suc (suc (suc zero))))) a b d e f = record { right = λ x y l. refl; here = refl; same = refl; first = refl; second = λ h. h }
  nothing (suc (suc (suc (suc (suc (suc zero)))))) a b d e f = record { right = λ x y l. refl; here = refl; same = refl; first = refl; second = λ h. h }
  nothing (suc (suc (suc (suc (suc (suc (suc zero))))))) a b d e f = absurd (d refl)
  nothing (suc (suc (suc (suc (suc (suc (suc (suc zero)))))))) a b d e f = absurd (e refl)
  nothing (suc (suc (suc (suc (suc (suc (suc (suc (suc zero))))))))) a b d e f = absurd (a refl)
  nothing (suc (suc (suc (suc (suc (suc (suc (suc (suc (suc zero)))))))))) a b d e f = record { right = λ x y l. refl; here = refl; same = refl; first = refl; second = λ h. h }
  nothing (suc (suc (suc (suc (suc (suc (suc (suc (suc (suc (suc c))))))))))) a b d e f = record { right = λ x y l. refl; here = refl; same = refl; first = refl; second = λ h. h }

-- ---- a packet's end

module _ (s : State) (at : ℕ) (l : List Earlier) where
  pub closes_header : s.level ≡ Header → true ≡ closes at (context_of l s) (level_of s.level)
  unfolding closes
  closes_header e = rw e

  pub closes_packet : s.level ≡ Packet → eqb (at - s.start) s.long ≡ closes at (context_of l s) (level_of s.level)
  unfolding closes
  closes_packet e = rw e

  pub closes_inner : s.level ≡ User → (at - s.userstart ≡ s.userlong → ⊥)
      → false ≡ closes at (context_of l s) (level_of s.level)
  unfolding closes
  closes_inner e n = rw e (simp (ne_eqb (at - s.userstart) s.userlong n))

  pub closes_outer : s.level ≡ User → at - s.userstart ≡ s.userlong
      → eqb (at - s.start) s.long ≡ closes at (context_of l s) (level_of s.level)
  unfolding closes
  closes_outer e n = rw e (simp (eq-eqb (at - s.userstart) s.userlong n))
