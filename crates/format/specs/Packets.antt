-- docs/RULES.md, "Header" and "Packets": what is sent, in order of sending, as data. Definitions alone.
use Rattle.std.specs.Prelude.{cond, List, [], ◌∷◌, ℕ, zero, suc, eqb}
use Rattle.std.proofs.Math.Option.{Option, some, none}
use Rattle.format.specs.Fields.{Field, Switch, Q_UPDOWN, M_VERSION, Q_MEDIA, N_PIG, N_TOTAL, M_DUP, M_MCOUNT, NID_C, NID_BG, Q_LINK, Q_DIR, L_PACKET, Q_SCALE, N_ITER, D_LINK, Q_NEWCOUNTRY, Q_LINKORIENTATION, Q_LINKREACTION, Q_LOCACC, D_GRADIENT, Q_GDIR, G_A, D_STATIC, V_STATIC, Q_FRONT, NC_DIFF, V_DIFF, D_LEVELTR, M_LEVELTR, NID_STM, L_ACKLEVELTR, Q_RBC, NID_RBC, NID_RADIO, Q_SLEEPSESSION, Q_TRACKINIT, D_TRACKINIT, D_TRACKCOND, L_TRACKCOND, M_TRACKCOND, Q_TEXTCLASS, Q_TEXTDISPLAY, D_TEXTDISPLAY, M_MODETEXTDISPLAY, M_LEVELTEXTDISPLAY, L_TEXTDISPLAY, T_TEXTDISPLAY, Q_TEXTCONFIRM, L_TEXT, X_TEXT, D_POSOFF, Q_MPOSITION, M_POSITION, D_RBCTR, Q_ASPECT, Q_SRSTOP, D_SIGNAL, NID_SIGNAL, NID_FREQUENCY, L_SECTION, L_TSRarea, D_TSR, L_TSR, V_TSR, D_STARTREVERSE, L_REVERSEAREA, D_TURNOUT, V_TURNOUT, Q_STOP}

-- Fields in order of sending. Each constructor but the first two holds what is sent after it.
pub data Items : Type 0 where
  end : Items
  -- "then one CTCS packet, which begins with NID_XUSER"
  nest : Items
  send : Field → Items → Items
  -- a field, and the second "only if that is 1"
  send_if : Switch → Field → Items → Items
  -- a field that says which of two ways it goes on: the first if it is 1
  send_either : Switch → Items → Items → Items
  -- a field, and a group as many times as it says
  send_times : Switch → Items → Items → Items

infixr 6 ◌▸◌
abbrev pub ◌▸◌ : Field → Items → Items
f ▸ r = send f r

infixr 5 ◌⧺◌
unfoldable pub ◌⧺◌ : Items → Items → Items
end ⧺ r = r
nest ⧺ r = nest
send f a ⧺ r = send f (a ⧺ r)
send_if c f a ⧺ r = send_if c f (a ⧺ r)
send_either c a b ⧺ r = send_either c (a ⧺ r) (b ⧺ r)
send_times c g a ⧺ r = send_times c g (a ⧺ r)

unfoldable pub times : ℕ → Items → Items → Items
unfolding ◌⧺◌
times zero g r = r
times (suc k) g r = g ⧺ times k g r

-- "A list is N_ITER 5 and that many further groups (k)"
listed : Items → Items
unfolding ◌⧺◌
listed g = g ⧺ send_times N_ITER g end

-- "Header, 50 bits (table 1)"
unfoldable pub header : Items
header = Q_UPDOWN ▸ M_VERSION ▸ Q_MEDIA ▸ N_PIG ▸ N_TOTAL ▸ M_DUP ▸ M_MCOUNT ▸ NID_C ▸ NID_BG ▸ Q_LINK ▸ end

-- "Head A is NID_PACKET 8, Q_DIR 2, L_PACKET 13. Head B is head A and Q_SCALE 2": what follows the identifier
head_a : Items → Items
head_a r = Q_DIR ▸ L_PACKET ▸ r

head_b : Items → Items
head_b r = head_a (Q_SCALE ▸ r)

-- **5**: B; group D_LINK 15, Q_NEWCOUNTRY 1, NID_C 10 only if that is 1, NID_BG 14, Q_LINKORIENTATION 1, Q_LINKREACTION 2, Q_LOCACC 6; list
linking : Items
linking =
    head_b (listed (D_LINK ▸ send_if Q_NEWCOUNTRY NID_C (NID_BG ▸ Q_LINKORIENTATION ▸ Q_LINKREACTION ▸ Q_LOCACC ▸ end)))

-- **21**: B; group D_GRADIENT 15, Q_GDIR 1, G_A 8; list
gradient : Items
gradient = head_b (listed (D_GRADIENT ▸ Q_GDIR ▸ G_A ▸ end))

-- **27**: B; group D_STATIC 15, V_STATIC 7, Q_FRONT 1, and an inner list (N_ITER 5) of NC_DIFF 4, V_DIFF 7; list of groups
speed : Items
speed = head_b (listed (D_STATIC ▸ V_STATIC ▸ Q_FRONT ▸ send_times N_ITER (NC_DIFF ▸ V_DIFF ▸ end) end))

-- **41**: B; D_LEVELTR 15; group M_LEVELTR 3, NID_STM 8 only if that is 1, L_ACKLEVELTR 15; list
level : Items
level = head_b (D_LEVELTR ▸ listed (send_if M_LEVELTR NID_STM (L_ACKLEVELTR ▸ end)))

-- **42**: A; Q_RBC 1, NID_C 10, NID_RBC 14, NID_RADIO 64, Q_SLEEPSESSION 1
session : Items
session = head_a (Q_RBC ▸ NID_C ▸ NID_RBC ▸ NID_RADIO ▸ Q_SLEEPSESSION ▸ end)

-- **44**: A, then one CTCS packet
national : Items
national = head_a nest

-- **46**: A; group M_LEVELTR 3, NID_STM 8 only if that is 1; list
conditional : Items
conditional = head_a (listed (send_if M_LEVELTR NID_STM end))

-- **68**: B; Q_TRACKINIT 1. If 1: D_TRACKINIT 15 and the packet ends. If 0: group D_TRACKCOND 15, L_TRACKCOND 15, M_TRACKCOND 4; list
track : Items
track = head_b (send_either Q_TRACKINIT (D_TRACKINIT ▸ end) (listed (D_TRACKCOND ▸ L_TRACKCOND ▸ M_TRACKCOND ▸ end)))

-- **72**: B; Q_TEXTCLASS 2, Q_TEXTDISPLAY 1, D_TEXTDISPLAY 15, M_MODETEXTDISPLAY 4, M_LEVELTEXTDISPLAY 3, NID_STM 8 only if that is 1,
-- L_TEXTDISPLAY 15, T_TEXTDISPLAY 10, M_MODETEXTDISPLAY 4, M_LEVELTEXTDISPLAY 3, NID_STM 8 only if that is 1, Q_TEXTCONFIRM 2,
-- L_TEXT 8, that many X_TEXT 8
text : Items
text =
    head_b
    (Q_TEXTCLASS ▸ Q_TEXTDISPLAY ▸ D_TEXTDISPLAY ▸ M_MODETEXTDISPLAY ▸ send_if M_LEVELTEXTDISPLAY NID_STM
    (L_TEXTDISPLAY ▸ T_TEXTDISPLAY ▸ M_MODETEXTDISPLAY ▸ send_if M_LEVELTEXTDISPLAY NID_STM
    (Q_TEXTCONFIRM ▸ send_times L_TEXT (X_TEXT ▸ end) end)))

-- **79**: B; group Q_NEWCOUNTRY 1, NID_C 10 only if 1, NID_BG 14, D_POSOFF 15, Q_MPOSITION 1, M_POSITION 20; list
position : Items
position = head_b (listed (send_if Q_NEWCOUNTRY NID_C (NID_BG ▸ D_POSOFF ▸ Q_MPOSITION ▸ M_POSITION ▸ end)))

-- **131**: B; D_RBCTR 15, NID_C 10, NID_RBC 14, NID_RADIO 64, Q_SLEEPSESSION 1
transition : Items
transition = head_b (D_RBCTR ▸ NID_C ▸ NID_RBC ▸ NID_RADIO ▸ Q_SLEEPSESSION ▸ end)

-- **132**: A; Q_ASPECT 1
shunting : Items
shunting = head_a (Q_ASPECT ▸ end)

-- **137**: A; Q_SRSTOP 1
sight : Items
sight = head_a (Q_SRSTOP ▸ end)

-- **254**: A
default : Items
default = head_a end

-- CTCS packets have NID_XUSER 9, Q_DIR 2, L_PACKET 13, and Q_SCALE 2 except CTCS-5.
-- **1**: D_SIGNAL 15; group NID_SIGNAL 4, NID_FREQUENCY 5, L_SECTION 15; list
circuits : Items
circuits = head_b (D_SIGNAL ▸ listed (NID_SIGNAL ▸ NID_FREQUENCY ▸ L_SECTION ▸ end))

-- **2**: L_TSRarea 15; group D_TSR 15, L_TSR 15, Q_FRONT 1, V_TSR 7; list
restriction : Items
restriction = head_b (L_TSRarea ▸ listed (D_TSR ▸ L_TSR ▸ Q_FRONT ▸ V_TSR ▸ end))

-- **3**: D_STARTREVERSE 15, L_REVERSEAREA 15
reversing : Items
reversing = head_b (D_STARTREVERSE ▸ L_REVERSEAREA ▸ end)

-- **4**: D_TURNOUT 15, V_TURNOUT 7
turnout : Items
turnout = head_b (D_TURNOUT ▸ V_TURNOUT ▸ end)

-- **5**: Q_STOP 1
stopping : Items
stopping = head_a (Q_STOP ▸ end)

-- a packet: the value of its NID_PACKET or NID_XUSER, and what follows that
pub record Packet : Type 0 where
  pub id : ℕ
  pub items : Items

abbrev packet : ℕ → Items → Packet
packet i t = record { id = i; items = t }

unfoldable pub etcs : List Packet
unfolding listed head_a head_b linking gradient speed level session national conditional track text position transition shunting sight default ◌⧺◌
etcs =
    packet 5 linking ∷ packet 21 gradient ∷ packet 27 speed ∷ packet 41 level ∷ packet 42 session ∷ packet 44 national ∷ packet 46 conditional
    ∷ packet 68 track ∷ packet 72 text ∷ packet 79 position ∷ packet 131 transition ∷ packet 132 shunting ∷ packet 137 sight
    ∷ packet 254 default ∷ []

unfoldable pub ctcs : List Packet
unfolding listed head_a head_b circuits restriction reversing turnout stopping ◌⧺◌
ctcs = packet 1 circuits ∷ packet 2 restriction ∷ packet 3 reversing ∷ packet 4 turnout ∷ packet 5 stopping ∷ []

-- the packet with an identifier, if there is one
unfoldable pub find : ℕ → List Packet → Option Items
find i [] = none
find i (p ∷ ps) = cond (eqb i p.id) (some p.items) (find i ps)
