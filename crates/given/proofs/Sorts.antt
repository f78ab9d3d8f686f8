-- Which field can be due where, by name: the ten of the header; and in the packets those with a range, NID_RADIO, those of the heads, and fields that may
-- hold anything. Assumes nothing.
use mathlib.Core.List.{List, [], ◌∷◌}
use mathlib.Core.Logic.{◌⊎◌, inl, inr}
use mathlib.Core.Option.{some}
use mathlib.Core.Path.{◌≡◌, refl, subst}
use Prim.Native.Nat.{ℕ, ◌≤◌}
use native.Mathlib.Omega.{arith}
use lib.ListN.{get_or}
use Rattle.format.specs.Fields.{Field, steers, Q_UPDOWN, M_VERSION, Q_MEDIA, N_PIG, N_TOTAL, M_DUP, M_MCOUNT, NID_C, NID_BG, Q_LINK, NID_XUSER, Q_DIR, L_PACKET, Q_SCALE, N_ITER, D_LINK, Q_NEWCOUNTRY, Q_LINKORIENTATION, Q_LINKREACTION, Q_LOCACC, D_GRADIENT, Q_GDIR, G_A, D_STATIC, V_STATIC, Q_FRONT, NC_DIFF, V_DIFF, D_LEVELTR, M_LEVELTR, NID_STM, L_ACKLEVELTR, Q_RBC, NID_RBC, NID_RADIO, Q_SLEEPSESSION, Q_TRACKINIT, D_TRACKINIT, D_TRACKCOND, L_TRACKCOND, M_TRACKCOND, Q_TEXTCLASS, Q_TEXTDISPLAY, D_TEXTDISPLAY, M_MODETEXTDISPLAY, M_LEVELTEXTDISPLAY, L_TEXTDISPLAY, T_TEXTDISPLAY, Q_TEXTCONFIRM, L_TEXT, X_TEXT, D_POSOFF, Q_MPOSITION, M_POSITION, D_RBCTR, Q_ASPECT, Q_SRSTOP, D_SIGNAL, NID_SIGNAL, NID_FREQUENCY, L_SECTION, L_TSRarea, D_TSR, L_TSR, V_TSR, D_STARTREVERSE, L_REVERSEAREA, D_TURNOUT, V_TURNOUT, Q_STOP}
use Rattle.format.specs.Fields.Rule.{any, direction, within}
use Rattle.format.specs.Packets.{Items, Packet, header, etcs, ctcs, find}
use Rattle.format.specs.Rules.{next, rule_of}
use Rattle.laws.proofs.Every.{Every, Throughout, found, every_next}
use Rattle.laws.proofs.Listed.{sent_by, Same, table_every}
use Rattle.given.specs.Broken.{Range}
use Rattle.given.specs.Broken.Range.{q_dir, q_scale, q_linkreaction, nc_diff, q_textconfirm, q_textclass, m_leveltr, m_leveltextdisplay, nid_stm, m_trackcond, nid_signal, nid_frequency, q_stop}

-- ---- the header

pub data HeaderField : Field → Type 0 where
  q_updown : HeaderField Q_UPDOWN
  m_version : HeaderField M_VERSION
  q_media : HeaderField Q_MEDIA
  n_pig : HeaderField N_PIG
  n_total : HeaderField N_TOTAL
  m_dup : HeaderField M_DUP
  m_mcount : HeaderField M_MCOUNT
  nid_c : HeaderField NID_C
  nid_bg : HeaderField NID_BG
  q_link : HeaderField Q_LINK

pub header_sorted : Every HeaderField header
unfolding header
header_sorted = (q_updown, (m_version, (q_media, (n_pig, (n_total, (m_dup, (m_mcount, (nid_c, (nid_bg, (q_link, tt))))))))))

pub header_number : {f : Field} → HeaderField f → f.number ≤ 9
header_number q_updown = omega arith
header_number m_version = omega arith
header_number q_media = omega arith
header_number n_pig = omega arith
header_number n_total = omega arith
header_number m_dup = omega arith
header_number m_mcount = omega arith
header_number nid_c = omega arith
header_number nid_bg = omega arith
header_number q_link = omega arith

-- ---- a range is the rule of its field

pub range_rule : {f : Field} {a b : ℕ} → Range f a b → (rule_of f.sense ≡ within a b) ⊎ (rule_of f.sense ≡ direction)
range_rule q_dir = inr refl
range_rule q_scale = inl refl
range_rule q_linkreaction = inl refl
range_rule nc_diff = inl refl
range_rule q_textconfirm = inl refl
range_rule q_textclass = inl refl
range_rule m_leveltr = inl refl
range_rule m_leveltextdisplay = inl refl
range_rule nid_stm = inl refl
range_rule m_trackcond = inl refl
range_rule nid_signal = inl refl
range_rule nid_frequency = inl refl
range_rule q_stop = inl refl

pub range_number_lem : {f : Field} {a b : ℕ} → Range f a b → 12 ≤ f.number
range_number_lem q_dir = omega arith
range_number_lem q_scale = omega arith
range_number_lem q_linkreaction = omega arith
range_number_lem nc_diff = omega arith
range_number_lem q_textconfirm = omega arith
range_number_lem q_textclass = omega arith
range_number_lem m_leveltr = omega arith
range_number_lem m_leveltextdisplay = omega arith
range_number_lem nid_stm = omega arith
range_number_lem m_trackcond = omega arith
range_number_lem nid_signal = omega arith
range_number_lem nid_frequency = omega arith
range_number_lem q_stop = omega arith

-- and Q_DIR has the one of 0 to 2
pub range_direction : {f : Field} {a b : ℕ} → Range f a b → rule_of f.sense ≡ direction → (a ≡ 0) × (b ≡ 2)
range_direction q_dir e = (refl, refl)
range_direction q_scale e = (cc, cc)
range_direction q_linkreaction e = (cc, cc)
range_direction nc_diff e = (cc, cc)
range_direction q_textconfirm e = (cc, cc)
range_direction q_textclass e = (cc, cc)
range_direction m_leveltr e = (cc, cc)
range_direction m_leveltextdisplay e = (cc, cc)
range_direction nid_stm e = (cc, cc)
range_direction m_trackcond e = (cc, cc)
range_direction nid_signal e = (cc, cc)
range_direction nid_frequency e = (cc, cc)
range_direction q_stop e = (cc, cc)

-- ---- the packets

pub data Sort : Field → Type 0 where
  ranged : {f : Field} {a b : ℕ} → Range f a b → rule_of f.sense ≡ within a b → Sort f
  radioed : Sort NID_RADIO
  free : {f : Field} → rule_of f.sense ≡ any → Sort f
  directs : Sort Q_DIR
  sizes : Sort L_PACKET
  users : Sort NID_XUSER

pub sort_number : {f : Field} → Sort f → (10 ≤ f.number) ⊎ (rule_of f.sense ≡ any)
sort_number (ranged r e) = inl (omega (arith, range_number_lem r))
sort_number radioed = inl (omega arith)
sort_number (free e) = inr e
sort_number directs = inl (omega arith)
sort_number sizes = inl (omega arith)
sort_number users = inl (omega arith)

-- ---- every field that a packet sends has a sort

record Placed : Type 0 where
  field : Field
  sort : Sort field

abbrev placed : (f : Field) → Sort f → Placed
placed f s = record { field = f; sort = s }

-- where no packet sends a field of the number
abbrev none : Placed
none = placed Q_DIR directs

-- the fields that the packets send, by their numbers
unfoldable placings : List Placed
placings =
    none ∷ none ∷ none ∷ none ∷ none ∷ none ∷ none ∷ placed NID_C (free refl) ∷ placed NID_BG (free refl) ∷ none ∷ none ∷
    placed NID_XUSER users ∷ placed Q_DIR directs ∷ placed L_PACKET sizes ∷ placed Q_SCALE (ranged q_scale refl) ∷
    placed (steers N_ITER) (free refl) ∷ placed D_LINK (free refl) ∷ placed (steers Q_NEWCOUNTRY) (free refl) ∷
    placed Q_LINKORIENTATION (free refl) ∷ placed Q_LINKREACTION (ranged q_linkreaction refl) ∷ placed Q_LOCACC (free refl) ∷
    placed D_GRADIENT (free refl) ∷ placed Q_GDIR (free refl) ∷ placed G_A (free refl) ∷ placed D_STATIC (free refl) ∷
    placed V_STATIC (free refl) ∷ placed Q_FRONT (free refl) ∷ placed NC_DIFF (ranged nc_diff refl) ∷ placed V_DIFF (free refl) ∷
    placed D_LEVELTR (free refl) ∷ placed (steers M_LEVELTR) (ranged m_leveltr refl) ∷ placed NID_STM (ranged nid_stm refl) ∷
    placed L_ACKLEVELTR (free refl) ∷ placed Q_RBC (free refl) ∷ placed NID_RBC (free refl) ∷ placed NID_RADIO radioed ∷
    placed Q_SLEEPSESSION (free refl) ∷ placed (steers Q_TRACKINIT) (free refl) ∷ placed D_TRACKINIT (free refl) ∷
    placed D_TRACKCOND (free refl) ∷ placed L_TRACKCOND (free refl) ∷ placed M_TRACKCOND (ranged m_trackcond refl) ∷
    placed Q_TEXTCLASS (ranged q_textclass refl) ∷ placed Q_TEXTDISPLAY (free refl) ∷ placed D_TEXTDISPLAY (free refl) ∷
    placed M_MODETEXTDISPLAY (free refl) ∷ placed (steers M_LEVELTEXTDISPLAY) (ranged m_leveltextdisplay refl) ∷
    placed L_TEXTDISPLAY (free refl) ∷ placed T_TEXTDISPLAY (free refl) ∷ placed Q_TEXTCONFIRM (ranged q_textconfirm refl) ∷
    placed (steers L_TEXT) (free refl) ∷ placed X_TEXT (free refl) ∷ placed D_POSOFF (free refl) ∷ placed Q_MPOSITION (free refl) ∷
    placed M_POSITION (free refl) ∷ placed D_RBCTR (free refl) ∷ placed Q_ASPECT (free refl) ∷ placed Q_SRSTOP (free refl) ∷
    placed D_SIGNAL (free refl) ∷ placed NID_SIGNAL (ranged nid_signal refl) ∷ placed NID_FREQUENCY (ranged nid_frequency refl) ∷
    placed L_SECTION (free refl) ∷ placed L_TSRarea (free refl) ∷ placed D_TSR (free refl) ∷ placed L_TSR (free refl) ∷
    placed V_TSR (free refl) ∷ placed D_STARTREVERSE (free refl) ∷ placed L_REVERSEAREA (free refl) ∷ placed D_TURNOUT (free refl) ∷
    placed V_TURNOUT (free refl) ∷ placed Q_STOP (ranged q_stop refl) ∷ []

abbrev placing : ℕ → Placed
placing n = get_or placings n none

abbrev sorted_at : ℕ → Field
sorted_at n = (placing n).field

-- each stands at its number
tables_same : Same sorted_at (sent_by etcs) × Same sorted_at (sent_by ctcs)
unfolding etcs ctcs placings
tables_same = (refl, refl)

table_sorted : (ps : List Packet) → Same sorted_at (sent_by ps) → Throughout (Every Sort) ps
table_sorted ps h = table_every sorted_at Sort (λ f e. subst Sort e (placing f.number).sort) ps h

-- so of what comes next
pub sorted_next : (t : Items) (v : ℕ) (u : Items) → Every Sort t → next t v ≡ some u → Every Sort u
sorted_next t v u k e =
    rw e at
    (every_next Sort t v k (λ i. found (Every Sort) v etcs (table_sorted etcs tables_same.0))
    (λ i. found (Every Sort) v ctcs (table_sorted ctcs tables_same.1)))

-- and of a packet of the tables
pub etcs_sorts : (v : ℕ) (u : Items) → find v etcs ≡ some u → Every Sort u
etcs_sorts v u e = rw e at (found (Every Sort) v etcs (table_sorted etcs tables_same.0))
