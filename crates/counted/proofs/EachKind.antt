-- What stands behind the head of each kind of packet. Assumes nothing.
use mathlib.Core.Option.{Option, some}
use mathlib.Core.Path.{◌≡◌, refl}
use Rattle.format.specs.Fields.{Q_DIR, L_PACKET, Q_SCALE, D_LEVELTR, Q_RBC, D_RBCTR, Q_ASPECT, Q_SRSTOP, D_SIGNAL, L_TSRarea, D_STARTREVERSE, L_REVERSEAREA, D_TURNOUT, V_TURNOUT, Q_STOP}
use Rattle.format.specs.Packets.{Items, ◌▸◌, ◌⧺◌, etcs, ctcs, find}
use Rattle.format.specs.Packets.Items.{end}
use Rattle.counted.proofs.Bodies.{slope, tracks, restriction}
use Rattle.counted.proofs.EachList.{listed}
use Rattle.counted.proofs.Groups.{link, position, circuit}
use Rattle.counted.proofs.Levels.{transition, choice}
use Rattle.counted.proofs.Radios.{called}
use Rattle.counted.proofs.Speeds.{speed}
use Rattle.counted.proofs.Texts.{texts}

-- with these items behind its head, and with these behind its Q_SCALE

abbrev pub Sends : Option Items → Items → Type 0
Sends o t = o ≡ some (Q_DIR ▸ L_PACKET ▸ t)

abbrev pub Scaled : Option Items → Items → Type 0
Scaled o t = Sends o (Q_SCALE ▸ t)

-- ---- ETCS packets

pub found_5 : Scaled (find 5 etcs) (listed link)
unfolding find etcs ◌⧺◌
found_5 = refl

pub found_21 : Scaled (find 21 etcs) (listed slope)
unfolding find etcs ◌⧺◌
found_21 = refl

pub found_27 : Scaled (find 27 etcs) (listed speed)
unfolding find etcs ◌⧺◌
found_27 = refl

pub found_41 : Scaled (find 41 etcs) (D_LEVELTR ▸ listed transition)
unfolding find etcs ◌⧺◌
found_41 = refl

pub found_42 : Sends (find 42 etcs) (Q_RBC ▸ called)
unfolding find etcs
found_42 = refl

pub found_46 : Sends (find 46 etcs) (listed choice)
unfolding find etcs ◌⧺◌
found_46 = refl

pub found_68 : Scaled (find 68 etcs) tracks
unfolding find etcs ◌⧺◌
found_68 = refl

pub found_72 : Scaled (find 72 etcs) texts
unfolding find etcs
found_72 = refl

pub found_79 : Scaled (find 79 etcs) (listed position)
unfolding find etcs ◌⧺◌
found_79 = refl

pub found_131 : Scaled (find 131 etcs) (D_RBCTR ▸ called)
unfolding find etcs
found_131 = refl

pub found_132 : Sends (find 132 etcs) (Q_ASPECT ▸ end)
unfolding find etcs
found_132 = refl

pub found_137 : Sends (find 137 etcs) (Q_SRSTOP ▸ end)
unfolding find etcs
found_137 = refl

pub found_254 : Sends (find 254 etcs) end
unfolding find etcs
found_254 = refl

-- ---- CTCS packets

pub user_1 : Scaled (find 1 ctcs) (D_SIGNAL ▸ listed circuit)
unfolding find ctcs ◌⧺◌
user_1 = refl

pub user_2 : Scaled (find 2 ctcs) (L_TSRarea ▸ listed restriction)
unfolding find ctcs ◌⧺◌
user_2 = refl

pub user_3 : Scaled (find 3 ctcs) (D_STARTREVERSE ▸ L_REVERSEAREA ▸ end)
unfolding find ctcs
user_3 = refl

pub user_4 : Scaled (find 4 ctcs) (D_TURNOUT ▸ V_TURNOUT ▸ end)
unfolding find ctcs
user_4 = refl

pub user_5 : Sends (find 5 ctcs) (Q_STOP ▸ end)
unfolding find ctcs
user_5 = refl
