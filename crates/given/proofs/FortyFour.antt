-- A NID_XUSER stands in an ETCS-44 alone. Assumes nothing.
use mathlib.Core.Bool.{Bool, true, false, cond, not, ◌&&◌, ◌||◌}
use mathlib.Core.List.{List, [], ◌∷◌, ◌++◌, append_assoc}
use mathlib.Core.Logic.{◌⊎◌, inl, inr}
use mathlib.Core.Option.{some}
use mathlib.Core.Path.{◌≡◌, refl, sym, ap, ◌∙◌, subst}
use Prim.Native.Nat.{ℕ}
use native.Mathlib.Omega.{arith}
use borrow.Author.Tests.{eqb-true}
use lib.Dec.{T, eqb}
use Rattle.format.specs.Among.{holding, Without, Inside}
use Rattle.format.specs.Fields.{Field, NID_PACKET, NID_XUSER, Q_DIR, L_PACKET, NID_RADIO}
use Rattle.format.specs.Packets.{Items, Packet, find, etcs}
use Rattle.format.specs.Rules.{State, Terms, field, due, next}
use Rattle.format.specs.Rules.Level.{in_user}
use Rattle.format.specs.Telegrams.{Entry}
use Rattle.format.proofs.Rows.{and_left, and_right}
use Rattle.laws.proofs.Every.{Every, passes, passed}
use Rattle.laws.proofs.Headed.{every_sent, every_on}
use Rattle.laws.proofs.Points.{Sends}
use Rattle.laws.proofs.OnePlace.{not_among, packet_other}
use Rattle.laws.proofs.Pairs.{one_end}
use Rattle.laws.proofs.Standing.{apart}
use Rattle.laws.proofs.Stages.{sends_stage}
use Rattle.laws.proofs.Whole.{Goes, headed, Stage}
use Rattle.laws.proofs.Whole.Goes.{here, further}
use Rattle.laws.proofs.Whole.Stage.{fronting, resting, after_name, after_dir, after_size}
use Rattle.given.proofs.Insides.{Snoc, snoc, without_more, one_name}
use Rattle.given.proofs.Insides.Snoc.{empty, last}
use Rattle.given.proofs.Sorts.{Sort, range_number_lem, etcs_sorts, sorted_next}
use Rattle.given.proofs.Sorts.Sort.{ranged, radioed, free, directs, sizes, users}

-- ---- the tables

abbrev Unnested : Field → Bool
Unnested f = not (eqb f.number NID_XUSER.number)

abbrev Q : Field → Type 0
Q f = T (Unnested f)

-- each packet but ETCS-44 sends no NID_XUSER
abbrev others : List Packet → Bool
others [] = true
others (p ∷ ps) = (eqb p.id 44 || passes Unnested p.items) && others ps

others_hold : T (others etcs)
unfolding etcs
others_hold = tt

by_or : (i : ℕ) (p : Packet) (b : Bool) → eqb p.id 44 ≡ b → i ≡ p.id → T (b || passes Unnested p.items) → (i ≡ 44) ⊎ Every Q p.items
by_or i p true e j h = inl (j ∙ eqb-true p.id 44 e)
by_or i p false e j h = inr (passed Unnested p.items h)

found_other : (ps : List Packet) → T (others ps) → (i : ℕ) (t : Items) → find i ps ≡ some t → (i ≡ 44) ⊎ Every Q t
unfolding find
found_other [] h i t e = let z : ◌≡◌ {A = ℕ} 0 1 = cc in absurd (omega arith)
found_other (p ∷ ps) h i t e =
    by_test (eqb i p.id) refl e (λ j. found_other ps (and_right (eqb p.id 44 || passes Unnested p.items) (others ps) h) i t j)
  where
    by_test : (b : Bool) → eqb i p.id ≡ b → cond b (some p.items) (find i ps) ≡ some t → (find i ps ≡ some t → (i ≡ 44) ⊎ Every Q t)
        → (i ≡ 44) ⊎ Every Q t
    by_test true q j ih =
        let k : p.items ≡ t = cc in
        rw (← k) (by_or i p (eqb p.id 44) refl (eqb-true i p.id q) (and_left (eqb p.id 44 || passes Unnested p.items) (others ps) h))
    by_test false q j ih = ih j

-- ---- along a packet

goes_unnested : {t u : Items} {es : List Entry} → Every Q t → Goes t es u → Every Q u × Without NID_XUSER es
goes_unnested k here = (k, tt)
goes_unnested k (further {es = es} {u = u} {w = w} v h g j) =
    let r = goes_unnested k h in
    (every_on Q (λ z. z) u v w g r.0 j, without_more NID_XUSER es _ r.1 (λ e. subst Q e (every_sent Q u v g r.0)))

sort_not : {f : Field} → Sort f → f ≡ NID_PACKET → ⊥
sort_not (ranged r q) e = let i = ap (λ (f : Field). f.number) e in let n = range_number_lem r in omega arith
sort_not radioed e = apart NID_RADIO NID_PACKET refl e
sort_not (free q) e = let z : ◌≡◌ {A = ℕ} 0 1 = cc in omega arith
sort_not directs e = apart Q_DIR NID_PACKET refl e
sort_not sizes e = apart L_PACKET NID_PACKET refl e
sort_not users e = apart NID_XUSER NID_PACKET refl e

goes_unnamed : {t u : Items} {es : List Entry} → Every Sort t → Goes t es u → Every Sort u × Without NID_PACKET es
goes_unnamed k here = (k, tt)
goes_unnamed k (further {es = es} {u = u} {w = w} v h g j) =
    let r = goes_unnamed k h in
    (sorted_next u v w r.0 j, without_more NID_PACKET es _ r.1 (sort_not (every_sent Sort u v g r.0)))

-- ---- the packet in hand

-- entries whose packet has no NID_XUSER do not end in one
not_ending : (b c body : List Entry) (i d n x : ℕ) → Without NID_XUSER body → b ++ headed i d n body ≡ c ++ (holding NID_XUSER x ∷ []) → ⊥
not_ending b c body i d n x w e = by_last (snoc body) refl w
  where
    by_last : {l : List Entry} → Snoc l → body ≡ l → Without NID_XUSER l → ⊥
    by_last empty j q =
        let front : List Entry = holding NID_PACKET i ∷ holding Q_DIR d ∷ [] in
        let k = sym (ap (λ (l : List Entry). b ++ headed i d n l) j ∙ sym (append_assoc b front (holding L_PACKET n ∷ []))) in
        apart L_PACKET NID_XUSER refl (ap (λ (y : Entry). y.field) (one_end (b ++ front) c (holding L_PACKET n) (holding NID_XUSER x) (k ∙ e)).1)
    by_last (last a y) j q =
        let k = sym (ap (λ (l : List Entry). b ++ headed i d n l) j ∙ sym (append_assoc b (headed i d n a) (y ∷ []))) in
        not_among NID_XUSER a y [] q (ap (λ (z : Entry). z.field) (one_end (b ++ headed i d n a) c y (holding NID_XUSER x) (k ∙ e)).1)

pub forty_four : {p : Terms} {es : List Entry} {s : State} → Sends p es s → s.context.level ≡ in_user → field s ≡ Q_DIR → (c : List Entry) (x : ℕ)
    → es ≡ c ++ (holding NID_XUSER x ∷ []) → (o : Inside NID_PACKET es) → o.name ≡ 44
unfolding next
forty_four {p} {es} {s} h l f c x e o = by_stage (sends_stage h)
  where
    ends : (b : List Entry) (g : Field) (v : ℕ) → eqb g.number NID_XUSER.number ≡ false → es ≡ b ++ (holding g v ∷ []) → ⊥
    ends b g v n i = apart g NID_XUSER n (ap (λ (y : Entry). y.field) (one_end b c (holding g v) (holding NID_XUSER x) (sym i ∙ e)).1)

    by_stage : Stage es s → o.name ≡ 44
    by_stage (fronting m i k) = let z : ◌≡◌ {A = ℕ} 0 1 = cc in absurd (omega arith)
    by_stage (resting i w) = absurd (apart NID_PACKET Q_DIR refl (sym (ap due i) ∙ f))
    by_stage (after_name b {i = n} g i w m a q t r) = absurd (ends b NID_PACKET n refl i)
    by_stage (after_dir b {i = n} d g i w m a q t r y) =
        absurd (ends (b ++ (holding NID_PACKET n ∷ [])) Q_DIR d refl (i ∙ sym (append_assoc b (holding NID_PACKET n ∷ []) (holding Q_DIR d ∷ []))))
    by_stage (after_size b {i = n} d m body g i w a q t goes y z u v j) =
        let own = (goes_unnamed (etcs_sorts n g.items g.found) goes).1 in
        let k : Inside NID_PACKET es = record { before = b; name = n; dir = d; size = m; after = body; parts = i; own = own.1.1 } in
        one_name packet_other o k ∙ by_kind own (found_other etcs others_hold n g.items g.found)
      where
        by_kind : Without NID_PACKET (holding Q_DIR d ∷ holding L_PACKET m ∷ body) → (n ≡ 44) ⊎ Every Q g.items → n ≡ 44
        by_kind own (inl r) = r
        by_kind own (inr r) = absurd (not_ending b c body n d m x (goes_unnested r goes).1.1.1 (sym i ∙ e))
