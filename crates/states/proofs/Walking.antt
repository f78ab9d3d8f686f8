-- Looking back over values finds just the packets that were sent, as over bits; and the loop that walks. Assumes nothing.
use Rattle.std.specs.Prelude.{Some, None, Result}
use mathlib.Core.Bool.{Bool, true, false, ◌&&◌, ◌||◌}
use mathlib.Core.List.{List, [], ◌∷◌, ◌++◌, append_assoc, append-nil, reverse, reverse-cons}
use mathlib.Core.Option.{Option, some, none}
use mathlib.Core.Path.{◌≡◌, refl, sym, ap, ◌∙◌}
use Prim.Native.Nat.{ℕ, suc, ◌+◌, ◌≤◌, ◌<◌}
use native.Mathlib.Numerals.{add-one}
use native.Mathlib.Omega.{arith}
use native.Mathlib.Decide.{dec_le}
use borrow.Author.Tests.{eq-eqb, ne_eqb}
use lib.Dec.{eqb, T}
use lib.ListN.{length, take, drop, get_or, length-drop}
use lib.Seq.{drop_at, drop-cons, get_or-take, length-take-le, take_at}
use Rattle.format.specs.Among.{holding}
use Rattle.format.specs.Fields.{NID_PACKET, Q_DIR, L_PACKET}
use Rattle.format.specs.Fields.Rule.{direction}
use Rattle.format.specs.Packets.{Items}
use Rattle.format.specs.Packets.Items.{end, nest, send, send_if, send_either, send_times}
use Rattle.format.specs.Rules.{Earlier, next, rule_of, clash, among, collides_among, collides_by}
use Rattle.format.specs.Table.{act, row_at}
use Rattle.format.specs.Telegrams.{Entry, values, values_in}
use Rattle.laws.proofs.Recalled.{among_none, among_more}
use Rattle.laws.proofs.Round.{all_append}
use Rattle.laws.proofs.Stages.{sends_directs}
use Rattle.laws.proofs.Steps.{going}
use Rattle.laws.proofs.Whole.{Goes, Whole, headed}
use Rattle.laws.proofs.Whole.Goes.{here, further}
use Rattle.laws.proofs.Whole.Whole.{front, then}
use Rattle.states.specs.Lookback.{begins, with_packet, walked, packets_among, repeats}
use Rattle.states.specs.Machine.{context_of, level_of, rule_at, todo_of, Tidy, Advanced, Stepped}
use Rattle.states.specs.declared.Level.TheVariants.{Packet}
use Rattle.states.specs.declared.State.{State}
use Rattle.states.specs.declared.Todo.{Todo}
use Rattle.states.proofs.Directions.{Passed, passes, repeats_so}
use Rattle.states.proofs.Colliding.{found_back}
use Rattle.states.proofs.Measuring.{Measures, field_is}
use Rattle.states.proofs.Moves.{none_left, todo_begins, todo_begins_not}
use Rattle.format.specs.Fields as fields
use Rattle.std.specs.Prelude as code
use Rattle.format.specs.declared.Kind.{Kind}

-- ---- one value more

walked_one : (v : ℕ) (vs : List ℕ) (t : Items) → walked (v ∷ vs) (some t) ≡ with_packet (begins t) v vs (walked vs (next t v))
unfolding walked
walked_one v vs t = refl

-- behind the end mark nothing is looked at
walked_none : (vs : List ℕ) → walked vs none ≡ []
unfolding walked
walked_none [] = refl
walked_none (v ∷ vs) = refl

-- a NID_PACKET alone is no packet yet
pub walked_short : (vs : List ℕ) (o : Option Items) → length vs ≤ 1 → walked vs o ≡ []
unfolding walked
walked_short [] o h = refl
walked_short (v ∷ []) none h = refl
walked_short (v ∷ []) (some t) h = by_test (begins t)
  where
    by_test : (b : Bool) → with_packet b v [] [] ≡ []
    by_test true = refl
    by_test false = refl
walked_short (v ∷ w ∷ vs) o h = absurd (omega arith)

-- amid a packet no packet begins
not_begins : (t : Items) → T (going t) → begins t ≡ false
not_begins end g = absurd g
not_begins nest g = refl
not_begins (send f r) g = refl
not_begins (send_if c f r) g = refl
not_begins (send_either c a b) g = refl
not_begins (send_times c a r) g = refl

-- ---- whole packets

-- the value of one entry more
values_then : (es : List Entry) (e : Entry) (rest : List ℕ) → values (es ++ (e ∷ [])) ++ rest ≡ values es ++ e.value ∷ rest
unfolding values_in
values_then es e rest = rw (all_append values_in es (e ∷ []), append_assoc (values es) (e.value ∷ []) rest)

-- entries that lead from items to items are gone over
goes_walked : {t u : Items} {es : List Entry} → Goes t es u → (rest : List ℕ) → walked (values es ++ rest) (some t) ≡ walked rest (some u)
goes_walked here rest = refl
goes_walked {t} (further {es = es} {u = u} {w = w} v g h j) rest =
    ap (λ (l : List ℕ). walked l (some t)) (values_then es _ rest)
    ∙ goes_walked g (v ∷ rest)
    ∙ walked_one v rest u
    ∙ rw (not_begins u h, j)

-- a packet is gone over, and it is one
one_packet : (i d m : ℕ) (body : List Entry) (rest : List ℕ) (t : Items) → next end i ≡ some t → Goes t (holding Q_DIR d ∷ holding L_PACKET m ∷ body) end
    → walked (values (headed i d m body) ++ rest) (some end) ≡ record { id = i; dir = d } ∷ walked rest (some end)
unfolding values_in
one_packet i d m body rest t e g =
    walked_one i (d ∷ m ∷ values body ++ rest) end
    ∙ ap (λ (x : List Earlier). record { id = i; dir = d } ∷ x) (ap (walked (d ∷ m ∷ values body ++ rest)) e ∙ goes_walked g rest)

-- from the header's end the walk comes to where whole packets end, past each of them once, in order of sending
whole_walks : {b : List Entry} {l : List Earlier} → Whole b l → (rest : List ℕ)
    → walked (drop 10 (values b ++ rest)) (some end) ≡ reverse l ++ walked rest (some end)
whole_walks (front {es = es} e c) rest = rw (drop_at (values es) rest 10 c)
whole_walks (then {es = b} {l = l} {i = i} {d = d} {n = m} {body = body} w p) rest =
    let packet : Earlier = record { id = i; dir = d } in
    let fs : values (b ++ headed i d m body) ++ rest ≡ values b ++ (values (headed i d m body) ++ rest) =
    ap (λ (x : List ℕ). x ++ rest) (all_append values_in b (headed i d m body)) ∙ append_assoc (values b) (values (headed i d m body)) rest in
    ap (λ (x : List ℕ). walked (drop 10 x) (some end)) fs
    ∙ whole_walks w (values (headed i d m body) ++ rest)
    ∙ ap (λ (x : List Earlier). reverse l ++ x) (one_packet i d m body rest p.began.items p.began.found p.goes)
    ∙ sym (append_assoc (reverse l) (packet ∷ []) (walked rest (some end)))
    ∙ ap (λ (x : List Earlier). x ++ walked rest (some end)) (sym (reverse-cons packet l))

-- so looking back from behind one NID_PACKET more finds just them
pub whole_among : {b : List Entry} {l : List Earlier} → Whole b l → (v : ℕ) → walked (drop 10 (values b ++ (v ∷ []))) (some end) ≡ reverse l
whole_among {l = l} w v = whole_walks w (v ∷ []) ∙ rw (walked_short (v ∷ []) (some end) (omega arith)) (append-nil (reverse l))

-- where a packet's Q_DIR is due, the walk finds what the context has
module _ {vs rows : List ℕ} {st : State} {i : ℕ} (m : Measures vs rows st i) where
  -- the values that were written
  before_is : take i vs ≡ values m.drives.entries
  before_is =
      ap (take i) m.drives.front ∙ take_at (values m.drives.entries) (drop i vs) i (sym m.drives.counts)

  pub walks_back : (v : ℕ) {r : Bool} → rule_at st.todo.node ≡ direction → st.level ≡ Packet → r ≡ collides_among clash st.id v (packets_among vs i)
      → collides_by clash (context_of m.drives.earlier st) v ≡ r
  unfolding collides_by values_in
  walks_back v k l e =
      let q = sends_directs m.drives.sends (ap (λ (f : fields.Field). rule_of f.sense) (field_is m) ∙ k) (ap level_of l) in
      let fs : take i vs ≡ values q.before ++ (q.name ∷ []) =
      before_is ∙ ap values q.ends ∙ all_append values_in q.before (holding NID_PACKET q.name ∷ []) in
      found_back st.id v m.drives.earlier (ap (λ (x : List ℕ). walked (drop 10 x) (some end)) fs ∙ whole_among q.whole q.name) e

  -- so a step that is told whether they collide is the definition's
  pub measures_passed : (v : ℕ) {twice : Bool} {r : Result (code.Option State) Kind} → twice ≡ repeats st v (packets_among vs i) → Stepped st v twice r
      → Passed m.drives.earlier st v r
  measures_passed v {twice} {r} t o = passes m.drives.earlier st v twice r (λ k l. walks_back v k l (repeats_so st v _ k l t)) o

-- ---- the loop that walks

-- the values from the i-th on are left to look at, and no packet before collides
pub record Walking (vs : List ℕ) (n id dir : ℕ) (t : Todo) (i : ℕ) : Type 0 where
  pub tidy : Tidy t
  pub same : among clash id dir (packets_among vs n) ≡ among clash id dir (walked (drop i (take n vs)) (some (todo_of t)))

pub walking_first : (vs : List ℕ) (n id dir : ℕ) → Walking vs n id dir (record { node = 0; left = 0; outer = 0 }) 10
unfolding row_at
walking_first vs n id dir = record { tidy = record { inside = omega arith; settled = λ e. refl }; same = rw none_left }

-- among no values there is no packet
pub walks_none : (vs : List ℕ) (n id dir : ℕ) → n ≡ 0 → among clash id dir (packets_among vs n) ≡ false
walks_none vs n id dir e = rw (e, walked_short [] (some end) (omega arith), among_none clash id dir)

module _ {vs : List ℕ} {n id dir : ℕ} {t : Todo} {i : ℕ} (w : Walking vs n id dir t i) (long : n ≤ length vs) where
  -- at most one value is left
  pub walks_end : n ≤ i + 1 → among clash id dir (packets_among vs n) ≡ false
  walks_end h =
      let few : length (drop i (take n vs)) ≤ 1 = rw (length-drop i (take n vs), length-take-le n vs long) (omega arith) in
      w.same ∙ ap (among clash id dir) (walked_short (drop i (take n vs)) (some (todo_of t)) few) ∙ among_none clash id dir

  module _ (h : i + 1 < n) where
    abbrev v : ℕ
    v = get_or vs i 0

    abbrev following : ℕ
    following = get_or vs (i + 1) 0

    -- the value in hand, and the one behind it
    one_left : (k : ℕ) → k < n → drop k (take n vs) ≡ get_or vs k 0 ∷ drop (k + 1) (take n vs)
    one_left k l =
        drop-cons (take n vs) k 0 (rw (length-take-le n vs long) l)
        ∙ ap (λ (x : ℕ). x ∷ drop (suc k) (take n vs)) (get_or-take n vs k 0 l)
        ∙ rw (add-one k)

    two_left : drop i (take n vs) ≡ v ∷ following ∷ drop (i + 1 + 1) (take n vs)
    two_left = one_left i (omega arith) ∙ ap (λ (l : List ℕ). v ∷ l) (one_left (i + 1) h)

    -- whether a packet begins here that collides
    abbrev hit : Bool
    hit = begins (todo_of t) && (eqb id v && clash dir following)

    hits : (b : Bool) (rest : List ℕ) (l : List Earlier) → among clash id dir (with_packet b v (following ∷ rest) l) ≡ (b && (eqb id v && clash dir following) || among clash id dir l)
    hits true rest l = among_more clash id dir v following l
    hits false rest l = refl

    one_walked : among clash id dir (packets_among vs n) ≡ (hit || among clash id dir (walked (drop (i + 1) (take n vs)) (next (todo_of t) v)))
    one_walked =
        w.same
        ∙ ap (λ (l : List ℕ). among clash id dir (walked l (some (todo_of t)))) two_left
        ∙ ap (among clash id dir) (walked_one v (following ∷ drop (i + 1 + 1) (take n vs)) (todo_of t))
        ∙ hits (begins (todo_of t)) (drop (i + 1 + 1) (take n vs)) (walked (following ∷ drop (i + 1 + 1) (take n vs)) (next (todo_of t) v))
        ∙ ap (λ (l : List ℕ). hit || among clash id dir (walked l (next (todo_of t) v))) (sym (one_left (i + 1) h))

    -- it does
    pub walks_met : hit ≡ true → among clash id dir (packets_among vs n) ≡ true
    walks_met e = one_walked ∙ rw e

    module _ (e : hit ≡ false) {x : code.Option Todo} (a : Advanced t v x) where
      -- it was the end mark
      pub walks_over : x ≡ None → among clash id dir (packets_among vs n) ≡ false
      walks_over m =
          let o : next (todo_of t) v ≡ none = rw m at a.items in
          one_walked ∙ rw (e, o, walked_none (drop (i + 1) (take n vs)), among_none clash id dir)

      -- and on behind it
      pub walks_on : {u : Todo} → x ≡ Some u → Walking vs n id dir u (i + 1)
      walks_on {u} m =
          let b : Advanced t v (Some u) = rw m at a in
          record { tidy = b.tidy; same = one_walked ∙ rw (e, b.items) }

-- whether a packet begins and collides, by the row's act
pub begun_at : (t : Todo) → Tidy t → (c : Bool) → (eqb (act t.node) 0 && c) ≡ (begins (todo_of t) && c)
begun_at t d c = by (dec_le (act t.node) 0)
  where
    by : Dec (act t.node ≤ 0) → (eqb (act t.node) 0 && c) ≡ (begins (todo_of t) && c)
    by (yes h) = let z : act t.node ≡ 0 = omega arith in rw (eq-eqb (act t.node) 0 z, todo_begins t d z)
    by (no h) = let z : act t.node ≡ 0 → ⊥ = λ e. h (omega arith) in rw (ne_eqb (act t.node) 0 z, todo_begins_not t z)
