-- What a half keeps at each kind of step. It serves both halves.
use Rattle.std.proofs.Common.{◌≡◌, ◌≢◌, ℕ, ◌+◌, ◌-◌, ◌%◌, ◌<◌, ◌≤◌, List, [], ◌∷◌, ◌++◌, sym, refl, ap, ◌∙◌, subst, arith, Option, Some, None, length, length-append, bit_and}
use mathlib.Core.Logic.{dite}
use native.Mathlib.Decide.{ℕ_discrete}
use Rattle.std.proofs.Math.Nat.{mod-mod_of_dvd}
use Rattle.std.proofs.lemmas.Nat.{and_mask}
use Rattle.std.proofs.lemmas.Nat.Gcd.{dvd_of_mod-eq-zero}
use mathlib.Core.Option.{none}
use Rattle.atomic_table.specs.Table.{rest, step}
use Rattle.atomic_table.specs.Seated.{TableId}
use Rattle.mc_base.specs.Stored.{Stored}
use Rattle.shared_words.specs.declared.table.RingTable.TheInside as table
use Rattle.shared_words.specs.declared.half.Half.TheInside as half
use Rattle.shared_words.specs.declared.view.Role.{Role}
use Rattle.shared_words.specs.declared.view.Role.TheVariants.{Driver, Device}
use Rattle.shared_words.specs.declared.view.Staged.{Staged}
use Rattle.shared_words.specs.declared.view.Staged.TheVariants.{Idle, NumberRead}
use Rattle.shared_words.specs.declared.view.HalfView.{HalfView}
use Rattle.shared_words.specs.declared.view.View.{View}
use Rattle.shared_words.specs.declared.view.View.TheVariants.{Live}
use Rattle.shared_words.specs.Layout.{word_count}
use Rattle.shared_words.specs.Entry.{Entry, number_of, times, inside}
use Rattle.shared_words.specs.Shape.{IsRingSize, IsShape}
use Rattle.shared_words.specs.Places.{begins, Holds}
use Rattle.shared_words.specs.Change.{staging, writing, looking, taking, IsStored, number_in}
use Rattle.shared_words.specs.Slots.{Slot, fronted, carried_times, front_value}
use Rattle.shared_words.specs.Kinds.{Seated, by_either, len_loaded}
use Rattle.shared_words.specs.Way.{way_of}
use Rattle.shared_words.specs.HalfHolds.{HalfHolds, SeatHolds, role_in, half_in}
use Rattle.shared_words.specs.TableHolds.{TableHolds}
use Rattle.shared_words.specs.Shown.{RingId, TableShown, HalfShown, IsHalfOf, with_view, HoldsNumber, size_of}
use Rattle.shared_words.proofs.CountLemmas.{inside-yes, inside-lt, tick-same, tick-other, times-append, times-is, times-other}
use Rattle.shared_words.proofs.WordLemmas.{size_facts}
use Rattle.shared_words.proofs.Fronts.{front_count, front_first}

-- Places

pub place_is : (n z : ℕ) → IsRingSize z → (n % 65536) % z ≡ n % z
place_is n z s = mod-mod_of_dvd z n (dvd_of_mod-eq-zero z (size_facts z s).2)

pub masked : (n z : ℕ) → IsRingSize z → bit_and n (z - 1) ≡ n % z
masked n z s = subst (λ (y : ℕ). bit_and n (y - 1) ≡ n % y) (sym s.3) (and_mask n s.0)

-- What a call of a table's on a half of its finds

pub record Met (role : Role) (view : HalfView) (t : table.Inside) (h : half.Inside) : Type 0 where
  pub live : h.seat.me.0 ≡ Live role view
  pub same : h.seat.table_id ≡ t.board.shared.table_id
  pub slots : t.board.shared.table_id.slots ≡ t.board.shared.key.size
  pub words : t.board.shared.table_id.words ≡ word_count t.board.shared.key.size
  pub shape : IsShape t.board.shared.key
  pub size : t.board.shared.key.size ≡ t.size
  pub holds : HalfHolds t.board.shared.key.size role view h.seat.me.1 h.written h.taken h.read
  pub width : view.width ≡ t.board.shared.key.length

abbrev pub shown_half : TableId → Seated → HalfShown
shown_half id me = record { ring = record { table = id; width = (half_in me.0).width }; role = role_in me.0; view = half_in me.0 }

abbrev pub shown_table : table.Inside → TableShown
shown_table t = record { ring = record { table = t.board.shared.table_id; width = t.board.shared.key.length }; queue = t.queue }

pub meets : (role : Role) (t : table.Inside) (h : half.Inside) (on : TableShown) (me : HalfShown) → TableHolds t.board.shared.table_id t.board.shared.key t.queue t.size → shown_table t ≡ on
    → SeatHolds h.seat.table_id.slots h.seat.me h.written h.taken h.read → shown_half h.seat.table_id h.seat.me ≡ me → IsHalfOf on role me → Met role me.view t h
meets role t h on me tab t_is seat h_is fit =
    let ring : (shown_half h.seat.table_id h.seat.me).ring ≡ (shown_table t).ring = ap (λ (x : HalfShown). x.ring) h_is ∙ (fit.same_ring ∙ sym (ap (λ (x : TableShown). x.ring) t_is)) in
    let same : h.seat.table_id ≡ t.board.shared.table_id = ap (λ (x : RingId). x.table) ring in
    let view : half_in h.seat.me.0 ≡ me.view = ap (λ (x : HalfShown). x.view) h_is in
    let is : role_in h.seat.me.0 ≡ role = ap (λ (x : HalfShown). x.role) h_is ∙ fit.same_role in
    let size_is : h.seat.table_id.slots ≡ t.board.shared.key.size = ap (λ (x : TableId). x.slots) same ∙ tab.slots in record {
      live = seat.live ∙ (λ i. Live (is i) (view i));
      same = same;
      slots = tab.slots;
      words = tab.words;
      shape = tab.shape;
      size = tab.size_is;
      holds = subst (λ (x : ℕ × Role × HalfView). HalfHolds x.0 x.1 x.2 h.seat.me.1 h.written h.taken h.read) (λ i. (size_is i, is i, view i)) seat.holds;
      width = ap (λ (x : HalfView). x.width) (sym view) ∙ ap (λ (x : RingId). x.width) ring;
    }

module _ (role : Role) (t : table.Inside) (h : half.Inside) (me : HalfShown) (m : Met role me.view t h) where
  -- the half after a step
  pub seated : (view' : HalfView) (id' : TableId) (me' : Seated) (a b c : ℕ) → id' ≡ h.seat.table_id → me'.0 ≡ Live role view' → HalfHolds t.board.shared.key.size role view' me'.1 a b c → SeatHolds id'.slots me' a b c
  seated view' id' me' a b c same live holds =
      let is : role ≡ role_in me'.0 = sym (ap role_in live) in let v : view' ≡ half_in me'.0 = sym (ap half_in live) in
      let size_is : t.board.shared.key.size ≡ id'.slots = sym (ap (λ (x : TableId). x.slots) (same ∙ m.same) ∙ m.slots) in record {
        live = live ∙ (λ i. Live (is i) (v i));
        holds = subst (λ (x : ℕ × Role × HalfView). HalfHolds x.0 x.1 x.2 me'.1 a b c) (λ i. (size_is i, is i, v i)) holds;
      }

  pub shown_after : (view' : HalfView) (id' : TableId) (me' : Seated) → shown_half h.seat.table_id h.seat.me ≡ me → me.role ≡ role → id' ≡ h.seat.table_id → me'.0 ≡ Live role view' → view'.width ≡ me.view.width → shown_half id' me' ≡ with_view view' me
  shown_after view' id' me' is r same live width =
      let long : (half_in me'.0).width ≡ (half_in h.seat.me.0).width = ap (λ (x : View). (half_in x).width) live ∙ (width ∙ sym (ap (λ (x : HalfShown). x.view.width) is)) in
      let ring : (shown_half id' me').ring ≡ me.ring = (λ i. record { table = same i; width = long i }) ∙ ap (λ (x : HalfShown). x.ring) is in
      λ i. record { ring = ring i; role = (ap role_in live ∙ sym r) i; view = half_in (live i) }

  -- a number that the caller says is held
  pub holds_here : (n : ℕ) → shown_half h.seat.table_id h.seat.me ≡ me → me.role ≡ role → HoldsNumber me n → Holds role t.board.shared.key.size me.view n
  holds_here n is r held = let size : size_of me.ring ≡ t.board.shared.key.size = ap (λ (x : HalfShown). x.ring.table.slots) (sym is) ∙ (ap (λ (x : TableId). x.slots) m.same ∙ m.slots) in
      subst (λ (x : Role × ℕ). Holds x.0 x.1 me.view n) (λ i. (r i, size i)) held

module _ (z : ℕ) (role : Role) (v : HalfView) (slots : List Slot) (a b c : ℕ) (h : HalfHolds z role v slots a b c) where
  -- a number that is held is below the size, and its slot is carried
  pub held_below : (n : ℕ) → Holds role z v n → n < z
  held_below n held = let k = h.carries n in let o = h.once n in inside-lt z n (omega (arith, k, o, held))

  pub held_carried : (n : ℕ) → Holds role z v n → 0 < carried_times n slots
  held_carried n held = let k = h.carries n in omega (arith, k, held)

  -- something is staged, and its slot is in front
  pub staged_front : (n : ℕ) (st : Staged) → Holds role z v n → ((k : ℕ) → IsStored st k → n ≡ k) → ((k : ℕ) → st ≢ NumberRead k) → HalfHolds z role (staging st v) (fronted n slots) a b c
  staged_front n st held one none_read = let f = front_first n slots (held_carried n held) in record {
    written_count = h.written_count;
    taken_count = h.taken_count;
    number_read = λ k e. absurd (none_read k e);
    carries = λ x. let k = h.carries x in let m = front_count x n slots in omega (arith, k, m);
    once = λ x. let k = h.once x in let m = front_count x n slots in omega (arith, k, m);
    front = λ k s. let first : fronted n slots ≡ (n, f.0) ∷ f.1 = f.2 in
        subst (λ (t : ℕ). fronted n slots ≡ (t, front_value (fronted n slots)) ∷ rest (fronted n slots)) (one k s) (subst (λ (l : List Slot). l ≡ (n, front_value l) ∷ rest l) (sym first) refl);
  }

  -- more of it is staged
  pub staged_more : (n : ℕ) (st : Staged) → IsStored v.staged n → ((k : ℕ) → IsStored st k → n ≡ k) → ((k : ℕ) → st ≢ NumberRead k) → HalfHolds z role (staging st v) slots a b c
  staged_more n st stored one none_read = record {
    written_count = h.written_count;
    taken_count = h.taken_count;
    number_read = λ k e. absurd (none_read k e);
    carries = h.carries;
    once = h.once;
    front = λ k s. subst (λ (t : ℕ). slots ≡ (t, front_value slots) ∷ rest slots) (one k s) (h.front n stored);
  }

  -- a number is read
  pub staged_read : (r : ℕ) → r < z → HalfHolds z role (staging (NumberRead r) v) slots a b r
  staged_read r low = record {
    written_count = h.written_count;
    taken_count = h.taken_count;
    number_read = λ k e. let same : r ≡ k = cc in (same, subst (λ (t : ℕ). t < z) same low);
    carries = h.carries;
    once = h.once;
    front = λ k s. absurd s;
  }

  -- more is shown
  pub half_looks : (n : ℕ) → HalfHolds z role (looking n v) slots a b c
  half_looks n = record { written_count = h.written_count; taken_count = h.taken_count; number_read = h.number_read; carries = h.carries; once = h.once; front = h.front }

  -- the slot in front is given back with the buffer
  pub half_writes : (e : Entry) → IsStored v.staged (number_of e) → HalfHolds z role (writing e v) (rest slots) ((a + 1) % 65536) b c
  half_writes e stored = let n : ℕ = number_of e in let first = h.front n stored in
      let more : (x : ℕ) → times x (v.written ++ e ∷ []) ≡ times x v.written + times x (e ∷ []) = λ x. times-append x v.written (e ∷ []) in
      let less : (x : ℕ) → carried_times x slots ≡ carried_times x ((n, front_value slots) ∷ rest slots) = λ x. ap (carried_times x) first in record {
        written_count = let k = h.written_count in omega (arith, k, length-append v.written (e ∷ []));
        taken_count = h.taken_count;
        number_read = λ k q. absurd (let bad : Idle ≡ NumberRead k = q in cc);
        carries = λ x. let k = h.carries x in let m = more x in let l = less x in dite (ℕ_discrete n x)
            (λ q. let t = times-is x e q in let u = tick-same n x q in omega (arith, k, m, l, t, u)) (λ ne. let t = times-other x e ne in let u = tick-other n x ne in omega (arith, k, m, l, t, u));
        once = λ x. let k = h.once x in let l = less x in omega (arith, k, l);
        front = λ k s. absurd s;
      }

  -- a slot is taken in front
  pub half_takes : (e : Entry) (value : Option Stored) → number_of e < z → times (number_of e) v.written ≡ begins role z (number_of e) + times (number_of e) v.taken → HalfHolds z role (taking e v) ((number_of e, value) ∷ slots) a ((b + 1) % 65536) c
  half_takes e value low fresh = let n : ℕ = number_of e in
      let more : (x : ℕ) → times x (v.taken ++ e ∷ []) ≡ times x v.taken + times x (e ∷ []) = λ x. times-append x v.taken (e ∷ []) in
      let none_there : carried_times n slots ≡ 0 = (let k = h.carries n in omega (arith, k, fresh)) in record {
        written_count = h.written_count;
        taken_count = let k = h.taken_count in omega (arith, k, length-append v.taken (e ∷ []));
        number_read = λ k q. absurd (let bad : Idle ≡ NumberRead k = q in cc);
        carries = λ x. let k = h.carries x in let m = more x in dite (ℕ_discrete n x)
            (λ q. let t = times-is x e q in let u = tick-same n x q in omega (arith, k, m, t, u)) (λ ne. let t = times-other x e ne in let u = tick-other n x ne in omega (arith, k, m, t, u));
        once = λ x. let k = h.once x in dite (ℕ_discrete n x)
            (λ q. let u = tick-same n x q in let i = inside-yes z n low in let g = subst (λ (y : ℕ). carried_times y slots ≡ 0) q none_there in let j = ap (inside z) q in omega (arith, u, i, g, j)) (λ ne. let u = tick-other n x ne in omega (arith, u, k));
        front = λ k s. absurd s;
      }

-- the place of a count that the half keeps modulo 65536
pub place_here : (role : Role) (t : table.Inside) (h : half.Inside) (me : HalfShown) → Met role me.view t h → (on : TableShown) → shown_table t ≡ on → (n count : ℕ) → n ≡ count % 65536 → n % size_of on.ring ≡ count % t.board.shared.key.size
place_here role t h me m on is n count e = let z : ℕ = t.board.shared.key.size in let size : size_of on.ring ≡ z = ap (λ (x : TableShown). x.ring.table.slots) (sym is) ∙ m.slots in
    ap (λ (y : ℕ). n % y) size ∙ (ap (λ (y : ℕ). y % z) e ∙ place_is count z m.shape.size)

-- the ring's size, as a caller sees it
pub size_here : (role : Role) (t : table.Inside) (h : half.Inside) (view : HalfView) → Met role view t h → (on : TableShown) → shown_table t ≡ on → size_of on.ring ≡ t.board.shared.key.size
size_here role t h view m on is = ap (λ (x : TableShown). x.ring.table.slots) (sym is) ∙ m.slots

-- the place of a length, by the count that the half keeps modulo 65536
pub len_place_here : (role : Role) (z y n count id : ℕ) → IsRingSize z → y ≡ z → n ≡ count % 65536 → (way_of role y).len ((way_of role y).len_place n id) ≡ (way_of role z).len ((way_of role z).len_place count id)
len_place_here Driver z y n count id s same e = ap (λ (x : ℕ). (way_of Driver x).len ((way_of Driver x).len_place n id)) same
len_place_here Device z y n count id s same e = ap (λ (x : ℕ). (way_of Device x).len ((way_of Device x).len_place n id)) same ∙ ap (way_of Device z).len (ap (λ (x : ℕ). x % z) e ∙ place_is count z s)

-- a number that was read is below the size
pub read_low : (role : Role) (h : half.Inside) (on : TableShown) (me : HalfShown) → SeatHolds h.seat.table_id.slots h.seat.me h.written h.taken h.read → shown_half h.seat.table_id h.seat.me ≡ me → IsHalfOf on role me → me.view.staged ≡ NumberRead (number_in me.view.staged) → h.read < size_of on.ring
read_low role h on me seat is fit reads = let n = seat.holds.number_read (number_in me.view.staged) (ap (λ (x : HalfShown). x.view.staged) is ∙ reads) in let s = ap (λ (x : HalfShown). size_of x.ring) is ∙ ap size_of fit.same_ring in omega (arith, n, s)

-- What a half gets with the length of the next entry

pub record Got (role : Role) (view : HalfView) (t : table.Inside) (h : half.Inside) (me' : Seated) (r : ℕ) : Type 0 where
  pub buffer : Stored
  pub number : buffer.number ≡ h.read
  pub is_read : h.read ≡ number_in view.staged
  pub live : me'.0 ≡ Live role (taking (buffer, r) view)
  pub carried : me'.1 ≡ (h.read, Some buffer) ∷ h.seat.me.1
  pub fits : r ≤ t.board.shared.key.length
  pub bytes : length buffer.bytes ≡ t.board.shared.key.length
  pub low : h.read < t.board.shared.key.size
  pub fresh : times h.read view.written ≡ begins role t.board.shared.key.size h.read + times h.read view.taken

pub gets : (role : Role) (t : table.Inside) (h : half.Inside) (me : HalfShown) (me' : Seated) (i r : ℕ) → Met role me.view t h → me.view.staged ≡ NumberRead (number_in me.view.staged) → by_either len_loaded (step t.board.shared.table_id.slots i 0 0 none) h.seat.me r me' → Got role me.view t h me' r
gets role t h me me' i r m is told = let n = m.holds.number_read (number_in me.view.staged) is in
    let g = told role me.view h.read m.live (is ∙ ap NumberRead (sym n.0)) in record {
      buffer = g.0;
      number = g.1;
      is_read = n.0;
      live = g.2;
      carried = g.3;
      fits = let a = g.4 in let b = m.width in omega (arith, a, b);
      bytes = g.5 ∙ m.width;
      low = omega (arith, n);
      fresh = subst (λ (z : ℕ). times h.read me.view.written ≡ begins role z h.read + times h.read me.view.taken) m.slots g.6;
    }

-- what was in the slot is the buffer
pub got_buffer : (n : ℕ) (b : Stored) (x : Option Stored) (above below : List Slot) → above ≡ (n, x) ∷ rest above → above ≡ (n, Some b) ∷ below → x ≡ Some b
got_buffer n b x above below e f = ap front_value (sym e ∙ f)

-- a number whose buffer was just taken was not held
pub not_held : (role : Role) (t : table.Inside) (h : half.Inside) (me : HalfShown) (m : Met role me.view t h) (me' : Seated) (r : ℕ) → Got role me.view t h me' r → (x : ℕ) → x ≡ h.read → shown_half h.seat.table_id h.seat.me ≡ me → me.role ≡ role → HoldsNumber me x → ⊥
not_held role t h me m me' r g x same is q held = let k = holds_here role t h me m x is q held in let k' = subst (Holds role t.board.shared.key.size me.view) same k in let f = g.fresh in omega (arith, k', f)

-- the half after its slot was emptied
pub emptied : (role : Role) (t : table.Inside) (h : half.Inside) (me : HalfShown) (m : Met role me.view t h) (me' me'' : Seated) (r : ℕ) (id' : TableId) (g : Got role me.view t h me' r) → id' ≡ h.seat.table_id → me'' ≡ (me'.0, (h.read, None) ∷ rest me'.1)
    → SeatHolds id'.slots me'' h.written ((h.taken + 1) % 65536) h.read
emptied role t h me m me' me'' r id' g same is = let z : ℕ = t.board.shared.key.size in let w : HalfView = taking (g.buffer, r) me.view in
    let live : me''.0 ≡ Live role w = ap (λ (x : Seated). x.0) is ∙ g.live in
    let low : g.buffer.number < z = subst (λ (n : ℕ). n < z) (sym g.number) g.low in
    let fresh : times g.buffer.number me.view.written ≡ begins role z g.buffer.number + times g.buffer.number me.view.taken = subst (λ (n : ℕ). times n me.view.written ≡ begins role z n + times n me.view.taken) (sym g.number) g.fresh in
    let carried : (g.buffer.number, None) ∷ h.seat.me.1 ≡ me''.1 = sym (ap (λ (x : Seated). x.1) is ∙ ((λ i. (sym g.number i, None) ∷ rest (g.carried i)))) in
    seated role t h me m w id' me'' h.written ((h.taken + 1) % 65536) h.read same live
    (subst (λ (l : List Slot). HalfHolds z role w l h.written ((h.taken + 1) % 65536) h.read) carried (half_takes z role me.view h.seat.me.1 h.written h.taken h.read m.holds (g.buffer, r) None low fresh))
