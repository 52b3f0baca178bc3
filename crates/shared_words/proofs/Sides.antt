-- The content of a ring from the side of one half, and what a step of that half keeps of it. It serves both halves.
use Rattle.std.proofs.Common.{◌≡◌, ◌≢◌, ◌⊎◌, ℕ, ◌+◌, ◌-◌, ◌%◌, ◌<◌, ◌≤◌, List, [], ◌∷◌, ◌++◌, length, set, get_or, sym, refl, ap, ◌∙◌, subst, inl, inr, ⊎_elim, arith, Some, length-append, length-set, mod-lt}
use mathlib.Core.Option.{none, some}
use mathlib.Core.Logic.{dite}
use native.Mathlib.Decide.{ℕ_discrete}
use lib.ListN.{get_elem?}
use Rattle.atomic_table.proofs.Lists.{set_here, set_else, one_turn}
use Rattle.mc_base.specs.Stored.{Stored}
use Rattle.shared_words.specs.declared.rule.Shape.{Shape}
use Rattle.shared_words.specs.declared.view.Role.{Role}
use Rattle.shared_words.specs.declared.view.Role.TheVariants.{Driver, Device}
use Rattle.shared_words.specs.declared.view.Staged.{Staged}
use Rattle.shared_words.specs.declared.view.Staged.TheVariants.{Idle, BothStored, NumberRead}
use Rattle.shared_words.specs.declared.view.HalfView.{HalfView}
use Rattle.shared_words.specs.Layout.{word_count}
use Rattle.shared_words.specs.Entry.{Entry, number_of, times, inside}
use Rattle.shared_words.specs.Shape.{IsShape}
use Rattle.shared_words.specs.Way.{Way, way_of, other, Homes, WayHolds}
use Rattle.shared_words.specs.Places.{begins, starts_with, Holds}
use Rattle.shared_words.specs.Staging.{StagedHolds, InOrder}
use Rattle.shared_words.specs.LastEntries.{LastEntries, HasNumber, HasLength}
use Rattle.shared_words.specs.Constants.{Constants, InRange}
use Rattle.shared_words.specs.RingRule.{OneWay, Content}
use Rattle.shared_words.proofs.CountLemmas.{times-append, times-self, times-is, times-other, stands-there, inside-le, inside-lt, Below, fewer, fewer_but, longer_by, shorter_by, before_at}
use Rattle.shared_words.proofs.WayLemmas.{idx_within, idx_not_number, idx_not_len, number_not_len, number_same, len_same, len_place_small, IsFarFrom, far_idx, far_number, far_len, IsMoving, moving_idx, moving_number, moving_len, left_there, way_stays, way_writes, way_shows, way_reads, next_entry, way_takes, ahead_is}
use Rattle.shared_words.proofs.WordLemmas.{size_facts, idle_in_order, read_in_order, staged_stays, last_far, last_quiet, last_published, range_stored, range_far, range_published, constants_stay}

pub record Sides (role : Role) (key : Shape) (words : List ℕ) (homes : Homes) (mine yours : HalfView) : Type 0 where
  pub shape : IsShape key
  pub word_count : length words ≡ word_count key.size
  pub slot_count : length homes ≡ key.size
  pub my_way : OneWay role key words homes mine yours
  pub your_way : OneWay (other role) key words homes yours mine
  pub i_own : (x : ℕ) → times x mine.written ≤ begins role key.size x + times x mine.taken
  pub you_own : (x : ℕ) → times x yours.written ≤ begins (other role) key.size x + times x yours.taken
  pub constants : Constants key words

written_is : (role : Role) (key : Shape) (words : List ℕ) (homes : Homes) (writer taker : HalfView) (o : OneWay role key words homes writer taker) (x : ℕ) → times x writer.written ≡ times x taker.taken + times x o.entries.left
written_is role key words homes writer taker o x = ap (times x) o.entries.in_order ∙ times-append x taker.taken o.entries.left

pub driver_side : (key : Shape) (words : List ℕ) (homes : Homes) (d e : HalfView) → Content key words homes d e → Sides Driver key words homes d e
driver_side key words homes d e c = record {
  shape = c.shape;
  word_count = c.word_count;
  slot_count = c.slot_count;
  my_way = c.offers;
  your_way = c.returns;
  i_own = λ x. let o = c.each_once x in let a = written_is Driver key words homes d e c.offers x in let b = written_is Device key words homes e d c.returns x in omega (arith, o, a, b);
  you_own = λ x. let o = c.each_once x in let a = written_is Driver key words homes d e c.offers x in let b = written_is Device key words homes e d c.returns x in omega (arith, o, a, b);
  constants = c.constants;
}

pub device_side : (key : Shape) (words : List ℕ) (homes : Homes) (d e : HalfView) → Content key words homes d e → Sides Device key words homes e d
device_side key words homes d e c = let b = driver_side key words homes d e c in record {
  shape = c.shape;
  word_count = c.word_count;
  slot_count = c.slot_count;
  my_way = c.returns;
  your_way = c.offers;
  i_own = b.you_own;
  you_own = b.i_own;
  constants = c.constants;
}

pub driver_content : (key : Shape) (words : List ℕ) (homes : Homes) (d e : HalfView) → Sides Driver key words homes d e → Content key words homes d e
driver_content key words homes d e b = record {
  shape = b.shape;
  word_count = b.word_count;
  slot_count = b.slot_count;
  offers = b.my_way;
  returns = b.your_way;
  each_once = λ x. let i = b.i_own x in let j = b.you_own x in let u = written_is Driver key words homes d e b.my_way x in let v = written_is Device key words homes e d b.your_way x in omega (arith, i, j, u, v);
  constants = b.constants;
}

pub device_content : (key : Shape) (words : List ℕ) (homes : Homes) (d e : HalfView) → Sides Device key words homes e d → Content key words homes d e
device_content key words homes d e b = driver_content key words homes d e record {
  shape = b.shape;
  word_count = b.word_count;
  slot_count = b.slot_count;
  my_way = b.your_way;
  your_way = b.my_way;
  i_own = b.you_own;
  you_own = b.i_own;
  constants = b.constants;
}

begins-sum : (role : Role) (z x : ℕ) → begins role z x + begins (other role) z x ≡ inside z x
begins-sum Driver z x = omega arith
begins-sum Device z x = omega arith

-- what is written is what was begun with and taken, at most
written_count : (role : Role) (z : ℕ) (ys ts : List Entry) → ((n : ℕ) (e : Entry) → get_elem? ys n ≡ some e → number_of e < z) → ((n : ℕ) (e : Entry) → get_elem? ts n ≡ some e → number_of e < z) → ((x : ℕ) → times x ys ≤ begins role z x + times x ts) → length ys ≤ starts_with role z + length ts
written_count Driver z ys ts a b h = longer_by z ys ts a b h
written_count Device z ys ts a b h = let k = shorter_by z ys ts a b (λ x. let q = h x in omega (arith, q)) in omega (arith, k)

starts-sum : (role : Role) (z : ℕ) → starts_with role z + starts_with (other role) z ≡ z
starts-sum Driver z = omega arith
starts-sum Device z = omega arith

-- the lengths of two entries stand at one word where their numbers or their places are one
len_clash : (role : Role) (z n m a b : ℕ) → (way_of role z).len_place n a ≡ (way_of role z).len_place m b → (a ≡ b) ⊎ (n % z ≡ m % z)
len_clash Driver z n m a b e = inl e
len_clash Device z n m a b e = inr e

-- a step at a word and slots of which this way does not speak
far_keeps : (role : Role) (key : Shape) (words : List ℕ) (homes : Homes) (w t t' : HalfView) (i x : ℕ) (homes' : Homes) → 0 < key.size → OneWay role key words homes w t → IsFarFrom role key.size i → ((k : ℕ) → Holds role key.size w k → k < key.size)
    → ((k : ℕ) → Holds role key.size w k → get_elem? homes' k ≡ some none) → WayHolds (way_of role key.size) key.size (set words i x) homes' w.written t'.taken t'.shown t'.staged → OneWay role key (set words i x) homes' w t'
far_keeps role key words homes w t t' i x homes' pos o far small out entries = let z : ℕ = key.size in let m : ℕ = length w.written in record {
  entries = entries;
  staged = staged_stays role z key.length words (Holds role z w) m i x w.staged (far.number (m % z) (mod-lt m pos)) (λ id h. far.len ((way_of role z).len_place m id) (len_place_small role z m id (small id h))) o.staged;
  staged_in_order = o.staged_in_order;
  out = out;
  in_range = range_far role key words w.written o.in_range i x far;
  last_entries = last_far role z words w.written w.staged o.last_entries i x far;
  width = o.width;
}

module _ (role : Role) (key : Shape) (words : List ℕ) (homes : Homes) (m y : HalfView) (s : Sides role key words homes m y) where
  abbrev z : ℕ
  z = key.size

  abbrev way : Way
  way = way_of role z

  pub some_size : 0 < key.size
  some_size = let f = size_facts key.size s.shape.size in omega (arith, f)

  pub small_size : key.size ≤ 32768
  small_size = let f = size_facts key.size s.shape.size in omega (arith, f)

  pub mine_is : (x : ℕ) → times x m.written ≡ times x y.taken + times x s.my_way.entries.left
  mine_is = written_is role key words homes m y s.my_way

  pub yours_is : (x : ℕ) → times x y.written ≡ times x m.taken + times x s.your_way.entries.left
  yours_is = written_is (other role) key words homes y m s.your_way

  -- a number that this half holds stands nowhere else
  pub i_hold : (x : ℕ) → Holds role key.size m x → (x < key.size) × (times x s.my_way.entries.left ≡ 0) × (times x s.your_way.entries.left ≡ 0) × (times x y.written ≡ begins (other role) key.size x + times x y.taken)
  i_hold x h = let a = mine_is x in let b = yours_is x in let c = s.i_own x in let d = s.you_own x in let e = inside-le key.size x in let g = begins-sum role key.size x in
      (inside-lt key.size x (omega (arith, a, b, c, d, g, h)), omega (arith, a, b, c, d, e, g, h), omega (arith, a, b, c, d, e, g, h), omega (arith, a, b, c, d, e, g, h))

  pub you_hold : (x : ℕ) → Holds (other role) key.size y x → (x < key.size) × (times x s.my_way.entries.left ≡ 0) × (times x s.your_way.entries.left ≡ 0) × (times x m.written ≡ begins role key.size x + times x m.taken)
  you_hold x h = let a = mine_is x in let b = yours_is x in let c = s.i_own x in let d = s.you_own x in let e = inside-le key.size x in let g = begins-sum role key.size x in
      (inside-lt key.size x (omega (arith, a, b, c, d, g, h)), omega (arith, a, b, c, d, e, g, h), omega (arith, a, b, c, d, e, g, h), omega (arith, a, b, c, d, e, g, h))

  my_left_below : Below key.size s.my_way.entries.left
  my_left_below x = let a = mine_is x in let b = yours_is x in let c = s.i_own x in let d = s.you_own x in let g = begins-sum role key.size x in omega (arith, a, b, c, d, g)

  your_left_below : Below key.size s.your_way.entries.left
  your_left_below x = let a = mine_is x in let b = yours_is x in let c = s.i_own x in let d = s.you_own x in let g = begins-sum role key.size x in omega (arith, a, b, c, d, g)

  my_left_small : (x : ℕ) → 0 < times x s.my_way.entries.left → x < key.size
  my_left_small x h = let a = my_left_below x in inside-lt key.size x (omega (arith, a, h))

  pub your_left_small : (x : ℕ) → 0 < times x s.your_way.entries.left → x < key.size
  your_left_small x h = let a = your_left_below x in inside-lt key.size x (omega (arith, a, h))

  -- a number that the other half wrote and this half did not take is held by none
  pub left_not_mine : (x : ℕ) → 0 < times x s.your_way.entries.left → (times x m.written ≡ begins role key.size x + times x m.taken) × (times x s.my_way.entries.left ≡ 0) × (times x s.your_way.entries.left ≡ 1)
  left_not_mine x h = let a = mine_is x in let b = yours_is x in let c = s.i_own x in let d = s.you_own x in let e = inside-le key.size x in let g = begins-sum role key.size x in
      (omega (arith, a, b, c, d, e, g, h), omega (arith, a, b, c, d, e, g, h), omega (arith, a, b, c, d, e, g, h))

  my_length : length m.written ≡ length y.taken + length s.my_way.entries.left
  my_length = ap (length {A = Entry}) s.my_way.entries.in_order ∙ length-append y.taken s.my_way.entries.left

  pub your_length : length y.written ≡ length m.taken + length s.your_way.entries.left
  your_length = ap (length {A = Entry}) s.your_way.entries.in_order ∙ length-append m.taken s.your_way.entries.left

  -- there is a place for a number that is held
  room : (n : ℕ) → Holds role key.size m n → length m.written < length y.taken + key.size
  room n held = let has = i_hold n held in let a = my_length in let b = fewer_but key.size n s.my_way.entries.left my_left_below has.0 has.1 in omega (arith, a, b)

  pub your_fit : length y.written ≤ length m.taken + key.size
  your_fit = let a = your_length in let b = fewer key.size s.your_way.entries.left your_left_below in omega (arith, a, b)

  -- what the other half wrote, and the numbers that this half holds, are at most as many as there are
  pub your_count : length y.written + starts_with role key.size ≤ key.size + length m.written
  your_count = let k = written_count (other role) key.size y.written y.taken (λ n e at. (s.your_way.in_range.entries n e at).0) (λ n e at. (s.my_way.in_range.entries n e (before_at y.taken s.my_way.entries.left m.written s.my_way.entries.in_order n e at)).0) s.you_own in
      let a = my_length in let b = starts-sum role key.size in omega (arith, k, a, b)

  -- the entries that stand, after a store at the place of the next entry
  my_entries_stay : (i x id : ℕ) → Holds role key.size m id → (i ≡ (way_of role key.size).number (length m.written % key.size)) ⊎ (i ≡ (way_of role key.size).len ((way_of role key.size).len_place (length m.written) id))
      → WayHolds (way_of role key.size) key.size (set words i x) homes m.written y.taken y.shown y.staged
  my_entries_stay i x id held at = let n : ℕ = length m.written in let has = i_hold id held in
      let place_small = len_place_small role z n id has.0 in
      way_stays role z words homes m.written y.taken y.shown y.staged s.my_way.entries i x homes
      (λ e. ⊎_elim (λ (a : i ≡ way.number (n % z)). idx_not_number role z (n % z) (sym e ∙ a)) (λ (a : i ≡ way.len (way.len_place n id)). idx_not_len role z (way.len_place n id) place_small (sym e ∙ a)) at)
      (λ n' e le lt there.
      let clash : n' % z ≡ n % z → ⊥ = λ same. (let r = room id held in let one : n' ≡ n = one_turn n' n z (omega arith) (omega (arith, r, le)) same in omega (arith, one, lt)) in
      let small = my_left_small (number_of e) there in let low = len_place_small role z n' (number_of e) small in (
        (λ e'. ⊎_elim (λ (a : i ≡ way.number (n % z)). clash (number_same role z (n' % z) (n % z) (sym e' ∙ a))) (λ (a : i ≡ way.len (way.len_place n id)). number_not_len role z (n' % z) (way.len_place n id) place_small (sym e' ∙ a)) at),
        (λ e'. ⊎_elim (λ (a : i ≡ way.number (n % z)). number_not_len role z (n % z) (way.len_place n' (number_of e)) low (sym a ∙ e'))
            (λ (a : i ≡ way.len (way.len_place n id)). ⊎_elim (λ (q : number_of e ≡ id). let t = subst (λ (k : ℕ). 0 < times k s.my_way.entries.left) q there in omega (arith, t, has.1)) clash
            (len_clash role z n' n (number_of e) id (len_same role z (way.len_place n' (number_of e)) (way.len_place n id) (sym e' ∙ a)))) at),
        refl,
      ))

  your_entries_stay : (i x : ℕ) (homes' : Homes) (shown' : ℕ) (st' : Staged) → IsFarFrom (other role) key.size i → length m.taken ≤ shown' → shown' ≤ length y.written → ((k : ℕ) → st' ≢ NumberRead k)
      → ((e : Entry) → 0 < times (number_of e) s.your_way.entries.left → get_elem? homes' (number_of e) ≡ get_elem? homes (number_of e))
      → WayHolds (way_of (other role) key.size) key.size (set words i x) homes' y.written m.taken shown' st'
  your_entries_stay i x homes' shown' st' far low high none_read same =
      way_shows (other role) z (set words i x) homes' y.written m.taken m.shown m.staged
      (way_stays (other role) z words homes y.written m.taken m.shown m.staged s.your_way.entries i x homes' far.idx
      (λ n e le lt there. (far.number (n % z) (mod-lt n some_size), far.len ((way_of (other role) z).len_place n (number_of e)) (len_place_small (other role) z n (number_of e) (your_left_small (number_of e) there)), same e there)))
      shown' st' low high (λ k e. absurd (none_read k e))

  abbrev pub staging : Staged → HalfView
  staging st = record m { staged = st }

  -- the store of a number or of a length
  pub store_keeps : (i x id : ℕ) (st : Staged) → Holds role key.size m id → (i ≡ (way_of role key.size).number (length m.written % key.size)) ⊎ (i ≡ (way_of role key.size).len ((way_of role key.size).len_place (length m.written) id))
      → InOrder role st → ((k : ℕ) → st ≢ NumberRead k)
      → StagedHolds (way_of role key.size) key.size key.length (set words i x) (Holds role key.size m) (length m.written) st
      → LastEntries (way_of role key.size) key.size (set words i x) m.written st
      → InRange (way_of role key.size) key (set words i x) m.written
      → Sides role key (set words i x) homes record m { staged = st } y
  store_keeps i x id st held at order none_read now last range = let n : ℕ = length m.written in let has = i_hold id held in
      let far : IsFarFrom (other role) z i = ⊎_elim (λ (a : i ≡ way.number (n % z)). subst (IsFarFrom (other role) z) (sym a) (far_number role z (n % z) (mod-lt n some_size)))
      (λ (a : i ≡ way.len (way.len_place n id)). subst (IsFarFrom (other role) z) (sym a) (far_len role z (way.len_place n id) (len_place_small role z n id has.0))) at in
      let moving : IsMoving z i = ⊎_elim (λ (a : i ≡ way.number (n % z)). subst (IsMoving z) (sym a) (moving_number role z (n % z) (mod-lt n some_size)))
      (λ (a : i ≡ way.len (way.len_place n id)). subst (IsMoving z) (sym a) (moving_len role z (way.len_place n id) (len_place_small role z n id has.0))) at in record {
        shape = s.shape;
        word_count = length-set words i x ∙ s.word_count;
        slot_count = s.slot_count;
        my_way = record { entries = my_entries_stay i x id held at; staged = now; staged_in_order = order; out = s.my_way.out; in_range = range; last_entries = last; width = s.my_way.width };
        your_way = far_keeps (other role) key words homes y m (staging st) i x homes some_size s.your_way far (λ k h. (you_hold k h).0) s.your_way.out
            (your_entries_stay i x homes m.shown st far s.your_way.entries.shown_first s.your_way.entries.written_first none_read (λ e _. refl));
        i_own = s.i_own;
        you_own = s.you_own;
        constants = constants_stay key words i x moving s.constants;
      }

  abbrev pub writing : Entry → HalfView
  writing e = record m { written = m.written ++ e ∷ []; staged = Idle }

  idle_not_read : (k : ℕ) → Idle ≢ NumberRead k
  idle_not_read k e = cc

  -- idx is stored, and the buffer goes to its slot
  pub publish_keeps : (new len : ℕ) (b : Stored) → m.staged ≡ BothStored b.number len → length b.bytes ≡ key.length → new ≡ (length m.written + 1) % 65536
      → Sides role key (set words (way_of role key.size).idx new) (set homes b.number (some (Some b))) record m { written = m.written ++ (b, len) ∷ []; staged = Idle } y
  publish_keeps new len b is wide_enough next = let n : ℕ = b.number in let e : Entry = (b, len) in let i : ℕ = way.idx in let homes' : Homes = set homes n (some (Some b)) in
      let k = subst (StagedHolds way z key.length words (Holds role z m) (length m.written)) is s.my_way.staged in
      let has = i_hold n k.0 in let low : n < z = has.0 in let wide = s.word_count in let deep = s.slot_count in
      let more : (x : ℕ) → times x (m.written ++ e ∷ []) ≡ times x m.written + times x (e ∷ []) = λ x. times-append x m.written (e ∷ []) in
      let not_held : (x : ℕ) → Holds role z (writing e) x → x ≢ n = λ x h q. (let a = more n in let t = times-self e in let u = mine_is n in let v = yours_is n in let c = s.i_own n in let d = s.you_own n in let l = inside-le z n in let g = begins-sum role z n in
      let h' = subst (Holds role z (writing e)) q h in omega (arith, a, t, u, v, c, d, l, g, h')) in
      let here : i < length words = (let w = idx_within role z in omega (arith, w, wide)) in record {
        shape = s.shape;
        word_count = length-set words i new ∙ s.word_count;
        slot_count = length-set homes n (some (Some b)) ∙ s.slot_count;
        my_way = record {
          entries = way_writes role z words homes m.written y.taken y.shown y.staged s.my_way.entries b len new some_size s.slot_count low here next has.1 k.1 k.2 (λ d there. my_left_small (number_of d) there);
          staged = tt;
          staged_in_order = idle_in_order role;
          out = λ x h. set_else homes n x (some (Some b)) (not_held x h) ∙ s.my_way.out x (let a = more x in omega (arith, a, h));
          in_range = range_published role key (set words i new) m.written (range_stored role key words m.written s.my_way.in_range i new here (λ p _ q. absurd (idx_not_number role z p q)) (λ j l q. absurd (idx_not_len role z j l q))) e (low, k.3, wide_enough);
          last_entries = last_published role z words m.written m.staged s.my_way.last_entries new e some_size low is k.1 k.2;
          width = s.my_way.width;
        };
        your_way = far_keeps (other role) key words homes y m (writing e) i new homes' some_size s.your_way (far_idx role z) (λ x h. (you_hold x h).0)
            (λ x h. set_else homes n x (some (Some b)) (λ q. let h' = subst (Holds (other role) z y) q h in omega (arith, h', has.3)) ∙ s.your_way.out x h)
            (your_entries_stay i new homes' m.shown Idle (far_idx role z) s.your_way.entries.shown_first s.your_way.entries.written_first idle_not_read
            (λ d there. set_else homes n (number_of d) (some (Some b)) (λ q. let t = subst (λ (x : ℕ). 0 < times x s.your_way.entries.left) q there in omega (arith, t, has.2))));
        i_own = λ x. dite (ℕ_discrete n x) (λ q. let a = more x in let t = times-is x e q in let h = subst (Holds role z m) q k.0 in omega (arith, a, t, h)) (λ ne. let a = more x in let t = times-other x e ne in let h = s.i_own x in omega (arith, a, t, h));
        you_own = s.you_own;
        constants = constants_stay key words i new (moving_idx role z) s.constants;
      }

  -- idx of the other way is as many as the other half wrote
  pub look_is : (get_or words (way_of (other role) key.size).idx 0 + 65536 - length m.taken % 65536) % 65536 ≡ length y.written - length m.taken
  look_is = let a = your_length in let f = your_fit in let sm = small_size in
      ap (λ (w : ℕ). (w + 65536 - length m.taken % 65536) % 65536) s.your_way.entries.idx ∙ ahead_is (length y.written) (length m.taken) (omega (arith, a)) (omega (arith, f, sm))

  -- more entries of the other half are shown
  pub show_keeps : (shown' : ℕ) (looks' : List ℕ) → m.shown ≤ shown' → shown' ≤ length y.written → Sides role key words homes record m { shown = shown'; looks = looks' } y
  show_keeps shown' looks' more high = record {
    shape = s.shape;
    word_count = s.word_count;
    slot_count = s.slot_count;
    my_way = record { entries = s.my_way.entries; staged = s.my_way.staged; staged_in_order = s.my_way.staged_in_order; out = s.my_way.out; in_range = s.my_way.in_range; last_entries = s.my_way.last_entries; width = s.my_way.width };
    your_way = record {
      entries = way_shows (other role) z words homes y.written m.taken m.shown m.staged s.your_way.entries shown' m.staged (let low = s.your_way.entries.shown_first in omega (arith, low, more)) high (λ k e. (e, more));
      staged = s.your_way.staged;
      staged_in_order = s.your_way.staged_in_order;
      out = s.your_way.out;
      in_range = s.your_way.in_range;
      last_entries = s.your_way.last_entries;
      width = s.your_way.width;
    };
    i_own = s.i_own;
    you_own = s.you_own;
    constants = s.constants;
  }

  -- another count of steps
  pub count_keeps : (steps' : ℕ) → Sides role key words homes record m { steps = steps' } y
  count_keeps steps' = record {
    shape = s.shape;
    word_count = s.word_count;
    slot_count = s.slot_count;
    my_way = record {
      entries = s.my_way.entries;
      staged = s.my_way.staged;
      staged_in_order = s.my_way.staged_in_order;
      out = s.my_way.out;
      in_range = s.my_way.in_range;
      last_entries = s.my_way.last_entries;
      width = s.my_way.width;
    };
    your_way = record {
      entries = s.your_way.entries;
      staged = s.your_way.staged;
      staged_in_order = s.your_way.staged_in_order;
      out = s.your_way.out;
      in_range = s.your_way.in_range;
      last_entries = s.your_way.last_entries;
      width = s.your_way.width;
    };
    i_own = s.i_own;
    you_own = s.you_own;
    constants = s.constants;
  }

  no_number : (st : Staged) → (m.staged ≡ st) → (HasNumber st → ⊥) → HasNumber m.staged → ⊥
  no_number st is none_there h = none_there (subst HasNumber is h)

  no_length : (st : Staged) → (m.staged ≡ st) → ((id : ℕ) → HasLength st id → ⊥) → (id : ℕ) → HasLength m.staged id → ⊥
  no_length st is none_there id h = none_there id (subst (λ (q : Staged). HasLength q id) is h)

  -- the number of the next entry of the other half is read
  pub read_keeps : (r : ℕ) → m.staged ≡ Idle → length m.taken < m.shown → r ≡ get_or words ((way_of (other role) key.size).number (length m.taken % key.size)) 0 → Sides role key words homes record m { staged = NumberRead r } y
  read_keeps r idle l is = record {
    shape = s.shape;
    word_count = s.word_count;
    slot_count = s.slot_count;
    my_way = record {
      entries = s.my_way.entries;
      staged = tt;
      staged_in_order = read_in_order role r;
      out = s.my_way.out;
      in_range = s.my_way.in_range;
      last_entries = last_quiet role z words m.written m.staged s.my_way.last_entries (NumberRead r) (no_number Idle idle (λ h. h)) (no_length Idle idle (λ id h. h));
      width = s.my_way.width;
    };
    your_way = record {
      entries = way_reads (other role) z words homes y.written m.taken m.shown m.staged s.your_way.entries r l is;
      staged = s.your_way.staged;
      staged_in_order = s.your_way.staged_in_order;
      out = s.your_way.out;
      in_range = s.your_way.in_range;
      last_entries = s.your_way.last_entries;
      width = s.your_way.width;
    };
    i_own = s.i_own;
    you_own = s.you_own;
    constants = s.constants;
  }

  -- what the number that was read stands for
  pub next_is : (id : ℕ) → m.staged ≡ NumberRead id → (e : Entry) × (rest : List Entry) × (s.your_way.entries.left ≡ e ∷ rest) × (get_elem? y.written (length m.taken) ≡ some e) × (number_of e ≡ id) × (length m.taken < m.shown)
  next_is id is = let rd = s.your_way.entries.read id is in let e = next_entry (other role) z words homes y.written m.taken m.shown m.staged s.your_way.entries rd.0 in (e.0, e.1, e.2, e.3, rd.1 e.0 e.3, rd.0)

  abbrev pub taking : Entry → HalfView
  taking e = record m { taken = m.taken ++ e ∷ []; staged = Idle }

  -- the length of the next entry is read, and its buffer comes from its slot
  pub take_keeps : (id : ℕ) (e : Entry) (rest : List Entry) → m.staged ≡ NumberRead id → length m.taken < m.shown → s.your_way.entries.left ≡ e ∷ rest
      → Sides role key words (set homes (number_of e) none) record m { taken = m.taken ++ e ∷ []; staged = Idle } y
  take_keeps id e rest reads l is = let n : ℕ = number_of e in let homes' : Homes = set homes n none in let deep = s.slot_count in
      let there : 0 < times n s.your_way.entries.left = subst (λ (xs : List Entry). 0 < times n xs) (sym is) (stands-there (e ∷ rest) 0 e refl) in
      let small = your_left_small n there in let one = left_not_mine n there in
      let more : (x : ℕ) → times x (m.taken ++ e ∷ []) ≡ times x m.taken + times x (e ∷ []) = λ x. times-append x m.taken (e ∷ []) in record {
        shape = s.shape;
        word_count = s.word_count;
        slot_count = length-set homes n none ∙ s.slot_count;
        my_way = record {
          entries = record {
            left = s.my_way.entries.left;
            idx = s.my_way.entries.idx;
            in_order = s.my_way.entries.in_order;
            shown_first = s.my_way.entries.shown_first;
            written_first = s.my_way.entries.written_first;
            standing = λ n' d le at. let k = s.my_way.entries.standing n' d le at in let p = left_there role z words homes m.written y.taken y.shown y.staged s.my_way.entries n' d le at in record {
              number = k.number;
              len = k.len;
              slot = set_else homes n (number_of d) none (λ q. let t = subst (λ (x : ℕ). 0 < times x s.my_way.entries.left) q p in omega (arith, t, one)) ∙ k.slot;
            };
            read = s.my_way.entries.read;
          };
          staged = tt;
          staged_in_order = idle_in_order role;
          out = λ x h. dite (ℕ_discrete n x) (λ q. subst (λ (k : ℕ). get_elem? homes' k ≡ some none) q (set_here homes n none (omega (arith, deep, small))))
              (λ ne. set_else homes n x none (λ q. ne (sym q)) ∙ s.my_way.out x (let a = more x in let t = times-other x e ne in omega (arith, a, t, h)));
          in_range = s.my_way.in_range;
          last_entries = last_quiet role z words m.written m.staged s.my_way.last_entries Idle (no_number (NumberRead id) reads (λ h. h)) (no_length (NumberRead id) reads (λ k h. h));
          width = s.my_way.width;
        };
        your_way = record {
          entries = way_takes (other role) z words homes y.written m.taken m.shown m.staged s.your_way.entries e rest l is (omega (arith, one));
          staged = s.your_way.staged;
          staged_in_order = s.your_way.staged_in_order;
          out = λ x h. set_else homes n x none (λ q. let has = you_hold x h in let t = subst (λ (k : ℕ). 0 < times k s.your_way.entries.left) (sym q) there in omega (arith, t, has)) ∙ s.your_way.out x h;
          in_range = s.your_way.in_range;
          last_entries = s.your_way.last_entries;
          width = s.your_way.width;
        };
        i_own = λ x. let a = more x in let h = s.i_own x in omega (arith, a, h);
        you_own = s.you_own;
        constants = s.constants;
      }
