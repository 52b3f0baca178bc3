-- The beginning of a ring: every slot is taken, and then the halves part.
use Rattle.std.proofs.Common.{◌≡◌, ℕ, zero, suc, ◌+◌, ◌*◌, ◌/◌, ◌%◌, ◌<◌, ◌≤◌, List, [], ◌∷◌, ◌++◌, map, length, replicate, set, get_or, sym, refl, ap, ◌∙◌, subst, inl, inr, arith, Option, None, Bool, cond, le-ltb, lt-ltb, append-nil, length-set, add-one}
use mathlib.Core.Option.{none, some, some-injective, some-ne-none}
use mathlib.Core.Logic.{dite}
use native.Mathlib.Decide.{ℕ_discrete}
use lib.ListN.{get_elem?}
use lib.Seq.{set-get_or}
use Rattle.atomic_table.specs.Table.{step, Act, keeps, takes, chain, carried_after, homes_after, Valid, Allows, Splits, opening}
use Rattle.atomic_table.proofs.Lists.{set_here, set_else}
use Rattle.mc_base.specs.Stored.{Stored}
use Rattle.shared_words.specs.declared.rule.Shape.{Shape}
use Rattle.shared_words.specs.declared.view.Role.{Role}
use Rattle.shared_words.specs.declared.view.Role.TheVariants.{Driver, Device}
use Rattle.shared_words.specs.declared.view.Staged.TheVariants.{Idle, NumberRead}
use Rattle.shared_words.specs.declared.view.HalfView.{HalfView}
use Rattle.shared_words.specs.declared.view.View.{View}
use Rattle.shared_words.specs.declared.view.View.TheVariants.{Opening, Whole, Live}
use Rattle.shared_words.specs.Layout.{word_count}
use Rattle.shared_words.specs.Entry.{times_by, inside}
use Rattle.shared_words.specs.Shape.{IsShape}
use Rattle.shared_words.specs.Way.{way_of, Homes, WayHolds}
use Rattle.shared_words.specs.Places.{Holds}
use Rattle.shared_words.specs.LastEntries.{LastEntries}
use Rattle.shared_words.specs.Constants.{InRange}
use Rattle.shared_words.specs.Views.{of_role, Knows, ViewsHold}
use Rattle.shared_words.specs.RingRule.{RingState, OneWay, Running, NotBegun, RingRule, new_view}
use Rattle.shared_words.specs.Slots.{Slot, vacant, numbers_from, carried_times}
use Rattle.shared_words.specs.Kinds.{Seated, begun}
use Rattle.shared_words.specs.HalfHolds.{HalfHolds}
use Rattle.shared_words.specs.Start.{start_word, desc_word, new_buffer}
use Rattle.shared_words.proofs.CountLemmas.{inside-lt, all_numbers, by-map}
use Rattle.shared_words.proofs.WordLemmas.{size_facts, idle_in_order}
use Rattle.shared_words.proofs.ViewLemmas.{one_of, views_part}

takes_from : ℕ → ℕ → Act (Option Stored)
takes_from j zero = keeps
takes_from j (suc n) = chain (takes_from (suc j) n) (takes j None)

carried_is : (j n : ℕ) (c : List (ℕ × Option Stored)) → carried_after c (takes_from j n) ≡ map vacant (numbers_from j n) ++ c
unfolding takes_from
carried_is j zero c = refl
carried_is j (suc n) c = ap (λ (l : List (ℕ × Option Stored)). vacant j ∷ l) (carried_is (suc j) n c)

below_kept : (j n k : ℕ) (hs : Homes) (c : List (ℕ × Option Stored)) → k < j → get_elem? (homes_after hs c (takes_from j n)) k ≡ get_elem? hs k
unfolding takes_from
below_kept j zero k hs c l = refl
below_kept j (suc n) k hs c l = set_else (homes_after hs c (takes_from (suc j) n)) j k none (λ e. omega arith) ∙ below_kept (suc j) n k hs c (omega arith)

long_kept : (j n : ℕ) (hs : Homes) (c : List (ℕ × Option Stored)) → length (homes_after hs c (takes_from j n)) ≡ length hs
unfolding takes_from
long_kept j zero hs c = refl
long_kept j (suc n) hs c = length-set (homes_after hs c (takes_from (suc j) n)) j none ∙ long_kept (suc j) n hs c

taken_out : (j n k : ℕ) (hs : Homes) (c : List (ℕ × Option Stored)) → j + n ≤ length hs → j ≤ k → k < j + n → get_elem? (homes_after hs c (takes_from j n)) k ≡ some none
unfolding takes_from
taken_out j zero k hs c fit a b = absurd (omega arith)
taken_out j (suc n) k hs c fit a b = let long = long_kept (suc j) n hs c in dite (ℕ_discrete k j)
    (λ e. subst (λ (x : ℕ). get_elem? (set (homes_after hs c (takes_from (suc j) n)) j none) x ≡ some none) (sym e) (set_here (homes_after hs c (takes_from (suc j) n)) j none (omega (arith, long))))
    (λ ne. set_else (homes_after hs c (takes_from (suc j) n)) j k none ne ∙ taken_out (suc j) n k hs c (omega arith) (omega arith) (omega arith))

all_valid : (j n : ℕ) (hs : Homes) (c : List (ℕ × Option Stored)) → ((k : ℕ) → j ≤ k → k < j + n → get_elem? hs k ≡ some (some None)) → Valid hs c (takes_from j n)
unfolding takes_from
all_valid j zero hs c h = tt
all_valid j (suc n) hs c h = (all_valid (suc j) n hs c (λ k a b. h k (omega arith) (omega arith)), below_kept (suc j) n j hs c (omega arith) ∙ h j (omega arith) (omega arith))

abbrev all_home : ℕ → Homes
all_home n = map some (replicate n None)

long_vacant : (n : ℕ) → length (all_home n) ≡ n
long_vacant zero = refl
long_vacant (suc n) = let h = long_vacant n in omega (arith, h)

vacant_at : (n i : ℕ) → i < n → get_elem? (all_home n) i ≡ some (some None)
vacant_at zero i h = absurd (omega arith)
vacant_at (suc n) zero h = refl
vacant_at (suc n) (suc i) h = vacant_at n i (omega arith)

-- The first words

start-high : (key : Shape) (i : ℕ) → 4 * key.size ≤ i → start_word key i ≡ 0
start-high key i l = ap (λ (b : Bool). cond b (desc_word key (i / 4) (i % 4)) 0) (le-ltb i (4 * key.size) l)

start-low : (key : Shape) (i k j : ℕ) → i ≡ 4 * k + j → j < 4 → k < key.size → start_word key i ≡ desc_word key k j
start-low key i k j e l low = ap (λ (b : Bool). cond b (desc_word key (i / 4) (i % 4)) 0) (lt-ltb i (4 * key.size) (omega arith)) ∙ (let a : i / 4 ≡ k = omega arith in let b : i % 4 ≡ j = omega arith in λ y. desc_word key (a y) (b y))

module _ (key : Shape) (words : List ℕ) (shape : IsShape key) (start : (i : ℕ) → get_or words i 0 ≡ start_word key i) where
  abbrev z : ℕ
  z = key.size

  high : (i : ℕ) → 4 * key.size ≤ i → get_or words i 0 ≡ 0
  high i l = start i ∙ start-high key i l

  len_zero : (k : ℕ) → k < key.size → get_or words (4 * k + 1) 0 ≡ 0
  len_zero k l = start (4 * k + 1) ∙ start-low key (4 * k + 1) k 1 refl (omega arith) l

  first_lasts : (role : Role) → LastEntries (way_of role key.size) key.size words [] Idle
  first_lasts Driver = record { numbers = λ p l _. high (4 * z + 2 + p) (omega arith); lens = λ k l _. len_zero k l }
  first_lasts Device = record { numbers = λ p l _. high (5 * z + 4 + 2 * p) (omega arith); lens = λ k l _. high (5 * z + 5 + 2 * k) (omega arith) }

  first_range : (role : Role) → InRange (way_of role key.size) key words []
  first_range role = let f = size_facts z shape.size in let l = first_lasts role in record {
    numbers = λ p low. let e = l.numbers p low (λ h. absurd h) in omega (arith, e, f);
    lens = λ k low. let e = l.lens k low (λ id h. absurd h) in omega (arith, e);
    entries = λ n e at. absurd (some-ne-none e (sym at));
  }

  pub opens : length words ≡ word_count key.size → RingRule key (opening words (replicate key.size None) (Opening key.length))
  opens wide = inl record {
    shape = shape;
    views = refl;
    word_count = wide;
    homes = refl;
    avail_idx = high (4 * z + 1) (omega arith);
    used_idx = high (5 * z + 3) (omega arith);
    offered = first_lasts Driver;
    returned = first_lasts Device;
    offered_in_range = first_range Driver;
    returned_in_range = first_range Device;
    constants = record {
      addr = λ k l. start (4 * k) ∙ start-low key (4 * k) k 0 (omega arith) (omega arith) l;
      flags = λ k l. start (4 * k + 2) ∙ start-low key (4 * k + 2) k 2 refl (omega arith) l;
      next = λ k l. start (4 * k + 3) ∙ start-low key (4 * k + 3) k 3 refl (omega arith) l;
      avail_flags = high (4 * z) (omega arith);
      used_flags = high (5 * z + 2) (omega arith);
    };
  }

-- Begin

only : (v w : View) (j : ℕ) → get_elem? (v ∷ []) j ≡ some w → (j ≡ 0) × (v ≡ w)
only v w zero at = (refl, some-injective v w at)
only v w (suc j) at = absurd (some-ne-none w (sym at))

idle_reads_none : (id : ℕ) → Idle ≡ NumberRead id → ⊥
idle_reads_none id e = cc

abbrev empty_way : (role : Role) (z : ℕ) (words : List ℕ) (homes : Homes) → get_or words (way_of role z).idx 0 ≡ 0 → WayHolds (way_of role z) z words homes [] [] 0 Idle
empty_way role z words homes is = record {
  left = [];
  idx = is;
  in_order = refl;
  shown_first = omega arith;
  written_first = omega arith;
  standing = λ n e l at. absurd (some-ne-none e (sym at));
  read = λ id e. absurd (idle_reads_none id e);
}

abbrev new_way : (role : Role) (key : Shape) (words : List ℕ) (homes : Homes) → get_or words (way_of role key.size).idx 0 ≡ 0 → ((x : ℕ) → Holds role key.size (new_view key.length) x → get_elem? homes x ≡ some none) → LastEntries (way_of role key.size) key.size words [] Idle
    → InRange (way_of role key.size) key words [] → OneWay role key words homes (new_view key.length) (new_view key.length)
new_way role key words homes idx out lasts range = record {
  entries = empty_way role key.size words homes idx;
  staged = tt;
  staged_in_order = idle_in_order role;
  out = out;
  in_range = range;
  last_entries = lasts;
  width = refl;
}

begins_with : (key : Shape) (s : RingState) (f : NotBegun key s) → Running key record { words = s.words; homes = homes_after s.homes [] (takes_from 0 key.size); views = Whole (new_view key.length) (new_view key.length) ∷ [] }
begins_with key s f = let v : HalfView = new_view key.length in let deep : length s.homes ≡ key.size = ap (λ (l : Homes). length l) f.homes ∙ long_vacant key.size in let homes' : Homes = homes_after s.homes [] (takes_from 0 key.size) in record {
  driver = v;
  device = v;
  driver_seat = 0;
  device_seat = 0;
  views = record {
    live = λ r. one_of r (λ (q : Role). (u : View) × (get_elem? (Whole v v ∷ []) (of_role 0 0 q) ≡ some u) × Rattle.shared_words.specs.Views.IsLiveFor q u) (Whole v v, refl, tt) (Whole v v, refl, tt);
    each = λ j u at. let o = only (Whole v v) u j at in subst (λ (t : ℕ × View). Knows (of_role v v) (of_role 0 0) t.0 t.1) (λ i. (sym o.0 i, o.1 i)) (refl, refl, refl, refl);
  };
  content = record {
    shape = f.shape;
    word_count = f.word_count;
    slot_count = long_kept 0 key.size s.homes [] ∙ deep;
    offers = new_way Driver key s.words homes' f.avail_idx (λ x h. taken_out 0 key.size x s.homes [] (omega (arith, deep)) (omega arith) (let l : x < key.size = inside-lt key.size x (omega (arith, h)) in omega (arith, l))) f.offered f.offered_in_range;
    returns = new_way Device key s.words homes' f.used_idx (λ x h. absurd (omega (arith, h))) f.returned f.returned_in_range;
    each_once = λ x. omega arith;
    constants = f.constants;
  };
}

pub allows_begin : (key : Shape) (slots id : ℕ) (me : Seated) → me.0 ≡ Opening key.length → me.1 ≡ [] → slots ≡ key.size → Allows (RingRule key) slots id me 0 (λ n. n) (begun (step slots 0 0 0 none) me)
allows_begin key slots id me is bare sized s (inr r) deep at _ = absurd (r.views.each id (Opening key.length) (at ∙ ap some is))
allows_begin key slots id me is bare sized s (inl f) deep at _ = let v : HalfView = new_view key.length in let o = only (Opening key.length) me.0 id (subst (λ (vs : List View). get_elem? vs id ≡ some me.0) f.views at) in let z : ℕ = key.size in (
  Whole v v,
  takes_from 0 z,
  all_valid 0 z s.homes me.1 (λ k a b. subst (λ (hs : Homes). get_elem? hs k ≡ some (some None)) (sym f.homes) (vacant_at z k (omega arith))),
  subst (λ (ws : List ℕ). RingRule key record { words = ws; homes = homes_after s.homes me.1 (takes_from 0 z); views = set s.views id (Whole v v) }) (sym (set-get_or s.words 0 0))
      (subst (λ (y : List Slot × List View). RingRule key record { words = s.words; homes = homes_after s.homes y.0 (takes_from 0 z); views = y.1 }) (λ i. (sym bare i, sym (ap (λ (q : List View × ℕ). set q.0 q.1 (Whole v v)) (λ k. (f.views k, o.0 k))) i)) (inr (begins_with key s f))),
  (λ width q. let same : key.length ≡ width = (let e : Opening key.length ≡ Opening width = sym is ∙ q in cc) in (
    ap (λ (n : ℕ). Whole (new_view n) (new_view n)) same,
    carried_is 0 z me.1 ∙ (ap (λ (c : List Slot). map vacant (numbers_from 0 z) ++ c) bare ∙ (append-nil (map vacant (numbers_from 0 z)) ∙ ap (λ (n : ℕ). map vacant (numbers_from 0 n)) (sym sized))),
  )),
)

-- Part

opening_not_whole : (n : ℕ) (d e : HalfView) → Opening n ≡ Whole d e → ⊥
opening_not_whole n d e q = cc

pub splits_part : (key : Shape) (id : ℕ) (d e : HalfView) → Splits (RingRule key) id (Whole d e) (Live Driver d) (Live Device e)
splits_part key id d e s (inl f) at = absurd (opening_not_whole key.length d e (only (Opening key.length) (Whole d e) id (subst (λ (vs : List View). get_elem? vs id ≡ some (Whole d e)) f.views at)).1)
splits_part key id d e s (inr r) at = inr record {
  driver = r.driver;
  device = r.device;
  driver_seat = id;
  device_seat = length (set s.views id (Live Driver d));
  views = views_part (of_role r.driver r.device) (of_role r.driver_seat r.device_seat) s.views r.views id d e at;
  content = r.content;
}

-- The slots of the halves

all_carried : (x z : ℕ) → carried_times x (map vacant (numbers_from 0 z)) ≡ inside z x
all_carried x z = by-map (λ (s : Slot). s.0) vacant x (numbers_from 0 z) ∙ all_numbers x z

pub first_driver : (z width : ℕ) (slots : List Slot) → slots ≡ map vacant (numbers_from 0 z) → HalfHolds z Driver (new_view width) slots 0 0 0
first_driver z width slots is = record {
  written_count = refl;
  taken_count = refl;
  number_read = λ id e. absurd (cc);
  carries = λ x. let a = ap (carried_times x) is in let b = all_carried x z in omega (arith, a, b);
  once = λ x. let a = ap (carried_times x) is in let b = all_carried x z in omega (arith, a, b);
  front = λ id h. absurd h;
}

-- The numbers from 0 on

numbers-suc : (j n : ℕ) → numbers_from j (suc n) ≡ numbers_from j n ++ (j + n) ∷ []
numbers-suc j zero = ap (λ (k : ℕ). k ∷ []) (let h : j ≡ j + 0 = omega arith in h)
numbers-suc j (suc n) = ap (λ (l : List ℕ). j ∷ l) (numbers-suc (suc j) n ∙ ap (λ (k : ℕ). numbers_from (suc j) n ++ k ∷ []) (let h : suc j + n ≡ j + suc n = omega arith in h))

pub numbers-more : (k : ℕ) → numbers_from 0 (k + 1) ≡ numbers_from 0 k ++ k ∷ []
numbers-more k = ap (numbers_from 0) (add-one k) ∙ (numbers-suc 0 k ∙ ap (λ (z : ℕ). numbers_from 0 k ++ z ∷ []) (let h : 0 + k ≡ k = omega arith in h))

-- The first buffers

-- each number below the size is that of one of them
pub all_buffers : (width x z : ℕ) → times_by (λ (b : Stored). b.number) x (map (new_buffer width) (numbers_from 0 z)) ≡ inside z x
all_buffers width x z = by-map (λ (b : Stored). b.number) (new_buffer width) x (numbers_from 0 z) ∙ all_numbers x z
