-- A lane of a board that runs: its frames and buffers, by what its two ends tell. It stays so as one end looks and puts what it
-- owes, and as the other takes frames.
use Rattle.std.proofs.Common.{◌≡◌, ℕ, ◌+◌, ◌-◌, ◌≤◌, Bool, true, false, ◌&&◌, cond, List, [], ◌++◌, length, Option, Some, option_map, refl, sym, ap, ◌∙◌, inl, inr, arith, append_assoc, append-nil, length-append, eq-eqb, eqb-true, ne_eqb}
use Rattle.std.specs.Prelude.{◌==◌, unwrap_or}
use Rattle.std.proofs.lemmas.Bool.Decides.{eqb_tells}
use Rattle.board_model.specs.Journal.{Visit}
use Rattle.board_model.specs.State.{DomainState, Peer, peer_of, free_to, held_from}
use Rattle.board_model.specs.Loads.{Load, frames_in, returned_in, frames_on, returned_on, with_load, with_frames, all_back}
use Rattle.board_model.proofs.WholeFinds.{some_tells}
use Rattle.board_model.proofs.VisitLooks.{after_looks, looked, looked-free, looks-keep}
use Rattle.board_model.proofs.WholePeers.{size_at, shown_at, looks_size, looks_other, looks_own}
use Rattle.board_model.proofs.WholeLoads.{load_on, loaded-with}

-- what the two ends of a lane tell: the frames put and taken, the buffers that came back and those given back
pub record Book : Type 0 where
  pub puts : List (List ℕ)
  pub backs : ℕ
  pub taken : List (List ℕ)
  pub gives : ℕ

-- the lane of this size between two domains in these states
pub record LaneOk (size a b : ℕ) (sa sb : DomainState) (k : Book) (loads : List Load) : Type 0 where
  pub sized_out : size_at sa b ≡ Some size
  pub sized_in : size_at sb a ≡ Some size
  pub load : Load
  pub loaded : load_on loads a b ≡ Some load
  pub front : k.taken ++ load.frames ≡ k.puts
  pub shows : k.backs + load.returned ≡ k.gives
  pub places : free_to sa b + length load.frames + held_from a sb + load.returned ≡ size
  pub within : shown_at sb a ≤ length load.frames

-- the states of the domains, with that of one of them
abbrev pub placed : (ℕ → DomainState) → ℕ → DomainState → ℕ → DomainState
placed states d s n = cond (n == d) s (states n)

pub placed-own : (states : ℕ → DomainState) (d : ℕ) (s : DomainState) (n : ℕ) → (n == d) ≡ true → placed states d s n ≡ s
placed-own states d s n e = ap (λ b. cond b s (states n)) e

pub placed-other : (states : ℕ → DomainState) (d : ℕ) (s : DomainState) (n : ℕ) → (n == d) ≡ false → placed states d s n ≡ states n
placed-other states d s n e = ap (λ b. cond b s (states n)) e

-- what two states of a domain have in common, the states of all have
pub placed_same : {X : Type 0} (f : DomainState → X) (states : ℕ → DomainState) (d : ℕ) (s t : DomainState) (n : ℕ) → f t ≡ f s → f (placed states d t n) ≡ f (placed states d s n)
placed_same f states d s t n same = go (n == d)
  where
    go : (b : Bool) → f (cond b t (states n)) ≡ f (cond b s (states n))
    go true = same
    go false = refl

pub eqb_turn : (a b : ℕ) (y : Bool) → (a == b) ≡ y → (b == a) ≡ y
eqb_turn a b y e = elim (eqb_tells a b) [
  | inl same ↦ eq-eqb b a (sym same.1) ∙ sym same.0 ∙ e
  | inr differ ↦ ne_eqb b a (λ h. differ.1 (sym h)) ∙ sym differ.0 ∙ e
]

-- ---- looks

-- what a look at the buffers, and the frames put after it, add to the book of a lane
abbrev pub looked_book : Bool → Visit → Book → Book
looked_book sends v k = record { puts = k.puts ++ cond sends v.owed []; backs = k.backs + cond sends v.back 0; taken = k.taken; gives = k.gives }

abbrev pub refilled : List (List ℕ) → Load → Load
refilled owed l = with_frames owed (all_back l)

-- the visit puts no more than there is room for, is told all that was given back, and leaves at most what is on the lane
pub record LooksFit (d : ℕ) (s : DomainState) (v : Visit) (loads : List Load) : Type 0 where
  pub room : length v.owed ≤ free_to s v.peer + v.back
  pub back : v.back ≡ returned_on loads d v.peer
  pub left : v.see ≤ length (frames_on (with_load d v.peer (refilled v.owed) loads) v.peer d)

free_own : (s : DomainState) (v : Visit) (n size : ℕ) → v.peer ≡ n → size_at s n ≡ Some size → length v.owed ≤ free_to s v.peer + v.back → free_to (after_looks s v) n + length v.owed ≡ free_to s n + v.back
free_own s v n size same sized room =
    let t = some_tells (λ p. p.size) (peer_of s n) size sized in
    let old : free_to s n ≡ t.0.free = ap (λ (o : Option Peer). unwrap_or (option_map (λ p. p.free) o) 0) t.1 in
    let new : free_to (after_looks s v) n ≡ t.0.free + v.back - length v.owed =
    ap (λ (o : Option Peer). unwrap_or (option_map (λ p. p.free) o) 0) (looks_own s v n same ∙ ap (option_map (looked v)) t.1) ∙ looked-free v t.0 in
    omega (arith, room, old, new, ap (free_to s) same)

free_by : (states : ℕ → DomainState) (d : ℕ) (s : DomainState) (v : Visit) (size a b : ℕ) → size_at (placed states d s a) b ≡ Some size → length v.owed ≤ free_to s v.peer + v.back → (x y : Bool) → (a == d) ≡ x → (b == v.peer) ≡ y → free_to (placed states d (after_looks s v) a) b + cond (x && y) (length v.owed) 0 ≡ free_to (placed states d s a) b + cond (x && y) v.back 0
free_by states d s v size a b sized room true true is_d is_peer =
    let own = placed-own states d s a is_d in
    omega (arith, ap (λ t. free_to t b) own, ap (λ t. free_to t b) (placed-own states d (after_looks s v) a is_d), free_own s v b size (sym (eqb-true b v.peer is_peer)) (ap (λ t. size_at t b) (sym own) ∙ sized) room)
free_by states d s v size a b sized room true false is_d differs =
    omega (
      arith,
      ap (λ t. free_to t b) (placed-own states d s a is_d),
      ap (λ t. free_to t b) (placed-own states d (after_looks s v) a is_d),
      ap (λ (o : Option Peer). unwrap_or (option_map (λ p. p.free) o) 0) (looks_other s v b (λ e. absurd (not_both (b == v.peer) (eq-eqb b v.peer (sym e)) differs))),
    )
  where
    not_both : (z : Bool) → z ≡ true → z ≡ false → ⊥
    not_both true e h = cc
    not_both false e h = cc
free_by states d s v size a b sized room false y differs e =
    omega (arith, ap (λ t. free_to t b) (placed-other states d s a differs), ap (λ t. free_to t b) (placed-other states d (after_looks s v) a differs))

pub shown_own : (s : DomainState) (v : Visit) (n size : ℕ) → v.peer ≡ n → size_at s n ≡ Some size → shown_at (after_looks s v) n ≡ v.see
shown_own s v n size same sized =
    let t = some_tells (λ p. p.size) (peer_of s n) size sized in
    ap (λ (o : Option Peer). unwrap_or (option_map (λ p. p.shown) o) 0) (looks_own s v n same ∙ ap (option_map (looked v)) t.1)

refilled_longer : (sends : Bool) (owed : List (List ℕ)) (l : Load) → length l.frames ≤ length (cond sends (refilled owed l) l).frames
refilled_longer true owed l = omega (arith, length-append l.frames owed)
refilled_longer false owed l = omega arith

shown_by : (states : ℕ → DomainState) (d : ℕ) (s : DomainState) (v : Visit) (loads : List Load) (size a b : ℕ) (l : Load) → size_at (placed states d s b) a ≡ Some size → LooksFit d s v loads → load_on (with_load d v.peer (refilled v.owed) loads) a b ≡ Some l → shown_at (placed states d s b) a ≤ length l.frames → shown_at (placed states d (after_looks s v) b) a ≤ length l.frames
shown_by states d s v loads size a b l sized fit loaded old = elim (eqb_tells b d) [
  | inr other ↦ omega (arith, old, ap (λ t. shown_at t a) (placed-other states d s b other.0), ap (λ t. shown_at t a) (placed-other states d (after_looks s v) b other.0))
  | inl own ↦
      let before = placed-own states d s b own.0 in
      let after : shown_at (placed states d (after_looks s v) b) a ≡ shown_at (after_looks s v) a = ap (λ t. shown_at t a) (placed-own states d (after_looks s v) b own.0) in
      elim (eqb_tells v.peer a) [
        | inl same ↦
            let lane : length l.frames ≡ length (frames_on (with_load d v.peer (refilled v.owed) loads) v.peer d) =
            ap (λ (o : Option Load). length (frames_in o)) (sym loaded) ∙ ap (λ (n : ℕ). length (frames_on (with_load d v.peer (refilled v.owed) loads) a n)) own.1 ∙ ap (λ (n : ℕ). length (frames_on (with_load d v.peer (refilled v.owed) loads) n d)) (sym same.1) in
            omega (arith, after, shown_own s v a size same.1 (ap (λ t. size_at t a) (sym before) ∙ sized), fit.left, lane)
        | inr differ ↦ omega (arith, after, old, ap (λ t. shown_at t a) before, ap (λ (o : Option Peer). unwrap_or (option_map (λ p. p.shown) o) 0) (looks_other s v a differ.1))
      ]
]

-- frames that are put stand behind those on the lane
pub refilled_more : (loads : List Load) (d peer a b : ℕ) (owed : List (List ℕ)) (l : Load) → load_on loads a b ≡ Some l → length l.frames ≤ length (frames_on (with_load d peer (refilled owed) loads) a b)
refilled_more loads d peer a b owed l e =
    let sends = (a == d) && (b == peer) in
    let loaded = ap (λ (o : Option Load). length (frames_in o)) (loaded-with (refilled owed) (record { sender = λ x. refl; receiver = λ x. refl }) loads d peer a b l e) in
    omega (arith, loaded, refilled_longer sends owed l)

front_by : (sends : Bool) (taken puts owed : List (List ℕ)) (l : Load) → taken ++ l.frames ≡ puts → taken ++ (cond sends (refilled owed l) l).frames ≡ puts ++ cond sends owed []
front_by true taken puts owed l e = sym (append_assoc taken l.frames owed) ∙ ap (λ xs. xs ++ owed) e
front_by false taken puts owed l e = e ∙ sym (append-nil puts)

shows_by : (sends : Bool) (backs gives back : ℕ) (owed : List (List ℕ)) (l : Load) → backs + l.returned ≡ gives → (sends ≡ true → back ≡ l.returned) → backs + cond sends back 0 + (cond sends (refilled owed l) l).returned ≡ gives
shows_by true backs gives back owed l e all = omega (arith, e, all refl)
shows_by false backs gives back owed l e all = omega (arith, e)

places_by : (sends : Bool) (size free new held back : ℕ) (owed : List (List ℕ)) (l : Load) → free + length l.frames + held + l.returned ≡ size → new + cond sends (length owed) 0 ≡ free + cond sends back 0 → (sends ≡ true → back ≡ l.returned) → new + length (cond sends (refilled owed l) l).frames + held + (cond sends (refilled owed l) l).returned ≡ size
places_by true size free new held back owed l e f all = omega (arith, e, f, all refl, length-append l.frames owed)
places_by false size free new held back owed l e f all = omega (arith, e, f)

-- a lane, after a domain looked at a peer and put what it owes
pub looks_lane : (states : ℕ → DomainState) (d : ℕ) (s : DomainState) (v : Visit) (loads : List Load) → LooksFit d s v loads → (size a b : ℕ) (k : Book) → LaneOk size a b (placed states d s a) (placed states d s b) k loads → LaneOk size a b (placed states d (after_looks s v) a) (placed states d (after_looks s v) b) (looked_book ((a == d) && (b == v.peer)) v k) (with_load d v.peer (refilled v.owed) loads)
looks_lane states d s v loads fit size a b k h =
    let sends = (a == d) && (b == v.peer) in
    let all : sends ≡ true → v.back ≡ h.load.returned = λ e.
    let t = both (a == d) (b == v.peer) e in
    fit.back ∙ ap (λ (n : ℕ). returned_on loads n v.peer) (sym (eqb-true a d t.0)) ∙ ap (λ (n : ℕ). returned_on loads a n) (sym (eqb-true b v.peer t.1)) ∙ ap returned_in h.loaded in
    let loaded = loaded-with (refilled v.owed) (record { sender = λ l. refl; receiver = λ l. refl }) loads d v.peer a b h.load h.loaded in
    record {
      sized_out = placed_same (λ t. size_at t b) states d s (after_looks s v) a (looks_size s v b) ∙ h.sized_out;
      sized_in = placed_same (λ t. size_at t a) states d s (after_looks s v) b (looks_size s v a) ∙ h.sized_in;
      load = cond sends (refilled v.owed h.load) h.load;
      loaded = loaded;
      front = front_by sends k.taken k.puts v.owed h.load h.front;
      shows = shows_by sends k.backs k.gives v.back v.owed h.load h.shows all;
      places =
          omega (
            arith,
            places_by sends size (free_to (placed states d s a) b) (free_to (placed states d (after_looks s v) a) b) (held_from a (placed states d s b)) v.back v.owed h.load h.places
                (free_by states d s v size a b h.sized_out fit.room (a == d) (b == v.peer) refl refl) all,
            placed_same (held_from a) states d s (after_looks s v) b (looks-keep (held_from a) (λ t p k. refl) (λ t p. refl) (λ t p k. refl) s v),
          );
      within =
          shown_by states d s v loads size a b (cond sends (refilled v.owed h.load) h.load) h.sized_in fit loaded (omega (arith, h.within, refilled_longer sends v.owed h.load));
    }
  where
    both : (x y : Bool) → (x && y) ≡ true → (x ≡ true) × (y ≡ true)
    both true true e = (refl, refl)
    both true false e = absurd cc
    both false y e = absurd cc
