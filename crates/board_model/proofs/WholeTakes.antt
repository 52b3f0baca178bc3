-- A lane of a board that runs, after a domain took frames from a peer.
use Rattle.std.proofs.Common.{◌≡◌, ℕ, ◌+◌, ◌-◌, ◌≤◌, Bool, true, false, ◌&&◌, cond, List, [], ◌∷◌, ◌++◌, length, map, take, drop, None, refl, sym, ap, ◌∙◌, arith, append_assoc, append-nil, take-append-drop, length-drop, length-take, eqb-true, ap₂}
use Rattle.std.specs.Prelude.{◌==◌}
use Rattle.std.proofs.lemmas.Bool.{and_parts}
use Rattle.std.proofs.lemmas.List.{length-map}
use Rattle.board_model.specs.Journal.{Taken}
use Rattle.board_model.specs.State.{DomainState, free_to, held_from}
use Rattle.board_model.specs.Returns.{names_given, given_by_frame}
use Rattle.board_model.specs.Deeds.{takes as takes_one, after_deed, along}
use Rattle.board_model.specs.Turn.{nameless, takes_named}
use Rattle.board_model.specs.Loads.{Load, frames_in, frames_on, with_load, with_returned, with_taken}
use Rattle.board_model.proofs.VisitLooks.{after_takes, HaveWords}
use Rattle.board_model.proofs.LaneTakes.{takes_count}
use Rattle.board_model.proofs.WholePeers.{size_at, shown_at, takes_size, takes_free, takes_shown}
use Rattle.board_model.proofs.WholeLoads.{loaded-with}
use Rattle.board_model.proofs.WholeLanes.{Book, LaneOk, placed, placed-own, placed-other, placed_same, eqb_turn}

abbrev pub frames_of : List Taken → List (List ℕ)
frames_of ts = map (λ t. t.frame) ts

-- what the frames taken add to the book of a lane
abbrev pub taken_book : Bool → ℕ → List Taken → Book → Book
taken_book takes gives ts k = record { puts = k.puts; backs = k.backs; taken = k.taken ++ cond takes (frames_of ts) []; gives = k.gives + cond takes gives 0 }

abbrev pub emptied : ℕ → List Taken → Load → Load
emptied gives ts l = with_returned gives (with_taken (length ts) l)

-- the frames are the first on the lane, and have the words of their rows; what was shown and stays is on the lane
pub record TakesFit (d : ℕ) (s : DomainState) (peer : ℕ) (ts : List Taken) (loads : List Load) : Type 0 where
  pub words : HaveWords s peer ts
  pub first : frames_of ts ≡ take (length ts) (frames_on loads peer d)
  pub shown : shown_at s peer ≤ length (frames_on loads peer d)

-- what frames that are taken from a peer give back to it
abbrev pub given_back : DomainState → ℕ → List Taken → ℕ
given_back s peer ts = length (along (names_given peer) s (takes_named nameless peer ts))

-- and to another
pub other_given : (n : ℕ) (s : DomainState) (peer : ℕ) (ts : List Taken) → (peer == n) ≡ false → along (names_given n) s (takes_named nameless peer ts) ≡ []
other_given n s peer [] differs = refl
other_given n s peer (t ∷ ts) differs =
    ap (λ b. cond b (given_by_frame s peer None t.frame t.fate) [] ++ along (names_given n) (after_deed s (takes_one peer None t.frame t.fate)) (takes_named nameless peer ts)) differs
    ∙ other_given n (after_deed s (takes_one peer None t.frame t.fate)) peer ts differs

held_by : (states : ℕ → DomainState) (d : ℕ) (s : DomainState) (peer : ℕ) (ts : List Taken) → HaveWords s peer ts → (a b : ℕ) (x y : Bool) → (a == peer) ≡ x → (b == d) ≡ y → held_from a (placed states d (after_takes s peer ts) b) + cond (x && y) (given_back s peer ts) 0 ≡ held_from a (placed states d s b) + cond (x && y) (length ts) 0
held_by states d s peer ts words a b true true is_peer is_d =
    let same : a ≡ peer = eqb-true a peer is_peer in
    omega (
      arith,
      ap (held_from a) (placed-own states d s b is_d),
      ap (held_from a) (placed-own states d (after_takes s peer ts) b is_d),
      takes_count a s peer nameless ts words,
      ap (λ c. cond c (length ts) 0) (eqb_turn a peer true is_peer),
      ap (λ n. length (along (names_given n) s (takes_named nameless peer ts))) same,
    )
held_by states d s peer ts words a b false true differs is_d =
    omega (
      arith,
      ap (held_from a) (placed-own states d s b is_d),
      ap (held_from a) (placed-own states d (after_takes s peer ts) b is_d),
      takes_count a s peer nameless ts words,
      ap (λ c. cond c (length ts) 0) (eqb_turn a peer false differs),
      ap length (other_given a s peer ts (eqb_turn a peer false differs)),
    )
held_by states d s peer ts words a b true false is_peer differs =
    omega (arith, ap (held_from a) (placed-other states d s b differs), ap (held_from a) (placed-other states d (after_takes s peer ts) b differs))
held_by states d s peer ts words a b false false differs other =
    omega (arith, ap (held_from a) (placed-other states d s b other), ap (held_from a) (placed-other states d (after_takes s peer ts) b other))

front_by : (takes : Bool) (g : ℕ) (taken puts : List (List ℕ)) (ts : List Taken) (l : Load) → taken ++ l.frames ≡ puts → (takes ≡ true → frames_of ts ≡ take (length ts) l.frames) → (taken ++ cond takes (frames_of ts) []) ++ (cond takes (emptied g ts l) l).frames ≡ puts
front_by true g taken puts ts l e first =
    append_assoc taken (frames_of ts) (drop (length ts) l.frames)
    ∙ ap (λ xs. taken ++ (xs ++ drop (length ts) l.frames)) (first refl)
    ∙ ap (λ xs. taken ++ xs) (take-append-drop (length ts) l.frames) ∙ e
front_by false g taken puts ts l e first = ap (λ xs. xs ++ l.frames) (append-nil taken) ∙ e

shows_by : (takes : Bool) (g backs gives : ℕ) (ts : List Taken) (l : Load) → backs + l.returned ≡ gives → backs + (cond takes (emptied g ts l) l).returned ≡ gives + cond takes g 0
shows_by true g backs gives ts l e = omega (arith, e)
shows_by false g backs gives ts l e = omega (arith, e)

places_by : (takes : Bool) (g size free held new : ℕ) (ts : List Taken) (l : Load) → free + length l.frames + held + l.returned ≡ size → new + cond takes g 0 ≡ held + cond takes (length ts) 0 → (takes ≡ true → length ts ≤ length l.frames) → free + length (cond takes (emptied g ts l) l).frames + new + (cond takes (emptied g ts l) l).returned ≡ size
places_by true g size free held new ts l e f fits = omega (arith, e, f, fits refl, length-drop (length ts) l.frames)
places_by false g size free held new ts l e f fits = omega (arith, e, f)

within_by : (takes : Bool) (g shown : ℕ) (ts : List Taken) (l : Load) → shown ≤ length l.frames → shown - cond takes (length ts) 0 ≤ length (cond takes (emptied g ts l) l).frames
within_by true g shown ts l e = omega (arith, e, length-drop (length ts) l.frames)
within_by false g shown ts l e = omega (arith, e)

-- a lane, after a domain took frames from a peer
pub takes_lane : (states : ℕ → DomainState) (d : ℕ) (s : DomainState) (peer : ℕ) (ts : List Taken) (loads : List Load) → TakesFit d s peer ts loads → (size a b : ℕ) (k : Book) → LaneOk size a b (placed states d s a) (placed states d s b) k loads → LaneOk size a b (placed states d (after_takes s peer ts) a) (placed states d (after_takes s peer ts) b) (taken_book ((a == peer) && (b == d)) (given_back s peer ts) ts k) (with_load peer d (emptied (given_back s peer ts) ts) loads)
takes_lane states d s peer ts loads fit size a b k h =
    let takes = (a == peer) && (b == d) in
    let t = after_takes s peer ts in
    let g : ℕ = given_back s peer ts in
    let lane : takes ≡ true → frames_on loads peer d ≡ h.load.frames = λ e.
    let ends = and_parts (a == peer) (b == d) e in
    ap (λ (n : ℕ). frames_on loads n d) (sym (eqb-true a peer ends.0)) ∙ ap (λ (n : ℕ). frames_on loads a n) (sym (eqb-true b d ends.1)) ∙ ap frames_in h.loaded in
    record {
      sized_out = placed_same (λ x. size_at x b) states d s t a (takes_size s peer ts b) ∙ h.sized_out;
      sized_in = placed_same (λ x. size_at x a) states d s t b (takes_size s peer ts a) ∙ h.sized_in;
      load = cond takes (emptied g ts h.load) h.load;
      loaded = loaded-with (emptied g ts) (record { sender = λ l. refl; receiver = λ l. refl }) loads peer d a b h.load h.loaded;
      front = front_by takes g k.taken k.puts ts h.load h.front (λ e. fit.first ∙ ap (take (length ts)) (lane e));
      shows = shows_by takes g k.backs k.gives ts h.load h.shows;
      places =
          omega (
            arith,
            places_by takes g size (free_to (placed states d s a) b) (held_from a (placed states d s b)) (held_from a (placed states d t b)) ts h.load h.places
                (held_by states d s peer ts fit.words a b (a == peer) (b == d) refl refl) (λ e. omega (arith, few, ap length (lane e))),
            placed_same (λ x. free_to x b) states d s t a (takes_free s peer ts b),
          );
      within = omega (arith, within_by takes g (shown_at (placed states d s b) a) ts h.load h.within, shown_by (b == d) (a == peer) refl refl);
    }
  where
    few : length ts ≤ length (frames_on loads peer d)
    few = omega (arith, ap length fit.first, length-take (length ts) (frames_on loads peer d), sym (length-map ts (λ t. t.frame)))

    shown_by : (x y : Bool) → (b == d) ≡ x → (a == peer) ≡ y → shown_at (placed states d (after_takes s peer ts) b) a ≡ shown_at (placed states d s b) a - cond ((a == peer) && (b == d)) (length ts) 0
    shown_by true y is_d is_peer =
        omega (
          arith,
          ap (λ u. shown_at u a) (placed-own states d (after_takes s peer ts) b is_d),
          ap (λ u. shown_at u a) (placed-own states d s b is_d),
          takes_shown s peer ts a y (eqb_turn a peer y is_peer),
          ap₂ (λ p q. cond (p && q) (length ts) 0) is_peer is_d,
          both y,
        )
      where
        both : (z : Bool) → cond (z && true) (length ts) 0 ≡ cond z (length ts) 0
        both true = refl
        both false = refl
    shown_by false y differs is_peer =
        omega (arith, ap (λ u. shown_at u a) (placed-other states d (after_takes s peer ts) b differs), ap (λ u. shown_at u a) (placed-other states d s b differs), ap₂ (λ p q. cond (p && q) (length ts) 0) is_peer differs, none y)
      where
        none : (z : Bool) → ◌≡◌ {A = ℕ} (cond (z && false) (length ts) 0) 0
        none true = refl
        none false = refl
