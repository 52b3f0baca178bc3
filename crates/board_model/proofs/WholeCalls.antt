-- A call of the serial run leaves each lane well: the frames that it puts are on their lanes, and what it gives back is returned.
use Rattle.std.proofs.Common.{◌≡◌, ℕ, ◌+◌, Bool, true, false, ◌&&◌, cond, List, [], ◌∷◌, ◌++◌, length, count_by, Option, Some, refl, sym, ap, ◌∙◌, arith, length-append, append_assoc, append-nil}
use Rattle.std.specs.Prelude.{◌==◌}
use Rattle.board_model.specs.State.{DomainState, Item, frames_from, free_to, held_from}
use Rattle.board_model.specs.DomainCall.{DomainCall}
use Rattle.board_model.specs.Answer.{puts}
use Rattle.board_model.specs.CallChanges.{effect, returned}
use Rattle.board_model.specs.Loads.{Load, with_frames, with_returned, loads_put, loads_given}
use Rattle.board_model.specs.SerialRun.{loads_with_puts}
use Rattle.board_model.proofs.ListsCounts.{one_if, count-cons}
use Rattle.board_model.proofs.LaneSends.{goes_to, call_frees}
use Rattle.board_model.proofs.StateEnds.{Ends}
use Rattle.board_model.proofs.LaneRuns.{call_holds}
use Rattle.board_model.proofs.WholePeers.{size_at, shown_at, call_size, call_shown}
use Rattle.board_model.proofs.WholeLoads.{load_on, load_ends, loaded-map, loaded-with}
use Rattle.board_model.proofs.WholeLanes.{Book, LaneOk, placed, placed_same, eqb_turn}

-- the frames for a peer
abbrev pub frames_for : ℕ → List (ℕ × List ℕ) → List (List ℕ)
frames_for n [] = []
frames_for n (p ∷ ps) = cond (p.0 == n) (p.1 ∷ frames_for n ps) (frames_for n ps)

pub frames_many : (n : ℕ) (ps : List (ℕ × List ℕ)) → length (frames_for n ps) ≡ count_by (goes_to n) ps
frames_many n [] = refl
frames_many n (p ∷ ps) = go (p.0 == n) refl (frames_many n ps)
  where
    go : (y : Bool) → (p.0 == n) ≡ y → length (frames_for n ps) ≡ count_by (goes_to n) ps → length (cond y (p.1 ∷ frames_for n ps) (frames_for n ps)) ≡ count_by (goes_to n) (p ∷ ps)
    go true e rest = omega (arith, count-cons (goes_to n) p ps, ap one_if e, rest)
    go false e rest = omega (arith, count-cons (goes_to n) p ps, ap one_if e, rest)

put_one : (x y : Bool) (frame : List ℕ) (frames more : List (List ℕ)) → (frames ++ cond (x && y) (frame ∷ []) []) ++ cond x more [] ≡ frames ++ cond x (cond y (frame ∷ more) more) []
put_one true true frame frames more = append_assoc frames (frame ∷ []) more
put_one true false frame frames more = ap (λ xs. xs ++ more) (append-nil frames)
put_one false y frame frames more = ap (λ xs. xs ++ []) (append-nil frames)

put_cond : (z : Bool) (frame : List ℕ) (l : Load) → cond z (with_frames (frame ∷ []) l) l ≡ record l { frames = l.frames ++ cond z (frame ∷ []) [] }
put_cond true frame l = refl
put_cond false frame l = ap (λ xs. record l { frames = xs }) (sym (append-nil l.frames))

-- the load of a lane after frames were put
pub loaded-puts : (d : ℕ) (ps : List (ℕ × List ℕ)) (loads : List Load) (a b : ℕ) (l : Load) → load_on loads a b ≡ Some l → load_on (loads_with_puts d ps loads) a b ≡ Some (record l { frames = l.frames ++ cond (a == d) (frames_for b ps) [] })
loaded-puts d [] loads a b l e = e ∙ go (a == d)
  where
    go : (x : Bool) → ◌≡◌ {A = Option Load} (Some l) (Some (record l { frames = l.frames ++ cond x [] [] }))
    go true = ap (λ xs. Some (record l { frames = xs })) (sym (append-nil l.frames))
    go false = ap (λ xs. Some (record l { frames = xs })) (sym (append-nil l.frames))
loaded-puts d (p ∷ ps) loads a b l e =
    let put_frames = l.frames ++ cond ((a == d) && (b == p.0)) (p.1 ∷ []) [] in
    let now : load_on (loads_put d p.0 p.1 loads) a b ≡ Some (record l { frames = put_frames }) =
    loaded-with (with_frames (p.1 ∷ [])) (record { sender = λ x. refl; receiver = λ x. refl }) loads d p.0 a b l e ∙ ap Some (put_cond ((a == d) && (b == p.0)) p.1 l) in
    loaded-puts d ps (loads_put d p.0 p.1 loads) a b (record l { frames = put_frames }) now
    ∙ ap (λ xs. Some (record l { frames = xs }))
    (put_one (a == d) (b == p.0) p.1 l.frames (frames_for b ps)
    ∙ ap (λ y. l.frames ++ cond (a == d) (cond y (p.1 ∷ frames_for b ps) (frames_for b ps)) []) (sym (eqb_turn b p.0 (b == p.0) refl)))

-- and after items were given back
pub loaded-given : (d : ℕ) (items : List Item) (loads : List Load) (a b : ℕ) (l : Load) → load_on loads a b ≡ Some l → load_on (loads_given d items loads) a b ≡ Some (record l { returned = l.returned + cond (b == d) (length (frames_from a items)) 0 })
loaded-given d items loads a b l e =
    let ends = load_ends loads a b l e in
    let f : Load → Load = λ x. cond (x.receiver == d) (with_returned (length (frames_from x.sender items)) x) x in
    loaded-map f (record { sender = λ x. sender_cond x (x.receiver == d); receiver = λ x. receiver_cond x (x.receiver == d) }) loads a b l e
    ∙ ap (λ n. Some (cond (n == d) (with_returned (length (frames_from l.sender items)) l) l)) ends.1
    ∙ ap (λ n. Some (cond (b == d) (with_returned (length (frames_from n items)) l) l)) ends.0
    ∙ ap Some (returned_cond (b == d) (length (frames_from a items)))
  where
    sender_cond : (x : Load) (y : Bool) → (cond y (with_returned (length (frames_from x.sender items)) x) x).sender ≡ x.sender
    sender_cond x true = refl
    sender_cond x false = refl

    receiver_cond : (x : Load) (y : Bool) → (cond y (with_returned (length (frames_from x.sender items)) x) x).receiver ≡ x.receiver
    receiver_cond x true = refl
    receiver_cond x false = refl

    returned_cond : (y : Bool) (n : ℕ) → cond y (with_returned n l) l ≡ record l { returned = l.returned + cond y n 0 }
    returned_cond true n = refl
    returned_cond false n = ap (λ k. record l { returned = k }) (omega arith)

-- what a call adds to the book of a lane
abbrev pub called_book : ℕ → List (ℕ × List ℕ) → List Item → ℕ → ℕ → Book → Book
called_book d ps items a b k = record { puts = k.puts ++ cond (a == d) (frames_for b ps) []; backs = k.backs; taken = k.taken; gives = k.gives + cond (b == d) (length (frames_from a items)) 0 }

places_by : (x y : Bool) (size free held new_free new_held n g : ℕ) (frames : List (List ℕ)) (returned : ℕ) (more : List (List ℕ)) → free + length frames + held + returned ≡ size → length more ≡ n → new_free + cond x n 0 ≡ free → new_held + cond y g 0 ≡ held → new_free + length (frames ++ cond x more []) + new_held + (returned + cond y g 0) ≡ size
places_by true y size free held new_free new_held n g frames returned more e f h k = omega (arith, e, f, h, k, length-append frames more)
places_by false y size free held new_free new_held n g frames returned more e f h k = omega (arith, e, f, h, k, length-append frames [])

-- a lane, after a call
pub call_lane : (states : ℕ → DomainState) (d : ℕ) (s : DomainState) → Ends s → (node : ℕ) (call : DomainCall) (loads : List Load) (size a b : ℕ) (k : Book) → LaneOk size a b (placed states d s a) (placed states d s b) k loads → LaneOk size a b (placed states d (effect s node call) a) (placed states d (effect s node call) b) (called_book d (puts s node call) (returned s node call) a b k) (loads_given d (returned s node call) (loads_with_puts d (puts s node call) loads))
call_lane states d s ends node call loads size a b k h =
    let t = effect s node call in
    let ps = puts s node call in
    let items = returned s node call in
    let frames = h.load.frames ++ cond (a == d) (frames_for b ps) [] in
    let more = record h.load { frames = frames } in
    let shown : shown_at (placed states d t b) a ≡ shown_at (placed states d s b) a =
    placed_same (λ x. shown_at x a) states d s t b (call_shown s node a call) in
    record {
      sized_out = placed_same (λ x. size_at x b) states d s t a (call_size s node call b) ∙ h.sized_out;
      sized_in = placed_same (λ x. size_at x a) states d s t b (call_size s node call a) ∙ h.sized_in;
      load = record more { returned = h.load.returned + cond (b == d) (length (frames_from a items)) 0 };
      loaded = loaded-given d items (loads_with_puts d ps loads) a b more (loaded-puts d ps loads a b h.load h.loaded);
      front = sym (append_assoc k.taken h.load.frames (cond (a == d) (frames_for b ps) [])) ∙ ap (λ xs. xs ++ cond (a == d) (frames_for b ps) []) h.front;
      shows = omega (arith, h.shows);
      places =
          places_by (a == d) (b == d) size (free_to (placed states d s a) b) (held_from a (placed states d s b)) (free_to (placed states d t a) b) (held_from a (placed states d t b)) (count_by (goes_to b) ps) (length (frames_from a items)) h.load.frames h.load.returned (frames_for b ps)
          h.places (frames_many b ps) (freed (a == d)) (held (b == d));
      within = omega (arith, h.within, shown, length-append h.load.frames (cond (a == d) (frames_for b ps) []));
    }
  where
    freed : (x : Bool) → free_to (cond x (effect s node call) (states a)) b + cond x (count_by (goes_to b) (puts s node call)) 0 ≡ free_to (cond x s (states a)) b
    freed true = call_frees s b node call
    freed false = omega arith

    held : (y : Bool) → held_from a (cond y (effect s node call) (states b)) + cond y (length (frames_from a (returned s node call))) 0 ≡ held_from a (cond y s (states b))
    held true = call_holds a s ends node call
    held false = omega arith
