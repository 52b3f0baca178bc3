-- What the moves at the ends towards a peer are in all, where they are those that a journal tells: the journal's traffic with the peer.
use Rattle.std.proofs.Common.{◌≡◌, ℕ, suc, ◌+◌, Bool, true, false, cond, List, [], ◌∷◌, ◌++◌, length, map, flat_map, refl, sym, ap, ap₂, ◌∙◌, arith}
use Rattle.std.specs.Prelude.{◌==◌, Some}
use Rattle.std.proofs.lemmas.List.{map-append, length-map, length-append}
use Rattle.lane_end.specs.SendMoves.{Looked, Sent}
use Rattle.lane_end.specs.ReceiveMoves as receiving
use Rattle.lane_end.specs.ReceiveMoves.{ReceiveMove, Took, Gave}
use Rattle.lane_end.specs.SendParts.{frames_sent, back_counts}
use Rattle.lane_end.specs.ReceiveParts.{frames_taken, numbers_given, see_counts}
use Rattle.board_model.specs.declared.scenario.CallLine.{CallLine}
use Rattle.board_model.specs.Deeds.{after_deed, along, takes}
use Rattle.board_model.specs.Journal.{PlainEntry, turned, put, again, waits, called, Visit, Taken}
use Rattle.board_model.specs.Returns.{given_by_frame, names_given}
use Rattle.board_model.specs.State.{DomainState, frames_from}
use Rattle.board_model.specs.Step.{RunState, next_line, after}
use Rattle.board_model.specs.Traffic.{visits_to, puts_in, takes_in, put_to, takes_from, taken_from, returned_by, given_in, given, backs_in, back_looks}
use Rattle.board_model.specs.Turn.{after_visit, nameless, visit_deeds}
use Rattle.board_model.proofs.DeedJoins.{along-join}
use Rattle.board_model.proofs.WholeTakes.{frames_of}
use Rattle.domain_core.specs.LaneMoves.{LaneMove, sender, receiver, sends, receives}
use Rattle.domain_core.specs.VisitMoves.{before_takes, giving, putting, taking}
use Rattle.board_runner.specs.Looks.{sees_in, see_looks}
use Rattle.board_runner.specs.OwnRun.{unnumbered, visit_told, turn_told, entry_told, moves_told}
use Rattle.board_runner.proofs.NearEnds.{contents, gives, sends_visit, receives_putting, sent_puts, puts_show_none, takes-tell, visit_taking}
use Rattle.board_runner.proofs.Unnumbered.{zeros, sent, backs, taken, sees, unnumbered_alike, gives-visit}

-- ---- lists of what moves do

sent_append : (xs ys : List LaneMove) → sent (xs ++ ys) ≡ sent xs ++ sent ys
sent_append [] ys = refl
sent_append (sender (Looked n) ∷ xs) ys = sent_append xs ys
sent_append (sender (Sent f) ∷ xs) ys = ap (λ (fs : List (List ℕ)). f ∷ fs) (sent_append xs ys)
sent_append (receiver m ∷ xs) ys = sent_append xs ys

backs_append : (xs ys : List LaneMove) → backs (xs ++ ys) ≡ backs xs ++ backs ys
backs_append [] ys = refl
backs_append (sender (Looked n) ∷ xs) ys = ap (λ (ns : List ℕ). n ∷ ns) (backs_append xs ys)
backs_append (sender (Sent f) ∷ xs) ys = backs_append xs ys
backs_append (receiver m ∷ xs) ys = backs_append xs ys

taken_append : (xs ys : List LaneMove) → taken (xs ++ ys) ≡ taken xs ++ taken ys
taken_append [] ys = refl
taken_append (sender m ∷ xs) ys = taken_append xs ys
taken_append (receiver (receiving.Looked n) ∷ xs) ys = taken_append xs ys
taken_append (receiver (Took n f) ∷ xs) ys = ap (λ (fs : List (List ℕ)). f ∷ fs) (taken_append xs ys)
taken_append (receiver (Gave n) ∷ xs) ys = taken_append xs ys

sees_append : (xs ys : List LaneMove) → sees (xs ++ ys) ≡ sees xs ++ sees ys
sees_append [] ys = refl
sees_append (sender m ∷ xs) ys = sees_append xs ys
sees_append (receiver (receiving.Looked n) ∷ xs) ys = ap (λ (ns : List ℕ). n ∷ ns) (sees_append xs ys)
sees_append (receiver (Took n f) ∷ xs) ys = sees_append xs ys
sees_append (receiver (Gave n) ∷ xs) ys = sees_append xs ys

gives_append : (xs ys : List LaneMove) → gives (xs ++ ys) ≡ gives xs + gives ys
gives_append [] ys = omega arith
gives_append (sender m ∷ xs) ys = gives_append xs ys
gives_append (receiver (receiving.Looked n) ∷ xs) ys = gives_append xs ys
gives_append (receiver (Took n f) ∷ xs) ys = gives_append xs ys
gives_append (receiver (Gave n) ∷ xs) ys = omega (arith, gives_append xs ys)

-- ---- what moves are in all, by the entries

module _ {X : Type 0} (h : List LaneMove → List X) (none : h [] ≡ []) (append : (xs ys : List LaneMove) → h (xs ++ ys) ≡ h xs ++ h ys) where
  pub of_turn : (p : ℕ) (f : Visit → List X) → ((s : DomainState) (v : Visit) → h (visit_told s v) ≡ f v) → (s : DomainState) (vs : List Visit) → h (turn_told p s vs) ≡ flat_map f (visits_to p vs)
  of_turn p f one s [] = none
  of_turn p f one s (v ∷ vs) = go (v.peer == p) (of_turn p f one (after_visit s v) vs)
    where
      go : (b : Bool) → h (turn_told p (after_visit s v) vs) ≡ flat_map f (visits_to p vs) → h (cond b (visit_told s v) [] ++ turn_told p (after_visit s v) vs) ≡ flat_map f (cond b (v ∷ visits_to p vs) (visits_to p vs))
      go true rest = append (visit_told s v) (turn_told p (after_visit s v) vs) ∙ ap₂ (λ (xs ys : List X). xs ++ ys) (one s v) rest
      go false rest = rest

  pub of_run : (lines : List CallLine) (p : ℕ) (f : PlainEntry → List X) → ((r : RunState) (e : PlainEntry) → h (entry_told lines r p e) ≡ f e) → (r : RunState) (es : List PlainEntry) → h (moves_told lines r p es) ≡ flat_map f es
  of_run lines p f one r [] = none
  of_run lines p f one r (e ∷ es) =
      append (entry_told lines r p e) (moves_told lines (after lines r e) p es) ∙ ap₂ (λ (xs ys : List X). xs ++ ys) (one r e) (of_run lines p f one (after lines r e) es)

abbrev pub goes_back : ℕ → LaneMove
goes_back name = receiver (Gave 0)

sent_putting : (fs : List (List ℕ)) → sent (putting fs) ≡ fs
sent_putting [] = refl
sent_putting (f ∷ fs) = ap (λ (xs : List (List ℕ)). f ∷ xs) (sent_putting fs)

sent_back : (names : List ℕ) → sent (map goes_back names) ≡ []
sent_back [] = refl
sent_back (n ∷ names) = sent_back names

sent_by_visit : (s : DomainState) (v : Visit) → sent (visit_told s v) ≡ v.owed
sent_by_visit s v = ap frames_sent (sends_visit s v (zeros v.takes)) ∙ sent_puts v.owed

sent_by_entry : (lines : List CallLine) (p : ℕ) (r : RunState) (e : PlainEntry) → sent (entry_told lines r p e) ≡ puts_in p e
sent_by_entry lines p r (turned vs) = of_turn sent refl sent_append p (λ v. v.owed) sent_by_visit r.state vs
sent_by_entry lines p r (put to frame) = sent_putting (puts_in p (put to frame))
sent_by_entry lines p r (again word) = refl
sent_by_entry lines p r (waits k) = refl
sent_by_entry lines p r (called k a) = sent_back (frames_from p (returned_by (next_line lines r) r))

backs_putting : (fs : List (List ℕ)) → backs (putting fs) ≡ []
backs_putting [] = refl
backs_putting (f ∷ fs) = backs_putting fs

backs_back : (names : List ℕ) → backs (map goes_back names) ≡ []
backs_back [] = refl
backs_back (n ∷ names) = backs_back names

backs_by_visit : (s : DomainState) (v : Visit) → backs (visit_told s v) ≡ v.back ∷ []
backs_by_visit s v = ap back_counts (sends_visit s v (zeros v.takes)) ∙ ap (λ (ns : List ℕ). v.back ∷ ns) (puts_show_none v.owed)

one_each : (f : Visit → ℕ) (vs : List Visit) → flat_map (λ v. f v ∷ []) vs ≡ map f vs
one_each f [] = refl
one_each f (v ∷ vs) = ap (λ (ns : List ℕ). f v ∷ ns) (one_each f vs)

backs_by_entry : (lines : List CallLine) (p : ℕ) (r : RunState) (e : PlainEntry) → backs (entry_told lines r p e) ≡ backs_in p e
backs_by_entry lines p r (turned vs) = of_turn backs refl backs_append p (λ v. v.back ∷ []) backs_by_visit r.state vs ∙ one_each (λ v. v.back) (visits_to p vs)
backs_by_entry lines p r (put to frame) = backs_putting (puts_in p (put to frame))
backs_by_entry lines p r (again word) = refl
backs_by_entry lines p r (waits k) = refl
backs_by_entry lines p r (called k a) = backs_back (frames_from p (returned_by (next_line lines r) r))

-- a visit's taking end
pub visit_receives : (s : DomainState) (v : Visit) → receives (visit_told s v) ≡ receiving.Looked v.see ∷ receives (visit_taking s v (zeros v.takes))
visit_receives s v = receives_putting v.owed (receiver (receiving.Looked v.see) ∷ visit_taking s v (zeros v.takes))

pub zeros_many : (ts : List Taken) → length (zeros ts) ≡ length ts
zeros_many ts = length-map ts (λ t. 0)

taken_putting : (fs : List (List ℕ)) → taken (putting fs) ≡ []
taken_putting [] = refl
taken_putting (f ∷ fs) = taken_putting fs

taken_back : (names : List ℕ) → taken (map goes_back names) ≡ []
taken_back [] = refl
taken_back (n ∷ names) = taken_back names

taken_by_visit : (s : DomainState) (v : Visit) → taken (visit_told s v) ≡ frames_of v.takes
taken_by_visit s v = ap (λ (ms : List ReceiveMove). contents (frames_taken ms)) (visit_receives s v) ∙ takes-tell (before_takes s v) v.peer (zeros v.takes) v.takes (zeros_many v.takes)

frames_flat : (vs : List Visit) → flat_map (λ v. frames_of v.takes) vs ≡ frames_of (flat_map (λ v. v.takes) vs)
frames_flat [] = refl
frames_flat (v ∷ vs) = ap (λ (fs : List (List ℕ)). frames_of v.takes ++ fs) (frames_flat vs) ∙ sym (map-append (λ (t : Taken). t.frame) v.takes (flat_map (λ (u : Visit). u.takes) vs))

taken_by_entry : (lines : List CallLine) (p : ℕ) (r : RunState) (e : PlainEntry) → taken (entry_told lines r p e) ≡ frames_of (takes_in p e)
taken_by_entry lines p r (turned vs) = of_turn taken refl taken_append p (λ v. frames_of v.takes) taken_by_visit r.state vs ∙ frames_flat (visits_to p vs)
taken_by_entry lines p r (put to frame) = taken_putting (puts_in p (put to frame))
taken_by_entry lines p r (again word) = refl
taken_by_entry lines p r (waits k) = refl
taken_by_entry lines p r (called k a) = taken_back (frames_from p (returned_by (next_line lines r) r))

frames_of_entries : (p : ℕ) (es : List PlainEntry) → flat_map (λ e. frames_of (takes_in p e)) es ≡ taken_from p es
frames_of_entries p [] = refl
frames_of_entries p (e ∷ es) = ap (λ (fs : List (List ℕ)). frames_of (takes_in p e) ++ fs) (frames_of_entries p es) ∙ sym (map-append (λ (t : Taken). t.frame) (takes_in p e) (takes_from p es))

sees_giving : (gs : List ℕ) → sees (giving gs) ≡ []
sees_giving [] = refl
sees_giving (g ∷ gs) = sees_giving gs

sees_taking : (s : DomainState) (peer : ℕ) (ns : List ℕ) (ts : List Taken) → sees (taking s peer ns ts) ≡ []
sees_taking s peer [] ts = refl
sees_taking s peer (n ∷ ns) [] = refl
sees_taking s peer (n ∷ ns) (t ∷ ts) =
    let given = given_by_frame s peer (Some n) t.frame t.fate in
    let now = after_deed s (takes peer (Some n) t.frame t.fate) in
    sees_append (giving given) (taking now peer ns ts) ∙ ap₂ (λ (xs ys : List ℕ). xs ++ ys) (sees_giving given) (sees_taking now peer ns ts)

sees_putting : (fs : List (List ℕ)) → sees (putting fs) ≡ []
sees_putting [] = refl
sees_putting (f ∷ fs) = sees_putting fs

sees_back : (names : List ℕ) → sees (map goes_back names) ≡ []
sees_back [] = refl
sees_back (n ∷ names) = sees_back names

sees_by_visit : (s : DomainState) (v : Visit) → sees (visit_told s v) ≡ v.see ∷ []
sees_by_visit s v = ap see_counts (visit_receives s v) ∙ ap (λ (ns : List ℕ). v.see ∷ ns) (sees_taking (before_takes s v) v.peer (zeros v.takes) v.takes)

sees_by_entry : (lines : List CallLine) (p : ℕ) (r : RunState) (e : PlainEntry) → sees (entry_told lines r p e) ≡ sees_in p e
sees_by_entry lines p r (turned vs) = of_turn sees refl sees_append p (λ v. v.see ∷ []) sees_by_visit r.state vs ∙ one_each (λ v. v.see) (visits_to p vs)
sees_by_entry lines p r (put to frame) = sees_putting (puts_in p (put to frame))
sees_by_entry lines p r (again word) = refl
sees_by_entry lines p r (waits k) = refl
sees_by_entry lines p r (called k a) = sees_back (frames_from p (returned_by (next_line lines r) r))

-- what goes back

gives_putting : (fs : List (List ℕ)) → gives (putting fs) ≡ 0
gives_putting [] = refl
gives_putting (f ∷ fs) = gives_putting fs

gives_back : (names : List ℕ) → gives (map goes_back names) ≡ length names
gives_back [] = refl
gives_back (n ∷ names) = ap suc (gives_back names)

gives_by_turn : (p : ℕ) (s : DomainState) (vs : List Visit) → gives (turn_told p s vs) ≡ length (along (names_given p) s (flat_map (visit_deeds nameless) vs))
gives_by_turn p s [] = refl
gives_by_turn p s (v ∷ vs) =
    let ds = visit_deeds nameless v in
    let later = flat_map (visit_deeds nameless) vs in
    omega (
      arith,
      gives_append (cond (v.peer == p) (visit_told s v) []) (turn_told p (after_visit s v) vs),
      go (v.peer == p),
      gives-visit p s v,
      gives_by_turn p (after_visit s v) vs,
      ap length (along-join (names_given p) s ds later),
      length-append (along (names_given p) s ds) (along (names_given p) (after_visit s v) later),
    )
  where
    go : (b : Bool) → gives (cond b (visit_told s v) []) ≡ cond b (gives (visit_told s v)) 0
    go true = refl
    go false = refl

gives_by_entry : (lines : List CallLine) (p : ℕ) (r : RunState) (e : PlainEntry) → gives (entry_told lines r p e) ≡ given_in lines r p e
gives_by_entry lines p r (turned vs) = gives_by_turn p r.state vs
gives_by_entry lines p r (put to frame) = gives_putting (puts_in p (put to frame))
gives_by_entry lines p r (again word) = refl
gives_by_entry lines p r (waits k) = refl
gives_by_entry lines p r (called k a) = gives_back (frames_from p (returned_by (next_line lines r) r))

gives_by_run : (lines : List CallLine) (p : ℕ) (r : RunState) (es : List PlainEntry) → gives (moves_told lines r p es) ≡ given lines r p es
gives_by_run lines p r [] = refl
gives_by_run lines p r (e ∷ es) = omega (arith, gives_append (entry_told lines r p e) (moves_told lines (after lines r e) p es), gives_by_entry lines p r e, gives_by_run lines p (after lines r e) es)

-- ---- the traffic

-- the moves at a domain's ends towards a peer are in all what its journal tells
pub record HasTraffic (lines : List CallLine) (r : RunState) (p : ℕ) (es : List PlainEntry) (ms : List LaneMove) : Type 0 where
  pub put_is : frames_sent (sends ms) ≡ put_to p es
  pub backs_are : back_counts (sends ms) ≡ back_looks p es
  pub taken_is : contents (frames_taken (receives ms)) ≡ taken_from p es
  pub sees_are : see_counts (receives ms) ≡ see_looks p es
  pub given_is : length (numbers_given (receives ms)) ≡ given lines r p es

pub has_traffic : (lines : List CallLine) (r : RunState) (p : ℕ) (es : List PlainEntry) (ms : List LaneMove) → map unnumbered ms ≡ moves_told lines r p es → HasTraffic lines r p es ms
has_traffic lines r p es ms told =
    let alike = unnumbered_alike ms in
    record {
      put_is = alike.sent_is ∙ ap sent told ∙ of_run sent refl sent_append lines p (puts_in p) (sent_by_entry lines p) r es;
      backs_are = alike.backs_is ∙ ap backs told ∙ of_run backs refl backs_append lines p (backs_in p) (backs_by_entry lines p) r es;
      taken_is = alike.taken_is ∙ ap taken told ∙ of_run taken refl taken_append lines p (λ e. frames_of (takes_in p e)) (taken_by_entry lines p) r es ∙ frames_of_entries p es;
      sees_are = alike.sees_is ∙ ap sees told ∙ of_run sees refl sees_append lines p (sees_in p) (sees_by_entry lines p) r es;
      given_is = alike.gives_is ∙ ap gives told ∙ gives_by_run lines p r es;
    }
