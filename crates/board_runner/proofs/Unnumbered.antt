-- Moves without the numbers of their buffers: what they put and take, what their looks show and how many buffers they give back is the same.
-- So the moves of a visit are those that it tells from the state without names.
use Rattle.std.proofs.Common.{◌≡◌, ℕ, ◌+◌, Bool, true, false, cond, List, [], ◌∷◌, ◌++◌, length, map, Some, refl, sym, ap, ap₂, ◌∙◌, arith, eq-eqb}
use Rattle.std.specs.Prelude.{◌==◌}
use Rattle.std.proofs.lemmas.List.{map-append, length-append}
use Rattle.lane_end.specs.SendMoves.{Looked, Sent}
use Rattle.lane_end.specs.ReceiveMoves as receiving
use Rattle.lane_end.specs.ReceiveMoves.{Took, Gave}
use Rattle.lane_end.specs.SendParts.{frames_sent, back_counts}
use Rattle.lane_end.specs.ReceiveParts.{frames_taken, see_counts}
use Rattle.board_model.specs.Deeds.{Deed, looks_ahead, looks_back, puts_owed, takes, after_deed, after_deeds, along}
use Rattle.board_model.specs.Journal.{Visit, Taken}
use Rattle.board_model.specs.Returns.{given_by_frame, names_given}
use Rattle.board_model.specs.Serial.{returned_at_once}
use Rattle.board_model.specs.State.{DomainState}
use Rattle.board_model.specs.Turn.{nameless, takes_named, visit_deeds}
use Rattle.board_model.specs.Unnamed.{no_names, unnamed}
use Rattle.board_model.proofs.DeedJoins.{after-join, along-join}
use Rattle.board_model.proofs.RenamedDeeds.{deed-renamed}
use Rattle.board_model.proofs.UnnamedDeeds.{deeds-unnamed, visit-unnamed}
use Rattle.domain_core.specs.LaneMoves.{LaneMove, sender, receiver, sends, receives}
use Rattle.domain_core.specs.VisitMoves.{before_takes, giving, putting, taking, taking_one, visit_moves}
use Rattle.lane_images.proofs.NewNames.{given-renamed, new_name, same-names}
use Rattle.board_runner.specs.OwnRun.{unnumbered, visit_told}
use Rattle.board_runner.proofs.NearEnds.{contents, gives, gives-giving, visit_taking}

abbrev pub zeros : List Taken → List ℕ
zeros ts = map (λ t. 0) ts

-- ---- lists of what moves do

abbrev pub sent : List LaneMove → List (List ℕ)
sent ms = frames_sent (sends ms)

abbrev pub backs : List LaneMove → List ℕ
backs ms = back_counts (sends ms)

abbrev pub taken : List LaneMove → List (List ℕ)
taken ms = contents (frames_taken (receives ms))

abbrev pub sees : List LaneMove → List ℕ
sees ms = see_counts (receives ms)

-- ---- the numbers of buffers tell nothing of these

pub record IsAlike (ms ns : List LaneMove) : Type 0 where
  pub sent_is : sent ms ≡ sent ns
  pub backs_is : backs ms ≡ backs ns
  pub taken_is : taken ms ≡ taken ns
  pub sees_is : sees ms ≡ sees ns
  pub gives_is : gives ms ≡ gives ns

pub unnumbered_alike : (ms : List LaneMove) → IsAlike ms (map unnumbered ms)
unnumbered_alike [] = record { sent_is = refl; backs_is = refl; taken_is = refl; sees_is = refl; gives_is = refl }
unnumbered_alike (sender (Looked n) ∷ ms) =
    let a = unnumbered_alike ms in record { sent_is = a.sent_is; backs_is = ap (λ (ns : List ℕ). n ∷ ns) a.backs_is; taken_is = a.taken_is; sees_is = a.sees_is; gives_is = a.gives_is }
unnumbered_alike (sender (Sent f) ∷ ms) =
    let a = unnumbered_alike ms in record { sent_is = ap (λ (fs : List (List ℕ)). f ∷ fs) a.sent_is; backs_is = a.backs_is; taken_is = a.taken_is; sees_is = a.sees_is; gives_is = a.gives_is }
unnumbered_alike (receiver (receiving.Looked n) ∷ ms) =
    let a = unnumbered_alike ms in record { sent_is = a.sent_is; backs_is = a.backs_is; taken_is = a.taken_is; sees_is = ap (λ (ns : List ℕ). n ∷ ns) a.sees_is; gives_is = a.gives_is }
unnumbered_alike (receiver (Took n f) ∷ ms) =
    let a = unnumbered_alike ms in record { sent_is = a.sent_is; backs_is = a.backs_is; taken_is = ap (λ (fs : List (List ℕ)). f ∷ fs) a.taken_is; sees_is = a.sees_is; gives_is = a.gives_is }
unnumbered_alike (receiver (Gave n) ∷ ms) =
    let a = unnumbered_alike ms in record { sent_is = a.sent_is; backs_is = a.backs_is; taken_is = a.taken_is; sees_is = a.sees_is; gives_is = omega (arith, a.gives_is) }

-- ---- a visit

pub unnumbered_putting : (fs : List (List ℕ)) (ms : List LaneMove) → map unnumbered (putting fs ++ ms) ≡ putting fs ++ map unnumbered ms
unnumbered_putting [] ms = refl
unnumbered_putting (f ∷ fs) ms = ap (λ (xs : List LaneMove). sender (Sent f) ∷ xs) (unnumbered_putting fs ms)

unnumbered_giving : (peer : ℕ) (gs : List ℕ) → map unnumbered (giving gs) ≡ giving (map (no_names peer) gs)
unnumbered_giving peer [] = refl
unnumbered_giving peer (g ∷ gs) = ap (λ (xs : List LaneMove). receiver (Gave 0) ∷ xs) (unnumbered_giving peer gs)

unnumbered_taking : (s : DomainState) (peer : ℕ) (ns : List ℕ) (ts : List Taken) → length ns ≡ length ts → map unnumbered (taking s peer ns ts) ≡ taking (unnamed s) peer (zeros ts) ts
unnumbered_taking s peer [] [] e = refl
unnumbered_taking s peer [] (t ∷ ts) e = absurd (omega (arith, e))
unnumbered_taking s peer (n ∷ ns) [] e = absurd (omega (arith, e))
unnumbered_taking s peer (n ∷ ns) (t ∷ ts) e =
    let given = given_by_frame s peer (Some n) t.frame t.fate in
    let d : Deed = takes peer (Some n) t.frame t.fate in
    map-append unnumbered (taking_one s peer n t) (taking (after_deed s d) peer ns ts)
    ∙ ap₂ (λ (xs ys : List LaneMove). (receiver (Took 0 t.frame) ∷ xs) ++ ys)
    (unnumbered_giving peer given ∙ ap giving (sym (given-renamed no_names s peer (Some n) t.frame t.fate)))
    (unnumbered_taking (after_deed s d) peer ns ts (omega (arith, e)) ∙ ap (λ (x : DomainState). taking x peer (zeros ts) ts) (deed-renamed no_names (new_name no_names) (same-names no_names) s d))

-- the visit without its frames
abbrev looks_only : Visit → Visit
looks_only v = record v { takes = [] }

pub unnumbered_visit : (s : DomainState) (v : Visit) (ns : List ℕ) → length ns ≡ length v.takes → map unnumbered (visit_moves s v ns) ≡ visit_told (unnamed s) v
unnumbered_visit s v ns e =
    let before : unnamed (before_takes s v) ≡ before_takes (unnamed s) v = deeds-unnamed s (visit_deeds nameless (looks_only v)) ∙ ap (after_deeds (unnamed s)) (visit-unnamed nameless (looks_only v)) in
    ap (λ (xs : List LaneMove). sender (Looked v.back) ∷ xs)
    (unnumbered_putting v.owed (receiver (receiving.Looked v.see) ∷ visit_taking s v ns)
    ∙ ap (λ (xs : List LaneMove). putting v.owed ++ receiver (receiving.Looked v.see) ∷ xs) (unnumbered_taking (before_takes s v) v.peer ns v.takes e ∙ ap (λ (x : DomainState). taking x v.peer (zeros v.takes) v.takes) before))

-- ---- how many buffers a visit gives back

gives-takes : (p : ℕ) (s : DomainState) (peer : ℕ) (ts : List Taken) → length (along (names_given p) s (takes_named nameless peer ts)) ≡ cond (peer == p) (gives (taking s peer (zeros ts) ts)) 0
gives-takes p s peer [] = go (peer == p)
  where
    go : (b : Bool) → 0 ≡ cond {A = ℕ} b 0 0
    go true = refl
    go false = refl
gives-takes p s peer (t ∷ ts) =
    let d : Deed = takes peer (Some 0) t.frame t.fate in
    length-append (names_given p s d) (along (names_given p) (after_deed s d) (takes_named nameless peer ts)) ∙ ap (λ (k : ℕ). length (names_given p s d) + k) (gives-takes p (after_deed s d) peer ts) ∙ go (peer == p)
  where
    given : List ℕ
    given = given_by_frame s peer (Some 0) t.frame t.fate

    rest : List LaneMove
    rest = taking (after_deed s (takes peer (Some 0) t.frame t.fate)) peer (zeros ts) ts

    go : (b : Bool) → length (cond b given []) + cond b (gives rest) 0 ≡ cond b (gives (giving given ++ rest)) 0
    go true = sym (gives-giving given rest)
    go false = refl

owed-none : (p : ℕ) (s : DomainState) (peer : ℕ) (fs : List (List ℕ)) → along (names_given p) s (map (puts_owed peer) fs) ≡ []
owed-none p s peer [] = refl
owed-none p s peer (f ∷ fs) = owed-none p (after_deed s (puts_owed peer f)) peer fs

gives-putting : (fs : List (List ℕ)) (ms : List LaneMove) → gives (putting fs ++ ms) ≡ gives ms
gives-putting [] ms = refl
gives-putting (f ∷ fs) ms = gives-putting fs ms

-- to a peer
pub gives-visit : (p : ℕ) (s : DomainState) (v : Visit) → length (along (names_given p) s (visit_deeds nameless v)) ≡ cond (v.peer == p) (gives (visit_told s v)) 0
gives-visit p s v =
    let owed = map (puts_owed v.peer) v.owed in
    let t = after_deed s (looks_back v.peer v.back) in
    let u = after_deed (after_deeds t owed) (looks_ahead v.peer v.see) in
    ap length (along-join (names_given p) t owed (looks_ahead v.peer v.see ∷ takes_named nameless v.peer v.takes) ∙ ap (λ (ns : List ℕ). ns ++ along (names_given p) u (takes_named nameless v.peer v.takes)) (owed-none p t v.peer v.owed))
    ∙ gives-takes p u v.peer v.takes
    ∙ ap (λ (x : DomainState). cond (v.peer == p) (gives (taking x v.peer (zeros v.takes) v.takes)) 0) (sym (after-join t owed (looks_ahead v.peer v.see ∷ [])))
    ∙ ap (λ (k : ℕ). cond (v.peer == p) k 0) (sym (gives-putting v.owed (receiver (receiving.Looked v.see) ∷ visit_taking s v (zeros v.takes))))

-- by its moves from a numbered state
pub visit-returns : (s : DomainState) (v : Visit) (ns : List ℕ) → length ns ≡ length v.takes → gives (visit_taking s v ns) ≡ returned_at_once (unnamed s) v
visit-returns s v ns e =
    sym (gives-putting v.owed (receiver (receiving.Looked v.see) ∷ visit_taking s v ns))
    ∙ (unnumbered_alike (visit_moves s v ns)).gives_is
    ∙ ap gives (unnumbered_visit s v ns e)
    ∙ ap (λ (b : Bool). cond b (gives (visit_told (unnamed s) v)) 0) (sym (eq-eqb v.peer v.peer refl))
    ∙ sym (gives-visit v.peer (unnamed s) v)
