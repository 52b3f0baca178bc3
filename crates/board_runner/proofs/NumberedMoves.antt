-- The deeds of a turn and of a call, by buffers' numbers, take and give back what the moves at the ends do.
use Rattle.std.proofs.Common.{◌≡◌, ℕ, suc, ◌+◌, Bool, true, false, cond, List, [], ◌∷◌, ◌++◌, length, map, flat_map, Option, None, Some, refl, sym, ap, ap₂, ◌∙◌, subst, arith, append-nil}
use Rattle.std.specs.Prelude.{◌==◌, slice_get}
use Rattle.std.specs.List.{AllByRecursion}
use Rattle.std.proofs.lemmas.List.{map-append}
use Rattle.lane_end.specs.ReceiveMoves as receiving
use Rattle.lane_end.specs.ReceiveMoves.{ReceiveMove, Took, Gave}
use Rattle.board_model.specs.declared.scenario.CallLine.{CallLine}
use Rattle.board_model.specs.Deeds.{Deed, looks_back, puts_owed, looks_ahead, takes, after_deed, after_deeds, along}
use Rattle.board_model.specs.Journal.{PlainEntry, PlainAnswer, Visit, Taken}
use Rattle.board_model.specs.JournalDeeds.{named_deeds, names_from, call_deeds}
use Rattle.board_model.specs.Returns.{given_by_frame}
use Rattle.board_model.specs.Serial.{put_entry}
use Rattle.board_model.specs.State.{DomainState, Item, frames_from}
use Rattle.board_model.specs.Step.{RunState, next_line, after}
use Rattle.board_model.specs.Traffic.{taken_from}
use Rattle.board_model.specs.Turn.{takes_named, visit_deeds}
use Rattle.board_model.specs.Unnamed.{unnamed, unnamed_end, unnamed_held, unnamed_packet, unnamed_request}
use Rattle.board_model.proofs.DeedJoins.{after-join, along-join}
use Rattle.board_model.proofs.MessageAlls.{all-append}
use Rattle.board_model.proofs.WholeJournals.{call_entries}
use Rattle.domain_core.specs.AllMoved as core
use Rattle.domain_core.specs.AllMoved.{frames_to, moves_at}
use Rattle.domain_core.specs.LaneMoves.{LaneMove, sender, receiver, receives}
use Rattle.domain_core.specs.NumberedDeeds.{number_in, numbered_deeds, turn_deeds}
use Rattle.domain_core.specs.Turned.{HaveNumbers}
use Rattle.domain_core.specs.VisitMoves.{before_takes, putting, taking, visit_moves}
use Rattle.lane_images.specs.DeedMoves as deals
use Rattle.lane_images.specs.DeedMoves.{deed_moves, unlooked, nameless_deed, IsNumbered}
use Rattle.board_runner.specs.OwnRun.{deeds_told}

-- ---- moves

pub receives-append : (xs ys : List LaneMove) → receives (xs ++ ys) ≡ receives xs ++ receives ys
receives-append [] ys = refl
receives-append (sender m ∷ xs) ys = receives-append xs ys
receives-append (receiver m ∷ xs) ys = ap (λ ms. m ∷ ms) (receives-append xs ys)

unlooked-append : (xs ys : List ReceiveMove) → unlooked (xs ++ ys) ≡ unlooked xs ++ unlooked ys
unlooked-append [] ys = refl
unlooked-append (receiving.Looked n ∷ xs) ys = unlooked-append xs ys
unlooked-append (Took n frame ∷ xs) ys = ap (λ ms. Took n frame ∷ ms) (unlooked-append xs ys)
unlooked-append (Gave n ∷ xs) ys = ap (λ ms. Gave n ∷ ms) (unlooked-append xs ys)

-- what is taken and given back by moves and more moves
pub dealt-append : (xs ys : List LaneMove) → unlooked (receives (xs ++ ys)) ≡ unlooked (receives xs) ++ unlooked (receives ys)
dealt-append xs ys = ap unlooked (receives-append xs ys) ∙ unlooked-append (receives xs) (receives ys)

receives-putting : (fs : List (List ℕ)) (ms : List LaneMove) → receives (putting fs ++ ms) ≡ receives ms
receives-putting [] ms = refl
receives-putting (f ∷ fs) ms = receives-putting fs ms

given-dealt : (ns : List ℕ) → unlooked (receives (core.giving ns)) ≡ deals.giving ns
given-dealt [] = refl
given-dealt (n ∷ ns) = ap (λ (ms : List ReceiveMove). Gave n ∷ ms) (given-dealt ns)

-- ---- a visit

next-number : (n : ℕ) (ns : List ℕ) → ◌≡◌ {A = ℕ → Option ℕ} (λ (k : ℕ). slice_get (n ∷ ns) (k + 1)) (λ (k : ℕ). slice_get ns k)
next-number n ns = λ i k. ap (slice_get (n ∷ ns)) (plus_one k) i
  where
    plus_one : (k : ℕ) → k + 1 ≡ suc k
    plus_one k = omega arith

takes-numbered : (peer : ℕ) (ns : List ℕ) (ts : List Taken) → length ns ≡ length ts → AllByRecursion IsNumbered (takes_named (λ k. slice_get ns k) peer ts)
takes-numbered peer [] [] e = tt
takes-numbered peer [] (t ∷ ts) e = absurd (omega (arith, e))
takes-numbered peer (n ∷ ns) [] e = absurd (omega (arith, e))
takes-numbered peer (n ∷ ns) (t ∷ ts) e = (refl, subst (λ (f : ℕ → Option ℕ). AllByRecursion IsNumbered (takes_named f peer ts)) (sym (next-number n ns)) (takes-numbered peer ns ts (omega (arith, e))))

takes-nameless : (f g : ℕ → Option ℕ) (peer : ℕ) (ts : List Taken) → map nameless_deed (takes_named f peer ts) ≡ map nameless_deed (takes_named g peer ts)
takes-nameless f g peer [] = refl
takes-nameless f g peer (t ∷ ts) = ap (λ ds. takes peer None t.frame t.fate ∷ ds) (takes-nameless (λ k. f (k + 1)) (λ k. g (k + 1)) peer ts)

pub visit-nameless : (f g : ℕ → Option ℕ) (v : Visit) → map nameless_deed (visit_deeds f v) ≡ map nameless_deed (visit_deeds g v)
visit-nameless f g v =
    ap (λ ds. looks_back v.peer v.back ∷ ds)
    (map-append nameless_deed (map (puts_owed v.peer) v.owed) (looks_ahead v.peer v.see ∷ takes_named f v.peer v.takes)
    ∙ ap (λ ds. map nameless_deed (map (puts_owed v.peer) v.owed) ++ looks_ahead v.peer v.see ∷ ds) (takes-nameless f g v.peer v.takes)
    ∙ sym (map-append nameless_deed (map (puts_owed v.peer) v.owed) (looks_ahead v.peer v.see ∷ takes_named g v.peer v.takes)))

owed-numbered : (peer : ℕ) (fs : List (List ℕ)) → AllByRecursion IsNumbered (map (puts_owed peer) fs)
owed-numbered peer [] = tt
owed-numbered peer (f ∷ fs) = (tt, owed-numbered peer fs)

visit-numbered : (v : Visit) (ns : List ℕ) → length ns ≡ length v.takes → AllByRecursion IsNumbered (numbered_deeds v ns)
visit-numbered v ns e =
    (tt, all-append IsNumbered (map (puts_owed v.peer) v.owed) (looks_ahead v.peer v.see ∷ takes_named (number_in ns) v.peer v.takes) (owed-numbered v.peer v.owed) (tt, takes-numbered v.peer ns v.takes e))

module _ (p : ℕ) where
  owed-dealt : (peer : ℕ) (fs : List (List ℕ)) (s : DomainState) → along (deed_moves p) s (map (puts_owed peer) fs) ≡ []
  owed-dealt peer [] s = refl
  owed-dealt peer (f ∷ fs) s = owed-dealt peer fs (after_deed s (puts_owed peer f))

  takes-dealt : (peer : ℕ) (ns : List ℕ) (ts : List Taken) (s : DomainState) → length ns ≡ length ts → along (deed_moves p) s (takes_named (λ k. slice_get ns k) peer ts) ≡ cond (peer == p) (unlooked (receives (taking s peer ns ts))) []
  takes-dealt peer [] [] s e = nothing (peer == p)
    where
      nothing : (b : Bool) → [] ≡ cond {A = List ReceiveMove} b [] []
      nothing true = refl
      nothing false = refl
  takes-dealt peer [] (t ∷ ts) s e = absurd (omega (arith, e))
  takes-dealt peer (n ∷ ns) [] s e = absurd (omega (arith, e))
  takes-dealt peer (n ∷ ns) (t ∷ ts) s e =
      ap (λ (f : ℕ → Option ℕ). cond (peer == p) (deals.taking (Some n) t.frame given) [] ++ along (deed_moves p) now (takes_named f peer ts)) (next-number n ns)
      ∙ (ap (λ (ms : List ReceiveMove). cond (peer == p) (deals.taking (Some n) t.frame given) [] ++ ms) (takes-dealt peer ns ts now (omega (arith, e)))
      ∙ go (peer == p))
    where
      given : List ℕ
      given = given_by_frame s peer (Some n) t.frame t.fate

      now : DomainState
      now = after_deed s (takes peer (Some n) t.frame t.fate)

      go : (b : Bool) → cond b (deals.taking (Some n) t.frame given) [] ++ cond b (unlooked (receives (taking now peer ns ts))) [] ≡ cond b (unlooked (receives (taking s peer (n ∷ ns) (t ∷ ts)))) []
      go true = ap (λ (ms : List ReceiveMove). Took n t.frame ∷ ms) (ap (λ (ms : List ReceiveMove). ms ++ unlooked (receives (taking now peer ns ts))) (sym (given-dealt given)) ∙ sym (dealt-append (core.giving given) (taking now peer ns ts)))
      go false = refl

  visit-dealt : (v : Visit) (ns : List ℕ) (s : DomainState) → length ns ≡ length v.takes → along (deed_moves p) s (numbered_deeds v ns) ≡ cond (v.peer == p) (unlooked (receives (visit_moves s v ns))) []
  visit-dealt v ns s e =
      let t = after_deed s (looks_back v.peer v.back) in
      let u = after_deed (after_deeds t (map (puts_owed v.peer) v.owed)) (looks_ahead v.peer v.see) in
      along-join (deed_moves p) t (map (puts_owed v.peer) v.owed) (looks_ahead v.peer v.see ∷ takes_named (number_in ns) v.peer v.takes)
      ∙ (ap (λ (ms : List ReceiveMove). ms ++ along (deed_moves p) u (takes_named (number_in ns) v.peer v.takes)) (owed-dealt v.peer v.owed t)
      ∙ (takes-dealt v.peer ns v.takes u e
      ∙ (ap (λ (x : DomainState). cond (v.peer == p) (unlooked (receives (taking x v.peer ns v.takes))) []) (sym (after-join t (map (puts_owed v.peer) v.owed) (looks_ahead v.peer v.see ∷ [])))
      ∙ ap (λ (ms : List ReceiveMove). cond (v.peer == p) (unlooked ms) []) (sym (receives-putting v.owed (receiver (receiving.Looked v.see) ∷ taking (before_takes s v) v.peer ns v.takes))))))

-- ---- a turn

pub turn-numbered : (vs : List Visit) (nss : List (List ℕ)) → HaveNumbers vs nss → AllByRecursion IsNumbered (turn_deeds vs nss)
turn-numbered [] [] have = tt
turn-numbered [] (ns ∷ nss) have = absurd have
turn-numbered (v ∷ vs) [] have = absurd have
turn-numbered (v ∷ vs) (ns ∷ nss) have = all-append IsNumbered (numbered_deeds v ns) (turn_deeds vs nss) (visit-numbered v ns have.0) (turn-numbered vs nss have.1)

pub turn-nameless : (before : List PlainEntry) (vs : List Visit) (nss : List (List ℕ)) → HaveNumbers vs nss → map nameless_deed (turn_deeds vs nss) ≡ map nameless_deed (flat_map (named_deeds before) vs)
turn-nameless before [] [] have = refl
turn-nameless before [] (ns ∷ nss) have = absurd have
turn-nameless before (v ∷ vs) [] have = absurd have
turn-nameless before (v ∷ vs) (ns ∷ nss) have =
    map-append nameless_deed (numbered_deeds v ns) (turn_deeds vs nss)
    ∙ ap₂ (λ (xs ys : List Deed). xs ++ ys) (visit-nameless (number_in ns) (names_from (length (taken_from v.peer before))) v) (turn-nameless before vs nss have.1)
    ∙ sym (map-append nameless_deed (named_deeds before v) (flat_map (named_deeds before) vs))

-- the moves of its visits to a peer
abbrev pub turn_at : DomainState → List Visit → List (List ℕ) → ℕ → List LaneMove
turn_at s [] nss p = []
turn_at s (v ∷ vs) [] p = []
turn_at s (v ∷ vs) (ns ∷ nss) p = cond (v.peer == p) (visit_moves s v ns) [] ++ turn_at (after_deeds s (numbered_deeds v ns)) vs nss p

pub turn-dealt : (p : ℕ) (vs : List Visit) (nss : List (List ℕ)) (s : DomainState) → HaveNumbers vs nss → unlooked (receives (turn_at s vs nss p)) ≡ along (deed_moves p) s (turn_deeds vs nss)
turn-dealt p [] [] s have = refl
turn-dealt p [] (ns ∷ nss) s have = absurd have
turn-dealt p (v ∷ vs) [] s have = absurd have
turn-dealt p (v ∷ vs) (ns ∷ nss) s have =
    let now = after_deeds s (numbered_deeds v ns) in
    dealt-append (cond (v.peer == p) (visit_moves s v ns) []) (turn_at now vs nss p)
    ∙ ap₂ (λ (xs ys : List ReceiveMove). xs ++ ys) (go (v.peer == p) ∙ sym (visit-dealt p v ns s have.0)) (turn-dealt p vs nss now have.1)
    ∙ sym (along-join (deed_moves p) s (numbered_deeds v ns) (turn_deeds vs nss))
  where
    go : (b : Bool) → unlooked (receives (cond b (visit_moves s v ns) [])) ≡ cond b (unlooked (receives (visit_moves s v ns))) []
    go true = refl
    go false = refl

-- ---- a call

pub call-dealt : (ps : List (ℕ × List ℕ)) (items : List Item) (p : ℕ) → unlooked (receives (moves_at ps items p)) ≡ deals.giving (frames_from p items)
call-dealt ps items p = ap unlooked (receives-putting (frames_to p ps) (core.giving (frames_from p items))) ∙ given-dealt (frames_from p items)

deeds_stay : (lines : List CallLine) (r : RunState) (q : ℕ × List ℕ) (o : Option CallLine) (a : PlainAnswer) → call_deeds o (after lines r (put_entry q)) a ≡ call_deeds o r a
deeds_stay lines r q None a = refl
deeds_stay lines r q (Some line) a = refl

-- the entries of its puts and of its answer tell the call
pub call-noted : (lines : List CallLine) (r : RunState) (ps : List (ℕ × List ℕ)) (k : ℕ) (a : PlainAnswer) → deeds_told lines r (call_entries ps k a) ≡ map nameless_deed (call_deeds (next_line lines r) r a)
call-noted lines r [] k a = append-nil (map nameless_deed (call_deeds (next_line lines r) r a))
call-noted lines r (q ∷ ps) k a = call-noted lines (after lines r (put_entry q)) ps k a ∙ ap (map nameless_deed) (deeds_stay lines r q (next_line lines r) a)

-- ---- a state that holds nothing names nothing

pub none-mapped : {A B : Type 0} (f : A → B) (xs : List A) → map f xs ≡ [] → xs ≡ []
none-mapped {A} {B} f [] e = refl
none-mapped {A} {B} f (x ∷ xs) e = absurd cc

pub numbered-opened : (u t : DomainState) → t.endpoints ≡ [] → t.requests ≡ [] → t.lent ≡ [] → t.held ≡ [] → t ≡ unnamed u → u ≡ t
numbered-opened u t no_ends no_requests no_packets none_held same =
    let ends : map unnamed_end u.endpoints ≡ [] = sym (ap (λ (s : DomainState). s.endpoints) same) ∙ no_ends in
    let requests : map unnamed_request u.requests ≡ [] = sym (ap (λ (s : DomainState). s.requests) same) ∙ no_requests in
    let packets : map unnamed_packet u.lent ≡ [] = sym (ap (λ (s : DomainState). s.lent) same) ∙ no_packets in
    let one = none-mapped unnamed_end u.endpoints ends ∙ sym ends in
    let two = none-mapped unnamed_request u.requests requests ∙ sym requests in
    let held : map unnamed_held u.held ≡ [] = sym (ap (λ (s : DomainState). s.held) same) ∙ none_held in
    let three = none-mapped unnamed_packet u.lent packets ∙ sym packets in
    let four = none-mapped unnamed_held u.held held ∙ sym held in
    (λ i. record u { endpoints = one i; requests = two i; lent = three i; held = four i }) ∙ sym same
