-- One visit at a domain's ends towards a peer: what the domain did there after it, by what it did before.
use Rattle.std.proofs.Common.{◌≡◌, ℕ, ◌+◌, ◌≤◌, Bool, true, false, List, [], ◌∷◌, ◌++◌, length, map, drop, sum, slice_get, slice_index, Some, refl, sym, ap, ap₂, ◌∙◌, subst, arith, append_assoc, append-nil, length-append}
use Rattle.std.proofs.lemmas.List.{map-append, length-map}
use Rattle.std.proofs.lemmas.List.Sums.{sum_by-append}
use Rattle.lane_end.specs.Halves.{IsRingSend, IsRingRecv}
use Rattle.lane_end.specs.SendMoves.{SendMove, Looked, Sent}
use Rattle.lane_end.specs.ReceiveMoves.{ReceiveMove, Took, Gave}
use Rattle.lane_end.specs.ReceiveMoves as receiving
use Rattle.lane_end.specs.SendParts.{frames_sent, back_counts}
use Rattle.lane_end.specs.ReceiveParts.{frames_taken, numbers_given}
use Rattle.lane_end.specs.Entries.{frame_in as entry_frame, frames_in, loads_in, return_in}
use Rattle.lane_end.specs.Opened.{given_length}
use Rattle.lane_end.specs.RingSender.{RingSender, put_by, RingSends}
use Rattle.lane_end.specs.RingReceiver.{RingReceiver, RingReceives, taken_by, given_entries, given_by, with_lengths}
use Rattle.lane_end.specs.AnySender.{AnySends}
use Rattle.lane_end.specs.AnyReceiver.{AnyReceives}
use Rattle.lane_end.specs.declared.any.AnySend.{AnySend}
use Rattle.lane_end.specs.declared.any.AnyRecv.{AnyRecv}
use Rattle.lane_end.specs.declared.any.AnySend.TheVariants as send
use Rattle.lane_end.specs.declared.any.AnyRecv.TheVariants as recv
use Rattle.shared_words.specs.Entry.{Entry}
use Rattle.lane_end.specs.Loop.{Loop}
use Rattle.board_model.specs.Journal.{Visit, Taken}
use Rattle.board_model.specs.Deeds.{after_deed, takes}
use Rattle.board_model.specs.Returns.{given_by_frame}
use Rattle.board_model.specs.State.{DomainState}
use Rattle.board_model.proofs.WholeTakes.{frames_of}
use Rattle.domain_core.specs.declared.Ends.TheVariants.{Own, Linked}
use Rattle.domain_core.specs.LaneMoves.{LaneMove, sender, receiver, sends, receives}
use Rattle.domain_core.specs.LinkMoved.{LinkMoved}
use Rattle.domain_core.specs.LoopMoved.{LoopMoved, loop_after}
use Rattle.domain_core.specs.VisitMoves.{before_takes, giving, putting, taking, visit_moves}
use Rattle.domain_core.specs.Carrying.{AnyLink}
use Rattle.board_runner.specs.Near.{Near, SentNear, GotNear, sent_by, got_by, sent_near, got_near, IsLinkTo, frame_in, near_to}

-- a visit of a link: the frames that it put and took, what its looks showed, and how many buffers it gave back. A look shows no less than
-- was known before, and no more than is known then
pub record SentVisited (back : ℕ) (owed : List (List ℕ)) (old new : SentNear) : Type 0 where
  pub put : new.put ≡ old.put ++ owed
  pub back_is : new.back ≡ old.back + back
  pub low : old.known ≤ old.back + back
  pub high : old.back + back ≤ new.known
  pub grows : old.known ≤ new.known

pub record GotVisited (see : ℕ) (takes : List Taken) (gave : ℕ) (old new : GotNear) : Type 0 where
  pub taken : new.taken ≡ old.taken ++ frames_of takes
  pub given : new.given ≡ old.given + gave
  pub low : old.known ≤ length old.taken + see
  pub high : length old.taken + see ≤ new.known
  pub grows : old.known ≤ new.known

pub record LinkVisited (gave : ℕ) (v : Visit) (old new : Near) : Type 0 where
  pub sent : SentVisited v.back v.owed old.sent new.sent
  pub got : GotVisited v.see v.takes gave old.got new.got

-- of the own lane only what is there counts
pub record IsOwn (n : Near) : Type 0 where
  pub back : n.sent.back ≡ 0
  pub taken : n.got.taken ≡ []

pub record OwnVisited (gave : ℕ) (v : Visit) (old new : Near) : Type 0 where
  pub was : IsOwn old
  pub is : IsOwn new
  pub back : v.back ≡ old.got.given
  pub see : v.see ≡ length (old.sent.put ++ v.owed)
  pub came : old.sent.put ++ v.owed ≡ frames_of v.takes ++ new.sent.put
  pub given : new.got.given ≡ gave

abbrev pub NearVisited : Bool → ℕ → Visit → Near → Near → Type 0
NearVisited true gave v old new = OwnVisited gave v old new
NearVisited false gave v old new = LinkVisited gave v old new

-- the frames that lanes carry, without their buffers' numbers
abbrev pub contents : List (ℕ × List ℕ) → List (List ℕ)
contents fs = map frame_in fs

pub first-came : (n : ℕ) (frame : List ℕ) (came : List (ℕ × List ℕ)) → slice_get came 0 ≡ Some (n, frame) → contents came ≡ frame ∷ contents (drop 1 came)
first-came n frame [] e = cc
first-came n frame (f ∷ came) e = let is : f ≡ (n, frame) = cc in ap (λ (g : ℕ × List ℕ). g.1 ∷ contents came) is

-- how many buffers moves give back
abbrev pub gives : List LaneMove → ℕ
gives ms = length (numbers_given (receives ms))

-- buffers that are given back before other moves
pub gives-giving : (gs : List ℕ) (ms : List LaneMove) → gives (giving gs ++ ms) ≡ length gs + gives ms
gives-giving [] ms = omega arith
gives-giving (g ∷ gs) ms = omega (arith, gives-giving gs ms)

sends_giving : (gs : List ℕ) (ms : List LaneMove) → sends (giving gs ++ ms) ≡ sends ms
sends_giving [] ms = refl
sends_giving (g ∷ gs) ms = sends_giving gs ms

frames_giving : (gs : List ℕ) (ms : List LaneMove) → frames_taken (receives (giving gs ++ ms)) ≡ frames_taken (receives ms)
frames_giving [] ms = refl
frames_giving (g ∷ gs) ms = frames_giving gs ms

-- ---- the ends of a link

pub sends_putting : (fs : List (List ℕ)) (ms : List LaneMove) → sends (putting fs ++ ms) ≡ map Sent fs ++ sends ms
sends_putting [] ms = refl
sends_putting (f ∷ fs) ms = ap (λ (xs : List SendMove). Sent f ∷ xs) (sends_putting fs ms)

pub receives_putting : (fs : List (List ℕ)) (ms : List LaneMove) → receives (putting fs ++ ms) ≡ receives ms
receives_putting [] ms = refl
receives_putting (f ∷ fs) ms = receives_putting fs ms

sends_taking : (s : DomainState) (peer : ℕ) (ns : List ℕ) (ts : List Taken) → sends (taking s peer ns ts) ≡ []
sends_taking s peer [] ts = refl
sends_taking s peer (n ∷ ns) [] = refl
sends_taking s peer (n ∷ ns) (t ∷ ts) =
    let now = after_deed s (takes peer (Some n) t.frame t.fate) in
    sends_giving (given_by_frame s peer (Some n) t.frame t.fate) (taking now peer ns ts) ∙ sends_taking now peer ns ts

pub sends_visit : (s : DomainState) (v : Visit) (ns : List ℕ) → sends (visit_moves s v ns) ≡ Looked v.back ∷ map Sent v.owed
sends_visit s v ns =
    ap (λ (xs : List SendMove). Looked v.back ∷ xs)
    (sends_putting v.owed (receiver (receiving.Looked v.see) ∷ taking (before_takes s v) v.peer ns v.takes)
    ∙ ap (λ (xs : List SendMove). map Sent v.owed ++ xs) (sends_taking (before_takes s v) v.peer ns v.takes)
    ∙ append-nil (map Sent v.owed))

-- what a sender over a ring did

pub sent_puts : (fs : List (List ℕ)) → frames_sent (map Sent fs) ≡ fs
sent_puts [] = refl
sent_puts (f ∷ fs) = ap (λ (gs : List (List ℕ)). f ∷ gs) (sent_puts fs)

pub puts_show_none : (fs : List (List ℕ)) → back_counts (map Sent fs) ≡ []
puts_show_none [] = refl
puts_show_none (f ∷ fs) = puts_show_none fs

ring-sent : (b : ℕ) (owed : List (List ℕ)) (s s' : RingSender) → RingSends s (Looked b ∷ map Sent owed) s' → SentVisited b owed (sent_by s) (sent_by s')
ring-sent b owed s s' moved =
    let looks : s'.half.looks ≡ s.half.looks ++ b ∷ [] = moved.looks ∙ ap (λ (xs : List ℕ). s.half.looks ++ b ∷ xs) (puts_show_none owed) in
    record {
      put = moved.put ∙ ap (λ (fs : List (List ℕ)). put_by s ++ fs) (sent_puts owed);
      back_is = (let e = ap sum looks in let a = sum_by-append (λ (x : ℕ). x) s.half.looks (b ∷ []) in let c = sum_by-append (λ (x : ℕ). x) [] (b ∷ []) in omega (arith, e, a, c));
      low = moved.seen.0;
      high = moved.seen.1;
      grows = moved.known;
    }

any-sent : (b : ℕ) (owed : List (List ℕ)) (s s' : AnySend) → IsRingSend s → AnySends s (Looked b ∷ map Sent owed) s' → SentVisited b owed (sent_near s) (sent_near s')
any-sent b owed (send.Driver s) (send.Driver t) ring moved = ring-sent b owed s t moved
any-sent b owed (send.Device s) (send.Device t) ring moved = ring-sent b owed s t moved
any-sent b owed (send.Plain s) t ring moved = absurd ring
any-sent b owed (send.Driver s) (send.Plain t) ring moved = absurd moved
any-sent b owed (send.Driver s) (send.Device t) ring moved = absurd moved
any-sent b owed (send.Device s) (send.Plain t) ring moved = absurd moved
any-sent b owed (send.Device s) (send.Driver t) ring moved = absurd moved

-- what a receiver over a ring did

pub loads-frames : (es : List Entry) → contents (loads_in es) ≡ frames_in es
loads-frames [] = refl
loads-frames (e ∷ es) = ap (λ (fs : List (List ℕ)). entry_frame e ∷ fs) (loads-frames es)

pub takes-tell : (s : DomainState) (peer : ℕ) (ns : List ℕ) (ts : List Taken) → length ns ≡ length ts → contents (frames_taken (receives (taking s peer ns ts))) ≡ frames_of ts
takes-tell s peer [] [] each = refl
takes-tell s peer [] (t ∷ ts) each = absurd (omega (arith, each))
takes-tell s peer (n ∷ ns) [] each = absurd (omega (arith, each))
takes-tell s peer (n ∷ ns) (t ∷ ts) each =
    let now = after_deed s (takes peer (Some n) t.frame t.fate) in
    ap (λ (fs : List (ℕ × List ℕ)). t.frame ∷ contents fs) (frames_giving (given_by_frame s peer (Some n) t.frame t.fate) (taking now peer ns ts))
    ∙ ap (λ (fs : List (List ℕ)). t.frame ∷ fs) (takes-tell now peer ns ts (omega (arith, each)))

ring-taken : (see : ℕ) (ms : List ReceiveMove) (r r' : RingReceiver) → RingReceives r (receiving.Looked see ∷ ms) r' → (frames : List (List ℕ)) → contents (frames_taken ms) ≡ frames → (got_by r').taken ≡ (got_by r).taken ++ frames
ring-taken see ms r r' moved frames taken =
    sym (loads-frames r'.half.taken) ∙ ap contents moved.taken ∙ map-append frame_in (taken_by r) (frames_taken ms) ∙ ap₂ (λ (xs ys : List (List ℕ)). xs ++ ys) (loads-frames r.half.taken) taken

ring-given : (see : ℕ) (ms : List ReceiveMove) (r r' : RingReceiver) → RingReceives r (receiving.Looked see ∷ ms) r' → (got_by r').given ≡ (got_by r).given + length (numbers_given ms)
ring-given see ms r r' moved =
    let a = ap length moved.given in
    let b = length-append (given_by r) (with_lengths r.role r.half.ring (numbers_given ms)) in
    let c = length-map (given_entries r) return_in in
    let d = length-map (given_entries r') return_in in
    let e : length (with_lengths r.role r.half.ring (numbers_given ms)) ≡ length (numbers_given ms) = length-map (numbers_given ms) (λ (n : ℕ). (n, given_length r.role r.half.ring)) in
    omega (arith, a, b, c, d, e)

any-got : (see : ℕ) (ms : List ReceiveMove) (ts : List Taken) (r r' : AnyRecv) → IsRingRecv r → contents (frames_taken ms) ≡ frames_of ts → AnyReceives r (receiving.Looked see ∷ ms) r' → GotVisited see ts (length (numbers_given ms)) (got_near r) (got_near r')
any-got see ms ts r r' ring frames moved = go r r' ring moved
  where
    got : (r r' : RingReceiver) → RingReceives r (receiving.Looked see ∷ ms) r' → GotVisited see ts (length (numbers_given ms)) (got_by r) (got_by r')
    got r r' moved =
        let same : length (got_by r).taken ≡ length r.half.taken = length-map r.half.taken entry_frame in
        record {
          taken = ring-taken see ms r r' moved (frames_of ts) frames;
          given = ring-given see ms r r' moved;
          low = let l = moved.seen.0 in omega (arith, l, same);
          high = let h = moved.seen.1 in omega (arith, h, same);
          grows = moved.known;
        }

    go : (r r' : AnyRecv) → IsRingRecv r → AnyReceives r (receiving.Looked see ∷ ms) r' → GotVisited see ts (length (numbers_given ms)) (got_near r) (got_near r')
    go (recv.Driver a) (recv.Driver b) ring moved = got a b moved
    go (recv.Device a) (recv.Device b) ring moved = got a b moved
    go (recv.Plain a) b ring moved = absurd ring
    go (recv.Driver a) (recv.Plain b) ring moved = absurd moved
    go (recv.Driver a) (recv.Device b) ring moved = absurd moved
    go (recv.Device a) (recv.Plain b) ring moved = absurd moved
    go (recv.Device a) (recv.Driver b) ring moved = absurd moved

-- the moves of the frames that a visit takes
abbrev pub visit_taking : DomainState → Visit → List ℕ → List LaneMove
visit_taking s v ns = taking (before_takes s v) v.peer ns v.takes

pub link-visited : (s : DomainState) (v : Visit) (ns : List ℕ) (p : ℕ) (a b : AnyLink) → IsLinkTo p a → length ns ≡ length v.takes → LinkMoved AnySends AnyReceives a (visit_moves s v ns) b → LinkVisited (gives (visit_taking s v ns)) v (near_to (Linked a)) (near_to (Linked b))
link-visited s v ns p a b rings each moved =
    let sent = subst (λ (ms : List SendMove). AnySends a.send ms b.send) (sends_visit s v ns) moved.sent in
    let received = subst (λ (ms : List ReceiveMove). AnyReceives a.recv ms b.recv) (receives_putting v.owed (receiver (receiving.Looked v.see) ∷ visit_taking s v ns)) moved.received in
    record { sent = any-sent v.back v.owed a.send b.send rings.sends sent; got = any-got v.see (receives (visit_taking s v ns)) v.takes a.recv b.recv rings.receives (takes-tell (before_takes s v) v.peer ns v.takes each) received }

-- ---- the own lane

-- frames leave those that came, and so many buffers are given back
record Taking (ts : List Taken) (gave : ℕ) (a b : Loop) : Type 0 where
  came : contents a.frames ≡ frames_of ts ++ contents b.frames
  given : length b.back ≡ length a.back + gave

-- after buffers are given back the frames are the same
record LoopGave (gave : ℕ) (ms : List LaneMove) (a b : Loop) : Type 0 where
  mid : Loop
  rest : LoopMoved mid ms b
  frames : mid.frames ≡ a.frames
  back : length mid.back ≡ length a.back + gave

loop-gave : (gs : List ℕ) (ms : List LaneMove) (a b : Loop) → LoopMoved a (giving gs ++ ms) b → LoopGave (length gs) ms a b
loop-gave [] ms a b moved = record { mid = a; rest = moved; frames = refl; back = omega arith }
loop-gave (g ∷ gs) ms a b moved =
    let later = loop-gave gs ms (loop_after a (receiver (Gave g))) b moved.1 in
    record { mid = later.mid; rest = later.rest; frames = later.frames; back = omega (arith, later.back, length-append a.back (g ∷ [])) }

pub record LoopPut (frames : List (List ℕ)) (ms : List LaneMove) (a b : Loop) : Type 0 where
  pub mid : Loop
  pub rest : LoopMoved mid ms b
  pub put : contents mid.frames ≡ contents a.frames ++ frames
  pub back : mid.back ≡ a.back

pub loop-put : (frames : List (List ℕ)) (ms : List LaneMove) (a b : Loop) → LoopMoved a (putting frames ++ ms) b → LoopPut frames ms a b
loop-put [] ms a b moved = record { mid = a; rest = moved; put = sym (append-nil (contents a.frames)); back = refl }
loop-put (f ∷ fs) ms a b moved =
    let later = loop-put fs ms (loop_after a (sender (Sent f))) b moved.1 in
    record {
      mid = later.mid;
      rest = later.rest;
      put =
          later.put ∙ ap (λ (xs : List (List ℕ)). xs ++ fs) (map-append frame_in a.frames ((slice_index a.free 0, f) ∷ [])) ∙ append_assoc (contents a.frames) (f ∷ []) fs;
      back = later.back;
    }

loop-takes : (s : DomainState) (peer : ℕ) (ns : List ℕ) (ts : List Taken) (a b : Loop) → length ns ≡ length ts → LoopMoved a (taking s peer ns ts) b → Taking ts (gives (taking s peer ns ts)) a b
loop-takes s peer [] [] a b each moved = record { came = ap (λ (l : Loop). contents l.frames) (sym moved); given = omega (arith, ap (λ (l : Loop). length l.back) moved) }
loop-takes s peer [] (t ∷ ts) a b each moved = absurd (omega (arith, each))
loop-takes s peer (n ∷ ns) [] a b each moved = absurd (omega (arith, each))
loop-takes s peer (n ∷ ns) (t ∷ ts) a b each moved =
    let given = given_by_frame s peer (Some n) t.frame t.fate in
    let now = after_deed s (takes peer (Some n) t.frame t.fate) in
    let gave = loop-gave given (taking now peer ns ts) (loop_after a (receiver (Took n t.frame))) b moved.1 in
    let rest = loop-takes now peer ns ts gave.mid b (omega (arith, each)) gave.rest in
    record {
      came = first-came n t.frame a.frames moved.0.1 ∙ ap (λ (xs : List (List ℕ)). t.frame ∷ xs) (ap contents (sym gave.frames) ∙ rest.came);
      given = omega (arith, rest.given, gave.back, gives-giving given (taking now peer ns ts));
    }

pub own-visited : (s : DomainState) (v : Visit) (ns : List ℕ) (a b : Loop) → length ns ≡ length v.takes → LoopMoved a (visit_moves s v ns) b → OwnVisited (gives (visit_taking s v ns)) v (near_to (Own a)) (near_to (Own b))
own-visited s v ns a b each moved =
    let puts = loop-put v.owed (receiver (receiving.Looked v.see) ∷ visit_taking s v ns) (loop_after a (sender (Looked v.back))) b moved.1 in
    let looked = puts.rest in
    let took = loop-takes (before_takes s v) v.peer ns v.takes (loop_after puts.mid (receiver (receiving.Looked v.see))) b each looked.1 in
    record {
      was = record { back = refl; taken = refl };
      is = record { back = refl; taken = refl };
      back = moved.0;
      see = omega (arith, looked.0, length-map puts.mid.frames frame_in, ap length puts.put);
      came = sym puts.put ∙ took.came;
      given = omega (arith, took.given, ap length puts.back);
    }
