-- One step of the inside: at the peers, and in the parts.
use Rattle.std.proofs.Common.{◌≡◌, ℕ, zero, suc, ◌<◌, Bool, true, false, cond, List, [], ◌∷◌, ◌++◌, map, Option, Some, None, refl, sym, ap, ◌∙◌, subst, arith, eq-eqb, ne_eqb}
use Rattle.std.specs.Prelude.{slice_get, slice_set, option_map, ◌==◌}
use Rattle.std.specs.List.{AllByRecursion}
use Rattle.std.proofs.lemmas.Option.{slice_get-map}
use Rattle.mc_base.specs.declared.refusal.Refusal.{Refusal}
use Rattle.mc_base.specs.declared.request.RequestId.{RequestId}
use Rattle.board_model.specs.DomainCall.{DomainCall}
use Rattle.board_model.specs.Journal.{PlainAnswer, refuses}
use Rattle.board_model.specs.Answer.{refusal, success}
use Rattle.domain_parts.specs.LaneSeen.{LaneSeen, after_moves}
use Rattle.domain_parts.specs.declared.peer.Peer.{Peer}
use Rattle.domain_parts.specs.AllMoved.{AllMoved, ends_of, giving, numbers_of}
use Rattle.domain_parts.specs.GivingBack.{AreOut, AreOutAt, GivesBack}
use Rattle.domain_parts.specs.LaneMoves.{LaneMove}
use Rattle.board_model.specs.State as state
use Rattle.buffer_book.specs.Book.{Book}
use Rattle.endpoint_table.specs.Table as endpoint_table
use Rattle.request_set.specs.Requests.{Requests}
use Rattle.domain_parts.specs.Records.{Records}
use Rattle.domain_parts.specs.InBook.{open_parts}
use Rattle.domain_parts.specs.Table.{PartRead}
use Rattle.domain_parts.specs.Peers.{peer_in, peers_in, state_in}
use Rattle.domain_parts.specs.Sound.{AreRising, AreSound}
use Rattle.domain_parts.specs.CallSteps.{Acted, Acts, Succeeds}
use Rattle.domain_parts.specs.Parts.{Holding, Parts, Sound, holding_in, parts_in, peer_seen, peers_seen, plain, state_of}
use Rattle.domain_parts.specs.Steps.{Did, Step, all_moves, at_peer, book_after, done, done_all, moved_peer, names_told, peers_after, records_after, reply_owed, reply_put, requests_after, step_moves, table_after, with_names, with_reply, with_reply_put}
use Rattle.std.proofs.lemmas.List.{append-nil, append_assoc}
use Rattle.domain_parts.proofs.ChangedPeers.{changed-same, number-above}
use Rattle.domain_parts.proofs.Calling.{answer-done, answer-refused}
use Rattle.domain_parts.proofs.PeerPlaces.{peer-at}
use Rattle.domain_parts.proofs.Sending.{Outline, outline, same-sound}
use Rattle.domain_parts.proofs.Tables.{position-map}

-- ---- refusals and successes

module _ {L : Type 0} (M : L → List LaneMove → L → Type 0) (node : ℕ) (call : DomainCall) (old new : Holding L) where
  pub acts-refused : (word : Refusal) → refusal (state_of old.parts) node call ≡ Some word → new ≡ old → Acts M node call old new (refuses word) None
  acts-refused word e same = record {
    answer = answer-refused (state_of old.parts) node call word e;
    did = subst (λ (o : Option Refusal). Acted M o node call old new None) (sym e) (same, refl);
  }

  pub acts-done : (answered : PlainAnswer) (given : Option RequestId) → refusal (state_of old.parts) node call ≡ None → answered ≡ success (state_of old.parts) node call → Succeeds M node call old new given → Acts M node call old new answered given
  acts-done answered given e is done = record {
    answer = is ∙ sym (answer-done (state_of old.parts) node call e);
    did = subst (λ (o : Option Refusal). Acted M o node call old new given) (sym e) done;
  }

-- ---- moves at one peer

moved-at : (d : ℕ) (ms : List LaneMove) (p : Peer LaneSeen) (b : Bool) → (d == p.number) ≡ b → moved_peer (at_peer d ms) p ≡ record p { ends = after_moves (cond b ms []) p.ends }
moved-at d ms p b e = ap (λ (x : Bool). record p { ends = after_moves (cond x ms []) p.ends }) e

others-stay : (d : ℕ) (ms : List LaneMove) (ps : List (Peer LaneSeen)) → AllByRecursion (λ n. d < n) (numbers_of ps) → ps ≡ map (moved_peer (at_peer d ms)) ps
others-stay d ms [] above = refl
others-stay d ms (p ∷ ps) above =
    let here = moved-at d ms p false (ne_eqb d p.number (λ e. let lt = above.0 in omega (arith, lt, e))) in
    let rest = others-stay d ms ps above.1 in
    cc

pub set-is-map : (d : ℕ) (ms : List LaneMove) (ps : List (Peer LaneSeen)) (i : ℕ) (p : Peer LaneSeen) → AreRising (numbers_of ps) → slice_get ps i ≡ Some p → p.number ≡ d → slice_set ps i (record p { ends = after_moves ms p.ends }) ≡ map (moved_peer (at_peer d ms)) ps
set-is-map d ms [] i p rising there is = absurd cc
set-is-map d ms (x ∷ ps) zero p rising there is =
    let same : x ≡ p = cc in
    let number : x.number ≡ d = ap (λ (y : Peer LaneSeen). y.number) same ∙ is in
    let here = moved-at d ms x true (eq-eqb d x.number (sym number)) in
    let back : record p { ends = after_moves ms p.ends } ≡ record x { ends = after_moves ms x.ends } = ap (λ (y : Peer LaneSeen). record y { ends = after_moves ms y.ends }) (sym same) in
    let rest = others-stay d ms ps (subst (λ (n : ℕ). AllByRecursion (λ m. n < m) (numbers_of ps)) number rising.0) in
    cc
set-is-map d ms (x ∷ ps) (suc i) p rising there is =
    let above = number-above x.number ps i p rising.0 there in
    let here = moved-at d ms x false (ne_eqb d x.number (λ e. omega (arith, above, is, e))) in
    let rest = set-is-map d ms ps i p rising.1 there is in
    cc

module _ {L : Type 0} (v : L → LaneSeen) where
  pub seen-set : (ps : List (Peer L)) (i : ℕ) (q : Peer L) → peers_seen v (slice_set ps i q) ≡ slice_set (peers_seen v ps) i (peer_seen v q)
  seen-set [] i q = refl
  seen-set (p ∷ ps) zero q = refl
  seen-set (p ∷ ps) (suc i) q = ap (λ xs. peer_seen v p ∷ xs) (seen-set ps i q)

  seen-numbers : (ps : List (Peer L)) → numbers_of (peers_seen v ps) ≡ numbers_of ps
  seen-numbers [] = refl
  seen-numbers (p ∷ ps) = ap (λ ns. p.number ∷ ns) (seen-numbers ps)

  -- the state is that of what is seen
  peers-seen : (os : List PartRead) (t : endpoint_table.Table) (ps : List (Peer L)) → peers_in plain os t (peers_seen v ps) ≡ peers_in v os t ps
  peers-seen os t [] = refl
  peers-seen os t (p ∷ ps) = ap (λ xs. peer_in v os t p ∷ xs) (peers-seen os t ps)

  pub state-seen : (b : Book) (r : Records) (q : Requests) (t : endpoint_table.Table) (ps : List (Peer L)) → state_in v b r q t ps ≡ state_of (parts_in v b r q t ps)
  state-seen b r q t ps = ap (λ (xs : List state.Peer). record (state_in v b r q t ps) { peers = xs }) (sym (peers-seen (open_parts b r.parts) t ps))

  -- they keep what they must as they are seen, and so they do
  outlines : (ps : List (Peer L)) → map (outline plain) (peers_seen v ps) ≡ map (outline v) ps
  outlines [] = refl
  outlines (p ∷ ps) = ap (λ (os : List Outline). outline v p ∷ os) (outlines ps)

  pub sound-seen : (b : Book) (r : Records) (q : Requests) (t : endpoint_table.Table) (ps : List (Peer L)) → AreSound v b r q t ps → Sound (parts_in v b r q t ps)
  sound-seen b r q t ps = same-sound v plain b r q t ps (peers_seen v ps) (outlines ps)

  pub sound-unseen : (b : Book) (r : Records) (q : Requests) (t : endpoint_table.Table) (ps : List (Peer L)) → Sound (parts_in v b r q t ps) → AreSound v b r q t ps
  sound-unseen b r q t ps = same-sound plain v b r q t (peers_seen v ps) ps (sym (outlines ps))

  -- what is out where it is seen is out
  pub out-unseen : (number : ℕ) (fs : List ℕ) (ps : List (Peer L)) → AreOutAt plain number fs (peers_seen v ps) → AreOutAt v number fs ps
  out-unseen number fs ps out =
      let first = position-map (peer_seen v) (λ p. p.number == number) ps ∙ out.first in
      let at = peer-at ps number out.place (sym first) in
      let is : out.peer ≡ peer_seen v at.0 = let e = sym out.there ∙ slice_get-map (peer_seen v) ps out.place ∙ ap (option_map (peer_seen v)) at.1 in cc in
      record { place = out.place; peer = at.0; first = first; there = at.1; is = at.2; out = subst (λ (x : Peer LaneSeen). AreOut x.ends.out fs) is out.out }

  -- one peer's ends were moved
  module _ (M : L → List LaneMove → L → Type 0) (m-none : (l : L) → M l [] l) (d : ℕ) (ms : List LaneMove) where
    pub one-seen : (ps : List (Peer L)) (i : ℕ) (p : Peer L) (e : L) → AreRising (numbers_of (peers_seen v ps)) → slice_get ps i ≡ Some p → p.number ≡ d → v e ≡ after_moves ms (v p.ends)
        → peers_seen v (slice_set ps i (record p { ends = e })) ≡ map (moved_peer (at_peer d ms)) (peers_seen v ps)
    one-seen ps i p e rising there is seen =
        seen-set ps i (record p { ends = e })
        ∙ ap (λ (l : LaneSeen). slice_set (peers_seen v ps) i (record (peer_seen v p) { ends = l })) seen
        ∙ set-is-map d ms (peers_seen v ps) i (peer_seen v p) rising (slice_get-map (peer_seen v) ps i ∙ ap (option_map (peer_seen v)) there) is

    stay-moved : (ps : List (Peer L)) → AllByRecursion (λ n. d < n) (numbers_of (peers_seen v ps)) → AllMoved M (ends_of ps) (map (at_peer d ms) (numbers_of (peers_seen v ps))) (ends_of ps)
    stay-moved [] above = tt
    stay-moved (p ∷ ps) above = (subst (λ (b : Bool). M p.ends (cond b ms []) p.ends) (sym (ne_eqb d p.number (λ e. let lt = above.0 in omega (arith, lt, e)))) (m-none p.ends), stay-moved ps above.1)

    pub one-moved : (ps : List (Peer L)) (i : ℕ) (p : Peer L) (e : L) → AreRising (numbers_of (peers_seen v ps)) → slice_get ps i ≡ Some p → p.number ≡ d → M p.ends ms e
        → AllMoved M (ends_of ps) (map (at_peer d ms) (numbers_of (peers_seen v ps))) (ends_of (slice_set ps i (record p { ends = e })))
    one-moved [] i p e rising there is moved = absurd cc
    one-moved (x ∷ ps) zero p e rising there is moved =
        let same : x ≡ p = cc in
        let number : x.number ≡ d = ap (λ (y : Peer L). y.number) same ∙ is in
        (subst (λ (b : Bool). M x.ends (cond b ms []) e) (sym (eq-eqb d x.number (sym number))) (subst (λ (y : Peer L). M y.ends ms e) (sym same) moved), stay-moved ps (subst (λ (n : ℕ). AllByRecursion (λ m. n < m) (numbers_of (peers_seen v ps))) number rising.0))
    one-moved (x ∷ ps) (suc i) p e rising there is moved =
        let seen = slice_get-map (peer_seen v) ps i ∙ ap (option_map (peer_seen v)) there in
        let above = number-above x.number (peers_seen v ps) i (peer_seen v p) rising.0 seen in
        (subst (λ (b : Bool). M x.ends (cond b ms []) x.ends) (sym (ne_eqb d x.number (λ e. omega (arith, above, is, e)))) (m-none x.ends), one-moved ps i p e rising.1 there is moved)

  -- buffers were given back
  module _ (M : L → List LaneMove → L → Type 0) (m-none : (l : L) → M l [] l) (number : ℕ) (fs : List ℕ) (ps ps' : List (Peer L)) (rising : AreRising (numbers_of (peers_seen v ps))) (gives : GivesBack M v number fs ps ps') where
    abbrev back : List LaneMove
    back = giving fs

    pub given-seen : peers_seen v ps' ≡ map (moved_peer (at_peer number back)) (peers_seen v ps)
    given-seen = ap (peers_seen v) gives.after ∙ one-seen M m-none number back ps gives.place gives.peer gives.ends rising gives.there gives.is gives.seen

    pub given-moved : AllMoved M (ends_of ps) (map (at_peer number back) (numbers_of (peers_seen v ps))) (ends_of ps')
    given-moved = subst (λ (xs : List (Peer L)). AllMoved M (ends_of ps) (map (at_peer number back) (numbers_of (peers_seen v ps))) (ends_of xs)) (sym gives.after) (one-moved M m-none number back ps gives.place gives.peer gives.ends rising gives.there gives.is gives.moved)

    -- a step that took its item out of the book and the records
    module _ (b b' : Book) (r r' : Records) (q : Requests) (t : endpoint_table.Table) (c : Step) (books : b' ≡ book_after c b) (records : r' ≡ records_after c r) (requests : q ≡ requests_after c q) (table : t ≡ table_after c t) (moves : step_moves c ≡ at_peer number back) (moved : (xs : List (Peer LaneSeen)) → peers_after c xs ≡ map (moved_peer (step_moves c)) xs) where
      pub dropped-parts : parts_in v b' r' q t ps' ≡ done c (parts_in v b r q t ps)
      dropped-parts = let peers = given-seen ∙ ap (λ (m : ℕ → List LaneMove). map (moved_peer m) (peers_seen v ps)) (sym moves) ∙ sym (moved (peers_seen v ps)) in cc

      pub dropped-did : Did M (c ∷ []) (holding_in v b r q t ps) (holding_in v b' r' q t ps')
      dropped-did = record { parts = dropped-parts; moved = subst (λ (m : ℕ → List LaneMove). AllMoved M (ends_of ps) (map m (numbers_of (peers_seen v ps))) (ends_of ps')) (sym moves) given-moved }

-- ---- steps after steps

moved-then : {L : Type 0} (M : L → List LaneMove → L → Type 0) → ((a b c : L) (xs ys : List LaneMove) → M a xs b → M b ys c → M a (xs ++ ys) c) → (f g h : ℕ → List LaneMove) → ((n : ℕ) → h n ≡ f n ++ g n) → (ns : List ℕ) (xs bs cs : List L)
    → AllMoved M xs (map f ns) bs → AllMoved M bs (map g ns) cs → AllMoved M xs (map h ns) cs
moved-then M both f g h is [] [] [] [] first then = tt
moved-then M both f g h is [] [] [] (c ∷ cs) first then = absurd then
moved-then M both f g h is [] [] (b ∷ bs) cs first then = absurd first
moved-then M both f g h is [] (a ∷ xs) bs cs first then = absurd first
moved-then M both f g h is (n ∷ ns) [] bs cs first then = absurd first
moved-then M both f g h is (n ∷ ns) (a ∷ xs) [] cs first then = absurd first
moved-then M both f g h is (n ∷ ns) (a ∷ xs) (b ∷ bs) [] first then = absurd then
moved-then M both f g h is (n ∷ ns) (a ∷ xs) (b ∷ bs) (c ∷ cs) first then = (subst (λ (ms : List LaneMove). M a ms c) (sym (is n)) (both a b c (f n) (g n) first.0 then.0), moved-then M both f g h is ns xs bs cs first.1 then.1)

pub moves-append : (xs ys : List Step) (n : ℕ) → all_moves (xs ++ ys) n ≡ all_moves xs n ++ all_moves ys n
moves-append [] ys n = refl
moves-append (c ∷ []) [] n = sym (append-nil (step_moves c n))
moves-append (c ∷ []) (d ∷ ys) n = refl
moves-append (c ∷ (d ∷ xs)) ys n = ap (λ ms. step_moves c n ++ ms) (moves-append (d ∷ xs) ys n) ∙ sym (append_assoc (step_moves c n) (all_moves (d ∷ xs) n) (all_moves ys n))

pub done-append : (xs ys : List Step) (p : Parts) → done_all (xs ++ ys) p ≡ done_all ys (done_all xs p)
done-append [] ys p = refl
done-append (c ∷ xs) ys p = done-append xs ys (done c p)

pub moved-numbers : (moves : ℕ → List LaneMove) (ps : List (Peer LaneSeen)) → numbers_of (map (moved_peer moves) ps) ≡ numbers_of ps
moved-numbers moves [] = refl
moved-numbers moves (p ∷ ps) = ap (λ ns. p.number ∷ ns) (moved-numbers moves ps)

pub step-numbers : (c : Step) (ps : List (Peer LaneSeen)) → numbers_of (peers_after c ps) ≡ numbers_of ps
step-numbers (names_told peer names) ps = changed-same peer (with_names names) (λ p. p.number) (λ p. refl) ps
step-numbers (reply_owed peer r) ps = changed-same peer (with_reply r) (λ p. p.number) (λ p. refl) ps
step-numbers (reply_put peer frame) ps = changed-same peer (with_reply_put frame) (λ p. p.number) (λ p. refl) ps
step-numbers other ps = moved-numbers (step_moves other) ps

pub done-numbers : (cs : List Step) (p : Parts) → numbers_of (done_all cs p).peers ≡ numbers_of p.peers
done-numbers [] p = refl
done-numbers (c ∷ cs) p = done-numbers cs (done c p) ∙ step-numbers c p.peers

module _ {L : Type 0} (M : L → List LaneMove → L → Type 0) where
  pub did-then : ((a b c : L) (xs ys : List LaneMove) → M a xs b → M b ys c → M a (xs ++ ys) c) → (xs ys : List Step) (a b c : Holding L) → Did M xs a b → Did M ys b c → Did M (xs ++ ys) a c
  did-then both xs ys a b c first then =
      let numbers : numbers_of b.parts.peers ≡ numbers_of a.parts.peers = ap (λ (p : Parts). numbers_of p.peers) first.parts ∙ done-numbers xs a.parts in
      record {
        parts = then.parts ∙ ap (done_all ys) first.parts ∙ sym (done-append xs ys a.parts);
        moved = moved-then M both (all_moves xs) (all_moves ys) (all_moves (xs ++ ys)) (moves-append xs ys) (numbers_of a.parts.peers) a.ends b.ends c.ends first.moved (subst (λ (ns : List ℕ). AllMoved M b.ends (map (all_moves ys) ns) c.ends) numbers then.moved);
      }

  none-moved : ((l : L) → M l [] l) → (v : L → LaneSeen) (ps : List (Peer L)) → AllMoved M (ends_of ps) (map (all_moves []) (numbers_of (peers_seen v ps))) (ends_of ps)
  none-moved none v [] = tt
  none-moved none v (p ∷ ps) = (none p.ends, none-moved none v ps)

  pub did-none : ((l : L) → M l [] l) → (v : L → LaneSeen) (b : Book) (r : Records) (q : Requests) (t : endpoint_table.Table) (ps : List (Peer L)) → Did M [] (holding_in v b r q t ps) (holding_in v b r q t ps)
  did-none none v b r q t ps = record { parts = refl; moved = none-moved none v ps }

-- ---- a step with no move

pub quiet-peers : (ps : List (Peer LaneSeen)) → map (moved_peer (λ n. [])) ps ≡ ps
quiet-peers [] = refl
quiet-peers (p ∷ ps) = ap (λ xs. p ∷ xs) (quiet-peers ps)

pub quiet-moved : {L : Type 0} (M : L → List LaneMove → L → Type 0) → ((l : L) → M l [] l) → (v : L → LaneSeen) (ps : List (Peer L)) → AllMoved M (ends_of ps) (map (λ n. []) (numbers_of (peers_seen v ps))) (ends_of ps)
quiet-moved M none v [] = tt
quiet-moved M none v (p ∷ ps) = (none p.ends, quiet-moved M none v ps)

-- ---- buffers given back, where it is seen

abbrev pub Any : LaneSeen → List LaneMove → LaneSeen → Type 0
Any a ms b = Unit {0}

pub gives-seen : (number : ℕ) (fs : List ℕ) (ps : List (Peer LaneSeen)) → AreRising (numbers_of ps) → AreOutAt plain number fs ps → GivesBack Any plain number fs ps (map (moved_peer (at_peer number (giving fs))) ps)
gives-seen number fs ps rising out =
    let ms = giving fs in
    record {
      place = out.place;
      peer = out.peer;
      ends = after_moves ms out.peer.ends;
      there = out.there;
      is = out.is;
      after = sym (set-is-map number ms ps out.place out.peer rising out.there out.is);
      moved = tt;
      seen = refl;
    }
