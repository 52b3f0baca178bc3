-- Frames that a domain takes: each buffer stays with an item that is held, or is given back; of peers, the frames that are shown are
-- fewer, and names are known.
use Rattle.std.proofs.Common.{◌≡◌, ℕ, ◌+◌, ◌-◌, Bool, true, false, not, cond, List, [], ◌∷◌, ◌++◌, length, map, find, filter, Option, Some, None, sum_by, flat_map, option_map, is_some, length-append, eqb-true, refl, sym, ap, ap₂, ◌∙◌, subst, arith}
use Rattle.std.specs.Prelude.{is_none, unwrap_or, ◌==◌, ◌&&◌}
use Rattle.std.specs.List.{AllByRecursion}
use Rattle.std.proofs.lemmas.Bool.{and_parts}
use Rattle.std.proofs.lemmas.List.Sums.{sum_by-cons, sum_by-append}
use Rattle.mc_base.specs.Letter.{PlainLetter, accept, reject, send_close, carried, Piece}
use Rattle.mc_base.specs.Reading.{Reading, is_faulty, announces, says, brings, reading}
use Rattle.mc_base.specs.declared.name.Local.{Local}
use Rattle.mc_base.specs.declared.name.EndName.{EndName}
use Rattle.mc_base.specs.declared.fate.Fate.{Fate}
use Rattle.mc_base.specs.declared.fate.Fate.TheVariants as fate
use Rattle.board_model.specs.DomainCall.{DomainCall}
use Rattle.board_model.specs.CallChanges.{call_changes, effect}
use Rattle.board_model.specs.Parts.{Came, Coming, coming_so, grown, alone, begins, begun, with_piece, goes_on, coming, part_of, coming_from, said_from, came_from, names_before, names_ended, named_so, held_if, held_by}
use Rattle.board_model.specs.Returns.{names_given, given_by_frame, given_at_once}
use Rattle.board_model.specs.Turn.{takes_named}
use Rattle.mc_base.specs.declared.refusal.Refusal.{Refusal}
use Rattle.mc_base.specs.declared.refusal.Refusal.TheVariants.{ChanClosed}
use Rattle.board_model.specs.Lists.{changed_first}
use Rattle.board_model.specs.Journal.{Taken}
use Rattle.board_model.specs.State.{DomainState, ChannelEnd, Endpoint, Item, Peer, Reply, Asked, Request, Outcome, has_address, is_accepted, is_rejected, has_item, has_ended, item_in, queued_items, lent_items, has_address_of, endpoint_of, receives_at, waits_at, one_waits, peer_at, Part, HeldFrame, holds_from, held_of, is_from, frames_from, held_from}
use Rattle.board_model.specs.Change.{Change, held_as, channel_set, item_queued, item_handed, waiting_ended, name_found, connect_settled, reply_owed, names_known, frame_taken, with_queue, with_channel, asks_for, connects_on, done_with, all_done, handed_in, ended_in, changed, changed_all}
use Rattle.board_model.specs.ChannelEnds.{accepted_end}
use Rattle.board_model.specs.Dealing.{keeps_buffer}
use Rattle.board_model.specs.TakenFrames.{Row, row, last_row, first_row, item_of, acting, row_of, row_from}
use Rattle.board_model.specs.Deeds.{Deed, takes, taken_change, after_deed, after_deeds, AllMayDo, along}
use Rattle.board_model.proofs.ListsCounts.{one_if}
use Rattle.mc_base.specs.NameMap.{Names}
use Rattle.board_model.proofs.ListsMapped.{any-found}
use Rattle.board_model.proofs.MessageAlls.{found-passes}
use Rattle.board_model.proofs.LanePeers.{read_of, Keeps, read-all, cond-keeps, peer-changed}
use Rattle.board_model.proofs.LaneRows.{Deals, stays, strays, awaits, learns, forgets, hands, queues, loses, rejects, accepts, acts, acting-all, row-deals, item-peer, item-frames}
use Rattle.board_model.proofs.PartRuns.{IsNoTake, calls_so, row_so}
use Rattle.board_model.proofs.VisitLooks.{after_takes}

-- ---- items that are held

-- what the held items count for
abbrev pub held : (Item → ℕ) → DomainState → ℕ
held w s = sum_by w (queued_items s) + sum_by w (lent_items s)

-- of the first that passes, what it counts for changes
pub sum-first : {E I : Type 0} (w : I → ℕ) (q : E → List I) (p : E → Bool) (f : E → E) (a b : ℕ) (e : E) (es : List E) → find p es ≡ Some e → sum_by w (q (f e)) + b ≡ sum_by w (q e) + a → sum_by w (flat_map q (changed_first p f es)) + b ≡ sum_by w (flat_map q es) + a
sum-first w q p f a b e [] found here = absurd cc
sum-first {E = E} w q p f a b e (x ∷ es) found here = go (p x) found (λ later. sum-first w q p f a b e es later here)
  where
    go : (c : Bool) → cond c (Some x) (find p es) ≡ Some e → (find p es ≡ Some e → sum_by w (flat_map q (changed_first p f es)) + b ≡ sum_by w (flat_map q es) + a) → sum_by w (flat_map q (cond c (f x ∷ es) (x ∷ changed_first p f es))) + b ≡ sum_by w (flat_map q (x ∷ es)) + a
    go true is later =
        let same : x ≡ e = cc in
        omega (arith, sum_by-append w (q (f x)) (flat_map q es), sum_by-append w (q x) (flat_map q es), here, ap (λ y. sum_by w (q y)) same, ap (λ y. sum_by w (q (f y))) same)
    go false is later = omega (arith, sum_by-append w (q x) (flat_map q (changed_first p f es)), sum_by-append w (q x) (flat_map q es), later is)

-- a pending request holds nothing
pub pending_holds : (o : Option Outcome) → is_none o ≡ true → item_in o ≡ []
pending_holds None e = refl
pending_holds (Some x) e = absurd cc

-- the items that requests hold
abbrev pub asked_items : List Request → List Item
asked_items rs = flat_map (λ r. item_in r.outcome) rs

pub lent_counts : (w : Item → ℕ) (s : DomainState) → sum_by w (lent_items s) ≡ sum_by w (map (λ p. p.item) s.lent) + sum_by w (asked_items s.requests)
lent_counts w s = sum_by-append w (map (λ p. p.item) s.lent) (asked_items s.requests)

-- one that waits is pending
pub waits-pending : (at : Local) (r : Request) → waits_at at r ≡ true → is_none r.outcome ≡ true
waits-pending at r waits = (and_parts (is_none r.outcome) (receives_at at r.asked) waits).0

-- a request that may be complete without an item holds what it held
pub same_asked : (f : Request → Request) → ((r : Request) → item_in (f r).outcome ≡ item_in r.outcome) → (rs : List Request) → asked_items (map f rs) ≡ asked_items rs
same_asked f same [] = refl
same_asked f same (r ∷ rs) = ap₂ (λ (xs ys : List Item). xs ++ ys) (same r) (same_asked f same rs)

-- a request is complete with nothing that is held
done_holds : (asks : Asked → Bool) (o : Outcome) → item_in (Some o) ≡ [] → (r : Request) → item_in (all_done asks o r).outcome ≡ item_in r.outcome
done_holds asks o none r = go (is_none r.outcome && asks r.asked) refl
  where
    go : (b : Bool) → (is_none r.outcome && asks r.asked) ≡ b → item_in (cond b (done_with o r) r).outcome ≡ item_in r.outcome
    go true looks = none ∙ sym (pending_holds r.outcome (and_parts (is_none r.outcome) (asks r.asked) looks).0)
    go false looks = refl

done_asked : (asks : Asked → Bool) (o : Outcome) → item_in (Some o) ≡ [] → (rs : List Request) → asked_items (map (all_done asks o) rs) ≡ asked_items rs
done_asked asks o none rs = same_asked (all_done asks o) (done_holds asks o none) rs

pub found_asked : (n : EndName) (address : ℕ) (rs : List Request) → asked_items (map (all_done (asks_for n) (has_address address)) rs) ≡ asked_items rs
found_asked n address rs = done_asked (asks_for n) (has_address address) refl rs

-- a receive that waits there holds nothing
ended_holds : (r : Refusal) (at : Local) (x : Request) → item_in (cond (waits_at at x) (done_with (has_ended r) x) x).outcome ≡ item_in x.outcome
ended_holds r at x = go (waits_at at x) refl
  where
    go : (b : Bool) → waits_at at x ≡ b → item_in (cond b (done_with (has_ended r) x) x).outcome ≡ item_in x.outcome
    go true waits = sym (pending_holds x.outcome (waits-pending at x waits))
    go false waits = refl

pub ended_asked : (o : Option Endpoint) (word : Refusal) (rs : List Request) → asked_items (ended_in o word rs) ≡ asked_items rs
ended_asked None word rs = refl
ended_asked (Some e) word rs = same_asked (λ x. cond (waits_at e.local x) (done_with (has_ended word) x) x) (ended_holds word e.local) rs

-- what is queued stays where channels change
kept_queues : (p : Endpoint → Bool) (f : Endpoint → Endpoint) → ((e : Endpoint) → (f e).queue ≡ e.queue) → (es : List Endpoint) → flat_map (λ e. e.queue) (changed_first p f es) ≡ flat_map (λ e. e.queue) es
kept_queues p f same [] = refl
kept_queues p f same (e ∷ es) = go (p e) (kept_queues p f same es)
  where
    go : (b : Bool) → flat_map (λ x. x.queue) (changed_first p f es) ≡ flat_map (λ x. x.queue) es → flat_map (λ x. x.queue) (cond b (f e ∷ es) (e ∷ changed_first p f es)) ≡ flat_map (λ x. x.queue) (e ∷ es)
    go true rest = ap (λ q. q ++ flat_map (λ x. x.queue) es) (same e)
    go false rest = ap (λ q. e.queue ++ q) rest

-- ---- a frame

module _ (w : Item → ℕ) (s : DomainState) where
  item_queued_holds : (at : ℕ) (i : Item) (e : Endpoint) → endpoint_of s at ≡ Some e → held w (changed s (item_queued at i)) ≡ held w s + w i
  item_queued_holds at i e found =
      let more = sum-first w (λ (x : Endpoint). x.queue) (has_address_of at) (with_queue (λ q. q ++ i ∷ [])) (w i) 0 e s.endpoints found (omega (arith, sum_by-append w e.queue (i ∷ []), sum_by-cons w i [])) in
      omega (arith, more)

  waiter : (at : Local) → one_waits s at ≡ true → (r : Request) × (find (waits_at at) s.requests ≡ Some r)
  waiter at waits = go (find (waits_at at) s.requests) (sym (any-found (waits_at at) s.requests) ∙ waits)
    where
      go : (o : Option Request) → is_some o ≡ true → (r : Request) × (o ≡ Some r)
      go None some = absurd cc
      go (Some r) some = (r, refl)

  item_handed_holds : (at : ℕ) (i : Item) (e : Endpoint) → endpoint_of s at ≡ Some e → one_waits s e.local ≡ true → held w (changed s (item_handed at i)) ≡ held w s + w i
  item_handed_holds at i e found waits =
      let t = waiter e.local waits in
      let none : item_in t.0.outcome ≡ [] = pending_holds t.0.outcome (waits-pending e.local t.0 (found-passes (waits_at e.local) s.requests t.0 t.1)) in
      let more = sum-first w (λ (r : Request). item_in r.outcome) (waits_at e.local) (done_with (has_item i)) (w i) 0 t.0 s.requests t.1 (omega (arith, sum_by-cons w i [], ap (sum_by w) none)) in
      omega (arith, more, lent_counts w s, lent_counts w (changed s (item_handed at i)), ap (λ o. sum_by w (asked_items (handed_in o i s.requests))) found)

  name_found_holds : (n : EndName) (a : ℕ) → held w (changed s (name_found n a)) ≡ held w s
  name_found_holds n a = omega (arith, lent_counts w s, lent_counts w (changed s (name_found n a)), ap (sum_by w) (found_asked n a s.requests))

  settled_holds : (n : ℕ) (o : Outcome) → item_in (Some o) ≡ [] → held w (changed s (connect_settled n o)) ≡ held w s
  settled_holds n o none = omega (arith, lent_counts w s, lent_counts w (changed s (connect_settled n o)), ap (sum_by w) (done_asked (connects_on n) o none s.requests))

  pub ended-holds : (a : ℕ) (word : Refusal) → held w (changed s (waiting_ended a word)) ≡ held w s
  ended-holds a word = omega (arith, lent_counts w s, lent_counts w (changed s (waiting_ended a word)), ap (sum_by w) (ended_asked (endpoint_of s a) word s.requests))

  pub set-holds : (a : ℕ) (c : Option ChannelEnd) → held w (changed s (channel_set a c)) ≡ held w s
  set-holds a c = ap (λ q. sum_by w q + sum_by w (lent_items s)) (kept_queues (has_address_of a) (with_channel c) (λ e. refl) s.endpoints)

-- what a letter does at a channel changes nothing that is held
acting_holds : (w : Item → ℕ) (s : DomainState) (at : ℕ) (left : Option ChannelEnd) (l : PlainLetter) → held w (changed_all s (acting at left l)) ≡ held w s
acting_holds w s at left (accept number) = settled_holds w (changed s (channel_set at left)) number is_accepted refl ∙ set-holds w s at left
acting_holds w s at left (reject number why) = settled_holds w (changed s (channel_set at left)) number (is_rejected why) refl ∙ set-holds w s at left
acting_holds w s at left (send_close number) = set-holds w (changed s (waiting_ended at ChanClosed)) at left ∙ ended-holds w s at ChanClosed
acting_holds w s at left other = set-holds w s at left

-- ---- what a frame brings

-- what its buffers count for where they are given back, and where they stay
abbrev given_of : ℕ → Fate → ℕ
given_of k f = cond (keeps_buffer f) 0 k

-- what each item of the peer counts for
abbrev CountFor : (Item → ℕ) → ℕ → Came → ℕ → Type 0
CountFor w peer c k = (source : ℕ) (l : PlainLetter) → w (item_of peer c source l) ≡ k

-- where no part is open after it
module _ (w : Item → ℕ) (k : ℕ) (s : DomainState) (peer : ℕ) (c : Came) (frame : Reading) (r : Row) (whole : is_none c.part ≡ true) (counts : CountFor w peer c k) where
  abbrev u : DomainState
  u = changed s (taken_change peer c)

  -- where nothing comes, the buffers are given back
  none_comes : held w (changed_all u r.happens) ≡ held w s → keeps_buffer r.word ≡ false → held w (changed_all u r.happens) + given_of k r.word ≡ held w s + k
  none_comes same gives = omega (arith, same, ap (λ b. cond b 0 k) gives)

  one_comes : held w (changed_all u r.happens) ≡ held w s + k → keeps_buffer r.word ≡ true → held w (changed_all u r.happens) + given_of k r.word ≡ held w s + k
  one_comes more keeps = omega (arith, more, ap (λ b. cond b 0 k) keeps)

  row_counts : Deals s peer c frame r → held w (changed_all u r.happens) + given_of k r.word ≡ held w s + k
  row_counts (stays is gives) = none_comes (ap (λ cs. held w (changed_all u cs)) is) gives
  row_counts (strays source at q told none is word) = none_comes (ap (λ cs. held w (changed_all u cs)) is) (ap keeps_buffer word)
  row_counts (awaits source at q told some is word) = let clash : false ≡ true = sym some ∙ whole in absurd cc
  row_counts (learns text n a names told named is gives) = none_comes (ap (λ cs. held w (changed_all u cs)) is ∙ name_found_holds w (changed u (names_known peer names)) n a) gives
  row_counts (forgets text n a names told named is gives) = none_comes (ap (λ cs. held w (changed_all u cs)) is) gives
  row_counts (hands source at l e told found carried waits is word) =
      one_comes (ap (λ cs. held w (changed_all u cs)) is ∙ (item_handed_holds w u at (item_of peer c source l) e found waits ∙ ap (λ m. held w s + m) (counts source l))) (ap keeps_buffer word)
  row_counts (queues source at l e told found carried none is word) =
      one_comes (ap (λ cs. held w (changed_all u cs)) is ∙ (item_queued_holds w u at (item_of peer c source l) e found ∙ ap (λ m. held w s + m) (counts source l))) (ap keeps_buffer word)
  row_counts (loses source at l e told found late is word) = none_comes (ap (λ cs. held w (changed_all u cs)) is) (ap keeps_buffer word)
  row_counts (rejects source at number kind why told is gives) = none_comes (ap (λ cs. held w (changed_all u cs)) is) gives
  row_counts (accepts source at number kind e told found none free is gives) = none_comes (ap (λ cs. held w (changed_all u cs)) is ∙ set-holds w u at (Some (accepted_end kind peer number peer source))) gives
  row_counts (acts source at l e c left told found has row is gives) = none_comes (ap (λ cs. held w (changed_all u cs)) is ∙ acting_holds w u at left l) gives

-- where one is open, the frame brought a piece
abbrev pub Brings : Reading → Type 0
Brings r = (a : ℕ) × (b : ℕ) × (q : Piece) × (r ≡ brings a b q)

abbrev OpenBrings : Coming → Type 0
OpenBrings c = is_none c.part ≡ false → Brings c.reading

grown_brings : (joins : Bool) (p : Part) (q : Piece) → OpenBrings (grown joins p q)
grown_brings joins p q = go (length (p.content ++ q.content) == p.total)
  where
    go : (b : Bool) → OpenBrings (cond b (coming_so (says p.source p.destination (carried p.carrier (p.content ++ q.content))) None joins) (coming_so (brings p.source p.destination q) (Some (with_piece p q)) joins))
    go true is = absurd cc
    go false is = (p.source, p.destination, q, refl)

alone_brings : (a b : ℕ) (q : Piece) → OpenBrings (alone a b q)
alone_brings a b q = go (begins q)
  where
    go : (x : Bool) → OpenBrings (cond x (grown false (begun a b q) q) (coming_so (brings a b q) None false))
    go true is = grown_brings false (begun a b q) q is
    go false is = absurd cc

coming_brings : (o : Option Part) (r : Reading) → OpenBrings (coming o r)
coming_brings None (brings a b q) is = alone_brings a b q is
coming_brings (Some p) (brings a b q) is = go (goes_on p a b q) is
  where
    go : (x : Bool) → OpenBrings (cond x (grown true p q) (alone a b q))
    go true is = grown_brings true p q is
    go false is = alone_brings a b q is
coming_brings o (is_faulty f) is = absurd cc
coming_brings o (announces text address there) is = absurd cc
coming_brings o (says a b l) is = absurd cc

pub part_word : (s : DomainState) (peer : ℕ) (c : Came) (r : Reading) → is_none c.part ≡ false → Brings r → (row_of s peer c r).word ≡ fate.Part
part_word s peer c r is it = ap (λ x. (row_of s peer c x).word) it.3 ∙ go (is_none c.part) is
  where
    go : (x : Bool) → x ≡ false → (first_row (row x fate.Stray [] ∷ last_row fate.Part [])).word ≡ fate.Part
    go true e = absurd cc
    go false e = refl

pub stray_word : (s : DomainState) (peer : ℕ) (c : Came) (r : Reading) → is_none c.part ≡ true → Brings r → (row_of s peer c r).word ≡ fate.Stray
stray_word s peer c r is it = ap (λ x. (row_of s peer c x).word) it.3 ∙ go (is_none c.part) is
  where
    go : (x : Bool) → x ≡ true → (first_row (row x fate.Stray [] ∷ last_row fate.Part [])).word ≡ fate.Stray
    go true e = refl
    go false e = absurd cc

part_happens : (s : DomainState) (peer : ℕ) (c : Came) (r : Reading) → is_none c.part ≡ false → Brings r → (row_of s peer c r).happens ≡ []
part_happens s peer c r is it = ap (λ x. (row_of s peer c x).happens) it.3 ∙ go (is_none c.part) is
  where
    go : (x : Bool) → x ≡ false → (first_row (row x fate.Stray [] ∷ last_row fate.Part [])).happens ≡ []
    go true e = absurd cc
    go false e = refl

-- ---- frames in open parts

-- how many of the held frames are of a peer
abbrev number : ℕ → List HeldFrame → ℕ
number n hs = length (map (λ h. h.name) (filter (holds_from n) hs))

number-cons : (n : ℕ) (h : HeldFrame) (hs : List HeldFrame) → number n (h ∷ hs) ≡ one_if (h.peer == n) + number n hs
number-cons n h hs = go (h.peer == n)
  where
    go : (b : Bool) → length (map (λ x. x.name) (cond b (h ∷ filter (holds_from n) hs) (filter (holds_from n) hs))) ≡ one_if b + number n hs
    go true = omega arith
    go false = omega arith

number-append : (n : ℕ) (xs ys : List HeldFrame) → number n (xs ++ ys) ≡ number n xs + number n ys
number-append n [] ys = omega arith
number-append n (x ∷ xs) ys = omega (arith, number-cons n x (xs ++ ys), number-cons n x xs, number-append n xs ys)

number_as : (n peer : ℕ) (names : List ℕ) → number n (map (held_as peer) names) ≡ cond (peer == n) (length names) 0
number_as n peer [] = none (peer == n)
  where
    none : (b : Bool) → ◌≡◌ {A = ℕ} 0 (cond b 0 0)
    none true = refl
    none false = refl
number_as n peer (x ∷ xs) = omega (arith, number-cons n (held_as peer x) (map (held_as peer) xs), number_as n peer xs, more (peer == n))
  where
    more : (b : Bool) → cond b (length (x ∷ xs)) 0 ≡ one_if b + cond b (length xs) 0
    more true = omega arith
    more false = refl

none_left : (n : ℕ) (hs : List HeldFrame) → number n (filter (λ h. not (holds_from n h)) hs) ≡ 0
none_left n [] = refl
none_left n (h ∷ hs) = go (h.peer == n) refl (none_left n hs)
  where
    go : (b : Bool) → (h.peer == n) ≡ b → number n (filter (λ x. not (holds_from n x)) hs) ≡ 0 → number n (cond (not b) (h ∷ filter (λ x. not (holds_from n x)) hs) (filter (λ x. not (holds_from n x)) hs)) ≡ 0
    go true is rest = rest
    go false is rest = omega (arith, number-cons n h (filter (λ x. not (holds_from n x)) hs), ap one_if is, rest)

all_left : (n peer : ℕ) → (peer == n) ≡ false → (hs : List HeldFrame) → number n (filter (λ h. not (holds_from peer h)) hs) ≡ number n hs
all_left n peer differs [] = refl
all_left n peer differs (h ∷ hs) = go (h.peer == peer) refl (all_left n peer differs hs)
  where
    go : (b : Bool) → (h.peer == peer) ≡ b → number n (filter (λ x. not (holds_from peer x)) hs) ≡ number n hs → number n (cond (not b) (h ∷ filter (λ x. not (holds_from peer x)) hs) (filter (λ x. not (holds_from peer x)) hs)) ≡ number n (h ∷ hs)
    go true is rest = omega (arith, number-cons n h hs, ap one_if (ap (λ m. m == n) (eqb-true h.peer peer is) ∙ differs), rest)
    go false is rest = omega (arith, number-cons n h hs, number-cons n h (filter (λ x. not (holds_from peer x)) hs), rest)

pub held-kept : (s : DomainState) (cs : List Change) → AllByRecursion IsNoTake cs → (changed_all s cs).held ≡ s.held
held-kept s [] are = refl
held-kept s (c ∷ cs) are = held-kept (changed s c) cs are.1 ∙ one c are.0
  where
    one : (x : Change) → IsNoTake x → (changed s x).held ≡ s.held
    one (frame_taken n part names) is = absurd is
    one other is = refl

-- ---- buffers by their frames

-- an item holds as many buffers of a peer
abbrev pub weight : ℕ → Item → ℕ
weight n i = cond (is_from n i) (length i.frames) 0

weighed : (n : ℕ) (is : List Item) → sum_by (weight n) is ≡ length (frames_from n is)
weighed n [] = refl
weighed n (i ∷ is) = omega (arith, sum_by-cons (weight n) i is, weighed n is, go (is_from n i))
  where
    go : (b : Bool) → length (flat_map (λ (x : Item). x.frames) (cond b (i ∷ filter (is_from n) is) (filter (is_from n) is))) ≡ cond b (length i.frames) 0 + length (frames_from n is)
    go true = length-append i.frames (frames_from n is)
    go false = omega arith

pub held-by-weight : (n : ℕ) (s : DomainState) → held_from n s ≡ held (weight n) s + length (held_of s n)
held-by-weight n s = omega (arith, weighed n (queued_items s), weighed n (lent_items s))

pub weighed-is : (n : ℕ) (is : List Item) → sum_by (weight n) is ≡ length (frames_from n is)
weighed-is n is = weighed n is

pub calls-held : (n : ℕ) (s : DomainState) (node : ℕ) (call : DomainCall) → held_of (effect s node call) n ≡ held_of s n
calls-held n s node call = ap (λ hs. map (λ h. h.name) (filter (holds_from n) hs)) (held-kept s (call_changes s node call) (calls_so s node call))

-- ---- a frame

module _ (n : ℕ) (s : DomainState) (peer : ℕ) (name : Option ℕ) (frame : List ℕ) where
  abbrev came : Came
  came = came_from s peer name frame

  abbrev by : Row
  by = row_from s peer name frame

  abbrev then : DomainState
  then = changed_all (changed s (taken_change peer came)) by.happens

  items_count : (k : ℕ) → CountFor (weight n) peer came k → held (weight n) then + given_of k by.word + cond (is_none came.part) 0 k ≡ held (weight n) s + k
  items_count k counts = go (is_none came.part) refl
    where
      go : (b : Bool) → is_none came.part ≡ b → held (weight n) then + given_of k by.word + cond b 0 k ≡ held (weight n) s + k
      go true is = omega (arith, row_counts (weight n) k s peer came (said_from s peer frame) by is counts (row-deals s peer came (said_from s peer frame)))
      go false is =
          let it = coming_brings (part_of s peer) (reading frame) is in
          omega (arith, ap (λ cs. held (weight n) (changed_all (changed s (taken_change peer came)) cs)) (part_happens s peer came (said_from s peer frame) is it), ap (given_of k) (part_word s peer came (said_from s peer frame) is it))

  names_all : length came.names + length (names_ended (coming_from s peer frame).joins (held_of s peer)) ≡ length (held_of s peer) + 1
  names_all = go (coming_from s peer frame).joins
    where
      go : (b : Bool) → length (names_before b (held_of s peer) ++ named_so name ∷ []) + length (names_ended b (held_of s peer)) ≡ length (held_of s peer) + 1
      go true = omega (arith, length-append (held_of s peer) (named_so name ∷ []))
      go false = omega arith

  held_names : length (held_by came) ≡ cond (is_none came.part) 0 (length came.names)
  held_names = go came.part
    where
      go : (o : Option Part) → length (held_if o came.names) ≡ cond (is_none o) 0 (length came.names)
      go None = refl
      go (Some p) = refl

  at_once : (f : Fate) → length (given_at_once f came.names) ≡ given_of (length came.names) f
  at_once f = go (keeps_buffer f)
    where
      go : (b : Bool) → length (cond b [] came.names) ≡ cond b 0 (length came.names)
      go true = refl
      go false = refl

  numbers_then : number n then.held ≡ number n (filter (λ h. not (holds_from peer h)) s.held) + cond (peer == n) (length (held_by came)) 0
  numbers_then =
      ap (number n) (held-kept (changed s (taken_change peer came)) by.happens (row_so s peer came (said_from s peer frame)))
      ∙ (number-append n (filter (λ h. not (holds_from peer h)) s.held) (map (held_as peer) (held_by came)) ∙ ap (λ m. number n (filter (λ h. not (holds_from peer h)) s.held) + m) (number_as n peer (held_by came)))

  counts_for : (b : Bool) → (peer == n) ≡ b → CountFor (weight n) peer came (cond b (length came.names) 0)
  counts_for b is source l = ap₂ (λ p fs. cond (p == n) (length fs) 0) (item-peer peer came source l) (item-frames peer came source l) ∙ ap (λ x. cond x (length came.names) 0) is

  -- a buffer of the peer is held, or given back; those of other peers stay
  frame_keeps : (f : Fate) → by.word ≡ f → held_from n then + length (names_given n s (takes peer name frame f)) ≡ held_from n s + one_if (peer == n)
  frame_keeps f word = go (peer == n) refl
    where
      none : (b : Bool) → ◌≡◌ {A = ℕ} (cond b 0 0) 0
      none true = refl
      none false = refl

      go : (b : Bool) → (peer == n) ≡ b → held_from n then + length (cond b (given_by_frame s peer name frame f) []) ≡ held_from n s + one_if b
      go true is =
          let same : peer ≡ n = eqb-true peer n is in
          omega (
            arith,
            held-by-weight n then,
            held-by-weight n s,
            items_count (length came.names) (counts_for true is),
            numbers_then,
            ap (λ b. cond b (length (held_by came)) 0) is,
            ap (λ m. number n (filter (λ h. not (holds_from m h)) s.held)) same,
            none_left n s.held,
            held_names,
            names_all,
            ap (λ m. length (held_of s m)) same,
            at_once f,
            ap (given_of (length came.names)) word,
            length-append (names_ended (coming_from s peer frame).joins (held_of s peer)) (given_at_once f came.names),
          )
      go false is =
          omega (
            arith,
            held-by-weight n then,
            held-by-weight n s,
            items_count 0 (counts_for false is),
            numbers_then,
            ap (λ b. cond b (length (held_by came)) 0) is,
            all_left n peer is s.held,
            none (keeps_buffer by.word),
            none (is_none came.part),
          )

-- frames one after the other
pub takes_count : (n : ℕ) (s : DomainState) (peer : ℕ) (name : ℕ → Option ℕ) (ts : List Taken) → AllMayDo s (takes_named name peer ts) →
    held_from n (after_deeds s (takes_named name peer ts)) + length (along (names_given n) s (takes_named name peer ts)) ≡ held_from n s + cond (peer == n) (length ts) 0
takes_count n s peer name [] words = none (peer == n)
  where
    none : (b : Bool) → held_from n s + 0 ≡ held_from n s + cond b 0 0
    none true = refl
    none false = refl
takes_count n s peer name (t ∷ ts) words =
    let d : Deed = takes peer (name 0) t.frame t.fate in
    omega (
      arith,
      frame_keeps n s peer (name 0) t.frame t.fate words.0,
      takes_count n (after_deed s d) peer (λ k. name (k + 1)) ts words.1,
      length-append (names_given n s d) (along (names_given n) (after_deed s d) (takes_named (λ k. name (k + 1)) peer ts)),
      more (peer == n),
    )
  where
    more : (b : Bool) → cond b (length (t ∷ ts)) 0 ≡ one_if b + cond b (length ts) 0
    more true = omega arith
    more false = refl

-- ---- peers

-- what a row keeps of peers, and of lookups that are pending
module _ {X : Type 0} (g : Peer → X) (knows : (p : Peer) (names : Names) → g (record p { known = names }) ≡ g p) (owes : (p : Peer) (replies : List Reply) → g (record p { replies = replies }) ≡ g p) where
  reply_keeps : (d n peer : ℕ) (reply : Reply) → Keeps g d n (reply_owed peer reply)
  reply_keeps d n peer reply p = cond-keeps g (peer == n) p (record p { replies = p.replies ++ reply ∷ [] }) (owes p (p.replies ++ reply ∷ []))

  row_keeps : (s : DomainState) (d n peer : ℕ) (c : Came) (frame : Reading) (r : Row) → Deals s peer c frame r → AllByRecursion (Keeps g d n) r.happens
  row_keeps s d n peer c frame r (stays is gives) = subst (AllByRecursion (Keeps g d n)) (sym is) tt
  row_keeps s d n peer c frame r (strays source at q told none is word) = subst (AllByRecursion (Keeps g d n)) (sym is) tt
  row_keeps s d n peer c frame r (awaits source at q told some is word) = subst (AllByRecursion (Keeps g d n)) (sym is) tt
  row_keeps s d n peer c frame r (learns text m a names told named is gives) = subst (AllByRecursion (Keeps g d n)) (sym is) ((λ p. cond-keeps g (peer == n) p (record p { known = names }) (knows p names)), ((λ p. refl), tt))
  row_keeps s d n peer c frame r (forgets text m a names told named is gives) = subst (AllByRecursion (Keeps g d n)) (sym is) ((λ p. cond-keeps g (peer == n) p (record p { known = names }) (knows p names)), tt)
  row_keeps s d n peer c frame r (hands source at l e told found carried waits is word) = subst (AllByRecursion (Keeps g d n)) (sym is) ((λ p. refl), tt)
  row_keeps s d n peer c frame r (queues source at l e told found carried none is word) = subst (AllByRecursion (Keeps g d n)) (sym is) ((λ p. refl), tt)
  row_keeps s d n peer c frame r (loses source at l e told found late is word) = subst (AllByRecursion (Keeps g d n)) (sym is) ((λ p. refl), tt)
  row_keeps s d n peer c frame r (rejects source at number kind why told is gives) = subst (AllByRecursion (Keeps g d n)) (sym is) (reply_keeps d n peer _, tt)
  row_keeps s d n peer c frame r (accepts source at number kind e told found none free is gives) = subst (AllByRecursion (Keeps g d n)) (sym is) ((λ p. refl), (reply_keeps d n peer _, tt))
  row_keeps s d n peer c frame r (acts source at l e x left told found has row is gives) = subst (AllByRecursion (Keeps g d n)) (sym is) (acting-all (Keeps g d n) at left (λ p. refl) (λ m p. refl) (λ m why p. refl) (λ p. refl) l)

  -- after a frame that is taken, all is read as after its look
  frame_read : (s : DomainState) (peer : ℕ) (frame : List ℕ) (f : Fate) (n : ℕ) → read_of g (after_deed s (takes peer None frame f)) n ≡ read_of g (changed s (taken_change peer (came_from s peer None frame))) n
  frame_read s peer frame f n = read-all g (changed s (taken_change peer (came_from s peer None frame))) (row_from s peer None frame).happens n (row_keeps s s.number n peer (came_from s peer None frame) (said_from s peer frame) (row_from s peer None frame) (row-deals s peer (came_from s peer None frame) (said_from s peer frame)))

pub takes-free : (s : DomainState) (peer : ℕ) (ts : List Taken) (n : ℕ) → read_of (λ p. p.free) (after_takes s peer ts) n ≡ read_of (λ p. p.free) s n
takes-free s peer [] n = refl
takes-free s peer (t ∷ ts) n =
    takes-free (after_deed s (takes peer None t.frame t.fate)) peer ts n
    ∙ (frame_read (λ p. p.free) (λ p names. refl) (λ p replies. refl) s peer t.frame t.fate n
    ∙ (ap (option_map (λ p. p.free)) (peer-changed s (taken_change peer (came_from s peer None t.frame)) n) ∙ go (peer_at s n)))
  where
    go : (o : Option Peer) → option_map (λ p. p.free) (option_map (λ (p : Peer). cond (peer == n) (record p { shown = p.shown - 1; part = (came_from s peer None t.frame).part }) p) o) ≡ option_map (λ p. p.free) o
    go None = refl
    go (Some p) = ap Some (cond-keeps (λ q. q.free) (peer == n) p (record p { shown = p.shown - 1; part = (came_from s peer None t.frame).part }) refl)

abbrev pub shown_in : DomainState → ℕ → ℕ
shown_in s n = unwrap_or (read_of (λ p. p.shown) s n) 0

-- as many fewer frames are shown of the peer, and as many as before of another
pub takes-shown : (s : DomainState) (peer : ℕ) (ts : List Taken) (n : ℕ) (b : Bool) → (peer == n) ≡ b → shown_in (after_takes s peer ts) n ≡ shown_in s n - cond b (length ts) 0
takes-shown s peer [] n b is = omega (arith, none b)
  where
    none : (c : Bool) → ◌≡◌ {A = ℕ} (cond c 0 0) 0
    none true = refl
    none false = refl
takes-shown s peer (t ∷ ts) n b is =
    omega (arith, takes-shown (after_deed s (takes peer None t.frame t.fate)) peer ts n b is, ap (λ o. unwrap_or o 0) (frame_read (λ p. p.shown) (λ p names. refl) (λ p replies. refl) s peer t.frame t.fate n), one (peer_at s n), ap (λ o. unwrap_or (option_map (λ (p : Peer). p.shown) o) 0) (peer-changed s (taken_change peer (came_from s peer None t.frame)) n ∙ ap (λ c. option_map (λ (p : Peer). cond c (record p { shown = p.shown - 1; part = (came_from s peer None t.frame).part }) p) (peer_at s n)) is), more b)
  where
    one : (o : Option Peer) → unwrap_or (option_map (λ p. p.shown) (option_map (λ (p : Peer). cond b (record p { shown = p.shown - 1; part = (came_from s peer None t.frame).part }) p) o)) 0 ≡ unwrap_or (option_map (λ p. p.shown) o) 0 - cond b 1 0
    one None = omega (arith, some b)
      where
        some : (c : Bool) → ◌≡◌ {A = ℕ} (0 - cond c 1 0) 0
        some true = refl
        some false = refl
    one (Some p) = go b
      where
        go : (c : Bool) → (cond c (record p { shown = p.shown - 1; part = (came_from s peer None t.frame).part }) p).shown ≡ p.shown - cond c 1 0
        go true = refl
        go false = omega arith

    more : (c : Bool) → cond c (length (t ∷ ts)) 0 ≡ cond c 1 0 + cond c (length ts) 0
    more true = omega arith
    more false = refl
