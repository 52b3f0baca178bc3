-- The receiving end of a channel along a whole run: what came is what receives took, followed by what was lost and what is queued.
use Rattle.board_model.specs.Parts.{readings, came_from, said_from}
use Rattle.board_model.proofs.PartReadings.{Closed, readings-join}
use Rattle.std.proofs.lemmas.List.Concat.{flat_map-append}
use Rattle.std.proofs.Common.{◌≡◌, ◌⊎◌, inl, inr, ℕ, ◌+◌, ◌-◌, ◌≤◌, ◌<◌, ◌^◌, Bool, true, false, cond, List, [], ◌∷◌, ◌++◌, map, Option, Some, None, refl, sym, ap, ◌∙◌, subst, arith}
use Rattle.std.specs.Prelude.{◌==◌, ◌&&◌, find}
use Rattle.std.specs.List.{AllByRecursion, flat_map}
use Rattle.std.proofs.lemmas.List.{append_assoc, append-nil}
use Rattle.std.proofs.lemmas.Bool.{eqb-true, eq-eqb, cases_Bool}
use Rattle.mc_base.specs.Reading.{reading, Reading}
use Rattle.mc_base.specs.declared.fate.Fate.{Fate}
use Rattle.board_model.specs.Channels.{contents_of, data_said, is_lost, lost_by, words_by, arrives}
use Rattle.board_model.specs.ChannelEnds.{is_closed}
use Rattle.board_model.specs.Deeds.{Deed, looks_back, puts_owed, looks_ahead, takes, calls, happens_by, after_deed, MayDo, AllMayDo, after_deeds, along}
use Rattle.board_model.specs.Scenario.{Neighbour}
use Rattle.board_model.specs.State.{DomainState, opening, new_peer, endpoint_of, is_numbered}
use Rattle.board_model.specs.Takings.{takings_by}
use Rattle.board_model.proofs.ChannelWords.{Way, not_begun, Sent, sent_by, letters, data_of, contents, way_after, InOrder, way_of, taken_by, dropped_by, through, letters_of}
use Rattle.board_model.proofs.DeedRuns.{frames_if, puts_by, takes_by, says_by}
use Rattle.board_model.proofs.Hearing.{Heard, heard, Lists, more, HeardAt, NoAccept, owed_replies, Hearing, unheard, refused, heard_at}
use Rattle.board_model.proofs.HearingDeeds.{IsSmallReading, IsSmallFrom, told_more, tell_first, deed_step}
use Rattle.board_model.proofs.HearingGives.{row_gives}
use Rattle.board_model.proofs.HearingQueues.{queued_on, nothing_queued, heard_queued}
use Rattle.board_model.proofs.HearingReceives.{call_yields}
use Rattle.board_model.proofs.HearingReplies.{replies_read}
use Rattle.board_model.proofs.HearingWords.{words_more, words_first}
use Rattle.board_model.proofs.OrderSerials.{Serials, given_by_all, succeeds, all_succeed, serials_changes}
use Rattle.board_model.proofs.OrderSound.{Sound, FitAllSound, sound_changes, sound_own, sound_quiet}
use Rattle.board_model.proofs.OrderTakings.{all_old, none_taken}

-- ---- lists that are joined

pub in_order-parts : (w : Way) (xs ys : List Sent) → InOrder w (xs ++ ys) → InOrder w xs × InOrder (way_of w xs) ys
in_order-parts w [] ys order = (tt, order)
in_order-parts w (x ∷ xs) ys order = let later = in_order-parts (way_after w x) xs ys order.1 in ((order.0, later.0), later.1)

pub way_of-append : (w : Way) (xs ys : List Sent) → way_of w (xs ++ ys) ≡ way_of (way_of w xs) ys
way_of-append w [] ys = refl
way_of-append w (x ∷ xs) ys = way_of-append (way_after w x) xs ys

pub letters_of-append : (n : ℕ) (xs ys : List Reading) → letters_of n (xs ++ ys) ≡ letters_of n xs ++ letters_of n ys
letters_of-append n xs ys = flat_map-append (sent_by n) xs ys

-- of frames, where no part is open between them
pub letters-append : (n : ℕ) (xs ys : List (List ℕ)) → Closed xs → letters n (xs ++ ys) ≡ letters n xs ++ letters n ys
letters-append n xs ys closed = ap (letters_of n) (readings-join xs ys closed) ∙ letters_of-append n (readings None xs) (readings None ys)

pub contents-append : (xs ys : List Sent) → contents (xs ++ ys) ≡ contents xs ++ contents ys
contents-append [] ys = refl
contents-append (x ∷ xs) ys = ap (λ l. data_of x.letter ++ l) (contents-append xs ys) ∙ sym (append_assoc (data_of x.letter) (contents xs) (contents ys))

-- ---- what a deed takes and loses of a channel, and what it keeps

abbrev pub takes_on : ℕ → ℕ → DomainState → Deed → List (List ℕ)
takes_on o n s d = contents_of o n (map (λ t. t.item) (takings_by s d))

pub record DeedKeeps (o n room : ℕ) (s : DomainState) (d : Deed) : Type 0 where
  pub sound : Sound (after_deed s d)
  pub serials : Serials (room - succeeds d) (after_deed s d)
  pub taken : takes_on o n s d ≡ through (taken_by o n) s (happens_by s d)
  pub lost : lost_by o n s d ≡ through (dropped_by o n) s (happens_by s d)

pub fewer_room : (more less : ℕ) (s : DomainState) → less ≤ more → Serials more s → Serials less s
fewer_room more less s le serials = record { differ = serials.differ; below = serials.below; small = omega (arith, serials.small) }

module _ (o n room : ℕ) (s : DomainState) (sound : Sound s) (serials : Serials room s) where
  by_changes : (d : Deed) → FitAllSound s (happens_by s d) → given_by_all (happens_by s d) ≤ succeeds d → succeeds d ≤ room → takes_on o n s d ≡ through (taken_by o n) s (happens_by s d) → lost_by o n s d ≡ through (dropped_by o n) s (happens_by s d) → DeedKeeps o n room s d
  by_changes d fits few fewer took loses = record {
    sound = sound_changes s (happens_by s d) fits sound;
    serials = fewer_room (room - given_by_all (happens_by s d)) (room - succeeds d) (after_deed s d) (omega arith) (serials_changes room s (happens_by s d) (omega arith) serials);
    taken = took;
    lost = loses;
  }

  pub deed_keeps : (d : Deed) → MayDo s d → succeeds d ≤ room → DeedKeeps o n room s d
  deed_keeps (looks_back p count) may few = by_changes (looks_back p count) (tt, tt) (omega arith) few (ap (λ ts. contents_of o n (map (λ t. t.item) ts)) (none_taken s s.requests (all_old s))) refl
  deed_keeps (puts_owed p frame) may few = by_changes (puts_owed p frame) (tt, tt) (omega arith) few (ap (λ ts. contents_of o n (map (λ t. t.item) ts)) (none_taken s s.requests (all_old s))) refl
  deed_keeps (looks_ahead p count) may few = by_changes (looks_ahead p count) (tt, tt) (omega arith) few (ap (λ ts. contents_of o n (map (λ t. t.item) ts)) (none_taken s s.requests (all_old s))) refl
  deed_keeps (takes p name frame word) may few =
      let gives = row_gives o n s sound serials.differ p (came_from s p name frame) (said_from s p frame) in
      by_changes (takes p name frame word) (tt, gives.fits) (omega (arith, gives.few)) few gives.taken (ap (λ x. cond (is_lost x && p == o) (data_said n (said_from s p frame)) []) (sym may) ∙ gives.lost)
  deed_keeps (calls node call a) may few =
      let yields = call_yields o n s sound serials.below node call a may in
      by_changes (calls node call a) yields.fits yields.few few yields.taken yields.lost

-- ---- a run

abbrev pub came_on : ℕ → ℕ → DomainState → List Deed → List (List ℕ)
came_on o n s ds = contents (letters_of n (along (says_by o) s ds))

-- all that came, was taken and lost, was put to the owner, and the words of the data
abbrev pub by_run : ℕ → ℕ → DomainState → List Deed → Lists → Lists
by_run o n s ds h = record {
  came = h.came ++ came_on o n s ds;
  taken = h.taken ++ along (takes_on o n) s ds;
  lost = h.lost ++ along (lost_by o n) s ds;
  told = h.told ++ along (puts_by o) s ds;
  words = h.words ++ along (words_by o n) s ds;
}

no_run : (o n : ℕ) (s : DomainState) (h : Lists) → by_run o n s [] h ≡ h
no_run o n s h = simp append-nil

joined_run : (h : Lists) (a b c d x y z u : List (List ℕ)) (v q : List Fate) →
    ◌≡◌ {A = Lists} (record { came = (h.came ++ a) ++ x; taken = (h.taken ++ b) ++ y; lost = (h.lost ++ c) ++ z; told = (h.told ++ d) ++ u; words = (h.words ++ v) ++ q }) (record { came = h.came ++ (a ++ x); taken = h.taken ++ (b ++ y); lost = h.lost ++ (c ++ z); told = h.told ++ (d ++ u); words = h.words ++ (v ++ q) })
joined_run h a b c d x y z u v q = simp append_assoc

-- what is known after a run
pub record Ran (o n : ℕ) (s : DomainState) (w : Way) (h : Lists) (ds : List Deed) : Type 0 where
  pub sound : Sound (after_deeds s ds)
  pub hearing : Hearing o n (way_of w (letters_of n (along (says_by o) s ds))) (by_run o n s ds h) (after_deeds s ds)

pub run_hearing : (o n room : ℕ) (s : DomainState) (w : Way) (h : Lists) (ds : List Deed) → AllMayDo s ds → Sound s → Serials room s → all_succeed ds ≤ room → AllByRecursion (IsSmallFrom o) ds → InOrder w (letters_of n (along (says_by o) s ds)) → Hearing o n w h s → Ran o n s w h ds
run_hearing o n room s w h [] may sound serials few small order hearing = record { sound = sound; hearing = subst (λ k. Hearing o n w k s) (sym (no_run o n s h)) hearing }
run_hearing o n room s w h (d ∷ ds) may sound serials few small order hearing =
    let here = says_by o s d in
    let later = along (says_by o) (after_deed s d) ds in
    let split = letters_of-append n here later in
    let parts = in_order-parts w (letters_of n here) (letters_of n later) (subst (InOrder w) split order) in
    let keeps = deed_keeps o n room s sound serials d may.0 (omega arith) in
    let told = words_first replies_read o n s w (told_more h (puts_by o s d)) d may.0 parts.0 (tell_first replies_read o n s w h d may.0 hearing) in
    let known : Lists = words_more (told_more h (puts_by o s d)) (words_by o n s d) in
    let done = deed_step replies_read o n s w known d (sound_own s sound) (sound_quiet s sound) small.0 parts.0 told in
    let now = subst (λ xs. Hearing o n (way_of w (letters_of n here)) (more known (contents (letters_of n here)) xs (lost_by o n s d)) (after_deed s d)) (sym keeps.taken)
    (subst (λ xs. Hearing o n (way_of w (letters_of n here)) (more known (contents (letters_of n here)) (through (taken_by o n) s (happens_by s d)) xs) (after_deed s d)) (sym keeps.lost) done) in
    let rest = run_hearing o n (room - succeeds d) (after_deed s d) (way_of w (letters_of n here)) _ ds may.1 keeps.sound keeps.serials (omega arith) small.1 parts.1 now in
    let whole : List (List ℕ) → Lists = λ c. record { came = h.came ++ c; taken = h.taken ++ along (takes_on o n) s (d ∷ ds); lost = h.lost ++ along (lost_by o n) s (d ∷ ds); told = h.told ++ along (puts_by o) s (d ∷ ds); words = h.words ++ along (words_by o n) s (d ∷ ds) } in
    record {
      sound = rest.sound;
      hearing =
          subst (λ k. Hearing o n (way_of w k) (whole (contents k)) (after_deeds s (d ∷ ds))) (sym split)
          (subst (λ v. Hearing o n v (whole (contents (letters_of n here ++ letters_of n later))) (after_deeds s (d ∷ ds))) (sym (way_of-append w (letters_of n here) (letters_of n later)))
          (subst (λ c. Hearing o n (way_of (way_of w (letters_of n here)) (letters_of n later)) (whole c) (after_deeds s (d ∷ ds))) (sym (contents-append (letters_of n here) (letters_of n later)))
          (subst (λ k. Hearing o n (way_of (way_of w (letters_of n here)) (letters_of n later)) k (after_deeds s (d ∷ ds))) (joined_run h _ _ _ _ _ _ _ _ _ _) rest.hearing)));
    }

-- ---- from the opening

-- what became at a domain of the items of a channel: no accept of it was put to its owner, and none of its items was taken, lost or is
-- queued; or what came is what was taken, and after it what was lost and what is queued, not both of which there are
pub data Received (o n : ℕ) (start : DomainState) (ds : List Deed) : Type 0 where
  unaccepted : NoAccept n (along (puts_by o) start ds) → along (takes_on o n) start ds ≡ [] → along (lost_by o n) start ds ≡ [] → queued_on o n (after_deeds start ds) ≡ [] → Received o n start ds
  accepted : came_on o n start ds ≡ along (takes_on o n) start ds ++ (along (lost_by o n) start ds ++ queued_on o n (after_deeds start ds)) → (along (lost_by o n) start ds ≡ []) ⊎ (queued_on o n (after_deeds start ds) ≡ []) →
      AllByRecursion (λ w. arrives w ≡ true) (along (words_by o n) start ds) → Received o n start ds

no_replies : (n : ℕ) (neighbours : List Neighbour) (p : ℕ) → NoAccept n (owed_replies (find (is_numbered p) (map new_peer neighbours)))
no_replies n [] p = tt
no_replies n (x ∷ xs) p = elim (x.number == p) as (λ b. NoAccept n (owed_replies (cond b (Some (new_peer x)) (find (is_numbered p) (map new_peer xs))))) [ true ↦ tt | false ↦ no_replies n xs p ]

pub opening_sound : (number nodes : ℕ) (neighbours : List Neighbour) → Sound (opening number nodes neighbours)
opening_sound number nodes neighbours = record { rise = omega arith; apart = tt; quiet = tt; bound = tt }

-- the numbers of the connects that came fit
abbrev pub IsSmallFrame : List ℕ → Type 0
IsSmallFrame frame = IsSmallReading (reading frame)

small_deeds : (o : ℕ) (ds : List Deed) → AllByRecursion IsSmallFrame (flat_map (takes_by o) ds) → AllByRecursion (IsSmallFrom o) ds
small_deeds o [] all = tt
small_deeds o (takes p name frame word ∷ ds) all = go (p == o) refl all (λ k. small_deeds o ds k)
  where
    go : (b : Bool) → (p == o) ≡ b → AllByRecursion IsSmallFrame (frames_if b (frame ∷ []) ++ flat_map (takes_by o) ds) → (AllByRecursion IsSmallFrame (flat_map (takes_by o) ds) → AllByRecursion (IsSmallFrom o) ds) → (p ≡ o → IsSmallFrame frame) × AllByRecursion (IsSmallFrom o) ds
    go true is small later = ((λ k. small.0), later small.1)
    go false is small later = ((λ k. let it : (p == o) ≡ true = eq-eqb p o k in let never = sym is ∙ it in absurd cc), later small)
small_deeds o (looks_back p count ∷ ds) all = (tt, small_deeds o ds all)
small_deeds o (puts_owed p frame ∷ ds) all = (tt, small_deeds o ds all)
small_deeds o (looks_ahead p count ∷ ds) all = (tt, small_deeds o ds all)
small_deeds o (calls node call a ∷ ds) all = (tt, small_deeds o ds all)

module _ (o n number nodes : ℕ) (neighbours : List Neighbour) (ds : List Deed) where
  abbrev start : DomainState
  start = opening number nodes neighbours

  abbrev last : DomainState
  last = after_deeds start ds

  abbrev nothing_yet : Lists
  nothing_yet = record { came = []; taken = []; lost = []; told = []; words = [] }

  ended : (w : Way) → Sound last → Hearing o n w (by_run o n start ds nothing_yet) last → Received o n start ds
  ended w sound (unheard none silent way came taken lost words) = unaccepted silent.0 taken lost (nothing_queued o n last sound none)
  ended w sound (refused none silent begun taken lost) = unaccepted silent.0 taken lost (nothing_queued o n last sound none)
  ended w sound (heard_at a others arrived at) = go (heard o n (endpoint_of last a)) refl at
    where
      go : (y : Option Heard) → heard o n (endpoint_of last a) ≡ y → HeardAt a w (by_run o n start ds nothing_yet) y → Received o n start ds
      go None is past =
          let none : queued_on o n last ≡ [] = nothing_queued o n last sound (λ b. elim (cases_Bool (a == b)) [ inl here ↦ subst (λ k. heard o n (endpoint_of last k) ≡ None) (eqb-true a b here) is | inr other ↦ others b other ]) in
          accepted
          (past.kept ∙ ap (λ q. along (takes_on o n) start ds ++ q) (sym (append-nil (along (lost_by o n) start ds)) ∙ ap (λ q. along (lost_by o n) start ds ++ q) (sym none)))
          (inr none) arrived
      go (Some x) is live =
          let queue : queued_on o n last ≡ map (λ i. i.content) x.queue = heard_queued o n last sound a x is others in
          accepted
          (live.kept ∙ ap (λ q. along (takes_on o n) start ds ++ (along (lost_by o n) start ds ++ q)) (sym queue))
          (elim (cases_Bool (is_closed x.end.stage)) [ inl shut ↦ inr (queue ∙ ap (map (λ i. i.content)) (live.none_queued shut)) | inr open_end ↦ inl (live.none_lost open_end) ])
          arrived

  pub received : AllMayDo start ds → AllByRecursion IsSmallFrame (flat_map (takes_by o) ds) → all_succeed ds + 1 < 2 ^ 64 → InOrder not_begun (letters_of n (along (says_by o) start ds)) → Received o n start ds
  received may small few order =
      let serials : Serials (all_succeed ds) start = record { differ = tt; below = tt; small = omega arith } in
      let ran = run_hearing o n (all_succeed ds) start not_begun nothing_yet ds may (opening_sound number nodes neighbours) serials (omega arith) (small_deeds o ds small) order (unheard (λ b. refl) (tt, no_replies n neighbours o) refl refl refl refl refl) in
      ended (way_of not_begun (letters_of n (along (says_by o) start ds))) ran.sound ran.hearing
