-- What is queued of a channel is what is queued at the one endpoint that has its receiver's end.
use Rattle.std.proofs.Common.{◌≡◌, ℕ, ◌+◌, ◌≤◌, ◌<◌, ◌^◌, Bool, true, false, inl, inr, cond, List, [], ◌∷◌, ◌++◌, map, find, length, flat_map, Option, None, Some, refl, sym, ap, ◌∙◌, arith}
use Rattle.std.specs.Prelude.{◌==◌, option_map}
use Rattle.std.specs.List.{AllByRecursion}
use Rattle.std.proofs.lemmas.Bool.{eqb-true, eq-eqb, cases_Bool}
use Rattle.mc_base.specs.Limits.{first_address}
use Rattle.board_model.specs.ChannelEnds.{hears_from}
use Rattle.board_model.specs.Channels.{contents_of}
use Rattle.board_model.specs.Deeds.{Deed, looks_back, puts_owed, looks_ahead, takes, calls, AllMayDo, after_deeds, along}
use Rattle.board_model.specs.LinkedBoard.{Differ}
use Rattle.board_model.specs.Scenario.{Neighbour}
use Rattle.board_model.specs.State.{Item, ChannelEnd, Endpoint, DomainState, opening, new_peer, endpoint_of, queue_in, is_numbered}
use Rattle.board_model.specs.Unnamed.{unnamed, unnamed_end, unnamed_item}
use Rattle.board_model.proofs.ChannelWords.{not_begun, letters_of, InOrder, end_is, contents_if, Way}
use Rattle.board_model.proofs.DeedRuns.{frames_if, takes_by, says_by}
use Rattle.board_model.proofs.Hearing.{heard, heard_of, Hearing, unheard, refused, heard_at, Lists, NoAccept, owed_replies}
use Rattle.board_model.proofs.HearingDeeds.{IsSmallFrom}
use Rattle.board_model.proofs.HearingItems.{bound_contents}
use Rattle.board_model.proofs.HearingLaw.{run_hearing, opening_sound, IsSmallFrame}
use Rattle.board_model.proofs.HearingQueues.{queued_on}
use Rattle.board_model.specs.Queues as ended
use Rattle.board_model.specs.Queues.{is_receiver_of}
use Rattle.board_model.proofs.ListsApart.{differ-found}
use Rattle.board_model.proofs.ListsMapped.{find-alike, find-mapped}
use Rattle.board_model.proofs.ListsOne.{AtMostOne, differ-one, joined-none, joined-one}
use Rattle.board_model.proofs.MessageAlls.{none-passes, all-weaken, all-with, found-passes}
use Rattle.board_model.proofs.OrderSerials.{Serials, all_succeed}
use Rattle.board_model.proofs.OrderSound.{Rise, Sound, IsBound, sound_bound}

-- ---- addresses differ

rise_above : (lo low hi : ℕ) (es : List Endpoint) → low < lo → Rise lo es hi → AllByRecursion (λ m. m ≡ low → ⊥) (map (λ (e : Endpoint). e.address) es)
rise_above lo low hi [] less rise = tt
rise_above lo low hi (e ∷ es) less rise = let here : lo ≤ e.address = rise.0 in ((λ same. absurd (omega (arith, here, same, less))), rise_above (e.address + 1) low hi es (omega arith) rise.1)

rise_differ : (lo hi : ℕ) (es : List Endpoint) → Rise lo es hi → Differ (map (λ (e : Endpoint). e.address) es)
rise_differ lo hi [] rise = tt
rise_differ lo hi (e ∷ es) rise = (rise_above (e.address + 1) e.address hi es (omega arith) rise.1, rise_differ (e.address + 1) hi es rise.1)

one_of : {A : Type 0} (p q : A → Bool) (xs : List A) → AllByRecursion (λ x. p x ≡ true → q x ≡ true) xs → AtMostOne q xs → AtMostOne p xs
one_of p q [] all one = tt
one_of {A} p q (x ∷ xs) all one = ((λ here. all-with (λ (y : A). p y ≡ true → q y ≡ true) (λ y. q y ≡ false) (λ y. p y ≡ false) (λ y more off. not_both (p y) (q y) more off) xs all.1 (one.0 (all.0 here))), one_of p q xs all.1 one.1)
  where
    not_both : (a b : Bool) → (a ≡ true → b ≡ true) → b ≡ false → a ≡ false
    not_both true b more off = let on = more refl in absurd cc
    not_both false b more off = refl

module _ (o n : ℕ) where
  -- the receiver's end is at one endpoint at most
  pub record HeardOnce (s : DomainState) : Type 0 where
    pub address : ℕ
    pub others : (b : ℕ) → (address == b) ≡ false → heard o n (endpoint_of s b) ≡ None

  abbrev pub hears : Endpoint → Bool
  hears e = end_is (hears_from o n) e.channel

  some_heard : (e : Endpoint) → hears e ≡ true → heard o n (Some e) ≡ None → ⊥
  some_heard e is none = go e.channel is none
    where
      go : (c : Option ChannelEnd) → end_is (hears_from o n) c ≡ true → heard_of o n c e.queue ≡ None → ⊥
      go None is none = absurd cc
      go (Some c) is none = let there : heard_of o n (Some c) e.queue ≡ Some (record { end = c; queue = e.queue }) = ap (λ b. cond b (Some (record { end = c; queue = e.queue })) None) is in absurd cc

  queue_contents : (e : Endpoint) → IsBound e → contents_of o n e.queue ≡ contents_if (hears e) e.queue
  queue_contents e bound = bound_contents o n e.queue e.channel bound

  length_all : (q : List Item) → length (map (λ (i : Item). i.content) q) ≡ length q
  length_all [] = refl
  length_all (i ∷ q) = omega (arith, length_all q)

  module _ (s : DomainState) (sound : Sound s) (once : HeardOnce s) where
    differ : Differ (map (λ (e : Endpoint). e.address) s.endpoints)
    differ = rise_differ first_address (first_address + s.endpoints_given) s.endpoints sound.rise

    at_address : AllByRecursion (λ e. hears e ≡ true → (e.address == once.address) ≡ true) s.endpoints
    at_address = all-weaken (λ e. find (λ x. x.address == e.address) s.endpoints ≡ Some e) (λ e. hears e ≡ true → (e.address == once.address) ≡ true) at s.endpoints (differ-found (λ (e : Endpoint). e.address) s.endpoints differ)
      where
        at : (e : Endpoint) → find (λ x. x.address == e.address) s.endpoints ≡ Some e → hears e ≡ true → (e.address == once.address) ≡ true
        at e found is = elim (cases_Bool (once.address == e.address)) [
          | inl here ↦ eq-eqb e.address once.address (sym (eqb-true once.address e.address here))
          | inr far ↦ absurd (some_heard e is (sym (ap (heard o n) found) ∙ once.others e.address far))
        ]

    empty_else : AllByRecursion (λ e. hears e ≡ false → contents_of o n e.queue ≡ []) s.endpoints
    empty_else = all-weaken IsBound (λ e. hears e ≡ false → contents_of o n e.queue ≡ []) (λ e bound off. queue_contents e bound ∙ ap (λ b. contents_if b e.queue) off) s.endpoints sound.bound

    pub queued-length : length (queued_on o n s) ≡ length (queue_in (find hears s.endpoints))
    queued-length = go (find hears s.endpoints) refl
      where
        go : (x : Option Endpoint) → find hears s.endpoints ≡ x → length (queued_on o n s) ≡ length (queue_in x)
        go None none = ap (λ (xs : List (List ℕ)). length xs) (joined-none (λ e. contents_of o n e.queue) s.endpoints (all-with (λ e. hears e ≡ false) (λ e. hears e ≡ false → contents_of o n e.queue ≡ []) (λ e. contents_of o n e.queue ≡ []) (λ e off empty. empty off) s.endpoints (none-passes hears s.endpoints none) empty_else))
        go (Some e) found =
            ap (λ (xs : List (List ℕ)). length xs) (joined-one (λ e. contents_of o n e.queue) hears s.endpoints e (one_of hears (λ x. x.address == once.address) s.endpoints at_address (differ-one (λ (x : Endpoint). x.address) once.address s.endpoints differ)) empty_else found)
            ∙ (ap (λ (xs : List (List ℕ)). length xs) (queue_contents e (sound_bound s sound hears e found) ∙ ap (λ b. contents_if b e.queue) (found-passes hears s.endpoints e found)) ∙ length_all e.queue)

  -- as an ended domain has it
  same_end : (c : Option ChannelEnd) → end_is (hears_from o n) c ≡ is_receiver_of o n c
  same_end None = refl
  same_end (Some c) = refl

  pub queue-ended : (s : DomainState) → length (queue_in (find hears s.endpoints)) ≡ ended.queued_on o n s
  queue-ended s = ap (λ x. length (queue_in x)) (find-alike hears (ended.hears o n) (λ e. same_end e.channel) s.endpoints)

  -- the names of frames are no matter
  pub unnamed-queue : (s : DomainState) → length (queue_in (find hears (unnamed s).endpoints)) ≡ length (queue_in (find hears s.endpoints))
  unnamed-queue s = ap (λ x. length (queue_in x)) (find-mapped unnamed_end hears hears (λ e. refl) s.endpoints) ∙ go (find hears s.endpoints)
    where
      length_map : (q : List Item) → length (map unnamed_item q) ≡ length q
      length_map [] = refl
      length_map (i ∷ q) = omega (arith, length_map q)

      go : (x : Option Endpoint) → length (queue_in (option_map unnamed_end x)) ≡ length (queue_in x)
      go None = refl
      go (Some e) = length_map e.queue

  -- ---- so it is at the end of a run

  small_deeds : (ds : List Deed) → AllByRecursion IsSmallFrame (flat_map (takes_by o) ds) → AllByRecursion (IsSmallFrom o) ds
  small_deeds [] all = tt
  small_deeds (takes p name frame word ∷ ds) all = go (p == o) refl all (λ k. small_deeds ds k)
    where
      go : (b : Bool) → (p == o) ≡ b → AllByRecursion IsSmallFrame (frames_if b (frame ∷ []) ++ flat_map (takes_by o) ds) → (AllByRecursion IsSmallFrame (flat_map (takes_by o) ds) → AllByRecursion (IsSmallFrom o) ds) → (p ≡ o → IsSmallFrame frame) × AllByRecursion (IsSmallFrom o) ds
      go true is small later = ((λ k. small.0), later small.1)
      go false is small later = ((λ k. let it : (p == o) ≡ true = eq-eqb p o k in let never = sym is ∙ it in absurd cc), later small)
  small_deeds (looks_back p count ∷ ds) all = (tt, small_deeds ds all)
  small_deeds (puts_owed p frame ∷ ds) all = (tt, small_deeds ds all)
  small_deeds (looks_ahead p count ∷ ds) all = (tt, small_deeds ds all)
  small_deeds (calls node call a ∷ ds) all = (tt, small_deeds ds all)

  no_replies : (neighbours : List Neighbour) (p : ℕ) → NoAccept n (owed_replies (find (is_numbered p) (map new_peer neighbours)))
  no_replies [] p = tt
  no_replies (x ∷ xs) p = elim (x.number == p) as (λ b. NoAccept n (owed_replies (cond b (Some (new_peer x)) (find (is_numbered p) (map new_peer xs))))) [ true ↦ tt | false ↦ no_replies xs p ]

  heard_once : (w : Way) (h : Lists) (s : DomainState) → Hearing o n w h s → HeardOnce s
  heard_once w h s (unheard none silent way came taken lost words) = record { address = 0; others = λ b far. none b }
  heard_once w h s (refused none silent begun taken lost) = record { address = 0; others = λ b far. none b }
  heard_once w h s (heard_at a others arrived at) = record { address = a; others = others }

  pub record Left (s : DomainState) : Type 0 where
    pub sound : Sound s
    pub once : HeardOnce s

  pub left-once : (number nodes : ℕ) (neighbours : List Neighbour) (ds : List Deed) → AllMayDo (opening number nodes neighbours) ds → AllByRecursion IsSmallFrame (flat_map (takes_by o) ds) → all_succeed ds + 1 < 2 ^ 64 → InOrder not_begun (letters_of n (along (says_by o) (opening number nodes neighbours) ds)) → Left (after_deeds (opening number nodes neighbours) ds)
  left-once number nodes neighbours ds may small few order =
      let start = opening number nodes neighbours in
      let serials : Serials (all_succeed ds) start = record { differ = tt; below = tt; small = omega arith } in
      let none : Lists = record { came = []; taken = []; lost = []; told = []; words = [] } in
      let ran = run_hearing o n (all_succeed ds) start not_begun none ds may (opening_sound number nodes neighbours) serials (omega arith) (small_deeds ds small) order (unheard (λ b. refl) (tt, no_replies neighbours o) refl refl refl refl refl) in
      record { sound = ran.sound; once = heard_once _ _ _ ran.hearing }
