-- What the frames that a domain puts say is what its sends had accepted, lane by lane: each frame of a send is read back, since the
-- addresses that a domain has and knows are real.
use Rattle.std.proofs.lemmas.List.Concat.{flat_map-append}
use Rattle.board_model.specs.Parts.{coming}
use Rattle.board_model.proofs.PartReadings.{Closed, is_part, alone-same}
use Rattle.board_model.proofs.PartLetters.{letter_frames, said-once}
use Rattle.board_model.proofs.PartPuts.{Reads, ReadsPosts, AllReads, one_post, posts_closed, deed_closed, owed_whole, IsWhole}
use Rattle.std.proofs.Common.{◌≡◌, ℕ, ◌+◌, ◌≤◌, Bool, true, false, not, cond, List, [], ◌∷◌, Option, Some, None, refl, sym, ap, ◌∙◌, subst, arith}
use Rattle.std.specs.Prelude.{count_by, is_none, is_some, option_map, unwrap_or, ◌==◌}
use Rattle.std.specs.List.{AllByRecursion, flat_map}
use Rattle.std.proofs.lemmas.List.{append-nil}
use Rattle.mc_base.specs.Limits.{creation_limit, last_node}
use Rattle.mc_base.specs.Fault.{fault}
use Rattle.mc_base.specs.Letter.{PlainLetter, msg, packet, scalar}
use Rattle.mc_base.specs.declared.channel.Side.{Side}
use Rattle.mc_base.specs.declared.channel.Side.TheVariants.{Sender, Receiver}
use Rattle.mc_base.specs.Reading.{says, reading}
use Rattle.mc_base.specs.declared.name.Local.{Local}
use Rattle.mc_base.specs.declared.name.EndName.{EndName}
use Rattle.mc_base.specs.declared.refusal.Refusal.{Refusal}
use Rattle.board_model.specs.LinkedBoard.{Differ}
use Rattle.board_model.specs.DomainCall.{DomainCall, create_at, delete_at, lookup_of, send_from, receive_at, request_at, available_at, connect_from, open_at, packet_from, lend_at, packet_request_at, release_of, scalar_from, scalar_at, close_at, test_of, wait_for, cancel_of, raw_to, turn_alone}
use Rattle.board_model.specs.Journal.{PlainAnswer, refuses, agrees}
use Rattle.board_model.specs.State.{ChannelEnd, Endpoint, DomainState, is_at, address_at, live_at}
use Rattle.board_model.specs.Answer.{local, address_of, holds, words_of, refusal, success, answer_by, channel_at, over_channel, opening_letter, closing_letter, Post, puts_of, post, success_posts, success_puts, unless_refused}
use Rattle.board_model.specs.CallChanges.{at_live}
use Rattle.board_model.specs.Deeds.{Deed, looks_back, puts_owed, looks_ahead, takes, calls, after_deed, after_deeds, MayDo, AllMayDo, along}
use Rattle.board_model.specs.Messages.{Message, said_by, accepted_by}
use Rattle.board_model.proofs.DeedRuns.{frames_if, frames_to, puts_by}
use Rattle.board_model.proofs.ListsCounts.{count-append}
use Rattle.board_model.proofs.MessageAlls.{none-passes}
use Rattle.board_model.proofs.MessageLists.{get-position, some-position}
use Rattle.board_model.proofs.MessageCanSend.{send-found}
use Rattle.board_model.proofs.MessageOnce.{total, total-same, total-zero, total-sum}
use Rattle.board_model.proofs.HonestFrames.{IsSilent}
use Rattle.board_model.proofs.HonestPosts.{CanReach, FitsCall}
use Rattle.board_model.proofs.HonestSound.{Sound}
use Rattle.board_model.proofs.HonestDeeds.{NoWord, HearsDeed, OwedWell, owed_well, sound_deed}
use Rattle.board_model.proofs.HonestRuns.{given_deeds}
use Rattle.board_model.proofs.KeptLanes.{peer_once, passing, passing-append, one_frame, said_alone, lane_once}
use Rattle.board_model.proofs.RawFrames.{raw_faulty}

-- a call as a lawful scenario has it
abbrev pub FitsDeed : Deed → Type 0
FitsDeed (calls node call a) = (node ≤ last_node) × FitsCall call
FitsDeed other = Unit {0}

not_false : (b : Bool) → not b ≡ false → b ≡ true
not_false true h = refl
not_false false h = absurd cc

-- what the frames of a letter say of messages
module _ (test : Message → Bool) where
  post_sends : (d n : ℕ) (x : Post) → Reads x → passing test d n (frames_to n (flat_map puts_of (x ∷ []))) ≡ cond (x.peer == n) (count_by test (said_by d n (says x.source x.destination x.letter))) 0
  post_sends d n x read = ap (passing test d n) (one_post n x) ∙ go (x.peer == n)
    where
      go : (b : Bool) → passing test d n (frames_if b (letter_frames x.source x.destination x.letter)) ≡ cond b (count_by test (said_by d n (says x.source x.destination x.letter))) 0
      go true = ap (count_by test) (said-once (said_by d n) (λ a c q. refl) x.source x.destination x.letter (letter_frames x.source x.destination x.letter) read)
      go false = refl

module _ (test : Message → Bool) (made_in : ℕ) (known : ℕ → ℕ → Type 0) (ns : List ℕ) (reach : (q a : ℕ) → known q a → CanReach a) (differ : Differ ns) (few : made_in ≤ creation_limit) where
  module _ (s : DomainState) (sound : Sound made_in known ns s) where
    -- ---- sends

    module _ (d node port : ℕ) (to : EndName) (priority : ℕ) (bytes : List ℕ) (low : priority ≤ 3) (free : refusal s node (send_from port to priority bytes) ≡ None) where
      abbrev at : Local
      at = local node port

      abbrev source : ℕ
      source = unwrap_or (address_at s at) 0

      abbrev target : ℕ
      target = unwrap_or (address_of s to) 0

      no_word : NoWord s node (send_from port to priority bytes)
      no_word = none-passes (holds s node (send_from port to priority bytes)) (words_of (send_from port to priority bytes)) free

      said : (x : Option Endpoint) → live_at s at ≡ x → is_some x ≡ true → count_by test (said_by d to.domain (says source target (msg priority bytes))) ≡ count_by test (at_live x (λ e. record { sender = d; source = e.address; receiver = to.domain; destination = target; priority = priority; content = bytes } ∷ []))
      said None is some = absurd cc
      said (Some e) is some =
          let own_source : source ≡ e.address = ap (λ o. unwrap_or (option_map (λ (k : Endpoint). k.address) o) 0) (get-position (is_at at) s.endpoints ∙ is) in
          ap (λ a. count_by test (said_by d to.domain (says a target (msg priority bytes)))) own_source

      there : is_some (live_at s at) ≡ true
      there = sym (some-position (is_at at) s.endpoints) ∙ not_false _ no_word.0

      pub send_said : AllByRecursion Reads (success_posts s node (send_from port to priority bytes)) → total (λ n. passing test d n (frames_to n (success_puts s node (send_from port to priority bytes)))) ns ≡ count_by test (accepted_by d s (calls node (send_from port to priority bytes) agrees))
      send_said read =
          total-same (λ n. passing test d n (frames_to n (success_puts s node (send_from port to priority bytes)))) (λ n. cond (to.domain == n) (count_by test (said_by d n (says source target (msg priority bytes)))) 0)
          (λ n. post_sends test d n (post to.domain source target (msg priority bytes)) read.0) ns
          ∙ (lane_once test ns to.domain (λ n. count_by test (said_by d n (says source target (msg priority bytes)))) (peer_once ns to.domain s.peers differ sound.numbers (send-found s node port to priority bytes free))
          ∙ said (live_at s at) refl there)

    -- ---- each deed

    abbrev Sends : ℕ → Deed → Type 0
    Sends d e = total (λ n. passing test d n (puts_by n s e)) ns ≡ count_by test (accepted_by d s e)

    none_put : total (λ (n : ℕ). 0) ns ≡ 0
    none_put = total-zero (λ (n : ℕ). 0) (λ n. refl) ns

    -- letters that are no messages
    says_silent : (d n a b : ℕ) (l : PlainLetter) → IsSilent l → said_by d n (says a b l) ≡ []
    says_silent d n a b (msg priority bytes) silent = absurd silent
    says_silent d n a b other silent = refl

    alone_to : (n : ℕ) (x : Post) → frames_to n (flat_map puts_of (x ∷ [])) ≡ frames_to n (puts_of x)
    alone_to n x = flat_map-append (λ (p : ℕ × List ℕ). frames_if (p.0 == n) (p.1 ∷ [])) (puts_of x) [] ∙ append-nil (frames_to n (puts_of x))

    silent_posts : (d : ℕ) (ps : List Post) → AllByRecursion (λ p. IsSilent p.letter) ps → AllByRecursion Reads ps → (n : ℕ) → passing test d n (frames_to n (flat_map puts_of ps)) ≡ 0
    silent_posts d [] all read n = refl
    silent_posts d (x ∷ xs) all read n =
        ap (passing test d n) (flat_map-append (λ (p : ℕ × List ℕ). frames_if (p.0 == n) (p.1 ∷ [])) (puts_of x) (flat_map puts_of xs))
        ∙ (passing-append test d n (frames_to n (puts_of x)) (frames_to n (flat_map puts_of xs)) (subst Closed (alone_to n x) (posts_closed n (x ∷ []) (read.0, tt)))
        ∙ omega (arith, ap (passing test d n) (alone_to n x), post_sends test d n x read.0, here (x.peer == n), silent_posts d xs all.1 read.1 n))
      where
        here : (b : Bool) → cond b (count_by test (said_by d n (says x.source x.destination x.letter))) 0 ≡ 0
        here true = ap (count_by test) (says_silent d n x.source x.destination x.letter all.0)
        here false = refl

    none_sent : (d : ℕ) (ps : List Post) → AllByRecursion (λ p. IsSilent p.letter) ps → AllByRecursion Reads ps → total (λ n. passing test d n (frames_to n (flat_map puts_of ps))) ns ≡ 0
    none_sent d ps all read = total-zero (λ n. passing test d n (frames_to n (flat_map puts_of ps))) (silent_posts d ps all read) ns

    over_silent : (x : Option Endpoint) (c : Option ChannelEnd) (letter : ℕ → PlainLetter) → ((n : ℕ) → IsSilent (letter n)) → AllByRecursion (λ p. IsSilent p.letter) (over_channel x c letter)
    over_silent None c letter silent = tt
    over_silent (Some e) None letter silent = tt
    over_silent (Some e) (Some c) letter silent = (silent c.number, tt)

    opening_silent : (side : Side) (n : ℕ) → IsSilent (opening_letter side n)
    opening_silent Sender n = tt
    opening_silent Receiver n = tt

    closing_silent : (side : Side) (n : ℕ) → IsSilent (closing_letter side n)
    closing_silent Sender n = tt
    closing_silent Receiver n = tt

    -- a raw frame says no message
    raw_sent : (d to : ℕ) (bytes : List ℕ) → is_none (fault bytes) ≡ false → total (λ n. passing test d n (frames_to n ((to, bytes) ∷ []))) ns ≡ 0
    raw_sent d to bytes unsound = total-zero (λ n. passing test d n (frames_to n ((to, bytes) ∷ []))) (λ n. ap (passing test d n) (append-nil (frames_if (to == n) (bytes ∷ []))) ∙ (one_frame test (to == n) d n bytes ∙ here n (to == n))) ns
      where
        here : (n : ℕ) (b : Bool) → cond b (passing test d n (bytes ∷ [])) 0 ≡ 0
        here n true = said_alone test d n bytes ∙ ap (λ r. count_by test (said_by d n (coming None r).reading)) (raw_faulty bytes unsound).1
        here n false = refl

    success_sends : (d node : ℕ) (call : DomainCall) → FitsDeed (calls node call (success s node call)) → refusal s node call ≡ None → AllByRecursion Reads (success_posts s node call) →
        total (λ n. passing test d n (frames_to n (success_puts s node call))) ns ≡ count_by test (accepted_by d s (calls node call (success s node call)))
    success_sends d node (send_from port to priority bytes) low free read = send_said d node port to priority bytes low.1 free read
    success_sends d node (create_at port) fits free read = none_put
    success_sends d node (delete_at port) fits free read = none_put
    success_sends d node (lookup_of name) fits free read = none_put
    success_sends d node (receive_at port max) fits free read = none_put
    success_sends d node (request_at port max) fits free read = none_put
    success_sends d node (available_at port) fits free read = none_put
    success_sends d node (connect_from port to kind) fits free read = none_sent d (success_posts s node (connect_from port to kind)) (tt, tt) read
    success_sends d node (open_at port side kind) fits free read = none_sent d (success_posts s node (open_at port side kind)) (over_silent (live_at s (local node port)) (channel_at s (local node port)) (opening_letter side) (opening_silent side)) read
    success_sends d node (packet_from port bytes) fits free read = none_sent d (success_posts s node (packet_from port bytes)) (over_silent (live_at s (local node port)) (channel_at s (local node port)) (λ number. packet number bytes) (λ n. tt)) read
    success_sends d node (lend_at port) fits free read = none_put
    success_sends d node (packet_request_at port) fits free read = none_put
    success_sends d node (release_of place) fits free read = none_put
    success_sends d node (scalar_from port bits value) fits free read = none_sent d (success_posts s node (scalar_from port bits value)) (over_silent (live_at s (local node port)) (channel_at s (local node port)) (λ number. scalar number bits value) (λ n. tt)) read
    success_sends d node (scalar_at port bits) fits free read = none_put
    success_sends d node (close_at port side) fits free read = none_sent d (success_posts s node (close_at port side)) (over_silent (live_at s (local node port)) (channel_at s (local node port)) (closing_letter side) (closing_silent side)) read
    success_sends d node (test_of request) fits free read = none_put
    success_sends d node (wait_for requests says_place) fits free read = none_put
    success_sends d node (cancel_of request) fits free read = none_put
    success_sends d node (raw_to to bytes) fits free read = raw_sent d to bytes (none-passes (holds s node (raw_to to bytes)) (words_of (raw_to to bytes)) free).1.0
    success_sends d node turn_alone fits free read = none_put

    call_sends : (d node : ℕ) (call : DomainCall) (o : Option Refusal) (a : PlainAnswer) → refusal s node call ≡ o → a ≡ answer_by o (success s node call) → FitsDeed (calls node call a) → (refusal s node call ≡ None → AllByRecursion Reads (success_posts s node call)) →
        total (λ n. passing test d n (frames_to n (unless_refused o [] (success_puts s node call)))) ns ≡ count_by test (accepted_by d s (calls node call a))
    call_sends d node call (Some w) a free is fits read = none_put ∙ subst (λ k. 0 ≡ count_by test (accepted_by d s (calls node call k))) (sym is) (sym (ap (count_by test) (accepts_none call)))
      where
        accepts_none : (c : DomainCall) → accepted_by d s (calls node c (refuses w)) ≡ []
        accepts_none (send_from port to priority bytes) = refl
        accepts_none other = refl
    call_sends d node call None a free is fits read =
        subst (λ k. total (λ n. passing test d n (frames_to n (success_puts s node call))) ns ≡ count_by test (accepted_by d s (calls node call k))) (sym is)
        (success_sends d node call (subst (λ k. FitsDeed (calls node call k)) is fits) free (read free))

    owed_none : (d q : ℕ) (f : List ℕ) (w : OwedWell made_in known ns s sound f) → is_part (reading f) ≡ false → (n : ℕ) → passing test d n (frames_if (q == n) (f ∷ [])) ≡ 0
    owed_none d q f w whole n = one_frame test (q == n) d n f ∙ go (q == n)
      where
        go : (b : Bool) → cond b (passing test d n (f ∷ [])) 0 ≡ 0
        go true = said_alone test d n f ∙ ap (count_by test) (ap (said_by d n) (alone-same (reading f) whole) ∙ w.silent d n)
        go false = refl

    deed_sends : (d : ℕ) (e : Deed) → FitsDeed e → MayDo s e → ReadsPosts 0 s e → Sends d e
    deed_sends d (looks_back q n) fits may read = none_put
    deed_sends d (looks_ahead q n) fits may read = none_put
    deed_sends d (takes q name frame word) fits may read = none_put
    deed_sends d (puts_owed q frame) fits may read = total-zero (λ n. passing test d n (frames_if (q == n) (frame ∷ []))) (owed_none d q frame (owed_well made_in known ns s sound q frame few may) (subst (AllByRecursion IsWhole) may.3 (owed_whole s.number may.0)).0) ns
    deed_sends d (calls node call a) fits may read = call_sends d node call (refusal s node call) a refl may fits read

  -- ---- a run

  pub run_sends : (d : ℕ) (s : DomainState) (ds : List Deed) → AllMayDo s ds → AllByRecursion (HearsDeed known) ds → AllByRecursion FitsDeed ds → ((q : ℕ) → AllReads q s ds) → (after_deeds s ds).endpoints_given ≤ made_in → Sound made_in known ns s →
      count_by test (along (accepted_by d) s ds) ≡ total (λ n. passing test d n (along (puts_by n) s ds)) ns
  run_sends d s [] may hears fits reads within sound = sym (total-zero (λ (n : ℕ). 0) (λ n. refl) ns)
  run_sends d s (e ∷ ds) may hears fits reads within sound =
      let t : DomainState = after_deed s e in
      let parts : total (λ n. passing test d n (along (puts_by n) s (e ∷ ds))) ns ≡ total (λ n. passing test d n (puts_by n s e)) ns + total (λ n. passing test d n (along (puts_by n) t ds)) ns
      = total-sum (λ n. passing test d n (along (puts_by n) s (e ∷ ds))) (λ n. passing test d n (puts_by n s e)) (λ n. passing test d n (along (puts_by n) t ds)) (λ n. passing-append test d n (puts_by n s e) (along (puts_by n) t ds) (deed_closed n s e may.0 (reads n).0)) ns in
      omega (
        arith,
        parts,
        count-append test (accepted_by d s e) (along (accepted_by d) t ds),
        deed_sends s sound d e fits.0 may.0 (reads 0).0,
        run_sends d t ds may.1 hears.1 fits.1 (λ q. (reads q).1) within (sound_deed made_in known ns s sound e hears.0 (omega (arith, given_deeds t ds))),
      )
