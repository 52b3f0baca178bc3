-- The items of one domain are kept: what its frames bring is taken or dropped, or is queued, deed by deed.
use Rattle.board_model.specs.Parts.{Came, came_from, said_from}
use Rattle.mc_base.specs.Pieces.{frames_needed}
use Rattle.std.proofs.Common.{◌≡◌, ℕ, ◌+◌, Bool, true, false, cond, List, [], ◌∷◌, ◌++◌, map, find, filter, Option, Some, None, option_to_list, refl, sym, ap, ◌∙◌, subst, arith}
use Rattle.std.specs.Prelude.{count_by, length, is_none, is_some, option_map, ◌&&◌, ◌||◌}
use Rattle.std.specs.List.{AllByRecursion, list_any}
use Rattle.std.proofs.lemmas.Bool.{eqb-true, eq-eqb, and_parts}
use Rattle.std.proofs.lemmas.List.{append-nil}
use Rattle.std.proofs.lemmas.List.Elements.{filter-append}
use Rattle.byteorder.specs.Endian.{little_bytes}
use Rattle.mc_base.specs.Letter.{PlainLetter, msg, packet, scalar, bytes_of_bits}
use Rattle.mc_base.specs.Reading.{Reading, is_faulty, announces, says, brings}
use Rattle.mc_base.specs.declared.name.Local.{Local}
use Rattle.mc_base.specs.declared.name.EndName.{EndName}
use Rattle.mc_base.specs.declared.channel.Kind.TheVariants.{Packet, Scalar}
use Rattle.mc_base.specs.declared.channel.Bits.{Bits}
use Rattle.mc_base.specs.declared.channel.Side.{Side}
use Rattle.mc_base.specs.declared.channel.Side.TheVariants.{Sender, Receiver}
use Rattle.mc_base.specs.declared.refusal.Refusal.{Refusal}
use Rattle.mc_base.specs.declared.refusal.Refusal.TheVariants.{EndpInvalid, ChanClosed}
use Rattle.mc_base.specs.declared.fate.Fate.{Fate}
use Rattle.mc_base.specs.declared.fate.Fate.TheVariants as fate
use Rattle.board_model.specs.Lists.{without}
use Rattle.board_model.specs.Choice.{best, oldest}
use Rattle.board_model.specs.DomainCall.{DomainCall, create_at, delete_at, lookup_of, send_from, receive_at, request_at, available_at, connect_from, open_at, packet_from, lend_at, packet_request_at, release_of, scalar_from, scalar_at, close_at, test_of, wait_for, cancel_of, raw_to, turn_alone}
use Rattle.board_model.specs.Journal.{PlainAnswer, refuses, agrees, tells, connects, gives, completes}
use Rattle.board_model.specs.State.{Item, ChannelEnd, Endpoint, name_of, channel_of, message_at, packet_at, has_address, has_item, has_ended, Request, DomainState, is_at, has_address_of, live_at, endpoint_at, endpoint_of, request_at_place, queue_at, queue_in, one_waits, oldest_waiting, receives_at, waits_at}
use Rattle.board_model.specs.Change.{Change, item_handed, item_queued, item_lost, channel_set, frame_taken, endpoint_gone, best_gone, oldest_gone, request_added, request_gone, waiting_ended, name_found, connect_settled, end_announced, reply_owed, names_known, buffers_used, packet_lent, packet_gone, channel_given, endpoint_with, all_done, done_with, asks_for, connects_on, handed_in, ended_in, with_queue, with_channel, at_address, changed, changed_all}
use Rattle.board_model.specs.ChannelEnds.{receives, opened_end, closed_end}
use Rattle.board_model.specs.TakenFrames.{Row, row, rejecting, accepting, acting, item_of, message_item, channel_item, message_rows, letter_rows, first_row, row_of}
use Rattle.board_model.specs.Answer.{first_complete, local, address_of, given, holds, words_of, refusal, success, answer_by, unless_refused}
use Rattle.board_model.specs.CallChanges.{at_live, at_end, best_item, new_sender, closing, lending, success_changes}
use Rattle.board_model.specs.Deeds.{Deed, looks_back, puts_owed, looks_ahead, takes, calls, after_deed, MayDo, taken_change}
use Rattle.board_model.specs.Messages.{Message, message_of, said_by, is_message_item, queued_at}
use Rattle.board_model.specs.Drops.{drops, dropped_by}
use Rattle.board_model.specs.Takings.{Taking, taking, is_message_taking, taken_message, answered_by, item_held, asked_address, takings_by}
use Rattle.board_model.proofs.LaneRows.{Carried, Deals, stays, strays, awaits, learns, forgets, hands, queues, loses, rejects, accepts, acts, acting-all, row-deals}
use Rattle.board_model.proofs.ListsCounts.{one_if, count-cons}
use Rattle.board_model.proofs.MessageAlls.{none-passes, all-found, all-weaken, found-passes}
use Rattle.board_model.proofs.MessageLists.{get-position}
use Rattle.board_model.proofs.MessageNames.{found_by, each-found}
use Rattle.board_model.proofs.OrderSerials.{Serials}
use Rattle.board_model.proofs.OrderSound.{Sound as Queues, Bound, CameOn, came-no-message, sound_bound}
use Rattle.board_model.proofs.OrderDeeds.{asked_there}
use Rattle.board_model.proofs.OrderChannels.{no-messages, waiter-no-message}
use Rattle.board_model.proofs.LaneCalls.{end-there}
use Rattle.board_model.proofs.OrderTakings.{taken_of, IsOld, all_old, none_taken, old_mapped, old_done, old_without, done_old, ended_old, handed_takes, waiter_takes, added_takes, given_takes}
use Rattle.board_model.proofs.HonestSound.{own, Sound}
use Rattle.board_model.proofs.StateEnds.{end-holds, lending-holds, tested-holds}
use Rattle.board_model.proofs.KeptItems.{OnSome, weight, took, took-item, best_weight, weight-set, weight-dropped, weight-oldest, weight-queued, weight-best, weight-made, weight-gone}

-- the messages of the frames that a deed takes
abbrev pub brought_by : ℕ → DomainState → Deed → List Message
brought_by r s (takes peer name frame word) = said_by peer r (said_from s peer frame)
brought_by r s other = []

found_one : (at : Local) (rs : List Request) → list_any (waits_at at) rs ≡ true → is_some (find (waits_at at) rs) ≡ true
found_one at [] any = absurd cc
found_one at (x ∷ xs) any = go (waits_at at x) any (λ k. found_one at xs k)
  where
    go : (b : Bool) → (b || list_any (waits_at at) xs) ≡ true → (list_any (waits_at at) xs ≡ true → is_some (find (waits_at at) xs) ≡ true) → is_some (cond b (Some x) (find (waits_at at) xs)) ≡ true
    go true is later = refl
    go false is later = later is

-- a change by which nothing is taken, and no item comes to a queue or goes from one
abbrev pub Mild : Change → Type 0
Mild (channel_set a c) = Unit {0}
Mild (waiting_ended a w) = Unit {0}
Mild (name_found n a) = Unit {0}
Mild (connect_settled n o) = item_held (Some o) ≡ []
Mild (reply_owed q reply) = Unit {0}
Mild (frame_taken q part names) = Unit {0}
Mild (names_known q ks) = Unit {0}
Mild (buffers_used q count) = Unit {0}
Mild (request_gone place) = Unit {0}
Mild (item_lost a i) = Unit {0}
Mild (packet_lent i) = Unit {0}
Mild (packet_gone place) = Unit {0}
Mild other = ⊥

mild_old : (s t : DomainState) (c : Change) → Mild c → AllByRecursion (IsOld s) t.requests → AllByRecursion (IsOld s) (changed t c).requests
mild_old s t (channel_set a c) mild old = old
mild_old s t (waiting_ended a w) mild old = go (endpoint_of t a)
  where
    go : (x : Option Endpoint) → AllByRecursion (IsOld s) (ended_in x w t.requests)
    go None = old
    go (Some e) = old_mapped s (λ q. cond (waits_at e.local q) (done_with (has_ended w) q) q) (λ q was. old_done s (waits_at e.local q) (has_ended w) q refl was) t.requests old
mild_old s t (name_found n a) mild old = old_mapped s (all_done (asks_for n) (has_address a)) (λ q was. old_done s (is_none q.outcome && asks_for n q.asked) (has_address a) q refl was) t.requests old
mild_old s t (connect_settled n o) mild old = old_mapped s (all_done (connects_on n) o) (λ q was. old_done s (is_none q.outcome && connects_on n q.asked) o q mild was) t.requests old
mild_old s t (reply_owed q reply) mild old = old
mild_old s t (frame_taken q part names) mild old = old
mild_old s t (names_known q ks) mild old = old
mild_old s t (buffers_used q count) mild old = old
mild_old s t (request_gone place) mild old = old_without s place t.requests old
mild_old s t (item_lost a i) mild old = old
mild_old s t (packet_lent i) mild old = old
mild_old s t (packet_gone place) mild old = old
mild_old s t other mild old = absurd mild

module _ (r : ℕ) (test : Message → Bool) where
  mild_weight : (t : DomainState) (c : Change) → Mild c → weight r test (changed t c).endpoints ≡ weight r test t.endpoints
  mild_weight t (channel_set a c) mild = weight-set r test a c t.endpoints
  mild_weight t (waiting_ended a w) mild = refl
  mild_weight t (name_found n a) mild = refl
  mild_weight t (connect_settled n o) mild = refl
  mild_weight t (reply_owed q reply) mild = refl
  mild_weight t (frame_taken q part names) mild = refl
  mild_weight t (names_known q ks) mild = refl
  mild_weight t (buffers_used q count) mild = refl
  mild_weight t (request_gone place) mild = refl
  mild_weight t (item_lost a i) mild = refl
  mild_weight t (packet_lent i) mild = refl
  mild_weight t (packet_gone place) mild = refl
  mild_weight t other mild = absurd mild

  -- what the deed leads to, with the requests and the endpoints after it
  abbrev Balance : DomainState → List Message → List Taking → List Message → List Endpoint → Type 0
  Balance s came ts lost es = count_by test came + weight r test s.endpoints ≡ took r test ts + count_by test lost + weight r test es

  abbrev pub Balanced : DomainState → Deed → Type 0
  Balanced s d = Balance s (brought_by r s d) (takings_by s d) (dropped_by r s d) (after_deed s d).endpoints

  -- no message is taken
  no_message : (s : DomainState) (ts : List Taking) (es : List Endpoint) → filter is_message_taking ts ≡ [] → weight r test es ≡ weight r test s.endpoints → Balance s [] ts [] es
  no_message s ts es none same = omega (arith, same, ap (λ (xs : List Taking). count_by test (map (taken_message r) xs)) none)

  nothing : (s : DomainState) (ts : List Taking) (es : List Endpoint) → ts ≡ [] → weight r test es ≡ weight r test s.endpoints → Balance s [] ts [] es
  nothing s ts es none same = no_message s ts es (ap (filter is_message_taking) none) same

  module _ (made : ℕ) (known : ℕ → ℕ → Type 0) (ns : List ℕ) (room : ℕ) (s : DomainState) (sound : Sound made known ns s) (order : Queues s) (serials : Serials room s) where
    none_new : taken_of s s.requests ≡ []
    none_new = none_taken s s.requests (all_old s)

    -- by these changes no message is taken, and none comes or goes
    record Idles (cs : List Change) : Type 0 where
      nothing_taken : filter is_message_taking (taken_of s (changed_all s cs).requests) ≡ []
      same : weight r test (changed_all s cs).endpoints ≡ weight r test s.endpoints

    mild_from : (t : DomainState) (cs : List Change) → AllByRecursion Mild cs → AllByRecursion (IsOld s) t.requests → weight r test t.endpoints ≡ weight r test s.endpoints → AllByRecursion (IsOld s) (changed_all t cs).requests × (weight r test (changed_all t cs).endpoints ≡ weight r test s.endpoints)
    mild_from t [] mild old same = (old, same)
    mild_from t (c ∷ cs) mild old same = mild_from (changed t c) cs mild.1 (mild_old s t c mild.0 old) (mild_weight t c mild.0 ∙ same)

    mild_idles : (cs : List Change) → AllByRecursion Mild cs → Idles cs
    mild_idles cs mild = let all = mild_from s cs mild (all_old s) refl in record { nothing_taken = ap (filter is_message_taking) (none_taken s (changed_all s cs).requests all.0); same = all.1 }

    found_none : (n : EndName) (a : ℕ) → taken_of s (map (all_done (asks_for n) (has_address a)) s.requests) ≡ []
    found_none n a = none_taken s _ (done_old s (asks_for n) (has_address a) refl)

    ended_none : (x : Option Endpoint) (w : Refusal) → taken_of s (ended_in x w s.requests) ≡ []
    ended_none x w = none_taken s _ (ended_old s x w)

    -- an endpoint of the domain is found by its name, and by its address
    own_end : (p : Endpoint → Bool) (e : Endpoint) → find p s.endpoints ≡ Some e → endpoint_of s e.address ≡ Some e
    own_end p e is = (own p 1024 (1024 + s.endpoints_given) s.endpoints e sound.rise is).found

    named_end : (p : Endpoint → Bool) (at : Local) (e : Endpoint) → find p s.endpoints ≡ Some e → is_at at e ≡ true → live_at s at ≡ Some e
    named_end p at e is here = all-found (found_by at s.endpoints) p s.endpoints e (each-found at s.endpoints sound.apart) is here

    -- ---- frames

    no_said : (b : Bool) → count_by test (cond b [] []) ≡ 0
    no_said true = refl
    no_said false = refl

    -- a frame that says no message
    abbrev Leads : ℕ → Came → Reading → Fate → Type 0
    Leads q name rd word = let t = changed_all s (taken_change q name ∷ (row_of s q name rd).happens) in Balance s (said_by q r rd) (taken_of s t.requests) (cond (drops word) (said_by q r rd) []) t.endpoints

    idle_leads : (q : ℕ) (name : Came) (rd : Reading) (word : Fate) → said_by q r rd ≡ [] → Idles (taken_change q name ∷ (row_of s q name rd).happens) → Leads q name rd word
    idle_leads q name rd word silent idles =
        omega (arith, ap (count_by test) silent, ap (λ (xs : List Taking). count_by test (map (taken_message r) xs)) idles.nothing_taken, ap (λ (ms : List Message). count_by test (cond (drops word) ms [])) silent, no_said (drops word), idles.same)

    -- a message is said
    says_one : (q source at priority : ℕ) (content : List ℕ) (rd : Reading) → rd ≡ says source at (msg priority content) → said_by q r rd ≡ [] → ⊥
    says_one q source at priority content rd is silent = let none : said_by q r (says source at (msg priority content)) ≡ [] = subst (λ x. said_by q r x ≡ []) is silent in absurd cc

    silent_idles : (q : ℕ) (name : Came) (rd : Reading) → said_by q r rd ≡ [] → Idles (taken_change q name ∷ (row_of s q name rd).happens)
    silent_idles q name rd silent = go (row-deals s q name rd)
      where
        by : (cs : List Change) → (row_of s q name rd).happens ≡ cs → Idles (taken_change q name ∷ cs) → Idles (taken_change q name ∷ (row_of s q name rd).happens)
        by cs happens idles = subst (λ xs. Idles (taken_change q name ∷ xs)) (sym happens) idles

        on_channel : (at number source : ℕ) (content : List ℕ) (e : Endpoint) → endpoint_of s at ≡ Some e → Idles (taken_change q name ∷ item_queued at (channel_item q name source number content) ∷ [])
        on_channel at number source content e found = record { nothing_taken = ap (filter is_message_taking) none_new; same = weight-queued r test at (channel_item q name source number content) e s.endpoints found ∙ omega arith }

        to_request : (at : ℕ) (i : Item) (e : Endpoint) → is_none i.channel ≡ false → endpoint_of s at ≡ Some e → Idles (taken_change q name ∷ item_handed at i ∷ [])
        to_request at i e none found = record {
          nothing_taken = ap (λ x. filter is_message_taking (taken_of s (handed_in x i s.requests))) found ∙ (ap (filter is_message_taking) (handed_takes s e i serials.differ) ∙ waiter-no-message s i none (oldest_waiting s e.local));
          same = refl;
        }

        handed_idles : (source at : ℕ) (l : PlainLetter) (e : Endpoint) → rd ≡ says source at l → endpoint_of s at ≡ Some e → Carried q e l → Idles (taken_change q name ∷ item_handed at (item_of q name source l) ∷ [])
        handed_idles source at (msg priority content) e is found carried = absurd (says_one q source at priority content rd is silent)
        handed_idles source at (packet number content) e is found carried = to_request at (channel_item q name source number content) e refl found
        handed_idles source at (scalar number bits value) e is found carried = to_request at (channel_item q name source number (little_bytes (bytes_of_bits bits) value)) e refl found
        handed_idles source at other e is found carried = absurd carried

        queued_idles : (source at : ℕ) (l : PlainLetter) (e : Endpoint) → rd ≡ says source at l → endpoint_of s at ≡ Some e → Carried q e l → Idles (taken_change q name ∷ item_queued at (item_of q name source l) ∷ [])
        queued_idles source at (msg priority content) e is found carried = absurd (says_one q source at priority content rd is silent)
        queued_idles source at (packet number content) e is found carried = on_channel at number source content e found
        queued_idles source at (scalar number bits value) e is found carried = on_channel at number source (little_bytes (bytes_of_bits bits) value) e found
        queued_idles source at other e is found carried = absurd carried

        go : Deals s q name rd (row_of s q name rd) → Idles (taken_change q name ∷ (row_of s q name rd).happens)
        go (stays happens word) = by [] happens (mild_idles (taken_change q name ∷ []) (tt, tt))
        go (strays source at p is none happens word) = by [] happens (mild_idles (taken_change q name ∷ []) (tt, tt))
        go (awaits source at p is some happens word) = by [] happens (mild_idles (taken_change q name ∷ []) (tt, tt))
        go (learns text n a names is learned_so happens word) = by (names_known q names ∷ name_found n a ∷ []) happens (mild_idles _ (tt, (tt, (tt, tt))))
        go (forgets text n a names is forgotten_so happens word) = by (names_known q names ∷ []) happens (mild_idles _ (tt, (tt, tt)))
        go (hands source at l e is found carried waits happens word) = by (item_handed at (item_of q name source l) ∷ []) happens (handed_idles source at l e is found carried)
        go (queues source at l e is found carried none happens word) = by (item_queued at (item_of q name source l) ∷ []) happens (queued_idles source at l e is found carried)
        go (loses source at l e is found late happens word) = by (item_lost at (item_of q name source l) ∷ []) happens (mild_idles _ (tt, (tt, tt)))
        go (rejects source at number kind why is happens word) = by (rejecting q source at number why) happens (mild_idles _ (tt, (tt, tt)))
        go (accepts source at number kind e is found free idle happens word) = by (accepting q source at number kind) happens (mild_idles _ (tt, (tt, (tt, tt))))
        go (acts source at l e c left is found has row happens word) = by (acting at left l) happens (mild_idles (taken_change q name ∷ acting at left l) (tt, acting-all Mild at left tt (λ n. refl) (λ n why. refl) tt l))

    -- messages, by the endpoint with the destination's address
    module _ (q : ℕ) (name : Came) (src dst : ℕ) where
      -- what a row leads to
      abbrev Arrives : Row → List Message → Fate → Type 0
      Arrives row ms word = let t = changed_all s (taken_change q name ∷ row.happens) in Balance s ms (taken_of s t.requests) (cond (drops word) ms []) t.endpoints

      dropped : (w : Fate) → drops w ≡ true → (ms : List Message) (word : Fate) → w ≡ word → Balance s ms (taken_of s s.requests) (cond (drops word) ms []) s.endpoints
      dropped w lost ms word is = subst (λ v. Balance s ms (taken_of s s.requests) (cond (drops v) ms []) s.endpoints) is (omega (arith, ap (took r test) none_new, ap (λ (b : Bool). count_by test (cond b ms [])) lost))

      module _ (e : Endpoint) (found : endpoint_of s dst ≡ Some e) (i : Item) (message : is_message_item i ≡ true) where
        here : e.address ≡ dst
        here = eqb-true e.address dst (found-passes (has_address_of dst) s.endpoints e found)

        waiter : (o : Option Request) → oldest_waiting s e.local ≡ o → is_some o ≡ true → took r test (waiter_takes s i o) ≡ count_by test (message_of r dst i ∷ [])
        waiter None is some = absurd cc
        waiter (Some w) is some =
            let waits = and_parts (is_none w.outcome) (receives_at e.local w.asked) (found-passes (waits_at e.local) s.requests w is) in
            let asks : asked_address s w.asked ≡ e.address ∷ [] = asked_there s e.local w.asked e waits.1 (λ at same. named_end (has_address_of dst) at e found same) refl in
            ap (λ (ns : List ℕ). took r test (map (λ a. taking (Some w.serial) a i) ns)) asks
            ∙ (ap (λ (b : Bool). count_by test (map (taken_message r) (cond b (taking (Some w.serial) e.address i ∷ []) []))) message
            ∙ ap (λ n. count_by test (message_of r n i ∷ [])) here)

        handed : (word : Fate) → one_waits s e.local ≡ true → fate.Handed ≡ word → Balance s (message_of r dst i ∷ []) (taken_of s (handed_in (endpoint_of s dst) i s.requests)) (cond (drops word) (message_of r dst i ∷ []) []) s.endpoints
        handed word waits is =
            let takes_it : taken_of s (handed_in (endpoint_of s dst) i s.requests) ≡ waiter_takes s i (oldest_waiting s e.local) = ap (λ x. taken_of s (handed_in x i s.requests)) found ∙ handed_takes s e i serials.differ in
            subst (λ w. Balance s (message_of r dst i ∷ []) (taken_of s (handed_in (endpoint_of s dst) i s.requests)) (cond (drops w) (message_of r dst i ∷ []) []) s.endpoints) is
            (omega (arith, ap (took r test) takes_it, waiter (oldest_waiting s e.local) refl (found_one e.local s.requests waits)))

        queued : (word : Fate) → fate.Queued ≡ word → Balance s (message_of r dst i ∷ []) (taken_of s s.requests) (cond (drops word) (message_of r dst i ∷ []) []) (at_address dst (with_queue (λ k. k ++ i ∷ [])) s.endpoints)
        queued word is = subst (λ w. Balance s (message_of r dst i ∷ []) (taken_of s s.requests) (cond (drops w) (message_of r dst i ∷ []) []) (at_address dst (with_queue (λ k. k ++ i ∷ [])) s.endpoints)) is
            (omega (arith, ap (took r test) none_new, weight-queued r test dst i e s.endpoints found, ap (λ b. one_if (b && test (message_of r dst i))) message, count-cons test (message_of r dst i) []))

      module _ (priority : ℕ) (content : List ℕ) where
        abbrev brought : Item
        brought = message_item q name src priority content

        letter : (x : Option Endpoint) → endpoint_of s dst ≡ x → (word : Fate) → (first_row (letter_rows s q name src dst x (msg priority content))).word ≡ word →
            Arrives (first_row (letter_rows s q name src dst x (msg priority content))) (message_of r dst brought ∷ []) word
        letter None found word is = dropped fate.NoEndpoint refl (message_of r dst brought ∷ []) word is
        letter (Some e) found word is = at e.channel is
          where
            by : (b : Bool) → one_waits s e.local ≡ b → (cond b (row b fate.Handed (item_handed dst brought ∷ [])) (row true fate.Queued (item_queued dst brought ∷ []))).word ≡ word →
                Arrives (cond b (row b fate.Handed (item_handed dst brought ∷ [])) (row true fate.Queued (item_queued dst brought ∷ []))) (message_of r dst brought ∷ []) word
            by true waits k = handed e found brought refl word waits k
            by false waits k = queued e found brought refl word k

            at : (c : Option ChannelEnd) → (first_row (message_rows s dst e c brought)).word ≡ word → Arrives (first_row (message_rows s dst e c brought)) (message_of r dst brought ∷ []) word
            at None k = by (one_waits s e.local) refl k
            at (Some c) k = dropped fate.OnChannel refl (message_of r dst brought ∷ []) word k

    take_leads : (q : ℕ) (name : Came) (rd : Reading) (word : Fate) → (row_of s q name rd).word ≡ word → Leads q name rd word
    take_leads q name (is_faulty w) word is = idle_leads q name (is_faulty w) word refl (silent_idles q name (is_faulty w) refl)
    take_leads q name (announces text a there) word is = idle_leads q name (announces text a there) word refl (silent_idles q name (announces text a there) refl)
    take_leads q name (brings src dst p) word is = idle_leads q name (brings src dst p) word refl (silent_idles q name (brings src dst p) refl)
    take_leads q name (says src dst (msg priority content)) word is = letter q name src dst priority content (endpoint_of s dst) refl word is
    take_leads q name (says src dst l) word is = idle_leads q name (says src dst l) word refl (silent_idles q name (says src dst l) refl)

    -- ---- calls

    gone_none : (place : Option ℕ) → taken_of s (without place s.requests) ≡ []
    gone_none place = none_taken s _ (old_without s place s.requests (all_old s))

    deleted : (x : Option Endpoint) (at : Local) → live_at s at ≡ x →
        let t = changed_all s (at_live x (λ e. waiting_ended e.address EndpInvalid ∷ endpoint_gone e.address ∷ end_announced (record { local = e.local; address = e.address; create = false }) ∷ [])) in
        Balance s [] (taken_of s t.requests) (at_live x (queued_at r)) t.endpoints
    deleted None at found = nothing s (taken_of s s.requests) s.endpoints none_new refl
    deleted (Some e) at found =
        omega (arith, ap (took r test) (ended_none (endpoint_of s e.address) EndpInvalid), weight-gone r test e.address 1024 (1024 + s.endpoints_given) s.endpoints e sound.rise (own_end (is_at at) e found))

    looked_up : (o : Option ℕ) (name : EndName) → taken_of s (s.requests ++ record { serial = s.requests_given; asked = name_of name; outcome = option_map has_address o } ∷ []) ≡ []
    looked_up None name = added_takes s (name_of name) None serials.below
    looked_up (Some a) name = added_takes s (name_of name) (Some (has_address a)) serials.below

    -- a receive that answers takes the best
    abbrev receives_best : Option Endpoint → PlainAnswer → List Taking
    receives_best x (gives size bytes) = at_live x (λ e. map (taking None e.address) (option_to_list (best_item e)))
    receives_best x other = []

    receives_is : (node port max : ℕ) (a : PlainAnswer) → answered_by s (calls node (receive_at port max) a) ≡ receives_best (live_at s (local node port)) a
    receives_is node port max (gives size bytes) = refl
    receives_is node port max (refuses w) = refl
    receives_is node port max agrees = refl
    receives_is node port max (tells n) = refl
    receives_is node port max (connects n channel) = refl
    receives_is node port max (completes place res) = refl

    best_taken : (e : Endpoint) (max : ℕ) (o : Option Item) → best_item e ≡ o → took r test (receives_best (Some e) (given max o)) ≡ best_weight r test (Some e)
    best_taken e max None is = sym (ap (λ x. took r test (map (taking None e.address) (option_to_list x))) is) ∙ took-item r test None e.address (best_item e)
    best_taken e max (Some i) is = took-item r test None e.address (best_item e)

    received : (x : Option Endpoint) (at : Local) (max : ℕ) → live_at s at ≡ x →
        let t = changed_all s (at_live x (λ e. best_gone e.address ∷ [])) in
        Balance s [] (receives_best x (given max (best (λ i. i.priority) (queue_in x))) ++ taken_of s t.requests) [] t.endpoints
    received None at max found = nothing s (taken_of s s.requests) s.endpoints none_new refl
    received (Some e) at max found =
        let ts : List Taking = receives_best (Some e) (given max (best_item e)) in
        let all : ts ++ taken_of s s.requests ≡ ts = ap (λ xs. ts ++ xs) none_new ∙ append-nil ts in
        omega (arith, ap (took r test) all, best_taken e max (best_item e) refl, weight-best r test e.address e s.endpoints (own_end (is_at at) e found))

    -- a request asks at the endpoint of its call
    own_asked : (e : Endpoint) (at : Local) → live_at s at ≡ Some e → at_live (live_at s e.local) (λ k. k.address ∷ []) ≡ e.address ∷ []
    own_asked e at found =
        let self : is_at e.local e ≡ true = rw (eq-eqb e.local.node e.local.node refl, eq-eqb e.local.port e.local.port refl) refl in
        ap (λ x. at_live x (λ k. k.address ∷ [])) (named_end (is_at at) e.local e found self)

    -- a request for a message takes the best
    best_asked : (e : Endpoint) (at : Local) (max : ℕ) (o : Option Item) → live_at s at ≡ Some e → best_item e ≡ o → took r test (given_takes s (message_at e.local max) (option_map has_item o)) ≡ best_weight r test (Some e)
    best_asked e at max None found is = sym (ap (λ x. took r test (map (taking None e.address) (option_to_list x))) is) ∙ took-item r test None e.address (best_item e)
    best_asked e at max (Some i) found is =
        ap (λ (ns : List ℕ). took r test (map (λ a. taking (Some s.requests_given) a i) ns)) (own_asked e at found)
        ∙ (sym (ap (λ x. took r test (map (taking (Some s.requests_given) e.address) (option_to_list x))) is) ∙ took-item r test (Some s.requests_given) e.address (best_item e))

    asked_for : (x : Option Endpoint) (at : Local) (max : ℕ) → live_at s at ≡ x →
        let t = changed_all s (at_live x (λ e. best_gone e.address ∷ request_added (message_at e.local max) (option_map has_item (best_item e)) ∷ [])) in
        Balance s [] (taken_of s t.requests) [] t.endpoints
    asked_for None at max found = nothing s (taken_of s s.requests) s.endpoints none_new refl
    asked_for (Some e) at max found =
        omega (
          arith,
          ap (took r test) (added_takes s (message_at e.local max) (option_map has_item (best_item e)) serials.below),
          best_asked e at max (best_item e) found refl,
          weight-best r test e.address e s.endpoints (own_end (is_at at) e found),
        )

    -- ---- calls at the end of a channel

    connected : (x : Option Endpoint) (at : Local) (peer n : ℕ) (c : ChannelEnd) → live_at s at ≡ x →
        let t = changed_all s (at_live x (λ e. buffers_used peer 1 ∷ channel_set e.address (Some c) ∷ request_added (channel_of n) None ∷ channel_given ∷ [])) in
        Balance s [] (taken_of s t.requests) [] t.endpoints
    connected None at peer n c found = nothing s (taken_of s s.requests) s.endpoints none_new refl
    connected (Some e) at peer n c found = nothing s _ (at_address e.address (with_channel (Some c)) s.endpoints) (added_takes s (channel_of n) None serials.below) (weight-set r test e.address (Some c) s.endpoints)

    idle : (cs : List Change) → Idles cs → Balance s [] (taken_of s (changed_all s cs).requests) [] (changed_all s cs).endpoints
    idle cs idles = no_message s (taken_of s (changed_all s cs).requests) (changed_all s cs).endpoints idles.nothing_taken idles.same

    -- what is queued at a channel's end came on it
    all_on_some : (at : Local) (e : Endpoint) (c : ChannelEnd) → live_at s at ≡ Some e → e.channel ≡ Some c → AllByRecursion OnSome e.queue
    all_on_some at e c found has = all-weaken (CameOn c) OnSome (came-no-message c) e.queue (subst (Bound e.queue) has (sound_bound s order (is_at at) e found)).1

    -- where its oldest goes, no message does
    oldest_leads : (at : Local) (e : Endpoint) (c : ChannelEnd) → live_at s at ≡ Some e → e.channel ≡ Some c → (more : List Change) → AllByRecursion Mild more → Idles (oldest_gone e.address ∷ more)
    oldest_leads at e c found has more mild =
        let all = mild_from (changed s (oldest_gone e.address)) more mild (all_old s) (weight-oldest r test e.address e s.endpoints (own_end (is_at at) e found) (all_on_some at e c found has)) in
        record { nothing_taken = ap (filter is_message_taking) (none_taken s (changed_all s (oldest_gone e.address ∷ more)).requests all.0); same = all.1 }

    oldest_answered : (at : Local) (e : Endpoint) (c : ChannelEnd) → live_at s at ≡ Some e → e.channel ≡ Some c → filter is_message_taking (at_live (live_at s at) (λ k. map (taking None k.address) (option_to_list (oldest k.queue)))) ≡ []
    oldest_answered at e c found has = ap (λ x. filter is_message_taking (at_live x (λ k. map (taking None k.address) (option_to_list (oldest k.queue))))) found ∙ go e.queue (all_on_some at e c found has)
      where
        go : (q : List Item) → AllByRecursion OnSome q → filter is_message_taking (map (taking None e.address) (option_to_list (oldest q))) ≡ []
        go [] all = refl
        go (i ∷ q) all = no-messages None i all.0 (e.address ∷ [])

    lends_no_message : (node port : ℕ) (a : PlainAnswer) → filter is_message_taking (at_live (live_at s (local node port)) (λ k. map (taking None k.address) (option_to_list (oldest k.queue)))) ≡ [] → filter is_message_taking (answered_by s (calls node (lend_at port) a)) ≡ []
    lends_no_message node port (gives size bytes) none = none
    lends_no_message node port (refuses w) none = refl
    lends_no_message node port agrees none = refl
    lends_no_message node port (tells n) none = refl
    lends_no_message node port (connects n channel) none = refl
    lends_no_message node port (completes place res) none = refl

    tells_no_message : (node port : ℕ) (bits : Bits) (a : PlainAnswer) → filter is_message_taking (at_live (live_at s (local node port)) (λ k. map (taking None k.address) (option_to_list (oldest k.queue)))) ≡ [] → filter is_message_taking (answered_by s (calls node (scalar_at port bits) a)) ≡ []
    tells_no_message node port bits (tells n) none = none
    tells_no_message node port bits (refuses w) none = refl
    tells_no_message node port bits agrees none = refl
    tells_no_message node port bits (gives size bytes) none = refl
    tells_no_message node port bits (connects n channel) none = refl
    tells_no_message node port bits (completes place res) none = refl

    -- an answer by which no message is taken
    answered : (ts : List Taking) (cs : List Change) → filter is_message_taking ts ≡ [] → Idles cs → Balance s [] (ts ++ taken_of s (changed_all s cs).requests) [] (changed_all s cs).endpoints
    answered ts cs none idles =
        no_message s (ts ++ taken_of s (changed_all s cs).requests) (changed_all s cs).endpoints (filter-append is_message_taking ts (taken_of s (changed_all s cs).requests) ∙ (ap (λ xs. xs ++ filter is_message_taking (taken_of s (changed_all s cs).requests)) none ∙ idles.nothing_taken)) idles.same

    -- a request for a packet
    packet_asked : (at : Local) (e : Endpoint) (c : ChannelEnd) → live_at s at ≡ Some e → e.channel ≡ Some c → Idles (oldest_gone e.address ∷ request_added (packet_at e.local) (option_map has_item (oldest e.queue)) ∷ [])
    packet_asked at e c found has = record {
      nothing_taken = ap (filter is_message_taking) (added_takes s (packet_at e.local) (option_map has_item (oldest e.queue)) serials.below) ∙ go e.queue (all_on_some at e c found has);
      same = weight-oldest r test e.address e s.endpoints (own_end (is_at at) e found) (all_on_some at e c found has);
    }
      where
        go : (q : List Item) → AllByRecursion OnSome q → filter is_message_taking (given_takes s (packet_at e.local) (option_map has_item (oldest q))) ≡ []
        go [] all = refl
        go (i ∷ q) all = no-messages (Some s.requests_given) i all.0 (asked_address s (packet_at e.local))

    put_leads : (count : ChannelEnd → ℕ) (at : Local) → Idles (at_end (live_at s at) (λ e c. buffers_used c.peer (count c) ∷ []))
    put_leads count at = end-holds Idles (mild_idles [] tt) (live_at s at) (λ e c. buffers_used c.peer (count c) ∷ []) (λ e c found has. mild_idles (buffers_used c.peer (count c) ∷ []) (tt, tt))

    closed_receiver : (at : Local) (e : Endpoint) (c : ChannelEnd) → live_at s at ≡ Some e → e.channel ≡ Some c → Idles (closing Receiver e c)
    closed_receiver at e c found has =
        let own_it = own_end (is_at at) e found in
        let all : AllByRecursion OnSome e.queue = all_on_some at e c found has in
        record { nothing_taken = ap (filter is_message_taking) (ended_none (endpoint_of s e.address) ChanClosed); same = weight-dropped r test e.address (closed_end c) e s.endpoints own_it all }

    closed_leads : (side : Side) (at : Local) → Idles (at_end (live_at s at) (closing side))
    closed_leads Sender at = end-holds Idles (mild_idles [] tt) (live_at s at) (closing Sender) (λ e c found has. mild_idles (closing Sender e c) (tt, (tt, tt)))
    closed_leads Receiver at = end-holds Idles (mild_idles [] tt) (live_at s at) (closing Receiver) (λ e c found has. closed_receiver at e c found has)

    opened_leads : (at : Local) → Idles (at_end (live_at s at) (λ e c. buffers_used c.peer 1 ∷ channel_set e.address (Some (opened_end c)) ∷ []))
    opened_leads at = end-holds Idles (mild_idles [] tt) (live_at s at) (λ e c. buffers_used c.peer 1 ∷ channel_set e.address (Some (opened_end c)) ∷ []) (λ e c found has. mild_idles (buffers_used c.peer 1 ∷ channel_set e.address (Some (opened_end c)) ∷ []) (tt, (tt, tt)))

    -- ---- each call

    success_leads : (node : ℕ) (call : DomainCall) → AllByRecursion (λ w. holds s node call w ≡ false) (words_of call) →
        let t = changed_all s (success_changes s node call) in
        Balance s [] (answered_by s (calls node call (success s node call)) ++ taken_of s t.requests) (dropped_by r s (calls node call (success s node call))) t.endpoints
    success_leads node (create_at port) words = nothing s _ (s.endpoints ++ endpoint_with s (local node port) ∷ []) (found_none _ _) (weight-made r test (endpoint_with s (local node port)) s.endpoints refl)
    success_leads node (delete_at port) words = deleted (live_at s (local node port)) (local node port) refl
    success_leads node (lookup_of name) words = nothing s _ s.endpoints (looked_up (address_of s name) name) refl
    success_leads node (send_from port to priority bytes) words = nothing s _ s.endpoints none_new refl
    success_leads node (receive_at port max) words =
        let at : Local = local node port in
        let t = changed_all s (success_changes s node (receive_at port max)) in
        let there : endpoint_at s at ≡ live_at s at = get-position (is_at at) s.endpoints in
        subst (λ ts. Balance s [] (ts ++ taken_of s t.requests) [] t.endpoints) (sym (receives_is node port max (given max (best (λ i. i.priority) (queue_at s at)))))
        (subst (λ x. Balance s [] (receives_best (live_at s at) (given max (best (λ i. i.priority) (queue_in x))) ++ taken_of s t.requests) [] t.endpoints) (sym there) (received (live_at s at) at max refl))
    success_leads node (request_at port max) words = asked_for (live_at s (local node port)) (local node port) max refl
    success_leads node (available_at port) words = nothing s _ s.endpoints none_new refl
    success_leads node (connect_from port to kind) words = connected (live_at s (local node port)) (local node port) to.domain (s.channels_given + 1) (new_sender s to kind) refl
    success_leads node (open_at port side kind) words = idle _ (opened_leads (local node port))
    success_leads node (packet_from port bytes) words = idle _ (put_leads (λ c. frames_needed (packet c.number bytes)) (local node port))
    success_leads node (lend_at port) words =
        let at : Local = local node port in
        let there = end-there (receives Packet (length (queue_at s at))) (live_at s at) words.1.0 in
        answered (answered_by s (calls node (lend_at port) (success s node (lend_at port)))) (success_changes s node (lend_at port)) (lends_no_message node port (success s node (lend_at port)) (oldest_answered at there.end there.channel there.live there.has))
        (subst (λ x. Idles (at_live x (λ e. oldest_gone e.address ∷ lending (oldest e.queue)))) (sym there.live) (oldest_leads at there.end there.channel there.live there.has (lending (oldest there.end.queue)) (lending-holds Mild (λ i. tt) (oldest there.end.queue))))
    success_leads node (packet_request_at port) words =
        let at : Local = local node port in
        let there = end-there (receives Packet (length (queue_at s at))) (live_at s at) words.1.0 in
        idle (success_changes s node (packet_request_at port)) (subst (λ x. Idles (at_live x (λ e. oldest_gone e.address ∷ request_added (packet_at e.local) (option_map has_item (oldest e.queue)) ∷ []))) (sym there.live) (packet_asked at there.end there.channel there.live there.has))
    success_leads node (release_of place) words = nothing s _ s.endpoints none_new refl
    success_leads node (scalar_from port bits value) words = idle _ (put_leads (λ c. 1) (local node port))
    success_leads node (scalar_at port bits) words =
        let at : Local = local node port in
        let there = end-there (receives Scalar (length (queue_at s at))) (live_at s at) words.1.0 in
        answered (answered_by s (calls node (scalar_at port bits) (success s node (scalar_at port bits)))) (success_changes s node (scalar_at port bits)) (tells_no_message node port bits (success s node (scalar_at port bits)) (oldest_answered at there.end there.channel there.live there.has))
        (subst (λ x. Idles (at_live x (λ e. oldest_gone e.address ∷ []))) (sym there.live) (oldest_leads at there.end there.channel there.live there.has [] tt))
    success_leads node (close_at port Sender) words = idle _ (closed_leads Sender (local node port))
    success_leads node (close_at port Receiver) words = idle _ (closed_leads Receiver (local node port))
    success_leads node (test_of request) words = idle (success_changes s node (test_of request)) (mild_idles (success_changes s node (test_of request)) (tt, tested-holds Mild (λ i. tt) (request_at_place s request)))
    success_leads node (wait_for requests says_place) words = idle (success_changes s node (wait_for requests says_place)) (mild_idles (success_changes s node (wait_for requests says_place)) (tt, tested-holds Mild (λ i. tt) (request_at_place s (first_complete s requests))))
    success_leads node (cancel_of request) words = nothing s _ s.endpoints (gone_none request) refl
    success_leads node (raw_to to bytes) words = nothing s _ s.endpoints none_new refl
    success_leads node turn_alone words = nothing s _ s.endpoints none_new refl

    refused_leads : (node : ℕ) (call : DomainCall) (w : Refusal) → Balance s [] (answered_by s (calls node call (refuses w)) ++ taken_of s s.requests) (dropped_by r s (calls node call (refuses w))) s.endpoints
    refused_leads node call w = subst (λ ts. Balance s [] (ts ++ taken_of s s.requests) (dropped_by r s (calls node call (refuses w))) s.endpoints) (sym (answers_none call))
        (subst (λ ms. Balance s [] (taken_of s s.requests) ms s.endpoints) (sym (drops_none call)) (nothing s (taken_of s s.requests) s.endpoints none_new refl))
      where
        answers_none : (c : DomainCall) → answered_by s (calls node c (refuses w)) ≡ []
        answers_none (receive_at port max) = refl
        answers_none other = refl

        drops_none : (c : DomainCall) → dropped_by r s (calls node c (refuses w)) ≡ []
        drops_none (delete_at port) = refl
        drops_none other = refl

    call_leads : (node : ℕ) (call : DomainCall) (o : Option Refusal) (a : PlainAnswer) → refusal s node call ≡ o → a ≡ answer_by o (success s node call) →
        let t = changed_all s (unless_refused o [] (success_changes s node call)) in
        Balance s [] (answered_by s (calls node call a) ++ taken_of s t.requests) (dropped_by r s (calls node call a)) t.endpoints
    call_leads node call (Some w) a why is = subst (λ k. Balance s [] (answered_by s (calls node call k) ++ taken_of s s.requests) (dropped_by r s (calls node call k)) s.endpoints) (sym is) (refused_leads node call w)
    call_leads node call None a why is =
        let t = changed_all s (success_changes s node call) in
        subst (λ k. Balance s [] (answered_by s (calls node call k) ++ taken_of s t.requests) (dropped_by r s (calls node call k)) t.endpoints) (sym is) (success_leads node call (none-passes (holds s node call) (words_of call) why))

    -- ---- each deed

    pub deed_balanced : (d : Deed) → MayDo s d → Balanced s d
    deed_balanced (looks_back q n) may = nothing s _ s.endpoints none_new refl
    deed_balanced (puts_owed q frame) may = nothing s _ s.endpoints none_new refl
    deed_balanced (looks_ahead q n) may = nothing s _ s.endpoints none_new refl
    deed_balanced (takes q name frame word) may = take_leads q (came_from s q name frame) (said_from s q frame) word may
    deed_balanced (calls node call a) may = call_leads node call (refusal s node call) a refl may
