-- Where a client goes is where its log leads then, and the line that it gives is the one that is due.
use Rattle.std.proofs.Common.{◌≡◌, ◌≢◌, ℕ, zero, suc, ◌+◌, ◌-◌, ◌≤◌, Bool, true, false, cond, ltb, List, [], ◌∷◌, ◌++◌, length, drop, replicate, slice_get, Option, Some, None, option_to_list, refl, sym, ap, ap₂, ◌∙◌, subst, arith, append_assoc, append-nil}
use Rattle.std.specs.Prelude.{◌&&◌, ◌==◌, bytes_eq}
use Rattle.std.specs.List.{list_any}
use Rattle.std.proofs.lemmas.Bool.{ltb-false, ne_eqb, eq-eqb}
use Rattle.std.proofs.lemmas.List.{length-replicate, replicate_more}
use Rattle.std.proofs.lemmas.Slice.Eq.{bytes_eq-Decides}
use Rattle.mc_base.specs.declared.refusal.Refusal.{Refusal}
use Rattle.mc_base.specs.Limits.{single_size}
use Rattle.board_model.specs.declared.scenario.Call.{Call}
use Rattle.board_model.specs.declared.scenario.Call.TheVariants.{MsgRecv}
use Rattle.board_model.specs.declared.scenario.CallLine.{CallLine}
use Rattle.board_model.specs.Journal.{PlainAnswer, refuses, agrees, tells, connects, gives, completes}
use Rattle.board_model.specs.Logs.{LoggedCall, logged}
use Rattle.board_runner.specs.AnswerForms.{IsAnswerTo}
use Rattle.board_runner.specs.ActorLogs.{IsToldFor, log_so_far}
use Rattle.call_logs.specs.LogMessages.{received_by, contents_received}
use Rattle.call_logs.specs.Following.{is_refused}
use Rattle.call_logs.specs.declared.got.Got.{Got}
use Rattle.call_logs.specs.CallBytes.{got_in, is_reply, are_replies}
use Rattle.call_logs.specs.Roles.{client_lines, call_lines, request_line, receive_line, bye_line, due_unrefused, due, FitsRole}
use Rattle.call_actor.specs.declared.place.Going.{Going}
use Rattle.call_actor.specs.declared.place.ClientPlace.{ClientPlace}
use Rattle.call_actor.specs.declared.place.ClientPlace.TheVariants.{New, Created, LookedUp, Waited, Sent, Received, Left, Ended}
use Rattle.call_actor.specs.ClientSteps.{ClientRole, goes, ends, lookup_line, wait_line, asks_call, is_expected, kept, after_expected, after_received, going_on, going_told, going}
use Rattle.call_actor.specs.ClientStands.{role_of, after_call, after_sends, lines_from, line_at, Settles, HasMessages, IsWithin, IsCallAt, Asks, IsAsked, ClientFits}
use Rattle.call_actor.proofs.Places.{drop_there, drop_past, past_length, get_dropped, get_none, drop_behind, length_more, follows_more, any_last, none_more, quiet, heard}
use Rattle.call_actor.proofs.RepliesTold.{replies_first, replies_more, got_not}
use Rattle.call_actor.proofs.ClientSettles.{said, all_got, settled_none, settles_more, part_said, part_got, as_said, gots_are}

none_received : (call : Call) (w : Refusal) → received_by call (refuses w) ≡ []
none_received (MsgRecv port max) w = refl
none_received call w = refl

and_off : (a b : Bool) → b ≡ false → (a && b) ≡ false
and_off true b off = off
and_off false b off = refl

-- ---- the message that comes, and those of its call before it

module _ (n times : ℕ) (first message : List ℕ) (some : 1 ≤ times) (reply : 2 ≤ times → is_reply (n + 1) first ≡ true) where
  abbrev part : List (List ℕ)
  part = replicate (times - 1) first ++ message ∷ []

  part_length : length part ≡ times
  part_length = length_more (replicate (times - 1) first) message ∙ ap suc (length-replicate (times - 1) first) ∙ omega (arith, some)

  part_expected : are_replies (n + 1) part ≡ is_expected n times first message
  part_expected = go (times - 1) refl
    where
      go : (m : ℕ) → times - 1 ≡ m → are_replies (n + 1) part ≡ is_expected n times first message
      go zero none = ap (λ k. are_replies (n + 1) (replicate k first ++ message ∷ [])) none ∙ replies_first (n + 1) first message ∙ sym (ap (λ b. cond b (is_reply (n + 1) message) (bytes_eq first message)) (eq-eqb times 1 (omega (arith, none, some))))
      go (suc m) more =
          ap (λ k. are_replies (n + 1) (replicate k first ++ message ∷ [])) more
          ∙ replies_more (n + 1) first message m (reply (omega (arith, more)))
          ∙ sym (ap (λ b. cond b (is_reply (n + 1) message) (bytes_eq first message)) (ne_eqb times 1 (λ one. omega (arith, one, more))))

  record IsKept : Type 0 where
    parts : part ≡ replicate times (kept times first message)
    replied : is_reply (n + 1) (kept times first message) ≡ true

  part_kept : is_expected n times first message ≡ true → IsKept
  part_kept expected = go (times - 1) refl
    where
      go : (m : ℕ) → times - 1 ≡ m → IsKept
      go zero none =
          let one : times ≡ 1 = omega (arith, none, some) in
          let is_one = eq-eqb times 1 one in
          let kept_is : kept times first message ≡ message = ap (λ b. cond b message first) is_one in
          record {
            parts = ap (λ k. replicate k first ++ message ∷ []) none ∙ ap₂ (λ k m. replicate k m) (sym one) (sym kept_is);
            replied = ap (is_reply (n + 1)) kept_is ∙ sym (ap (λ b. cond b (is_reply (n + 1) message) (bytes_eq first message)) is_one) ∙ expected;
          }
      go (suc m) more =
          let not_one = ne_eqb times 1 (λ one. omega (arith, one, more)) in
          let kept_is : kept times first message ≡ first = ap (λ b. cond b message first) not_one in
          let same : first ≡ message = (bytes_eq-Decides first message).0 (sym (ap (λ b. cond b (is_reply (n + 1) message) (bytes_eq first message)) not_one) ∙ expected) in
          let count : times - 1 + 1 ≡ times = omega (arith, some) in
          record {
            parts = ap (λ x. replicate (times - 1) first ++ x ∷ []) (sym same) ∙ replicate_more (times - 1) first ∙ ap₂ (λ k m. replicate k m) count (sym kept_is);
            replied = ap (is_reply (n + 1)) kept_is ∙ reply (omega (arith, more));
          }

module _ (c : ClientRole) (some : 1 ≤ c.repeat) where
  abbrev plan : List CallLine
  plan = client_lines c.domain c.repeat c.calls

  -- a place that is none of a call
  free : (0 ≤ length c.calls) × (1 ≤ 1) × (0 ≤ c.repeat)
  free = (omega arith, omega arith, omega arith)

  abbrev was_refused : LoggedCall → Bool
  was_refused l = is_refused l.answer

  -- ---- the line that is due

  due_as_said : (log : List LoggedCall) → list_any was_refused log ≡ false → said c (contents_received log) ≡ true → due (role_of c) log ≡ slice_get plan (length log)
  due_as_said log none is = ap (λ b. cond b None (due_unrefused (role_of c) log)) none ∙ ap (λ b. cond b (slice_get plan (length log)) None) is

  due_refused : (log : List LoggedCall) → list_any was_refused log ≡ true → due (role_of c) log ≡ None
  due_refused log any = ap (λ b. cond b None (due_unrefused (role_of c) log)) any

  due_wrong : (log : List LoggedCall) → list_any was_refused log ≡ false → said c (contents_received log) ≡ false → due (role_of c) log ≡ None
  due_wrong log none is = ap (λ b. cond b None (due_unrefused (role_of c) log)) none ∙ ap (λ b. cond b (slice_get plan (length log)) None) is

  -- ---- the lines behind it

  abbrev behind : ClientPlace → ℕ × ℕ → List CallLine
  behind Created k = lookup_line c ∷ wait_line c ∷ after_call c 0
  behind LookedUp k = wait_line c ∷ after_call c 0
  behind Waited k = after_call c 0
  behind (Sent n times) k = replicate (c.repeat - times) (request_line c.domain (n + 1) k) ++ after_sends c n
  behind (Received n times) k = replicate (c.repeat - times) (receive_line c.domain) ++ after_call c (n + 1)
  behind place k = []

  one_of : (x : CallLine) (ys : List CallLine) (times : ℕ) → times ≤ c.repeat → replicate (c.repeat + 1 - times) x ++ ys ≡ x ∷ (replicate (c.repeat - times) x ++ ys)
  one_of x ys times le = let count : c.repeat + 1 - times ≡ suc (c.repeat - times) = omega (arith, le) in ap (λ n. replicate n x ++ ys) count

  head_is : (place : ClientPlace) (k : ℕ × ℕ) → Asks place → IsWithin c place → lines_from c place k ≡ line_at c place k ∷ behind place k
  head_is Created k asks within = refl
  head_is LookedUp k asks within = refl
  head_is Waited k asks within = refl
  head_is (Sent n times) k asks within = one_of (request_line c.domain (n + 1) k) (after_sends c n) times within.2
  head_is (Received n times) k asks within = one_of (receive_line c.domain) (after_call c (n + 1)) times within.2
  head_is Left k asks within = refl
  head_is New k asks within = absurd asks
  head_is Ended k asks within = absurd asks

  call_next : (n : ℕ) (k : ℕ × ℕ) → slice_get c.calls n ≡ Some k → after_call c n ≡ lines_from c (Sent n 1) k
  call_next n k there =
      let requests = replicate c.repeat (request_line c.domain (n + 1) k) in
      let replies = replicate c.repeat (receive_line c.domain) in
      let rest = call_lines c.domain c.repeat (n + 1 + 1) (drop (n + 1) c.calls) in
      let bye = bye_line c.domain ∷ [] in
      let count : c.repeat ≡ c.repeat + 1 - 1 = omega arith in
      ap (λ ks. call_lines c.domain c.repeat (n + 1) ks ++ bye) (drop_there c.calls n k there)
      ∙ append_assoc requests (replies ++ rest) bye
      ∙ ap (λ xs. requests ++ xs) (append_assoc replies rest bye)
      ∙ ap (λ m. replicate m (request_line c.domain (n + 1) k) ++ after_sends c n) count

  bye_next : (n : ℕ) (k : ℕ × ℕ) → slice_get c.calls n ≡ None → after_call c n ≡ lines_from c Left k
  bye_next n k past = ap (λ ks. call_lines c.domain c.repeat (n + 1) ks ++ bye_line c.domain ∷ []) (drop_past c.calls n past)

  -- ---- an answer more

  abbrev FitsGoing : List LoggedCall → List Got → Going → Type 0
  FitsGoing log gots g = ClientFits c g.place g.first (gots ++ option_to_list g.got) g.line log

  module _ (place : ClientPlace) (first : List ℕ) (gots : List Got) (line : CallLine) (log : List LoggedCall) (a : PlainAnswer) (f : ClientFits c place first gots (Some line) log) (within : IsWithin c place) where
    abbrev at : IsAsked c place line log
    at = f.stands

    abbrev more : List LoggedCall
    more = log ++ logged line a ∷ []

    from_here : drop (length log) plan ≡ line_at c place at.call ∷ behind place at.call
    from_here = at.later ∙ head_is place at.call at.asks within

    pub due_here : due (role_of c) log ≡ Some line
    due_here =
        due_as_said log at.none_refused (as_said c place first gots (contents_received log) at.asks within f.messages)
        ∙ get_dropped plan (length log) (line_at c place at.call) (behind place at.call) from_here
        ∙ ap (λ (l : CallLine). Some l) (sym at.line_is)

    fits_more : FitsRole (role_of c) more
    fits_more = follows_more (due (role_of c)) log (logged line a) f.fits due_here

    later_more : drop (length more) plan ≡ behind place at.call
    later_more = ap (λ n. drop n plan) (length_more log (logged line a)) ∙ drop_behind plan (length log) (line_at c place at.call) (behind place at.call) from_here

    ends_here : (kept : List ℕ) → due (role_of c) more ≡ None → gots ≡ all_got c (contents_received more) → FitsGoing more gots (ends kept)
    ends_here kept none is = record { fits = fits_more; messages = append-nil gots ∙ is; stands = none }

    -- a call that received nothing
    silent : received_by line.call a ≡ [] → contents_received more ≡ contents_received log
    silent none = quiet log line a none

    gots_silent : received_by line.call a ≡ [] → gots ≡ all_got c (contents_received more)
    gots_silent none = gots_are c place first gots (contents_received log) within f.messages ∙ ap (all_got c) (sym (silent none))

    module _ (on : is_refused a ≡ false) where
      none_refused : list_any was_refused more ≡ false
      none_refused = none_more was_refused log (logged line a) at.none_refused on

      asks_next : (next : ClientPlace) (kept : List ℕ) (got : List Got) (k : ℕ × ℕ) → Asks next → IsCallAt c next k → behind place at.call ≡ lines_from c next k → HasMessages c next kept (gots ++ got) (contents_received more) → ClientFits c next kept (gots ++ got) (Some (line_at c next k)) more
      asks_next next kept got k asks call_is lines has = record {
        fits = fits_more;
        messages = has;
        stands = record { asks = asks; call = k; call_is = call_is; line_is = refl; later = later_more ∙ lines; none_refused = none_refused };
      }

      asks_or_leaves : (n times : ℕ) (kept : List ℕ) (got : Option Got) (o : Option (ℕ × ℕ)) → slice_get c.calls n ≡ o → n ≤ length c.calls → ((k : ℕ × ℕ) → o ≡ Some k → behind place at.call ≡ lines_from c (Sent n times) k) → (o ≡ None → behind place at.call ≡ lines_from c Left (0, 0)) → Settles c n (gots ++ option_to_list got) (contents_received more) → FitsGoing more gots (asks_call c n times kept got o)
      asks_or_leaves n times kept got (Some k) there le sends leaves settled = asks_next (Sent n times) kept (option_to_list got) k tt there (sends k refl) settled
      asks_or_leaves n times kept got None past le sends leaves settled = asks_next Left kept (option_to_list got) (0, 0) tt tt (leaves refl) (subst (λ m. Settles c m (gots ++ option_to_list got) (contents_received more)) (past_length c.calls n past le) settled)

  -- ---- by the place

  module _ (first : List ℕ) (gots : List Got) (line : CallLine) (log : List LoggedCall) (a : PlainAnswer) (on : is_refused a ≡ false) where
    next_created : ClientFits c Created first gots (Some line) log → FitsGoing (log ++ logged line a ∷ []) gots (going_on c Created first a)
    next_created f =
        let none : received_by line.call a ≡ [] = ap (λ (l : CallLine). received_by l.call a) f.stands.line_is in
        asks_next Created first gots line log a f free on LookedUp first [] (0, 0) tt tt refl (silent Created first gots line log a f free none ∙ f.messages.0, append-nil gots ∙ f.messages.1)

    next_looked : ClientFits c LookedUp first gots (Some line) log → FitsGoing (log ++ logged line a ∷ []) gots (going_on c LookedUp first a)
    next_looked f =
        let none : received_by line.call a ≡ [] = ap (λ (l : CallLine). received_by l.call a) f.stands.line_is in
        asks_next LookedUp first gots line log a f free on Waited first [] (0, 0) tt tt refl (silent LookedUp first gots line log a f free none ∙ f.messages.0, append-nil gots ∙ f.messages.1)

    next_waited : ClientFits c Waited first gots (Some line) log → FitsGoing (log ++ logged line a ∷ []) gots (going_on c Waited first a)
    next_waited f =
        let none : received_by line.call a ≡ [] = ap (λ (l : CallLine). received_by l.call a) f.stands.line_is in
        let nothing = silent Waited first gots line log a f free none ∙ f.messages.0 in
        asks_or_leaves Waited first gots line log a f free on 0 1 first None (slice_get c.calls 0) refl (omega arith) (call_next 0) (bye_next 0 (0, 0))
        (subst (λ ms. Settles c 0 (gots ++ []) ms) (sym nothing) (subst (λ gs. Settles c 0 gs []) (sym (append-nil gots ∙ f.messages.1)) (settled_none c)))

    next_left : ClientFits c Left first gots (Some line) log → FitsGoing (log ++ logged line a ∷ []) gots (going_on c Left first a)
    next_left f =
        let none : received_by line.call a ≡ [] = ap (λ (l : CallLine). received_by l.call a) f.stands.line_is in
        let more = log ++ logged line a ∷ [] in
        let is_said : said c (contents_received more) ≡ true = ap (said c) (silent Left first gots line log a f free none) ∙ as_said c Left first gots (contents_received log) tt free f.messages in
        ends_here Left first gots line log a f free first (due_as_said more (none_refused Left first gots line log a f free on) is_said ∙ get_none plan (length more) (later_more Left first gots line log a f free)) (gots_silent Left first gots line log a f free none)

    next_sent : (n times : ℕ) → IsWithin c (Sent n times) → ClientFits c (Sent n times) first gots (Some line) log → FitsGoing (log ++ logged line a ∷ []) gots (going_on c (Sent n times) first a)
    next_sent n times within f = go (ltb times c.repeat) refl
      where
        place : ClientPlace
        place = Sent n times

        more : List LoggedCall
        more = log ++ logged line a ∷ []

        none : received_by line.call a ≡ []
        none = ap (λ (l : CallLine). received_by l.call a) f.stands.line_is

        settled : Settles c n (gots ++ []) (contents_received more)
        settled = subst (λ gs. Settles c n gs (contents_received more)) (sym (append-nil gots)) (subst (Settles c n gots) (sym (silent (Sent n times) first gots line log a f within none)) f.messages)

        go : (b : Bool) → ltb times c.repeat ≡ b → FitsGoing (log ++ logged line a ∷ []) gots (cond b (asks_call c n (times + 1) first None (slice_get c.calls n)) (goes (Received n 1) first None (receive_line c.domain)))
        go true less =
            let count : c.repeat - times ≡ c.repeat + 1 - (times + 1) = omega arith in
            asks_or_leaves (Sent n times) first gots line log a f within on n (times + 1) first None (slice_get c.calls n) refl (omega (arith, within.0))
            (λ k is. let same : f.stands.call ≡ k = some_same f.stands.call k (sym f.stands.call_is ∙ is) in ap₂ (λ m x. replicate m (request_line c.domain (n + 1) x) ++ after_sends c n) count same)
            (λ past. absurd (not_both f.stands.call (sym f.stands.call_is ∙ past)))
            settled
          where
            some_same : (x y : ℕ × ℕ) → Some x ≡ Some y → x ≡ y
            some_same x y is = cc

            not_both : (x : ℕ × ℕ) → Some x ≡ None → ⊥
            not_both x is = cc
        go false last =
            let all : c.repeat - times ≡ 0 = omega (arith, ltb-false times c.repeat last) in
            let count : c.repeat ≡ c.repeat + 1 - 1 = omega arith in
            asks_next (Sent n times) first gots line log a f within on (Received n 1) first [] (0, 0) tt tt
            (ap (λ m. replicate m (request_line c.domain (n + 1) f.stands.call) ++ after_sends c n) all ∙ ap (λ m. replicate m (receive_line c.domain) ++ after_call c (n + 1)) count)
            (record { front = contents_received (log ++ logged line a ∷ []); settled = settled; parts = sym (append-nil (contents_received (log ++ logged line a ∷ []))); reply = λ two. absurd (omega (arith, two)) })

    -- a receive: the replies to its call, and one message more
    module _ (n times : ℕ) (within : IsWithin c (Received n times)) (f : ClientFits c (Received n times) first gots (Some line) log) (size : ℕ) (bytes : List ℕ) (gave : a ≡ gives size bytes) where
      abbrev longer : List LoggedCall
      longer = log ++ logged line a ∷ []

      abbrev replies : List (List ℕ)
      replies = replicate (times - 1) first ++ bytes ∷ []

      reply_before : 2 ≤ times → is_reply (n + 1) first ≡ true
      reply_before = f.messages.reply

      came : contents_received longer ≡ f.messages.front ++ replies
      came =
          heard log line a single_size size bytes (ap (λ (l : CallLine). received_by l.call a) f.stands.line_is ∙ ap (received_by (MsgRecv 1 single_size)) gave)
          ∙ ap (λ ms. ms ++ bytes ∷ []) f.messages.parts
          ∙ append_assoc f.messages.front (replicate (times - 1) first) (bytes ∷ [])

      replies_short : length replies ≤ c.repeat
      replies_short = omega (arith, part_length n times first bytes within.1 reply_before, within.2)

      said_more : said c (contents_received longer) ≡ is_expected n times first bytes
      said_more = ap (said c) came ∙ part_said c n gots f.messages.front replies f.messages.settled within.0 replies_short ∙ part_expected n times first bytes within.1 reply_before

      wrong : is_expected n times first bytes ≡ false → FitsGoing longer gots (ends first)
      wrong not =
          let no_replies : are_replies (n + 1) replies ≡ false = part_expected n times first bytes within.1 reply_before ∙ not in
          ends_here (Received n times) first gots line log a f within first
          (due_wrong longer (none_refused (Received n times) first gots line log a f within on) (said_more ∙ not))
          (sym (ap (all_got c) came ∙ part_got c n gots f.messages.front replies f.messages.settled within.0 (λ k ks. got_not c.repeat (n + 1) k ks replies replies_short (and_off (length replies == c.repeat) (are_replies (n + 1) replies) no_replies))))

      right : is_expected n times first bytes ≡ true → FitsGoing longer gots (after_expected c n times (kept times first bytes))
      right expected = go (ltb times c.repeat) refl
        where
          is_kept : IsKept n times first bytes within.1 reply_before
          is_kept = part_kept n times first bytes within.1 reply_before expected

          came_kept : contents_received longer ≡ f.messages.front ++ replicate times (kept times first bytes)
          came_kept = came ∙ ap (λ ms. f.messages.front ++ ms) is_kept.parts

          go : (b : Bool) → ltb times c.repeat ≡ b → FitsGoing longer gots (cond b (goes (Received n (times + 1)) (kept times first bytes) None (receive_line c.domain)) (asks_call c (n + 1) 1 (kept times first bytes) (Some (got_in (kept times first bytes))) (slice_get c.calls (n + 1))))
          go true less =
              let count : c.repeat - times ≡ c.repeat + 1 - (times + 1) = omega arith in
              let same : times ≡ times + 1 - 1 = omega arith in
              asks_next (Received n times) first gots line log a f within on (Received n (times + 1)) (kept times first bytes) [] (0, 0) tt tt
              (ap (λ m. replicate m (receive_line c.domain) ++ after_call c (n + 1)) count)
              (record {
                front = f.messages.front;
                settled = subst (λ gs. Settles c n gs f.messages.front) (sym (append-nil gots)) f.messages.settled;
                parts = came_kept ∙ ap (λ m. f.messages.front ++ replicate m (kept times first bytes)) same;
                reply = λ two. is_kept.replied;
              })
          go false last =
              let whole : times ≡ c.repeat = omega (arith, ltb-false times c.repeat last, within.2) in
              let all : c.repeat - times ≡ 0 = omega (arith, whole) in
              let settled = settles_more c n gots f.messages.front (kept times first bytes) f.messages.settled within.0 some is_kept.replied in
              asks_or_leaves (Received n times) first gots line log a f within on (n + 1) 1 (kept times first bytes) (Some (got_in (kept times first bytes))) (slice_get c.calls (n + 1)) refl (omega (arith, within.0))
              (λ k is. ap (λ m. replicate m (receive_line c.domain) ++ after_call c (n + 1)) all ∙ call_next (n + 1) k is)
              (λ past. ap (λ m. replicate m (receive_line c.domain) ++ after_call c (n + 1)) all ∙ bye_next (n + 1) (0, 0) past)
              (subst (Settles c (n + 1) (gots ++ got_in (kept times first bytes) ∷ [])) (sym (came_kept ∙ ap (λ m. f.messages.front ++ replicate m (kept times first bytes)) whole)) settled)

      by_message : FitsGoing longer gots (after_received c n times first bytes)
      by_message = go (is_expected n times first bytes) refl
        where
          go : (b : Bool) → is_expected n times first bytes ≡ b → FitsGoing longer gots (cond b (after_expected c n times (kept times first bytes)) (ends first))
          go true expected = right expected
          go false not = wrong not

  next_received : (first : List ℕ) (gots : List Got) (line : CallLine) (log : List LoggedCall) (a : PlainAnswer) → is_refused a ≡ false → (n times : ℕ) → IsWithin c (Received n times) → ClientFits c (Received n times) first gots (Some line) log → IsAnswerTo (MsgRecv 1 single_size) a → FitsGoing (log ++ logged line a ∷ []) gots (going_on c (Received n times) first a)
  next_received first gots line log (gives size bytes) on n times within f may = by_message first gots line log (gives size bytes) on n times within f size bytes refl
  next_received first gots line log (refuses w) on n times within f may = absurd cc
  next_received first gots line log agrees on n times within f may = let none = may.in_form in absurd cc
  next_received first gots line log (tells k) on n times within f may = let none = may.in_form in absurd cc
  next_received first gots line log (connects r k) on n times within f may = let none = may.in_form in absurd cc
  next_received first gots line log (completes p r) on n times within f may = let none = may.in_form in absurd cc

  -- ---- an answer, whatever the place

  next_on : (place : ClientPlace) (first : List ℕ) (gots : List Got) (line : CallLine) (log : List LoggedCall) (a : PlainAnswer) → is_refused a ≡ false → IsWithin c place → ClientFits c place first gots (Some line) log → IsAnswerTo line.call a → FitsGoing (log ++ logged line a ∷ []) gots (going_on c place first a)
  next_on New first gots line log a on within f may = absurd f.stands.asks
  next_on Created first gots line log a on within f may = next_created first gots line log a on f
  next_on LookedUp first gots line log a on within f may = next_looked first gots line log a on f
  next_on Waited first gots line log a on within f may = next_waited first gots line log a on f
  next_on (Sent n times) first gots line log a on within f may = next_sent first gots line log a on n times within f
  next_on (Received n times) first gots line log a on within f may = next_received first gots line log a on n times within f (subst (λ (l : CallLine). IsAnswerTo l.call a) f.stands.line_is may)
  next_on Left first gots line log a on within f may = next_left first gots line log a on f
  next_on Ended first gots line log a on within f may = absurd f.stands.asks

  refused_silent : (call : Call) (a : PlainAnswer) → is_refused a ≡ true → received_by call a ≡ []
  refused_silent call (refuses w) is = none_received call w
  refused_silent call agrees is = absurd cc
  refused_silent call (tells k) is = absurd cc
  refused_silent call (connects r k) is = absurd cc
  refused_silent call (gives size bytes) is = absurd cc
  refused_silent call (completes p r) is = absurd cc

  next_told : (place : ClientPlace) (first : List ℕ) (gots : List Got) (line : CallLine) (log : List LoggedCall) (a : PlainAnswer) → IsWithin c place → ClientFits c place first gots (Some line) log → IsAnswerTo line.call a → FitsGoing (log ++ logged line a ∷ []) gots (going_told c place first a)
  next_told place first gots line log a within f may = go (is_refused a) refl
    where
      go : (b : Bool) → is_refused a ≡ b → FitsGoing (log ++ logged line a ∷ []) gots (cond b (ends first) (going_on c place first a))
      go true refused = ends_here place first gots line log a f within first (due_refused (log ++ logged line a ∷ []) (any_last was_refused log (logged line a) refused)) (gots_silent place first gots line log a f within (refused_silent line.call a refused))
      go false on = next_on place first gots line log a on within f may

  -- ---- the first line, and after the last

  next_new : (first : List ℕ) (gots : List Got) (log : List LoggedCall) → ClientFits c New first gots None log → FitsGoing log gots (going c New first None)
  next_new first gots log f = record {
    fits = f.fits;
    messages = (f.messages.0, append-nil gots ∙ f.messages.1);
    stands = record {
      asks = tt;
      call = (0, 0);
      call_is = tt;
      line_is = refl;
      later = ap (λ (ls : List LoggedCall). drop (length ls) plan) f.stands;
      none_refused = ap (list_any was_refused) f.stands;
    };
  }

  next_ended : (first : List ℕ) (gots : List Got) (log : List LoggedCall) → ClientFits c Ended first gots None log → FitsGoing log gots (going c Ended first None)
  next_ended first gots log f = record { fits = f.fits; messages = append-nil gots ∙ f.messages; stands = f.stands }

  pub fits_next : (place : ClientPlace) (first : List ℕ) (gots : List Got) (asked : Option CallLine) (told : Option PlainAnswer) (log : List LoggedCall) → IsToldFor asked told → IsWithin c place → ClientFits c place first gots asked log → FitsGoing (log_so_far log asked told) gots (going c place first told)
  fits_next place first gots (Some line) (Some a) log told within f = next_told place first gots line log a within f told
  fits_next New first gots None None log told within f = next_new first gots log f
  fits_next Ended first gots None None log told within f = next_ended first gots log f
  fits_next place first gots None None log told within f = absurd f.stands
  fits_next place first gots None (Some a) log told within f = absurd told
  fits_next place first gots (Some line) None log told within f = absurd told

  -- a client that gives no line has ended
  pub ends_next : (place : ClientPlace) (first : List ℕ) (gots : List Got) (log : List LoggedCall) → place ≢ New → ClientFits c place first gots None log → due (role_of c) log ≡ None
  ends_next Ended first gots log old f = f.stands
  ends_next New first gots log old f = absurd (old refl)
  ends_next place first gots log old f = absurd f.stands
