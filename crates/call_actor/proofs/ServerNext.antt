-- Where the server goes is where its log leads then, and the line that it gives is the one that is due.
use Rattle.std.proofs.Common.{◌≡◌, ◌≢◌, ℕ, zero, suc, ◌+◌, ◌-◌, ◌*◌, ◌<◌, ◌≤◌, Bool, true, false, cond, ltb, leb, List, [], ◌∷◌, ◌++◌, length, drop, slice_get, Option, Some, None, refl, sym, ap, ap₂, ◌∙◌, subst, arith}
use Rattle.std.specs.Prelude.{Result, Ok, Err, is_some}
use Rattle.std.specs.List.{flat_map, list_any}
use Rattle.std.proofs.lemmas.Bool.{leb-true, leb-false}
use Rattle.mc_base.specs.declared.refusal.Refusal.{Refusal}
use Rattle.mc_base.specs.Limits.{single_size}
use Rattle.board_model.specs.declared.scenario.Call.{Call}
use Rattle.board_model.specs.declared.scenario.Call.TheVariants.{MsgRecv}
use Rattle.board_model.specs.declared.scenario.CallLine.{CallLine}
use Rattle.board_model.specs.Journal.{PlainAnswer, refuses, agrees, tells, connects, gives, completes}
use Rattle.board_model.specs.Logs.{LoggedCall, logged, bytes_answered}
use Rattle.call_service.specs.declared.request.ServiceFault.{ServiceFault}
use Rattle.call_service.specs.Handled.{Handled, handled}
use Rattle.call_service.specs.Served.{rising}
use Rattle.board_runner.specs.AnswerForms.{IsAnswerTo}
use Rattle.board_runner.specs.ActorLogs.{IsToldFor, log_so_far}
use Rattle.call_logs.specs.LogMessages.{received_by, contents_received}
use Rattle.call_logs.specs.Following.{is_refused, last_after}
use Rattle.call_logs.specs.CallBytes.{bye_in}
use Rattle.call_logs.specs.Roles.{finding, receive_line, reply_line, server_opening, handled_all, reply_due, is_receive, due_after_message, due_behind, due_of_server, due_unrefused, due, FitsRole}
use Rattle.call_actor.specs.declared.place.ServerPlace.{ServerPlace}
use Rattle.call_actor.specs.declared.place.ServerPlace.TheVariants.{New, Created, LookedUp, Waited, Receiving, Replying, Ended}
use Rattle.call_actor.specs.declared.rules.ServerRole.{ServerRole}
use Rattle.call_actor.specs.ServerLimits.{limit}
use Rattle.call_actor.specs.ServerLabels.{label_for}
use Rattle.call_actor.specs.ServerSteps.{Held, ServerGoing, goes, ends, create_line, lookup_line, wait_line, looks_up, with_message, have_left, replies, takes_message, going_on, going_told, going}
use Rattle.call_actor.specs.ServerStands.{role_of, Holds, finding_from, lines_from, IsLineAt, ServerFits}
use Rattle.call_actor.proofs.Places.{get_dropped, get_none, drop_behind, length_more, follows_more, any_last, none_more, quiet, heard}
use Rattle.call_actor.proofs.ServerHolds.{now_is, holds_more, left_all}

none_received : (call : Call) (w : Refusal) → received_by call (refuses w) ≡ []
none_received (MsgRecv port max) w = refl
none_received call w = refl

refused_silent : (call : Call) (a : PlainAnswer) → is_refused a ≡ true → received_by call a ≡ []
refused_silent call (refuses w) is = none_received call w
refused_silent call agrees is = absurd cc
refused_silent call (tells k) is = absurd cc
refused_silent call (connects r k) is = absurd cc
refused_silent call (gives size bytes) is = absurd cc
refused_silent call (completes p r) is = absurd cc

last_more : (o : Option LoggedCall) (log : List LoggedCall) (l : LoggedCall) → last_after o (log ++ l ∷ []) ≡ Some l
last_more o [] l = refl
last_more o (m ∷ ms) l = last_more (Some m) ms l

module _ (c : ServerRole) (few : c.clients < 8) where
  abbrev opening : List CallLine
  opening = server_opening c.clients

  abbrev was_refused : LoggedCall → Bool
  was_refused l = is_refused l.answer

  -- ---- the line that is due

  due_opening : (log : List LoggedCall) (line : CallLine) → list_any was_refused log ≡ false → slice_get opening (length log) ≡ Some line → due (role_of c) log ≡ Some line
  due_opening log line none at = ap (λ b. cond b None (due_unrefused (role_of c) log)) none ∙ ap (due_of_server c.clients c.repeat c.calls log) at

  due_later : (log : List LoggedCall) (l : LoggedCall) → list_any was_refused (log ++ l ∷ []) ≡ false → slice_get opening (length (log ++ l ∷ [])) ≡ None →
      due (role_of c) (log ++ l ∷ []) ≡ cond (is_receive l.line.call) (due_after_message c.clients c.repeat c.calls (contents_received (log ++ l ∷ [])) (bytes_answered l.answer)) (Some (receive_line 0))
  due_later log l none at =
      ap (λ b. cond b None (due_unrefused (role_of c) (log ++ l ∷ []))) none
      ∙ ap (due_of_server c.clients c.repeat c.calls (log ++ l ∷ [])) at
      ∙ ap (due_behind c.clients c.repeat c.calls (log ++ l ∷ [])) (last_more None log l)

  due_refused : (log : List LoggedCall) → list_any was_refused log ≡ true → due (role_of c) log ≡ None
  due_refused log any = ap (λ b. cond b None (due_unrefused (role_of c) log)) any

  -- ---- the lines of the opening

  finding_next : (d : ℕ) → d ≤ c.clients → finding_from c d ≡ lookup_line d ∷ wait_line d ∷ finding_from c (d + 1)
  finding_next d le =
      let count : c.clients + 1 - d ≡ suc (c.clients + 1 - (d + 1)) = omega (arith, le) in
      ap (λ n. flat_map (λ k. finding 0 (label_for k) k) (rising d n)) count

  finding_none : (d : ℕ) → c.clients < d → finding_from c d ≡ []
  finding_none d past =
      let count : c.clients + 1 - d ≡ 0 = omega (arith, past) in
      ap (λ n. flat_map (λ k. finding 0 (label_for k) k) (rising d n)) count

  opening_is : opening ≡ create_line ∷ finding_from c 1
  opening_is = let count : c.clients ≡ c.clients + 1 - 1 = omega arith in ap (λ n. create_line ∷ flat_map (λ k. finding 0 (label_for k) k) (rising 1 n)) count

  abbrev FitsGoing : List LoggedCall → ServerGoing → Type 0
  FitsGoing log g = ServerFits c g.place g.held g.line log

  -- ---- an answer more

  module _ (place : ServerPlace) (held : Held) (line : CallLine) (log : List LoggedCall) (a : PlainAnswer) (f : ServerFits c place held (Some line) log) where
    abbrev more : List LoggedCall
    more = log ++ logged line a ∷ []

    fits_more : FitsRole (role_of c) more
    fits_more = follows_more (due (role_of c)) log (logged line a) f.fits f.stands.due_is

    later_more : (first : CallLine) (rest : List CallLine) → lines_from c place ≡ first ∷ rest → drop (length more) opening ≡ rest
    later_more first rest is = ap (λ n. drop n opening) (length_more log (logged line a)) ∙ drop_behind opening (length log) first rest (f.stands.later ∙ is)

    silent : received_by line.call a ≡ [] → Holds c held (contents_received more)
    silent none = subst (Holds c held) (sym (quiet log line a none)) f.holds

    ends_here : (kept : Held) → Holds c kept (contents_received more) → due (role_of c) more ≡ None → FitsGoing more (ends kept)
    ends_here kept holds none = record { fits = fits_more; holds = holds; stands = none }

    module _ (on : is_refused a ≡ false) where
      none_refused : list_any was_refused more ≡ false
      none_refused = none_more was_refused log (logged line a) f.stands.none_refused on

      asks_here : (next : ServerPlace) (kept : Held) (asked : CallLine) → IsLineAt next asked → due (role_of c) more ≡ Some asked → drop (length more) opening ≡ lines_from c next → Holds c kept (contents_received more) → FitsGoing more (goes next kept asked)
      asks_here next kept asked line_is due_is later holds = record {
        fits = fits_more;
        holds = holds;
        stands = record { line_is = line_is; due_is = due_is; later = later; none_refused = none_refused };
      }

      -- a client is looked up, or there is none
      looks_on : (d : ℕ) → received_by line.call a ≡ [] → is_receive line.call ≡ false → drop (length more) opening ≡ finding_from c d → FitsGoing more (looks_up c d held)
      looks_on d none sends later = go (leb d c.clients) refl
        where
          go : (b : Bool) → leb d c.clients ≡ b → FitsGoing (log ++ logged line a ∷ []) (cond b (goes (LookedUp d) held (lookup_line d)) (goes Receiving held (receive_line 0)))
          go true le =
              let from = later ∙ finding_next d (leb-true d c.clients le) in
              asks_here (LookedUp d) held (lookup_line d) refl (due_opening (log ++ logged line a ∷ []) (lookup_line d) none_refused (get_dropped opening (length (log ++ logged line a ∷ [])) (lookup_line d) (wait_line d ∷ finding_from c (d + 1)) from)) from (silent none)
          go false past =
              let from = later ∙ finding_none d (leb-false d c.clients past) in
              asks_here Receiving held (receive_line 0) refl
              (due_later log (logged line a) none_refused (get_none opening (length (log ++ logged line a ∷ [])) from) ∙ ap (λ b. cond b (due_after_message c.clients c.repeat c.calls (contents_received (log ++ logged line a ∷ [])) (bytes_answered a)) (Some (receive_line 0))) sends)
              from (silent none)

  -- ---- by the place

  -- how a message's line follows from what the server holds then
  line_of_message : (kept : Held) (over bye all : Bool) (o : Result ℕ ServiceFault) →
      (cond over (ends kept) (cond bye (cond all (ends kept) (goes Receiving kept (receive_line 0))) (replies kept o))).line
      ≡ cond over None (cond bye (cond all None (Some (receive_line 0))) (reply_due o kept.reply))
  line_of_message kept true bye all o = refl
  line_of_message kept false true true o = refl
  line_of_message kept false true false o = refl
  line_of_message kept false false all (Ok to) = refl
  line_of_message kept false false all (Err fault) = refl

  module _ (held : Held) (line : CallLine) (log : List LoggedCall) (a : PlainAnswer) (on : is_refused a ≡ false) where
    abbrev longer : List LoggedCall
    longer = log ++ logged line a ∷ []

    next_created : ServerFits c Created held (Some line) log → FitsGoing longer (going_on c Created held a)
    next_created f =
        looks_on Created held line log a f on 1 (ap (λ (l : CallLine). received_by l.call a) f.stands.line_is) (ap (λ (l : CallLine). is_receive l.call) f.stands.line_is)
        (later_more Created held line log a f create_line (finding_from c 1) opening_is)

    next_looked : (d : ℕ) → ServerFits c (LookedUp d) held (Some line) log → FitsGoing longer (going_on c (LookedUp d) held a)
    next_looked d f =
        let none : received_by line.call a ≡ [] = ap (λ (l : CallLine). received_by l.call a) f.stands.line_is in
        let from = later_more (LookedUp d) held line log a f (lookup_line d) (wait_line d ∷ finding_from c (d + 1)) refl in
        asks_here (LookedUp d) held line log a f on (Waited d) held (wait_line d) refl
        (due_opening longer (wait_line d) (none_refused (LookedUp d) held line log a f on) (get_dropped opening (length longer) (wait_line d) (finding_from c (d + 1)) from)) from (silent (LookedUp d) held line log a f none)

    next_waited : (d : ℕ) → ServerFits c (Waited d) held (Some line) log → FitsGoing longer (going_on c (Waited d) held a)
    next_waited d f =
        looks_on (Waited d) held line log a f on (d + 1) (ap (λ (l : CallLine). received_by l.call a) f.stands.line_is) (ap (λ (l : CallLine). is_receive l.call) f.stands.line_is)
        (later_more (Waited d) held line log a f (wait_line d) (finding_from c (d + 1)) refl)

    -- past the opening
    past_more : (place : ServerPlace) → ServerFits c place held (Some line) log → lines_from c place ≡ [] → drop (length longer) opening ≡ []
    past_more place f none = ap (λ n. drop n opening) (length_more log (logged line a)) ∙ drop_nothing opening (length log) (f.stands.later ∙ none)
      where
        drop_nothing : (xs : List CallLine) (n : ℕ) → drop n xs ≡ [] → drop (suc n) xs ≡ []
        drop_nothing [] n is = refl
        drop_nothing (x ∷ xs) zero is = absurd cc
        drop_nothing (x ∷ xs) (suc n) is = drop_nothing xs n is

    next_replying : ServerFits c Replying held (Some line) log → FitsGoing longer (going_on c Replying held a)
    next_replying f =
        let is = f.stands.line_is.2 in
        let none : received_by line.call a ≡ [] = ap (λ (l : CallLine). received_by l.call a) is in
        let past = past_more Replying f refl in
        asks_here Replying held line log a f on Receiving held (receive_line 0) refl
        (due_later log (logged line a) (none_refused Replying held line log a f on) (get_none opening (length longer) past) ∙ ap (λ (l : CallLine). cond (is_receive l.call) (due_after_message c.clients c.repeat c.calls (contents_received longer) (bytes_answered a)) (Some (receive_line 0))) is)
        past (silent Replying held line log a f none)

    module _ (f : ServerFits c Receiving held (Some line) log) (size : ℕ) (bytes : List ℕ) (gave : a ≡ gives size bytes) where
      abbrev messages : List (List ℕ)
      messages = contents_received log

      abbrev now : Handled
      now = handled held.service bytes held.reply

      abbrev kept : Held
      kept = with_message held now bytes

      came : contents_received longer ≡ messages ++ bytes ∷ []
      came = heard log line a single_size size bytes (ap (λ (l : CallLine). received_by l.call a) f.stands.line_is ∙ ap (received_by (MsgRecv 1 single_size)) gave)

      holds : Holds c kept (messages ++ bytes ∷ [])
      holds = holds_more c held messages f.holds bytes

      past : drop (length longer) opening ≡ []
      past = past_more Receiving f refl

      due_message : due (role_of c) longer ≡ (takes_message c held bytes).line
      due_message =
          due_later log (logged line a) (none_refused Receiving held line log a f on) (get_none opening (length longer) past)
          ∙ ap (λ (l : CallLine). cond (is_receive l.call) (due_after_message c.clients c.repeat c.calls (contents_received longer) (bytes_answered a)) (Some (receive_line 0))) f.stands.line_is
          ∙ ap₂ (λ ms b. due_after_message c.clients c.repeat c.calls ms b) came (ap bytes_answered gave)
          ∙ ap₂ (λ n b. cond (ltb (c.repeat * c.calls + c.clients) n) None (cond (is_some (bye_in bytes)) (cond b None (Some (receive_line 0))) (reply_due (handled_all c.calls (messages ++ bytes ∷ [])).answer (handled_all c.calls (messages ++ bytes ∷ [])).reply))) (sym holds.received) (sym (left_all c kept (messages ++ bytes ∷ []) holds few))
          ∙ ap (λ (h : Handled). cond (ltb (limit c) kept.received) None (cond (is_some (bye_in bytes)) (cond (have_left c.clients kept.left) None (Some (receive_line 0))) (reply_due h.answer h.reply))) (now_is c held messages f.holds bytes)
          ∙ sym (line_of_message kept (ltb (limit c) kept.received) (is_some (bye_in bytes)) (have_left c.clients kept.left) now.answer)

      by_tests : (over bye all : Bool) (o : Result ℕ ServiceFault) → due (role_of c) longer ≡ (cond over (ends kept) (cond bye (cond all (ends kept) (goes Receiving kept (receive_line 0))) (replies kept o))).line →
          FitsGoing longer (cond over (ends kept) (cond bye (cond all (ends kept) (goes Receiving kept (receive_line 0))) (replies kept o)))
      by_tests true bye all o is = ends_here Receiving held line log a f kept (subst (Holds c kept) (sym came) holds) is
      by_tests false true true o is = ends_here Receiving held line log a f kept (subst (Holds c kept) (sym came) holds) is
      by_tests false true false o is = asks_here Receiving held line log a f on Receiving kept (receive_line 0) refl is past (subst (Holds c kept) (sym came) holds)
      by_tests false false all (Ok to) is = asks_here Receiving held line log a f on Replying kept (reply_line to kept.reply) (to, kept.reply, refl) is past (subst (Holds c kept) (sym came) holds)
      by_tests false false all (Err fault) is = ends_here Receiving held line log a f kept (subst (Holds c kept) (sym came) holds) is

      by_message : FitsGoing longer (takes_message c held bytes)
      by_message = by_tests (ltb (limit c) kept.received) (is_some (bye_in bytes)) (have_left c.clients kept.left) now.answer due_message

  next_receiving : (held : Held) (line : CallLine) (log : List LoggedCall) (a : PlainAnswer) → is_refused a ≡ false → ServerFits c Receiving held (Some line) log → IsAnswerTo (MsgRecv 1 single_size) a → FitsGoing (log ++ logged line a ∷ []) (going_on c Receiving held a)
  next_receiving held line log (gives size bytes) on f may = by_message held line log (gives size bytes) on f size bytes refl
  next_receiving held line log (refuses w) on f may = absurd cc
  next_receiving held line log agrees on f may = let none = may.in_form in absurd cc
  next_receiving held line log (tells k) on f may = let none = may.in_form in absurd cc
  next_receiving held line log (connects r k) on f may = let none = may.in_form in absurd cc
  next_receiving held line log (completes p r) on f may = let none = may.in_form in absurd cc

  next_on : (place : ServerPlace) (held : Held) (line : CallLine) (log : List LoggedCall) (a : PlainAnswer) → is_refused a ≡ false → ServerFits c place held (Some line) log → IsAnswerTo line.call a → FitsGoing (log ++ logged line a ∷ []) (going_on c place held a)
  next_on New held line log a on f may = absurd f.stands.line_is
  next_on Created held line log a on f may = next_created held line log a on f
  next_on (LookedUp d) held line log a on f may = next_looked held line log a on d f
  next_on (Waited d) held line log a on f may = next_waited held line log a on d f
  next_on Receiving held line log a on f may = next_receiving held line log a on f (subst (λ (l : CallLine). IsAnswerTo l.call a) f.stands.line_is may)
  next_on Replying held line log a on f may = next_replying held line log a on f
  next_on Ended held line log a on f may = absurd f.stands.line_is

  next_told : (place : ServerPlace) (held : Held) (line : CallLine) (log : List LoggedCall) (a : PlainAnswer) → ServerFits c place held (Some line) log → IsAnswerTo line.call a → FitsGoing (log ++ logged line a ∷ []) (going_told c place held a)
  next_told place held line log a f may = go (is_refused a) refl
    where
      go : (b : Bool) → is_refused a ≡ b → FitsGoing (log ++ logged line a ∷ []) (cond b (ends held) (going_on c place held a))
      go true refused = ends_here place held line log a f held (silent place held line log a f (refused_silent line.call a refused)) (due_refused (log ++ logged line a ∷ []) (any_last was_refused log (logged line a) refused))
      go false on = next_on place held line log a on f may

  next_new : (held : Held) (log : List LoggedCall) → ServerFits c New held None log → FitsGoing log (going c New held None)
  next_new held log f =
      let none : list_any was_refused log ≡ false = ap (list_any was_refused) f.stands in
      let later : drop (length log) opening ≡ opening = ap (λ (ls : List LoggedCall). drop (length ls) opening) f.stands in
      record {
        fits = f.fits;
        holds = f.holds;
        stands = record { line_is = refl; due_is = due_opening log create_line none (get_dropped opening (length log) create_line (finding_from c 1) (later ∙ opening_is)); later = later; none_refused = none };
      }

  next_ended : (held : Held) (log : List LoggedCall) → ServerFits c Ended held None log → FitsGoing log (going c Ended held None)
  next_ended held log f = record { fits = f.fits; holds = f.holds; stands = f.stands }

  pub fits_next : (place : ServerPlace) (held : Held) (asked : Option CallLine) (told : Option PlainAnswer) (log : List LoggedCall) → IsToldFor asked told → ServerFits c place held asked log → FitsGoing (log_so_far log asked told) (going c place held told)
  fits_next place held (Some line) (Some a) log told f = next_told place held line log a f told
  fits_next New held None None log told f = next_new held log f
  fits_next Ended held None None log told f = next_ended held log f
  fits_next place held None None log told f = absurd f.stands
  fits_next place held None (Some a) log told f = absurd told
  fits_next place held (Some line) None log told f = absurd told

  pub ends_next : (place : ServerPlace) (held : Held) (log : List LoggedCall) → place ≢ New → ServerFits c place held None log → due (role_of c) log ≡ None
  ends_next Ended held log old f = f.stands
  ends_next New held log old f = absurd (old refl)
  ends_next place held log old f = absurd f.stands
