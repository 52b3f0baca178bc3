-- The line that is due of a client, or of the server, may follow the lines of its log.
use Rattle.std.proofs.Common.{◌≡◌, inl, inr, ℕ, zero, suc, ◌+◌, ◌*◌, ◌≤◌, ◌<◌, nat_lt, Bool, true, false, cond, List, [], ◌∷◌, ◌++◌, length, drop, replicate, slice_get, Option, Some, None, refl, sym, ap, ap₂, subst, ◌∙◌, arith, append_assoc, append-nil}
use Rattle.std.specs.Prelude.{◌||◌, Result, Ok, Err, bytes_eq, codes, is_some}
use Rattle.std.specs.List.{AllByRecursion, flat_map, list_any}
use Rattle.std.proofs.lemmas.Bool.{cases_Bool}
use Rattle.std.proofs.lemmas.Slice.Eq.{bytes_eq-Decides}
use Rattle.board_model.specs.declared.scenario.CallLine.{CallLine}
use Rattle.board_model.specs.FileWords.{is_label, number}
use Rattle.board_model.specs.Forms.{gives_request}
use Rattle.board_model.specs.LineReasons.{tells}
use Rattle.board_model.specs.Logs.{LoggedCall, bytes_answered}
use Rattle.board_model.specs.MadeLines.{once, labelled}
use Rattle.board_model.specs.declared.scenario.Call.TheVariants.{Create, Lookup}
use Rattle.board_model.proofs.MessageAlls.{all-append}
use Rattle.board_model.proofs.WordDecimals.{number-decimal}
use Rattle.scenario_lang.proofs.LoadLines.{packet_label-is}
use Rattle.board_runner.specs.ActorLogs.{MayFollow, AllFollow, lines_in_log}
use Rattle.call_service.specs.declared.request.ServiceFault.{ServiceFault}
use Rattle.call_service.specs.Served.{rising}
use Rattle.call_logs.specs.Following.{is_refused, last_call, FollowsFrom, Follows}
use Rattle.call_logs.specs.LogMessages.{contents_received}
use Rattle.call_logs.specs.CallBytes.{bye_in}
use Rattle.call_logs.specs.Roles.{client, server, finding, endpoint_of, receive_line, request_line, bye_line, call_lines, client_lines, are_as_said, server_opening, handled_all, reply_due, all_left, is_receive, due_after_message, due_behind, due_of_server, due_unrefused, due}
use Rattle.call_logs.proofs.Followed.{not_none, some_one}
use Rattle.call_actor.specs.ServerLabels.{label_for}
use Rattle.call_actor.specs.ServerSteps.{lookup_line, wait_line}
use Rattle.call_actor.proofs.BytesFit.{RepliesWell, request_fits, bye_fits, all_well}
use Rattle.call_actor.proofs.CallLines.{untold, told_last, label_itself, create_may, send_may, receive_may, lookup_may, wait_may}
use Rattle.call_actor.proofs.Places.{length_more, get_dropped, drop_behind}

-- ---- a log whose lines are those of a plan, as far as that goes

abbrev KeepsTo : List CallLine → (List LoggedCall → Option CallLine) → Type 0
KeepsTo plan due = (log : List LoggedCall) (line x : CallLine) → due log ≡ Some line → slice_get plan (length log) ≡ Some x → x ≡ line

module _ (d : ℕ) (plan : List CallLine) (due : List LoggedCall → Option CallLine) (keeps : KeepsTo plan due) where
  follow_from : (early xs : List CallLine) (before log : List LoggedCall) (x : CallLine) → AllFollow d early xs → drop (length before) plan ≡ xs → FollowsFrom due before log → slice_get xs (length log) ≡ Some x → MayFollow d (early ++ lines_in_log log) x
  follow_from early [] before log x all is fits at = absurd cc
  follow_from early (y ∷ ys) before [] x all is fits at =
      let same : y ≡ x = cc in
      subst (λ (ks : List CallLine). MayFollow d ks x) (sym (append-nil early)) (subst (MayFollow d early) same all.0)
  follow_from early (y ∷ ys) before (l ∷ ls) x all is fits at =
      let same : y ≡ l.line = keeps before l.line y fits.0 (get_dropped plan (length before) y ys is) in
      let next : drop (length (before ++ l ∷ [])) plan ≡ ys = ap (λ n. drop n plan) (length_more before l) ∙ drop_behind plan (length before) y ys is in
      subst (λ (ks : List CallLine). MayFollow d ks x) (append_assoc early (y ∷ []) (lines_in_log ls) ∙ ap (λ (k : CallLine). early ++ k ∷ lines_in_log ls) same)
      (follow_from (early ++ y ∷ []) ys (before ++ l ∷ []) ls x all.1 next fits.1 at)

  follow_plan : (log : List LoggedCall) (x : CallLine) → AllFollow d [] plan → Follows due log → slice_get plan (length log) ≡ Some x → MayFollow d (lines_in_log log) x
  follow_plan log x all fits at = follow_from [] plan [] log x all refl fits at

-- ---- a client

module _ (d repeat : ℕ) (calls : List (ℕ × ℕ)) (small : d ≤ 7) (cells : AllByRecursion (λ k. k.0 < 16) calls) where
  -- whatever came before
  abbrev MayAlways : CallLine → Type 0
  MayAlways line = (earlier : List CallLine) → MayFollow d earlier line

  all_follow : (early xs : List CallLine) → AllByRecursion MayAlways xs → AllFollow d early xs
  all_follow early [] all = tt
  all_follow early (x ∷ xs) all = (all.0 early, all_follow (early ++ x ∷ []) xs all.1)

  all_same : (n : ℕ) (x : CallLine) → MayAlways x → AllByRecursion MayAlways (replicate n x)
  all_same zero x may = tt
  all_same (suc n) x may = (may, all_same n x may)

  low : d < 256
  low = omega (arith, small)

  calls_always : (number : ℕ) (ks : List (ℕ × ℕ)) → AllByRecursion (λ k. k.0 < 16) ks → AllByRecursion MayAlways (call_lines d repeat number ks)
  calls_always number [] fit = tt
  calls_always number (k ∷ ks) fit =
      all-append MayAlways (replicate repeat (request_line d number k)) _
      (all_same repeat (request_line d number k) (λ earlier. send_may d earlier small 0 1 _ (omega arith) (omega arith) (request_fits d number k.0 k.1 low (omega (arith, fit.0)))))
      (all-append MayAlways (replicate repeat (receive_line d)) _ (all_same repeat (receive_line d) (λ earlier. receive_may d earlier small)) (calls_always (number + 1) ks fit.1))

  abbrev lookup : ℕ → CallLine
  lookup e = labelled e (codes "a") (Lookup (endpoint_of 0))

  client_plan : AllFollow d [] (client_lines d repeat calls)
  client_plan = (
    create_may d [] small,
    (
      lookup_may d (once d (Create 1) ∷ []) small (codes "a") 0 (omega arith) refl (ap (λ (b : Bool). b || false) (untold d (codes "a") (once d (Create 1)) refl)),
      (
        wait_may d (once d (Create 1) ∷ lookup d ∷ []) small (codes "a") refl (told_last d (codes "a") (once d (Create 1) ∷ []) (lookup d) gives_request refl refl refl),
        all_follow _ _ (all-append MayAlways (call_lines d repeat 1 calls) (bye_line d ∷ []) (calls_always 1 calls cells) ((λ earlier. send_may d earlier small 0 1 _ (omega arith) (omega arith) (bye_fits d low)), tt)),
      ),
    ),
  )

  at_place : (log : List LoggedCall) (line : CallLine) → due (client d repeat calls) log ≡ Some line → slice_get (client_lines d repeat calls) (length log) ≡ Some line
  at_place log line is =
      some_one (are_as_said repeat 1 calls (contents_received log)) (slice_get (client_lines d repeat calls) (length log)) line
      (not_none (list_any (λ (l : LoggedCall). is_refused l.answer) log) (due_unrefused (client d repeat calls) log) line is)

  client_keeps : KeepsTo (client_lines d repeat calls) (due (client d repeat calls))
  client_keeps log line x is at = let both : Some x ≡ Some line = sym at ∙ at_place log line is in cc

  pub client_may : (log : List LoggedCall) (line : CallLine) → Follows (due (client d repeat calls)) log → due (client d repeat calls) log ≡ Some line → MayFollow d (lines_in_log log) line
  client_may log line fits is = follow_plan d (client_lines d repeat calls) (due (client d repeat calls)) client_keeps log line client_plan fits (at_place log line is)

-- ---- the labels of the server's lookups

abbrev rest_of : List ℕ → List ℕ
rest_of [] = []
rest_of (b ∷ bs) = bs

labels_differ : (j k : ℕ) → k < j → j < 8 → bytes_eq (label_for j) (label_for k) ≡ false
labels_differ j k less small = elim (cases_Bool (bytes_eq (label_for j) (label_for k))) [
  | inr other ↦ other
  | inl same ↦
      let is : label_for j ≡ label_for k = (bytes_eq-Decides (label_for j) (label_for k)).0 same in
      let equal : j ≡ k = sym (number-decimal j (omega (arith, small))) ∙ ap number (ap rest_of is) ∙ number-decimal k (omega (arith, less, small)) in
      absurd (omega (arith, equal, less))
]

label_is : (d : ℕ) → d < 8 → is_label (label_for d) ≡ true
label_is d small = packet_label-is d (omega (arith, small))

-- no label from a client's on is told by these lines
abbrev Fresh : ℕ → List CallLine → Type 0
Fresh d earlier = (k : ℕ) → d ≤ k → k < 8 → list_any (tells 0 (label_for k)) earlier ≡ false

any_more : (test : CallLine → Bool) (xs : List CallLine) (x : CallLine) → list_any test xs ≡ false → test x ≡ false → list_any test (xs ++ x ∷ []) ≡ false
any_more test [] x none last = ap (λ (b : Bool). b || false) last
any_more test (y ∷ ys) x none last =
    let parts = both_false (test y) (list_any test ys) none in
    ap₂ (λ (a b : Bool). a || b) parts.0 (any_more test ys x parts.1 last)
  where
    both_false : (a b : Bool) → (a || b) ≡ false → (a ≡ false) × (b ≡ false)
    both_false true b is = absurd cc
    both_false false b is = (refl, is)

fresh_more : (d : ℕ) (earlier : List CallLine) → Fresh d earlier → Fresh (d + 1) ((earlier ++ lookup_line d ∷ []) ++ wait_line d ∷ [])
fresh_more d earlier fresh k le small =
    any_more (tells 0 (label_for k)) (earlier ++ lookup_line d ∷ []) (wait_line d)
    (any_more (tells 0 (label_for k)) earlier (lookup_line d) (fresh k (omega (arith, le)) small) (untold 0 (label_for k) (lookup_line d) (labels_differ k d (omega (arith, le)) small)))
    (untold 0 (label_for k) (wait_line d) refl)

-- ---- the server

findings_follow : (n d : ℕ) (earlier : List CallLine) → d + n ≤ 8 → Fresh d earlier → AllFollow 0 earlier (flat_map (λ k. finding 0 (label_for k) k) (rising d n))
findings_follow zero d earlier few fresh = tt
findings_follow (suc n) d earlier few fresh = (
  lookup_may 0 earlier (omega arith) (label_for d) d (omega (arith, few)) (label_is d (omega (arith, few))) (fresh d (omega arith) (omega (arith, few))),
  (
    wait_may 0 (earlier ++ lookup_line d ∷ []) (omega arith) (label_for d) (label_is d (omega (arith, few))) (told_last 0 (label_for d) earlier (lookup_line d) gives_request refl (label_itself (label_for d)) refl),
    findings_follow n (d + 1) ((earlier ++ lookup_line d ∷ []) ++ wait_line d ∷ []) (omega (arith, few)) (fresh_more d earlier fresh),
  ),
)

abbrev AnyMay : List CallLine → Option CallLine → Type 0
AnyMay earlier None = Unit {0}
AnyMay earlier (Some line) = MayFollow 0 earlier line

receive_any : (earlier : List CallLine) → MayFollow 0 earlier (receive_line 0)
receive_any earlier = receive_may 0 earlier (omega arith)

reply_may : (earlier : List CallLine) (o : Result ℕ ServiceFault) (reply : List ℕ) → RepliesWell o reply → AnyMay earlier (reply_due o reply)
reply_may earlier (Ok to) reply well = send_may 0 earlier (omega arith) to 0 reply well.0 (omega arith) well.1
reply_may earlier (Err fault) reply well = tt

module _ (clients repeat calls : ℕ) (few : clients < 8) where
  by_tests : (earlier : List CallLine) (over bye left : Bool) (o : Option CallLine) → AnyMay earlier o → AnyMay earlier (cond over None (cond bye (cond left None (Some (receive_line 0))) o))
  by_tests earlier true bye left o may = tt
  by_tests earlier false true true o may = tt
  by_tests earlier false true false o may = receive_any earlier
  by_tests earlier false false left o may = may

  message_may : (earlier : List CallLine) (messages : List (List ℕ)) (message : List ℕ) → AnyMay earlier (due_after_message clients repeat calls messages message)
  message_may earlier messages message =
      by_tests earlier (nat_lt (repeat * calls + clients) (length messages)) (is_some (bye_in message)) (all_left clients messages) (reply_due (handled_all calls messages).answer (handled_all calls messages).reply)
      (reply_may earlier (handled_all calls messages).answer (handled_all calls messages).reply (all_well calls messages))

  behind_may : (earlier : List CallLine) (log : List LoggedCall) (o : Option LoggedCall) → AnyMay earlier (due_behind clients repeat calls log o)
  behind_may earlier log None = tt
  behind_may earlier log (Some l) = go (is_receive l.line.call)
    where
      go : (b : Bool) → AnyMay earlier (cond b (due_after_message clients repeat calls (contents_received log) (bytes_answered l.answer)) (Some (receive_line 0)))
      go true = message_may earlier (contents_received log) (bytes_answered l.answer)
      go false = receive_any earlier

  server_plan : AllFollow 0 [] (server_opening clients)
  server_plan = (create_may 0 [] (omega arith), findings_follow clients 1 (once 0 (Create 1) ∷ []) (omega (arith, few)) (λ k le small. ap (λ (b : Bool). b || false) (untold 0 (label_for k) (once 0 (Create 1)) refl)))

  -- by the line of the opening at the place
  due_is : (log : List LoggedCall) (line : CallLine) (o : Option CallLine) → slice_get (server_opening clients) (length log) ≡ o → due (server clients repeat calls) log ≡ Some line → due_of_server clients repeat calls log o ≡ Some line
  due_is log line o at is = sym (ap (due_of_server clients repeat calls log) at) ∙ not_none (list_any (λ (l : LoggedCall). is_refused l.answer) log) (due_unrefused (server clients repeat calls) log) line is

  server_keeps : KeepsTo (server_opening clients) (due (server clients repeat calls))
  server_keeps log line x is at = let both : Some x ≡ Some line = due_is log line (Some x) at is in cc

  pub server_may : (log : List LoggedCall) (line : CallLine) → Follows (due (server clients repeat calls)) log → due (server clients repeat calls) log ≡ Some line → MayFollow 0 (lines_in_log log) line
  server_may log line fits is = go (slice_get (server_opening clients) (length log)) refl
    where
      go : (o : Option CallLine) → slice_get (server_opening clients) (length log) ≡ o → MayFollow 0 (lines_in_log log) line
      go (Some x) at =
          let same : x ≡ line = server_keeps log line x is at in
          subst (MayFollow 0 (lines_in_log log)) same (follow_plan 0 (server_opening clients) (due (server clients repeat calls)) server_keeps log x server_plan fits at)
      go None at = subst (AnyMay (lines_in_log log)) (due_is log line None at is) (behind_may (lines_in_log log) log (last_call log))
