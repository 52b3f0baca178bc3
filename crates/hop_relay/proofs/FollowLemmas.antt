-- The lines that actors give may follow the earlier lines of their domains.
use Rattle.std.proofs.Common.{◌≡◌, ℕ, ◌+◌, ◌≤◌, ◌<◌, ◌^◌, nat_lt, Bool, true, false, ◌&&◌, cond, inl, inr, List, [], ◌∷◌, ◌++◌, length, slice_get, Option, Some, None, refl, ap, sym, subst, ◌∙◌, arith, append_assoc, append-nil}
use Rattle.std.specs.Prelude.{IfSome, codes}
use Rattle.std.specs.List.{list_any}
use Rattle.std.proofs.lemmas.Bool.{cases_Bool, ltb-false}
use Rattle.mc_base.specs.Limits.{asked_limit}
use Rattle.mc_base.specs.declared.channel.Kind.TheVariants.{Packet}
use Rattle.board_model.specs.declared.scenario.Call.{Call}
use Rattle.board_model.specs.declared.scenario.Call.TheVariants.{Create, Lookup, Connect, PktSend}
use Rattle.board_model.specs.declared.scenario.CallLine.{CallLine}
use Rattle.board_model.specs.Forms.{gives_request, gives_packet}
use Rattle.board_model.specs.Journal.{PlainAnswer, gives, refuses}
use Rattle.board_model.specs.LineReasons.{tells}
use Rattle.board_model.specs.Logs.{LoggedCall}
use Rattle.board_model.specs.MadeLines.{once, labelled, labelled_tried, waited, packet_label}
use Rattle.scenario_lang.proofs.LoadLines.{packet_label-is}
use Rattle.board_runner.specs.ActorLogs.{IsToldFor, log_so_far, lines_in_log, MayFollow, AllFollow}
use Rattle.hop_relay.specs.declared.role.Role.{Role}
use Rattle.hop_relay.specs.declared.role.Role.TheVariants.{First, Middle, Last}
use Rattle.hop_relay.specs.declared.step.Step.{Step}
use Rattle.hop_relay.specs.declared.step.Step.TheVariants.{Opening, Receiving, Sending, Releasing, ClosingSender, ClosingReceiver, Ended}
use Rattle.hop_relay.specs.Roles.{opening, receiver_of, send_line, receive_line, release_line, due_by, last_call, receives, FitsRole}
use Rattle.hop_relay.specs.Steps.{Place, packet_limit, step_of, are_of_opening, is_agreed, is_closed, was_refused, opening_next, or_else, next_of, after_receive, behind, next_line, GoesOn, SendsBytes, FitsSend, FitsRelay}
use Rattle.hop_relay.proofs.RoleLogs.{in_opening}
use Rattle.hop_relay.proofs.RoleLines.{FitsLines, fits_lines}
use Rattle.hop_relay.proofs.PlaceLemmas.{fits_after, past_next, asked_receives}
use Rattle.hop_relay.proofs.TodoLemmas.{IsWithin, first_opens}
use Rattle.hop_relay.proofs.TellLines.{create_may, open_recv_may, open_send_may, send_may, close_send_may, close_recv_may, lookup_may, connect_may, receive_may, wait_may, release_may}
use Rattle.hop_relay.proofs.LabelLemmas.{Labels, not_told, told_last, middle_labels, last_labels}

-- ---- in the opening

abbrev lookup_line : ℕ → CallLine
lookup_line d = labelled d (codes "a") (Lookup (receiver_of (d + 1)))

abbrev connect_line : ℕ → CallLine
connect_line d = labelled_tried d (codes "c") (Connect 1 (receiver_of (d + 1)) Packet)

first_follows : (packets : List (List ℕ)) → AllFollow 0 [] (opening (First packets))
first_follows packets = (
  create_may 0 _ 1 (omega arith) (omega arith),
  (
    lookup_may 0 _ (omega arith) (not_told 0 (codes "a") (once 0 (Create 1) ∷ []) (refl, tt)),
    (
      wait_may 0 _ (codes "a") (omega arith) refl (told_last 0 (codes "a") (once 0 (Create 1) ∷ []) (lookup_line 0) gives_request refl refl refl),
      (
        connect_may 0 _ (omega arith) (not_told 0 (codes "c") (once 0 (Create 1) ∷ lookup_line 0 ∷ waited 0 (codes "a") ∷ []) (refl, (refl, (refl, tt)))),
        (
          wait_may 0 _ (codes "c") (omega arith) refl (told_last 0 (codes "c") (once 0 (Create 1) ∷ lookup_line 0 ∷ waited 0 (codes "a") ∷ []) (connect_line 0) gives_request refl refl refl),
          (open_send_may 0 _ (omega arith), tt),
        ),
      ),
    ),
  ),
)

middle_follows : (d most : ℕ) → d ≤ 6 → AllFollow d [] (opening (Middle d most))
middle_follows d most small =
    let most_small : d ≤ 7 = omega (arith, small) in (
      create_may d _ 1 most_small (omega arith),
      (
        create_may d _ 2 most_small (omega arith),
        (
          lookup_may d _ small (not_told d (codes "a") (once d (Create 1) ∷ once d (Create 2) ∷ []) (refl, (refl, tt))),
          (
            wait_may d _ (codes "a") most_small refl (told_last d (codes "a") (once d (Create 1) ∷ once d (Create 2) ∷ []) (lookup_line d) gives_request refl refl refl),
            (
              connect_may d _ small (not_told d (codes "c") (once d (Create 1) ∷ once d (Create 2) ∷ lookup_line d ∷ waited d (codes "a") ∷ []) (refl, (refl, (refl, (refl, tt))))),
              (
                wait_may d _ (codes "c") most_small refl (told_last d (codes "c") (once d (Create 1) ∷ once d (Create 2) ∷ lookup_line d ∷ waited d (codes "a") ∷ []) (connect_line d) gives_request refl refl refl),
                (open_recv_may d _ most_small, (open_send_may d _ most_small, tt)),
              ),
            ),
          ),
        ),
      ),
    )

last_follows : (d most : ℕ) → d ≤ 7 → AllFollow d [] (opening (Last d most))
last_follows d most small = (create_may d _ 2 small (omega arith), (open_recv_may d _ small, tt))

-- the line at the end of a log that is a front of these
follow_here : (d : ℕ) (early : List CallLine) (log : List LoggedCall) (xs : List CallLine) (x : CallLine) → AllFollow d early xs → FitsLines log xs → slice_get xs (length log) ≡ Some x → MayFollow d (early ++ lines_in_log log) x
follow_here d early [] [] x all fits at = absurd cc
follow_here d early [] (y ∷ ys) x all fits at =
    let same : y ≡ x = cc in
    subst (λ (ks : List CallLine). MayFollow d ks x) (sym (append-nil early)) (subst (MayFollow d early) same all.0)
follow_here d early (l ∷ ls) [] x all fits at = absurd cc
follow_here d early (l ∷ ls) (y ∷ ys) x all fits at =
    subst (λ (ks : List CallLine). MayFollow d ks x) (append_assoc early (y ∷ []) (lines_in_log ls) ∙ ap (λ (k : CallLine). early ++ k ∷ lines_in_log ls) fits.0)
    (follow_here d (early ++ y ∷ []) ls ys x all.1 fits.1 at)

-- ---- behind it

abbrev AnyMay : ℕ → List CallLine → Option CallLine → Type 0
AnyMay d earlier None = Unit {0}
AnyMay d earlier (Some line) = FitsSend line.call → MayFollow d earlier line

if_may : (d : ℕ) (earlier : List CallLine) (b : Bool) (o : Option CallLine) → AnyMay d earlier o → AnyMay d earlier (cond b o None)
if_may d earlier true o may = may
if_may d earlier false o may = tt

next_may : (earlier : List CallLine) (left : List (List ℕ)) → AnyMay 0 earlier (Some (next_of left))
next_may earlier [] = λ sends. close_send_may 0 earlier (omega arith)
next_may earlier (bytes ∷ left) = λ sends. send_may 0 earlier bytes (omega arith) sends.0 sends.1

first_may : (packets left : List (List ℕ)) (s : Step) (told : Option PlainAnswer) (earlier : List CallLine) → AnyMay 0 earlier (behind (First packets) left 0 s told)
first_may packets left Opening told earlier = if_may 0 earlier (is_agreed told) (Some (next_of left)) (next_may earlier left)
first_may packets left Sending told earlier = if_may 0 earlier (is_agreed told) (Some (next_of left)) (next_may earlier left)
first_may packets left Receiving told earlier = tt
first_may packets left Releasing told earlier = if_may 0 earlier (is_agreed told) None tt
first_may packets left ClosingSender told earlier = if_may 0 earlier (is_agreed told) None tt
first_may packets left ClosingReceiver told earlier = if_may 0 earlier (is_agreed told) None tt
first_may packets left Ended told earlier = if_may 0 earlier (is_agreed told) None tt

-- of a domain that has asked for so many receives, with the labels of their packets
module _ (d most k : ℕ) (earlier : List CallLine) (small : d ≤ 7) (few : most ≤ packet_limit)
    (fresh : (j : ℕ) → k < j → j < 2 ^ 64 → list_any (tells d (packet_label j)) earlier ≡ false)
    (told_so : 1 ≤ k → list_any (λ c. tells d (packet_label k) c && gives_packet c.call) earlier ≡ true) where
  receive_next : (j : ℕ) → k < j → j ≤ most + 1 → AnyMay d earlier (Some (receive_line d j))
  receive_next j less low = λ sends. receive_may d earlier (packet_label j) small (packet_label-is j (omega (arith, low, few))) (fresh j less (omega (arith, low, few)))

  release_next : 1 ≤ k → k ≤ most → AnyMay d earlier (Some (release_line d k))
  release_next some low = λ sends. release_may d earlier (packet_label k) small (packet_label-is k (omega (arith, low, few))) (told_so some)

  unless_many : (o : Option CallLine) → (k ≤ most → AnyMay d earlier o) → AnyMay d earlier (cond (nat_lt most k) None o)
  unless_many o may = elim (cases_Bool (nat_lt most k)) [
    | inl many ↦ rw many tt
    | inr not_many ↦ let low = ltb-false most k not_many in rw not_many (may (omega (arith, low)))
  ]

  middle_received : (told : Option PlainAnswer) → AnyMay d earlier (after_receive (Middle d most) k told)
  middle_received (Some (gives size bytes)) = unless_many (Some (send_line d bytes)) (λ low sends. send_may d earlier bytes small sends.0 sends.1)
  middle_received (Some (refuses word)) = if_may d earlier (is_closed word) _ (λ sends. close_send_may d earlier small)
  middle_received told = tt

  last_received : (told : Option PlainAnswer) → IsWithin most Receiving k → AnyMay d earlier (after_receive (Last d most) k told)
  last_received (Some (gives size bytes)) w = unless_many (Some (release_line d k)) (λ low. release_next w.some low)
  last_received (Some (refuses word)) w = if_may d earlier (is_closed word) _ (λ sends. close_recv_may d earlier small)
  last_received told w = tt

  middle_may : (s : Step) (told : Option PlainAnswer) → IsWithin most s k → AnyMay d earlier (behind (Middle d most) [] k s told)
  middle_may Opening told w = if_may d earlier (is_agreed told) (Some (receive_line d 1)) (receive_next 1 (omega (arith, w.few)) (omega arith))
  middle_may Receiving told w = middle_received told
  middle_may Sending told w = if_may d earlier (is_agreed told) (Some (release_line d k)) (release_next w.some w.few)
  middle_may Releasing told w = if_may d earlier (is_agreed told) (Some (receive_line d (k + 1))) (receive_next (k + 1) (omega arith) (omega (arith, w.few)))
  middle_may ClosingSender told w = if_may d earlier (is_agreed told) _ (λ sends. close_recv_may d earlier small)
  middle_may ClosingReceiver told w = if_may d earlier (is_agreed told) None tt
  middle_may Ended told w = if_may d earlier (is_agreed told) None tt

  last_may : (s : Step) (told : Option PlainAnswer) → IsWithin most s k → AnyMay d earlier (behind (Last d most) [] k s told)
  last_may Opening told w = if_may d earlier (is_agreed told) (Some (receive_line d 1)) (receive_next 1 (omega (arith, w.few)) (omega arith))
  last_may Receiving told w = last_received told w
  last_may Releasing told w = if_may d earlier (is_agreed told) (Some (receive_line d (k + 1))) (receive_next (k + 1) (omega arith) (omega (arith, w.few)))
  last_may Sending told w = if_may d earlier (is_agreed told) None tt
  last_may ClosingSender told w = if_may d earlier (is_agreed told) None tt
  last_may ClosingReceiver told w = if_may d earlier (is_agreed told) None tt
  last_may Ended told w = if_may d earlier (is_agreed told) None tt

-- ---- after a log

module _ (role : Role) (d : ℕ) (p : Place) (asked : Option CallLine) (told : Option PlainAnswer) (fit : IsToldFor asked told) (log : List LoggedCall) (f : FitsRelay role p asked log) (q : Place) (all : AllFollow d [] (opening role)) where
  abbrev now : List LoggedCall
  now = log_so_far log asked told

  line_follows : (line : CallLine) → GoesOn role p told (Some line) q → FitsSend line.call → (receives now ≡ p.receives_asked → FitsRole role now → AnyMay d (lines_in_log now) (behind role p.packets_left p.receives_asked p.step told)) → MayFollow d (lines_in_log now) line
  line_follows line goes sends may = go (slice_get (opening role) (length now)) refl
    where
      after : FitsRelay role q (Some line) now
      after = fits_after role p (Some line) q asked told log fit f goes

      go : (o : Option CallLine) → slice_get (opening role) (length now) ≡ o → MayFollow d (lines_in_log now) line
      go (Some x) at =
          let same : x ≡ line = in_opening x line (last_call now) (sym (ap (due_by role now) at) ∙ after.stands.0) in
          subst (MayFollow d (lines_in_log now)) same (follow_here d [] now (opening role) x all (fits_lines role now after.fits) at)
      go None none =
          let is : Some line ≡ behind role p.packets_left p.receives_asked p.step told = goes.line ∙ past_next role p asked told log fit f none in
          let counted : receives now ≡ p.receives_asked = asked_receives role p asked told log fit f in
          let here : AnyMay d (lines_in_log now) (Some line) = subst (AnyMay d (lines_in_log now)) (sym is) (may counted after.fits) in
          here sends

-- ---- as the contracts have it

both_given : {A : Type 0} (o : Option A) (P Q : A → Type 0) → IfSome o P → ((x : A) → o ≡ Some x → P x → Q x) → IfSome o Q
both_given None P Q p given = tt
both_given (Some x) P Q p given = given x refl p

module _ (p : Place) (asked : Option CallLine) (told : Option PlainAnswer) (next : Option CallLine) (q : Place) (fit : IsToldFor asked told) where
  -- each line may follow
  abbrev FollowsAll : Role → ℕ → Type 0
  FollowsAll role d = IfSome next (λ l. (log : List LoggedCall) → FitsRelay role p asked log → MayFollow d (lines_in_log (log_so_far log asked told)) l)

  abbrev Sends : Type 0
  Sends = IfSome next (λ l. FitsSend l.call)

  pub first_goes : (packets : List (List ℕ)) → GoesOn (First packets) p told next q → p.receives_asked ≡ 0 → Sends → FollowsAll (First packets) 0
  first_goes packets goes none sends =
      both_given next (λ l. FitsSend l.call) (λ l. (log : List LoggedCall) → FitsRelay (First packets) p asked log → MayFollow 0 (lines_in_log (log_so_far log asked told)) l) sends
      (λ line is sent log f.
      line_follows (First packets) 0 p asked told fit log f q (first_follows packets) line (subst (λ (o : Option CallLine). GoesOn (First packets) p told o q) is goes) sent
      (λ counted fits. subst (λ (k : ℕ). AnyMay 0 (lines_in_log (log_so_far log asked told)) (behind (First packets) p.packets_left k p.step told)) (sym none) (first_may packets p.packets_left p.step told (lines_in_log (log_so_far log asked told)))))

  -- with the labels of a log in which as many receives were called as were asked for
  labels_at : (d k : ℕ) (log : List LoggedCall) → receives log ≡ k → Labels d log → (1 ≤ k → list_any (λ c. tells d (packet_label k) c && gives_packet c.call) (lines_in_log log) ≡ true)
  labels_at d k log counted labels = subst (λ (n : ℕ). 1 ≤ n → list_any (λ c. tells d (packet_label n) c && gives_packet c.call) (lines_in_log log) ≡ true) counted labels.told

  pub middle_goes : (d most : ℕ) → d ≤ 6 → most ≤ packet_limit → GoesOn (Middle d most) p told next q → p.packets_left ≡ [] → IsWithin most p.step p.receives_asked → Sends → FollowsAll (Middle d most) d
  middle_goes d most small few goes none w sends =
      both_given next (λ l. FitsSend l.call) (λ l. (log : List LoggedCall) → FitsRelay (Middle d most) p asked log → MayFollow d (lines_in_log (log_so_far log asked told)) l) sends
      (λ line is sent log f.
      line_follows (Middle d most) d p asked told fit log f q (middle_follows d most small) line (subst (λ (o : Option CallLine). GoesOn (Middle d most) p told o q) is goes) sent
      (λ counted fits.
      let labels = middle_labels d most (log_so_far log asked told) fits in
      subst (λ (left : List (List ℕ)). AnyMay d (lines_in_log (log_so_far log asked told)) (behind (Middle d most) left p.receives_asked p.step told)) (sym none)
      (middle_may d most p.receives_asked (lines_in_log (log_so_far log asked told)) (omega (arith, small)) few (λ j less few_j. labels.fresh j (omega (arith, counted, less)) few_j) (labels_at d p.receives_asked (log_so_far log asked told) counted labels) p.step told w)))

  pub last_goes : (d most : ℕ) → d ≤ 7 → most ≤ packet_limit → GoesOn (Last d most) p told next q → p.packets_left ≡ [] → IsWithin most p.step p.receives_asked → Sends → FollowsAll (Last d most) d
  last_goes d most small few goes none w sends =
      both_given next (λ l. FitsSend l.call) (λ l. (log : List LoggedCall) → FitsRelay (Last d most) p asked log → MayFollow d (lines_in_log (log_so_far log asked told)) l) sends
      (λ line is sent log f.
      line_follows (Last d most) d p asked told fit log f q (last_follows d most small) line (subst (λ (o : Option CallLine). GoesOn (Last d most) p told o q) is goes) sent
      (λ counted fits.
      let labels = last_labels d most (log_so_far log asked told) fits in
      subst (λ (left : List (List ℕ)). AnyMay d (lines_in_log (log_so_far log asked told)) (behind (Last d most) left p.receives_asked p.step told)) (sym none)
      (last_may d most p.receives_asked (lines_in_log (log_so_far log asked told)) small few (λ j less few_j. labels.fresh j (omega (arith, counted, less)) few_j) (labels_at d p.receives_asked (log_so_far log asked told) counted labels) p.step told w)))

-- ---- what is sent

-- what holds of each call of an opening, and of the call behind it, holds of the next
module _ (P : Call → Type 0) (plain : (call : Call) → step_of call ≡ Opening → P call) where
  pub if_holds : (b : Bool) (o : Option CallLine) → IfSome o (λ l. P l.call) → IfSome (cond b o None) (λ l. P l.call)
  if_holds true o holds = holds
  if_holds false o holds = tt

  pub next_holds : (s : Step) (lines : List CallLine) (told : Option PlainAnswer) (o : Option CallLine) → are_of_opening lines ≡ true → IfSome o (λ l. P l.call) → IfSome (or_else (opening_next s lines told) o) (λ l. P l.call)
  next_holds Opening [] told o opens holds = holds
  next_holds Opening (line ∷ lines) told o opens holds = go (was_refused told)
    where
      go : (b : Bool) → IfSome (or_else (cond b None (Some line)) o) (λ l. P l.call)
      go true = holds
      go false = plain line.call (first_opens line lines opens)
  next_holds s lines told o opens holds = holds

pub opening_sends : (call : Call) → step_of call ≡ Opening → FitsSend call
opening_sends (PktSend port bytes) is = absurd cc
opening_sends call is = tt

abbrev IsShort : Call → Type 0
IsShort (PktSend port bytes) = length bytes ≤ asked_limit
IsShort other = Unit {0}

opening_short : (call : Call) → step_of call ≡ Opening → IsShort call
opening_short (PktSend port bytes) is = absurd cc
opening_short call is = tt

abbrev TellsFew : Option PlainAnswer → Type 0
TellsFew (Some (gives size bytes)) = length bytes ≤ asked_limit
TellsFew told = Unit {0}

tells_few : (asked : Option CallLine) (told : Option PlainAnswer) → IsToldFor asked told → TellsFew told
tells_few (Some line) (Some (gives size bytes)) fit = fit.bytes_fit
tells_few (Some line) told fit = tt
tells_few None None fit = tt
tells_few None (Some a) fit = absurd fit

short_received : (d most k : ℕ) (told : Option PlainAnswer) → TellsFew told → IfSome (after_receive (Middle d most) k told) (λ l. IsShort l.call)
short_received d most k (Some (gives size bytes)) few = unless (nat_lt most k)
  where
    unless : (b : Bool) → IfSome (cond b None (Some (send_line d bytes))) (λ l. IsShort l.call)
    unless true = tt
    unless false = few
short_received d most k (Some (refuses word)) few = if_holds IsShort opening_short (is_closed word) _ tt
short_received d most k told few = tt

short_behind : (d most k : ℕ) (s : Step) (told : Option PlainAnswer) → TellsFew told → IfSome (behind (Middle d most) [] k s told) (λ l. IsShort l.call)
short_behind d most k Receiving told few = short_received d most k told few
short_behind d most k Opening told few = if_holds IsShort opening_short (is_agreed told) _ tt
short_behind d most k Sending told few = if_holds IsShort opening_short (is_agreed told) _ tt
short_behind d most k Releasing told few = if_holds IsShort opening_short (is_agreed told) _ tt
short_behind d most k ClosingSender told few = if_holds IsShort opening_short (is_agreed told) _ tt
short_behind d most k ClosingReceiver told few = if_holds IsShort opening_short (is_agreed told) None tt
short_behind d most k Ended told few = if_holds IsShort opening_short (is_agreed told) None tt

call_fits : (call : Call) → SendsBytes call → IsShort call → FitsSend call
call_fits (PktSend port bytes) bytes_fit short = (short, bytes_fit)
call_fits call bytes_fit short = tt

two_given : (o : Option CallLine) → IfSome o (λ l. SendsBytes l.call) → IfSome o (λ l. IsShort l.call) → IfSome o (λ l. FitsSend l.call)
two_given None bytes short = tt
two_given (Some l) bytes short = call_fits l.call bytes short

pub middle_sends : (d most : ℕ) (p : Place) (asked : Option CallLine) (told : Option PlainAnswer) (next : Option CallLine) → IsToldFor asked told → p.packets_left ≡ [] → are_of_opening p.opening_left ≡ true → next ≡ next_line (Middle d most) p told → IfSome next (λ l. SendsBytes l.call) → IfSome next (λ l. FitsSend l.call)
middle_sends d most p asked told next fit none opens is bytes =
    two_given next bytes
    (subst (λ (o : Option CallLine). IfSome o (λ l. IsShort l.call)) (sym is)
    (next_holds IsShort opening_short p.step p.opening_left told (behind (Middle d most) p.packets_left p.receives_asked p.step told) opens
    (subst (λ (left : List (List ℕ)). IfSome (behind (Middle d most) left p.receives_asked p.step told) (λ l. IsShort l.call)) (sym none) (short_behind d most p.receives_asked p.step told (tells_few asked told fit)))))

-- the last domain sends nothing
none_received : (d most k : ℕ) (told : Option PlainAnswer) → IfSome (after_receive (Last d most) k told) (λ l. FitsSend l.call)
none_received d most k (Some (gives size bytes)) = unless (nat_lt most k)
  where
    unless : (b : Bool) → IfSome (cond b None (Some (release_line d k))) (λ l. FitsSend l.call)
    unless true = tt
    unless false = tt
none_received d most k (Some (refuses word)) = if_holds FitsSend opening_sends (is_closed word) _ tt
none_received d most k told = tt

none_behind : (d most k : ℕ) (s : Step) (told : Option PlainAnswer) → IfSome (behind (Last d most) [] k s told) (λ l. FitsSend l.call)
none_behind d most k Receiving told = none_received d most k told
none_behind d most k Opening told = if_holds FitsSend opening_sends (is_agreed told) _ tt
none_behind d most k Releasing told = if_holds FitsSend opening_sends (is_agreed told) _ tt
none_behind d most k s told = if_holds FitsSend opening_sends (is_agreed told) None tt

pub last_sends : (d most : ℕ) (p : Place) (told : Option PlainAnswer) (next : Option CallLine) → p.packets_left ≡ [] → are_of_opening p.opening_left ≡ true → next ≡ next_line (Last d most) p told → IfSome next (λ l. FitsSend l.call)
last_sends d most p told next none opens is =
    subst (λ (o : Option CallLine). IfSome o (λ l. FitsSend l.call)) (sym is)
    (next_holds FitsSend opening_sends p.step p.opening_left told (behind (Last d most) p.packets_left p.receives_asked p.step told) opens
    (subst (λ (left : List (List ℕ)). IfSome (behind (Last d most) left p.receives_asked p.step told) (λ l. FitsSend l.call)) (sym none) (none_behind d most p.receives_asked p.step told)))
