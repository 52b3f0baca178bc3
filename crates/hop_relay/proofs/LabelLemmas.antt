-- The labels in a log of a domain that receives: each packet's is told by its receive, and by no line before it.
use Rattle.std.proofs.Common.{◌≡◌, ◌⊎◌, inl, inr, ℕ, ◌+◌, ◌≤◌, ◌<◌, ◌^◌, nat_lt, Bool, true, false, ◌&&◌, ◌||◌, cond, List, [], ◌∷◌, ◌++◌, length, slice_get, Option, Some, None, refl, ap, ap₂, sym, subst, ◌∙◌, arith, append_assoc, append-nil, eq-eqb}
use Rattle.std.specs.Prelude.{◌==◌, bytes_eq}
use Rattle.std.specs.List.{AllByRecursion, list_any}
use Rattle.std.proofs.lemmas.Bool.{cases_Bool, or_left, or_right, and_from}
use Rattle.std.proofs.lemmas.List.Folds.{list_any-append}
use Rattle.std.proofs.lemmas.Slice.Eq.{bytes_eq-Decides}
use Rattle.mc_base.specs.declared.refusal.Refusal.{Refusal}
use Rattle.mc_base.specs.declared.refusal.Refusal.TheVariants.{ChanClosed}
use Rattle.board_model.specs.declared.scenario.Call.{Call}
use Rattle.board_model.specs.declared.scenario.Call.TheVariants.{OpenSend, OpenRecv, PktRecv, PktSend, Release, CloseSend}
use Rattle.board_model.specs.declared.scenario.CallLine.{CallLine}
use Rattle.board_model.specs.FileWords.{number}
use Rattle.board_model.specs.Forms.{gives_packet}
use Rattle.board_model.specs.Journal.{PlainAnswer, agrees, gives, refuses}
use Rattle.board_model.specs.LineReasons.{tells, is_label_in}
use Rattle.board_model.specs.Logs.{LoggedCall}
use Rattle.board_model.specs.MadeLines.{packet_label}
use Rattle.board_model.specs.Scenario.{label_in}
use Rattle.board_model.proofs.ListsCounts.{count-append}
use Rattle.board_model.proofs.MessageAlls.{all-at}
use Rattle.board_model.proofs.WordDecimals.{number-decimal}
use Rattle.board_runner.specs.ActorLogs.{lines_in_log}
use Rattle.hop_relay.specs.declared.role.Role.{Role}
use Rattle.hop_relay.specs.declared.role.Role.TheVariants.{Middle, Last}
use Rattle.hop_relay.specs.Roles.{opening, sends, receives, is_receive, send_line, receive_line, release_line, due_after, due_behind, due_by, due, last_after, last_call, FitsFrom, FitsRole}
use Rattle.hop_relay.specs.Steps.{receives_at, step_of}
use Rattle.hop_relay.proofs.RoleLogs.{in_opening}
use Rattle.hop_relay.proofs.RoleLines.{IsBehind, FitsLines, fits_lines}
use Rattle.hop_relay.proofs.PlaceLemmas.{fits_from, receives_more}

-- ---- labels among lines

abbrev rest_of : List ℕ → List ℕ
rest_of [] = []
rest_of (b ∷ bs) = bs

labels_differ : (j k : ℕ) → k < j → j < 2 ^ 64 → bytes_eq (packet_label j) (packet_label k) ≡ false
labels_differ j k less small = elim (cases_Bool (bytes_eq (packet_label j) (packet_label k))) [
  | inr other ↦ other
  | inl same ↦
      let is : packet_label j ≡ packet_label k = (bytes_eq-Decides (packet_label j) (packet_label k)).0 same in
      let equal : j ≡ k = sym (number-decimal j small) ∙ ap number (ap rest_of is) ∙ number-decimal k (omega (arith, less, small)) in
      absurd (omega (arith, equal, less))
]

and_false : (b c : Bool) → c ≡ false → (b && c) ≡ false
and_false true c none = none
and_false false c none = refl

-- none of these lines tells the label
pub not_told : (d : ℕ) (label : List ℕ) (earlier : List CallLine) → AllByRecursion (λ c. is_label_in label (label_in c) ≡ false) earlier → list_any (tells d label) earlier ≡ false
not_told d label [] none = refl
not_told d label (c ∷ cs) none = ap₂ (λ a b. a || b) (and_false (c.domain == d) (is_label_in label (label_in c)) none.0) (not_told d label cs none.1)

-- the last of these does
pub told_last : (d : ℕ) (label : List ℕ) (earlier : List CallLine) (k : CallLine) (may : Call → Bool) → k.domain ≡ d → is_label_in label (label_in k) ≡ true → may k.call ≡ true → list_any (λ c. tells d label c && may c.call) (earlier ++ k ∷ []) ≡ true
told_last d label earlier k may own is allowed =
    let last : ((tells d label k && may k.call) || false) ≡ true = or_left (tells d label k && may k.call) false (and_from (tells d label k) (may k.call) (and_from (k.domain == d) (is_label_in label (label_in k)) (eq-eqb k.domain d own) is) allowed) in
    list_any-append (λ c. tells d label c && may c.call) earlier (k ∷ [])
    ∙ or_right (list_any (λ c. tells d label c && may c.call) earlier) ((tells d label k && may k.call) || false) last

label_itself : (label : List ℕ) → bytes_eq label label ≡ true
label_itself label = (bytes_eq-Decides label label).1 refl

-- ---- the lines that are due

-- the next receive, or a line without the label of a packet
abbrev pub IsNext : ℕ → ℕ → CallLine → Type 0
IsNext d k line = (line ≡ receive_line d (k + 1)) ⊎ ((is_receive line.call ≡ false) × ((j : ℕ) → is_label_in (packet_label j) (label_in line) ≡ false))

abbrev pub AnyNext : ℕ → ℕ → Option CallLine → Type 0
AnyNext d k None = Unit {0}
AnyNext d k (Some line) = IsNext d k line

abbrev pub IsOpen : Call → Type 0
IsOpen (OpenSend port kind) = Unit {0}
IsOpen (OpenRecv port kind) = Unit {0}
IsOpen other = ⊥

unless_many : (d k : ℕ) (b : Bool) (line : CallLine) → IsNext d k line → AnyNext d k (cond b None (Some line))
unless_many d k true line is = tt
unless_many d k false line is = is

first_receive : (d k : ℕ) → k ≡ 0 → IsNext d k (receive_line d 1)
first_receive d k none = inl (ap (receive_line d) (omega (arith, none)))

middle_closed : (d most n k port : ℕ) (w : Refusal) → AnyNext d k (due_after (Middle d most) n k (PktRecv port) (refuses w))
middle_closed d most n k port ChanClosed = inr (refl, λ j. refl)
middle_closed d most n k port w = tt

pub middle_next : (d most n k : ℕ) (call : Call) (a : PlainAnswer) → (IsOpen call → k ≡ 0) → AnyNext d k (due_after (Middle d most) n k call a)
middle_next d most n k (OpenSend port kind) agrees none = first_receive d k (none tt)
middle_next d most n k (PktRecv port) (gives size bytes) none = unless_many d k (nat_lt most k) (send_line d bytes) (inr (refl, λ j. refl))
middle_next d most n k (PktRecv port) (refuses w) none = middle_closed d most n k port w
middle_next d most n k (PktSend port bytes) agrees none = inr (refl, λ j. refl)
middle_next d most n k (Release label) agrees none = inl refl
middle_next d most n k (CloseSend port) agrees none = inr (refl, λ j. refl)
middle_next d most n k call a none = tt

last_closed : (d most n k port : ℕ) (w : Refusal) → AnyNext d k (due_after (Last d most) n k (PktRecv port) (refuses w))
last_closed d most n k port ChanClosed = inr (refl, λ j. refl)
last_closed d most n k port w = tt

pub last_next : (d most n k : ℕ) (call : Call) (a : PlainAnswer) → (IsOpen call → k ≡ 0) → AnyNext d k (due_after (Last d most) n k call a)
last_next d most n k (OpenRecv port kind) agrees none = first_receive d k (none tt)
last_next d most n k (PktRecv port) (gives size bytes) none = unless_many d k (nat_lt most k) (release_line d k) (inr (refl, λ j. refl))
last_next d most n k (PktRecv port) (refuses w) none = last_closed d most n k port w
last_next d most n k (Release label) agrees none = inl refl
last_next d most n k call a none = tt

-- ---- nothing is received in the opening

apart : (call : Call) → IsOpen call → IsBehind call → ⊥
apart (OpenSend port kind) opened is = is
apart (OpenRecv port kind) opened is = is
apart call opened is = opened

last_is_behind : (m : LoggedCall) (ms : List LoggedCall) (l : LoggedCall) → last_after (Some m) ms ≡ Some l → IsBehind m.line.call → FitsLines ms [] → IsBehind l.line.call
last_is_behind m [] l last is fits = let same : m ≡ l = cc in subst (λ (x : LoggedCall). IsBehind x.line.call) same is
last_is_behind m (x ∷ xs) l last is fits = last_is_behind x xs l last fits.0 fits.1

none_received : (o : Option LoggedCall) (log : List LoggedCall) (xs : List CallLine) (l : LoggedCall) → last_after o log ≡ Some l → IsOpen l.line.call → FitsLines log xs → AllByRecursion (λ x. is_receive x.call ≡ false) xs → receives log ≡ 0
none_received o [] xs l last opened fits plain = refl
none_received o (m ∷ ms) [] l last opened fits plain = absurd (apart l.line.call opened (last_is_behind m ms l last fits.0 fits.1))
none_received o (m ∷ ms) (x ∷ xs) l last opened fits plain =
    let own : is_receive m.line.call ≡ false = ap (λ (y : CallLine). is_receive y.call) (sym fits.0) ∙ plain.0 in
    let one : cond (is_receive m.line.call) 1 0 ≡ 0 = ap {B = ℕ} (λ b. cond b 1 0) own in
    omega (arith, count-append (λ (k : LoggedCall). is_receive k.line.call) (m ∷ []) ms, one, none_received (Some m) ms xs l last opened fits.1 plain.1)

-- ---- along a log

-- the labels of the packets that were received are told, and no others of packets
pub record Labels (d : ℕ) (log : List LoggedCall) : Type 0 where
  pub fresh : (j : ℕ) → receives log < j → j < 2 ^ 64 → list_any (tells d (packet_label j)) (lines_in_log log) ≡ false
  pub told : 1 ≤ receives log → list_any (λ c. tells d (packet_label (receives log)) c && gives_packet c.call) (lines_in_log log) ≡ true

lines_more : (log : List LoggedCall) (l : LoggedCall) → lines_in_log (log ++ l ∷ []) ≡ lines_in_log log ++ l.line ∷ []
lines_more [] l = refl
lines_more (m ∷ ms) l = ap (λ xs. m.line ∷ xs) (lines_more ms l)

any_more : (test : CallLine → Bool) (xs : List CallLine) (x : CallLine) → list_any test xs ≡ false → test x ≡ false → list_any test (xs ++ x ∷ []) ≡ false
any_more test xs x none last = list_any-append test xs (x ∷ []) ∙ ap₂ (λ a b. a || (b || false)) none last

any_still : (test : CallLine → Bool) (xs : List CallLine) (x : CallLine) → list_any test xs ≡ true → list_any test (xs ++ x ∷ []) ≡ true
any_still test xs x some = list_any-append test xs (x ∷ []) ∙ or_left (list_any test xs) (test x || false) some

module _ (d : ℕ) (log : List LoggedCall) (l : LoggedCall) where
  abbrev longer : List LoggedCall
  longer = log ++ l ∷ []

  -- with the lines and the number of receives in view
  labels_so : (k : ℕ) (lines : List CallLine) → receives longer ≡ k → lines_in_log longer ≡ lines
      → ((j : ℕ) → k < j → j < 2 ^ 64 → list_any (tells d (packet_label j)) lines ≡ false)
      → (1 ≤ k → list_any (λ c. tells d (packet_label k) c && gives_packet c.call) lines ≡ true)
      → Labels d longer
  labels_so k lines count is fresh told = record {
    fresh = λ j less small. ap (list_any (tells d (packet_label j))) is ∙ fresh j (omega (arith, count, less)) small;
    told = λ some. ap₂ (λ n ls. list_any (λ c. tells d (packet_label n) c && gives_packet c.call) ls) count is ∙ told (omega (arith, count, some));
  }

  labels_more : IsNext d (receives log) l.line → Labels d log → Labels d longer
  labels_more (inl is) labels =
      let k : ℕ = receives log + 1 in
      let count : receives longer ≡ k = receives_more log l ∙ ap (λ (y : CallLine). receives log + receives_at (step_of y.call)) is in
      labels_so k (lines_in_log log ++ receive_line d k ∷ []) count (lines_more log l ∙ ap (λ (y : CallLine). lines_in_log log ++ y ∷ []) is)
      (λ j less small. any_more (tells d (packet_label j)) (lines_in_log log) (receive_line d k) (labels.fresh j (omega (arith, less)) small) (and_false (d == d) (bytes_eq (packet_label j) (packet_label k)) (labels_differ j k less small)))
      (λ some. told_last d (packet_label k) (lines_in_log log) (receive_line d k) gives_packet refl (label_itself (packet_label k)) refl)
  labels_more (inr other) labels =
      let same : receives longer ≡ receives log = receives_more log l ∙ ap (λ n. receives log + n) (none_at l.line.call other.0) ∙ omega arith in
      labels_so (receives log) (lines_in_log log ++ l.line ∷ []) same (lines_more log l)
      (λ j less small. any_more (tells d (packet_label j)) (lines_in_log log) l.line (labels.fresh j less small) (and_false (l.line.domain == d) (is_label_in (packet_label j) (label_in l.line)) (other.1 j)))
      (λ some. any_still (λ c. tells d (packet_label (receives log)) c && gives_packet c.call) (lines_in_log log) l.line (labels.told some))
    where
      none_at : (call : Call) → is_receive call ≡ false → receives_at (step_of call) ≡ 0
      none_at (PktRecv port) none = absurd cc
      none_at call none = refl

-- of a role that receives
module _ (role : Role) (d : ℕ) (next : (n k : ℕ) (call : Call) (a : PlainAnswer) → (IsOpen call → k ≡ 0) → AnyNext d k (due_after role n k call a))
    (opens : (k : ℕ) → AllByRecursion (IsNext d k) (opening role)) (plain : AllByRecursion (λ x. is_receive x.call ≡ false) (opening role)) where
  due_behind_next : (log : List LoggedCall) (o : Option LoggedCall) → FitsRole role log → last_call log ≡ o → AnyNext d (receives log) (due_behind role log o)
  due_behind_next log None fits last = tt
  due_behind_next log (Some l) fits last = next (sends log) (receives log) l.line.call l.answer (λ opened. none_received None log (opening role) l last opened (fits_lines role log fits) plain)

  due_next : (log : List LoggedCall) (line : CallLine) → FitsRole role log → due role log ≡ Some line → IsNext d (receives log) line
  due_next log line fits is = go (slice_get (opening role) (length log)) refl
    where
      go : (o : Option CallLine) → slice_get (opening role) (length log) ≡ o → IsNext d (receives log) line
      go (Some x) at =
          let same : x ≡ line = in_opening x line (last_call log) (sym (ap (due_by role log) at) ∙ is) in
          subst (IsNext d (receives log)) same (all-at (IsNext d (receives log)) (opening role) (length log) x (opens (receives log)) at)
      go None at = subst (AnyNext d (receives log)) (sym (ap (due_by role log) at) ∙ is) (due_behind_next log (last_call log) fits refl)

  labels_from : (early log : List LoggedCall) → FitsRole role early → Labels d early → FitsFrom role early log → Labels d (early ++ log)
  labels_from early [] so_far labels fits = subst (Labels d) (sym (append-nil early)) labels
  labels_from early (l ∷ ls) so_far labels fits =
      subst (Labels d) (append_assoc early (l ∷ []) ls)
      (labels_from (early ++ l ∷ []) ls (fits_from role [] early l so_far fits.0) (labels_more d early l (due_next early l.line so_far fits.0) labels) fits.1)

  pub log_labels : (log : List LoggedCall) → FitsRole role log → Labels d log
  log_labels log fits = labels_from [] log tt (record { fresh = λ j less small. refl; told = λ some. absurd (omega (arith, some)) }) fits

pub middle_labels : (d most : ℕ) (log : List LoggedCall) → FitsRole (Middle d most) log → Labels d log
middle_labels d most log fits =
    log_labels (Middle d most) d (middle_next d most)
    (λ k. (inr (refl, λ j. refl), (inr (refl, λ j. refl), (inr (refl, λ j. refl), (inr (refl, λ j. refl), (inr (refl, λ j. refl), (inr (refl, λ j. refl), (inr (refl, λ j. refl), (inr (refl, λ j. refl), tt)))))))))
    (refl, (refl, (refl, (refl, (refl, (refl, (refl, (refl, tt)))))))) log fits

pub last_labels : (d most : ℕ) (log : List LoggedCall) → FitsRole (Last d most) log → Labels d log
last_labels d most log fits = log_labels (Last d most) d (last_next d most) (λ k. (inr (refl, λ j. refl), (inr (refl, λ j. refl), tt))) (refl, (refl, tt)) log fits
