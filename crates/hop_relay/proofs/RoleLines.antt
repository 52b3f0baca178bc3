-- The lines of a log that fits a role: those of the opening, in their order, and then sends, receives, releases and closes. So it connects
-- once at most, to the next domain, and calls nothing that is not of a relay.
use Rattle.std.proofs.Common.{◌≡◌, ◌⊎◌, inl, inr, ℕ, zero, suc, ◌+◌, ◌≤◌, nat_lt, Bool, true, false, cond, List, [], ◌∷◌, ◌++◌, length, drop, slice_get, Option, Some, None, refl, ap, sym, subst, ◌∙◌, arith, length-append}
use Rattle.std.specs.Prelude.{◌==◌}
use Rattle.std.specs.List.{AllByRecursion, flat_map}
use Rattle.mc_base.specs.declared.refusal.Refusal.{Refusal}
use Rattle.mc_base.specs.declared.refusal.Refusal.TheVariants.{ChanClosed}
use Rattle.board_model.specs.declared.scenario.Call.{Call}
use Rattle.board_model.specs.declared.scenario.Call.TheVariants.{Create, Lookup, Connect, OpenSend, OpenRecv, PktRecv, PktSend, Release, CloseSend, CloseRecv, Wait, WaitAny}
use Rattle.board_model.specs.declared.scenario.CallLine.{CallLine}
use Rattle.board_model.specs.Journal.{PlainAnswer, agrees, connects, gives, refuses}
use Rattle.board_model.specs.Logs.{LoggedCall}
use Rattle.board_model.proofs.MessageAlls.{all-append, all-parts}
use Rattle.hop_relay.specs.declared.role.Role.{Role}
use Rattle.hop_relay.specs.declared.role.Role.TheVariants.{First, Middle, Last}
use Rattle.hop_relay.specs.Roles.{opening, sends, receives, send_line, release_line, next_packet, due_after, due_behind, due_by, last_call, FitsFrom, FitsRole}
use Rattle.hop_relay.proofs.RoleLogs.{in_opening, one_longer}

-- ---- lines after the opening

abbrev pub IsBehind : Call → Type 0
IsBehind (PktSend port bytes) = (port == 1) ≡ true
IsBehind (PktRecv port) = (port == 2) ≡ true
IsBehind (Release label) = Unit {0}
IsBehind (CloseSend port) = Unit {0}
IsBehind (CloseRecv port) = Unit {0}
IsBehind other = ⊥

abbrev pub AnyBehind : Option CallLine → Type 0
AnyBehind None = Unit {0}
AnyBehind (Some line) = IsBehind line.call

next_behind : (o : Option (List ℕ)) → AnyBehind (Some (next_packet o))
next_behind None = tt
next_behind (Some bytes) = refl

unless_many : (b : Bool) (line : CallLine) → IsBehind line.call → AnyBehind (cond b None (Some line))
unless_many true line is = tt
unless_many false line is = is

first_behind : (packets : List (List ℕ)) (n k : ℕ) (call : Call) (a : PlainAnswer) → AnyBehind (due_after (First packets) n k call a)
first_behind packets n k (OpenSend port kind) agrees = next_behind (slice_get packets n)
first_behind packets n k (PktSend port bytes) agrees = next_behind (slice_get packets n)
first_behind packets n k call a = tt

closed_behind : (d most n k port : ℕ) (w : Refusal) → AnyBehind (due_after (Middle d most) n k (PktRecv port) (refuses w))
closed_behind d most n k port ChanClosed = tt
closed_behind d most n k port w = tt

middle_behind : (d most n k : ℕ) (call : Call) (a : PlainAnswer) → AnyBehind (due_after (Middle d most) n k call a)
middle_behind d most n k (OpenSend port kind) agrees = refl
middle_behind d most n k (PktRecv port) (gives size bytes) = unless_many (nat_lt most k) (send_line d bytes) refl
middle_behind d most n k (PktRecv port) (refuses w) = closed_behind d most n k port w
middle_behind d most n k (PktSend port bytes) agrees = tt
middle_behind d most n k (Release label) agrees = refl
middle_behind d most n k (CloseSend port) agrees = tt
middle_behind d most n k call a = tt

ended_behind : (d most n k port : ℕ) (w : Refusal) → AnyBehind (due_after (Last d most) n k (PktRecv port) (refuses w))
ended_behind d most n k port ChanClosed = tt
ended_behind d most n k port w = tt

last_behind : (d most n k : ℕ) (call : Call) (a : PlainAnswer) → AnyBehind (due_after (Last d most) n k call a)
last_behind d most n k (OpenRecv port kind) agrees = refl
last_behind d most n k (PktRecv port) (gives size bytes) = unless_many (nat_lt most k) (release_line d k) tt
last_behind d most n k (PktRecv port) (refuses w) = ended_behind d most n k port w
last_behind d most n k (Release label) agrees = refl
last_behind d most n k call a = tt

after_behind : (role : Role) (n k : ℕ) (call : Call) (a : PlainAnswer) → AnyBehind (due_after role n k call a)
after_behind (First packets) = first_behind packets
after_behind (Middle d most) = middle_behind d most
after_behind (Last d most) = last_behind d most

pub log_behind : (role : Role) (log : List LoggedCall) (o : Option LoggedCall) → AnyBehind (due_behind role log o)
log_behind role log None = tt
log_behind role log (Some l) = after_behind role (sends log) (receives log) l.line.call l.answer

-- ---- the lines of a log

-- these lines come first
abbrev pub FitsLines : List LoggedCall → List CallLine → Type 0
FitsLines [] xs = Unit {0}
FitsLines (l ∷ ls) [] = IsBehind l.line.call × FitsLines ls []
FitsLines (l ∷ ls) (x ∷ xs) = (x ≡ l.line) × FitsLines ls xs

pub drop_at_line : (lines : List CallLine) (n : ℕ) (line : CallLine) → slice_get lines n ≡ Some line → drop n lines ≡ line ∷ drop (suc n) lines
drop_at_line [] n line there = absurd cc
drop_at_line (x ∷ xs) zero line there = let same : x ≡ line = cc in ap (λ l. l ∷ xs) same
drop_at_line (x ∷ xs) (suc n) line there = drop_at_line xs n line there

pub drop_past : (lines : List CallLine) (n : ℕ) → slice_get lines n ≡ None → (drop n lines ≡ []) × (drop (suc n) lines ≡ [])
drop_past [] zero none = (refl, refl)
drop_past [] (suc n) none = (refl, refl)
drop_past (x ∷ xs) zero none = absurd cc
drop_past (x ∷ xs) (suc n) none = drop_past xs n none

lines_from : (role : Role) (before log : List LoggedCall) → FitsFrom role before log → FitsLines log (drop (length before) (opening role))
lines_from role before [] fits = tt
lines_from role before (l ∷ ls) fits =
    go (slice_get (opening role) (length before)) refl (subst (λ n. FitsLines ls (drop n (opening role))) (one_longer before l) (lines_from role (before ++ l ∷ []) ls fits.1))
  where
    go : (o : Option CallLine) → slice_get (opening role) (length before) ≡ o → FitsLines ls (drop (suc (length before)) (opening role)) → FitsLines (l ∷ ls) (drop (length before) (opening role))
    go (Some line) at later =
        let same : line ≡ l.line = in_opening line l.line (last_call before) (sym (ap (due_by role before) at) ∙ fits.0) in
        subst (FitsLines (l ∷ ls)) (sym (drop_at_line (opening role) (length before) line at)) (same, later)
    go None at later =
        let past = drop_past (opening role) (length before) at in
        let behind : IsBehind l.line.call = subst AnyBehind (sym (ap (due_by role before) at) ∙ fits.0) (log_behind role before (last_call before)) in
        subst (FitsLines (l ∷ ls)) (sym past.0) (behind, subst (FitsLines ls) past.1 later)

pub fits_lines : (role : Role) (log : List LoggedCall) → FitsRole role log → FitsLines log (opening role)
fits_lines role log fits = lines_from role [] log fits

-- ---- calls that are not of a relay

abbrev pub is_in_relay : Call → Bool
is_in_relay (Create port) = true
is_in_relay (Lookup name) = true
is_in_relay (Connect port to kind) = true
is_in_relay (OpenSend port kind) = true
is_in_relay (OpenRecv port kind) = true
is_in_relay (PktSend port bytes) = port == 1
is_in_relay (PktRecv port) = port == 2
is_in_relay (Release label) = true
is_in_relay (CloseSend port) = true
is_in_relay (CloseRecv port) = true
is_in_relay (Wait label limit) = true
is_in_relay (WaitAny labels limit) = true
is_in_relay other = false

-- a mark for a call that is none, unless it was refused
abbrev pub mark : Bool → List ℕ
mark is = cond is [] (0 ∷ [])

abbrev pub unless_refusal : PlainAnswer → List ℕ → List ℕ
unless_refusal (refuses w) xs = []
unless_refusal a xs = xs

abbrev pub strays_by : Call → PlainAnswer → List ℕ
strays_by call a = unless_refusal a (mark (is_in_relay call))

no_mark : (a : PlainAnswer) (b : Bool) → b ≡ true → unless_refusal a (mark b) ≡ []
no_mark (refuses w) b is = refl
no_mark agrees b is = ap mark is
no_mark a b is = ap mark is

behind_in_relay : (call : Call) → IsBehind call → is_in_relay call ≡ true
behind_in_relay (PktSend port bytes) is = is
behind_in_relay (PktRecv port) is = is
behind_in_relay (Release label) is = refl
behind_in_relay (CloseSend port) is = refl
behind_in_relay (CloseRecv port) is = refl
behind_in_relay other is = absurd is

no_strays : (log : List LoggedCall) (xs : List CallLine) → AllByRecursion (λ x. is_in_relay x.call ≡ true) xs → FitsLines log xs → flat_map (λ l. strays_by l.line.call l.answer) log ≡ []
no_strays [] xs all fits = refl
no_strays (l ∷ ls) [] all fits = ap (λ ys. ys ++ flat_map (λ k. strays_by k.line.call k.answer) ls) (no_mark l.answer (is_in_relay l.line.call) (behind_in_relay l.line.call fits.0)) ∙ no_strays ls [] tt fits.1
no_strays (l ∷ ls) (x ∷ xs) all fits =
    ap (λ ys. ys ++ flat_map (λ k. strays_by k.line.call k.answer) ls) (no_mark l.answer (is_in_relay l.line.call) (subst (λ (y : CallLine). is_in_relay y.call ≡ true) fits.0 all.0)) ∙ no_strays ls xs all.1 fits.1

opening_in_relay : (role : Role) → AllByRecursion (λ x. is_in_relay x.call ≡ true) (opening role)
opening_in_relay (First packets) = (refl, (refl, (refl, (refl, (refl, (refl, tt))))))
opening_in_relay (Middle d most) = (refl, (refl, (refl, (refl, (refl, (refl, (refl, (refl, tt))))))))
opening_in_relay (Last d most) = (refl, (refl, tt))

pub none_strays : (role : Role) (log : List LoggedCall) → FitsRole role log → flat_map (λ l. strays_by l.line.call l.answer) log ≡ []
none_strays role log fits = no_strays log (opening role) (opening_in_relay role) (fits_lines role log fits)

-- ---- connects, by the domain that each names

abbrev pub names_in : Call → List ℕ
names_in (Connect port to kind) = to.domain ∷ []
names_in other = []

abbrev pub connected_by : Call → PlainAnswer → List ℕ
connected_by (Connect port to kind) (connects request channel) = to.domain ∷ []
connected_by call a = []

abbrev pub connected : List LoggedCall → List ℕ
connected log = flat_map (λ l. connected_by l.line.call l.answer) log

none_or_named : (call : Call) (a : PlainAnswer) → (connected_by call a ≡ []) ⊎ (connected_by call a ≡ names_in call)
none_or_named (Connect port to kind) (connects request channel) = inr refl
none_or_named call a = inl refl

none_behind : (call : Call) (a : PlainAnswer) → IsBehind call → connected_by call a ≡ []
none_behind (Connect port to kind) a is = absurd is
none_behind call a is = refl

-- no more than the opening has, and to none but those that it names
pub record Connects (P : ℕ → Type 0) (most : ℕ) (found : List ℕ) : Type 0 where
  pub few : length found ≤ most
  pub each : AllByRecursion P found

module _ (P : ℕ → Type 0) where
  none_more : (found more : List ℕ) (most : ℕ) → found ≡ [] → Connects P most more → Connects P most (found ++ more)
  none_more found more most none c = subst (λ xs. Connects P most (xs ++ more)) (sym none) c

  all_connects : (log : List LoggedCall) (xs : List CallLine) → AllByRecursion P (flat_map (λ x. names_in x.call) xs) → FitsLines log xs → Connects P (length (flat_map (λ x. names_in x.call) xs)) (connected log)
  all_connects [] xs all fits = record { few = omega arith; each = tt }
  all_connects (l ∷ ls) [] all fits = none_more (connected_by l.line.call l.answer) (connected ls) 0 (none_behind l.line.call l.answer fits.0) (all_connects ls [] tt fits.1)
  all_connects (l ∷ ls) (x ∷ xs) all fits =
      let parts = all-parts P (names_in x.call) (flat_map (λ y. names_in y.call) xs) all in
      go parts.0 (all_connects ls xs parts.1 fits.1) (none_or_named l.line.call l.answer)
    where
      names : List ℕ
      names = names_in x.call

      later : List ℕ
      later = flat_map (λ y. names_in y.call) xs

      go : AllByRecursion P names → Connects P (length later) (connected ls) → (connected_by l.line.call l.answer ≡ []) ⊎ (connected_by l.line.call l.answer ≡ names_in l.line.call) →
          Connects P (length (names ++ later)) (connected_by l.line.call l.answer ++ connected ls)
      go own rest (inl none) = none_more (connected_by l.line.call l.answer) (connected ls) (length (names ++ later)) none (record { few = omega (arith, rest.few, length-append names later); each = rest.each })
      go own rest (inr is) =
          let same : connected_by l.line.call l.answer ≡ names = is ∙ ap (λ (y : CallLine). names_in y.call) (sym fits.0) in
          subst (λ ns. Connects P (length (names ++ later)) (ns ++ connected ls)) (sym same)
          (record { few = omega (arith, rest.few, length-append names (connected ls), length-append names later); each = all-append P names (connected ls) own rest.each })

-- of a role: one at most, and to the domain after this one
abbrev pub IsRoleOf : ℕ → Role → Type 0
IsRoleOf d (First packets) = d ≡ 0
IsRoleOf d (Middle e most) = d ≡ e
IsRoleOf d (Last e most) = d ≡ e

pub connects_next : (d : ℕ) (role : Role) (log : List LoggedCall) → IsRoleOf d role → FitsRole role log → Connects (λ q. q ≡ d + 1) 1 (connected log)
connects_next d (First packets) log is fits = all_connects (λ q. q ≡ d + 1) log (opening (First packets)) (omega (arith, is), tt) (fits_lines (First packets) log fits)
connects_next d (Middle e most) log is fits = all_connects (λ q. q ≡ d + 1) log (opening (Middle e most)) (omega (arith, is), tt) (fits_lines (Middle e most) log fits)
connects_next d (Last e most) log is fits =
    let c = all_connects (λ q. q ≡ d + 1) log (opening (Last e most)) tt (fits_lines (Last e most) log fits) in
    record { few = let none = c.few in omega (arith, none); each = c.each }
