-- Logs that fit a role, line by line: what holds of a log and of the line that is due after it.
use Rattle.std.proofs.Common.{◌≡◌, ℕ, zero, suc, Bool, true, false, cond, List, [], ◌∷◌, ◌++◌, length, slice_get, Option, Some, None, refl, ap, sym, subst, ◌∙◌, arith, append_assoc, append-nil, length-append}
use Rattle.std.specs.List.{AllByRecursion}
use Rattle.std.proofs.lemmas.Grind.{flat_map-append}
use Rattle.board_model.specs.declared.scenario.Call.{Call}
use Rattle.board_model.specs.declared.scenario.Call.TheVariants.{PktRecv, PktSend}
use Rattle.board_model.specs.declared.scenario.CallLine.{CallLine}
use Rattle.board_model.specs.Logs.{LoggedCall}
use Rattle.hop_relay.specs.declared.role.Role.{Role}
use Rattle.hop_relay.specs.Roles.{opening, sends, receives, due_after, due_in_opening, due_behind, due_by, due, last_after, last_call, is_refused, FitsFrom, FitsRole}
use Rattle.hop_relay.specs.Hop.{received_by, sent_by, received, sent}

-- ---- one call more

pub received_more : (log : List LoggedCall) (l : LoggedCall) → received (log ++ l ∷ []) ≡ received log ++ received_by l.line.call l.answer
received_more log l = flat_map-append (λ (m : LoggedCall). received_by m.line.call m.answer) log (l ∷ []) ∙ ap (λ xs. received log ++ xs) (append-nil (received_by l.line.call l.answer))

pub sent_more : (log : List LoggedCall) (l : LoggedCall) → sent (log ++ l ∷ []) ≡ sent log ++ sent_by l.line.call l.answer
sent_more log l = flat_map-append (λ (m : LoggedCall). sent_by m.line.call m.answer) log (l ∷ []) ∙ ap (λ xs. sent log ++ xs) (append-nil (sent_by l.line.call l.answer))

pub last_more : (o : Option LoggedCall) (log : List LoggedCall) (l : LoggedCall) → last_after o (log ++ l ∷ []) ≡ Some l
last_more o [] l = refl
last_more o (m ∷ ms) l = last_more (Some m) ms l

pub one_longer : (log : List LoggedCall) (l : LoggedCall) → length (log ++ l ∷ []) ≡ suc (length log)
one_longer log l = omega (arith, length-append log (l ∷ []))

-- ---- the opening

-- a call that neither sends nor receives
abbrev pub IsPlain : Call → Type 0
IsPlain (PktSend port bytes) = ⊥
IsPlain (PktRecv port) = ⊥
IsPlain other = Unit {0}

abbrev pub PlainOrNone : Option CallLine → Type 0
PlainOrNone None = Unit {0}
PlainOrNone (Some line) = IsPlain line.call

all_get : (lines : List CallLine) (i : ℕ) (line : CallLine) → AllByRecursion (λ l. IsPlain l.call) lines → slice_get lines i ≡ Some line → IsPlain line.call
all_get [] i line all at = absurd cc
all_get (x ∷ xs) zero line all at = let same : x ≡ line = cc in subst (λ (l : CallLine). IsPlain l.call) same all.0
all_get (x ∷ xs) (suc i) line all at = all_get xs i line all.1 at

-- a line comes before another
pub before : (lines : List CallLine) (i : ℕ) (line : CallLine) → slice_get lines (suc i) ≡ Some line → (early : CallLine) × (slice_get lines i ≡ Some early)
before [] i line at = absurd cc
before (x ∷ xs) zero line at = (x, refl)
before (x ∷ xs) (suc i) line at = before xs i line at

pub in_opening : (x y : CallLine) (o : Option LoggedCall) → due_in_opening x o ≡ Some y → x ≡ y
in_opening x y None e = cc
in_opening x y (Some l) e = go (is_refused l.answer) e
  where
    go : (b : Bool) → cond b None (Some x) ≡ Some y → x ≡ y
    go true e = absurd cc
    go false e = cc

-- ---- along a log: what holds where nothing is sent or received in the opening, and after the opening goes on with each call

module _ (role : Role) (P : List LoggedCall → Option CallLine → Type 0) (plain : AllByRecursion (λ l. IsPlain l.call) (opening role))
    (opens : (log : List LoggedCall) (l : LoggedCall) (o : Option CallLine) → IsPlain l.line.call → PlainOrNone o → P log (Some l.line) → P (log ++ l ∷ []) o)
    (follows : (log : List LoggedCall) (l : LoggedCall) → P log (Some l.line) → P (log ++ l ∷ []) (due_after role (sends (log ++ l ∷ [])) (receives (log ++ l ∷ [])) l.line.call l.answer)) where
  -- the line before one of the opening
  plain_line : (log : List LoggedCall) (l : LoggedCall) (line : CallLine) → due role log ≡ Some l.line → slice_get (opening role) (length (log ++ l ∷ [])) ≡ Some line → IsPlain l.line.call
  plain_line log l line is at =
      let early = before (opening role) (length log) line (ap (slice_get (opening role)) (sym (one_longer log l)) ∙ at) in
      let same : early.0 ≡ l.line = in_opening early.0 l.line (last_call log) (sym (ap (due_by role log) early.1) ∙ is) in
      all_get (opening role) (length log) l.line plain (early.1 ∙ ap (λ (x : CallLine). Some x) same)

  unless_refused : (line : CallLine) → IsPlain line.call → (b : Bool) → PlainOrNone (cond b None (Some line))
  unless_refused line is true = tt
  unless_refused line is false = is

  one_more : (log : List LoggedCall) (l : LoggedCall) → due role log ≡ Some l.line → P log (Some l.line) → P (log ++ l ∷ []) (due role (log ++ l ∷ []))
  one_more log l is holds = go (slice_get (opening role) (length (log ++ l ∷ []))) refl
    where
      due_then : (o : Option CallLine) → slice_get (opening role) (length (log ++ l ∷ [])) ≡ o → due role (log ++ l ∷ []) ≡ due_by role (log ++ l ∷ []) o
      due_then o at = ap (due_by role (log ++ l ∷ [])) at

      go : (o : Option CallLine) → slice_get (opening role) (length (log ++ l ∷ [])) ≡ o → P (log ++ l ∷ []) (due role (log ++ l ∷ []))
      go (Some line) at =
          subst (P (log ++ l ∷ [])) (sym (due_then (Some line) at ∙ ap (due_in_opening line) (last_more None log l)))
          (opens log l (due_in_opening line (Some l)) (plain_line log l line is at) (unless_refused line (all_get (opening role) (length (log ++ l ∷ [])) line plain at) (is_refused l.answer)) holds)
      go None at = subst (P (log ++ l ∷ [])) (sym (due_then None at ∙ ap (due_behind role (log ++ l ∷ [])) (last_more None log l))) (follows log l holds)

  along_from : (early log : List LoggedCall) → P early (due role early) → FitsFrom role early log → P (early ++ log) (due role (early ++ log))
  along_from early [] holds fits = subst (λ ls. P ls (due role ls)) (sym (append-nil early)) holds
  along_from early (l ∷ ls) holds fits =
      subst (λ ks. P ks (due role ks)) (append_assoc early (l ∷ []) ls) (along_from (early ++ l ∷ []) ls (one_more early l fits.0 (subst (P early) fits.0 holds)) fits.1)

  pub along_role : P [] (due role []) → (log : List LoggedCall) → FitsRole role log → P log (due role log)
  along_role starts log fits = along_from [] log starts fits
