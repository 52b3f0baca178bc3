-- The labels that are kept, as the lines with labels tell them.
use Rattle.std.proofs.Common.{◌≡◌, ℕ, Bool, true, false, ◌&&◌, ◌||◌, List, [], ◌∷◌, Option, Some, None, refl, sym, ap, ap₂, subst, ◌∙◌, Bor}
use Rattle.std.specs.Prelude.{◌==◌, bytes_eq, Result, Ok, Err, IfSome, OnOk}
use Rattle.std.specs.List.{list_any}
use Rattle.std.proofs.lemmas.List.Folds.{list_any-append}
use Rattle.board_model.specs.declared.scenario.Call.{Call}
use Rattle.board_model.specs.declared.scenario.CallLine.{CallLine}
use Rattle.board_model.specs.declared.scenario.Scenario.{Scenario}
use Rattle.board_model.specs.Scenario.{label_in}
use Rattle.board_model.specs.Forms.{gives_request, gives_packet, says_call}
use Rattle.board_model.specs.LineReasons.{is_label_in, tells, is_told, is_told_of, with_statement}
use Rattle.scenario_lang.specs.declared.fault.LineFault.{LineFault}
use Rattle.scenario_lang.specs.declared.labels.Labels.{Labels}
use Rattle.scenario_lang.specs.Telling.{has_label, Keeps}

-- ---- the last line

or_false : (b : Bool) → (b || false) ≡ b
or_false true = refl
or_false false = refl

and_false : (b : Bool) → (b && false) ≡ false
and_false true = refl
and_false false = refl

and_swap : (a b : Bool) → (a && b) ≡ (b && a)
and_swap true true = refl
and_swap true false = refl
and_swap false true = refl
and_swap false false = refl

last_any : (p : CallLine → Bool) (above : Scenario) (line : CallLine) → list_any p (with_statement above (says_call line)).calls ≡ (list_any p above.calls || p line)
last_any p above line = list_any-append p above.calls (line ∷ []) ∙ ap (λ (b : Bool). list_any p above.calls || b) (or_false (p line))

-- ---- a line without a label

untold : (line : CallLine) → label_in line ≡ None → (d : ℕ) (l : List ℕ) → tells d l line ≡ false
untold line none d l = ap (λ (o : Option (List ℕ)). (line.domain == d) && is_label_in l o) none ∙ and_false (line.domain == d)

untold_any : (may_be_of : Call → Bool) (above : Scenario) (line : CallLine) → label_in line ≡ None → (d : ℕ) (l : List ℕ) → is_told_of may_be_of above d l ≡ is_told_of may_be_of (with_statement above (says_call line)) d l
untold_any may_be_of above line none d l =
    sym (last_any (λ c. tells d l c && may_be_of c.call) above line ∙ ap (λ (b : Bool). is_told_of may_be_of above d l || (b && may_be_of line.call)) (untold line none d l) ∙ or_false (is_told_of may_be_of above d l))

pub kept-without : (labels : Labels) (above : Scenario) (line : CallLine) → label_in line ≡ None → Keeps labels above → Keeps labels (with_statement above (says_call line))
kept-without labels above line none h = record {
  told = λ d l. last_any (tells d l) above line ∙ ap (λ (b : Bool). is_told above d l || b) (untold line none d l) ∙ or_false (is_told above d l) ∙ h.told d l;
  requests = λ d l. h.requests d l ∙ untold_any gives_request above line none d l;
  packets = λ d l. h.packets d l ∙ untold_any gives_packet above line none d l;
}

-- ---- a line with a label

-- a set has a label more, where it is one of these
abbrev pub Grows : List (ℕ × Bor (List ℕ)) → List (ℕ × Bor (List ℕ)) → Bool → ℕ → List ℕ → Type 0
Grows old new is_one domain label = (d : ℕ) (l : List ℕ) → has_label new d l ≡ (has_label old d l || (is_one && ((domain == d) && bytes_eq l label)))

tells_it : (line : CallLine) (label : List ℕ) → label_in line ≡ Some label → (d : ℕ) (l : List ℕ) → tells d l line ≡ ((line.domain == d) && bytes_eq l label)
tells_it line label is d l = ap (λ (o : Option (List ℕ)). (line.domain == d) && is_label_in l o) is

told_any : (may_be_of : Call → Bool) (old new : List (ℕ × Bor (List ℕ))) (above : Scenario) (line : CallLine) (label : List ℕ) → label_in line ≡ Some label → Grows old new (may_be_of line.call) line.domain label →
    ((d : ℕ) (l : List ℕ) → has_label old d l ≡ is_told_of may_be_of above d l) → (d : ℕ) (l : List ℕ) → has_label new d l ≡ is_told_of may_be_of (with_statement above (says_call line)) d l
told_any may_be_of old new above line label is grows kept d l =
    grows d l
    ∙ ap (λ (b : Bool). b || (may_be_of line.call && ((line.domain == d) && bytes_eq l label))) (kept d l)
    ∙ ap (λ (b : Bool). is_told_of may_be_of above d l || b) (and_swap (may_be_of line.call) ((line.domain == d) && bytes_eq l label) ∙ ap (λ (b : Bool). b && may_be_of line.call) (sym (tells_it line label is d l)))
    ∙ sym (last_any (λ c. tells d l c && may_be_of c.call) above line)

-- a label of one set or the other, or of both, is in one of them
in_one : (r p t one other : Bool) → (one || other) ≡ true → ((r || p) || t) ≡ ((r || (one && t)) || (p || (other && t)))
in_one true p t one other some = refl
in_one false p t true other some = by p t other
  where
    by : (p t other : Bool) → (p || t) ≡ (t || (p || (other && t)))
    by true true other = refl
    by true false other = refl
    by false true other = refl
    by false false true = refl
    by false false false = refl
in_one false true t false true some = refl
in_one false false t false true some = refl
in_one false p t false false some = absurd cc

pub kept-with : (old new : Labels) (above : Scenario) (line : CallLine) (label : List ℕ) → label_in line ≡ Some label → (gives_request line.call || gives_packet line.call) ≡ true →
    Grows old.requests.told.keys new.requests.told.keys (gives_request line.call) line.domain label → Grows old.packets.told.keys new.packets.told.keys (gives_packet line.call) line.domain label → Keeps old above → Keeps new (with_statement above (says_call line))
kept-with old new above line label is gives requests packets h = record {
  told = λ d l.
      last_any (tells d l) above line
      ∙ ap₂ (λ (a b : Bool). a || b) (h.told d l) (tells_it line label is d l)
      ∙ in_one (has_label old.requests.told.keys d l) (has_label old.packets.told.keys d l) ((line.domain == d) && bytes_eq l label) (gives_request line.call) (gives_packet line.call) gives
      ∙ sym (ap₂ (λ (a b : Bool). a || b) (requests d l) (packets d l));
  requests = told_any gives_request old.requests.told.keys new.requests.told.keys above line label is requests h.requests;
  packets = told_any gives_packet old.packets.told.keys new.packets.told.keys above line label is packets h.packets;
}

-- and so after the line is added, if it is
pub kept-added : (r : Result (Unit {0}) LineFault) (old new last : Labels) (above after : Scenario) (line : CallLine) (label : List ℕ) (o : Option (List ℕ)) → label_in line ≡ o → o ≡ Some label → IfSome (label_in line) (λ l. (gives_request line.call || gives_packet line.call) ≡ true) →
    Grows old.requests.told.keys new.requests.told.keys (gives_request line.call) line.domain label → Grows old.packets.told.keys new.packets.told.keys (gives_packet line.call) line.domain label → Keeps old above →
    last ≡ new → OnOk r (after ≡ with_statement above (says_call line)) → OnOk r (Keeps last after)
kept-added (Err e) old new last above after line label o here some gives requests packets h same told = tt
kept-added (Ok x) old new last above after line label o here some gives requests packets h same told =
    let is = here ∙ some in
    let one : (gives_request line.call || gives_packet line.call) ≡ true = subst (λ (t : Option (List ℕ)). IfSome t (λ l. (gives_request line.call || gives_packet line.call) ≡ true)) is gives in
    subst (λ (s : Scenario). Keeps last s) (sym told) (subst (λ (l : Labels). Keeps l (with_statement above (says_call line))) (sym same) (kept-with old new above line label is one requests packets h))
