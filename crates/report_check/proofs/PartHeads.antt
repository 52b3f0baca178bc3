-- A part by what heads it: where its lines are compared with those that are due, and where it leads to.
use Rattle.std.proofs.Common.{◌≡◌, ℕ, List, [], ◌∷◌, map, Option, IfOk, OnOk, Result, Ok, Err, sym, subst}
use Rattle.mc_base.specs.declared.refusal.Refusal.{Refusal}
use Rattle.board_model.specs.declared.scenario.CallLine.{CallLine}
use Rattle.board_model.specs.Journal.{Line, PlainAnswer, again, called, turned, turn_line, waits}
use Rattle.board_model.specs.JournalParts.{Part, part_entries}
use Rattle.board_model.specs.Step.{RunState}
use Rattle.board_model.specs.Unjoined.{visit_in}
use Rattle.report_text.specs.StepPass.{due_lines, due_visits, other_than, part_place}
use Rattle.report_text.proofs.StepsDue.{Fits}
use Rattle.report_check.specs.NextParts.{Heads}
use Rattle.report_check.specs.NamedStates.{GoesOn}
use Rattle.report_check.specs.PartsWalked.{IsSomeHead, due_part}
use Rattle.report_check.specs.Runs.{IsAt, Makes}
use Rattle.report_check.specs.declared.cursor.Head.{Head}
use Rattle.report_check.specs.declared.cursor.Head.TheVariants as head
use Rattle.report_check.specs.declared.run.Run.{Run}
use Rattle.report_check.proofs.RunSteps.{puts-called, puts-deeds}

pub if-ok : {A E : Type 0} (P Q : A → Type 0) (r : Result A E) → ((a : A) → P a → Q a) → IfOk r P → IfOk r Q
if-ok P Q (Ok a) f h = f a h
if-ok P Q (Err e) f h = tt

pub on-ok : {A E : Type 0} (P : Type 0) (Q : A → Type 0) (r : Result A E) → ((a : A) → P → Q a) → OnOk r P → IfOk r Q
on-ok P Q (Ok a) f h = f a h
on-ok P Q (Err e) f h = tt

-- idle turns and tries in a row have a count
pub head-some : (peers : List ℕ) (ls : List Line) (h : Head) (p : Part) → Heads peers ls h p → Fits peers p → IsSomeHead h
head-some peers ls (head.Idle n) p heads fits = let count = subst (Fits peers) heads fits in count.0
head-some peers ls (head.Spin n) p heads fits = let count = subst (Fits peers) heads.1 fits in count.0
head-some peers ls head.Again p heads fits = tt
head-some peers ls head.Turn p heads fits = tt
head-some peers ls head.Wait p heads fits = tt
head-some peers ls head.Call p heads fits = tt

module _ (peers : List ℕ) (script : List CallLine) (r : RunState) (ls : List Line) (texts : List (List ℕ)) (old new : Run) (p : Part) where
  -- the place that is found by this part, and where it leads to, are those of the other
  abbrev IsPlace : Part → Option ℕ → Type 0
  IsPlace q place = place ≡ part_place script peers r q texts

  abbrev Leads : Part → Type 0
  Leads q = Makes script r (part_entries peers (due_part r.state q)) old new

  module _ (h : Head) (heads : Heads peers ls h p) where
    headed : (k : Head) → h ≡ k → Heads peers ls k p
    headed k e = subst (λ x. Heads peers ls x p) e heads

    pub try-word : h ≡ head.Again → Refusal
    try-word e = (headed head.Again e).0

    pub try-leads : (e : h ≡ head.Again) → Makes script r (again (try-word e) ∷ []) old new → Leads p
    unfolding headed try-word
    try-leads e at = subst Leads (sym (headed head.Again e).1) at

    pub turn-place-is : h ≡ head.Turn → (place : Option ℕ) → place ≡ other_than (turn_line ∷ due_lines r (map (visit_in ls) peers)) texts → place ≡ part_place script peers r p texts
    turn-place-is e place is = subst (λ q. IsPlace q place) (sym (headed head.Turn e)) is

    pub turn-leads : h ≡ head.Turn → Makes script r (turned (due_visits r.state (map (visit_in ls) peers)) ∷ []) old new → Leads p
    turn-leads e at = subst Leads (sym (headed head.Turn e)) at

    pub wait-number : h ≡ head.Wait → ℕ
    wait-number e = (headed head.Wait e).0

    pub wait-leads : (e : h ≡ head.Wait) → Makes script r (waits (wait-number e) ∷ []) old new → Leads p
    unfolding headed wait-number
    wait-leads e at = subst Leads (sym (headed head.Wait e).1) at

    pub call-number : h ≡ head.Call → ℕ
    call-number e = (headed head.Call e).1

    pub call-answer : h ≡ head.Call → PlainAnswer
    call-answer e = (headed head.Call e).2

    pub call-leads : (e : h ≡ head.Call) → Makes script r (called (call-number e) (call-answer e) ∷ []) old new → Leads p
    unfolding headed call-number call-answer
    call-leads e at =
        let is = headed head.Call e in
        subst Leads (sym is.3)
        (record {
          at = subst (IsAt new) (sym (puts-called script is.0 r is.1 is.2)) at.at;
          deeds = subst (GoesOn old.state new.state) (sym (puts-deeds script is.0 r is.1 is.2)) at.deeds;
        })
