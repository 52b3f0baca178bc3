-- The entries that lines tell are those of the parts that they tell.
use Rattle.std.proofs.Common.{◌≡◌, ℕ, ◌-◌, ◌<◌, Bool, true, false, cond, List, [], ◌∷◌, ◌++◌, map, refl, sym, ap, ap₂, subst, ◌∙◌, arith}
use Rattle.std.specs.Prelude.{nat_lt}
use Rattle.std.specs.List.{flat_map}
use Rattle.std.proofs.lemmas.Bool.Decides.{nat_tests}
use Rattle.board_model.specs.declared.scenario.CallLine.{CallLine}
use Rattle.board_model.specs.declared.scenario.DomainLine.{DomainLine}
use Rattle.board_model.specs.declared.scenario.Scenario.{Scenario}
use Rattle.board_model.specs.Scenario.{script}
use Rattle.board_model.specs.Journal.{PlainAnswer, PlainEntry, turned, put, again, waits, called, Line, idle_line, again_line, spin_line, turn_line, back_line, put_line, see_line, take_line, wait_line, call_line}
use Rattle.board_model.specs.Unjoined.{visit_in, idle_turn, times, Tail, tail, read_onto, peers_of, unjoined}
use Rattle.board_model.specs.JournalParts.{Part, call_of, part_entries}
use Rattle.report_text.specs.JournalRead.{Parts, under_part, with_put, parts_from, parts_in}

module _ (peers : List ℕ) (script : List CallLine) where
  record Call (t : Parts) : Type 0 where
    puts_then : List (ℕ × List ℕ)
    number : ℕ
    answer : PlainAnswer
    later : List Part
    parts_are : t.parts ≡ call_of puts_then number answer ∷ later

  record Same (u : Tail) (t : Parts) : Type 0 where
    due : u.due ≡ t.due
    behind : u.behind ≡ t.behind
    entries : u.entries ≡ flat_map (part_entries peers) t.parts
    call : 0 < t.due → Call t

  under : (l : Line) (u : Tail) (t : Parts) → Same u t → Same (tail 0 (l ∷ u.behind) u.entries) (under_part l t)
  under l u t h = record { due = refl; behind = ap (λ xs. l ∷ xs) h.behind; entries = h.entries; call = λ some. absurd (omega (arith, some)) }

  claimed : (p : ℕ) (f : List ℕ) (u : Tail) (t : Parts) → Same u t → 0 < t.due → Same (tail (u.due - 1) u.behind (put p f ∷ u.entries)) (record { due = t.due - 1; behind = t.behind; parts = with_put p f t.parts })
  claimed p f u t h some =
      let call = h.call some in
      let parts : with_put p f t.parts ≡ call_of ((p, f) ∷ call.puts_then) call.number call.answer ∷ call.later = ap (with_put p f) call.parts_are in
      record {
        due = ap (λ n. n - 1) h.due;
        behind = h.behind;
        entries = ap (λ xs. put p f ∷ xs) (h.entries ∙ ap (flat_map (part_entries peers)) call.parts_are) ∙ sym (ap (flat_map (part_entries peers)) parts);
        call = λ more. record { puts_then = (p, f) ∷ call.puts_then; number = call.number; answer = call.answer; later = call.later; parts_are = parts };
      }

  all-same : (ls : List Line) → Same (read_onto peers script ls (tail 0 [] [])) (parts_from peers script ls)
  all-same [] = record { due = refl; behind = refl; entries = refl; call = λ some. absurd (omega (arith, some)) }
  all-same (idle_line n ∷ ls) = let h = all-same ls in record { due = refl; behind = refl; entries = ap (λ xs. times n (idle_turn peers ∷ []) ++ xs) h.entries; call = λ some. absurd (omega (arith, some)) }
  all-same (again_line w ∷ ls) = let h = all-same ls in record { due = refl; behind = refl; entries = ap (λ xs. again w ∷ xs) h.entries; call = λ some. absurd (omega (arith, some)) }
  all-same (spin_line n w ∷ ls) = let h = all-same ls in record { due = refl; behind = refl; entries = ap (λ xs. times n (idle_turn peers ∷ again w ∷ []) ++ xs) h.entries; call = λ some. absurd (omega (arith, some)) }
  all-same (turn_line ∷ ls) = let h = all-same ls in record { due = refl; behind = refl; entries = ap₂ (λ (xs : List Line) (es : List PlainEntry). turned (map (visit_in xs) peers) ∷ es) h.behind h.entries; call = λ some. absurd (omega (arith, some)) }
  all-same (wait_line k ∷ ls) = let h = all-same ls in record { due = refl; behind = refl; entries = ap (λ xs. waits k ∷ xs) h.entries; call = λ some. absurd (omega (arith, some)) }
  all-same (call_line k a ∷ ls) =
      let h = all-same ls in
      record { due = refl; behind = refl; entries = ap (λ xs. called k a ∷ xs) h.entries; call = λ some. record { puts_then = []; number = k; answer = a; later = (parts_from peers script ls).parts; parts_are = refl } }
  all-same (back_line p n ∷ ls) = under (back_line p n) (read_onto peers script ls (tail 0 [] [])) (parts_from peers script ls) (all-same ls)
  all-same (see_line p n ∷ ls) = under (see_line p n) (read_onto peers script ls (tail 0 [] [])) (parts_from peers script ls) (all-same ls)
  all-same (take_line p f w ∷ ls) = under (take_line p f w) (read_onto peers script ls (tail 0 [] [])) (parts_from peers script ls) (all-same ls)
  all-same (put_line p f ∷ ls) =
      let u : Tail = read_onto peers script ls (tail 0 [] []) in
      let t : Parts = parts_from peers script ls in
      let h = all-same ls in
      subst (λ c. Same (cond c (tail (u.due - 1) u.behind (put p f ∷ u.entries)) (tail 0 (put_line p f ∷ u.behind) u.entries)) (cond (nat_lt 0 t.due) (record { due = t.due - 1; behind = t.behind; parts = with_put p f t.parts }) (under_part (put_line p f) t)))
      (ap (nat_lt 0) (sym h.due))
      (go u t h (nat_lt 0 t.due) refl)
    where
      go : (u : Tail) (t : Parts) → Same u t → (b : Bool) → nat_lt 0 t.due ≡ b → Same (cond b (tail (u.due - 1) u.behind (put p f ∷ u.entries)) (tail 0 (put_line p f ∷ u.behind) u.entries)) (cond b (record { due = t.due - 1; behind = t.behind; parts = with_put p f t.parts }) (under_part (put_line p f) t))
      go u t h true is = let some : 0 < t.due = grind (arith, nat_tests) in claimed p f u t h some
      go u t h false is = under (put_line p f) u t h

pub unjoined-is : (s : Scenario) (d : DomainLine) (ls : List Line) → unjoined s d ls ≡ flat_map (part_entries (peers_of s d)) (parts_in (peers_of s d) (script s d.domain) ls)
unjoined-is s d ls = (all-same (peers_of s d) (script s d.domain) ls).entries
