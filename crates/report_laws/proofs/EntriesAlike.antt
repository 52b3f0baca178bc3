-- Lines that differ in the answers of calls alone, where these have one text, tell entries that do so too.
use Rattle.std.proofs.Common.{◌≡◌, ◌⊎◌, inl, inr, ℕ, ◌-◌, Bool, true, false, cond, List, [], ◌∷◌, ◌++◌, map, Option, Some, None, refl, sym, ap, subst, ◌∙◌}
use Rattle.std.specs.Prelude.{nat_lt, ◌==◌}
use Rattle.board_model.specs.declared.scenario.Call.{Call}
use Rattle.board_model.specs.declared.scenario.CallLine.{CallLine}
use Rattle.board_model.specs.Journal.{PlainAnswer, refuses, agrees, tells, connects, gives, completes, PlainEntry, turned, put, again, called, Line, idle_line, again_line, spin_line, turn_line, back_line, put_line, see_line, take_line, wait_line, call_line}
use Rattle.board_model.specs.Report.{line_text}
use Rattle.board_model.specs.Unjoined.{frames_put, puts_by, puts_of, line_numbered, visit_in, idle_turn, times, Tail, tail, with_line, read_onto, entries_in}
use Rattle.report_text.proofs.KindsTold.{kind_of, same-kind}
use Rattle.report_text.proofs.NumbersTold.{words-same}
use Rattle.report_laws.proofs.LineTexts.{OneText, HaveOneText}

-- the entry that is told, and the one that was made
pub record EntriesAlike (e f : PlainEntry) : Type 0 where
  pub number : ℕ
  pub told : PlainAnswer
  pub answer : PlainAnswer
  pub read : e ≡ called number told
  pub made : f ≡ called number answer
  pub text : line_text (call_line number told) ≡ line_text (call_line number answer)

abbrev pub OneEntry : PlainEntry → PlainEntry → Type 0
OneEntry e f = (e ≡ f) ⊎ EntriesAlike e f

abbrev pub HaveOneEntry : List PlainEntry → List PlainEntry → Type 0
HaveOneEntry [] [] = Unit {0}
HaveOneEntry (e ∷ es) (f ∷ fs) = OneEntry e f × HaveOneEntry es fs
HaveOneEntry es fs = ⊥

one-front : (xs es fs : List PlainEntry) → HaveOneEntry es fs → HaveOneEntry (xs ++ es) (xs ++ fs)
one-front [] es fs h = h
one-front (x ∷ xs) es fs h = (inl refl, one-front xs es fs h)

-- ---- an answer claims as many puts as another of its text

puts-kind : (call : Call) (a : PlainAnswer) → puts_by call a ≡ cond (kind_of a == 0) 0 (frames_put call)
puts-kind call (refuses word) = refl
puts-kind call agrees = refl
puts-kind call (tells n) = refl
puts-kind call (connects r c) = refl
puts-kind call (gives n bytes) = refl
puts-kind call (completes place result) = refl

puts-same : (o : Option CallLine) (a b : PlainAnswer) → kind_of a ≡ kind_of b → puts_of o a ≡ puts_of o b
puts-same None a b same = refl
puts-same (Some line) a b same = puts-kind line.call a ∙ ap (λ k. cond (k == 0) 0 (frames_put line.call)) same ∙ sym (puts-kind line.call b)

-- ---- line by line

record TailsAlike (u w : Tail) : Type 0 where
  due : u.due ≡ w.due
  behind : u.behind ≡ w.behind
  entries : HaveOneEntry u.entries w.entries

module _ (peers : List ℕ) (script : List CallLine) where
  under : (l : Line) (u w : Tail) → TailsAlike u w → TailsAlike (tail 0 (l ∷ u.behind) u.entries) (tail 0 (l ∷ w.behind) w.entries)
  under l u w h = record { due = refl; behind = ap (λ xs. l ∷ xs) h.behind; entries = h.entries }

  same-line : (l : Line) (u w : Tail) → TailsAlike u w → TailsAlike (with_line peers script l u) (with_line peers script l w)
  same-line (idle_line n) u w h = record { due = refl; behind = refl; entries = one-front (times n (idle_turn peers ∷ [])) u.entries w.entries h.entries }
  same-line (again_line word) u w h = record { due = refl; behind = refl; entries = (inl refl, h.entries) }
  same-line (spin_line n word) u w h = record { due = refl; behind = refl; entries = one-front (times n (idle_turn peers ∷ again word ∷ [])) u.entries w.entries h.entries }
  same-line turn_line u w h = record { due = refl; behind = refl; entries = (inl (ap (λ xs. turned (map (visit_in xs) peers)) h.behind), h.entries) }
  same-line (back_line p n) u w h = under (back_line p n) u w h
  same-line (see_line p n) u w h = under (see_line p n) u w h
  same-line (take_line p f fate) u w h = under (take_line p f fate) u w h
  same-line (wait_line k) u w h = record { due = refl; behind = refl; entries = (inl refl, h.entries) }
  same-line (call_line k a) u w h = record { due = refl; behind = refl; entries = (inl refl, h.entries) }
  same-line (put_line p f) u w h =
      subst (λ c. TailsAlike (cond (nat_lt 0 u.due) (tail (u.due - 1) u.behind (put p f ∷ u.entries)) (tail 0 (put_line p f ∷ u.behind) u.entries)) (cond c (tail (w.due - 1) w.behind (put p f ∷ w.entries)) (tail 0 (put_line p f ∷ w.behind) w.entries)))
      (ap (nat_lt 0) h.due)
      (go (nat_lt 0 u.due))
    where
      go : (b : Bool) → TailsAlike (cond b (tail (u.due - 1) u.behind (put p f ∷ u.entries)) (tail 0 (put_line p f ∷ u.behind) u.entries)) (cond b (tail (w.due - 1) w.behind (put p f ∷ w.entries)) (tail 0 (put_line p f ∷ w.behind) w.entries))
      go true = record { due = ap (λ n. n - 1) h.due; behind = h.behind; entries = (inl refl, h.entries) }
      go false = under (put_line p f) u w h

  other-answer : (k : ℕ) (a b : PlainAnswer) (u w : Tail) → line_text (call_line k a) ≡ line_text (call_line k b) → TailsAlike u w → TailsAlike (with_line peers script (call_line k a) u) (with_line peers script (call_line k b) w)
  other-answer k a b u w text h = record {
    due = puts-same (line_numbered script k) a b (same-kind a b (words-same k a b text));
    behind = refl;
    entries = (inr (record { number = k; told = a; answer = b; read = refl; made = refl; text = text }), h.entries);
  }

  one-line : (l m : Line) (u w : Tail) → OneText l m → TailsAlike u w → TailsAlike (with_line peers script l u) (with_line peers script m w)
  one-line l m u w one h = elim one [
    | inl same ↦ subst (λ x. TailsAlike (with_line peers script l u) (with_line peers script x w)) same (same-line l u w h)
    | inr calls ↦ subst (λ x. TailsAlike (with_line peers script x u) (with_line peers script m w)) (sym calls.read) (subst (λ y. TailsAlike (with_line peers script (call_line calls.number calls.told) u) (with_line peers script y w)) (sym calls.written) (other-answer calls.number calls.told calls.answer u w calls.text h))
  ]

  lines-alike : (ls ms : List Line) → HaveOneText ls ms → TailsAlike (read_onto peers script ls (tail 0 [] [])) (read_onto peers script ms (tail 0 [] []))
  lines-alike [] [] h = record { due = refl; behind = refl; entries = tt }
  lines-alike [] (m ∷ ms) h = absurd h
  lines-alike (l ∷ ls) [] h = absurd h
  lines-alike (l ∷ ls) (m ∷ ms) h = one-line l m (read_onto peers script ls (tail 0 [] [])) (read_onto peers script ms (tail 0 [] [])) h.0 (lines-alike ls ms h.1)

  pub entries-alike : (ls ms : List Line) → HaveOneText ls ms → HaveOneEntry (entries_in peers script ls) (entries_in peers script ms)
  entries-alike ls ms h = (lines-alike ls ms h).entries
