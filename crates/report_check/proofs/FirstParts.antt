-- The first part of the lines of a journal, as their outlines tell it.
use Rattle.std.proofs.Common.{◌≡◌, ℕ, zero, suc, ◌+◌, ◌-◌, ◌<◌, ◌≤◌, Bool, true, false, cond, ◌&&◌, List, [], ◌∷◌, ◌++◌, length, take, drop, map, refl, sym, ap, ap₂, subst, ◌∙◌, arith, append_assoc, append-nil}
use Rattle.std.specs.List.{flat_map}
use Rattle.std.proofs.lemmas.Bool.{and_parts}
use Rattle.std.proofs.lemmas.List.{append_cancel_left, append_cancel_right, length-append, length-drop, length-map, length-take-le, take-append-drop, take-append-le, drop-append-le, drop_at}
use Rattle.board_model.specs.declared.scenario.CallLine.{CallLine}
use Rattle.board_model.specs.Journal.{PlainAnswer, Visit, Line, idle_line, again_line, spin_line, turn_line, back_line, put_line, see_line, take_line, wait_line, call_line, visit_lines}
use Rattle.board_model.specs.JournalParts.{Part, idles, spins, tries, turn_of, wait_of, call_of, part_lines}
use Rattle.board_model.specs.Unjoined.{visit_in}
use Rattle.board_model.proofs.JournalReading.{put_lines}
use Rattle.report_text.specs.declared.outline.Outline.{Outline}
use Rattle.report_text.specs.declared.outline.Outline.TheVariants as outline
use Rattle.report_text.specs.JournalRead.{Parts, parts_from, parts_in}
use Rattle.report_text.specs.Outlines.{outline_of}
use Rattle.report_text.specs.TextPass.{puts_of_script}
use Rattle.report_text.specs.TurnOrder.{is_under, puts_last, under_lines, own_count}
use Rattle.report_check.specs.declared.cursor.Head.{Head}
use Rattle.report_check.specs.declared.cursor.Head.TheVariants as head
use Rattle.report_check.specs.NextParts.{Heads}
use Rattle.report_check.specs.PartOutlines.{head_in, part_size}
use Rattle.report_check.proofs.PartFronts.{AreUnder, puts_line, all_put, put_last, last-all, last-any, last-few, own_lines, with_puts, puts_in, parts_front, turn_front, call_front, own_same}
use Rattle.report_check.proofs.PartTexts.{visit-headed}
use Rattle.report_check.proofs.UnderLines.{IsHeaded, under-append, visits-under, rest-same, parted-once, parted}

-- ---- the last puts under a turn, which are not its own

none-left : (n : ℕ) → drop {A = Line} n [] ≡ []
none-left zero = refl
none-left (suc n) = refl

all-later : (n : ℕ) (ls : List Line) → all_put ls ≡ true → all_put (drop n ls) ≡ true
all-later zero ls e = e
all-later (suc n) [] e = e
all-later (suc n) (l ∷ ls) e = all-later n ls (and_parts (puts_line l) (all_put ls) e).1

last-other : (l : Line) (ls : List Line) → all_put (l ∷ ls) ≡ false → put_last (l ∷ ls) ≡ put_last ls
last-other l ls e = go (puts_line l) e
  where
    go : (b : Bool) → (b && all_put ls) ≡ false → puts_last (cond b (0 + 1) 0) (map outline_of ls) ≡ put_last ls
    go true e = last-any (0 + 1) 0 ls e
    go false e = refl

left-puts : (due : ℕ) (ls : List Line) → all_put (drop (own_lines due ls) ls) ≡ true
left-puts due [] = ap all_put (none-left (own_lines due []))
left-puts due (l ∷ ls) = go (all_put (l ∷ ls)) refl (left-puts due ls)
  where
    go : (b : Bool) → all_put (l ∷ ls) ≡ b → all_put (drop (own_lines due ls) ls) ≡ true → all_put (drop (own_lines due (l ∷ ls)) (l ∷ ls)) ≡ true
    go true is rest = all-later (own_lines due (l ∷ ls)) (l ∷ ls) is
    go false is rest =
        let last : put_last (l ∷ ls) ≡ put_last ls = last-other l ls is in
        let few : put_last ls ≤ 0 + length ls = last-few 0 ls in
        let own : own_lines due (l ∷ ls) ≡ suc (own_lines due ls) = omega (arith, last, few) in
        ap (λ (n : ℕ). all_put (drop n (l ∷ ls))) own ∙ rest

left-due : (due : ℕ) (ls : List Line) → length (drop (own_lines due ls) ls) ≤ due
left-due due ls =
    let size : length (drop (own_lines due ls) ls) ≡ length ls - own_lines due ls = length-drop (own_lines due ls) ls in
    let few : put_last ls ≤ 0 + length ls = last-few 0 ls in
    omega (arith, size, few)

left-own : (due : ℕ) (ls : List Line) → own_lines due (drop (own_lines due ls) ls) ≡ 0
left-own due ls =
    let ds : List Line = drop (own_lines due ls) ls in
    let last : put_last ds ≡ 0 + length ds = last-all 0 ds (left-puts due ls) in
    let few : length ds ≤ due = left-due due ls in
    omega (arith, last, few)

-- ---- they are the call's behind them

put-back : (ls : List Line) → all_put ls ≡ true → put_lines (puts_in ls) ≡ ls
put-back [] e = refl
put-back (idle_line n ∷ ls) e = absurd cc
put-back (again_line word ∷ ls) e = absurd cc
put-back (spin_line n word ∷ ls) e = absurd cc
put-back (turn_line ∷ ls) e = absurd cc
put-back (back_line p n ∷ ls) e = absurd cc
put-back (put_line p frame ∷ ls) e = ap (λ (xs : List Line). put_line p frame ∷ xs) (put-back ls e)
put-back (see_line p n ∷ ls) e = absurd cc
put-back (take_line p frame fate ∷ ls) e = absurd cc
put-back (wait_line k ∷ ls) e = absurd cc
put-back (call_line k a ∷ ls) e = absurd cc

put-under : (ls : List Line) → all_put ls ≡ true → AreUnder ls
put-under [] e = tt
put-under (idle_line n ∷ ls) e = absurd cc
put-under (again_line word ∷ ls) e = absurd cc
put-under (spin_line n word ∷ ls) e = absurd cc
put-under (turn_line ∷ ls) e = absurd cc
put-under (back_line p n ∷ ls) e = absurd cc
put-under (put_line p frame ∷ ls) e = (refl, put-under ls e)
put-under (see_line p n ∷ ls) e = absurd cc
put-under (take_line p frame fate ∷ ls) e = absurd cc
put-under (wait_line k ∷ ls) e = absurd cc
put-under (call_line k a ∷ ls) e = absurd cc

call-puts : (us : List Line) (k : ℕ) (a : PlainAnswer) → all_put us ≡ true → part_lines (call_of (puts_in us ++ []) k a) ≡ us ++ call_line k a ∷ []
call-puts us k a puts = ap (λ (xs : List Line). xs ++ call_line k a ∷ []) (ap put_lines (append-nil (puts_in us)) ∙ put-back us puts)

call-lines : (us : List Line) (k : ℕ) (a : PlainAnswer) (ps : List Part) → all_put us ≡ true → flat_map part_lines (call_of (puts_in us ++ []) k a ∷ ps) ≡ us ++ call_line k a ∷ flat_map part_lines ps
call-lines us k a ps puts = ap (λ (xs : List Line). xs ++ flat_map part_lines ps) (call-puts us k a puts) ∙ append_assoc us (call_line k a ∷ []) (flat_map part_lines ps)

map-headed : (ls : List Line) (peers : List ℕ) → map (visit_in (turn_line ∷ ls)) peers ≡ map (visit_in ls) peers
map-headed ls [] = refl
map-headed ls (p ∷ peers) = ap₂ (λ (v : Visit) (vs : List Visit). v ∷ vs) (visit-headed ls p) (map-headed ls peers)

module _ (peers : List ℕ) (script : List CallLine) where
  abbrev parts : List Line → List Part
  parts = parts_in peers script

  abbrev from : List Line → Parts
  from = parts_from peers script

  record IsCall (ms : List Line) : Type 0 where
    number : ℕ
    answer : PlainAnswer
    later : List Line
    lines : ms ≡ call_line number answer ∷ later

  -- a line that claims puts is a call's
  call-first : (ms : List Line) → IsHeaded ms → 0 < (from ms).due → IsCall ms
  call-first [] other some = absurd (omega (arith, some))
  call-first (idle_line n ∷ ms) other some = absurd (omega (arith, some))
  call-first (again_line word ∷ ms) other some = absurd (omega (arith, some))
  call-first (spin_line n word ∷ ms) other some = absurd (omega (arith, some))
  call-first (turn_line ∷ ms) other some = absurd (omega (arith, some))
  call-first (back_line p n ∷ ms) other some = absurd cc
  call-first (put_line p frame ∷ ms) other some = absurd cc
  call-first (see_line p n ∷ ms) other some = absurd cc
  call-first (take_line p frame fate ∷ ms) other some = absurd cc
  call-first (wait_line k ∷ ms) other some = absurd (omega (arith, some))
  call-first (call_line k a ∷ ms) other some = record { number = k; answer = a; later = ms; lines = refl }

  -- the lines of the parts begin with none that stands under another, where the lines do
  headed-parts : (ms : List Line) → IsHeaded ms → IsHeaded (flat_map part_lines (parts ms))
  headed-parts [] other = tt
  headed-parts (idle_line n ∷ ms) other = refl
  headed-parts (again_line word ∷ ms) other = refl
  headed-parts (spin_line n word ∷ ms) other = refl
  headed-parts (turn_line ∷ ms) other = refl
  headed-parts (back_line p n ∷ ms) other = absurd cc
  headed-parts (put_line p frame ∷ ms) other = absurd cc
  headed-parts (see_line p n ∷ ms) other = absurd cc
  headed-parts (take_line p frame fate ∷ ms) other = absurd cc
  headed-parts (wait_line k ∷ ms) other = refl
  headed-parts (call_line k a ∷ ms) other = refl

  -- nor do those behind puts, where the first line claims these
  left-lines : (ds ms : List Line) → all_put ds ≡ true → IsHeaded ms → length ds ≤ (from ms).due → (ns : List Line) × IsHeaded ns × (flat_map part_lines (with_puts ds (parts ms)) ≡ ds ++ ns)
  left-lines [] ms puts other few = (flat_map part_lines (parts ms), headed-parts ms other, refl)
  left-lines (d ∷ ds) ms puts other few =
      let call = call-first ms other (omega (arith, few)) in
      let ps = parts call.later in (
        call_line call.number call.answer ∷ flat_map part_lines ps,
        refl,
        ap (λ (xs : List Line). flat_map part_lines (with_puts (d ∷ ds) (parts xs))) call.lines
            ∙ (ap (flat_map part_lines) (call_front (d ∷ ds) [] call.number call.answer ps)
            ∙ call-lines (d ∷ ds) call.number call.answer ps puts),
      )

  -- ---- the first part

  pub record IsFirst (ls : List Line) (n : ℕ) (h : Head) : Type 0 where
    pub part : Part
    pub parts_are : parts ls ≡ part ∷ parts (drop n ls)
    pub heads : Heads peers (take n ls) h part
    pub size : n ≡ length (part_lines part)
    pub begins : drop n ls ≡ flat_map part_lines (parts (drop n ls))

  one-first : (l : Line) (ls : List Line) (p : Part) (h : Head) → l ∷ ls ≡ flat_map part_lines (parts (l ∷ ls)) → parts (l ∷ ls) ≡ p ∷ parts ls → part_lines p ≡ l ∷ [] → Heads peers (l ∷ []) h p → IsFirst (l ∷ ls) 1 h
  one-first l ls p h e are is heads = record {
    part = p;
    parts_are = are;
    heads = heads;
    size = sym (ap (λ (xs : List Line). length xs) is);
    begins = rest-same l l ls (flat_map part_lines (parts ls)) (e ∙ (ap (flat_map part_lines) are ∙ ap (λ (xs : List Line). xs ++ flat_map part_lines (parts ls)) is));
  }

  -- lines before puts that the line behind them claims
  own-parted : (vs us ds ms : List Line) → AreUnder vs → AreUnder us → IsHeaded ms → all_put ds ≡ true → length ds ≤ (from ms).due → us ++ ms ≡ vs ++ flat_map part_lines (with_puts ds (parts ms)) → (us ≡ vs ++ ds) × (ds ++ ms ≡ flat_map part_lines (with_puts ds (parts ms)))
  own-parted vs us ds ms own under other puts few e =
      let left = left-lines ds ms puts other few in
      let same = parted-once us (vs ++ ds) ms left.0 under (under-append vs ds own (put-under ds puts)) other left.1 (e ∙ (ap (λ (xs : List Line). vs ++ xs) left.2 ∙ sym (append_assoc vs ds left.0))) in
      (same.0, ap (λ (xs : List Line). ds ++ xs) same.1 ∙ sym left.2)

  turn-part : (ls us ms : List Line) (own : ℕ) → ls ≡ us ++ ms → AreUnder us → IsHeaded ms → own ≤ length us → all_put (drop own us) ≡ true → length (drop own us) ≤ (from ms).due
      → parts (turn_line ∷ ls) ≡ turn_of (map (visit_in (take own us)) peers) ∷ with_puts (drop own us) (parts ms) → parts (drop own us ++ ms) ≡ with_puts (drop own us) (parts ms)
      → turn_line ∷ ls ≡ flat_map part_lines (parts (turn_line ∷ ls)) → IsFirst (turn_line ∷ ls) (suc own) head.Turn
  turn-part ls us ms own lines under other within puts few are later e =
      let vs : List Visit = map (visit_in (take own us)) peers in
      let rest : ls ≡ flat_map visit_lines vs ++ flat_map part_lines (with_puts (drop own us) (parts ms)) =
      rest-same turn_line turn_line ls (flat_map visit_lines vs ++ flat_map part_lines (with_puts (drop own us) (parts ms))) (e ∙ ap (flat_map part_lines) are) in
      let same = own-parted (flat_map visit_lines vs) us (drop own us) ms (visits-under vs) under other puts few (sym lines ∙ rest) in
      let taken : take own us ≡ flat_map visit_lines vs = append_cancel_right (take own us) (flat_map visit_lines vs) (drop own us) (take-append-drop own us ∙ same.0) in
      let behind : drop own ls ≡ drop own us ++ ms = ap (drop own) lines ∙ drop-append-le own us ms within in
      let front : take own ls ≡ take own us = ap (take own) lines ∙ take-append-le own us ms within in
      record {
        part = turn_of vs;
        parts_are = are ∙ ap (λ ps. turn_of vs ∷ ps) (sym (ap parts behind ∙ later));
        heads = ap turn_of (sym (map-headed (take own ls) peers ∙ ap (λ (xs : List Line). map (visit_in xs) peers) front));
        size = ap suc (sym (length-take-le own us within) ∙ ap (λ (xs : List Line). length xs) taken);
        begins = behind ∙ (same.1 ∙ sym (ap (flat_map part_lines) (ap parts behind ∙ later)));
      }

  turn-first : (ls : List Line) → turn_line ∷ ls ≡ flat_map part_lines (parts (turn_line ∷ ls)) → IsFirst (turn_line ∷ ls) (part_size (puts_of_script script) outline.Turn (map outline_of ls)) head.Turn
  turn-first ls e =
      let p = parted peers script ls in
      let due : ℕ = (from p.behind).due in
      let own : ℕ = own_lines due p.front in
      let puts : all_put (drop own p.front) ≡ true = left-puts due p.front in
      let are : parts (turn_line ∷ ls) ≡ turn_of (map (visit_in (take own p.front)) peers) ∷ with_puts (drop own p.front) (parts p.behind) =
      ap (λ (xs : List Line). parts (turn_line ∷ xs)) p.lines ∙ turn_front peers script p.front p.behind p.under p.nothing in
      let later : parts (drop own p.front ++ p.behind) ≡ with_puts (drop own p.front) (parts p.behind) =
      ap (λ (t : Parts). t.parts) (parts_front peers script (drop own p.front) p.behind (put-under (drop own p.front) puts) p.nothing)
      ∙ ap (λ (n : ℕ). with_puts (drop n (drop own p.front)) (parts p.behind)) (left-own due p.front)
      in
      let size : part_size (puts_of_script script) outline.Turn (map outline_of ls) ≡ suc own =
      ap₂ (λ (k : ℕ) (os : List Outline). 1 + own_count k os) p.claimed p.outlines ∙ (ap (λ (k : ℕ). 1 + k) (own_same due p.front) ∙ omega arith) in
      subst (λ (n : ℕ). IsFirst (turn_line ∷ ls) n head.Turn) (sym size) (turn-part ls p.front p.behind own p.lines p.under p.headed (omega arith) puts (left-due due p.front) are later e)

  call-part : (ls us later : List Line) (k : ℕ) (a : PlainAnswer) → ls ≡ us ++ call_line k a ∷ later → all_put us ≡ true → parts ls ≡ call_of (puts_in us ++ []) k a ∷ parts later → ls ≡ flat_map part_lines (parts ls) → IsFirst ls (length us + 1) head.Call
  call-part ls us later k a lines puts are e =
      let size : length (us ++ call_line k a ∷ []) ≡ length us + 1 = length-append us (call_line k a ∷ []) in
      let behind : drop (length us + 1) ls ≡ later = ap (drop (length us + 1)) (lines ∙ sym (append_assoc us (call_line k a ∷ []) later)) ∙ drop_at (us ++ call_line k a ∷ []) later (length us + 1) size in
      let begins : later ≡ flat_map part_lines (parts later) =
      rest-same (call_line k a) (call_line k a) later (flat_map part_lines (parts later))
      (append_cancel_left us (call_line k a ∷ later) (call_line k a ∷ flat_map part_lines (parts later)) (sym lines ∙ (e ∙ (ap (flat_map part_lines) are ∙ call-lines us k a (parts later) puts))))
      in
      record {
        part = call_of (puts_in us ++ []) k a;
        parts_are = are ∙ ap (λ (xs : List Line). call_of (puts_in us ++ []) k a ∷ parts xs) (sym behind);
        heads = (puts_in us ++ [], k, a, refl);
        size = sym size ∙ ap (λ (xs : List Line). length xs) (sym (call-puts us k a puts));
        begins = behind ∙ (begins ∙ ap (λ (xs : List Line). flat_map part_lines (parts xs)) (sym behind));
      }

  puts-part : (ls us ds ms : List Line) → ls ≡ us ++ ms → 0 < length us → AreUnder us → IsHeaded ms → all_put ds ≡ true → length ds ≤ (from ms).due → parts ls ≡ with_puts ds (parts ms) → ls ≡ flat_map part_lines (parts ls) → IsFirst ls (length us + 1) head.Call
  puts-part ls us ds ms lines some under other puts few are e =
      let same : us ≡ ds = (own-parted [] us ds ms tt under other puts few (sym lines ∙ (e ∙ ap (flat_map part_lines) are))).0 in
      let size : length us ≡ length ds = ap (λ (xs : List Line). length xs) same in
      let call = call-first ms other (omega (arith, few, some, size)) in
      call-part ls us call.later call.number call.answer (lines ∙ ap (λ (xs : List Line). us ++ xs) call.lines) (ap all_put same ∙ puts)
      (are ∙ (ap (λ (xs : List Line). with_puts xs (parts ms)) (sym same) ∙ (ap (λ (xs : List Line). with_puts us (parts xs)) call.lines ∙ call_front us [] call.number call.answer (parts call.later))))
      e

  puts-first : (l : Line) (ls : List Line) → is_under (outline_of l) ≡ true → l ∷ ls ≡ flat_map part_lines (parts (l ∷ ls)) → IsFirst (l ∷ ls) (2 + length (under_lines (map outline_of ls))) head.Call
  puts-first l ls is e =
      let p = parted peers script ls in
      let us : List Line = l ∷ p.front in
      let due : ℕ = (from p.behind).due in
      let lines : l ∷ ls ≡ us ++ p.behind = ap (λ (xs : List Line). l ∷ xs) p.lines in
      let are : parts (l ∷ ls) ≡ with_puts (drop (own_lines due us) us) (parts p.behind) = ap parts lines ∙ ap (λ (t : Parts). t.parts) (parts_front peers script us p.behind (is, p.under) p.nothing) in
      let count : length (under_lines (map outline_of ls)) ≡ length p.front = ap (λ (os : List Outline). length os) p.outlines ∙ length-map p.front outline_of in
      let size : length us + 1 ≡ 2 + length (under_lines (map outline_of ls)) = omega (arith, count) in
      subst (λ (n : ℕ). IsFirst (l ∷ ls) n head.Call) size (puts-part (l ∷ ls) us (drop (own_lines due us) us) p.behind lines (omega arith) (is, p.under) p.headed (left-puts due us) (left-due due us) are e)

  line-first : (l : Line) (ls : List Line) → l ∷ ls ≡ flat_map part_lines (parts (l ∷ ls)) → IsFirst (l ∷ ls) (part_size (puts_of_script script) (outline_of l) (map outline_of ls)) (head_in (outline_of l))
  line-first (idle_line n) ls e = one-first (idle_line n) ls (idles n) (head.Idle n) e refl refl refl
  line-first (again_line word) ls e = one-first (again_line word) ls (tries word) head.Again e refl refl (word, refl)
  line-first (spin_line n word) ls e = one-first (spin_line n word) ls (spins n word) (head.Spin n) e refl refl (word, refl)
  line-first turn_line ls e = turn-first ls e
  line-first (back_line p n) ls e = puts-first (back_line p n) ls refl e
  line-first (put_line p frame) ls e = puts-first (put_line p frame) ls refl e
  line-first (see_line p n) ls e = puts-first (see_line p n) ls refl e
  line-first (take_line p frame fate) ls e = puts-first (take_line p frame fate) ls refl e
  line-first (wait_line k) ls e = one-first (wait_line k) ls (wait_of k) head.Wait e refl refl (k, refl)
  line-first (call_line k a) ls e = one-first (call_line k a) ls (call_of [] k a) head.Call e refl refl ([], k, a, refl)

  -- by the outlines of the lines
  pub first-part : (ls : List Line) (o : Outline) (os : List Outline) → map outline_of ls ≡ o ∷ os → ls ≡ flat_map part_lines (parts ls) → IsFirst ls (part_size (puts_of_script script) o os) (head_in o)
  first-part [] o os is e = absurd cc
  first-part (l ∷ ls) o os is e =
      let one : outline_of l ≡ o = cc in
      let more : map outline_of ls ≡ os = cc in
      subst (λ x. IsFirst (l ∷ ls) (part_size (puts_of_script script) x os) (head_in x)) one
      (subst (λ xs. IsFirst (l ∷ ls) (part_size (puts_of_script script) (outline_of l) xs) (head_in (outline_of l))) more (line-first l ls e))
