-- No line is out of place in parts that stand behind each other.
use Rattle.std.proofs.Common.{◌≡◌, ℕ, ◌+◌, ◌-◌, ◌^◌, ◌≤◌, Bool, true, false, not, ◌&&◌, cond, List, [], ◌∷◌, ◌++◌, length, map, Option, Some, None, option_map, refl, sym, ap, ap₂, subst, ◌∙◌, arith, append_assoc, append-nil, ne_eqb, length-append}
use Rattle.std.specs.Prelude.{nat_lt, nat_le, ◌==◌}
use Rattle.std.specs.List.{AllByRecursion, flat_map, list_all}
use Rattle.std.proofs.lemmas.Bool.{and_from}
use Rattle.std.proofs.lemmas.Bool.Decides.{nat_tests}
use Rattle.std.proofs.lemmas.List.{map-append, length-map}
use Rattle.mc_base.specs.declared.refusal.Refusal.{Refusal}
use Rattle.board_model.specs.declared.scenario.CallLine.{CallLine}
use Rattle.board_model.specs.Words.{same_word}
use Rattle.board_model.specs.Journal.{Visit, Line, idle_line, again_line, spin_line, turn_line, back_line, put_line, see_line, take_line, wait_line, call_line, visit_lines, is_idle, joinable, spinning}
use Rattle.board_model.specs.Journal as journal
use Rattle.board_model.specs.Unjoined.{line_numbered, puts_of}
use Rattle.board_model.specs.JournalParts.{Part, idles, spins, tries, turn_of, wait_of, call_of, part_lines, last_line, IsCount, StandBehind}
use Rattle.board_model.proofs.BoardsRising.{AreRising}
use Rattle.board_model.proofs.JournalReading.{IsOfTurn, put_lines}
use Rattle.board_model.proofs.JournalVisits.{visits_all}
use Rattle.board_model.proofs.JournalPartsJoined.{last-is}
use Rattle.board_model.proofs.MessageAlls.{all-append}
use Rattle.report_text.specs.declared.outline.Outline.{Outline}
use Rattle.report_text.specs.declared.outline.Outline.TheVariants as outline
use Rattle.report_text.specs.Outlines.{outline_of}
use Rattle.report_text.specs.TextLines.{moved, or_else}
use Rattle.report_text.specs.TurnOrder.{is_under, is_put, is_peer, puts_last, impossible_place, order_place, own_place, own_count, sooner, under_place}
use Rattle.report_text.specs.JournalOrder.{puts_of_line, is_turn, is_count, joins_idle, joins_spin, is_one_idle, stands, place_behind}
use Rattle.report_text.specs.TextPass.{puts_of_script}
use Rattle.report_text.specs.Texts.{last_of}
use Rattle.report_text.proofs.JournalSteps.{place-last, place-block}
use Rattle.report_text.proofs.PartsTold.{puts-are}
use Rattle.report_laws.proofs.RunForms.{TakesFirst, GoToPeers}
use Rattle.report_laws.proofs.TurnsInOrder.{order-none, visits-in, none-before, each-peer, IsPossible, visits-possible, visits-idle}

abbrev outlines : List Line → List Outline
outlines ls = map outline_of ls

-- ---- what stands behind the last line

untold : (b : Bool) (n : ℕ) → cond b (Some n) None ≡ None → b ≡ false
untold true n e = absurd cc
untold false n e = refl

joins-not : (o : Option Line) → joinable o ≡ None → joins_idle (option_map outline_of o) ≡ false
joins-not None e = refl
joins-not (Some (idle_line n)) e = untold (nat_lt n (2 ^ 64 - 1)) n e
joins-not (Some other) e = refl

spins-not : (word : Refusal) (o : Option Line) → spinning word o ≡ None → joins_spin word (option_map outline_of o) ≡ false
spins-not word None e = refl
spins-not word (Some (spin_line n w)) e = untold (same_word w word && nat_lt n (2 ^ 64 - 1)) n e
spins-not word (Some other) e = refl

one-not : (o : Option Line) → journal.is_one_idle o ≡ false → is_one_idle (option_map outline_of o) ≡ false
one-not None e = refl
one-not (Some (idle_line n)) e = e
one-not (Some other) e = refl

count-true : (n : ℕ) → IsCount n → is_count n ≡ true
count-true n count =
    let low = count.0 in
    let high = count.1 in
    and_from (nat_le 1 n) (nat_le n (2 ^ 64 - 1)) (grind (arith, nat_tests)) (grind (arith, nat_tests))

-- the last line of some that have another before them
last-behind : (F : List Line) (l : Line) (us : List Line) → last_of (Some (outline_of l)) (outlines us) ≡ option_map outline_of (last_line (F ++ l ∷ us))
last-behind F l [] = sym (ap (option_map outline_of) (last-is F l))
last-behind F l (m ∷ us) = last-behind (F ++ l ∷ []) m us ∙ ap (λ ls. option_map outline_of (last_line ls)) (append_assoc F (l ∷ []) (m ∷ us))

-- ---- the put lines of a call

put-of-turn : (qs : List (ℕ × List ℕ)) → AllByRecursion IsOfTurn (put_lines qs)
put-of-turn [] = tt
put-of-turn (q ∷ qs) = (tt, put-of-turn qs)

puts-last : (n : ℕ) (qs : List (ℕ × List ℕ)) → puts_last n (outlines (put_lines qs)) ≡ n + length qs
puts-last n [] = omega arith
puts-last n (q ∷ qs) = puts-last (n + 1) qs ∙ omega arith

puts-enough : (n : ℕ) (us : List Line) (qs : List (ℕ × List ℕ)) → length qs ≤ puts_last n (outlines (us ++ put_lines qs))
puts-enough n [] qs = omega (arith, puts-last n qs)
puts-enough n (u ∷ us) qs = puts-enough (cond (is_put (outline_of u)) (n + 1) 0) us qs

-- all other lines before a call are a turn's
own-count : (us : List Line) (qs : List (ℕ × List ℕ)) → own_count (length qs) (outlines (us ++ put_lines qs)) ≡ length us
own-count us qs =
    let enough = puts-enough 0 us qs in
    omega (arith, enough, length-map (us ++ put_lines qs) outline_of, length-append us (put_lines qs), length-map qs (λ (q : ℕ × List ℕ). put_line q.0 q.1))

all-under : (us : List Line) → AllByRecursion IsOfTurn us → list_all is_under (outlines us) ≡ true
all-under [] all = refl
all-under (back_line p n ∷ us) all = all-under us all.1
all-under (put_line p f ∷ us) all = all-under us all.1
all-under (see_line p n ∷ us) all = all-under us all.1
all-under (take_line p f w ∷ us) all = all-under us all.1
all-under (other ∷ us) all = absurd all.0

module _ (peers : List ℕ) (rise : AreRising peers) (lines : List CallLine) where
  abbrev puts : List ℕ
  puts = puts_of_script lines

  -- a part as a run makes it
  abbrev pub PartFits : Part → Type 0
  PartFits (turn_of vs) = (map (λ v. v.peer) vs ≡ peers) × AllByRecursion TakesFirst vs
  PartFits (call_of qs k a) = (length qs ≡ puts_of (line_numbered lines k) a) × GoToPeers peers qs
  PartFits other = Unit {0}

  -- ---- the lines under a line

  -- lines of a turn, or none of another line, with the put lines of any call behind them
  abbrev IsOwn : Bool → List Line → Type 0
  IsOwn turn us = (qs : List (ℕ × List ℕ)) → GoToPeers peers qs → under_place peers turn (length qs) (outlines (us ++ put_lines qs)) ≡ None

  impossible-none : (us : List Line) (qs : List (ℕ × List ℕ)) → AllByRecursion (IsPossible peers) us → GoToPeers peers qs → impossible_place peers (outlines (us ++ put_lines qs)) ≡ None
  impossible-none [] [] all there = refl
  impossible-none [] (q ∷ qs) all there = ap (λ b. cond b (moved 1 (impossible_place peers (outlines (put_lines qs)))) (Some 0)) there.0 ∙ ap (moved 1) (impossible-none [] qs tt there.1)
  impossible-none (u ∷ us) qs all there = ap (λ b. cond b (moved 1 (impossible_place peers (outlines (us ++ put_lines qs)))) (Some 0)) all.0 ∙ ap (moved 1) (impossible-none us qs all.1 there)

  own-none : IsOwn false []
  own-none qs there =
      ap₂ sooner (impossible-none [] qs tt there)
      (ap (λ n. own_place false n (outlines (put_lines qs))) (own-count [] qs))

  own-turn : (vs : List Visit) → PartFits (turn_of vs) → list_all is_idle vs ≡ false → IsOwn true (flat_map visit_lines vs)
  own-turn vs fits busy qs there =
      let us : List Line = flat_map visit_lines vs in
      let all : List Outline = outlines (us ++ put_lines qs) in
      let at_peers = subst (AllByRecursion (λ q. is_peer peers q ≡ true)) (sym fits.0) (each-peer peers) in
      let order = order-none us 0 None (outlines (put_lines qs)) (visits-in vs None (subst AreRising (sym fits.0) rise) fits.1 (none-before (map (λ v. v.peer) vs))) in
      let some : (length us == 0) ≡ false = ne_eqb (length us) 0 (λ none. let no : true ≡ false = sym (visits-idle vs none) ∙ busy in absurd cc) in
      ap₂ sooner (impossible-none us qs (visits-possible peers vs at_peers) there)
      (ap (λ n. own_place true n all) (own-count us qs)
      ∙ ap (λ b. cond b (Some (length all)) (order_place (length us) 0 None all)) some
      ∙ ap (order_place (length us) 0 None) (map-append outline_of us (put_lines qs))
      ∙ order)

  -- ---- one part more

  -- a line, with the put lines before it where it is a call
  step : (turn : Bool) (last : Option Outline) (us : List Line) (qs : List (ℕ × List ℕ)) (l : Line) (own behind : List Line) → AllByRecursion IsOfTurn us → IsOwn turn us → GoToPeers peers qs → length qs ≡ puts_of_line puts (outline_of l) → is_under (outline_of l) ≡ false
      → stands (last_of last (outlines (us ++ put_lines qs))) (outline_of l) ≡ true → place_behind peers puts (is_turn (outline_of l)) (Some (outline_of l)) (outlines (own ++ behind)) ≡ None
      → place_behind peers puts turn last (outlines (us ++ ((put_lines qs ++ l ∷ own) ++ behind))) ≡ None
  step turn last us qs l own behind all is_own there many other stand rest =
      let front : List Line = us ++ put_lines qs in
      let split : us ++ ((put_lines qs ++ l ∷ own) ++ behind) ≡ front ++ l ∷ (own ++ behind) = ap (λ ls. us ++ ls) (append_assoc (put_lines qs) (l ∷ own) behind) ∙ sym (append_assoc us (put_lines qs) (l ∷ (own ++ behind))) in
      let later : Option ℕ = place_behind peers puts (is_turn (outline_of l)) (Some (outline_of l)) (outlines (own ++ behind)) in
      ap (place_behind peers puts turn last) (ap outlines split ∙ map-append outline_of front (l ∷ (own ++ behind)))
      ∙ place-block peers puts turn last (outlines front) (outline_of l) (outlines (own ++ behind)) (all-under front (all-append IsOfTurn us (put_lines qs) all (put-of-turn qs))) other
      ∙ ap (λ n. or_else (under_place peers turn n (outlines front)) (moved (length (outlines front)) (cond (stands (last_of last (outlines front)) (outline_of l)) (moved 1 later) (Some 0)))) (sym many)
      ∙ ap (λ o. or_else o (moved (length (outlines front)) (cond (stands (last_of last (outlines front)) (outline_of l)) (moved 1 later) (Some 0)))) (is_own qs there)
      ∙ ap (λ b. moved (length (outlines front)) (cond b (moved 1 later) (Some 0))) stand
      ∙ ap (λ o. moved (length (outlines front)) (moved 1 o)) rest

  -- where no put line stands before it
  bare : (turn : Bool) (last : Option Outline) (us : List Line) (l : Line) (own behind : List Line) → AllByRecursion IsOfTurn us → IsOwn turn us → 0 ≡ puts_of_line puts (outline_of l) → is_under (outline_of l) ≡ false
      → stands (last_of last (outlines us)) (outline_of l) ≡ true → place_behind peers puts (is_turn (outline_of l)) (Some (outline_of l)) (outlines (own ++ behind)) ≡ None
      → place_behind peers puts turn last (outlines (us ++ ((l ∷ own) ++ behind))) ≡ None
  bare turn last us l own behind all is_own none other stand rest =
      step turn last us [] l own behind all is_own tt none other (ap (λ ls. stands (last_of last (outlines ls)) (outline_of l)) (append-nil us) ∙ stand) rest

  parts-behind : (ps : List Part) (F : List Line) (turn : Bool) (last : Option Outline) (us : List Line) → AllByRecursion IsOfTurn us → IsOwn turn us → last_of last (outlines us) ≡ option_map outline_of (last_line F) → StandBehind F ps → AllByRecursion PartFits ps
      → place_behind peers puts turn last (outlines (us ++ flat_map part_lines ps)) ≡ None
  parts-behind [] F turn last us all is_own is stand fit =
      ap (λ ls. place_behind peers puts turn last (outlines ls)) (append-nil us)
      ∙ place-last peers puts turn last (outlines us) (all-under us all)
      ∙ ap (λ ls. under_place peers turn 0 (outlines ls)) (sym (append-nil us))
      ∙ is_own [] tt
  parts-behind (idles n ∷ ps) F turn last us all is_own is stand fit =
      let apart : joins_idle (last_of last (outlines us)) ≡ false = ap joins_idle is ∙ joins-not (last_line F) stand.0.1 in
      bare turn last us (idle_line n) [] (flat_map part_lines ps) all is_own refl refl
      (and_from (is_count n) (not (joins_idle (last_of last (outlines us)))) (count-true n stand.0.0) (ap not apart))
      (parts-behind ps (F ++ idle_line n ∷ []) false (Some (outline.Idle n)) [] tt own-none (last-behind F (idle_line n) []) stand.1 fit.1)
  parts-behind (spins n word ∷ ps) F turn last us all is_own is stand fit =
      let now : Option Outline = last_of last (outlines us) in
      let apart : joins_idle now ≡ false = ap joins_idle is ∙ joins-not (last_line F) stand.0.1 in
      let other : joins_spin word now ≡ false = ap (joins_spin word) is ∙ spins-not word (last_line F) stand.0.2 in
      bare turn last us (spin_line n word) [] (flat_map part_lines ps) all is_own refl refl
      (and_from (is_count n) (not (joins_idle now) && not (joins_spin word now)) (count-true n stand.0.0) (and_from (not (joins_idle now)) (not (joins_spin word now)) (ap not apart) (ap not other)))
      (parts-behind ps (F ++ spin_line n word ∷ []) false (Some (outline.Spin n word)) [] tt own-none (last-behind F (spin_line n word) []) stand.1 fit.1)
  parts-behind (tries word ∷ ps) F turn last us all is_own is stand fit =
      let apart : is_one_idle (last_of last (outlines us)) ≡ false = ap is_one_idle is ∙ one-not (last_line F) stand.0 in
      bare turn last us (again_line word) [] (flat_map part_lines ps) all is_own refl refl (ap not apart)
      (parts-behind ps (F ++ again_line word ∷ []) false (Some (outline.Again word)) [] tt own-none (last-behind F (again_line word) []) stand.1 fit.1)
  parts-behind (turn_of vs ∷ ps) F turn last us all is_own is stand fit =
      bare turn last us turn_line (flat_map visit_lines vs) (flat_map part_lines ps) all is_own refl refl refl
      (parts-behind ps (F ++ turn_line ∷ flat_map visit_lines vs) true (Some outline.Turn) (flat_map visit_lines vs) (visits_all vs) (own-turn vs fit.0 stand.0) (last-behind F turn_line (flat_map visit_lines vs)) stand.1 fit.1)
  parts-behind (wait_of k ∷ ps) F turn last us all is_own is stand fit =
      bare turn last us (wait_line k) [] (flat_map part_lines ps) all is_own refl refl refl
      (parts-behind ps (F ++ wait_line k ∷ []) false (Some outline.Wait) [] tt own-none (last-behind F (wait_line k) []) stand.1 fit.1)
  parts-behind (call_of qs k a ∷ ps) F turn last us all is_own is stand fit =
      let o : Outline = outline_of (call_line k a) in
      let ends : Some o ≡ option_map outline_of (last_line (F ++ (put_lines qs ++ call_line k a ∷ []))) = last-behind (F ++ put_lines qs) (call_line k a) [] ∙ ap (λ ls. option_map outline_of (last_line ls)) (append_assoc F (put_lines qs) (call_line k a ∷ [])) in
      step turn last us qs (call_line k a) [] (flat_map part_lines ps) all is_own fit.0.1 (fit.0.0 ∙ puts-are lines k a) refl refl
      (parts-behind ps (F ++ (put_lines qs ++ call_line k a ∷ [])) false (Some o) [] tt own-none ends stand.1 fit.1)

  pub parts-none : (ps : List Part) → StandBehind [] ps → AllByRecursion PartFits ps → place_behind peers puts false None (outlines (flat_map part_lines ps)) ≡ None
  parts-none ps stand fit = parts-behind ps [] false None [] tt own-none refl stand fit
