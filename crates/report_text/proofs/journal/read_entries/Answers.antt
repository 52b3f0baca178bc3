use Rattle.std.proofs.Common.{◌≡◌, ◌≤◌, ◌<◌, subst, ◌∷◌, ℕ, ◌+◌, ◌++◌, true, false, cond, ap, sym, ◌∙◌, Option, Some, None, Ok, List, [], length, arith, append-nil}
use Rattle.std.specs.Prelude.{option_map, IfSome}
use Rattle.report_text.specs.declared.outline.Outline.{Outline}
use Rattle.report_text.specs.TextLines.{moved, or_else, lines_in}
use Rattle.report_text.specs.TurnOrder.{under_place}
use Rattle.report_text.specs.JournalOrder.{is_turn, puts_of_head, stands, place_behind}
use Rattle.report_text.specs.ScenarioPart.{rest}
use Rattle.report_text.specs.TextPass.{entries_by}
use Rattle.report_text.specs.Texts.{last_of, lines_told, lines_behind, longest_line, told_front, rest_of}
use Rattle.report_text.proofs.JournalSteps.{moved-moved, place_ahead, place-found, told-count}
use Rattle.report_text.proofs.TextCuts.{behind-all}
use Rattle.report_text.proofs.journal.read_entries.Goals as goal

pub returns-in-Some-clause-value : goal.returns-in-Some-clause-value
returns-in-Some-clause-value c =
    let us = c.collect_under.new.lines.items in
    let told : lines_told c.loop-lines.text.now ≡ us ++ told_front (option_map (λ x. (x.0, x.1.now)) c.in_ok-behind.behind.head) = c.in_ok-behind.ensures.lines ∙ ap (λ (xs : List Outline). us ++ xs) c.in_ok-behind.ensures.head in
    let found = place-found c.args.peers.now c.args.puts.now c.loop-lines.turn c.loop-lines.last (lines_told c.loop-lines.text.now) us c.in_ok-behind.behind.head told c.in_ok-behind.ensures.under c.in_ok-behind.ensures.other in
    let checked : under_place c.args.peers.now c.loop-lines.turn (puts_of_head c.args.puts.now (option_map (λ x. x.0) c.in_ok-behind.behind.head)) us ≡ c.under_place.result =
    ap (λ n. under_place c.args.peers.now c.loop-lines.turn n us) (sym c.puts_of_head-claimed.ensures)
    ∙ ap (under_place c.args.peers.now c.loop-lines.turn c.puts_of_head-claimed.result) (sym c.deref.ensures.value)
    ∙ sym c.under_place.ensures.value
    in
    let ahead = place_ahead c.args.peers.now c.args.puts.now (last_of c.loop-lines.last us) in
    let here : place_behind c.args.peers.now c.args.puts.now c.loop-lines.turn c.loop-lines.last (lines_told c.loop-lines.text.now) ≡ Some c.in-Some.place =
    found ∙ ap (λ (o : Option ℕ). or_else o (moved (length us) (ahead c.in_ok-behind.behind.head))) (checked ∙ c.in-Some.is)
    in
    ap (entries_by (rest_of c.args.unread)) (ap (moved c.loop-lines.number) (sym here) ∙ c.loop-lines.invariant.place)

pub returns-in_default-head-clause-value : goal.returns-in_default-head-clause-value
returns-in_default-head-clause-value c =
    let us = c.collect_under.new.lines.items in
    let told : lines_told c.loop-lines.text.now ≡ us ++ told_front (option_map (λ x. (x.0, x.1.now)) c.in_ok-behind.behind.head) = c.in_ok-behind.ensures.lines ∙ ap (λ (xs : List Outline). us ++ xs) c.in_ok-behind.ensures.head in
    let found = place-found c.args.peers.now c.args.puts.now c.loop-lines.turn c.loop-lines.last (lines_told c.loop-lines.text.now) us c.in_ok-behind.behind.head told c.in_ok-behind.ensures.under c.in_ok-behind.ensures.other in
    let checked : under_place c.args.peers.now c.loop-lines.turn (puts_of_head c.args.puts.now (option_map (λ x. x.0) c.in_ok-behind.behind.head)) us ≡ c.under_place.result =
    ap (λ n. under_place c.args.peers.now c.loop-lines.turn n us) (sym c.puts_of_head-claimed.ensures)
    ∙ ap (under_place c.args.peers.now c.loop-lines.turn c.puts_of_head-claimed.result) (sym c.deref.ensures.value)
    ∙ sym c.under_place.ensures.value
    in
    let ahead = place_ahead c.args.peers.now c.args.puts.now (last_of c.loop-lines.last us) in
    let size : c.len.result ≡ length us = c.len.ensures ∙ sym c.deref.ensures.len ∙ ap (λ (xs : List Outline). length xs) c.deref.ensures.value in
    let here : place_behind c.args.peers.now c.args.puts.now c.loop-lines.turn c.loop-lines.last (lines_told c.loop-lines.text.now) ≡ None =
    found
    ∙ ap (λ (o : Option ℕ). or_else o (moved (length us) (ahead c.in_ok-behind.behind.head))) (checked ∙ c.in_default.is)
    ∙ ap (λ head. moved (length us) (ahead head)) c.in_default-head.is
    in
    let none : lines_told c.in_ok-behind.behind.text.now ≡ [] = c.in_ok-behind.ensures.head ∙ ap (λ h. told_front (option_map (λ x. (x.0, x.1.now)) h)) c.in_default-head.is in
    let all : length (lines_told c.loop-lines.text.now) ≡ length us = ap (λ (xs : List Outline). length xs) c.in_ok-behind.ensures.lines ∙ ap (λ (xs : List Outline). length (us ++ xs)) none ∙ ap (λ (xs : List Outline). length xs) (append-nil us) in
    let number : c.loop-lines.number + c.len.result ≡ c.args.unread.number + length (lines_told c.args.unread.text.now) = omega (arith, c.loop-lines.invariant.count, all, size) in
    let lines : lines_in c.in_ok-behind.behind.text.now ≡ lines_behind c.args.unread.text.now = sym (behind-all (lines_in c.in_ok-behind.behind.text.now) none) ∙ c.in_ok-behind.ensures.behind ∙ c.loop-lines.invariant.behind in
    ap (λ n. Ok (rest n (lines_in c.in_ok-behind.behind.text.now))) number
    ∙ ap (λ ls. Ok (rest (c.args.unread.number + length (lines_told c.args.unread.text.now)) ls)) lines
    ∙ ap (entries_by (rest_of c.args.unread)) (ap (moved c.loop-lines.number) (sym here) ∙ c.loop-lines.invariant.place)

pub returns-then-not-stands-clause-value : goal.returns-then-not-stands-clause-value
returns-then-not-stands-clause-value c =
    let us = c.collect_under.new.lines.items in
    let told : lines_told c.loop-lines.text.now ≡ us ++ told_front (option_map (λ x. (x.0, x.1.now)) c.in_ok-behind.behind.head) = c.in_ok-behind.ensures.lines ∙ ap (λ (xs : List Outline). us ++ xs) c.in_ok-behind.ensures.head in
    let found = place-found c.args.peers.now c.args.puts.now c.loop-lines.turn c.loop-lines.last (lines_told c.loop-lines.text.now) us c.in_ok-behind.behind.head told c.in_ok-behind.ensures.under c.in_ok-behind.ensures.other in
    let checked : under_place c.args.peers.now c.loop-lines.turn (puts_of_head c.args.puts.now (option_map (λ x. x.0) c.in_ok-behind.behind.head)) us ≡ c.under_place.result =
    ap (λ n. under_place c.args.peers.now c.loop-lines.turn n us) (sym c.puts_of_head-claimed.ensures)
    ∙ ap (under_place c.args.peers.now c.loop-lines.turn c.puts_of_head-claimed.result) (sym c.deref.ensures.value)
    ∙ sym c.under_place.ensures.value
    in
    let ahead = place_ahead c.args.peers.now c.args.puts.now (last_of c.loop-lines.last us) in
    let size : c.len.result ≡ length us = c.len.ensures ∙ sym c.deref.ensures.len ∙ ap (λ (xs : List Outline). length xs) c.deref.ensures.value in
    let last : c.last_line.result ≡ last_of c.loop-lines.last us = c.last_line.ensures ∙ ap (last_of c.loop-lines.last) c.deref-in-loop-lines.ensures.value in
    let wrong : stands (last_of c.loop-lines.last us) c.in-Some-head.line ≡ false = ap (λ k. stands k c.in-Some-head.line) (sym last) ∙ sym c.stands.ensures ∙ c.if-not-stands.true in
    let here : place_behind c.args.peers.now c.args.puts.now c.loop-lines.turn c.loop-lines.last (lines_told c.loop-lines.text.now) ≡ Some (length us + 0) =
    found
    ∙ ap (λ (o : Option ℕ). or_else o (moved (length us) (ahead c.in_ok-behind.behind.head))) (checked ∙ c.in_default.is)
    ∙ ap (λ head. moved (length us) (ahead head)) c.in-Some-head.is
    ∙ ap (λ t. moved (length us) (cond t (moved 1 (place_behind c.args.peers.now c.args.puts.now (is_turn c.in-Some-head.line) (Some c.in-Some-head.line) (lines_told c.in-Some-head.after.now))) (Some 0))) wrong
    in
    let number : c.loop-lines.number + c.len.result ≡ c.loop-lines.number + (length us + 0) = omega (arith, size) in
    ap (entries_by (rest_of c.args.unread)) (ap Some number ∙ ap (moved c.loop-lines.number) (sym here) ∙ c.loop-lines.invariant.place)

pub loop-lines-preserved : goal.loop-lines-preserved
loop-lines-preserved c =
    let us = c.collect_under.new.lines.items in
    let told : lines_told c.loop-lines.text.now ≡ us ++ told_front (option_map (λ x. (x.0, x.1.now)) c.in_ok-behind.behind.head) = c.in_ok-behind.ensures.lines ∙ ap (λ (xs : List Outline). us ++ xs) c.in_ok-behind.ensures.head in
    let found = place-found c.args.peers.now c.args.puts.now c.loop-lines.turn c.loop-lines.last (lines_told c.loop-lines.text.now) us c.in_ok-behind.behind.head told c.in_ok-behind.ensures.under c.in_ok-behind.ensures.other in
    let checked : under_place c.args.peers.now c.loop-lines.turn (puts_of_head c.args.puts.now (option_map (λ x. x.0) c.in_ok-behind.behind.head)) us ≡ c.under_place.result =
    ap (λ n. under_place c.args.peers.now c.loop-lines.turn n us) (sym c.puts_of_head-claimed.ensures)
    ∙ ap (under_place c.args.peers.now c.loop-lines.turn c.puts_of_head-claimed.result) (sym c.deref.ensures.value)
    ∙ sym c.under_place.ensures.value
    in
    let ahead = place_ahead c.args.peers.now c.args.puts.now (last_of c.loop-lines.last us) in
    let size : c.len.result ≡ length us = c.len.ensures ∙ sym c.deref.ensures.len ∙ ap (λ (xs : List Outline). length xs) c.deref.ensures.value in
    let last : c.last_line.result ≡ last_of c.loop-lines.last us = c.last_line.ensures ∙ ap (last_of c.loop-lines.last) c.deref-in-loop-lines.ensures.value in
    let right : stands (last_of c.loop-lines.last us) c.in-Some-head.line ≡ true = ap (λ k. stands k c.in-Some-head.line) (sym last) ∙ sym c.stands.ensures ∙ c.if-not-stands.false in
    let behind = place_behind c.args.peers.now c.args.puts.now (is_turn c.in-Some-head.line) (Some c.in-Some-head.line) (lines_told c.in-Some-head.after.now) in
    let here : place_behind c.args.peers.now c.args.puts.now c.loop-lines.turn c.loop-lines.last (lines_told c.loop-lines.text.now) ≡ moved (length us) (moved 1 behind) =
    found
    ∙ ap (λ (o : Option ℕ). or_else o (moved (length us) (ahead c.in_ok-behind.behind.head))) (checked ∙ c.in_default.is)
    ∙ ap (λ head. moved (length us) (ahead head)) c.in-Some-head.is
    ∙ ap (λ t. moved (length us) (cond t (moved 1 behind) (Some 0))) right
    in
    let whole : moved c.loop-lines.number (moved (length us) (moved 1 behind)) ≡ moved (c.loop-lines.number + c.len.result + 1) behind =
    ap (moved c.loop-lines.number) (moved-moved (length us) 1 behind)
    ∙ moved-moved c.loop-lines.number (length us + 1) behind
    ∙ ap (λ n. moved n behind) (omega (arith, size))
    in
    let line = c.in-Some-head.line in
    let after = c.in-Some-head.after.now in
    let front : length (lines_told c.loop-lines.text.now) ≡ length us + length (line ∷ lines_told after) =
    told-count (lines_told c.loop-lines.text.now) us c.in_ok-behind.behind.head told ∙ ap (λ h. length us + length (told_front (option_map (λ x. (x.0, x.1.now)) h))) c.in-Some-head.is
    in
    let next : lines_behind after ≡ lines_behind c.loop-lines.text.now = subst (λ h. IfSome h (λ x. lines_behind x.1.now ≡ lines_behind c.loop-lines.text.now)) c.in-Some-head.is c.in_ok-behind.ensures.next in
    let fits : longest_line after ≤ longest_line c.loop-lines.text.now = subst (λ h. IfSome h (λ x. longest_line x.1.now ≤ longest_line c.loop-lines.text.now)) c.in-Some-head.is c.in_ok-behind.ensures.fits in
    let later : length after < length c.in_ok-behind.behind.text.now = subst (λ h. IfSome h (λ x. length x.1.now < length c.in_ok-behind.behind.text.now)) c.in-Some-head.is c.in_ok-behind.ensures.later in
    record {
      place = ap (λ turn. moved (c.loop-lines.number + c.len.result + 1) (place_behind c.args.peers.now c.args.puts.now turn (Some line) (lines_told after))) c.is_turn-turn.ensures
          ∙ sym whole ∙ ap (moved c.loop-lines.number) (sym here) ∙ c.loop-lines.invariant.place;
      count = omega (arith, c.loop-lines.invariant.count, front, size);
      behind = next ∙ c.loop-lines.invariant.behind;
      longest = omega (arith, fits, c.loop-lines.invariant.longest);
      few = omega (arith, later, size, c.loop-lines.invariant.few, c.in_ok-behind.ensures.shorter);
      shorter = omega (arith, later, c.loop-lines.invariant.shorter, c.in_ok-behind.ensures.shorter);
    }

pub returns-in_default-head-clause-behind : goal.returns-in_default-head-clause-behind
returns-in_default-head-clause-behind c =
    let size : c.len.result ≡ length c.collect_under.new.lines.items = c.len.ensures ∙ sym c.deref.ensures.len ∙ ap (λ (xs : List Outline). length xs) c.deref.ensures.value in
    record {
      few = omega (arith, size, c.loop-lines.invariant.few, c.in_ok-behind.ensures.shorter);
      shorter = omega (arith, c.loop-lines.invariant.shorter, c.in_ok-behind.ensures.shorter);
      fits = omega (arith, c.loop-lines.invariant.longest, c.in_ok-behind.ensures.short);
    }
