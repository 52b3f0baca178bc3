use Rattle.std.proofs.Common.{◌≡◌, ℕ, ◌+◌, ◌-◌, ◌<◌, ◌≤◌, List, [], ◌∷◌, ◌++◌, length, take, get_or, replicate, map, Option, Some, sym, ap, ◌∙◌, subst, arith, append_assoc, append-nil, length-append}
use Rattle.std.specs.Prelude.{option_map, option_to_list}
use Rattle.board_model.specs.Journal.{Line}
use Rattle.mc_journal.specs.Entry.{line_of_entry}
use Rattle.mc_journal.specs.Spelled.{spelled_line}
use Rattle.report_text.specs.JournalRead.{lines_of_texts}
use Rattle.report_text.specs.LaneLines.{LaneLine, lane_of, lanes_of}
use Rattle.report_text.specs.SpelledTexts.{IsFirstLine}
use Rattle.report_text.specs.TextLines.{lines_in}
use Rattle.report_text.specs.Texts.{lines_told, longest_line}
use Rattle.report_text.proofs.SpelledLines.{first-told, none-told}
use Rattle.report_text.proofs.TextCuts.{longest-cut}
use Rattle.report_check.specs.ToldTurns.{HasShortLines, IsToldOn, frame_on, frame_told}
use Rattle.report_check.specs.declared.told_turn.ToldPeer.{ToldPeer}
use Rattle.report_check.proofs.ToldLines.{all-same, all-of}
use Rattle.report_check.proofs.FirstLines.{first-front}
use Rattle.report_check.proofs.ToldTexts.{lanes-first, told-visit}
use Rattle.report_check.proofs.told_turn.read_told.Goals as goal

pub loop-done-init : goal.loop-done-init
loop-done-init c =
    let whole : c.args.lines ≡ c.args.lines - 0 = omega arith in
    record {
      told = ([], ap (λ k. lanes_of (take k (lines_in c.args.text.text.now))) whole, λ n other below. all-same (IsToldOn n []) c.told_nothing-peers.result other 8 n below (c.told_nothing-peers.ensures.told n));
      back = λ n other below.
          let none : (get_or (replicate 8 c.told_nothing-peers.result) n other).back ≡ 0 = all-same (λ (t : ToldPeer). t.back ≡ 0) c.told_nothing-peers.result other 8 n below c.told_nothing-peers.ensures.back in
          omega (arith, none, c.requires.few);
      see = λ n other below.
          let none : (get_or (replicate 8 c.told_nothing-peers.result) n other).see ≡ 0 = all-same (λ (t : ToldPeer). t.see ≡ 0) c.told_nothing-peers.result other 8 n below c.told_nothing-peers.ensures.see in
          omega (arith, none, c.requires.few);
      fits = omega arith;
      short = λ size wide. all-of (HasShortLines size) c.told_nothing-peers.result 8 (c.told_nothing-peers.ensures.short size);
      enough = omega (arith, c.requires.enough);
      spelled = c.requires.spelled;
    }

pub returns-in_default-clause-told : goal.returns-in_default-clause-told
returns-in_default-clause-told c =
    let none : length (lines_told c.loop-done.rest.text.now) ≡ 0 = ap (λ ls. length ls) (none-told c.loop-done.rest.text.now c.in_default.ensures.found) in
    absurd (omega (arith, none, c.loop-done.invariant.enough))

pub returns-clause-told : goal.returns-clause-told
returns-clause-told c = λ n other below.
    let told = c.loop-done.invariant.told in
    let ls : List Line = lines_of_texts (take c.args.lines (lines_in c.args.text.text.now)) in
    let none : c.args.lines - c.loop-done._done ≡ 0 = omega arith in
    let all : map lane_of ls ≡ told.0 = told.1 ∙ (ap (λ k. told.0 ++ lanes_of (take k (lines_in c.loop-done.rest.text.now))) none ∙ append-nil told.0) in
    told-visit n ls (get_or c.loop-done.peers n other) (subst (λ ks. IsToldOn n ks (get_or c.loop-done.peers n other)) (sym all) (told.2 n other below))

pub loop-done-preserved : goal.loop-done-preserved
loop-done-preserved c =
    let told = c.loop-done.invariant.told in
    let rest = c.loop-done.rest.text.now in
    let after = c.in-Some.after.text.now in
    let line : Line = spelled_line (line_of_entry c.in-Some.entry) in
    let first : IsFirstLine rest c.in-Some.entry after = c.in-Some.ensures.found in
    let some : 0 < c.args.lines - c.loop-done._done = omega arith in
    let less : c.args.lines - c.loop-done._done - 1 ≡ c.args.lines - (c.loop-done._done + 1) = omega arith in
    let more : lanes_of (take (c.args.lines - c.loop-done._done) (lines_in rest)) ≡ lane_of line ∷ lanes_of (take (c.args.lines - c.loop-done._done - 1) (lines_in after)) =
    lanes-first (c.args.lines - c.loop-done._done) rest (first.front, after) first.cut some
    ∙ ap (λ (o : Option Line). option_to_list (option_map lane_of o) ++ lanes_of (take (c.args.lines - c.loop-done._done - 1) (lines_in after))) first.line
    in
    let front : c.line_before.result.now ≡ first.front = c.line_before.ensures ∙ first-front rest c.in-Some.entry after first in
    let frame : frame_told c.line_before.result.now ≡ frame_on (Some (lane_of line)) = ap frame_told front ∙ ap (λ (o : Option Line). frame_on (option_map lane_of o)) first.line in
    let longest = longest-cut rest (first.front, after) first.cut in
    let size : length c.line_before.result.now ≡ length first.front = ap (λ (t : List ℕ). length t) front in
    let fits : length c.line_before.result.now ≤ longest_line c.args.text.text.now = omega (arith, longest, size, length-append first.front (10 ∷ []), c.loop-done.invariant.fits) in
    let count = ap (λ ls. length ls) (first-told rest c.in-Some.entry after first) in
    record {
      told = (
        told.0 ++ lane_of line ∷ [],
        told.1
            ∙ (ap (λ (ks : List LaneLine). told.0 ++ ks) more
            ∙ (sym (append_assoc told.0 (lane_of line ∷ []) (lanes_of (take (c.args.lines - c.loop-done._done - 1) (lines_in after))))
            ∙ ap (λ k. (told.0 ++ lane_of line ∷ []) ++ lanes_of (take k (lines_in after))) less)),
        c.note.ensures.told told.0 frame told.2,
      );
      back = λ n other below. omega (arith, c.loop-done.invariant.back n other below, (c.note.ensures.growth n other below).back, c.in-Some.ensures.shorter);
      see = λ n other below. omega (arith, c.loop-done.invariant.see n other below, (c.note.ensures.growth n other below).see, c.in-Some.ensures.shorter);
      fits = omega (arith, longest, c.loop-done.invariant.fits);
      short = λ size wide. c.note.ensures.short size (c.loop-done.invariant.short size wide) (omega (arith, fits, wide));
      enough = omega (arith, count, c.loop-done.invariant.enough);
      spelled = c.in-Some.ensures.spelled;
    }
