use Rattle.std.proofs.Common.{◌≡◌, ◌==◌, ℕ, [], Some, filter, ap, sym, ◌∙◌, arith}
use Rattle.std.specs.Prelude.{slice_get, slice_index, slice_index_or}
use Rattle.std.proofs.lemmas.List.{length-map}
use Rattle.std.proofs.lemmas.Option.{slice_get-get_or}
use Rattle.report_text.specs.JournalLanes.{frame_at, frames_at}
use Rattle.report_text.proofs.JournalLaneLemmas.{frames_in, frames-found, short-found}
use Rattle.report_text.proofs.link_pass.left_from.Goals as goal

pub returns-in-Some-clause-left : goal.returns-in-Some-clause-left
returns-in-Some-clause-left c = λ s js told given.
    record {
      frames = ap (frames_at c.args.to c.in-Some.found.now.journal.text.now) c.as_slice-puts.ensures.value ∙ ap (frames_in c.args.to) c.in-Some.ensures ∙ sym (frames-found js c.args.journals.now c.args.from c.args.to told c.requires.lanes);
      few = omega arith;
      count = c.count_puts.ensures ∙ sym (length-map (filter (λ l. l.peer == c.args.to) c.as_slice-puts.result.now) (λ l. frame_at c.in-Some.found.now.journal.text.now l.place));
      given =
          let row = slice_index_or c.args.given.now c.args.from [] in
          let at : slice_get c.args.given.now c.args.from ≡ Some row = slice_get-get_or c.args.given.now c.args.from [] (omega (arith, c.told-given, c.requires.from)) in
          let same : slice_index_or row c.from.result 0 ≡ slice_index row c.args.to = ap (λ (n : ℕ). slice_index row n) c.from.ensures in
          omega (arith, same, given c.args.from c.args.to row at c.requires.to);
    }

pub returns-in-Some-clause-room : goal.returns-in-Some-clause-room
returns-in-Some-clause-room c = λ room short. short-found room c.args.journals.now c.args.from c.in-Some.found.now short (sym c.in-Some.ensures)

pub returns-in-None-clause-left : goal.returns-in-None-clause-left
returns-in-None-clause-left c = λ s js told given.
    record {
      frames = ap (frames_in c.args.to) c.in-None.ensures ∙ sym (frames-found js c.args.journals.now c.args.from c.args.to told c.requires.lanes);
      few = omega arith;
      count = omega arith;
      given =
          let row = slice_index_or c.args.given.now c.args.from [] in
          let at : slice_get c.args.given.now c.args.from ≡ Some row = slice_get-get_or c.args.given.now c.args.from [] (omega (arith, c.told-given, c.requires.from)) in
          let same : slice_index_or row c.from.result 0 ≡ slice_index row c.args.to = ap (λ (n : ℕ). slice_index row n) c.from.ensures in
          omega (arith, same, given c.args.from c.args.to row at c.requires.to);
    }
