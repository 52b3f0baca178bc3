use Rattle.std.proofs.Common.{Some, sym, ap, ◌∙◌}
use Rattle.std.specs.Prelude.{slice_index}
use Rattle.board_model.specs.TakenFrames.{Row}
use Rattle.report_check.proofs.NamedLemmas.{goes-take}
use Rattle.board_model.proofs.UnnamedDeeds.{row-unnamed}
use Rattle.report_check.proofs.named_state.NamedState.take.Goals as goal

pub returns-clause-word : goal.returns-clause-word
returns-clause-word c = c.in_ok-word.ensures.word ∙ ap (λ (r : Row). r.word) (sym (row-unnamed c.args.self.now.state c.args.peer (Some _) c.args.frame.now))

pub returns-clause-goes : goal.returns-clause-goes
returns-clause-goes c = goes-take c.args.self.now _ c.args.peer _ c.args.frame.now c.in_ok-word.word c.requires (ap (slice_index c.args.self.now.taken) c.from.ensures) c.in_ok-word.ensures.state c.count_one.ensures c.in_ok-word.ensures.given
