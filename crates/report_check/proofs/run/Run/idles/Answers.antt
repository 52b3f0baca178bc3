use Rattle.std.proofs.Common.{[], ◌∷◌, sym, subst, ◌∙◌}
use Rattle.board_model.specs.Run.{after_all}
use Rattle.board_model.specs.Unjoined.{idle_turn, times}
use Rattle.report_check.specs.NamedStates.{GoesOn, deeds_on}
use Rattle.report_check.specs.Runs.{IsAt, script_of}
use Rattle.report_check.specs.declared.run.Run.{Run}
use Rattle.report_check.proofs.IdleDeeds.{idles-go}
use Rattle.report_check.proofs.IdleTurns.{idle-kept}
use Rattle.report_check.proofs.RunSteps.{none-seen, peers-seen, idle-at, idle-script, idle-stays, idles-after}
use Rattle.report_check.proofs.run.Run.idles.Goals as goal

pub is_idle-requires : goal.is_idle-requires
is_idle-requires g c = record { peers = c.requires.1.0; known = peers-seen c.args.peers.now c.args.self.now g.r c.requires.0 c.requires.1.1.0 }

pub returns-clause-run : goal.returns-clause-run
returns-clause-run g c is =
    let old = c.args.self.now in
    let peers = c.args.peers.now in
    let idle = c.is_idle.new.self in
    let none = none-seen peers old g.r c.requires.0 (sym c.in_ok-is_idle.ensures.idle ∙ c.if-not-branch.false) in
    let kept = idle-kept g.r.state peers none in
    let once = c.in_ok-is_idle.ensures.deeds c.if-not-branch.false in
    let at = idle-at peers old idle g.r c.in_ok-is_idle.ensures.run c.requires.0 kept once in
    let script = idle-script peers old idle g.r c.in_ok-is_idle.ensures.run c.requires.0 kept once in
    record {
      at = subst (λ ls. IsAt c.note_turns.new.self (after_all ls g.r (times c.args.count (idle_turn peers ∷ [])))) script (idles-after peers c.args.count idle c.note_turns.new.self g.r c.requires.1.1.1 kept at c.note_turns.ensures);
      deeds = subst (λ (x : Run). GoesOn old.state x.state (deeds_on (script_of old) g.r (times c.args.count (idle_turn peers ∷ [])))) (sym c.note_turns.ensures) (idles-go peers old.state idle.state (idle-stays peers idle g.r at kept) (script_of old) once c.args.count g.r c.requires.1.1.1);
    }
