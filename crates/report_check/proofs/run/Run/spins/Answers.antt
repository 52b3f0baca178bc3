use Rattle.std.proofs.Common.{◌≡◌, ℕ, ◌-◌, ◌^◌, ◌<◌, [], ◌∷◌, length, sym, ap, subst, ◌∙◌}
use Rattle.board_model.specs.Journal.{again}
use Rattle.board_model.specs.Run.{after_all}
use Rattle.board_model.specs.Unjoined.{idle_turn, times}
use Rattle.report_check.specs.NamedStates.{GoesOn, deeds_on}
use Rattle.report_check.specs.declared.named_state.NamedState.{NamedState}
use Rattle.report_check.proofs.IdleDeeds.{spins-go}
use Rattle.std.proofs.Common.{map}
use Rattle.std.specs.List.{AllByRecursion}
use Rattle.board_model.specs.declared.scenario.CallLine.{CallLine}
use Rattle.report_check.specs.Runs.{FitsLine, IsAt, script_of}
use Rattle.report_check.specs.declared.run.Run.{Run}
use Rattle.report_check.proofs.IdleTurns.{idle-kept}
use Rattle.report_check.proofs.RunSteps.{none-seen, peers-seen, idle-at, idle-script, idle-stays, last-after, spins-after, spun-place}
use Rattle.report_check.proofs.run.Run.spins.Goals as goal

pub is_idle-requires : goal.is_idle-requires
is_idle-requires g c = record { peers = c.requires.1.1.0; known = peers-seen c.args.peers.now c.args.self.now g.r c.requires.0 c.requires.1.1.1.0 }

pub place-requires : goal.place-requires
place-requires g c =
    let old = c.args.self.now in
    let peers = c.args.peers.now in
    let idle = c.is_idle.new.self in
    let none = none-seen peers old g.r c.requires.0 (sym c.in_ok-is_idle.ensures.idle ∙ c.if-not-branch.false) in
    let kept = idle-kept g.r.state peers none in
    let once = c.in_ok-is_idle.ensures.deeds c.if-not-branch.false in
    let at = idle-at peers old idle g.r c.in_ok-is_idle.ensures.run c.requires.0 kept once in
    let script = ap (λ (x : Run). length x.script.now) c.note_turns.ensures ∙ ap (λ (x : Run). length x.script.now) c.in_ok-is_idle.ensures.run in
    let same_lines = ap (λ (x : Run). x.script) c.note_turns.ensures ∙ ap (λ (x : Run). x.script) c.in_ok-is_idle.ensures.run in
    let lines = subst (λ s. AllByRecursion (λ (l : CallLine). FitsLine l.call) (map (λ l. l.now) s.now)) (sym same_lines) c.requires.1.1.1.1.1.1 in
    let last = last-after (c.args.count - 1) idle c.note_turns.new.self c.capped-self.result g.r at c.note_turns.ensures c.capped-self.ensures in
    (last, (subst (λ (n : ℕ). n < 2 ^ 32) (sym script) c.requires.1.0, (c.requires.1.1.1.1.1.0, lines)))

pub returns-clause-place : goal.returns-clause-place
returns-clause-place g c =
    let none = none-seen c.args.peers.now c.args.self.now g.r c.requires.0 (sym c.in_ok-is_idle.ensures.idle ∙ c.if-not-branch.false) in
    let kept = idle-kept g.r.state c.args.peers.now none in
    c.in_ok-place.ensures ∙ spun-place c.args.peers.now c.args.count c.args.self.now c.is_idle.new.self c.note_turns.new.self g.r c.args.lines.now.texts (ap script_of c.in_ok-is_idle.ensures.run) c.note_turns.ensures kept none

pub returns-clause-run : goal.returns-clause-run
returns-clause-run g c word is =
    let old = c.args.self.now in
    let peers = c.args.peers.now in
    let idle = c.is_idle.new.self in
    let none = none-seen peers old g.r c.requires.0 (sym c.in_ok-is_idle.ensures.idle ∙ c.if-not-branch.false) in
    let kept = idle-kept g.r.state peers none in
    let once = c.in_ok-is_idle.ensures.deeds c.if-not-branch.false in
    let at = idle-at peers old idle g.r c.in_ok-is_idle.ensures.run c.requires.0 kept once in
    let script = idle-script peers old idle g.r c.in_ok-is_idle.ensures.run c.requires.0 kept once in
    let es = times c.args.count (idle_turn peers ∷ again word ∷ []) in
    let one = c.note_turns.new.self in
    let more = c.note_turns-2.new.self in
    let new = c.note_tries.new.self in
    let state : new.state ≡ idle.state = ap (λ (x : Run). x.state) c.note_tries.ensures ∙ (ap (λ (x : Run). x.state) c.note_turns-2.ensures ∙ ap (λ (x : Run). x.state) c.note_turns.ensures) in
    record {
      at = subst (λ ls. IsAt new (after_all ls g.r es)) script (spins-after peers word c.args.count idle one more new c.capped-self.result g.r c.requires.1.1.1.1.0 kept at c.note_turns.ensures c.capped-self.ensures c.note_turns-2.ensures c.note_tries.ensures);
      deeds = subst (λ (z : NamedState). GoesOn old.state z (deeds_on (script_of old) g.r es)) (sym state) (spins-go peers old.state idle.state (idle-stays peers idle g.r at kept) (script_of old) once word c.args.count g.r c.requires.1.1.1.1.0);
    }
