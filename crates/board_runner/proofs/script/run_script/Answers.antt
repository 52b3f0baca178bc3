use Rattle.std.proofs.Common.{rules, length, ◌≤◌, ◌+◌, ap, sym, subst, arith}
use Rattle.board_model.proofs.LawfulBoards.{lawful_is_linked}
use Rattle.board_runner.proofs.OwnRunLemmas.{RanFront, ran_none, ran_other, ran_own, few_own, ran_whole}
use Rattle.board_runner.proofs.SerialLemmas.{line_read, line_asks}
use Rattle.board_runner.proofs.script.run_script.Goals.{then-line-station+in_ok-run_own_line, else-line-station}
use Rattle.board_runner.proofs.script.run_script.Goals as goal

pub loop-line-init : goal.loop-line-init
loop-line-init g c = record { ran = ran_none c.args.scenario.now c.args.station c.requires.begins; room = search rules }

-- a line of the domain's own fits its counts
pub overflow_add-station : goal.overflow_add-station
overflow_add-station g c =
    let s = c.args.scenario.now in
    let i = c.loop-line.line-index in
    let is = line_read c.as_slice-lines.result.now s.calls i c.line-item.result c.loop-line-test.true c.line-item.is c.as_slice-lines.ensures in
    let few = few_own s i c.line-item.result c.args.station c.loop-line.station is (sym c.if-line-station.true) c.loop-line.invariant.ran (lawful_is_linked s c.requires.lawful) in
    omega (arith, few)

pub run_own_line-requires-clause-count : goal.run_own_line-requires-clause-count
run_own_line-requires-clause-count g c =
    let s = c.args.scenario.now in
    let i = c.loop-line.line-index in
    let is = line_read c.as_slice-lines.result.now s.calls i c.line-item.result c.loop-line-test.true c.line-item.is c.as_slice-lines.ensures in
    few_own s i c.line-item.result c.args.station c.loop-line.station is (sym c.if-line-station.true) c.loop-line.invariant.ran (lawful_is_linked s c.requires.lawful)

pub run_own_line-requires-clause-asks : goal.run_own_line-requires-clause-asks
run_own_line-requires-clause-asks g c =
    let s = c.args.scenario.now in
    let is = line_read c.as_slice-lines.result.now s.calls c.loop-line.line-index c.line-item.result c.loop-line-test.true c.line-item.is c.as_slice-lines.ensures in
    line_asks s (lawful_is_linked s c.requires.lawful) c.loop-line.line-index c.line-item.result is

pub loop-line-preserved : goal.loop-line-preserved
loop-line-preserved g c =
    let s = c.args.scenario.now in
    let i = c.loop-line.line-index in
    let line = c.line-item.result in
    let first = c.args.station in
    let now = c.loop-line.station in
    let is = line_read c.as_slice-lines.result.now s.calls i line c.loop-line-test.true c.line-item.is c.as_slice-lines.ensures in
    let so_far = c.loop-line.invariant in
    elim c.if-line-station.branch [
      | then-line-station+in_ok-run_own_line w ↦
          let done = w.in_ok-run_own_line.ensures in
          record {
            ran = subst (RanFront s (i + 1) first) (sym w.station-is) (ran_own s i line first now is (sym w.if-line-station.true) so_far.ran c.requires.lawful w.run_own_line.new.station done.run done.counts);
            room = search rules;
          }
      | else-line-station w ↦ record {
        ran = subst (RanFront s (i + 1) first) (sym w.station-is) (ran_other s i line first now is (λ e. w.if-line-station.false (sym e)) so_far.ran);
        room = search rules;
      }
    ]

pub returns : goal.returns
returns g c =
    let s = c.args.scenario.now in
    let i = c.loop-line.line-index in
    let all : length s.calls ≤ i = omega (arith, c.loop-line-test.false, ap length c.as_slice-lines.ensures) in
    ran_whole s i c.args.station c.loop-line.station all c.loop-line.invariant.ran
