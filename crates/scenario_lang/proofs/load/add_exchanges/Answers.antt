use Rattle.std.proofs.Common.{◌≡◌, ◌+◌, ◌++◌, ap, sym, ◌∙◌, append_assoc, arith}
use Rattle.std.proofs.lemmas.List.{append-nil}
use Rattle.board_model.specs.LoadBoard.{exchange, exchanges}
use Rattle.scenario_lang.proofs.LoadLemmas.{exchanges-more}
use Rattle.scenario_lang.proofs.load.add_exchanges.Goals as goal

pub loop-before-init : goal.loop-before-init
loop-before-init c = sym (append-nil c.args.lines.now.items)

pub loop-before-preserved : goal.loop-before-preserved
loop-before-preserved c =
    let first = c.args.lines.now.items in
    let before = c.loop-before.before in
    c.in_ok-add_exchange.ensures
    ∙ ap (λ ls. ls ++ exchange (before + 1)) c.loop-before.invariant
    ∙ append_assoc first (exchanges before) (exchange (before + 1))
    ∙ ap (λ es. first ++ es) (sym (exchanges-more before))

pub returns : goal.returns
returns c =
    let all : c.loop-before.before ≡ c.args.packets = omega (arith, c.loop-before-test.false, c.loop-before.auto.before-end) in
    c.loop-before.invariant ∙ ap (λ k. c.args.lines.now.items ++ exchanges k) all
